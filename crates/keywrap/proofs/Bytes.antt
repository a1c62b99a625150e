-- Lists of bytes, and the steps on them.
use Rattle.std.proofs.Common.{◌≡◌, ℕ, zero, suc, ◌+◌, ◌-◌, ◌<◌, ◌≤◌, List, [], ◌∷◌, ◌++◌, take, drop, get_or}
use Rattle.std.proofs.Common.{length, replicate, bit_xor, refl, sym, ap, ap₂, ◌∙◌, subst, arith}
use Rattle.std.proofs.Common.{length-append, length-drop}
use Rattle.std.proofs.lemmas.Nat.{xor_of_8}
use Rattle.std.proofs.lemmas.List.{take_at, drop_at, take-append-drop, length-take-le, get_or-drop}
use Rattle.std.specs.Int.Bits.{xor_assoc, xor_self, xor_zero_r}
use Rattle.std.specs.Int.{bytes_high_first, byte_at}
use Rattle.octets.specs.Bytes.{AreBytes, IsBlock, xor_bytes}
use Rattle.octets.proofs.Xors.{length-xor_bytes}
use Rattle.aes.specs.Cipher.{cipher, IsKey, IsPermutation}
use Rattle.keywrap.specs.Wrapping.{step, steps}

-- each item of the list is below 256: in the comments below, the list is small
abbrev AreSmall : List ℕ → Type 0
AreSmall xs = (i : ℕ) → get_or xs i 0 < 256

-- the empty list is small
small_none : AreSmall []
small_none i = omega arith

-- a small list with a byte in front is small
small_cons : (x : ℕ) (xs : List ℕ) → x < 256 → AreSmall xs → AreSmall (x ∷ xs)
small_cons x xs h b zero = h
small_cons x xs h b (suc i) = b i

-- two small lists, joined, are small
small_append : (xs ys : List ℕ) → AreSmall xs → AreSmall ys → AreSmall (xs ++ ys)
small_append [] ys b d = d
small_append (x ∷ xs) ys b d = small_cons x (xs ++ ys) (b 0) (small_append xs ys (λ i. b (suc i)) d)

-- the first items of a small list are small
small_take : (n : ℕ) (xs : List ℕ) → AreSmall xs → AreSmall (take n xs)
small_take zero xs b = small_none
small_take (suc n) [] b = small_none
small_take (suc n) (x ∷ xs) b = small_cons x (take n xs) (b 0) (small_take n xs (λ i. b (suc i)))

-- the items of a small list after the first n are small
small_drop : (n : ℕ) (xs : List ℕ) → AreSmall xs → AreSmall (drop n xs)
small_drop n xs b i = let h : get_or xs (n + i) 0 < 256 = b (n + i) in rw (get_or-drop n xs i 0) h

-- the XOR of two small lists is small
small_xor : (xs ys : List ℕ) → AreSmall xs → AreSmall ys → AreSmall (xor_bytes xs ys)
unfolding xor_bytes
small_xor [] ys b d = small_none
small_xor (x ∷ xs) [] b d = small_none
small_xor (x ∷ xs) (y ∷ ys) b d =
    small_cons (bit_xor x y) (xor_bytes xs ys) (xor_of_8 x y (b 0) (d 0))
    (small_xor xs ys (λ i. b (suc i)) (λ i. d (suc i)))

-- a byte of a number is below 256
small_byte_at : (k n : ℕ) → byte_at k n < 256
small_byte_at zero n = omega arith
small_byte_at (suc k) n = omega arith

-- the bytes of a number are small
small_number : (k n : ℕ) → AreSmall (bytes_high_first k n)
small_number zero n = small_none
small_number (suc k) n = small_cons (byte_at k n) (bytes_high_first k n) (small_byte_at k n)
    (small_number k n)

-- copies of one byte are small
small_replicate : (n x : ℕ) → x < 256 → AreSmall (replicate n x)
small_replicate zero x h = small_none
small_replicate (suc n) x h = small_cons x (replicate n x) h (small_replicate n x h)

-- n copies are a list of length n
length-replicate : (n x : ℕ) → length (replicate n x) ≡ n
length-replicate zero x = refl
length-replicate (suc n) x = ap suc (length-replicate n x)

-- a number written in k bytes has length k
pub length_number : (k n : ℕ) → length (bytes_high_first k n) ≡ k
length_number zero n = refl
length_number (suc k) n = ap suc (length_number k n)

-- if m is n, m bytes are n bytes
pub bytes_resized : (m n : ℕ) (xs : List ℕ) → m ≡ n → AreBytes m xs → AreBytes n xs
bytes_resized m n xs e b = subst (λ (k : ℕ). AreBytes k xs) e b

-- m bytes and n bytes, joined, are m + n bytes
pub bytes_append : (m n : ℕ) (xs ys : List ℕ) → AreBytes m xs → AreBytes n ys → AreBytes (m + n) (xs ++ ys)
bytes_append m n xs ys b d = record {
  length_is = length-append xs ys ∙ ap₂ (λ i j. i + j) b.length_is d.length_is;
  bytes = small_append xs ys b.bytes d.bytes;
}

-- the first n of m bytes are n bytes
pub bytes_take : (n m : ℕ) (xs : List ℕ) → n ≤ m → AreBytes m xs → AreBytes n (take n xs)
bytes_take n m xs l b = record {
  length_is = length-take-le n xs (omega (arith, b.length_is));
  bytes =
      small_take n xs b.bytes;
}

-- m bytes without the first n are m - n bytes
pub bytes_drop : (n m : ℕ) (xs : List ℕ) → AreBytes m xs → AreBytes (m - n) (drop n xs)
bytes_drop n m xs b = record {
  length_is = length-drop n xs ∙ ap (λ i. i - n) b.length_is;
  bytes =
      small_drop n xs b.bytes;
}

-- the XOR of n bytes and n bytes is n bytes
pub bytes_xor : (n : ℕ) (xs ys : List ℕ) → AreBytes n xs → AreBytes n ys → AreBytes n (xor_bytes xs ys)
bytes_xor n xs ys b d = record {
  length_is = length-xor_bytes xs ys (b.length_is ∙ sym d.length_is) ∙ b.length_is;
  bytes = small_xor xs ys b.bytes d.bytes;
}

-- a number written in k bytes is k bytes
pub bytes_number : (k n : ℕ) → AreBytes k (bytes_high_first k n)
bytes_number k n = record { length_is = length_number k n; bytes = small_number k n }

-- one byte n times is n bytes
pub bytes_replicate : (n x : ℕ) → x < 256 → AreBytes n (replicate n x)
bytes_replicate n x h = record { length_is = length-replicate n x; bytes = small_replicate n x h }

-- the XOR with the same bytes twice changes nothing
pub xor_twice : (xs ys : List ℕ) → length xs ≡ length ys → xor_bytes (xor_bytes xs ys) ys ≡ xs
unfolding xor_bytes
xor_twice [] ys h = refl
xor_twice (x ∷ xs) [] h = absurd (omega arith)
xor_twice (x ∷ xs) (y ∷ ys) h =
    ap₂ (λ u us. u ∷ us) (xor_assoc x y y ∙ ap (bit_xor x) (xor_self y) ∙ xor_zero_r x)
    (xor_twice xs ys (omega arith))

-- if two joined lists are equal, and their first parts have the same length, the first parts are equal
pub same_front : (a b x y : List ℕ) → length a ≡ length b → a ++ x ≡ b ++ y → a ≡ b
same_front a b x y l e = sym (take_at a x (length b) l) ∙ ap (take (length b)) e ∙ take_at b y (length b) refl

-- if two joined lists are equal, and their first parts have the same length, the second parts are equal
pub same_back : (a b x y : List ℕ) → length a ≡ length b → a ++ x ≡ b ++ y → x ≡ y
same_back a b x y l e = sym (drop_at a x (length b) l) ∙ ap (drop (length b)) e ∙ drop_at b y (length b) refl

-- the cipher of A and the next block is a block
ciphered : (key s : List ℕ) (n : ℕ) → IsPermutation → IsKey key → AreBytes n s → 16 ≤ n
    → IsBlock (cipher key (take 16 s))
ciphered key s n law k b l = (law key k).0 (take 16 s) (bytes_take 16 n s l b)

-- A after a step is eight bytes
next_first : (x : List ℕ) (t : ℕ) → IsBlock x → AreBytes 8 (xor_bytes (take 8 x) (bytes_high_first 8 t))
next_first x t b = bytes_xor 8 (take 8 x) (bytes_high_first 8 t) (bytes_take 8 16 x (omega arith) b)
    (bytes_number 8 t)

-- a step takes n bytes to n bytes
pub step_bytes : (key s : List ℕ) (t n : ℕ) → IsPermutation → IsKey key → AreBytes n s → 16 ≤ n
    → AreBytes n (step key t s)
unfolding step
step_bytes key s t n law k b l =
    let x : List ℕ = cipher key (take 16 s) in
    let block : IsBlock x = ciphered key s n law k b l in
    bytes_resized (8 + ((n - 16) + (16 - 8))) n
    (xor_bytes (take 8 x) (bytes_high_first 8 t) ++ (drop 16 s ++ drop 8 x)) (omega arith)
    (bytes_append 8 ((n - 16) + (16 - 8)) (xor_bytes (take 8 x) (bytes_high_first 8 t))
    (drop 16 s ++ drop 8 x) (next_first x t block)
    (bytes_append (n - 16) (16 - 8) (drop 16 s) (drop 8 x) (bytes_drop 16 n s b) (bytes_drop 8 16 x block)))

-- any number of steps takes n bytes to n bytes
pub steps_bytes : (key s : List ℕ) (t n : ℕ) → IsPermutation → IsKey key → AreBytes n s → 16 ≤ n
    → AreBytes n (steps key t s)
unfolding steps
steps_bytes key s zero n law k b l = b
steps_bytes key s (suc t) n law k b l =
    step_bytes key (steps key t s) (suc t) n law k (steps_bytes key s t n law k b l) l

-- a step takes different registers of bytes to different ones
pub step_one_to_one : (key s r : List ℕ) (t n : ℕ) → IsPermutation → IsKey key → AreBytes n s → AreBytes n r
    → 16 ≤ n
    → step key t s ≡ step key t r → s ≡ r
unfolding step
step_one_to_one key s r t n law k b d l h =
    let number : List ℕ = bytes_high_first 8 t in
    let x : List ℕ = cipher key (take 16 s) in
    let y : List ℕ = cipher key (take 16 r) in
    let bx : IsBlock x = ciphered key s n law k b l in
    let by : IsBlock y = ciphered key r n law k d l in
    let hx : length (take 8 x) ≡ length number =
    (bytes_take 8 16 x (omega arith) bx).length_is ∙ sym (length_number 8 t) in
    let hy : length (take 8 y) ≡ length number =
    (bytes_take 8 16 y (omega arith) by).length_is ∙ sym (length_number 8 t) in
    let fronts : length (xor_bytes (take 8 x) number) ≡ length (xor_bytes (take 8 y) number) =
    (next_first x t bx).length_is ∙ sym (next_first y t by).length_is in
    let middles : length (drop 16 s) ≡ length (drop 16 r) =
    (bytes_drop 16 n s b).length_is ∙ sym (bytes_drop 16 n r d).length_is in
    let front : xor_bytes (take 8 x) number ≡ xor_bytes (take 8 y) number =
    same_front (xor_bytes (take 8 x) number) (xor_bytes (take 8 y) number) (drop 16 s ++ drop 8 x)
    (drop 16 r ++ drop 8 y) fronts h in
    let rest : drop 16 s ++ drop 8 x ≡ drop 16 r ++ drop 8 y =
    same_back (xor_bytes (take 8 x) number) (xor_bytes (take 8 y) number) (drop 16 s ++ drop 8 x)
    (drop 16 r ++ drop 8 y) fronts h in
    let middle : drop 16 s ≡ drop 16 r = same_front (drop 16 s) (drop 16 r) (drop 8 x) (drop 8 y) middles
    rest in
    let back : drop 8 x ≡ drop 8 y = same_back (drop 16 s) (drop 16 r) (drop 8 x) (drop 8 y) middles rest in
    let half : take 8 x ≡ take 8 y = sym (xor_twice (take 8 x) number hx)
    ∙ ap (λ v. xor_bytes v number) front ∙ xor_twice (take 8 y) number hy in
    let ciphers : x ≡ y = sym (take-append-drop 8 x) ∙ ap₂ (λ u v. u ++ v) half back ∙ take-append-drop 8 y in
    let block : take 16 s ≡ take 16 r =
    (law key k).1 (take 16 s) (take 16 r) (bytes_take 16 n s l b) (bytes_take 16 n r l d) ciphers in
    sym (take-append-drop 16 s) ∙ ap₂ (λ u v. u ++ v) block middle ∙ take-append-drop 16 r

-- any number of steps takes different registers of bytes to different ones
pub steps_one_to_one : (key s r : List ℕ) (t n : ℕ) → IsPermutation → IsKey key → AreBytes n s → AreBytes n r
    → 16 ≤ n
    → steps key t s ≡ steps key t r → s ≡ r
unfolding steps
steps_one_to_one key s r zero n law k b d l h = h
steps_one_to_one key s r (suc t) n law k b d l h =
    steps_one_to_one key s r t n law k b d l
    (step_one_to_one key (steps key t s) (steps key t r) (suc t) n law k (steps_bytes key s t n law k b l)
    (steps_bytes key r t n law k d l) l h)
