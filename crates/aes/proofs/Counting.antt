-- Counter blocks, one after the other.
use Rattle.std.proofs.Common.{◌≡◌, ℕ, ◌+◌, ◌*◌, ◌%◌, ◌^◌, ◌<◌, ◌≤◌, List, ◌++◌, length, take, drop, get_or}
use Rattle.std.proofs.Common.{zero, suc, add-one, inl, inr, refl, sym, ap, ap₂, ◌∙◌, arith}
use Rattle.std.proofs.lemmas.List.{take_at, drop_at, take-append-drop, length-take-le, length-drop}
use Rattle.std.proofs.lemmas.List.{length-take, take_all, take_more, get_or-take, get_or-drop, get_or_past}
use Rattle.std.proofs.lemmas.Bool.{cases_lt}
use Rattle.std.proofs.Math.Nat.{pow-suc, pow-zero}
use Rattle.std.proofs.lemmas.Nat.{from_be_bytes-to_be_bytes_4, from_le_bytes-to_le_bytes_4, be_bytes_4}
use Rattle.std.proofs.lemmas.Nat.{le_bytes_4}
use Rattle.std.specs.Int.{bytes_high_first, bytes_low_first, w32}
use Rattle.octets.specs.Bytes.{IsBlock, le, be}
use Rattle.octets.proofs.Numbers.{be_is, be_push, le_is, le_small}
use Rattle.aes.specs.Counters.{up_be, up_le, CountsOn}

-- reading four bytes that were written as a number, most significant byte first, gives the number
be_number : (n : ℕ) → n < 2 ^ 32 → be (bytes_high_first 4 n) ≡ n
be_number n h = be_is w32 (bytes_high_first 4 n) (omega arith) refl ∙ from_be_bytes-to_be_bytes_4 n h

-- reading four bytes that were written as a number, least significant byte first, gives the number
le_number : (n : ℕ) → n < 2 ^ 32 → le (bytes_low_first 0 4 n) ≡ n
le_number n h = le_is w32 (bytes_low_first 0 4 n) (omega arith) refl ∙ from_le_bytes-to_le_bytes_4 n h

-- if all items of a list are below 256, so are its first ones
pub small_take : (n : ℕ) (bs : List ℕ) → ((i : ℕ) → get_or bs i 0 < 256) → (i : ℕ) → get_or (take n bs) i 0 < 256
small_take n bs small i =
    elim (cases_lt i n) [
      | inl l ↦ rw (get_or-take n bs i 0 l) (small i)
      | inr g ↦
          let short : length (take n bs) ≤ i = omega (arith, length-take n bs) in
          rw (get_or_past (take n bs) i 0 short) (omega arith)
    ]

-- i steps and then j steps are i + j steps
up_be-up_be : (b : List ℕ) (i j : ℕ) → length b ≡ 16 → up_be (up_be b i) j ≡ up_be b (i + j)
unfolding up_be
up_be-up_be b i j long =
    let front : List ℕ = take 12 b in
    let n : ℕ = be (drop 12 b) in
    let four : List ℕ = bytes_high_first 4 ((n + i) % 2 ^ 32) in
    let size : length front ≡ 12 = length-take-le 12 b (omega arith) in
    let number : be (drop 12 (front ++ four)) ≡ (n + i) % 2 ^ 32 =
    ap be (drop_at front four 12 size) ∙ be_number ((n + i) % 2 ^ 32) (omega arith) in
    let sum : ((n + i) % 2 ^ 32 + j) % 2 ^ 32 ≡ (n + (i + j)) % 2 ^ 32 = omega arith in
    ap₂ (λ (x y : List ℕ). x ++ y) (take_at front four 12 size)
    (ap (λ (x : ℕ). bytes_high_first 4 ((x + j) % 2 ^ 32)) number ∙ ap (bytes_high_first 4) sum)

-- i steps and then j steps in the first four bytes are i + j steps
up_le-up_le : (b : List ℕ) (i j : ℕ) → length b ≡ 16 → up_le (up_le b i) j ≡ up_le b (i + j)
unfolding up_le
up_le-up_le b i j long =
    let n : ℕ = le (take 4 b) in
    let four : List ℕ = bytes_low_first 0 4 ((n + i) % 2 ^ 32) in
    let number : le (take 4 (four ++ drop 4 b)) ≡ (n + i) % 2 ^ 32 =
    ap le (take_at four (drop 4 b) 4 refl) ∙ le_number ((n + i) % 2 ^ 32) (omega arith) in
    let sum : ((n + i) % 2 ^ 32 + j) % 2 ^ 32 ≡ (n + (i + j)) % 2 ^ 32 = omega arith in
    ap₂ (λ (x y : List ℕ). x ++ y)
    (ap (λ (x : ℕ). bytes_low_first 0 4 ((x + j) % 2 ^ 32)) number ∙ ap (bytes_low_first 0 4) sum)
    (drop_at four (drop 4 b) 4 refl)

-- the first n bytes of a list, most significant first, spell less than 256^n
be_small : (bs : List ℕ) (n : ℕ) → n ≤ length bs → ((i : ℕ) → get_or bs i 0 < 256) → be (take n bs) < 256 ^ n
unfolding be
be_small bs zero h small = rw (pow-zero 256) (omega arith)
be_small bs (suc n) h small =
    let before : be (take n bs) < 256 ^ n = be_small bs n (omega arith) small in
    let last : get_or bs n 0 < 256 = small n in
    let power : 256 ^ suc n ≡ 256 ^ n * 256 = pow-suc 256 n in
    let next : be (take (suc n) bs) ≡ be (take n bs) * 256 + get_or bs n 0 =
    ap (λ i. be (take i bs)) (sym (add-one n)) ∙ ap be (take_more bs n 0 (omega arith))
    ∙ be_push (take n bs) (get_or bs n 0) in
    omega arith

-- zero steps leave a block as it is
up_be-zero : (b : List ℕ) → IsBlock b → up_be b 0 ≡ b
unfolding up_be
up_be-zero b x =
    let last : List ℕ = drop 12 b in
    let long : length b ≡ 16 = x.length_is in
    let size : length last ≡ 4 = length-drop 12 b ∙ omega arith in
    let small : (i : ℕ) → get_or last i 0 < 256 = λ i. rw (get_or-drop 12 b i 0) (x.bytes (12 + i)) in
    let whole : take 4 last ≡ last = take_all 4 last (omega arith) in
    let bound : be (take 4 last) < 256 ^ 4 = be_small last 4 (omega arith) small in
    let same : be (take 4 last) ≡ be last = ap be whole in
    let number : (be last + 0) % 2 ^ 32 ≡ be last = omega arith in
    ap (λ y. take 12 b ++ y)
    (be_bytes_4 last ((be last + 0) % 2 ^ 32) size small (number ∙ be_is w32 last (omega arith) size))
    ∙ take-append-drop 12 b

-- zero steps in the first four bytes leave a block as it is
up_le-zero : (b : List ℕ) → IsBlock b → up_le b 0 ≡ b
unfolding up_le
up_le-zero b x =
    let first : List ℕ = take 4 b in
    let long : length b ≡ 16 = x.length_is in
    let size : length first ≡ 4 = length-take-le 4 b (omega arith) in
    let small : (i : ℕ) → get_or first i 0 < 256 = λ i. small_take 4 b x.bytes i in
    let bound : le first < 256 ^ length first = le_small first small in
    let bound_4 : le first < 256 ^ 4 = rw size at bound in
    let number : (le first + 0) % 2 ^ 32 ≡ le first = omega arith in
    ap (λ y. y ++ drop 4 b) (le_bytes_4 first ((le first + 0) % 2 ^ 32) size small
    (number ∙ le_is w32 first (omega arith) size))
    ∙ take-append-drop 4 b

-- counting in the last four bytes has the property `CountsOn`
pub up_be_counts_on : CountsOn up_be
up_be_counts_on b x = (up_be-zero b x, λ j. sym (up_be-up_be b j 1 x.length_is))

-- counting in the first four bytes has the property `CountsOn`
pub up_le_counts_on : CountsOn up_le
up_le_counts_on b x = (up_le-zero b x, λ j. sym (up_le-up_le b j 1 x.length_is))
