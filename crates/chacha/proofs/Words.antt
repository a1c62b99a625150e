-- Words, their sums, and their bytes.
use Rattle.std.proofs.Common.{◌≡◌, ℕ, zero, suc, ◌+◌, ◌%◌, ◌^◌, ◌<◌, ◌≤◌, refl, ap, ◌∙◌, arith}
use Rattle.std.proofs.Common.{List, [], ◌∷◌, ◌++◌, length, length-append, length-drop, take, drop, set}
use Rattle.std.proofs.Common.{get_or}
use Rattle.std.proofs.lemmas.List.{take_all, take_at, drop_more, drop_all, length-take-le}
use Rattle.std.proofs.lemmas.List.{append-nil}
use Rattle.std.proofs.lemmas.List.Concat.{flat_map-append}
use Rattle.std.specs.Int.{w32, to_le_bytes}
use Rattle.chacha.specs.Block.{added, serialized}

-- before the first sum, the state is as it was
pub partly_added_none : (x y : List ℕ) → x ≡ added (take 0 x) (take 0 y) ++ drop 0 x
unfolding added
partly_added_none x y = refl

-- if i words of a state have their sums, setting the next one to its sum gives i + 1 of them
pub partly_added_more : (x y : List ℕ) (i : ℕ) → i < length x → i < length y
    → set (added (take i x) (take i y) ++ drop i x) i
    ((get_or (added (take i x) (take i y) ++ drop i x) i 0 + get_or y i 0) % 2 ^ 32)
    ≡ added (take (suc i) x) (take (suc i) y) ++ drop (suc i) x
unfolding added
partly_added_more [] y i h k = absurd (omega arith)
partly_added_more (a ∷ x) [] i h k = absurd (omega arith)
partly_added_more (a ∷ x) (b ∷ y) zero h k = refl
partly_added_more (a ∷ x) (b ∷ y) (suc i) h k =
    ap (λ l. (a + b) % 2 ^ 32 ∷ l) (partly_added_more x y i (omega arith) (omega arith))

-- after the last sum, the state is the sum of the two states
pub partly_added_all : (x y : List ℕ) (n : ℕ) → length x ≡ n → length y ≡ n → added (take n x) (take n y)
    ++ drop n x ≡ added x y
partly_added_all x y n h k =
    let taken : take n x ≡ x = take_all n x (omega arith) in
    let others : take n y ≡ y = take_all n y (omega arith) in
    let rest : drop n x ≡ [] = drop_all n x (omega arith) in
    rw (taken, others, rest) (append-nil (added x y))

-- serialized words that are joined are the serialized joined words
pub serialized-append : (words more : List ℕ) → serialized (words ++ more) ≡ serialized words
    ++ serialized more
unfolding serialized
serialized-append words more = flat_map-append (to_le_bytes w32) words more

-- the four bytes from place a on are the bytes at a, a + 1, a + 2 and a + 3
pub four_bytes : (bytes : List ℕ) (a : ℕ) → a + 4 ≤ length bytes
    → take 4 (drop a bytes) ≡ get_or bytes a 0 ∷ get_or bytes (a + 1) 0 ∷ get_or bytes (a + 2) 0
    ∷ get_or bytes (a + 3) 0 ∷ []
four_bytes bytes a h =
    let second : a + 1 + 1 ≡ a + 2 = omega arith in
    let third : a + 2 + 1 ≡ a + 3 = omega arith in
    let b0 : ℕ = get_or bytes a 0 in
    let b1 : ℕ = get_or bytes (a + 1) 0 in
    let b2 : ℕ = get_or bytes (a + 2) 0 in
    ap (take 4) (drop_more bytes a 0 (omega arith))
    ∙ ap (λ l. b0 ∷ take 3 l) (drop_more bytes (a + 1) 0 (omega arith) ∙ ap (λ (n : ℕ). b1 ∷ drop n bytes)
    second)
    ∙ ap (λ l. b0 ∷ b1 ∷ take 2 l) (drop_more bytes (a + 2) 0 (omega arith)
    ∙ ap (λ (n : ℕ). b2 ∷ drop n bytes) third)
    ∙ ap (λ l. b0 ∷ b1 ∷ b2 ∷ take 1 l) (drop_more bytes (a + 3) 0 (omega arith))

-- putting bytes in place of others leaves the length of a list unchanged
pub length-put : (out bytes : List ℕ) (at : ℕ) → at + length bytes ≤ length out
    → length (take at out ++ bytes ++ drop (at + length bytes) out) ≡ length out
length-put out bytes at h =
    let rest = drop (at + length bytes) out in
    length-append (take at out ++ bytes) rest ∙ ap (λ (n : ℕ). n + length rest)
    (length-append (take at out) bytes)
    ∙ omega (arith, length-take-le at out (omega arith), length-drop (at + length bytes) out)

-- if bytes are put in place of others, the list begins with the bytes before that place and then the new ones
pub take-put : (out bytes : List ℕ) (at n : ℕ) → at + length bytes ≤ length out → n ≡ at + length bytes
    → take n (take at out ++ bytes ++ drop (at + length bytes) out) ≡ take at out ++ bytes
take-put out bytes at n h e =
    take_at (take at out ++ bytes) (drop (at + length bytes) out) n
    (omega (arith, e, length-append (take at out) bytes, length-take-le at out (omega arith)))
