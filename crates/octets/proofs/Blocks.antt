-- The blocks of a text as it grows, and bytes that are joined.
use Rattle.std.proofs.Common.{◌≡◌, ℕ, zero, suc, ◌+◌, ◌*◌, ◌/◌, ◌%◌, ◌<◌, ◌≤◌, List, [], ◌++◌, length, take}
use Rattle.std.proofs.Common.{drop, get_or, refl, ap, ap₂, ◌∙◌, arith, length-drop}
use Rattle.std.proofs.lemmas.List.{take-append-le, drop-append-le, drop-drop, take_at, drop_at, drop_all, append-nil}
use Rattle.std.proofs.Math.Seq.{drop-append-add}
use Rattle.std.specs.Simd.{first_chunks}
use Rattle.octets.specs.Bytes.{block_at}
use borrow.Rule.Slice.PartMut.{put_mid}

-- a whole block of a text is also that block of a longer text
pub block_at-append : (m x : List ℕ) (i : ℕ) → (i + 1) * 16 ≤ length m → block_at (m ++ x) i ≡ block_at m i
block_at-append m x i h =
    rw (drop-append-le (i * 16) m x (omega arith))
    (take-append-le 16 (drop (i * 16) m) x (omega (arith, length-drop (i * 16) m)))

-- after whole blocks, block i of x is the block that many blocks later
pub next_block : (m x : List ℕ) (i : ℕ) → length m % 16 ≡ 0
    → block_at (m ++ x) (length m / 16 + i) ≡ block_at x i
next_block m x i whole =
    let at : (length m / 16 + i) * 16 ≡ length m + i * 16 = omega arith in
    ap (λ (j : ℕ). take 16 (drop j (m ++ x))) at ∙ ap (take 16) (drop-append-add m x (i * 16))

-- chunk i of a slice cut into chunks
pub chunk_at : {A : Type 0} (n k i : ℕ) (xs : List A) → i < k
    → get_or (first_chunks n k xs) i [] ≡ take n (drop (i * n) xs)
chunk_at n zero i xs h = absurd (omega arith)
chunk_at n (suc k) zero xs h = let e : 0 * n ≡ 0 = omega arith in rw e refl
chunk_at n (suc k) (suc i) xs h =
    let e : n + i * n ≡ suc i * n = omega arith in
    chunk_at n k i (drop n xs) (omega arith) ∙ ap (take n) (drop-drop (i * n) n xs)
    ∙ ap (λ (j : ℕ). take n (drop j xs)) e

-- if the first n bytes are a, writing b over the others gives a and then b
pub two_parts : (n m : ℕ) (x z y a b : List ℕ) → x ≡ a → y ≡ b → length a ≡ n → length z ≡ m
    → put_mid n m (x ++ z) y ≡ a ++ b
two_parts n m x z y a b e f long rest =
    let l : length x ≡ n = ap length e ∙ long in
    ap₂ (λ u v. u ++ (y ++ v)) (take_at x z n l ∙ e)
    (ap (drop m) (drop_at x z n l) ∙ drop_all m z (omega arith))
    ∙ ap (λ v. a ++ v) (append-nil y ∙ f)
