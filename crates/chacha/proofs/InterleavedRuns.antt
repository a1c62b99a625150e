-- Runs of whole blocks that are masked while a hash takes in the same text.
use Rattle.std.proofs.Common.{◌≡◌, ℕ, ◌+◌, ◌-◌, ◌*◌, ◌/◌, ◌%◌, ◌^◌, ◌≤◌, List, ◌++◌, length, take, drop}
use Rattle.std.proofs.Common.{sym, ap, ap₂, subst, ◌∙◌, arith}
use Rattle.std.proofs.Math.Seq.{take-add, take-append-add, drop-append-add}
use Rattle.std.proofs.lemmas.List.{append_assoc, length-append, length-take-le, length-drop, take_at, drop_at, drop-drop}
use Rattle.std.proofs.lemmas.List.{drop-append-le, take-append-drop}
use Rattle.octets.specs.Ends.{IsEnd, whole_blocks}
use Rattle.octets.specs.declared.work.Interleaved.{Interleaved}
use Rattle.octets.specs.Masked.{masked}
use Rattle.octets.proofs.Masks.{length-masked, masked-append}
use Rattle.chacha.specs.Stream.{key_stream_byte}
use Rattle.chacha.proofs.Masking.{later, no_run}

-- a hash with the bytes that it takes in next, whatever their address
abbrev pub interleaved : {W : Type 0} → W → List ℕ → Interleaved W
interleaved hash left = record { hash = hash; left = record { ref_ptr = (0, 0); now = left } }

-- if the next run of s bytes is within a text whose blocks exist, its blocks exist
pub next_exists : (n a s l : ℕ) → s % 64 ≡ 0 → a % 64 ≡ 0 → a + s ≤ l → n + l / 64 ≤ 2 ^ 32
    → n + a / 64 + s / 64 ≤ 2 ^ 32
next_exists n a s l whole begins room exist = omega (arith, whole, begins, room, exist)

-- what holds of two lists holds of equal lists
pub carried : (P : List ℕ → List ℕ → Type 0) (a b c d : List ℕ) → a ≡ c → b ≡ d → P a b → P c d
carried P a b c d e f x = subst (P c) f (subst (λ z. P z b) e x)

-- if `left` is all but the first bytes of `before`, its end `rest` is an end of `before`
pub left_of : (taken : ℕ) (rest left before : List ℕ) → IsEnd rest left → left ≡ drop taken before
    → taken ≤ length before → rest ≡ drop (length before - length rest) before
left_of taken rest left before end e room =
    let long : length left ≡ length before - taken = ap length e ∙ length-drop taken before in
    let place : taken + (length left - length rest) ≡ length before - length rest =
    omega (arith, long, end.shorter, room) in
    end.rest_is ∙ ap (drop (length left - length rest)) e ∙ drop-drop (length left - length rest) taken before
    ∙ ap (λ (n : ℕ). drop n before) place

-- masking a beginning of a text leaves its length unchanged
pub length-begun : (f : ℕ → ℕ) (n : ℕ) (was : List ℕ) → n ≤ length was
    → length (masked f 0 (take n was) ++ drop n was) ≡ length was
length-begun f n was le =
    length-append (masked f 0 (take n was)) (drop n was)
    ∙ omega (arith, le, length-masked f 0 (take n was), length-take-le n was le, length-drop n was)

-- if the first bytes of a text stay and the next ones are masked, a beginning of the result is the first bytes and then the masked
-- ones
pub front_is : (f : ℕ → ℕ) (p : ℕ) (b rest bytes : List ℕ) (a d : ℕ) → d ≡ length b + a → a ≤ length rest
    → bytes ≡ b ++ (masked f p (take a rest) ++ drop a rest) → take d bytes ≡ b ++ masked f p (take a rest)
front_is f p b rest bytes a d e le is =
    let m : List ℕ = masked f p (take a rest) in
    let size : length m ≡ a = length-masked f p (take a rest) ∙ length-take-le a rest le in
    ap₂ take e is ∙ take-append-add b (m ++ drop a rest) a ∙ ap (λ x. b ++ x) (take_at m (drop a rest) a size)

pub back_is : (f : ℕ → ℕ) (p : ℕ) (b rest bytes : List ℕ) (a d : ℕ) → d ≡ length b + a → a ≤ length rest
    → bytes ≡ b ++ (masked f p (take a rest) ++ drop a rest) → drop d bytes ≡ drop a rest
back_is f p b rest bytes a d e le is =
    let m : List ℕ = masked f p (take a rest) in
    let size : length m ≡ a = length-masked f p (take a rest) ∙ length-take-le a rest le in
    ap₂ drop e is ∙ drop-append-add b (m ++ drop a rest) a ∙ drop_at m (drop a rest) a size

-- if the next s bytes are masked too, all a + s bytes are masked
pub run_masked : (key nonce : List ℕ) (n a s : ℕ) (b rest before after new : List ℕ) → a % 64 ≡ 0 → a ≤ length rest
    → before ≡ b ++ masked (key_stream_byte key nonce n) 0 (take a rest) → after ≡ drop a rest
    → new ≡ masked (key_stream_byte key nonce (n + a / 64)) 0 (take s after)
    → before ++ (new ++ drop s after)
    ≡ b ++ (masked (key_stream_byte key nonce n) 0 (take (a + s) rest) ++ drop (a + s) rest)
run_masked key nonce n a s b rest before after new begins le is_before is_after is_new =
    let f = key_stream_byte key nonce n in
    let m : List ℕ = masked f 0 (take a rest) in
    let x : List ℕ = take s (drop a rest) in
    let y : List ℕ = drop s (drop a rest) in
    let place : 64 * (a / 64) ≡ 0 + length (take a rest) = omega (arith, begins, length-take-le a rest le) in
    let run : new ≡ masked f (0 + length (take a rest)) x =
    is_new ∙ later key nonce n (a / 64) (take s after) ∙ ap₂ (λ (p : ℕ) (z : List ℕ). masked f p (take s z)) place is_after in
    let both : m ++ masked f (0 + length (take a rest)) x ≡ masked f 0 (take (a + s) rest) =
    sym (ap (masked f 0) (take-add a s rest) ∙ masked-append f 0 (take a rest) x) in
    ap₂ (λ u v. u ++ v) is_before (ap₂ (λ u v. u ++ drop s v) run is_after)
    ∙ append_assoc b m (masked f (0 + length (take a rest)) x ++ y)
    ∙ ap (λ u. b ++ u) (sym (append_assoc m (masked f (0 + length (take a rest)) x) y)
    ∙ ap₂ (λ u v. u ++ v) both (drop-drop s a rest))

-- the bytes up to the end of a run are those before it and the run
pub run_ends : (before new more : List ℕ) (d s : ℕ) → length before ≡ d → length new ≡ s
    → take (d + s) (before ++ (new ++ more)) ≡ before ++ new
run_ends before new more d s eb en =
    ap (λ (n : ℕ). take (n + s) (before ++ (new ++ more))) (sym eb) ∙ take-append-add before (new ++ more) s
    ∙ ap (λ x. before ++ x) (take_at new more s en)

-- the bytes after the first t of a list to which a run was added are those of the list and then the run
pub left_grows : (before new : List ℕ) (t : ℕ) → t ≤ length before → drop t (before ++ new) ≡ drop t before ++ new
left_grows before new t le = drop-append-le t before new le

-- the k bytes after the first a bytes are k bytes long
pub length-run : (a k : ℕ) (bytes : List ℕ) → a + k ≤ length bytes → length (take (a + k - a) (drop a bytes)) ≡ k
length-run a k bytes room =
    let same : a + k - a ≡ k = omega arith in
    length-take-le (a + k - a) (drop a bytes) (omega (arith, room, length-drop a bytes)) ∙ same

-- after a masked beginning, the next run is still as it was
pub run_came : (f : ℕ → ℕ) (a k : ℕ) (was bytes m : List ℕ) → a ≤ length was
    → bytes ≡ masked f 0 (take a was) ++ drop a was
    → (m ++ take a was) ++ take (a + k - a) (drop a bytes) ≡ m ++ take (a + k) was
run_came f a k was bytes m le is =
    let same : a + k - a ≡ k = omega arith in
    let size : length (masked f 0 (take a was)) ≡ a = length-masked f 0 (take a was) ∙ length-take-le a was le in
    ap₂ (λ (n : ℕ) (z : List ℕ). (m ++ take a was) ++ take n z) same
    (ap (drop a) is ∙ drop_at (masked f 0 (take a was)) (drop a was) a size)
    ∙ append_assoc m (take a was) (take k (drop a was)) ∙ ap (λ z. m ++ z) (sym (take-add a k was))

-- masking no bytes after the first b leaves a text as it was
pub none_masked : (f : ℕ → ℕ) (p b : ℕ) (was : List ℕ)
    → was ≡ take b was ++ (masked f p (take (b - b) (drop b was)) ++ drop (b - b) (drop b was))
none_masked f p b was =
    let none : b - b ≡ 0 = omega arith in
    let rest : List ℕ = drop b was in
    sym (take-append-drop b was) ∙ ap (λ x. take b was ++ x) (no_run f p rest)
    ∙ ap (λ (n : ℕ). take b was ++ (masked f p (take n rest) ++ drop n rest)) (sym none)

-- if x is whole blocks, the whole blocks of x and y joined are x and the whole blocks of y
pub whole_split : (x y : List ℕ) → length x % 16 ≡ 0 → whole_blocks (x ++ y) ≡ x ++ whole_blocks y
whole_split x y whole =
    let size : length (x ++ y) / 16 * 16 ≡ length x + length y / 16 * 16 = omega (arith, whole, length-append x y) in
    ap (λ (n : ℕ). take n (x ++ y)) size ∙ take-append-add x y (length y / 16 * 16)

-- if `before` is whole blocks, the whole blocks after its first t bytes are the rest of it and the whole blocks of `new`
pub whole_left : (before new : List ℕ) (t : ℕ) → length before % 16 ≡ 0 → t ≤ length before
    → take (length (before ++ new) / 16 * 16 - t) (drop t (before ++ new)) ≡ drop t before ++ whole_blocks new
whole_left before new t whole le =
    let size : length (before ++ new) / 16 * 16 - t ≡ length (drop t before) + length new / 16 * 16 =
    omega (arith, whole, le, length-append before new, length-drop t before) in
    ap₂ take size (left_grows before new t le) ∙ take-append-add (drop t before) new (length new / 16 * 16)

-- if the first n bytes were masked, and then the others, the whole text is masked
pub all_masked : (f : ℕ → ℕ) (p n : ℕ) (was front back new : List ℕ) → n ≤ length was
    → front ≡ masked f p (take n was) → back ≡ drop n was → new ≡ masked f (p + n) back → front ++ new ≡ masked f p was
all_masked f p n was front back new le is_front is_back is_new =
    let place : p + n ≡ p + length (take n was) = omega (arith, length-take-le n was le) in
    ap₂ (λ x y. x ++ y) is_front (is_new ∙ ap₂ (masked f) place is_back)
    ∙ sym (ap (masked f p) (sym (take-append-drop n was)) ∙ masked-append f p (take n was) (drop n was))
