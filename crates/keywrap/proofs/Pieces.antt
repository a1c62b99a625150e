-- Parts of a register.
use Rattle.std.proofs.Common.{◌≡◌, ℕ, ◌+◌, ◌-◌, ◌≤◌, List, ◌++◌, take, drop, length, sym, ap, ap₂, ◌∙◌, arith}
use Rattle.std.proofs.Common.{append_assoc, length-append, length-drop, take_all}
use Rattle.std.proofs.lemmas.List.{take_at, drop_at, drop_all, append-nil, take-append-drop, length-take-le}
use Rattle.std.specs.Int.{bytes_high_first}
use Rattle.std.specs.List.{range_with_len}
use Rattle.std.proofs.lemmas.Simd.{pick_l-range_with_len}
use lib.Lanes.{pick_l}
use Rattle.aes.specs.Cipher.{cipher}
use Rattle.octets.specs.Bytes.{xor_bytes}
use Rattle.octets.proofs.Xors.{length-xor_bytes}
use Rattle.keywrap.specs.Wrapping.{step}
use Rattle.keywrap.proofs.Bytes.{length_number, xor_twice}
use Rattle.keywrap.specs.Code.Places.{register}
use borrow.Rule.Slice.PartMut.{put_mid}

-- two vectors of eight bytes, one after the other
pub joined_is : (x y : List ℕ) → length x ≡ 8 → length y ≡ 8 → pick_l 0 (x ++ y) (range_with_len 0 16) ≡ x ++ y
joined_is x y hx hy =
    let long : length (x ++ y) ≡ 16 = omega (arith, length-append x y) in
    pick_l-range_with_len 0 (x ++ y) 0 16 (omega arith) ∙ take_all 16 (x ++ y) (omega arith)

-- a vector of sixteen bytes twice is its first half, its second half, and the vector
twice_is : (x : List ℕ) → x ++ x ≡ take 8 x ++ (drop 8 x ++ x)
twice_is x = ap (λ y. y ++ x) (sym (take-append-drop 8 x)) ∙ append_assoc (take 8 x) (drop 8 x) x

-- the first half of a vector of sixteen bytes
pub first_is : (x : List ℕ) → length x ≡ 16 → pick_l 0 (x ++ x) (range_with_len 0 8) ≡ take 8 x
first_is x long =
    let all : length (x ++ x) ≡ 32 = omega (arith, length-append x x) in
    let half : length (take 8 x) ≡ 8 = length-take-le 8 x (omega arith) in
    pick_l-range_with_len 0 (x ++ x) 0 8 (omega arith) ∙ ap (take 8) (twice_is x)
    ∙ take_at (take 8 x) (drop 8 x ++ x) 8 half

-- the second half of a vector of sixteen bytes
pub second_is : (x : List ℕ) → length x ≡ 16 → pick_l 0 (x ++ x) (range_with_len 8 8) ≡ drop 8 x
second_is x long =
    let all : length (x ++ x) ≡ 32 = omega (arith, length-append x x) in
    let half : length (take 8 x) ≡ 8 = length-take-le 8 x (omega arith) in
    let rest : length (drop 8 x) ≡ 8 = omega (arith, length-drop 8 x) in
    pick_l-range_with_len 0 (x ++ x) 8 8 (omega arith) ∙ ap (λ y. take 8 (drop 8 y)) (twice_is x)
    ∙ ap (take 8) (drop_at (take 8 x) (drop 8 x ++ x) 8 half) ∙ take_at (drop 8 x) x 8 rest

-- a vector that is read at p
pub read_at : (p : ℕ) (s : List ℕ) → p + 8 ≤ length s → take 8 (take (p + 8 - p) (drop p s)) ≡ take (p + 8 - p) (drop p s)
read_at p s h =
    let some : p + 8 - p ≤ length (drop p s) = omega (arith, length-drop p s) in
    take_all 8 (take (p + 8 - p) (drop p s)) (omega (arith, length-take-le (p + 8 - p) (drop p s) some))

-- a list is its first p items, the next eight, and the rest
pub cut : (p : ℕ) (s : List ℕ) → s ≡ take p s ++ (take 8 (drop p s) ++ drop 8 (drop p s))
cut p s = sym (ap (λ v. take p s ++ v) (take-append-drop 8 (drop p s)) ∙ take-append-drop p s)

-- the register after step t, if its A is a and its R[1] is r
pub step_at : (key : List ℕ) (t : ℕ) (a r z : List ℕ) → length a ≡ 8 → length r ≡ 8
    → step key t (a ++ (r ++ z)) ≡ xor_bytes (take 8 (cipher key (a ++ r))) (bytes_high_first 8 t)
    ++ (z ++ drop 8 (cipher key (a ++ r)))
unfolding step
step_at key t a r z la lr =
    let l : length (a ++ r) ≡ 16 = length-append a r ∙ ap₂ (λ m n. m + n) la lr in
    let s : a ++ (r ++ z) ≡ (a ++ r) ++ z = sym (append_assoc a r z) in
    let front : take 16 (a ++ (r ++ z)) ≡ a ++ r = ap (take 16) s ∙ take_at (a ++ r) z 16 l in
    let back : drop 16 (a ++ (r ++ z)) ≡ z = ap (drop 16) s ∙ drop_at (a ++ r) z 16 l in
    ap₂ (λ f d. xor_bytes (take 8 (cipher key f)) (bytes_high_first 8 t) ++ (d ++ drop 8 (cipher key f)))
    front back

-- the register before its next block r is taken
pub register_before : (place : ℕ) (a m r e : List ℕ) → length m ≡ place
    → register place a (m ++ (r ++ e)) ≡ a ++ (r ++ (e ++ m))
unfolding register
register_before place a m r e lm =
    ap (λ v. a ++ v) (ap₂ (λ d t. d ++ t) (drop_at m (r ++ e) place lm) (take_at m (r ++ e) place lm)
    ∙ append_assoc r e m)

-- the register after its next block r was taken
pub register_after : (place : ℕ) (a m r e : List ℕ) → length m ≡ place → length r ≡ 8
    → register (place + 8) a (m ++ (r ++ e)) ≡ a ++ ((e ++ m) ++ r)
unfolding register
register_after place a m r e lm lr =
    let l : length (m ++ r) ≡ place + 8 = length-append m r ∙ ap₂ (λ i j. i + j) lm lr in
    let s : m ++ (r ++ e) ≡ (m ++ r) ++ e = sym (append_assoc m r e) in
    ap (λ v. a ++ v)
    (ap₂ (λ d t. d ++ t) (ap (drop (place + 8)) s ∙ drop_at (m ++ r) e (place + 8) l)
    (ap (take (place + 8)) s ∙ take_at (m ++ r) e (place + 8) l)
    ∙ sym (append_assoc e m r))

-- a round starts at place 0
pub register_start : (a s : List ℕ) → register 0 a s ≡ a ++ s
unfolding register
register_start a s = ap (λ v. a ++ v) (append-nil s)

-- a round ends past the last block
pub register_end : (place : ℕ) (a s : List ℕ) → length s ≤ place → register place a s ≡ a ++ s
unfolding register
register_end place a s l =
    ap (λ v. a ++ v) (ap₂ (λ d t. d ++ t) (drop_all place s l) (take_all place s l))

-- step t of wrapping, on the block at place p
pub wrapped_at : (key : List ℕ) (t p k : ℕ) (a s b h : List ℕ) → k ≡ 8 → length a ≡ 8 → p + 8 ≤ length s
    → length b ≡ 16
    → b ≡ cipher key (a ++ take k (drop p s)) → h ≡ drop 8 b
    → register (p + 8) (xor_bytes (take 8 b) (bytes_high_first 8 t)) (put_mid p k s h)
    ≡ step key t (register p a s)
wrapped_at key t p k a s b h k8 la room lb e f =
    let m : List ℕ = take p s in
    let r : List ℕ = take 8 (drop p s) in
    let z : List ℕ = drop 8 (drop p s) in
    let lm : length m ≡ p = length-take-le p s (omega arith) in
    let lr : length r ≡ 8 = length-take-le 8 (drop p s) (omega (arith, length-drop p s)) in
    let lh : length h ≡ 8 = ap length f ∙ length-drop 8 b ∙ omega arith in
    let b_is : b ≡ cipher key (a ++ r) = e ∙ ap (λ i. cipher key (a ++ take i (drop p s))) k8 in
    ap (λ i. register (p + 8) (xor_bytes (take 8 b) (bytes_high_first 8 t)) (put_mid p i s h)) k8
    ∙ register_after p (xor_bytes (take 8 b) (bytes_high_first 8 t)) m h z lm lh
    ∙ ap₂ (λ x y. xor_bytes (take 8 x) (bytes_high_first 8 t) ++ ((z ++ m) ++ y)) b_is (f ∙ ap (drop 8) b_is)
    ∙ sym (ap (λ v. step key t (register p a v)) (cut p s) ∙ ap (step key t) (register_before p a m r z lm)
    ∙ step_at key t a r (z ++ m) la lr)

-- step t of unwrapping, on the block at place p, if the cipher takes d to A XOR t and that block
pub unwrapped_at : (key : List ℕ) (t p k : ℕ) (a s d h : List ℕ) → k ≡ 8 → length a ≡ 8 → p + 8 ≤ length s
    → length d ≡ 16
    → cipher key d ≡ xor_bytes a (bytes_high_first 8 t) ++ take k (drop p s) → h ≡ drop 8 d
    → step key t (register p (take 8 d) (put_mid p k s h)) ≡ register (p + 8) a s
unwrapped_at key t p k a s d h k8 la room ld e f =
    let m : List ℕ = take p s in
    let r : List ℕ = take 8 (drop p s) in
    let z : List ℕ = drop 8 (drop p s) in
    let n : List ℕ = bytes_high_first 8 t in
    let lm : length m ≡ p = length-take-le p s (omega arith) in
    let lr : length r ≡ 8 = length-take-le 8 (drop p s) (omega (arith, length-drop p s)) in
    let ln : length a ≡ length n = la ∙ sym (length_number 8 t) in
    let lsum : length (xor_bytes a n) ≡ 8 = length-xor_bytes a n ln ∙ la in
    let ld8 : length (take 8 d) ≡ 8 = length-take-le 8 d (omega arith) in
    let ldr : length (drop 8 d) ≡ 8 = length-drop 8 d ∙ omega arith in
    let whole : cipher key (take 8 d ++ drop 8 d) ≡ xor_bytes a n ++ r =
    ap (cipher key) (take-append-drop 8 d) ∙ e ∙ ap (λ i. xor_bytes a n ++ take i (drop p s)) k8 in
    ap (λ i. step key t (register p (take 8 d) (put_mid p i s h))) k8
    ∙ ap (step key t) (register_before p (take 8 d) m h z lm ∙ ap (λ x. take 8 d ++ (x ++ (z ++ m))) f)
    ∙ step_at key t (take 8 d) (drop 8 d) (z ++ m) ld8 ldr
    ∙ ap (λ b. xor_bytes (take 8 b) n ++ ((z ++ m) ++ drop 8 b)) whole
    ∙ ap₂ (λ x y. xor_bytes x n ++ ((z ++ m) ++ y)) (take_at (xor_bytes a n) r 8 lsum)
    (drop_at (xor_bytes a n) r 8 lsum)
    ∙ ap (λ x. x ++ ((z ++ m) ++ r)) (xor_twice a n ln)
    ∙ sym (ap (register (p + 8) a) (cut p s) ∙ register_after p a m r z lm lr)
