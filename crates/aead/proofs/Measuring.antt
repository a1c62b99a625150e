-- The last 16 bytes of the bytes that came so far.
use Rattle.std.proofs.Common.{◌≡◌, ℕ, List, ◌++◌, ◌≤◌, ◌+◌, ◌-◌, length, drop, ap, ◌∙◌, sym, arith}
use Rattle.std.proofs.Common.{append_assoc, length-append}
use Rattle.std.proofs.lemmas.List.{drop-append-le, drop-drop}
use Rattle.std.proofs.Math.Seq.{drop-append-add}

-- the last bytes after one piece more are those of the last bytes so far and the piece
pub last_more : (z x y last new : List ℕ) → last ≡ drop (length x) (z ++ x)
    → new ≡ drop (length y) (last ++ y) → new ≡ drop (length (x ++ y)) (z ++ (x ++ y))
last_more z x y last new p q =
    let fits : length x ≤ length (z ++ x) = omega (arith, length-append z x) in
    q ∙ ap (λ l. drop (length y) (l ++ y)) p
    ∙ ap (λ l. drop (length y) l) (sym (drop-append-le (length x) (z ++ x) y fits))
    ∙ drop-drop (length y) (length x) ((z ++ x) ++ y)
    ∙ ap (λ n. drop n ((z ++ x) ++ y)) (sym (length-append x y))
    ∙ ap (λ l. drop (length (x ++ y)) l) (append_assoc z x y)

-- once as many bytes came as z has, no byte of z is among the last ones
pub last_whole : (z x : List ℕ) → length z ≤ length x
    → drop (length x) (z ++ x) ≡ drop (length x - length z) x
last_whole z x h =
    let e : length x ≡ length z + (length x - length z) = omega arith in
    ap (λ n. drop n (z ++ x)) e ∙ drop-append-add z x (length x - length z)
