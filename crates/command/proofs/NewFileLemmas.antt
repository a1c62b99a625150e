-- Bytes that are pending before they are written.
use Rattle.std.proofs.Common.{◌≡◌, ℕ, List, [], ◌++◌, ◌+◌, ◌-◌, ◌≤◌, length, take, drop, ap, ◌∙◌, sym}
use Rattle.std.proofs.Common.{append_assoc, Option, Some, None, subst, refl}
use Rattle.std.proofs.lemmas.List.{append-nil, drop_all, drop-append-le, take_rest, take-append-drop}
use Rattle.std.proofs.Math.Seq.{drop-drop}
use Rattle.std.specs.Io.KnownBytes.{Appends, Keeps, append_known}

-- if some of the pending bytes are written, the bytes of the file and the pending bytes together stay the same
pub wrote : (old new : Option (List ℕ)) (p q : List ℕ) (w n : ℕ) → q ≡ p
    → Appends old new (take n (take (length q - w) (drop w q)))
    → Keeps (append_known old (drop w p)) (append_known new (drop (w + n) p))
wrote None new p q w n e h = tt
wrote (Some x) None p q w n e h = h
wrote (Some x) (Some y) p q w n e h =
    let P : List ℕ → Type 0 = λ l. y ≡ x ++ take n (take (length l - w) (drop w l)) in
    let Q : List ℕ → Type 0 = λ l. y ≡ x ++ take n l in
    let k : y ≡ x ++ take n (drop w p) = subst Q (take_rest p w) (subst P e h) in
    ap (λ l. l ++ drop (w + n) p) k ∙ append_assoc x (take n (drop w p)) (drop (w + n) p)
    ∙ ap (λ l. x ++ (take n (drop w p) ++ l)) (sym (drop-drop n w p))
    ∙ ap (λ l. x ++ l) (take-append-drop n (drop w p))

-- once all pending bytes are written, none is pending
pub none_pending : (old new : Option (List ℕ)) (p : List ℕ) (w : ℕ) → length p ≤ w
    → Keeps old (append_known new (drop w p)) → Keeps old (append_known new [])
none_pending old new p w h k = rw (← drop_all w p h) k

-- if a is kept in b, and b in c, a is kept in c
pub keeps_more : (a b c : Option (List ℕ)) → Keeps a b → Keeps b c → Keeps a c
keeps_more None b c p q = tt
keeps_more (Some x) None c p q = absurd p
keeps_more (Some x) (Some y) None p q = absurd q
keeps_more (Some x) (Some y) (Some z) p q = q ∙ p

-- if bytes are added to the pending ones, they follow the bytes of the file and those that were pending before
pub pends : (old held : Option (List ℕ)) (p x : List ℕ) (w : ℕ) → w ≤ length p
    → Keeps old (append_known held (drop w p)) → Appends old (append_known held (drop w (p ++ x))) x
pends None held p x w h k = tt
pends (Some u) None p x w h k = absurd k
pends (Some u) (Some v) p x w h k =
    ap (λ l. v ++ l) (drop-append-le w p x h) ∙ sym (append_assoc v (drop w p) x) ∙ ap (λ l. l ++ x) k

-- if nothing is pending, the bytes of the file are all
pub append_none : (x : Option (List ℕ)) → append_known x [] ≡ x
append_none None = refl
append_none (Some xs) = ap Some (append-nil xs)
