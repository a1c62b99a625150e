-- The bytes that were taken from a reading, and those that are left of it.
use Rattle.std.proofs.Common.{◌≡◌, ℕ, List, [], ◌++◌, Option, Some, None, IfSome, ap, sym, ◌∙◌}
use Rattle.std.proofs.lemmas.List.{append-nil}
use Rattle.command.proofs.NewFileLemmas.{keeps_more}
use Rattle.std.specs.Io.KnownBytes.{Keeps, IsAtEnd, prepend_known}

-- if no bytes were taken, all are left
pub took_none : (left : Option (List ℕ)) (p : List ℕ) → p ≡ []
    → Keeps (prepend_known [] left) (prepend_known p left)
took_none None p e = tt
took_none (Some u) p e = ap (λ l. l ++ u) e

-- at the end, the bytes that were taken are all bytes of the reading
took_all : (old new : Option (List ℕ)) (p : List ℕ) → Keeps (prepend_known [] old) (prepend_known p new)
    → IsAtEnd new → IfSome old (λ bytes. p ≡ bytes)
took_all None new p h e = tt
took_all (Some u) None p h e = absurd h
took_all (Some u) (Some v) p h e = sym (append-nil p) ∙ ap (λ l. p ++ l) (sym e) ∙ h

-- after a take that reaches the end, the bytes that were taken are all bytes of the reading
pub took_last : (first old new : Option (List ℕ)) (p q : List ℕ)
    → Keeps (prepend_known [] first) (prepend_known p old) → Keeps (prepend_known p old) (prepend_known q new)
    → IsAtEnd new → IfSome first (λ bytes. q ≡ bytes)
took_last first old new p q h k e = took_all first new q
    (keeps_more (prepend_known [] first) (prepend_known p old) (prepend_known q new) h k) e
