-- The records of a file have keys and nonces of their suites' lengths.
use Rattle.std.proofs.Common.{◌≡◌, ℕ, List, [], ◌∷◌, ◌++◌, Ok}
use Rattle.std.proofs.lemmas.Bool.{eqb-true}
use Rattle.vectors.specs.declared.suite.Format.{Format}
use Rattle.vectors.specs.declared.suite.Algorithm.{Algorithm}
use Rattle.vectors.specs.declared.suite.Algorithm.TheVariants.{Aead, Wrap, WrapPad}
use Rattle.vectors.specs.Suites.{fields_of}
use Rattle.vectors.specs.Grammar as grammar
use Rattle.vectors.specs.Grammar.{Record, unread, with_text, Fills, IsRecord, Formatted}
use Rattle.vectors.specs.Code.Judging.{IsSized}
use Rattle.vectors.specs.Code.Steps as steps
use Rattle.vectors.specs.Code.Steps.{Place, run}
use Rattle.vectors.proofs.Places.{At, lines_at}

-- a record whose fields are filled has a key and a nonce of its suite's lengths
filled_sized : (s : Algorithm) (ms : List (List ℕ)) (r : Record) → Fills (fields_of s) (unread s) ms r → IsSized r
filled_sized (Aead s) _ _
    (grammar.field h (grammar.field k (grammar.field a (grammar.field x grammar.nothing)))) =
    record { key = eqb-true _ _ h.size; nonce = λ _. eqb-true _ _ k.size }
filled_sized (Wrap s) _ _ (grammar.field h (grammar.field x grammar.nothing)) =
    record { key = eqb-true _ _ h.size; nonce = λ e. absurd cc }
filled_sized (WrapPad s) _ _ (grammar.field h (grammar.field x grammar.nothing)) =
    record { key = eqb-true _ _ h.size; nonce = λ e. absurd cc }

-- each record has a key and a nonce of its suite's lengths
AreSized : List Record → Type 0
AreSized [] = Unit {0}
AreSized (r ∷ rs) = IsSized r × AreSized rs

-- records of their suites' lengths, with one more such record, have their suites' lengths
more_sized : (rs : List Record) (r : Record) → AreSized rs → IsSized r → AreSized (rs ++ r ∷ [])
unfolding AreSized
more_sized [] r h k = (k, tt)
more_sized (s ∷ rs) r h k = (h.0, more_sized rs r h.1 k)

-- the last of some records of their suites' lengths has its suite's lengths
last_sized : (rs : List Record) (r : Record) → AreSized (rs ++ r ∷ []) → IsSized r
unfolding AreSized
last_sized [] r h = h.0
last_sized (s ∷ rs) r h = last_sized rs r h.1

-- a record of the grammar has its suite's lengths
record_sized : (F : Format) (ms : List (List ℕ)) (r : Record) → IsRecord F ms r → IsSized r
record_sized F _ _ (grammar.made {suite = s} {ms = ms} {r = r} a h e) = let k = filled_sized s ms r h in
    record { key = k.key; nonce = k.nonce }

-- the records after a format line have their suites' lengths
formatted_sized : (F : Format) (ls : List (List ℕ)) (rs : List Record) → Formatted F ls rs → AreSized rs
unfolding AreSized
formatted_sized F _ _ (grammar.starts gaps h a) = tt
formatted_sized F _ _ (grammar.gap {ls = ls} l {rs = rs} h g) = formatted_sized F ls rs h
formatted_sized F _ _ (grammar.adds {ls = ls} {ms = ms} {rs = rs} {r = r} h m) =
    more_sized rs r (formatted_sized F ls rs h) (record_sized F ms r m)

-- the last record before a place has its suite's lengths
at_sized : (p : Place) (ls : List (List ℕ)) (rs : List Record) (r : Record) → At p ls (rs ++ r ∷ [])
    → IsSized r
at_sized steps.start ls rs r h = absurd (some rs h.1) where
  some : (rs : List Record) → (rs ++ r ∷ []) ≡ [] → ⊥
  some [] e = cc
  some (s ∷ ss) e = cc
at_sized (steps.between F) ls rs r h = last_sized rs r (formatted_sized F ls (rs ++ r ∷ []) h)
at_sized (steps.fields F left s) ls rs r h =
    last_sized rs r (formatted_sized F h.front (rs ++ r ∷ []) h.formatted)
at_sized (steps.text F s) ls rs r h = last_sized rs r (formatted_sized F h.front (rs ++ r ∷ []) h.formatted)

-- the last record that was read has its suite's lengths
pub last_read_sized : (ls : List (List ℕ)) (p : Place) (rs : List Record) (r : Record)
    → run steps.start ls ≡ Ok (p, rs ++ r ∷ []) → IsSized r
last_read_sized ls p rs r e = at_sized p ls rs r (lines_at ls (p, rs ++ r ∷ []) e)
