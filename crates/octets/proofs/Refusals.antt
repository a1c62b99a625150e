-- Consequences of the order of a call's checks.
use Rattle.std.proofs.Common.{Bool, true, false, List, [], ◌∷◌, ◌++◌}
use Rattle.std.specs.Prelude.{◌==◌, ⊤}
use Rattle.octets.specs.declared.fault.Fault.{Fault}
use Rattle.octets.specs.Numbers.{fault_number}
use Rattle.octets.specs.Refusals.{Check, ◌unless◌, perhaps, demands, either, FailsOr, FirstOf}

-- if the demand holds, the cause is a later one
second : (test : Bool) (p later : Type 0) → p → either test (¬ p) (p × later) → later
second true p later holds h = absurd (h holds)
second false p later holds h = h.1

-- a fault is not that of a check that passes
pub passed : (f : Fault) (p : Type 0) (checks : List Check) (e : Fault) → p → FirstOf (f unless p ∷ checks) e
    → FirstOf checks e
passed f p checks e holds h = second (fault_number e == fault_number f) p (FirstOf checks e) holds h

-- the second of two statements may be replaced by one that follows from it
weaker : (test : Bool) (p q r : Type 0) → (q → r) → either test p q → either test p r
weaker true p q r follows h = h
weaker false p q r follows h = follows h

-- what is said after a check may be replaced by what follows from it
pub then : (check : Check) (P Q : Fault → Type 0) (e : Fault) → (P e → Q e) → FailsOr check P e → FailsOr check Q e
then (f unless p) P Q e follows h =
    weaker (fault_number e == fault_number f) (¬ p) (p × P e) (p × Q e) (λ x. (x.0, follows x.1)) h
then (perhaps f) P Q e follows h = weaker (fault_number e == fault_number f) ⊤ (P e) (Q e) follows h
then (demands p) P Q e follows h = (h.0, follows h.1)

-- a fault of some checks is a fault of them and more
pub more : (checks after : List Check) (e : Fault) → FirstOf checks e → FirstOf (checks ++ after) e
more [] after e h = absurd h
more (check ∷ checks) after e h = then check (FirstOf checks) (FirstOf (checks ++ after)) e (more checks after e) h
