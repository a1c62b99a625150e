-- Why a call is refused: its checks in their order, of which the first that fails says the fault.
use Rattle.std.specs.Prelude.{◌==◌, Bool, true, false, ⊤, List, [], ◌∷◌}
use Rattle.octets.specs.declared.fault.Fault.{Fault}
use Rattle.octets.specs.Numbers.{fault_number}

-- a check of a call: one that refuses with this fault unless something holds; an allocation, which may fail at any time; or a
-- demand that the call refuses with a status that is not of a fault
infix 70 ◌unless◌
pub data Check : Type 1 where
  ◌unless◌ : Fault → Type 0 → Check
  perhaps : Fault → Check
  demands : Type 0 → Check

-- the first of two statements if the test is true, else the second
abbrev pub either : Bool → Type 0 → Type 0 → Type 0
either true p q = p
either false p q = q

-- the fault is that of a check, which fails; or that check passes, and the fault has a later cause
abbrev pub FailsOr : Check → (later : Fault → Type 0) → Fault → Type 0
FailsOr (f unless p) later e = either (fault_number e == fault_number f) (¬ p) (p × later e)
FailsOr (perhaps f) later e = either (fault_number e == fault_number f) ⊤ (later e)
FailsOr (demands p) later e = p × later e

-- the fault is that of the first check that fails: this one fails, and what those before it demand holds. A fault that stands
-- at no check is never returned
abbrev pub FirstOf : List Check → Fault → Type 0
FirstOf [] e = ⊥
FirstOf (check ∷ checks) e = FailsOr check (FirstOf checks) e
