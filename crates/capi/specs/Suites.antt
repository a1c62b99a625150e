-- The statuses of calls at C.
use Rattle.std.specs.Prelude.{◌≡◌, ◌⊎◌, ℕ, ◌+◌, ◌<◌, ◌≤◌}
use Rattle.octets.specs.Numbers.{HasOutcome}
use Rattle.octets.specs.declared.fault.Fault.{Fault}

-- the status of a call if no suite has the given number
abbrev pub unknown_suite : ℕ
unknown_suite = 14

-- the status of a call on a struct in which nothing is begun or kept
abbrev pub not_begun : ℕ
not_begun = 15

-- the status of a call whose output is not as long as its result
abbrev pub output_length : ℕ
output_length = 16

-- the status is that of an outcome with these facts, or it is `other` and the fact `misfit` holds
abbrev pub HasOutcomeOr : (other status : ℕ) (done : Type 0) (refused : Fault → Type 0) (misfit : Type 0) → Type 0
HasOutcomeOr other status done refused misfit =
    HasOutcome status done refused ⊎ ((status ≡ other) × misfit)

-- the status of a call that adds bytes to those counted so far: 0 if all of them are within the limit, and this fault if they are
-- past it
abbrev pub FitsOr : Fault → (status count added limit : ℕ) → Type 0
FitsOr fault status count added limit =
    HasOutcome status (count + added ≤ limit) (λ e. (e ≡ fault) × (limit < count + added))

-- the status is 0, or the number of this fault
abbrev pub IsDoneOr : Fault → ℕ → Type 0
IsDoneOr fault status = HasOutcome status (Unit {0}) (λ e. e ≡ fault)
