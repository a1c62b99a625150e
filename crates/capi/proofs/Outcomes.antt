-- Consequences of the number of an outcome.
use Rattle.std.proofs.Common.{◌≡◌, ℕ, ◌∙◌, sym, arith, inl, inr, Result, Ok, Err, MatchResult}
use Rattle.octets.specs.declared.fault.Fault.{Fault}
use Rattle.octets.specs.declared.fault.Fault.TheVariants.{KeyLength, NonceLength, TextTooLong, AadTooLong}
use Rattle.octets.specs.declared.fault.Fault.TheVariants.{TooShort, TagMismatch, WrapLength, WrapIntegrity}
use Rattle.octets.specs.declared.fault.Fault.TheVariants.{OutOfMemory, StreamEnd, Read, Write, SourceChanged}
use Rattle.octets.specs.Numbers.{HasOutcome, fault_number, outcome_number}
use Rattle.capi.specs.Suites.{not_begun, output_length, HasOutcomeOr}

-- no fault has the number 0
pub not_zero : (f : Fault) → fault_number f ≡ 0 → ⊥
not_zero KeyLength e = omega (arith, e)
not_zero NonceLength e = omega (arith, e)
not_zero TextTooLong e = omega (arith, e)
not_zero AadTooLong e = omega (arith, e)
not_zero TooShort e = omega (arith, e)
not_zero TagMismatch e = omega (arith, e)
not_zero WrapLength e = omega (arith, e)
not_zero WrapIntegrity e = omega (arith, e)
not_zero OutOfMemory e = omega (arith, e)
not_zero StreamEnd e = omega (arith, e)
not_zero Read e = omega (arith, e)
not_zero Write e = omega (arith, e)
not_zero SourceChanged e = omega (arith, e)

-- a call whose status is 0 did what its contract says
pub done : (n : ℕ) (D : Type 0) (R : Fault → Type 0) → HasOutcome n D R → n ≡ 0 → D
done n D R (Ok x, (e, d)) z = d
done n D R (Err f, (e, r)) z = absurd (not_zero f (sym e ∙ z))

-- a call into another output whose status is 0 did what its contract says
pub done_to : (n : ℕ) (D : Type 0) (R : Fault → Type 0) (M : Type 0) → HasOutcomeOr output_length n D R M → n ≡ 0 → D
done_to n D R M (inl h) z = done n D R h z
done_to n D R M (inr (e, misfit)) z = absurd (omega (arith, e, z))

-- a fact that holds after success may be replaced by one that follows from it
pub done_as : (r : Result (Unit {0}) Fault) (D E : Type 0) (R : Fault → Type 0) → (D → E)
    → MatchResult r (λ _. D) R → MatchResult r (λ _. E) R
done_as (Ok x) D E R f h = f h
done_as (Err e) D E R f h = h

-- no fault has the number of a call on a struct in which nothing is begun
fault_begun : (f : Fault) → fault_number f ≡ not_begun → ⊥
fault_begun KeyLength e = omega (arith, e)
fault_begun NonceLength e = omega (arith, e)
fault_begun TextTooLong e = omega (arith, e)
fault_begun AadTooLong e = omega (arith, e)
fault_begun TooShort e = omega (arith, e)
fault_begun TagMismatch e = omega (arith, e)
fault_begun WrapLength e = omega (arith, e)
fault_begun WrapIntegrity e = omega (arith, e)
fault_begun OutOfMemory e = omega (arith, e)
fault_begun StreamEnd e = omega (arith, e)
fault_begun Read e = omega (arith, e)
fault_begun Write e = omega (arith, e)
fault_begun SourceChanged e = omega (arith, e)

-- no outcome has the number of a call on a struct in which nothing is begun
pub begun : (n : ℕ) (r : Result (Unit {0}) Fault) → n ≡ outcome_number r → n ≡ not_begun → ⊥
begun n (Ok x) e none = omega (arith, e, none)
begun n (Err f) e none = fault_begun f (sym e ∙ none)
