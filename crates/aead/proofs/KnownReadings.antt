-- The steps of the stream opener over a reading whose bytes are known.
use Rattle.std.proofs.Common.{◌≡◌, ℕ, List, [], ◌≤◌, ◌-◌, inl, inr, length, ap, Option, Some, None}
use Rattle.std.proofs.Common.{Result, Err, IfSome}
use Rattle.octets.specs.declared.fault.Fault.{Fault}
use Rattle.aead.specs.declared.engine.passes.Finding.{Finding}
use Rattle.aead.specs.Sealing.{Setting, mask_of}
use Rattle.aead.specs.Refusals.{DueToBoth}
use Rattle.aead.specs.Code.Passes.{Stopped}
use Rattle.aead.specs.Code.Findings.{HasPassedReading}
use Rattle.aead.specs.Code.Returns.{VerifyReturns, WriteReturns, verify_answer, write_answer}
use Rattle.aead.proofs.Findings.{whole_found, whole_given, stopped_given}

pub verify_known : (s : Setting) (tag : List ℕ) (len : ℕ) (l l' o o' : Option (List ℕ)) (f : Finding)
    (read read' : ℕ) (r : Result (Unit {0}) Fault) → length tag ≡ 16 → 16 ≤ len →
    HasPassedReading s tag len l l' o o' f → r ≡ verify_answer f → read' ≡ read
    → IfSome l (λ v. VerifyReturns s tag len v read read' r)
verify_known s tag len None l' o o' f read read' r size low w e kept = tt
verify_known s tag len (Some v) l' o o' f read read' r size low w e kept =
    inl (f, e, whole_found s tag len v l' o o' f size low w, kept)

pub write_known : (s : Setting) (tag : List ℕ) (len : ℕ) (l l' o o' : Option (List ℕ)) (f : Finding)
    (read read' wrote wrote' : ℕ) (r : Result (Unit {0}) Fault) → length tag ≡ 16 → 16 ≤ len →
    HasPassedReading s tag len l l' o o' f → r ≡ write_answer f → read' ≡ read → wrote' ≡ wrote
    → IfSome l (λ w. WriteReturns s tag len w o o' read read' wrote wrote' r)
write_known s tag len None l' o o' f read read' wrote wrote' r size low w e kept kept' = tt
write_known s tag len (Some v) l' o o' f read read' wrote wrote' r size low w e kept kept' =
    inl (
      whole_given s tag len v l' o o' f w,
      (f, e, whole_found s tag len v l' o o' f size low w, kept, kept'),
    )

pub write_stopped : (s : Setting) (tag : List ℕ) (len : ℕ) (l l' o o' : Option (List ℕ))
    (read read' wrote wrote' : ℕ) (f : Fault) →
    Stopped (mask_of s tag) [] (len - 16) l l' o o'
    → DueToBoth {T = ℕ} [] read read' wrote wrote' (Err f) →
    IfSome l (λ w. WriteReturns s tag len w o o' read read' wrote wrote' (Err f))
write_stopped s tag len None l' o o' read read' wrote wrote' f w blame = tt
write_stopped s tag len (Some v) l' o o' read read' wrote wrote' f w blame =
    let k = stopped_given s tag (len - 16) v l' o o' w in
    inr (
      k.0,
      k.1,
      elim blame [ inl b ↦ absurd b.0 | inr (inl b) ↦ inl (ap Err b.0, b.1) | inr (inr b) ↦ inr (ap Err b.0, b.1) ],
    )
