-- The results of the file commands, and the contents of the file that they write.
use Rattle.std.specs.Prelude.{◌≡◌, ℕ, ◌⊎◌, Bool, true, false, List, ◌∷◌, ◌++◌, Option, Some, Result, Ok, Err}
use Rattle.std.specs.Prelude.{IfSome, IfOk, IfErr, None, is_some, ⊤}
use Rattle.octets.specs.declared.fault.Fault.{Fault}
use Rattle.octets.specs.declared.fault.Fault.TheVariants.{Read, Write, TextTooLong, OutOfMemory}
use Rattle.aead.specs.Refusals.{IsOneOf, late_in_readings}
use Rattle.aead.specs.Suites.{construction_of, is_one_pass}
use Rattle.aead.specs.Sealing.{Setting}
use Rattle.aead.specs.SealStream.{SealsStream}
use Rattle.aead.specs.SealSivStream.{SealsSivStream, SivCounts}
use Rattle.aead.specs.Verdict.{OpensStream, FailureCounts, IsBeginning}
use Rattle.command.specs.declared.failure.Failure.{Failure}
use Rattle.command.specs.declared.failure.Failure.TheVariants.{Words, Fault as OfFault}
use Rattle.command.specs.declared.identity.Identity.{Identity}
use Rattle.command.specs.declared.words.Inputs.{Inputs}
use Rattle.command.specs.declared.words.FileRequest.{FileRequest}
use Rattle.command.specs.declared.words.FileCommand.{FileCommand}
use Rattle.command.specs.declared.words.FileCommand.TheVariants.{Seal, Open}
use Rattle.command.specs.Aead.{InputsRefused, IsCalled, CallFailed}
use Rattle.command.specs.Identities.{IsOneFile}
use Rattle.command.specs.NewFiles.{held}

-- the result of an engine
abbrev pub Answer : Type 0
Answer = Result (Unit {0}) Fault

-- the bytes given for one reading of a text, under a suite with the tag over the ciphertext, for any counts of failures
pub record SealsOnce (s : Setting) (a given : List ℕ) (r : Answer) : Type 0 where
  pub read : ℕ
  pub read' : ℕ
  pub wrote : ℕ
  pub wrote' : ℕ
  pub is : SealsStream s a given read read' wrote wrote' r

-- the bytes given for two readings of a text, under AES-GCM-SIV
pub record SealsTwice (s : Setting) (a b given : List ℕ) (r : Answer) : Type 0 where
  pub before : SivCounts
  pub after : SivCounts
  pub is : SealsSivStream s a b given before after r

-- the bytes given for three readings of sealed bytes
pub record OpensThrice (s : Setting) (m v w given : List ℕ) (r : Answer) : Type 0 where
  pub before : FailureCounts
  pub after : FailureCounts
  pub is : OpensStream s m v w given before after r

-- a statement about what an engine gave, from a property of the given bytes
abbrev pub Giving : Type 1
Giving = (List ℕ → Type 0) → Type 0

-- sealing in one reading or in two, if the bytes of the readings are known
abbrev pub SealingBy : Bool → (ℕ → Option (List ℕ)) → Giving → Setting → Answer → Type 0
SealingBy true readings giving s r = IfSome (readings 0) (λ a. giving (λ given. SealsOnce s a given r))
SealingBy false readings giving s r =
    IfSome (readings 0) (λ a. IfSome (readings 1) (λ b. giving (λ given. SealsTwice s a b given r)))

-- sealing, in as many readings as the suite takes
abbrev pub Sealing : (ℕ → Option (List ℕ)) → Giving → Setting → Answer → Type 0
Sealing readings giving s r = SealingBy (is_one_pass (construction_of s.suite)) readings giving s r

-- opening, if the bytes of the readings are known
abbrev pub Opening : (ℕ → Option (List ℕ)) → Giving → Setting → Answer → Type 0
Opening readings giving s r = IfSome (readings 0) (λ m. IfSome (readings 1) (λ v. IfSome (readings 2) (λ w.
    giving (λ given. OpensThrice s m v w given r))))

-- the engine of a file command
abbrev pub Engine : FileCommand → (ℕ → Option (List ℕ)) → Giving → Setting → Answer → Type 0
Engine Seal readings giving s r = Sealing readings giving s r
Engine Open readings giving s r = Opening readings giving s r

-- a file holds what was taken before, followed by all bytes that were given, which have this property
abbrev pub HoldsAll : Option (List ℕ) → Option (List ℕ) → Giving
HoldsAll taken held P = IfSome taken (λ before. (given : List ℕ) × (held ≡ Some (before ++ given)) × P given)

-- a file holds a prefix of what was taken before followed by the bytes that were given, which have this property
abbrev pub HoldsStart : Option (List ℕ) → Option (List ℕ) → Giving
HoldsStart taken held P =
    IfSome taken (λ before. (given : List ℕ)
    × ((h : List ℕ) × (held ≡ Some h) × IsBeginning h (before ++ given)) × P given)

-- no call was made: the words don't give inputs, memory ran out, or a file was not opened
abbrev pub NoCall : Inputs → Failure → Type 0
NoCall words e = InputsRefused words e ⊎ ((e ≡ OfFault Read) × IsCalled words (λ _ _. ⊤))

-- a file command succeeded: the file holds what the engine gave
abbrev pub FileDone : (Giving → Setting → Answer → Type 0) → Inputs → (taken held : Option (List ℕ)) → Type 0
FileDone engine words taken held = IsCalled words (λ s body. engine (HoldsAll taken held) s (Ok tt))

-- a file command failed: both paths lead to one file or no call was made, and the file is unchanged; or the file holds a prefix
-- of what the engine gave, which returned this fault, or succeeded before the last write failed
abbrev pub FileStopped : (Giving → Setting → Answer → Type 0) → Inputs → (taken held : Option (List ℕ))
    → (same : Type 0) → Failure → Type 0
FileStopped engine words taken held same e =
    (((e ≡ Words) ⊎ NoCall words e) × same)
    ⊎ CallFailed (λ s body f. engine (HoldsStart taken held) s (Err f)
    ⊎ ((f ≡ Write) × engine (HoldsStart taken held) s (Ok tt))) words e

-- one file is refused with `Words`, unless memory ran out, and two files are not
abbrev pub RefusesIfOne : Result ℕ Failure → Option Identity → Option Identity → Type 0
RefusesIfOne r a b = (IsOneFile a b → (r ≡ Err Words) ⊎ (r ≡ Err (OfFault OutOfMemory)))
    × (r ≡ Err Words → IsOneFile a b)

-- a request whose paths lead to one file is refused, if it is known what they lead to
abbrev pub RefusesOneFile : (List ℕ → Option (Option Identity)) → FileRequest → Result ℕ Failure → Type 0
RefusesOneFile leads_to request r = IfSome (leads_to request.input.now)
    (λ a. IfSome (leads_to request.output.now) (λ b. RefusesIfOne r a b))

-- the faults that a file command may return after some bytes were given
abbrev pub late_faults : FileCommand → List Fault
late_faults Seal = TextTooLong ∷ late_in_readings
late_faults Open = late_in_readings

-- the failure is one of these faults
abbrev pub StopsLate : FileCommand → Failure → Type 0
StopsLate command (OfFault f) = IsOneOf (late_faults command) f
StopsLate command _ = ⊥

-- the engine of a request, where each file gives these bytes in each reading
abbrev pub EngineOf : (List ℕ → ℕ → Option (List ℕ)) → FileRequest → Giving → Setting → Answer → Type 0
EngineOf contents request = Engine request.command (contents request.input.now)

-- the result of a request that writes a file, and the file when it is closed. `leads_to` are the identities of files, `contents`
-- the bytes that each file gives in each reading, `blank` those that it holds once it is made, and `taken` those of an output
pub record Wrote {O : Type 0} (leads_to : List ℕ → Option (Option Identity))
    (contents : List ℕ → ℕ → Option (List ℕ)) (blank : List ℕ → Option (List ℕ))
    (taken : O → Option (List ℕ)) (request : FileRequest) (r : Result ℕ Failure) : Type 0 where
  -- the output, if it was made
  pub file : Option O
  -- with `Words` if both paths lead to one file; then it was not made, as `unmade` says
  pub two_files : RefusesOneFile leads_to request r
  -- on `Ok` it was made, and holds all that the engine gave
  pub done : IfOk r (λ status. (status ≡ 0) × (is_some file ≡ true) × FileDone (EngineOf contents request)
      request.inputs (blank request.output.now) (held (blank request.output.now) taken file))
  -- on a failure no call was made and neither was the output, or it holds a prefix of what the engine gave
  pub stopped : IfErr r (FileStopped (EngineOf contents request) request.inputs (blank request.output.now)
      (held (blank request.output.now) taken file) (file ≡ None))
  -- on a failure other than the late ones it was not made
  pub unmade : IfErr r (λ e. StopsLate request.command e ⊎ (file ≡ None))
