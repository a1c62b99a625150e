-- Which devices the faults of the engines, of the inputs and of the written file blame.
use Rattle.std.proofs.Common.{◌≡◌, ℕ, ◌⊎◌, inl, inr, Bool, true, false, List, [], ◌∷◌, Ok, Err, ◌<◌}
use Rattle.std.proofs.Common.{Result, IfErr, is_ok, refl, sym, ◌∙◌, ap, arith, true≢false}
use Rattle.std.proofs.lemmas.Bool.{and_parts}
use Rattle.std.specs.List.{list_all}
use Rattle.octets.specs.declared.fault.Fault.{Fault}
use Rattle.octets.specs.declared.fault.Fault.TheVariants.{Read, Write, OutOfMemory, AadTooLong, TextTooLong}
use Rattle.octets.specs.declared.fault.Fault.TheVariants.{TooShort, TagMismatch, SourceChanged}
use Rattle.octets.specs.Device.{Failed}
use Rattle.aead.specs.Refusals.{IsOneOf, DueTo, DueToBoth}
use Rattle.aead.specs.SealSivStream.{SivCounts, SivBlames}
use Rattle.aead.specs.Verdict.{BlamesRightly, counted}
use Rattle.command.specs.declared.failure.Failure.{Failure}
use Rattle.command.specs.declared.failure.Failure.TheVariants.{Fault as OfFault}
use Rattle.command.specs.Blames.{InputMayFail, OutputMayFail, Blames}

-- whether a fault blames no device
abbrev blames_none : Fault → Bool
blames_none Read = false
blames_none Write = false
blames_none _ = true

-- if no fault of a list blames a device, a fault from the list blames none
one_of_none : (own : List Fault) (f : Fault) → list_all blames_none own ≡ true → IsOneOf own f
    → blames_none f ≡ true
one_of_none [] f clean h = absurd h
one_of_none (g ∷ own) f clean h =
    let both = and_parts (blames_none g) (list_all blames_none own) clean in
    elim h [ inl x ↦ rw x both.0 | inr x ↦ one_of_none own f both.1 x ]

-- a call over devices, whose own faults blame no device, blames only devices that failed
due_blames : {T : Type 0} (own : List Fault) (none reading output input : Type 0) (r : Result T Fault)
    → list_all blames_none own ≡ true → (reading → input) → DueTo own none reading output r
    → Blames (λ f. f) input output r
due_blames own none reading output input (Ok x) clean to h = tt
due_blames own none reading output input (Err f) clean to h = (
  λ e. elim h [
    | inl x ↦ absurd (true≢false (sym (one_of_none own f clean x.0) ∙ ap blames_none e))
    | inr x ↦ elim x [ inl y ↦ to y.1 | inr y ↦ let p : f ≡ Write = y.0 in absurd (cc) ]
  ],
  λ e. elim h [
    | inl x ↦ absurd (true≢false (sym (one_of_none own f clean x.0) ∙ ap blames_none e))
    | inr x ↦ elim x [ inl y ↦ let p : f ≡ Read = y.0 in absurd (cc) | inr y ↦ y.1 ]
  ],
)

-- sealing in one reading blames only devices that failed
pub seal_blames : {D : Type 0} (may_fail : ℕ → Bool) (failures : D → ℕ) (text text' : D) (wrote wrote' : ℕ)
    (r : Result (Unit {0}) Fault)
    → DueToBoth (AadTooLong ∷ TextTooLong ∷ []) (failures text) (failures text') wrote wrote' r
    → Blames (λ f. f) (InputMayFail may_fail failures) (Failed wrote wrote') r
seal_blames may_fail failures text text' wrote wrote' r h =
    due_blames (AadTooLong ∷ TextTooLong ∷ []) ((failures text' ≡ failures text) × (wrote' ≡ wrote))
    (Failed (failures text) (failures text')) (Failed wrote wrote') (InputMayFail may_fail failures) r refl
    (λ x. inr ∣ (text, text', x) ∣₁) h

-- sealing in two readings blames only devices that failed
pub siv_blames : {D : Type 0} (may_fail : ℕ → Bool) (failures : D → ℕ) (first first' second second' : D)
    (wrote wrote' : ℕ) (r : Result (Unit {0}) Fault)
    → SivBlames (AadTooLong ∷ TextTooLong ∷ SourceChanged ∷ [])
    (record { first = failures first; second = failures second; outlet = wrote })
    (record { first = failures first'; second = failures second'; outlet = wrote' }) r
    → Blames (λ f. f) (InputMayFail may_fail failures) (Failed wrote wrote') r
siv_blames may_fail failures first first' second second' wrote wrote' r h =
    let before : SivCounts = record { first = failures first; second = failures second; outlet = wrote } in
    let after : SivCounts = record { first = failures first'; second = failures second'; outlet = wrote' } in
    let to : Failed (failures first) (failures first') ⊎ Failed (failures second) (failures second')
    → InputMayFail may_fail failures =
    λ x. elim x [ inl y ↦ inr ∣ (first, first', y) ∣₁ | inr y ↦ inr ∣ (second, second', y) ∣₁ ] in
    due_blames (AadTooLong ∷ TextTooLong ∷ SourceChanged ∷ []) (after ≡ before)
    (Failed (failures first) (failures first') ⊎ Failed (failures second) (failures second'))
    (Failed wrote wrote') (InputMayFail may_fail failures) r refl to h

-- opening blames only devices that failed
pub open_blames : {D : Type 0} (may_fail : ℕ → Bool) (failures : D → ℕ)
    (measure measure' verify verify' write write' : D) (wrote wrote' : ℕ) (r : Result (Unit {0}) Fault)
    → BlamesRightly (counted (failures measure) (failures verify) (failures write) wrote)
    (counted (failures measure') (failures verify') (failures write') wrote') r
    → Blames (λ f. f) (InputMayFail may_fail failures) (Failed wrote wrote') r
open_blames may_fail failures measure measure' verify verify' write write' wrote wrote' r h =
    let to : Failed (failures measure) (failures measure') ⊎ Failed (failures verify) (failures verify')
    ⊎ Failed (failures write) (failures write') → InputMayFail may_fail failures =
    λ x. elim x [
      | inl y ↦ inr ∣ (measure, measure', y) ∣₁
      | inr y ↦ elim y [ inl z ↦ inr ∣ (verify, verify', z) ∣₁ | inr z ↦ inr ∣ (write, write', z) ∣₁ ]
    ] in
    due_blames (AadTooLong ∷ TextTooLong ∷ TooShort ∷ TagMismatch ∷ SourceChanged ∷ [])
    (counted (failures measure') (failures verify') (failures write') wrote'
    ≡ counted (failures measure) (failures verify) (failures write) wrote)
    (Failed (failures measure) (failures measure') ⊎ Failed (failures verify) (failures verify')
    ⊎ Failed (failures write) (failures write'))
    (Failed wrote wrote') (InputMayFail may_fail failures) r refl to h

-- a file that could not be opened blames only an input that can fail
pub unopened_blames : {D : Type 0} (may_fail : ℕ → Bool) (failures : D → ℕ) (output : Type 0) (reading : ℕ)
    (f : Fault) → ((f ≡ Read) × (may_fail reading ≡ true)) ⊎ (f ≡ OutOfMemory)
    → Blames {T = Unit {0}} (λ f. f) (InputMayFail may_fail failures) output (Err f)
unopened_blames may_fail failures output reading f h = (
  λ e. elim h [ inl x ↦ inl (reading, x.1) | inr x ↦ absurd (cc) ],
  λ e. elim h [ inl x ↦ let p : f ≡ Read = x.0 in absurd (cc) | inr x ↦ absurd (cc) ],
)

-- as the failure that stops the program, a fault blames the same devices
pub fault_blames : (input output : Type 0) (f : Fault) → Blames {T = Unit {0}} (λ f. f) input output (Err f)
    → Blames {T = Unit {0}} OfFault input output (Err (OfFault f))
fault_blames input output f h = (
  λ e. let p : f ≡ Read = (cc) in h.0 p,
  λ e. let p : f ≡ Write = (cc) in h.1 p,
)

-- the count of a device that failed is not 0
failed_some : (before after : ℕ) → Failed before after → 0 < after
failed_some before after h = elim h [ inl x ↦ omega arith | inr x ↦ omega arith ]

-- an error that blames the failure count of the written file blames the output
pub count_blames : (input output : Type 0) (before after : ℕ) (e : Failure) → (0 < after → output)
    → Blames {T = Unit {0}} OfFault input (Failed before after) (Err e)
    → Blames {T = Unit {0}} OfFault input output (Err e)
count_blames input output before after e to h = (h.0, λ p. to (failed_some before after (h.1 p)))

-- if making a file may fail in this storage, the output may fail
pub making_may_fail : {S D : Type 0} (may_fail : S → Bool) (failures : D → ℕ) (files : S)
    → may_fail files ≡ true → OutputMayFail may_fail failures
making_may_fail may_fail failures files h = ∣ inl (files, h) ∣₁

-- if a file could not be synced, the output may fail
pub syncing_may_fail : {S D T E : Type 0} (may_fail : S → Bool) (failures : D → ℕ) (files : S) (r : Result T E)
    → IfErr r (λ _. may_fail files ≡ true) → is_ok r ≡ false → OutputMayFail may_fail failures
syncing_may_fail may_fail failures files (Ok x) h e = absurd (cc)
syncing_may_fail may_fail failures files (Err x) h e = ∣ inl (files, h) ∣₁
