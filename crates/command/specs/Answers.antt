-- The effect of a request: what the program prints, with which status, or why it stops.
use Rattle.std.specs.Prelude.{◌≡◌, ℕ, ◌⊎◌, List, [], ◌∷◌, ◌++◌, codes, take, Ok, Err, MatchResult, IfOk}
use Rattle.std.specs.declared.option.Option.{Option}
use Rattle.std.specs.declared.result.Result.{Result}
use Rattle.std.specs.Io.KnownBytes.{Appends}
use Rattle.octets.specs.declared.fault.Fault.TheVariants.{OutOfMemory, Write}
use Rattle.command.specs.declared.failure.Failure.{Failure}
use Rattle.command.specs.declared.identity.Identity.{Identity}
use Rattle.command.specs.declared.failure.Failure.TheVariants.{Words as OfWords, Fault as OfFault}
use Rattle.command.specs.declared.words.PrintRequest.{PrintRequest}
use Rattle.command.specs.declared.words.PrintRequest.TheVariants.{Wrap, Unwrap, Seal, Open, Check}
use Rattle.command.specs.declared.words.Request.{Request}
use Rattle.command.specs.declared.words.Request.TheVariants.{Print, Write as OfWrite}
use Rattle.command.specs.declared.words.Refusal.{Refusal}
use Rattle.command.specs.declared.words.Refusal.TheVariants.{Help, Version, Words, OutOfMemory as NoMemory}
use Rattle.command.specs.declared.version.TheConstants.{VERSION}
use Rattle.aead.specs.Refusals.{WholeSealRefused, WholeOpenRefused}
use Rattle.command.specs.Aead.{IsSealed, IsOpened, IsRefused}
use Rattle.command.specs.Files.{Wrote}
use Rattle.command.specs.Hex.{hex_line}
use Rattle.command.specs.Names.{failure_line}
use Rattle.command.specs.Reports.{IsChecked, FileRefused}
use Rattle.command.specs.Requests.{HasTwoPaths}
use Rattle.command.specs.Statuses.{failure_status}
use Rattle.command.specs.Keywrap.{IsWrapped, IsUnwrapped, IsWrapRefused, WrapFault, UnwrapFault}

-- standard output failed, or the program is out of memory
abbrev pub IsOutputFailure : Failure → Type 0
IsOutputFailure e = (e ≡ OfFault OutOfMemory) ⊎ (e ≡ OfFault Write)

-- bytes with this property were printed as one line, with status 0
pub record Printed (property : List ℕ → Type 0) (before after : Option (List ℕ)) (status : ℕ) : Type 0 where
  pub bytes : List ℕ
  pub right : property bytes
  pub line : Appends before after (hex_line bytes)
  pub done : status ≡ 0

-- a request was answered, where each file gives these bytes in each reading: the contents of standard output before and after,
-- and the status
abbrev pub Answered : (List ℕ → ℕ → Option (List ℕ)) → (before after : Option (List ℕ)) → PrintRequest → ℕ
    → Type 0
Answered files before after (Seal inputs) status = Printed (IsSealed inputs) before after status
Answered files before after (Open inputs) status = Printed (IsOpened inputs) before after status
Answered files before after (Wrap key text pad) status =
    Printed (IsWrapped pad key.now text.now) before after status
Answered files before after (Unwrap key sealed pad) status =
    Printed (IsUnwrapped pad key.now sealed.now) before after status
Answered files before after (Check path) status = IsChecked (files path.now 0) before after status

-- the request is refused for this reason and nothing is printed, or standard output failed
abbrev pub Silent : (before after : Option (List ℕ)) → (refused : Failure → Type 0) → Failure → Type 0
Silent before after refused e = (refused e × (after ≡ before)) ⊎ IsOutputFailure e

-- a request is refused, where each file gives these bytes in each reading
abbrev pub Stopped : (List ℕ → ℕ → Option (List ℕ)) → (before after : Option (List ℕ)) → PrintRequest
    → Failure → Type 0
Stopped files before after (Seal inputs) e = Silent before after (IsRefused WholeSealRefused inputs) e
Stopped files before after (Open inputs) e = Silent before after (IsRefused WholeOpenRefused inputs) e
Stopped files before after (Wrap key text pad) e =
    Silent before after (IsWrapRefused (WrapFault pad) key.now text.now) e
Stopped files before after (Unwrap key sealed pad) e =
    Silent before after (IsWrapRefused (UnwrapFault pad) key.now sealed.now) e
Stopped files before after (Check path) e = Silent before after (FileRefused (files path.now 0)) e

-- the program's name and version, and LF
abbrev pub version_line : List ℕ
version_line = codes "aeadkit " ++ (VERSION.now ++ 10 ∷ [])

-- the answer to words that are not a request: help or the version is printed, with status 0, or the words are refused and
-- nothing is printed
abbrev pub IsRefusedAs : Refusal → Option (List ℕ) → Option (List ℕ) → Result ℕ Failure → Type 0
IsRefusedAs (Help text) before after result = MatchResult result (λ status. status ≡ 0) IsOutputFailure
IsRefusedAs Version before after result =
    MatchResult result (λ status. (status ≡ 0) × Appends before after version_line) IsOutputFailure
IsRefusedAs Words before after result = (result ≡ Err OfWords) × (after ≡ before)
IsRefusedAs NoMemory before after result = (result ≡ Err (OfFault OutOfMemory)) × (after ≡ before)

-- what is printed for a request or a refusal, and the status or the failure. `leads_to` are the identities of files, `contents`
-- the bytes that each file gives in each reading, `blank` those that it holds once it is made, and `taken` those of an output. A
-- file command prints nothing
abbrev pub Answers : {O : Type 0} → (leads_to : List ℕ → Option (Option Identity))
    → (contents : List ℕ → ℕ → Option (List ℕ)) → (blank : List ℕ → Option (List ℕ))
    → (taken : O → Option (List ℕ)) → (before after : Option (List ℕ))
    → Result Request Refusal → Result ℕ Failure → Type 0
Answers leads_to contents blank taken before after (Ok (Print request)) result =
    MatchResult result (Answered contents before after request) (Stopped contents before after request)
Answers leads_to contents blank taken before after (Ok (OfWrite request)) result =
    (after ≡ before) × Wrote leads_to contents blank taken request result
Answers leads_to contents blank taken before after (Err refusal) result = IsRefusedAs refusal before after result

-- the status that the program ends with: 0 or 1, or that of a failure
abbrev pub status_of : Result ℕ Failure → ℕ
status_of (Ok status) = status
status_of (Err failure) = failure_status failure

-- known bytes grow by a beginning of a line
abbrev pub AppendsBeginning : (before after : Option (List ℕ)) → List ℕ → Type 0
AppendsBeginning before after line = (n : ℕ) × Appends before after (take n line)

-- what is printed on standard error: nothing, or a beginning of the line that names the failure
abbrev pub NamesFailure : (before after : Option (List ℕ)) → Result ℕ Failure → Type 0
NamesFailure before after result = MatchResult result (λ _. after ≡ before)
    (λ failure. AppendsBeginning before after (failure_line failure))

-- what is printed on standard output and on standard error, and the status, if the words are read as this
pub record Ends {O : Type 0} (leads_to : List ℕ → Option (Option Identity))
    (contents : List ℕ → ℕ → Option (List ℕ)) (blank : List ℕ → Option (List ℕ))
    (taken : O → Option (List ℕ)) (before after err_before err_after : Option (List ℕ))
    (read : Result Request Refusal) (status : ℕ) : Type 0 where
  pub result : Result ℕ Failure
  pub answers : Answers leads_to contents blank taken before after read result
  pub named : NamesFailure err_before err_after result
  pub status_is : status ≡ status_of result

-- what is printed, and the status, for words that are read as some request or refusal
pub record Runs {O : Type 0} (leads_to : List ℕ → Option (Option Identity))
    (contents : List ℕ → ℕ → Option (List ℕ)) (blank : List ℕ → Option (List ℕ))
    (taken : O → Option (List ℕ)) (before after err_before err_after : Option (List ℕ)) (status : ℕ)
    : Type 0 where
  pub read : Result Request Refusal
  -- a file is never written to the path that it is read from
  pub two_paths : IfOk read HasTwoPaths
  pub ends : Ends leads_to contents blank taken before after err_before err_after read status
