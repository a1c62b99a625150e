-- The result of `check` for a file, and the lines that it prints.
use Rattle.std.specs.Prelude.{◌≡◌, ℕ, ◌≤◌, List, [], ◌∷◌, ◌++◌, codes, flat_map, IfSome, ⊤, ◌↔◌}
use Rattle.std.specs.declared.option.Option.{Option}
use Rattle.std.specs.Fmt.{decimal}
use Rattle.std.specs.Io.KnownBytes.{Appends}
use Rattle.octets.specs.declared.fault.Fault.TheVariants.{Read, OutOfMemory}
use Rattle.vectors.specs.Lines.{lines_of}
use Rattle.vectors.specs.Faults.{IsFaultOf}
use Rattle.vectors.specs.Reports.{IsReport}
use Rattle.command.specs.declared.failure.Failure.{Failure}
use Rattle.command.specs.declared.failure.Failure.TheVariants.{Fault as OfFault, Vector as OfVector}

-- the line of a bad record
abbrev pub bad_line : ℕ → List ℕ
bad_line number = codes "bad " ++ (decimal number ++ 10 ∷ [])

-- the number of records, then a line for each bad one
abbrev pub report_text : ℕ → List ℕ → List ℕ
report_text records bad = codes "records " ++ (decimal records ++ 10 ∷ flat_map bad_line bad)

-- this is the report of a file, if its bytes are known
abbrev pub IsReportOf : Option (List ℕ) → ℕ → List ℕ → Type 0
IsReportOf file records bad = IfSome file (λ bytes. IsReport (lines_of bytes) records bad)

-- the report of a file was printed; the status is 0 if there are records and none is bad, else 1
pub record IsChecked (file before after : Option (List ℕ)) (status : ℕ) : Type 0 where
  pub records : ℕ
  pub bad : List ℕ
  pub right : IsReportOf file records bad
  pub text : Appends before after (report_text records bad)
  pub yes : (status ≡ 0) ↔ ((1 ≤ records) × (bad ≡ []))

-- why a file has no report: it could not be read, memory ran out, or its first fault, if its bytes are known
abbrev pub FileRefused : Option (List ℕ) → Failure → Type 0
FileRefused file (OfFault Read) = ⊤
FileRefused file (OfFault OutOfMemory) = ⊤
FileRefused file (OfVector fault) = IfSome file (λ bytes. IsFaultOf (lines_of bytes) fault)
FileRefused file _ = ⊥
