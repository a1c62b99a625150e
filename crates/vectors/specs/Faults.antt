-- The first fault of a file: at which line it is, and which.
use Rattle.std.specs.Prelude.{◌≡◌, ℕ, ◌+◌, ◌%◌, List, [], ◌∷◌, ◌++◌, length, Bool, true, false, not, ◌&&◌}
use Rattle.std.specs.Prelude.{◌||◌, ◌==◌, Option, Some, None, is_none, is_some, if◌then◌else◌, codes}
use Rattle.std.specs.List.{list_all}
use Rattle.std.specs.Str.{bytes_eq}
use Rattle.std.specs.Result.{result_unwrap_or}
use Rattle.hex.specs.Hex.{is_hex_digit, decode_of}
use Rattle.vectors.specs.declared.fault.Cause.{Cause}
use Rattle.vectors.specs.declared.fault.Cause.TheVariants as cause
use Rattle.vectors.specs.declared.fault.VectorFault.{VectorFault}
use Rattle.vectors.specs.declared.fault.VectorFault.TheVariants.{AtLine, NoRecords, Unfinished, OutOfMemory}
use Rattle.vectors.specs.declared.suite.Algorithm.{Algorithm}
use Rattle.vectors.specs.declared.suite.Format.{Format}
use Rattle.vectors.specs.declared.suite.Field.{Field}
use Rattle.vectors.specs.Suites.{format_named, suite_named, fields_of, field_name, field_length}
use Rattle.vectors.specs.Cuts.{are_cuts}
use Rattle.vectors.specs.Grammar.{Line, Record, is_gap, value_line, has_length, may_cut, most_cut}
use Rattle.vectors.specs.Grammar.{IsSuiteLine, IsCutsLine, unread, Fills, Formatted, IsFile, IsViable}

-- ---- the expected line

-- the format line; the first line of a record; or a later one: a field, the end, the end or a line of cuts up to some number,
-- or the text line after cuts
pub data Expected : Type 0 where
  format_line : Expected
  suite_line : Format → Expected
  field_line : Algorithm → Field → Expected
  end_line : Expected
  cuts_or_end : ℕ → Expected
  text_line : Expected

-- the lines expected after all the fields of a record
abbrev pub behind_fields : Format → Record → Expected
behind_fields format r = if may_cut format r.suite then cuts_or_end (most_cut r) else end_line

-- the first lines of a record that has not ended, and the line expected after them
pub data Begun (format : Format) : List Line → Expected → Type 0 where
  some_fields : {suite : Algorithm} {l : Line} {ms : List Line} {r : Record} {f : Field} {fs : List Field}
      (gs : List Field)
      → IsSuiteLine format l suite → fields_of suite ≡ fs ++ f ∷ gs → Fills fs (unread suite) ms r
      → Begun format (l ∷ ms) (field_line r.suite f)
  all_fields : {suite : Algorithm} {l : Line} {ms : List Line} {r : Record}
      → IsSuiteLine format l suite → Fills (fields_of suite) (unread suite) ms r
      → Begun format (l ∷ ms) (behind_fields format r)
  cuts : {suite : Algorithm} {l c : Line} {ms : List Line} {r : Record}
      → IsSuiteLine format l suite → Fills (fields_of suite) (unread suite) ms r
      → may_cut format r.suite ≡ true → IsCutsLine r c
      → Begun format (l ∷ (ms ++ c ∷ [])) text_line

-- this line is expected after these lines
pub data Expects : List Line → Expected → Type 0 where
  unformatted : {ls : List Line} → list_all is_gap ls ≡ true → Expects ls format_line
  formatted : {F : Format} {ls : List Line} {rs : List Record} → Formatted F ls rs → Expects ls (suite_line F)
  inside : {F : Format} {ls ms : List Line} {rs : List Record} {e : Expected} → Formatted F ls rs
      → Begun F ms e
      → Expects (ls ++ ms) e

-- ---- the faults of a line, by what is expected there

-- the first fault that applies, of a list that says of each whether it does
abbrev pub first_fitting : List (Bool × Cause) → Option Cause
first_fitting [] = None
first_fitting (row ∷ rows) = if row.0 then Some row.1 else first_fitting rows

-- an even number of hexadecimal digits, of either case
unfoldable pub is_hex : List ℕ → Bool
is_hex text = (length text % 2 == 0) && list_all is_hex_digit text

-- the bytes that hexadecimal digits spell
unfoldable pub bytes_of : List ℕ → List ℕ
bytes_of digits = result_unwrap_or (decode_of digits) []

-- whether a line is a value line with this name
abbrev pub is_named : List ℕ → Option (List ℕ × List ℕ) → Bool
is_named name None = false
is_named name (Some f) = bytes_eq f.0 name

-- whether a line is a value line with another name
abbrev pub is_misnamed : List ℕ → Option (List ℕ × List ℕ) → Bool
is_misnamed name None = false
is_misnamed name (Some f) = not (bytes_eq f.0 name)

-- whether a line is a format line
abbrev pub is_format : Option (List ℕ × List ℕ) → Bool
is_format None = false
is_format (Some f) = bytes_eq f.0 (codes "format") && is_some (format_named f.1)

-- whether a line is a value line whose value doesn't pass a test
abbrev pub value_fails : (List ℕ → Bool) → Option (List ℕ × List ℕ) → Bool
value_fails test None = false
value_fails test (Some f) = not (test f.1)

-- the rows for a line with a hexadecimal value
abbrev pub value_rows : List ℕ → Option (List ℕ × List ℕ) → List (Bool × Cause)
value_rows name f =
    (is_none f, cause.BadLine)
    ∷ (is_misnamed name f, cause.WrongName)
    ∷ (value_fails is_hex f, cause.BadHex)
    ∷ []

-- the table of faults of a line, for each line that may be expected
abbrev pub rows : Expected → Line → List (Bool × Cause)
rows format_line line = (not (is_gap line || is_format (value_line line)), cause.BadFormat) ∷ []
rows (suite_line F) line =
    (not (is_gap line) && is_none (value_line line), cause.BadLine)
    ∷ (is_misnamed (codes "suite") (value_line line), cause.WrongName)
    ∷ (value_fails (λ name. is_some (suite_named F name)) (value_line line), cause.UnknownSuite)
    ∷ []
rows (field_line s f) line =
    value_rows (field_name f) (value_line line)
    ++ (
      value_fails (λ digits. has_length (field_length s f) (bytes_of digits)) (value_line line),
      cause.BadLength,
    )
    ∷ []
rows end_line line =
    (not (bytes_eq line (codes "invalid")) && is_none (value_line line), cause.BadLine)
    ∷ (is_misnamed (codes "text") (value_line line), cause.WrongName)
    ∷ (value_fails is_hex (value_line line), cause.BadHex)
    ∷ []
rows (cuts_or_end most) line =
    (not (bytes_eq line (codes "invalid")) && is_none (value_line line), cause.BadLine)
    ∷ (
      is_misnamed (codes "text") (value_line line) && is_misnamed (codes "cuts") (value_line line),
      cause.WrongName,
    )
    ∷ (is_named (codes "text") (value_line line) && value_fails is_hex (value_line line), cause.BadHex)
    ∷ (
      is_named (codes "cuts") (value_line line) && value_fails (are_cuts most) (value_line line),
      cause.BadCuts,
    )
    ∷ []
rows text_line line = value_rows (codes "text") (value_line line)

-- ---- the fault of a file

-- n is the least number such that the first n lines are not viable, and `why` is the fault of line n
pub record IsFaultAt (lines : List Line) (n : ℕ) (why : Cause) : Type 0 where
  pub before : List Line
  pub line : Line
  pub after : List Line
  pub whole : lines ≡ before ++ line ∷ after
  pub number : n ≡ length before + 1
  pub faulty : ¬ IsViable (before ++ line ∷ [])
  pub least : (front rest : List Line) → before ≡ front ++ rest → IsViable front
  pub expected : Expected
  pub expects : Expects before expected
  pub only : (e : Expected) → Expects before e → e ≡ expected
  pub wrong : first_fitting (rows expected line) ≡ Some why

-- whether the expected line is inside a record
abbrev pub is_inside : Expected → Bool
is_inside format_line = false
is_inside (suite_line F) = false
is_inside (field_line s f) = true
is_inside end_line = true
is_inside (cuts_or_end most) = true
is_inside text_line = true

-- no line is at fault, but the lines are not a file: they end inside a record, or no record has begun
pub record IsCutOff (lines : List Line) (begun : Bool) : Type 0 where
  pub viable : (front rest : List Line) → lines ≡ front ++ rest → IsViable front
  pub no_file : (records : List Record) → ¬ IsFile lines records
  pub expected : Expected
  pub expects : Expects lines expected
  pub only : (e : Expected) → Expects lines e → e ≡ expected
  pub is : is_inside expected ≡ begun

-- some first lines of these are a file: a record has ended
pub record HasEnded (lines : List Line) : Type 0 where
  pub front : List Line
  pub rest : List Line
  pub whole : lines ≡ front ++ rest
  pub records : List Record
  pub file : IsFile front records

-- the fault is the first one of these lines; `OutOfMemory` comes only if a record has ended
abbrev pub IsFaultOf : List Line → VectorFault → Type 0
IsFaultOf lines (AtLine n why) = IsFaultAt lines n why
IsFaultOf lines (Unfinished n) = IsCutOff lines true × (n ≡ length lines)
IsFaultOf lines NoRecords = IsCutOff lines false
IsFaultOf lines OutOfMemory = HasEnded lines
