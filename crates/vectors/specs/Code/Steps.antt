-- Reading line by line.
use Rattle.std.specs.Prelude.{ℕ, List, [], ◌∷◌, ◌++◌, Option, Some, None, Result, Ok, Err, if◌then◌else◌}
use Rattle.std.specs.Prelude.{◌&&◌, codes}
use Rattle.std.specs.Str.{bytes_eq}
use Rattle.vectors.specs.declared.fault.Cause.{Cause}
use Rattle.vectors.specs.declared.fault.Cause.TheVariants.{BadFormat, BadLine, WrongName, UnknownSuite}
use Rattle.vectors.specs.declared.fault.Cause.TheVariants.{BadHex, BadLength, BadCuts}
use Rattle.vectors.specs.declared.suite.Format.{Format}
use Rattle.vectors.specs.declared.suite.Algorithm.{Algorithm}
use Rattle.vectors.specs.declared.suite.Field.{Field}
use Rattle.vectors.specs.Suites.{format_named, suite_named, fields_of, field_name, field_length}
use Rattle.vectors.specs.Cuts.{are_cuts}
use Rattle.vectors.specs.Grammar.{Record, is_gap, value_line, has_length, may_cut, most_cut, unread}
use Rattle.vectors.specs.Grammar.{with_field, with_text}
use Rattle.vectors.specs.Faults.{is_hex, bytes_of, is_named}

infixl 10 ◌>>=◌
abbrev pub ◌>>=◌ : {A B : Type 0} → Result A Cause → (A → Result B Cause) → Result B Cause
(Ok x) >>= f = f x
(Err e) >>= f = Err e

-- the value of a value line with this name, or the cause
abbrev pub named_value : List ℕ → Option (List ℕ × List ℕ) → Result (List ℕ) Cause
named_value name None = Err BadLine
named_value name (Some f) = if bytes_eq f.0 name then Ok f.1 else Err WrongName

unfoldable pub value_at : List ℕ → List ℕ → Result (List ℕ) Cause
value_at name line = named_value name (value_line line)

-- the bytes of a value
unfoldable pub hex_at : List ℕ → List ℕ → Result (List ℕ) Cause
hex_at name line = do
  digits ← value_at name line
  if is_hex digits then Ok (bytes_of digits) else Err BadHex

-- the bytes of a field
unfoldable pub field_at : Algorithm → Field → List ℕ → Result (List ℕ) Cause
field_at suite field line = do
  bytes ← hex_at (field_name field) line
  if has_length (field_length suite field) bytes then Ok bytes else Err BadLength

-- the value found, or the cause
abbrev pub ok_or : {A : Type 0} → Cause → Option A → Result A Cause
ok_or cause None = Err cause
ok_or cause (Some x) = Ok x

-- the format, if the name is `format` and the value names one
abbrev pub format_of : Option (List ℕ × List ℕ) → Result Format Cause
format_of None = Err BadFormat
format_of (Some f) = if bytes_eq f.0 (codes "format") then ok_or BadFormat (format_named f.1) else Err
    BadFormat

unfoldable pub format_at : List ℕ → Result Format Cause
format_at line = format_of (value_line line)

unfoldable pub suite_at : Format → List ℕ → Result Algorithm Cause
suite_at format line = do
  name ← value_at (codes "suite") line
  ok_or UnknownSuite (suite_named format name)

-- which line is expected, with what was read of the record
pub data Place : Type 0 where
  start : Place
  between : Format → Place
  fields : Format → List Field → Record → Place
  text : Format → Record → Place

-- the end of a record, by its last lines
unfoldable pub text_at : Format → Record → List ℕ → Result (Place × List Record) Cause
text_at format r line = do
  bytes ← hex_at (codes "text") line
  Ok (between format, with_text (Some bytes) r ∷ [])

unfoldable pub cuts_at : Format → Record → List ℕ → Result (Place × List Record) Cause
cuts_at format r line = do
  value ← value_at (codes "cuts") line
  if are_cuts (most_cut r) value then Ok (text format r, []) else Err BadCuts

unfoldable pub end_at : Format → Record → List ℕ → Result (Place × List Record) Cause
end_at format r line =
    if bytes_eq line (codes "invalid") then Ok (between format, with_text None r ∷ [])
    else if may_cut format r.suite && is_named (codes "cuts") (value_line line) then cuts_at format r line
    else text_at format r line

-- the lines expected after a line, and the record that it ends
unfoldable pub step : Place → List ℕ → Result (Place × List Record) Cause
step start line = if is_gap line then Ok (start, []) else
    (format_at line >>= λ format. Ok (between format, []))
step (between format) line =
    if is_gap line then Ok (between format, []) else
    (suite_at format line >>= λ s. Ok (fields format (fields_of s) (unread s), []))
step (fields format [] r) line = end_at format r line
step (fields format (f ∷ fs) r) line =
    field_at r.suite f line >>= λ bytes. Ok (fields format fs (with_field f bytes r), [])
step (text format r) line = text_at format r line

-- all lines, one after the other
unfoldable pub run : Place → List (List ℕ) → Result (Place × List Record) Cause
run p [] = Ok (p, [])
run p (line ∷ lines) = do
  first ← step p line
  others ← run first.0 lines
  Ok (others.0, first.1 ++ others.1)
