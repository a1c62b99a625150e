-- The grammar of a vector file: which lines make which records.
use Rattle.std.specs.Prelude.{◌≡◌, ◌≢◌, ℕ, ◌-◌, ◌≤◌, List, [], ◌∷◌, ◌++◌, length, Bool, true, false, Option}
use Rattle.std.specs.Prelude.{Some, None, Ok, if◌then◌else◌, nat_lt, ◌==◌, codes}
use Rattle.std.specs.List.{list_all, position_or_len, before_first, after_first}
use Rattle.hex.specs.Hex.{decode_of}
use Rattle.vectors.specs.declared.suite.Format.{Format}
use Rattle.vectors.specs.declared.suite.Format.TheVariants.{One, Two}
use Rattle.vectors.specs.declared.suite.Algorithm.{Algorithm}
use Rattle.vectors.specs.declared.suite.Field.{Field}
use Rattle.vectors.specs.declared.suite.Field.TheVariants.{Key, Nonce, Aad, Sealed}
use Rattle.vectors.specs.Suites.{format_named, suite_named, is_aead, fields_of, field_name, field_length}
use Rattle.vectors.specs.Lines.{trim_end, trim_start}
use Rattle.vectors.specs.Cuts.{are_cuts}

-- a record of the file; a record of key wrapping has no nonce and no associated data, and one that says `invalid` has no text
pub record Record : Type 0 where
  pub suite : Algorithm
  pub key : List ℕ
  pub nonce : List ℕ
  pub aad : List ℕ
  pub sealed : List ℕ
  pub text : Option (List ℕ)

-- ---- lines

-- the bytes of a line
abbrev pub Line : Type 0
Line = List ℕ

-- whether a line is blank, or a comment: its first byte is `#`
abbrev pub is_gap : Line → Bool
is_gap [] = true
is_gap (b ∷ bs) = b == 35

abbrev pub is_equals : ℕ → Bool
is_equals b = b == 61

-- the parts of a line before and after its first `=`, without the spaces at the end of the first and at the beginning of the
-- second
unfoldable pub field_of : Line → Option (List ℕ × List ℕ)
field_of line =
    if nat_lt (position_or_len is_equals line) (length line)
    then Some (trim_end (before_first is_equals line), trim_start (after_first is_equals line))
    else None

-- the name and the value of a value line; a comment is not a value line
unfoldable pub value_line : Line → Option (List ℕ × List ℕ)
value_line line = if is_gap line then None else field_of line

-- a value line with this name and value
abbrev pub IsField : Line → List ℕ → List ℕ → Type 0
IsField line name value = value_line line ≡ Some (name, value)

-- The digits spell the bytes: two hexadecimal digits, of either case, for each byte.
abbrev pub Spells : List ℕ → List ℕ → Type 0
Spells digits bytes = decode_of digits ≡ Ok bytes

-- a value line with this name, whose value spells these bytes
pub record IsHexField (line : Line) (name bytes : List ℕ) : Type 0 where
  pub digits : List ℕ
  pub field : IsField line name digits
  pub spelled : Spells digits bytes

-- whether the bytes have the required length, if there is one
abbrev pub has_length : Option ℕ → List ℕ → Bool
has_length None bytes = true
has_length (Some n) bytes = length bytes == n

-- a value line with a field's name, whose value spells these bytes, which have the length that the suite requires
pub record IsFieldLine (suite : Algorithm) (field : Field) (line : Line) (bytes : List ℕ) : Type 0 where
  pub hex : IsHexField line (field_name field) bytes
  pub size : has_length (field_length suite field) bytes ≡ true

-- a value line with the name `format`, whose value names this format
pub record IsFormatLine (line : Line) (format : Format) : Type 0 where
  pub name : List ℕ
  pub field : IsField line (codes "format") name
  pub known : format_named name ≡ Some format

-- a value line with the name `suite`, whose value names this suite of the format
pub record IsSuiteLine (format : Format) (line : Line) (suite : Algorithm) : Type 0 where
  pub name : List ℕ
  pub field : IsField line (codes "suite") name
  pub known : suite_named format name ≡ Some suite

-- ---- cuts

-- whether a record may have a line of cuts: it is of an AEAD suite, in format 2
abbrev pub may_cut : Format → Algorithm → Bool
may_cut One suite = false
may_cut Two suite = is_aead suite

-- the greatest number that a line of cuts may have: the length of the text in bytes
abbrev pub most_cut : Record → ℕ
most_cut r = length r.sealed - 16

-- a value line with the name `cuts`, whose value is cuts that fit the record's text
pub record IsCutsLine (r : Record) (line : Line) : Type 0 where
  pub value : List ℕ
  pub field : IsField line (codes "cuts") value
  pub cuts : are_cuts (most_cut r) value ≡ true

-- ---- records

-- a record of which only the suite is known
abbrev pub unread : Algorithm → Record
unread suite = record { suite = suite; key = []; nonce = []; aad = []; sealed = []; text = None }

-- a record with the bytes of one field
abbrev pub with_field : Field → List ℕ → Record → Record
with_field Key bytes r = record r { key = bytes }
with_field Nonce bytes r = record r { nonce = bytes }
with_field Aad bytes r = record r { aad = bytes }
with_field Sealed bytes r = record r { sealed = bytes }

-- a record with its text
abbrev pub with_text : Option (List ℕ) → Record → Record
with_text text r = record r { text = text }

-- with a line for each of these fields, in this order, the first record becomes the second
pub data Fills : List Field → Record → List Line → Record → Type 0 where
  nothing : {r : Record} → Fills [] r [] r
  field : {f : Field} {fs : List Field} {r s : Record} {l : Line} {ls : List Line} {bytes : List ℕ}
      → IsFieldLine r.suite f l bytes → Fills fs (with_field f bytes r) ls s → Fills (f ∷ fs) r (l ∷ ls) s

-- the last lines of a record, and its text: a text line, or `invalid`, or a line of cuts and then a text line
pub data Ends (format : Format) (r : Record) : List Line → Option (List ℕ) → Type 0 where
  text_line : {l : Line} {bytes : List ℕ} → IsHexField l (codes "text") bytes
      → Ends format r (l ∷ []) (Some bytes)
  invalid : Ends format r (codes "invalid" ∷ []) None
  cuts : {c l : Line} {bytes : List ℕ} → may_cut format r.suite ≡ true → IsCutsLine r c
      → IsHexField l (codes "text") bytes
      → Ends format r (c ∷ l ∷ []) (Some bytes)

-- the lines of a record: its suite, the fields of the suite, and its end
pub data IsRecord (format : Format) : List Line → Record → Type 0 where
  made : {suite : Algorithm} {l : Line} {ms es : List Line} {r : Record} {text : Option (List ℕ)}
      → IsSuiteLine format l suite → Fills (fields_of suite) (unread suite) ms r → Ends format r es text
      → IsRecord format (l ∷ (ms ++ es)) (with_text text r)

-- ---- the file

-- blank lines and comments, then the format line, and then records, blank lines and comments in any order
pub data Formatted (format : Format) : List Line → List Record → Type 0 where
  starts : (gaps : List Line) {l : Line} → list_all is_gap gaps ≡ true → IsFormatLine l format
      → Formatted format (gaps ++ l ∷ []) []
  gap : {ls : List Line} (l : Line) {rs : List Record} → Formatted format ls rs → is_gap l ≡ true
      → Formatted format (ls ++ l ∷ []) rs
  adds : {ls ms : List Line} {rs : List Record} {r : Record} → Formatted format ls rs → IsRecord format ms r
      → Formatted format (ls ++ ms) (rs ++ r ∷ [])

-- the lines are a file of these records, at least one
pub record IsFile (lines : List Line) (records : List Record) : Type 0 where
  pub format : Format
  pub formatted : Formatted format lines records
  pub some : records ≢ []

-- lines are a file of only one list of records
abbrev pub HasOneReading : Type 0
HasOneReading = (lines : List Line) (records others : List Record) → IsFile lines records
    → IsFile lines others → records ≡ others

-- at most five more lines make these a file
pub record IsViable (lines : List Line) : Type 0 where
  pub more : List Line
  pub few : length more ≤ 5
  pub records : List Record
  pub file : IsFile (lines ++ more) records
