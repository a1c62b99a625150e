-- If a line can't be read, the cause is the fault that the table gives. A lemma named for rows of the table says: if the part of
-- a line that these rows concern can't be read, the first row that fits gives the cause.
use Rattle.std.proofs.Common.{◌≡◌, ℕ, Bool, true, false, cond, not, List, [], ◌∷◌, Option, Some, None}
use Rattle.std.proofs.Common.{Result, Ok, Err, refl, sym, ap, ◌∙◌, subst}
use Rattle.std.specs.Prelude.{codes, is_none, is_some, ◌&&◌, ◌||◌}
use Rattle.std.specs.Str.{bytes_eq}
use Rattle.vectors.specs.declared.fault.Cause.{Cause}
use Rattle.vectors.specs.declared.fault.Cause.TheVariants.{BadFormat, BadLine, WrongName, UnknownSuite}
use Rattle.vectors.specs.declared.fault.Cause.TheVariants.{BadHex, BadLength, BadCuts}
use Rattle.vectors.specs.declared.suite.Format.{Format}
use Rattle.vectors.specs.declared.suite.Algorithm.{Algorithm}
use Rattle.vectors.specs.Suites.{format_named, suite_named, fields_of, field_name, field_length}
use Rattle.vectors.specs.Cuts.{are_cuts}
use Rattle.vectors.specs.Grammar.{Record, is_gap, value_line, has_length, may_cut, most_cut, unread}
use Rattle.vectors.specs.Grammar.{with_field, with_text}
use Rattle.vectors.specs.Faults.{cuts_or_end, end_line, is_hex, bytes_of, is_format, first_fitting}
use Rattle.vectors.specs.Faults.{value_rows, is_named, is_misnamed, value_fails, rows}
use Rattle.vectors.specs.Code.Steps as steps
use Rattle.vectors.specs.Code.Steps.{◌>>=◌, Place, named_value, value_at, hex_at, field_at, ok_or, format_of}
use Rattle.vectors.specs.Code.Steps.{format_at, suite_at, text_at, cuts_at, end_at, step}
use Rattle.std.proofs.lemmas.Slice.Eq.{bytes_eq-Decides}
use Rattle.vectors.proofs.FieldLemmas.{Next}
use Rattle.vectors.proofs.Places.{expected}

-- if the second step can't fail, a fault of both steps is one of the first step
bind_err : {A B : Type 0} (r : Result A Cause) (f : A → B) (c : Cause) → (r >>= λ x. Ok (f x)) ≡ Err c
    → r ≡ Err c
bind_err (Ok x) f c e = absurd cc
bind_err (Err d) f c e = cc

-- the bytes that digits spell, or `BadHex`
abbrev bytes_at : List ℕ → Result (List ℕ) Cause
bytes_at digits = cond (is_hex digits) (Ok (bytes_of digits)) (Err BadHex)

-- the row of the digits
hex_row : (b : Bool) (bytes : List ℕ) (c : Cause) → cond b (Ok bytes) (Err BadHex) ≡ Err c
    → first_fitting ((not b, BadHex) ∷ []) ≡ Some c
hex_row true bytes c e = absurd cc
hex_row false bytes c e = cc

-- the rows of the name and the digits
name_row : (b : Bool) (digits : List ℕ) (c : Cause)
    → (cond b (Ok digits) (Err WrongName) >>= bytes_at) ≡ Err c
    → first_fitting ((not b, WrongName) ∷ (not (is_hex digits), BadHex) ∷ []) ≡ Some c
name_row true digits c e = hex_row (is_hex digits) (bytes_of digits) c e
name_row false digits c e = cc

-- all rows of a hexadecimal value
hex_rows : (name : List ℕ) (f : Option (List ℕ × List ℕ)) (c : Cause)
    → (named_value name f >>= bytes_at) ≡ Err c → first_fitting (value_rows name f) ≡ Some c
hex_rows name None c e = cc
hex_rows name (Some f) c e = name_row (bytes_eq f.0 name) f.1 c e

-- the bytes, if they have the required length, or `BadLength`
abbrev sized : Option ℕ → List ℕ → Result (List ℕ) Cause
sized n bytes = cond (has_length n bytes) (Ok bytes) (Err BadLength)

-- the row of the length
size_row : (b : Bool) (bytes : List ℕ) (c : Cause) → cond b (Ok bytes) (Err BadLength) ≡ Err c
    → first_fitting ((not b, BadLength) ∷ []) ≡ Some c
size_row true bytes c e = absurd cc
size_row false bytes c e = cc

-- the rows of the digits and the length
sized_hex_row : (n : Option ℕ) (b : Bool) (bytes : List ℕ) (c : Cause)
    → (cond b (Ok bytes) (Err BadHex) >>= sized n) ≡ Err c
    → first_fitting ((not b, BadHex) ∷ (not (has_length n bytes), BadLength) ∷ []) ≡ Some c
sized_hex_row n true bytes c e = size_row (has_length n bytes) bytes c e
sized_hex_row n false bytes c e = cc

-- the rows of the name, the digits and the length
sized_name_row : (n : Option ℕ) (b : Bool) (digits : List ℕ) (c : Cause)
    → ((cond b (Ok digits) (Err WrongName) >>= bytes_at) >>= sized n) ≡ Err c
    → first_fitting ((not b, WrongName) ∷ (not (is_hex digits), BadHex)
    ∷ (not (has_length n (bytes_of digits)), BadLength) ∷ []) ≡ Some c
sized_name_row n true digits c e = sized_hex_row n (is_hex digits) (bytes_of digits) c e
sized_name_row n false digits c e = cc

-- all rows of a field
field_rows : (name : List ℕ) (n : Option ℕ) (f : Option (List ℕ × List ℕ)) (c : Cause)
    → ((named_value name f >>= bytes_at) >>= sized n) ≡ Err c
    → first_fitting ((is_none f, BadLine) ∷ (is_misnamed name f, WrongName) ∷ (value_fails is_hex f, BadHex)
    ∷ (value_fails (λ digits. has_length n (bytes_of digits)) f, BadLength) ∷ []) ≡ Some c
field_rows name n None c e = cc
field_rows name n (Some f) c e = sized_name_row n (bytes_eq f.0 name) f.1 c e

-- the rows of a suite line
known_row : (s : Option Algorithm) (c : Cause) → ok_or UnknownSuite s ≡ Err c
    → first_fitting ((not (is_some s), UnknownSuite) ∷ []) ≡ Some c
known_row None c e = cc
known_row (Some s) c e = absurd cc

-- the rows of the name and the suite
suite_row : (F : Format) (b : Bool) (name : List ℕ) (c : Cause)
    → (cond b (Ok name) (Err WrongName) >>= λ x. ok_or UnknownSuite (suite_named F x)) ≡ Err c
    → first_fitting ((not b, WrongName) ∷ (not (is_some (suite_named F name)), UnknownSuite) ∷ []) ≡ Some c
suite_row F true name c e = known_row (suite_named F name) c e
suite_row F false name c e = cc

-- all rows of a suite line
suite_rows : (F : Format) (f : Option (List ℕ × List ℕ)) (c : Cause)
    → (named_value (codes "suite") f >>= λ x. ok_or UnknownSuite (suite_named F x)) ≡ Err c
    → first_fitting ((is_none f, BadLine) ∷ (is_misnamed (codes "suite") f, WrongName)
    ∷ (value_fails (λ name. is_some (suite_named F name)) f, UnknownSuite) ∷ []) ≡ Some c
suite_rows F None c e = cc
suite_rows F (Some f) c e = suite_row F (bytes_eq f.0 (codes "suite")) f.1 c e

-- all rows of a suite line, or a blank line or a comment
between_rows : (F : Format) (gap : Bool) (f : Option (List ℕ × List ℕ)) (c : Cause)
    → cond {A = Result Next Cause} gap (Ok (steps.between F, []))
    ((named_value (codes "suite") f >>= λ x. ok_or UnknownSuite (suite_named F x)) >>= λ s.
    Ok (steps.fields F (fields_of s) (unread s), [])) ≡ Err c
    → first_fitting ((not gap && is_none f, BadLine) ∷ (is_misnamed (codes "suite") f, WrongName)
    ∷ (value_fails (λ name. is_some (suite_named F name)) f, UnknownSuite) ∷ []) ≡ Some c
between_rows F true f c e = absurd cc
between_rows F false f c e =
    suite_rows F f c (bind_err (named_value (codes "suite") f >>= λ x. ok_or UnknownSuite (suite_named F x))
    (λ s. (steps.fields F (fields_of s) (unread s), [])) c e)

-- the row of the format's name
format_row : (b : Bool) (n : Option Format) (c : Cause) → cond b (ok_or BadFormat n) (Err BadFormat) ≡ Err c
    → first_fitting ((not (b && is_some n), BadFormat) ∷ []) ≡ Some c
format_row true None c e = cc
format_row true (Some F) c e = absurd cc
format_row false n c e = cc

-- the row of the format line
format_rows : (gap : Bool) (f : Option (List ℕ × List ℕ)) (c : Cause)
    → cond {A = Result Next Cause} gap (Ok (steps.start, [])) (format_of f >>= λ F. Ok (steps.between F, []))
    ≡ Err c
    → first_fitting ((not (gap || is_format f), BadFormat) ∷ []) ≡ Some c
format_rows true f c e = absurd cc
format_rows false None c e = cc
format_rows false (Some f) c e =
    format_row (bytes_eq f.0 (codes "format")) (format_named f.1) c
    (bind_err (format_of (Some f)) (λ F. (steps.between F, [])) c e)

-- ---- the line after all fields

-- the next place and the record that ends, given the bytes of a text line
abbrev text_behind : Format → Record → Result (List ℕ) Cause → Result Next Cause
text_behind F r read = read >>= λ bytes. Ok (steps.between F, with_text (Some bytes) r ∷ [])

-- the next place and the record that ends, given a text line
abbrev text_next : Format → Record → Option (List ℕ × List ℕ) → Result Next Cause
text_next F r f = text_behind F r (named_value (codes "text") f >>= bytes_at)

-- the next place, given a line of cuts
abbrev cuts_next : Format → Record → Option (List ℕ × List ℕ) → Result Next Cause
cuts_next F r f = named_value (codes "cuts") f >>= λ value.
    cond (are_cuts (most_cut r) value) (Ok (steps.text F r, [])) (Err BadCuts)

-- all rows of the line after all fields, if there may be no cuts
end_rows : (F : Format) (r : Record) (invalid : Bool) (f : Option (List ℕ × List ℕ)) (c : Cause)
    → cond invalid (Ok (steps.between F, with_text None r ∷ [])) (text_next F r f) ≡ Err c
    → first_fitting ((not invalid && is_none f, BadLine) ∷ (is_misnamed (codes "text") f, WrongName)
    ∷ (value_fails is_hex f, BadHex) ∷ []) ≡ Some c
end_rows F r true f c e = absurd cc
end_rows F r false f c e =
    hex_rows (codes "text") f c
    (bind_err (named_value (codes "text") f >>= bytes_at)
    (λ bytes. (steps.between F, with_text (Some bytes) r ∷ [])) c e)

-- a line of cuts is not a text line
no_text : (name : List ℕ) (t : Bool) → bytes_eq name (codes "cuts") ≡ true
    → bytes_eq name (codes "text") ≡ t → t ≡ false
no_text name t k e = sym e
    ∙ ap (λ (x : List ℕ). bytes_eq x (codes "text")) ((bytes_eq-Decides name (codes "cuts")).0 k)

-- c is the first cause that fits, of the rows of the names, the digits and the cuts
names_rows : (t k hex cuts : Bool) (c : Cause) → Type 0
names_rows t k hex cuts c =
    first_fitting ((not t && not k, WrongName) ∷ (t && not hex, BadHex) ∷ (k && not cuts, BadCuts) ∷ [])
    ≡ Some c

-- if a line named `cuts` fails, its cause is the first that fits
cuts_row : (F : Format) (r : Record) (t hex cuts : Bool) (c : Cause) → t ≡ false
    → cond {A = Result Next Cause} cuts (Ok (steps.text F r, [])) (Err BadCuts) ≡ Err c
    → names_rows t true hex cuts c
unfolding names_rows
cuts_row F r true hex cuts c is e = absurd cc
cuts_row F r false hex true c is e = absurd cc
cuts_row F r false hex false c is e = cc

-- if a line named `text` fails, the cause `BadHex` is the first that fits
digits_row : (F : Format) (r : Record) (hex cuts : Bool) (bytes : List ℕ) (c : Cause)
    → text_behind F r (cond hex (Ok bytes) (Err BadHex)) ≡ Err c → names_rows true false hex cuts c
unfolding names_rows
digits_row F r true cuts bytes c e = absurd cc
digits_row F r false cuts bytes c e = cc

-- if a line that is not named `cuts` fails, its cause is the first that fits
text_row : (F : Format) (r : Record) (t cuts : Bool) (digits : List ℕ) (c : Cause)
    → text_behind F r (cond t (Ok digits) (Err WrongName) >>= bytes_at) ≡ Err c
    → names_rows t false (is_hex digits) cuts c
unfolding names_rows
text_row F r true cuts digits c e = digits_row F r (is_hex digits) cuts (bytes_of digits) c e
text_row F r false cuts digits c e = cc

-- if a value line after all fields fails, its cause is the first that fits, whatever its name
by_name : (F : Format) (r : Record) (f : List ℕ × List ℕ) (k : Bool) (c : Cause)
    → bytes_eq f.0 (codes "cuts") ≡ k → cond k (cuts_next F r (Some f)) (text_next F r (Some f)) ≡ Err c
    → names_rows (bytes_eq f.0 (codes "text")) k (is_hex f.1) (are_cuts (most_cut r) f.1) c
by_name F r f true c is e =
    cuts_row F r (bytes_eq f.0 (codes "text")) (is_hex f.1) (are_cuts (most_cut r) f.1) c
    (no_text f.0 (bytes_eq f.0 (codes "text")) is refl)
    (subst (λ (b : Bool). (cond b (Ok f.1) (Err WrongName) >>= λ value.
    cond {A = Result Next Cause} (are_cuts (most_cut r) value) (Ok (steps.text F r, [])) (Err BadCuts))
    ≡ Err c) is e)
by_name F r f false c is e = text_row F r (bytes_eq f.0 (codes "text")) (are_cuts (most_cut r) f.1) f.1 c e

-- all rows of the line after all fields, if there may be cuts
cuts_rows : (F : Format) (r : Record) (invalid : Bool) (f : Option (List ℕ × List ℕ)) (c : Cause)
    → cond invalid (Ok (steps.between F, with_text None r ∷ []))
    (cond (is_named (codes "cuts") f) (cuts_next F r f) (text_next F r f)) ≡ Err c
    → first_fitting (
    (not invalid && is_none f, BadLine)
    ∷ (is_misnamed (codes "text") f && is_misnamed (codes "cuts") f, WrongName)
    ∷ (is_named (codes "text") f && value_fails is_hex f, BadHex)
    ∷ (is_named (codes "cuts") f && value_fails (are_cuts (most_cut r)) f, BadCuts)
    ∷ []) ≡ Some c
unfolding names_rows
cuts_rows F r true f c e = absurd cc
cuts_rows F r false None c e = cc
cuts_rows F r false (Some f) c e = by_name F r f (bytes_eq f.0 (codes "cuts")) c refl e

-- all rows of the line after all fields
behind_rows : (F : Format) (r : Record) (line : List ℕ) (c : Cause) (m : Bool)
    → cond (bytes_eq line (codes "invalid")) (Ok (steps.between F, with_text None r ∷ []))
    (cond (m && is_named (codes "cuts") (value_line line)) (cuts_next F r (value_line line))
    (text_next F r (value_line line))) ≡ Err c
    → first_fitting (rows (cond m (cuts_or_end (most_cut r)) end_line) line) ≡ Some c
behind_rows F r line c true e = cuts_rows F r (bytes_eq line (codes "invalid")) (value_line line) c e
behind_rows F r line c false e = end_rows F r (bytes_eq line (codes "invalid")) (value_line line) c e

-- if a step fails, its cause is the first that fits, of the rows of what is expected
pub wrong : (p : Place) (line : List ℕ) (c : Cause) → step p line ≡ Err c
    → first_fitting (rows (expected p) line) ≡ Some c
unfolding step field_at hex_at value_at format_at suite_at end_at text_at cuts_at
wrong steps.start line c e = format_rows (is_gap line) (value_line line) c e
wrong (steps.between F) line c e = between_rows F (is_gap line) (value_line line) c e
wrong (steps.fields F [] r) line c e = behind_rows F r line c (may_cut F r.suite) e
wrong (steps.fields F (f ∷ fs) r) line c e =
    field_rows (field_name f) (field_length r.suite f) (value_line line) c
    (bind_err ((named_value (field_name f) (value_line line) >>= bytes_at) >>= sized
    (field_length r.suite f)) (λ v. (steps.fields F fs (with_field f v r), [])) c e)
wrong (steps.text F r) line c e =
    hex_rows (codes "text") (value_line line) c
    (bind_err (named_value (codes "text") (value_line line) >>= bytes_at)
    (λ bytes. (steps.between F, with_text (Some bytes) r ∷ [])) c e)
