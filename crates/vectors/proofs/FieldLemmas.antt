-- A line has a form of the grammar if and only if it is read as that form.
use Rattle.std.proofs.Common.{◌≡◌, ℕ, Bool, true, false, cond, List, [], ◌∷◌, Option, Some, None, Result, Ok}
use Rattle.std.proofs.Common.{Err, refl, sym, ap, ◌∙◌, subst}
use Rattle.std.specs.Prelude.{codes, ◌&&◌}
use Rattle.std.specs.Str.{bytes_eq}
use Rattle.std.proofs.lemmas.Bool.{and_parts}
use Rattle.std.proofs.lemmas.Slice.Eq.{bytes_eq-Decides}
use Rattle.vectors.specs.declared.fault.Cause.{Cause}
use Rattle.vectors.specs.declared.fault.Cause.TheVariants.{BadFormat, WrongName, UnknownSuite, BadHex}
use Rattle.vectors.specs.declared.fault.Cause.TheVariants.{BadLength, BadCuts}
use Rattle.vectors.specs.declared.suite.Format.{Format}
use Rattle.vectors.specs.declared.suite.Algorithm.{Algorithm}
use Rattle.vectors.specs.declared.suite.Field.{Field}
use Rattle.vectors.specs.Suites.{format_named, suite_named, field_name, field_length}
use Rattle.vectors.specs.Cuts.{are_cuts}
use Rattle.vectors.specs.Grammar.{Record, is_gap, field_of, value_line, has_length, IsField, IsHexField}
use Rattle.vectors.specs.Grammar.{IsFieldLine, IsFormatLine, IsSuiteLine, IsCutsLine, Ends, may_cut}
use Rattle.vectors.specs.Grammar.{most_cut, with_text}
use Rattle.vectors.specs.Faults.{is_hex, bytes_of, is_named}
use Rattle.vectors.proofs.DigitLemmas.{spells, spelled-bytes, spelled-digits}
use Rattle.vectors.specs.Code.Steps as steps
use Rattle.vectors.specs.Code.Steps.{◌>>=◌, Place, named_value, value_at, hex_at, field_at, ok_or, format_of}
use Rattle.vectors.specs.Code.Steps.{format_at, suite_at, text_at, cuts_at, end_at}

-- if two steps in a row return Ok, the first one did, and the second did on its value
pub bind_ok : {A B : Type 0} (r : Result A Cause) (f : A → Result B Cause) (y : B) → (r >>= f) ≡ Ok y
    → (x : A) × (r ≡ Ok x) × (f x ≡ Ok y)
bind_ok (Ok x) f y e = (x, refl, e)
bind_ok (Err d) f y e = absurd cc

-- if a test chooses between Ok x and a fault, and the result is Ok y, the test is true and x is y
guard_ok : {A : Type 0} (b : Bool) (d : Cause) (x y : A) → cond b (Ok x) (Err d) ≡ Ok y
    → (b ≡ true) × (x ≡ y)
guard_ok true d x y e = (refl, cc)
guard_ok false d x y e = absurd cc

-- if `ok_or` returns Ok x, the option is Some x
found_ok : {A : Type 0} (d : Cause) (f : Option A) (x : A) → ok_or d f ≡ Ok x → f ≡ Some x
found_ok d None x e = absurd cc
found_ok d (Some y) x e = cc

-- equal results hold equal values
pub ok_is : {A : Type 0} (x y : A) → ◌≡◌ {A = Result A Cause} (Ok x) (Ok y) → x ≡ y
ok_is x y e = cc

-- if a value is read, the line is a value line with the name that is asked for
named_ok : (name v : List ℕ) (f : Option (List ℕ × List ℕ)) → named_value name f ≡ Ok v → f ≡ Some (name, v)
named_ok name v None e = absurd cc
named_ok name v (Some f) e =
    let g = guard_ok (bytes_eq f.0 name) WrongName f.1 v e in
    let n : f.0 ≡ name = (bytes_eq-Decides f.0 name).0 g.0 in
    ap (λ (x : List ℕ). Some (x, f.1)) n ∙ ap (λ (x : List ℕ). Some (name, x)) g.1

-- a value line is neither blank nor a comment
pub no_gap : (line : List ℕ) (f : List ℕ × List ℕ) → value_line line ≡ Some f → is_gap line ≡ false
unfolding value_line
no_gap line f h = gap_cases (is_gap line) (field_of line) f h refl where
  gap_cases : (b : Bool) (g : Option (List ℕ × List ℕ)) (f : List ℕ × List ℕ) → cond b None g ≡ Some f
      → is_gap line ≡ b → is_gap line ≡ false
  gap_cases true g f e is = absurd cc
  gap_cases false g f e is = is

-- if a value is read from a line, the line is a value line with this name and value
value_ok : (name line v : List ℕ) → value_at name line ≡ Ok v → IsField line name v
unfolding value_at
value_ok name line v e = named_ok name v (value_line line) e

-- a value line is read
value_again : (name line v : List ℕ) → IsField line name v → value_at name line ≡ Ok v
unfolding value_at
value_again name line v h =
    rw h (ap (λ (b : Bool). cond b (Ok v) (Err WrongName)) ((bytes_eq-Decides name name).1 refl))

-- if bytes are read from a line, it is a value line with this name, whose value spells these bytes
hex_ok : (name line v : List ℕ) → hex_at name line ≡ Ok v → IsHexField line name v
unfolding hex_at
hex_ok name line v e =
    let b = bind_ok (value_at name line) (λ digits. cond (is_hex digits) (Ok (bytes_of digits)) (Err BadHex))
    v e in
    let g = guard_ok (is_hex b.0) BadHex (bytes_of b.0) v b.2 in
    record { digits = b.0; field = value_ok name line b.0 b.1; spelled = spells b.0 g.0 ∙ ap Ok g.1 }

-- a hexadecimal value line is read
hex_again : (name line v : List ℕ) → IsHexField line name v → hex_at name line ≡ Ok v
unfolding hex_at
hex_again name line v h =
    rw (value_again name line h.digits h.field, spelled-digits h.digits v h.spelled)
    (ap Ok (spelled-bytes h.digits v h.spelled))

-- if a field is read from a line, it is that field's line with these bytes
pub field_ok : (s : Algorithm) (f : Field) (line v : List ℕ) → field_at s f line ≡ Ok v → IsFieldLine s f line v
unfolding field_at
field_ok s f line v e =
    let b = bind_ok (hex_at (field_name f) line)
    (λ bytes. cond (has_length (field_length s f) bytes) (Ok bytes) (Err BadLength)) v e in
    let g = guard_ok (has_length (field_length s f) b.0) BadLength b.0 v b.2 in
    record {
      hex = subst (λ (x : List ℕ). IsHexField line (field_name f) x) g.1 (hex_ok (field_name f) line b.0 b.1);
      size = subst (λ (x : List ℕ). has_length (field_length s f) x ≡ true) g.1 g.0;
    }

-- the line of a field is read
pub field_again : (s : Algorithm) (f : Field) (line v : List ℕ) → IsFieldLine s f line v
    → field_at s f line ≡ Ok v
unfolding field_at
field_again s f line v h = rw (hex_again (field_name f) line v h.hex, h.size) refl

-- if a format is found, the name on the line is `format`, and the value names this format
format_found : (v : Option (List ℕ × List ℕ)) (F : Format) → format_of v ≡ Ok F
    → (name : List ℕ) × (v ≡ Some (codes "format", name)) × (format_named name ≡ Some F)
format_found None F e = absurd cc
format_found (Some f) F e = by_name (bytes_eq f.0 (codes "format")) refl e where
  by_name : (b : Bool) → bytes_eq f.0 (codes "format") ≡ b
      → cond b (ok_or BadFormat (format_named f.1)) (Err BadFormat) ≡ Ok F
      → (name : List ℕ) × (Some f ≡ Some (codes "format", name)) × (format_named name ≡ Some F)
  by_name true is e = (
    f.1,
    ap (λ (x : List ℕ). Some (x, f.1)) ((bytes_eq-Decides f.0 (codes "format")).0 is),
    found_ok BadFormat (format_named f.1) F e,
  )
  by_name false is e = absurd cc

-- if a format is read from a line, it is a format line with this format
pub format_ok : (line : List ℕ) (F : Format) → format_at line ≡ Ok F → IsFormatLine line F
unfolding format_at
format_ok line F e = let h = format_found (value_line line) F e in
    record { name = h.0; field = h.1; known = h.2 }

-- a format line is read
pub format_again : (line : List ℕ) (F : Format) → IsFormatLine line F → format_at line ≡ Ok F
unfolding format_at
format_again line F h = ap format_of h.field ∙ ap (ok_or BadFormat) h.known

-- if a suite is read from a line, it is a suite line with this suite
pub suite_ok : (F : Format) (line : List ℕ) (s : Algorithm) → suite_at F line ≡ Ok s → IsSuiteLine F line s
unfolding suite_at
suite_ok F line s e =
    let b = bind_ok (value_at (codes "suite") line) (λ name. ok_or UnknownSuite (suite_named F name)) s e in
    record {
      name = b.0;
      field = value_ok (codes "suite") line b.0 b.1;
      known =
          found_ok UnknownSuite (suite_named F b.0) s b.2;
    }

-- a suite line is read
pub suite_again : (F : Format) (line : List ℕ) (s : Algorithm) → IsSuiteLine F line s → suite_at F line ≡ Ok s
unfolding suite_at
suite_again F line s h = rw (value_again (codes "suite") line h.name h.field, h.known) refl

-- ---- the end of a record

-- a place, and the records that ended before it
abbrev pub Next : Type 0
Next = Place × List Record

-- if a text is read from a line, it is a text line, and the record ends with this text
pub text_ok : (F : Format) (r : Record) (line : List ℕ) (x : Next) → text_at F r line ≡ Ok x
    → (v : List ℕ) × IsHexField line (codes "text") v
    × (◌≡◌ {A = Next} (steps.between F, with_text (Some v) r ∷ []) x)
unfolding text_at
text_ok F r line x e =
    let b = bind_ok (hex_at (codes "text") line)
    (λ bytes. Ok (steps.between F, with_text (Some bytes) r ∷ [])) x e in
    (b.0, hex_ok (codes "text") line b.0 b.1, ok_is (steps.between F, with_text (Some b.0) r ∷ []) x b.2)

-- a text line is read
pub text_again : (F : Format) (r : Record) (line v : List ℕ) → IsHexField line (codes "text") v
    → text_at F r line ≡ Ok (steps.between F, with_text (Some v) r ∷ [])
unfolding text_at
text_again F r line v h = rw (hex_again (codes "text") line v h) refl

-- if cuts are read from a line, it is a line of cuts, and the text line is next
cuts_ok : (F : Format) (r : Record) (line : List ℕ) (x : Next) → cuts_at F r line ≡ Ok x
    → IsCutsLine r line × (◌≡◌ {A = Next} (steps.text F r, []) x)
unfolding cuts_at
cuts_ok F r line x e =
    let b = bind_ok (value_at (codes "cuts") line)
    (λ value. cond (are_cuts (most_cut r) value) (Ok (steps.text F r, [])) (Err BadCuts)) x e in
    let g = guard_ok {A = Next} (are_cuts (most_cut r) b.0) BadCuts (steps.text F r, []) x b.2 in
    (record { value = b.0; field = value_ok (codes "cuts") line b.0 b.1; cuts = g.0 }, g.1)

-- a line of cuts is read
cuts_again : (F : Format) (r : Record) (line : List ℕ) → IsCutsLine r line
    → cuts_at F r line ≡ Ok (steps.text F r, [])
unfolding cuts_at
cuts_again F r line h = rw (value_again (codes "cuts") line h.value h.field, h.cuts) refl

-- how the line after all fields leads to x: it ends the record, or it is a line of cuts
pub data Ended (F : Format) (r : Record) (line : List ℕ) (x : Next) : Type 0 where
  by_text : (text : Option (List ℕ)) → Ends F r (line ∷ []) text
      → ◌≡◌ {A = Next} (steps.between F, with_text text r ∷ []) x → Ended F r line x
  by_cuts : may_cut F r.suite ≡ true → IsCutsLine r line → ◌≡◌ {A = Next} (steps.text F r, []) x
      → Ended F r line x

-- if the line after all fields is read, it ends the record or is a line of cuts
pub end_ok : (F : Format) (r : Record) (line : List ℕ) (x : Next) → end_at F r line ≡ Ok x → Ended F r line x
unfolding end_at
end_ok F r line x e = by_word (bytes_eq line (codes "invalid")) refl e where
  by_name : (b : Bool) → (may_cut F r.suite && is_named (codes "cuts") (value_line line)) ≡ b
      → cond b (cuts_at F r line) (text_at F r line) ≡ Ok x → Ended F r line x
  by_name true is e =
      let c = cuts_ok F r line x e in
      by_cuts (and_parts (may_cut F r.suite) (is_named (codes "cuts") (value_line line)) is).0 c.0 c.1
  by_name false is e = let t = text_ok F r line x e in by_text (Some t.0) (Ends.text_line t.1) t.2

  by_word : (b : Bool) → bytes_eq line (codes "invalid") ≡ b
      → cond b (Ok (steps.between F, with_text None r ∷ []))
      (cond (may_cut F r.suite && is_named (codes "cuts") (value_line line)) (cuts_at F r line)
      (text_at F r line)) ≡ Ok x → Ended F r line x
  by_word true is e =
      by_text None (subst (λ (l : List ℕ). Ends F r (l ∷ []) None)
      (sym ((bytes_eq-Decides line (codes "invalid")).0 is)) Ends.invalid)
      (ok_is (steps.between F, with_text None r ∷ []) x e)
  by_word false is e = by_name (may_cut F r.suite && is_named (codes "cuts") (value_line line)) refl e

-- the word `invalid` is not a value line
no_field : value_line (codes "invalid") ≡ None
unfolding value_line field_of
no_field = refl

-- None is not Some x
none_some : (x : List ℕ × List ℕ) → None ≡ Some x → ⊥
none_some x e = cc

-- a value line is not the word `invalid`
pub differs : (line : List ℕ) (f : List ℕ × List ℕ) (b : Bool) → value_line line ≡ Some f
    → bytes_eq line (codes "invalid") ≡ b → b ≡ false
differs line f true h is =
    let same : line ≡ codes "invalid" = (bytes_eq-Decides line (codes "invalid")).0 is in
    absurd (none_some f (sym no_field ∙ ap value_line (sym same) ∙ h))
differs line f false h is = refl

-- a conjunction whose second part is false is false
and_false : (a b : Bool) → b ≡ false → (a && b) ≡ false
and_false true b e = e
and_false false b e = refl

-- a text line after all fields is read
pub end_text : (F : Format) (r : Record) (line v : List ℕ) → IsHexField line (codes "text") v
    → end_at F r line ≡ Ok (steps.between F, with_text (Some v) r ∷ [])
unfolding end_at
end_text F r line v h =
    rw (
      differs line (codes "text", h.digits) (bytes_eq line (codes "invalid")) h.field refl,
      and_false (may_cut F r.suite) (is_named (codes "cuts") (value_line line))
          (ap (is_named (codes "cuts")) h.field),
    )
    (text_again F r line v h)

-- the word `invalid` is read
pub end_invalid : (F : Format) (r : Record)
    → end_at F r (codes "invalid") ≡ Ok (steps.between F, with_text None r ∷ [])
unfolding end_at
end_invalid F r = refl

-- a line of cuts is read
pub end_cuts : (F : Format) (r : Record) (line : List ℕ) → may_cut F r.suite ≡ true → IsCutsLine r line
    → end_at F r line ≡ Ok (steps.text F r, [])
unfolding end_at
end_cuts F r line m h =
    rw (
      differs line (codes "cuts", h.value) (bytes_eq line (codes "invalid")) h.field refl,
      m,
      ap (is_named (codes "cuts")) h.field,
    )
    (cuts_again F r line h)
