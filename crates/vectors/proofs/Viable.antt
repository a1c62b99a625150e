-- Lines are viable if and only if they can be read.
use Rattle.std.proofs.Common.{◌≡◌, ◌≢◌, ℕ, suc, ◌*◌, ◌≤◌, List, [], ◌∷◌, ◌++◌, length, replicate, None, Some}
use Rattle.std.proofs.Common.{Ok, refl, ap, arith, length-append}
use Rattle.std.specs.Prelude.{codes}
use Rattle.aead.specs.declared.suite.Suite.TheVariants.{ChaCha20Poly1305, Aes128Gcm, Aes192Gcm, Aes256Gcm}
use Rattle.aead.specs.declared.suite.Suite.TheVariants.{Aes128GcmSiv, Aes256GcmSiv}
use Rattle.vectors.specs.declared.suite.Format.{Format}
use Rattle.vectors.specs.declared.suite.Format.TheVariants.{One, Two}
use Rattle.vectors.specs.declared.suite.Aes.TheVariants.{Bits128, Bits192, Bits256}
use Rattle.vectors.specs.declared.suite.Algorithm.{Algorithm}
use Rattle.vectors.specs.declared.suite.Algorithm.TheVariants.{Aead, Wrap, WrapPad}
use Rattle.vectors.specs.declared.suite.Field.{Field}
use Rattle.vectors.specs.declared.suite.Field.TheVariants.{Key, Nonce, Aad, Sealed}
use Rattle.vectors.specs.Suites.{suite_named, suite_key_length, fields_of}
use Rattle.vectors.specs.Grammar.{Record, field_of, value_line, with_field, with_text, unread, IsViable}
use Rattle.vectors.specs.Faults.{is_hex, bytes_of}
use Rattle.hex.specs.Hex.{decode_pairs}
use Rattle.vectors.specs.Code.Steps as steps
use Rattle.vectors.specs.Code.Steps.{Place, value_at, hex_at, field_at, format_at, suite_at, end_at, text_at}
use Rattle.vectors.specs.Code.Steps.{step, run}
use Rattle.vectors.proofs.FieldLemmas.{Next}
use Rattle.vectors.proofs.Runs.{both, one, first, run-front, complete}
use Rattle.vectors.proofs.Places.{At, lines_at}

-- n lines that lead from a place to the end of a record
record Ending (p : Place) (n : ℕ) : Type 0 where
  pub format : Format
  pub more : List (List ℕ)
  pub size : length more ≡ n
  pub records : List Record
  pub some : records ≢ []
  pub read : run p more ≡ Ok (steps.between format, records)

-- a list with a first record is not empty
cons_some : (r : Record) (rs : List Record) → (r ∷ rs) ≢ []
cons_some r rs e = cc

-- if a line leads from p to q, and q has an ending of n lines, p has one of n + 1
longer : (p q : Place) (n : ℕ) (l : List ℕ) → step p l ≡ Ok (q, []) → Ending q n → Ending p (suc n)
longer p q n l e end = record {
  format = end.format;
  more = l ∷ end.more;
  size = ap suc end.size;
  records = end.records;
  some = end.some;
  read = first p q l end.more (steps.between end.format) end.records e end.read;
}

-- a place from which one line ends a record has an ending of one line
last : (p : Place) (F : Format) (l : List ℕ) (r : Record) → step p l ≡ Ok (steps.between F, r ∷ [])
    → Ending p 1
last p F l r e = record {
  format = F;
  more = l ∷ [];
  size = refl;
  records = r ∷ [];
  some = cons_some r [];
  read = one p (steps.between F) l (r ∷ []) e;
}

-- the word `invalid` ends a record
invalid-step : (F : Format) (r : Record)
    → step (steps.fields F [] r) (codes "invalid") ≡ Ok (steps.between F, with_text None r ∷ [])
unfolding step end_at
invalid-step F r = refl

-- a text line after cuts ends a record
text-step : (F : Format) (r : Record)
    → step (steps.text F r) (codes "text=") ≡ Ok (steps.between F, with_text (Some []) r ∷ [])
unfolding step text_at hex_at value_at value_line field_of is_hex bytes_of decode_pairs
text-step F r = refl

-- a line with a key of zero bytes, of the suite's length
key_line : Algorithm → List ℕ
key_line s = codes "key=" ++ replicate (2 * suite_key_length s) 48

-- the line with a key of zero bytes is read
key-read : (s : Algorithm) → field_at s Key (key_line s) ≡ Ok (replicate (suite_key_length s) 0)
unfolding field_at hex_at value_at value_line field_of is_hex bytes_of decode_pairs key_line
key-read (Aead ChaCha20Poly1305) = refl
key-read (Aead Aes128Gcm) = refl
key-read (Aead Aes192Gcm) = refl
key-read (Aead Aes256Gcm) = refl
key-read (Aead Aes128GcmSiv) = refl
key-read (Aead Aes256GcmSiv) = refl
key-read (Wrap Bits128) = refl
key-read (Wrap Bits192) = refl
key-read (Wrap Bits256) = refl
key-read (WrapPad Bits128) = refl
key-read (WrapPad Bits192) = refl
key-read (WrapPad Bits256) = refl

-- a line for a field
record HasLine (s : Algorithm) (f : Field) : Type 0 where
  pub l : List ℕ
  pub bytes : List ℕ
  pub read : field_at s f l ≡ Ok bytes

-- each field has a line
line_of : (s : Algorithm) (f : Field) → HasLine s f
unfolding field_at hex_at value_at value_line field_of is_hex bytes_of decode_pairs
line_of s Key = record { l = key_line s; bytes = replicate (suite_key_length s) 0; read = key-read s }
line_of s Nonce = record { l = codes "nonce=000000000000000000000000"; bytes = replicate 12 0; read = refl }
line_of s Aad = record { l = codes "aad="; bytes = []; read = refl }
line_of s Sealed = record { l = codes "sealed="; bytes = []; read = refl }

-- the step of a field's line fills the field
field-step : (F : Format) (f : Field) (fs : List Field) (r : Record) (l v : List ℕ)
    → field_at r.suite f l ≡ Ok v
    → step (steps.fields F (f ∷ fs) r) l ≡ Ok (steps.fields F fs (with_field f v r), [])
unfolding step
field-step F f fs r l v e = rw e refl

-- a place at a field has an ending of one line for each field that is left, and one more
of_fields : (F : Format) (left : List Field) (r : Record) → Ending (steps.fields F left r) (suc (length left))
of_fields F [] r = last (steps.fields F [] r) F (codes "invalid") (with_text None r) (invalid-step F r)
of_fields F (f ∷ fs) r =
    let h = line_of r.suite f in
    longer (steps.fields F (f ∷ fs) r) (steps.fields F fs (with_field f h.bytes r)) (suc (length fs)) h.l
    (field-step F f fs r h.l h.bytes h.read) (of_fields F fs (with_field f h.bytes r))

-- a wrap suite is read
suite-step : (F : Format)
    → step (steps.between F) (codes "suite=aes-128-wrap")
    ≡ Ok (steps.fields F (Key ∷ Sealed ∷ []) (unread (Wrap Bits128)), [])
unfolding step suite_at value_at value_line field_of suite_named
suite-step One = refl
suite-step Two = refl

-- a place between records has an ending of four lines
of_between : (F : Format) → Ending (steps.between F) 4
of_between F = longer (steps.between F) _ 3 (codes "suite=aes-128-wrap") (suite-step F)
    (of_fields F (Key ∷ Sealed ∷ []) (unread (Wrap Bits128)))

-- a format line is read
format-step : step steps.start (codes "format=1") ≡ Ok (steps.between One, [])
unfolding step format_at value_line field_of
format-step = refl

-- from a place a record can be ended in at most five lines
record Endable (p : Place) : Type 0 where
  pub n : ℕ
  pub few : n ≤ 5
  pub ending : Ending p n

-- a record has at most four fields
four : (s : Algorithm) → length (fields_of s) ≤ 4
four (Aead s) = omega arith
four (Wrap aes) = omega arith
four (WrapPad aes) = omega arith

-- from each place that lines lead to, a record can be ended in at most five lines
endable : (p : Place) (ls : List (List ℕ)) (rs : List Record) → At p ls rs → Endable p
endable steps.start ls rs h =
    record {
      n = 5;
      few = omega arith;
      ending =
          longer steps.start (steps.between One) 4 (codes "format=1") format-step (of_between One);
    }
endable (steps.between F) ls rs h = record { n = 4; few = omega arith; ending = of_between F }
endable (steps.fields F left r) ls rs h = record {
  n = suc (length left);
  few = omega (arith, four h.suite, ap length h.order, length-append h.read left);
  ending = of_fields F left r;
}
endable (steps.text F r) ls rs h =
    record {
      n = 1;
      few = omega arith;
      ending =
          last (steps.text F r) F (codes "text=") (with_text (Some []) r) (text-step F r);
    }

-- records joined with at least one more are not empty
append_some : (rs ss : List Record) → ss ≢ [] → (rs ++ ss) ≢ []
append_some [] ss h = h
append_some (r ∷ rs) ss h = cons_some r (rs ++ ss)

-- lines that can be read are viable
pub viable : (ls : List (List ℕ)) (x : Next) → run steps.start ls ≡ Ok x → IsViable ls
viable ls x e =
    let end = endable x.0 ls x.1 (lines_at ls x e) in
    let F : Format = end.ending.format in
    let read : run steps.start (ls ++ end.ending.more) ≡ Ok (steps.between F, x.1 ++ end.ending.records) =
    both steps.start x.0 ls end.ending.more (steps.between F) x.1 end.ending.records e end.ending.read in
    record {
      more = end.ending.more;
      few = omega (arith, end.few, end.ending.size);
      records = x.1 ++ end.ending.records;
      file = record {
        format = F;
        formatted = lines_at (ls ++ end.ending.more) (steps.between F, x.1 ++ end.ending.records) read;
        some = append_some x.1 end.ending.records end.ending.some;
      };
    }

-- viable lines can be read
pub viable_reads : (ls : List (List ℕ)) → IsViable ls → (x : Next) × (run steps.start ls ≡ Ok x)
viable_reads ls v = run-front steps.start ls v.more (steps.between v.file.format, v.records)
    (complete v.file.format (ls ++ v.more) v.records v.file.formatted)
