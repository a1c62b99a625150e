-- Lines that were read, by the place that they lead to.
use Rattle.std.proofs.Common.{◌≡◌, ◌≢◌, ℕ, Bool, true, false, cond, List, [], ◌∷◌, ◌++◌, Option, Some, Ok}
use Rattle.std.proofs.Common.{refl, sym, ap, ◌∙◌, subst, append_assoc}
use Rattle.std.specs.List.{list_all}
use Rattle.std.proofs.lemmas.Bool.{and_parts}
use Rattle.std.proofs.lemmas.List.{append-nil}
use Rattle.vectors.specs.declared.suite.Format.{Format}
use Rattle.vectors.specs.declared.suite.Algorithm.{Algorithm}
use Rattle.vectors.specs.declared.suite.Field.{Field}
use Rattle.vectors.specs.Suites.{fields_of}
use Rattle.vectors.specs.Grammar as grammar
use Rattle.vectors.specs.Grammar.{Record, is_gap, IsFieldLine, IsFormatLine, IsSuiteLine, IsCutsLine}
use Rattle.vectors.specs.Grammar.{may_cut, unread, with_field, with_text, Fills, Ends, IsRecord, Formatted}
use Rattle.vectors.specs.Faults as faults
use Rattle.vectors.specs.Faults.{Expected, behind_fields, Begun, Expects, HasEnded}
use Rattle.vectors.specs.Code.Steps as steps
use Rattle.vectors.specs.Code.Steps.{◌>>=◌, Place, field_at, format_at, suite_at, end_at, text_at, step, run}
use Rattle.vectors.proofs.FieldLemmas.{Next, Ended, by_text, by_cuts, bind_ok, ok_is, field_ok, format_ok}
use Rattle.vectors.proofs.FieldLemmas.{suite_ok, text_ok, end_ok}
use Rattle.vectors.proofs.Runs.{run-nil, run-parts}

-- lines that end in the beginning of a record of which these fields are left
pub record InFields (F : Format) (left : List Field) (r : Record) (ls : List (List ℕ)) (rs : List Record) :
    Type 0 where
  pub front : List (List ℕ)
  pub formatted : Formatted F front rs
  pub suite : Algorithm
  pub l : List ℕ
  pub suite_line : IsSuiteLine F l suite
  pub read : List Field
  pub order : fields_of suite ≡ read ++ left
  pub ms : List (List ℕ)
  pub fills : Fills read (unread suite) ms r
  pub whole : ls ≡ front ++ l ∷ ms

-- lines that end in the beginning of a record, directly after its cuts
pub record BehindCuts (F : Format) (r : Record) (ls : List (List ℕ)) (rs : List Record) : Type 0 where
  pub front : List (List ℕ)
  pub formatted : Formatted F front rs
  pub suite : Algorithm
  pub l : List ℕ
  pub suite_line : IsSuiteLine F l suite
  pub ms : List (List ℕ)
  pub fills : Fills (fields_of suite) (unread suite) ms r
  pub may : may_cut F r.suite ≡ true
  pub c : List ℕ
  pub cuts : IsCutsLine r c
  pub whole : ls ≡ front ++ l ∷ (ms ++ c ∷ [])

-- these lines come before a place, and contain these records
abbrev pub At : Place → List (List ℕ) → List Record → Type 0
At steps.start ls rs = (list_all is_gap ls ≡ true) × (rs ≡ [])
At (steps.between F) ls rs = Formatted F ls rs
At (steps.fields F left r) ls rs = InFields F left r ls rs
At (steps.text F r) ls rs = BehindCuts F r ls rs

-- the lines before the next place, with its record if one ended
abbrev AtNext : List (List ℕ) → List Record → Next → Type 0
AtNext ls rs x = At x.0 ls (rs ++ x.1)

-- if the next place doesn't end a record, the records before it stay the same
moved : (q : Place) (ls : List (List ℕ)) (rs : List Record) (x : Next) → ◌≡◌ {A = Next} (q, []) x
    → At q ls rs → AtNext ls rs x
moved q ls rs x e h = subst (λ (y : Next). AtNext ls rs y) e
    (subst (λ (ss : List Record). At q ls ss) (sym (append-nil rs)) h)

-- blank lines and comments, and one more of them, are all blank lines or comments
all_snoc : (ls : List (List ℕ)) (l : List ℕ) → list_all is_gap ls ≡ true → is_gap l ≡ true
    → list_all is_gap (ls ++ l ∷ []) ≡ true
all_snoc [] l h g = rw g refl
all_snoc (m ∷ ls) l h g =
    let two = and_parts (is_gap m) (list_all is_gap ls) h in
    rw (two.0, all_snoc ls l two.1 g) refl

-- the lines of some fields, and the line of one more, fill all of these fields
fills_more : (fs : List Field) (r s : Record) (ms : List (List ℕ)) (f : Field) (l v : List ℕ)
    → Fills fs r ms s → IsFieldLine s.suite f l v
    → Fills (fs ++ f ∷ []) r (ms ++ l ∷ []) (with_field f v s)
fills_more _ _ _ _ f l v (grammar.nothing {r = r}) h = grammar.field h grammar.nothing
fills_more _ _ _ _ f l v (grammar.field {f = g} {fs = fs} {r = r} {s = s} {l = m} {ls = ms} {bytes = w} k t)
    h =
    grammar.field k (fills_more fs (with_field g w r) s ms f l v t h)

-- if no field is left, all were read
all_filled : (F : Format) (r : Record) (ls : List (List ℕ)) (rs : List Record) (h : InFields F [] r ls rs)
    → Fills (fields_of h.suite) (unread h.suite) h.ms r
all_filled F r ls rs h =
    subst (λ (fs : List Field). Fills fs (unread h.suite) h.ms r) (sym (h.order ∙ append-nil h.read)) h.fills

-- a line appended to lines is appended to the last part of them
longer : (ls front ms : List (List ℕ)) (a l : List ℕ) → ls ≡ front ++ a ∷ ms
    → ls ++ l ∷ [] ≡ front ++ a ∷ (ms ++ l ∷ [])
longer ls front ms a l e = ap (λ (x : List (List ℕ)). x ++ l ∷ []) e ∙ append_assoc front (a ∷ ms) (l ∷ [])

-- lines before the format line, and a line that is read there, come before the next place
from_start : (b : Bool) (l : List ℕ) (ls : List (List ℕ)) (rs : List Record) (x : Next) → is_gap l ≡ b
    → At steps.start ls rs
    → cond b (Ok (steps.start, [])) (format_at l >>= λ F. Ok (steps.between F, [])) ≡ Ok x
    → AtNext (ls ++ l ∷ []) rs x
from_start true l ls rs x g h e =
    moved steps.start (ls ++ l ∷ []) rs x (ok_is (steps.start, []) x e) (all_snoc ls l h.0 g, h.1)
from_start false l ls rs x g h e =
    let F = bind_ok (format_at l) (λ F. Ok (steps.between F, [])) x e in
    moved (steps.between F.0) (ls ++ l ∷ []) rs x (ok_is (steps.between F.0, []) x F.2)
    (subst (λ (ss : List Record). Formatted F.0 (ls ++ l ∷ []) ss) (sym h.1)
    (grammar.starts ls h.0 (format_ok l F.0 F.1)))

-- lines before a record, and a line that is read there, come before the next place
from_between : (b : Bool) (F : Format) (l : List ℕ) (ls : List (List ℕ)) (rs : List Record) (x : Next)
    → is_gap l ≡ b → Formatted F ls rs
    → cond b (Ok (steps.between F, []))
    (suite_at F l >>= λ s. Ok (steps.fields F (fields_of s) (unread s), [])) ≡ Ok x
    → AtNext (ls ++ l ∷ []) rs x
from_between true F l ls rs x g h e =
    moved (steps.between F) (ls ++ l ∷ []) rs x (ok_is (steps.between F, []) x e) (grammar.gap l h g)
from_between false F l ls rs x g h e =
    let s = bind_ok (suite_at F l) (λ s. Ok (steps.fields F (fields_of s) (unread s), [])) x e in
    moved (steps.fields F (fields_of s.0) (unread s.0)) (ls ++ l ∷ []) rs x
    (ok_is (steps.fields F (fields_of s.0) (unread s.0), []) x s.2) (record {
      front = ls;
      formatted = h;
      suite = s.0;
      l = l;
      suite_line = suite_ok F l s.0 s.1;
      read = [];
      order = refl;
      ms = [];
      fills = grammar.nothing;
      whole = refl;
    })

-- lines before a field, and the line of the field, come before the next place
from_fields : (F : Format) (f : Field) (fs : List Field) (r : Record) (l : List ℕ) (ls : List (List ℕ))
    (rs : List Record) (x : Next)
    → InFields F (f ∷ fs) r ls rs
    → (field_at r.suite f l >>= λ v. Ok (steps.fields F fs (with_field f v r), [])) ≡ Ok x
    → AtNext (ls ++ l ∷ []) rs x
from_fields F f fs r l ls rs x h e =
    let v = bind_ok (field_at r.suite f l) (λ v. Ok (steps.fields F fs (with_field f v r), [])) x e in
    moved (steps.fields F fs (with_field f v.0 r)) (ls ++ l ∷ []) rs x
    (ok_is (steps.fields F fs (with_field f v.0 r), []) x v.2) (record {
      front = h.front;
      formatted = h.formatted;
      suite = h.suite;
      l = h.l;
      suite_line = h.suite_line;
      read = h.read ++ f ∷ [];
      order = h.order ∙ sym (append_assoc h.read (f ∷ []) fs);
      ms = h.ms ++ l ∷ [];
      fills = fills_more h.read (unread h.suite) r h.ms f l v.0 h.fills (field_ok r.suite f l v.0 v.1);
      whole = longer ls h.front h.ms h.l l h.whole;
    })

-- lines before a record and the lines of the record come before the place between records
added : (F : Format) (front ms es ls : List (List ℕ)) (l : List ℕ) (s : Algorithm) (r : Record)
    (t : Option (List ℕ)) (rs : List Record) (x : Next)
    → Formatted F front rs → IsSuiteLine F l s → Fills (fields_of s) (unread s) ms r → Ends F r es t
    → ls ≡ front ++ l ∷ (ms ++ es)
    → ◌≡◌ {A = Next} (steps.between F, with_text t r ∷ []) x → AtNext ls rs x
added F front ms es ls l s r t rs x h a f e whole same =
    subst (λ (y : Next). AtNext ls rs y) same
    (subst (λ (ks : List (List ℕ)). Formatted F ks (rs ++ with_text t r ∷ [])) (sym whole)
    (grammar.adds h (grammar.made a f e)))

-- lines that end in all fields of a record, and a line that is read there, come before the next place
from_end : (F : Format) (r : Record) (l : List ℕ) (ls : List (List ℕ)) (rs : List Record) (x : Next)
    → InFields F [] r ls rs → Ended F r l x → AtNext (ls ++ l ∷ []) rs x
from_end F r l ls rs x h (by_text t e same) =
    added F h.front h.ms (l ∷ []) (ls ++ l ∷ []) h.l h.suite r t rs x h.formatted h.suite_line
    (all_filled F r ls rs h) e (longer ls h.front h.ms h.l l h.whole) same
from_end F r l ls rs x h (by_cuts m k same) =
    moved (steps.text F r) (ls ++ l ∷ []) rs x same (record {
      front = h.front;
      formatted = h.formatted;
      suite = h.suite;
      l = h.l;
      suite_line = h.suite_line;
      ms = h.ms;
      fills = all_filled F r ls rs h;
      may = m;
      c = l;
      cuts = k;
      whole = longer ls h.front h.ms h.l l h.whole;
    })

-- lines that end in cuts, and a text line, come before the next place
from_text : (F : Format) (r : Record) (l : List ℕ) (ls : List (List ℕ)) (rs : List Record) (x : Next)
    → BehindCuts F r ls rs → text_at F r l ≡ Ok x → AtNext (ls ++ l ∷ []) rs x
from_text F r l ls rs x h e =
    let t = text_ok F r l x e in
    added F h.front h.ms (h.c ∷ l ∷ []) (ls ++ l ∷ []) h.l h.suite r (Some t.0) rs x h.formatted h.suite_line
    h.fills (grammar.cuts h.may h.cuts t.1)
    (longer ls h.front (h.ms ++ h.c ∷ []) h.l l h.whole
    ∙ ap (λ (k : List (List ℕ)). h.front ++ h.l ∷ k) (append_assoc h.ms (h.c ∷ []) (l ∷ []))) t.2

-- lines before a place, and a line that is read there, come before the next place
step_at : (p : Place) (l : List ℕ) (ls : List (List ℕ)) (rs : List Record) (x : Next) → At p ls rs
    → step p l ≡ Ok x → AtNext (ls ++ l ∷ []) rs x
unfolding step
step_at steps.start l ls rs x h e = from_start (is_gap l) l ls rs x refl h e
step_at (steps.between F) l ls rs x h e = from_between (is_gap l) F l ls rs x refl h e
step_at (steps.fields F [] r) l ls rs x h e = from_end F r l ls rs x h (end_ok F r l x e)
step_at (steps.fields F (f ∷ fs) r) l ls rs x h e = from_fields F f fs r l ls rs x h e
step_at (steps.text F r) l ls rs x h e = from_text F r l ls rs x h e

-- lines before a place, and the lines of a run from there, come before the place that the run leads to
run_at : (ms : List (List ℕ)) (p : Place) (ls : List (List ℕ)) (rs : List Record) (x : Next) → At p ls rs
    → run p ms ≡ Ok x → At x.0 (ls ++ ms) (rs ++ x.1)
run_at [] p ls rs x h e =
    subst (λ (y : Next). At y.0 (ls ++ []) (rs ++ y.1)) (run-nil p x e)
    (subst (λ (ks : List (List ℕ)). At p ks (rs ++ [])) (sym (append-nil ls))
    (subst (λ (ss : List Record). At p ls ss) (sym (append-nil rs)) h))
run_at (l ∷ ms) p ls rs x h e =
    let r = run-parts p l ms x e in
    let a = r.0 in
    let b = r.2.0 in
    let there : At b.0 ((ls ++ l ∷ []) ++ ms) ((rs ++ a.1) ++ b.1) =
    run_at ms a.0 (ls ++ l ∷ []) (rs ++ a.1) b (step_at p l ls rs a h r.1) r.2.1 in
    subst (λ (y : Next). At y.0 (ls ++ l ∷ ms) (rs ++ y.1)) r.2.2
    (subst (λ (ks : List (List ℕ)). At b.0 ks (rs ++ (a.1 ++ b.1))) (append_assoc ls (l ∷ []) ms)
    (subst (λ (ss : List Record). At b.0 ((ls ++ l ∷ []) ++ ms) ss) (append_assoc rs a.1 b.1) there))

-- lines that were read from the start come before the place that they lead to
pub lines_at : (ls : List (List ℕ)) (x : Next) → run steps.start ls ≡ Ok x → At x.0 ls x.1
lines_at ls x e = run_at ls steps.start [] [] x (refl, refl) e

-- the line that is expected at a place
abbrev pub expected : Place → Expected
expected steps.start = faults.format_line
expected (steps.between F) = faults.suite_line F
expected (steps.fields F [] r) = behind_fields F r
expected (steps.fields F (f ∷ fs) r) = faults.field_line r.suite f
expected (steps.text F r) = faults.text_line

-- the line expected at a place is expected after the lines before the place
at_expects : (p : Place) (ls : List (List ℕ)) (rs : List Record) → At p ls rs → Expects ls (expected p)
at_expects steps.start ls rs h = faults.unformatted h.0
at_expects (steps.between F) ls rs h = faults.formatted h
at_expects (steps.fields F [] r) ls rs h =
    subst (λ (ks : List (List ℕ)). Expects ks (behind_fields F r)) (sym h.whole)
    (faults.inside h.formatted (faults.all_fields h.suite_line (all_filled F r ls rs h)))
at_expects (steps.fields F (f ∷ fs) r) ls rs h =
    subst (λ (ks : List (List ℕ)). Expects ks (faults.field_line r.suite f)) (sym h.whole)
    (faults.inside h.formatted (faults.some_fields fs h.suite_line h.order h.fills))
at_expects (steps.text F r) ls rs h =
    subst (λ (ks : List (List ℕ)). Expects ks faults.text_line) (sym h.whole)
    (faults.inside h.formatted (faults.cuts h.suite_line h.fills h.may h.cuts))

-- the line expected at a place is expected after lines that were read to the place
pub expects : (ls : List (List ℕ)) (x : Next) → run steps.start ls ≡ Ok x → Expects ls (expected x.0)
expects ls x e = at_expects x.0 ls x.1 (lines_at ls x e)

-- if the lines before a place contain a record, some first lines are a file
pub file_at : (p : Place) (ls : List (List ℕ)) (rs : List Record) → At p ls rs → rs ≢ [] → HasEnded ls
file_at steps.start ls rs h some = absurd (some h.1)
file_at (steps.between F) ls rs h some = record {
  front = ls;
  rest = [];
  whole = sym (append-nil ls);
  records = rs;
  file = record { format = F; formatted = h; some = some };
}
file_at (steps.fields F left r) ls rs h some = record {
  front = h.front;
  rest = h.l ∷ h.ms;
  whole = h.whole;
  records = rs;
  file = record { format = F; formatted = h.formatted; some = some };
}
file_at (steps.text F r) ls rs h some = record {
  front = h.front;
  rest = h.l ∷ (h.ms ++ h.c ∷ []);
  whole = h.whole;
  records = rs;
  file = record { format = F; formatted = h.formatted; some = some };
}
