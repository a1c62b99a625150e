-- Reading lines one after the other, and the grammar.
use Rattle.std.proofs.Common.{◌≡◌, ℕ, true, List, [], ◌∷◌, ◌++◌, Option, Result, Ok, Err, refl, sym, ap, ◌∙◌}
use Rattle.std.proofs.Common.{subst, append_assoc}
use Rattle.std.specs.Prelude.{codes}
use Rattle.std.specs.List.{list_all}
use Rattle.std.proofs.lemmas.Bool.{and_parts}
use Rattle.std.proofs.lemmas.List.{append-nil}
use Rattle.vectors.specs.declared.fault.Cause.{Cause}
use Rattle.vectors.specs.declared.suite.Format.{Format}
use Rattle.vectors.specs.declared.suite.Algorithm.{Algorithm}
use Rattle.vectors.specs.declared.suite.Field.{Field}
use Rattle.vectors.specs.Suites.{fields_of}
use Rattle.vectors.specs.Grammar as grammar
use Rattle.vectors.specs.Grammar.{Record, is_gap, IsFieldLine, IsFormatLine, IsSuiteLine, IsCutsLine}
use Rattle.vectors.specs.Grammar.{may_cut, unread, with_field, with_text, Fills, Ends, IsRecord, Formatted}
use Rattle.vectors.specs.Code.Steps as steps
use Rattle.vectors.specs.Code.Steps.{◌>>=◌, Place, field_at, format_at, suite_at, step, run}
use Rattle.vectors.proofs.FieldLemmas.{Next, bind_ok, ok_is, no_gap, field_again, format_again, suite_again}
use Rattle.vectors.proofs.FieldLemmas.{text_again, end_text, end_invalid, end_cuts}

-- the result of reading lines: a place and the records that ended before it, or the cause
abbrev pub Read : Type 0
Read = Result Next Cause

-- the result of a reading, with some records put in front of its own
abbrev pub behind : List Record → Read → Read
behind front read = read >>= λ x. Ok (x.0, front ++ x.1)

-- records put in front of an Ok result go in front of its records
behind-Ok : (front : List Record) (read : Read) (x : Next) → read ≡ Ok x
    → behind front read ≡ Ok (x.0, front ++ x.1)
behind-Ok front read x e = rw e refl

-- putting b in front and then a is putting a ++ b in front
behind-behind : (a b : List Record) (read : Read) → behind a (behind b read) ≡ behind (a ++ b) read
behind-behind a b (Ok x) = ap (λ (rs : List Record). Ok (x.0, rs)) (sym (append_assoc a b x.1))
behind-behind a b (Err d) = refl

-- putting no records in front changes nothing
behind-nil : (read : Read) → behind [] read ≡ read
behind-nil (Ok x) = refl
behind-nil (Err d) = refl

-- reading no lines returns the place and no records
pub run-empty : (p : Place) → run p [] ≡ Ok (p, [])
unfolding run
run-empty p = refl

-- if reading no lines returns x, then x is the place and no records
pub run-nil : (p : Place) (x : Next) → run p [] ≡ Ok x → (p, []) ≡ x
unfolding run
run-nil p x e = ok_is (p, []) x e

-- reading a line and then others is a run over the others, with the records of the line's step in front
run-cons : (p : Place) (l : List ℕ) (ls : List (List ℕ)) (x : Next) → step p l ≡ Ok x
    → run p (l ∷ ls) ≡ behind x.1 (run x.0 ls)
unfolding run
run-cons p l ls x e = rw e refl

-- if reading lines returns Ok, the step of the first line did, and the run of the others after it
pub run-parts : (p : Place) (l : List ℕ) (ls : List (List ℕ)) (x : Next) → run p (l ∷ ls) ≡ Ok x
    → (a : Next) × (step p l ≡ Ok a) × ((b : Next) × (run a.0 ls ≡ Ok b) × ((b.0, a.1 ++ b.1) ≡ x))
unfolding run
run-parts p l ls x e =
    let a = bind_ok (step p l) (λ first. run first.0 ls >>= λ others. Ok (others.0, first.1 ++ others.1)) x e
    in
    let b = bind_ok (run a.0.0 ls) (λ others. Ok (others.0, a.0.1 ++ others.1)) x a.2 in
    (a.0, a.1, (b.0, b.1, ok_is (b.0.0, a.0.1 ++ b.0.1) x b.2))

-- reading lines and then others is a run over the others, with the records of the first lines in front
pub run-append : (p : Place) (ls ms : List (List ℕ)) (x : Next) → run p ls ≡ Ok x
    → run p (ls ++ ms) ≡ behind x.1 (run x.0 ms)
run-append p [] ms x e =
    subst (λ (y : Next). run p ms ≡ behind y.1 (run y.0 ms)) (run-nil p x e) (sym (behind-nil (run p ms)))
run-append p (l ∷ ls) ms x e =
    let r = run-parts p l ls x e in
    let a = r.0 in
    let b = r.2.0 in
    let whole : run p (l ∷ (ls ++ ms)) ≡ behind (a.1 ++ b.1) (run b.0 ms) =
    run-cons p l (ls ++ ms) a r.1 ∙ ap (behind a.1) (run-append a.0 ls ms b r.2.1)
    ∙ behind-behind a.1 b.1 (run b.0 ms) in
    subst (λ (y : Next). run p (l ∷ (ls ++ ms)) ≡ behind y.1 (run y.0 ms)) r.2.2 whole

-- the front of lines that can be read can be read
pub run-front : (p : Place) (ls ms : List (List ℕ)) (y : Next) → run p (ls ++ ms) ≡ Ok y
    → (x : Next) × (run p ls ≡ Ok x)
unfolding run
run-front p [] ms y e = ((p, []), refl)
run-front p (l ∷ ls) ms y e =
    let r = run-parts p l (ls ++ ms) y e in
    let f = run-front r.0.0 ls ms r.2.0 r.2.1 in
    ((f.0.0, r.0.1 ++ f.0.1), run-cons p l ls r.0 r.1 ∙ behind-Ok r.0.1 (run r.0.0 ls) f.0 f.1)

-- if lines lead from p to q and others from q to x, all of them lead from p to x, and the records are joined
pub both : (p q : Place) (ls ms : List (List ℕ)) (x : Place) (rs ss : List Record) → run p ls ≡ Ok (q, rs)
    → run q ms ≡ Ok (x, ss) → run p (ls ++ ms) ≡ Ok (x, rs ++ ss)
both p q ls ms x rs ss e f = run-append p ls ms (q, rs) e ∙ behind-Ok rs (run q ms) (x, ss) f

-- reading one line is its step
pub one : (p q : Place) (l : List ℕ) (rs : List Record) → step p l ≡ Ok (q, rs) → run p (l ∷ []) ≡ Ok (q, rs)
one p q l rs e = run-cons p l [] (q, rs) e ∙ behind-Ok rs (run q []) (q, []) (run-empty q)
    ∙ ap (λ (ss : List Record). Ok (q, ss)) (append-nil rs)

-- a line that doesn't end a record, and then other lines, lead to the place and the records of the others
pub first : (p q : Place) (l : List ℕ) (ls : List (List ℕ)) (x : Place) (rs : List Record)
    → step p l ≡ Ok (q, []) → run q ls ≡ Ok (x, rs) → run p (l ∷ ls) ≡ Ok (x, rs)
first p q l ls x rs e f = run-cons p l ls (q, []) e ∙ behind-Ok [] (run q ls) (x, rs) f

-- ---- reading the lines of the grammar

-- a blank line or a comment before the format line
gap-start : (l : List ℕ) → is_gap l ≡ true → step steps.start l ≡ Ok (steps.start, [])
unfolding step
gap-start l h = rw h refl

-- the format line
format-line : (F : Format) (l : List ℕ) → IsFormatLine l F → step steps.start l ≡ Ok (steps.between F, [])
unfolding step
format-line F l h = rw (no_gap l (codes "format", h.name) h.field, format_again l F h) refl

-- a blank line or a comment between records
gap-between : (F : Format) (l : List ℕ) → is_gap l ≡ true
    → step (steps.between F) l ≡ Ok (steps.between F, [])
unfolding step
gap-between F l h = rw h refl

-- a suite line
pub suite-line : (F : Format) (l : List ℕ) (s : Algorithm) → IsSuiteLine F l s
    → step (steps.between F) l ≡ Ok (steps.fields F (fields_of s) (unread s), [])
unfolding step
suite-line F l s h = rw (no_gap l (codes "suite", h.name) h.field, suite_again F l s h) refl

-- the line of a field
field-line : (F : Format) (f : Field) (fs : List Field) (r : Record) (l v : List ℕ)
    → IsFieldLine r.suite f l v
    → step (steps.fields F (f ∷ fs) r) l ≡ Ok (steps.fields F fs (with_field f v r), [])
unfolding step
field-line F f fs r l v h = rw (field_again r.suite f l v h) refl

-- the lines of some fields
pub fills_read : (F : Format) (fs left : List Field) (r s : Record) (ms : List (List ℕ)) → Fills fs r ms s
    → run (steps.fields F (fs ++ left) r) ms ≡ Ok (steps.fields F left s, [])
fills_read F _ left _ _ _ (grammar.nothing {r = r}) = run-empty (steps.fields F left r)
fills_read F _ left _ _ _ (grammar.field {f = f} {fs = fs} {r = r} {s = s} {l = l} {ls = ls} {bytes = v} h t)
    =
    first (steps.fields F (f ∷ (fs ++ left)) r) (steps.fields F (fs ++ left) (with_field f v r)) l ls
    (steps.fields F left s) [] (field-line F f (fs ++ left) r l v h)
    (fills_read F fs left (with_field f v r) s ls t)

-- the lines of all fields
pub all_read : (F : Format) (fs : List Field) (r s : Record) (ms : List (List ℕ)) → Fills fs r ms s
    → run (steps.fields F fs r) ms ≡ Ok (steps.fields F [] s, [])
all_read F fs r s ms h =
    ap (λ (gs : List Field). run (steps.fields F gs r) ms) (sym (append-nil fs))
    ∙ fills_read F fs [] r s ms h

-- the line after all fields is read as the end of the record
end-line : (F : Format) (r : Record) (l : List ℕ) → step (steps.fields F [] r) l ≡ steps.end_at F r l
unfolding step
end-line F r l = refl

-- the line after cuts is read as the text line
text-line : (F : Format) (r : Record) (l : List ℕ) → step (steps.text F r) l ≡ steps.text_at F r l
unfolding step
text-line F r l = refl

-- a line of cuts
pub cuts-line : (F : Format) (r : Record) (l : List ℕ) → may_cut F r.suite ≡ true → IsCutsLine r l
    → step (steps.fields F [] r) l ≡ Ok (steps.text F r, [])
cuts-line F r l m h = end-line F r l ∙ end_cuts F r l m h

-- the last lines of a record
ends_read : (F : Format) (r : Record) (es : List (List ℕ)) (t : Option (List ℕ)) → Ends F r es t
    → run (steps.fields F [] r) es ≡ Ok (steps.between F, with_text t r ∷ [])
ends_read F r _ _ (grammar.text_line {l = l} {bytes = v} h) =
    one (steps.fields F [] r) (steps.between F) l _ (end-line F r l ∙ end_text F r l v h)
ends_read F r _ _ grammar.invalid =
    one (steps.fields F [] r) (steps.between F) (codes "invalid") _
    (end-line F r (codes "invalid") ∙ end_invalid F r)
ends_read F r _ _ (grammar.cuts {c = c} {l = l} {bytes = v} m h t) =
    first (steps.fields F [] r) (steps.text F r) c (l ∷ []) (steps.between F) _ (cuts-line F r c m h)
    (one (steps.text F r) (steps.between F) l _ (text-line F r l ∙ text_again F r l v t))

-- the lines of a record
record_read : (F : Format) (ms : List (List ℕ)) (r : Record) → IsRecord F ms r
    → run (steps.between F) ms ≡ Ok (steps.between F, r ∷ [])
record_read F _ _ (grammar.made {suite = s} {l = l} {ms = ms} {es = es} {r = r} {text = t} a h e) =
    first (steps.between F) (steps.fields F (fields_of s) (unread s)) l (ms ++ es) (steps.between F)
    (with_text t r ∷ []) (suite-line F l s a)
    (both (steps.fields F (fields_of s) (unread s)) (steps.fields F [] r) ms es (steps.between F) []
    (with_text t r ∷ []) (all_read F (fields_of s) (unread s) r ms h) (ends_read F r es t e))

-- blank lines and comments before the format line
pub gaps_read : (ls : List (List ℕ)) → list_all is_gap ls ≡ true → run steps.start ls ≡ Ok (steps.start, [])
gaps_read [] h = run-empty steps.start
gaps_read (l ∷ ls) h =
    let two = and_parts (is_gap l) (list_all is_gap ls) h in
    first steps.start steps.start l ls steps.start [] (gap-start l two.0) (gaps_read ls two.1)

-- the lines of a file
pub complete : (F : Format) (ls : List (List ℕ)) (rs : List Record) → Formatted F ls rs
    → run steps.start ls ≡ Ok (steps.between F, rs)
complete F _ _ (grammar.starts gaps {l = l} h a) =
    both steps.start steps.start gaps (l ∷ []) (steps.between F) [] [] (gaps_read gaps h)
    (one steps.start (steps.between F) l [] (format-line F l a))
complete F _ _ (grammar.gap {ls = ls} l {rs = rs} h g) =
    both steps.start (steps.between F) ls (l ∷ []) (steps.between F) rs [] (complete F ls rs h)
    (one (steps.between F) (steps.between F) l [] (gap-between F l g))
    ∙ ap (λ (ss : List Record). Ok (steps.between F, ss)) (append-nil rs)
complete F _ _ (grammar.adds {ls = ls} {ms = ms} {rs = rs} {r = r} h m) =
    both steps.start (steps.between F) ls ms (steps.between F) rs (r ∷ []) (complete F ls rs h)
    (record_read F ms r m)
