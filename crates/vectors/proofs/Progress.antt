-- Lines read so far, in a loop.
use Rattle.std.proofs.Common.{◌≡◌, ◌≢◌, ℕ, ◌+◌, Bool, true, false, cond, List, [], ◌∷◌, ◌++◌, length, Ok}
use Rattle.std.proofs.Common.{Err, refl, sym, ap, ◌∙◌, subst, arith, append_assoc, length-append}
use Rattle.std.proofs.lemmas.List.{append-nil}
use Rattle.vectors.specs.declared.fault.Cause.{Cause}
use Rattle.vectors.specs.Grammar.{Record, IsFile, IsViable}
use Rattle.vectors.specs.Code.Steps as steps
use Rattle.vectors.specs.declared.place.Place as program
use Rattle.vectors.specs.declared.place.Place.TheVariants.{Start, Between, Fields, Text}
use Rattle.vectors.specs.Code.Views.{view}
use Rattle.vectors.specs.Code.Steps.{Place, step, run}
use Rattle.vectors.specs.Faults.{IsFaultAt, IsCutOff, HasEnded, IsFaultOf, is_inside}
use Rattle.vectors.specs.Reports.{IsReported}
use Rattle.vectors.specs.declared.fault.VectorFault.{VectorFault}
use Rattle.vectors.specs.declared.fault.VectorFault.TheVariants.{AtLine, NoRecords, Unfinished, OutOfMemory}
use Rattle.std.specs.Prelude.{Result, IfErr}
use Rattle.vectors.specs.declared.suite.Format.{Format}
use Rattle.vectors.specs.declared.suite.Field.{Field}
use Rattle.vectors.specs.Grammar.{may_cut, most_cut}
use Rattle.vectors.specs.Faults as faults
use Rattle.vectors.proofs.FieldLemmas.{ok_is}
use Rattle.vectors.proofs.Runs.{Read, behind, run-empty, run-append, run-front, both, one, complete}
use Rattle.vectors.proofs.Viable.{viable, viable_reads}
use Rattle.vectors.proofs.Places.{expected, expects, lines_at, file_at}
use Rattle.vectors.proofs.OnlyExpected.{only_expected}
use Rattle.vectors.proofs.RowLemmas.{wrong}

-- n lines were read, to this place and these records, and `rest` is left
pub record Progress (lines rest : List (List ℕ)) (n : ℕ) (p : Place) (rs : List Record) : Type 0 where
  pub before : List (List ℕ)
  pub whole : lines ≡ before ++ rest
  pub number : length before ≡ n
  pub read : run steps.start before ≡ Ok (p, rs)

-- at the start no line was read
pub begins : (lines : List (List ℕ)) → Progress lines lines 0 steps.start []
begins lines = record { before = []; whole = refl; number = refl; read = run-empty steps.start }

-- after the step of the next line, one more line was read
pub goes_on : (lines : List (List ℕ)) (l : List ℕ) (rest : List (List ℕ)) (n : ℕ) (p q : Place)
    (rs made : List Record)
    → Progress lines (l ∷ rest) n p rs → step p l ≡ Ok (q, made) → Progress lines rest (n + 1) q (rs ++ made)
goes_on lines l rest n p q rs made h e =
    record {
      before = h.before ++ l ∷ [];
      whole = h.whole ∙ sym (append_assoc h.before (l ∷ []) rest);
      number = omega (arith, length-append h.before (l ∷ []), h.number);
      read = both steps.start p h.before (l ∷ []) q rs made h.read (one p q l made e);
    }

-- if the step of the first line fails, reading the lines fails with the same cause
run-err : (p : Place) (l : List ℕ) (ls : List (List ℕ)) (c : Cause) → step p l ≡ Err c
    → run p (l ∷ ls) ≡ Err c
unfolding run
run-err p l ls c e = rw e refl

-- a failed reading with records put in front is not Ok
no_read : (rs : List Record) (read : Read) (c : Cause) (x : Place × List Record) → read ≡ Err c
    → behind rs read ≡ Ok x → ⊥
no_read rs (Ok y) c x e h = cc
no_read rs (Err d) c x e h = cc

-- a line at which the step fails is not part of a viable front
stuck : (before : List (List ℕ)) (l : List ℕ) (p : Place) (rs : List Record) (c : Cause)
    → run steps.start before ≡ Ok (p, rs) → step p l ≡ Err c → IsViable (before ++ l ∷ []) → ⊥
stuck before l p rs c h e v =
    let r = viable_reads (before ++ l ∷ []) v in
    no_read rs (run p (l ∷ [])) c r.0 (run-err p l [] c e)
    (sym (run-append steps.start before (l ∷ []) (p, rs) h) ∙ r.1)

-- each front of lines that were read is viable
fronts : (ls : List (List ℕ)) (x : Place × List Record) → run steps.start ls ≡ Ok x
    → (front rest : List (List ℕ)) → ls ≡ front ++ rest → IsViable front
fronts ls x h front rest e =
    let f = run-front steps.start front rest x (ap (run steps.start) (sym e) ∙ h) in
    viable front f.0 f.1

-- the fault at the line at which the step fails
pub fault : (lines : List (List ℕ)) (l : List ℕ) (rest : List (List ℕ)) (n : ℕ) (p : Place)
    (rs : List Record) (c : Cause)
    → Progress lines (l ∷ rest) n p rs → step p l ≡ Err c → IsFaultAt lines (n + 1) c
fault lines l rest n p rs c h e =
    record {
      before = h.before;
      line = l;
      after = rest;
      whole = h.whole;
      number = omega (arith, h.number);
      faulty = stuck h.before l p rs c h.read e;
      least = fronts h.before (p, rs) h.read;
      expected = expected p;
      expects = expects h.before (p, rs) h.read;
      only = λ e. only_expected h.before (p, rs) e h.read;
      wrong = wrong p l c e;
    }

-- at the end all lines were read
all_read : (lines : List (List ℕ)) (n : ℕ) (p : Place) (rs : List Record) → Progress lines [] n p rs
    → run steps.start lines ≡ Ok (p, rs)
all_read lines n p rs h = ap (run steps.start) (h.whole ∙ append-nil h.before) ∙ h.read

-- at the end the number of lines is the number that was read
pub count_is : (lines : List (List ℕ)) (n : ℕ) (p : Place) (rs : List Record) → Progress lines [] n p rs
    → length lines ≡ n
count_is lines n p rs h = ap length (h.whole ∙ append-nil h.before) ∙ h.number

-- lines that end between records, with at least one record, are a file
pub is_file : (lines : List (List ℕ)) (n : ℕ) (F : Format) (rs : List Record)
    → Progress lines [] n (steps.between F) rs → rs ≢ [] → IsFile lines rs
is_file lines n F rs h some =
    record {
      format = F;
      formatted =
          lines_at lines (steps.between F, rs) (all_read lines n (steps.between F) rs h);
      some = some;
    }

-- equal readings have equal parts
pair_is : (p q : Place) (rs ss : List Record) → ◌≡◌ {A = Read} (Ok (p, rs)) (Ok (q, ss)) → (p ≡ q) × (rs ≡ ss)
pair_is p q rs ss e =
    let same = ok_is (p, rs) (q, ss) e in
    (ap (λ (x : Place × List Record). x.0) same, ap (λ (x : Place × List Record). x.1) same)

-- lines are a file of only one list of records
pub one_reading : (lines : List (List ℕ)) (rs ss : List Record) → IsFile lines rs → IsFile lines ss → rs ≡ ss
one_reading lines rs ss f g =
    let read = complete f.format lines rs f.formatted in
    let again = complete g.format lines ss g.formatted in
    (pair_is (steps.between f.format) (steps.between g.format) rs ss (sym read ∙ again)).1

-- lines that do not end between records, or without a record, are cut off
pub cut_off : (lines : List (List ℕ)) (n : ℕ) (p : Place) (rs : List Record) (inside : Bool)
    → Progress lines [] n p rs → ((F : Format) → p ≡ steps.between F → rs ≡ [])
    → is_inside (expected p) ≡ inside → IsCutOff lines inside
cut_off lines n p rs inside h none is =
    let read = all_read lines n p rs h in
    record {
      viable = fronts lines (p, rs) read;
      no_file = λ ss file. let same =
          pair_is p (steps.between file.format) rs ss
          (sym read ∙ complete file.format lines ss file.formatted)
          in file.some (sym same.1 ∙ none file.format same.0);
      expected = expected p;
      expects = expects lines (p, rs) read;
      only = λ e. only_expected lines (p, rs) e read;
      is = is;
    }

-- a file has no fault
no_fault : (lines : List (List ℕ)) (n : ℕ) (c : Cause) (rs : List Record) → IsFaultAt lines n c
    → IsFile lines rs → ⊥
no_fault lines n c rs f file =
    let whole : run steps.start ((f.before ++ f.line ∷ []) ++ f.after) ≡ Ok (steps.between file.format, rs) =
    ap (run steps.start) (append_assoc f.before (f.line ∷ []) f.after ∙ sym f.whole)
    ∙ complete file.format lines rs file.formatted in
    let front = run-front steps.start (f.before ++ f.line ∷ []) f.after (steps.between file.format, rs) whole
    in
    f.faulty (viable (f.before ++ f.line ∷ []) front.0 front.1)

-- if at least one record was read, some first lines are a file
pub ended : (lines rest : List (List ℕ)) (n : ℕ) (p : Place) (rs : List Record) → Progress lines rest n p rs
    → rs ≢ [] → HasEnded lines
ended lines rest n p rs h some =
    let front = file_at p h.before rs (lines_at h.before (p, rs) h.read) some in
    record {
      front = front.front;
      rest = front.rest ++ rest;
      whole = h.whole ∙ ap (λ (ls : List (List ℕ)). ls ++ rest) front.whole
          ∙ append_assoc front.front front.rest rest;
      records = front.records;
      file = front.file;
    }

-- the rest of the lines may be replaced by an equal list
pub shift : (lines rest other : List (List ℕ)) (n : ℕ) (p : Place) (rs : List Record)
    → Progress lines rest n p rs → rest ≡ other → Progress lines other n p rs
shift lines rest other n p rs h e = subst (λ (x : List (List ℕ)). Progress lines x n p rs) e h

-- the records that were read may be replaced by an equal list
pub same : (lines rest : List (List ℕ)) (n : ℕ) (p : Place) (rs ss : List Record)
    → Progress lines rest n p rs → rs ≡ ss → Progress lines rest n p ss
same lines rest n p rs ss h e = subst (λ (x : List Record). Progress lines rest n p x) e h

-- the line expected after all fields is inside a record
inside_end : (m : Bool) (most : ℕ) → is_inside (cond m (faults.cuts_or_end most) faults.end_line) ≡ true
inside_end true most = refl
inside_end false most = refl

-- the line expected at a field, or after all fields, is inside a record
inside_fields : (F : Format) (left : List Field) (r : Record)
    → is_inside (expected (steps.fields F left r)) ≡ true
inside_fields F [] r = inside_end (may_cut F r.suite) (most_cut r)
inside_fields F (f ∷ fs) r = refl

-- a place other than the start and those between records is inside a record
pub inside_is : (p : program.Place) → p ≢ Start → ((F : Format) → p ≢ Between F)
    → is_inside (expected (view p)) ≡ true
inside_is Start f b = absurd (f refl)
inside_is (Between F) f b = absurd (b F refl)
inside_is (Fields F left e) f b = inside_fields F left.now _
inside_is (Text F e) f b = refl

-- a place inside a record is not between records
pub not_between : (p : Place) (F : Format) → is_inside (expected p) ≡ true → p ≢ steps.between F
not_between p F is e = no_true (sym is ∙ ap (λ q. is_inside (expected q)) e) where
  no_true : true ≡ false → ⊥
  no_true h = cc

-- the place before the format line is not between records
pub not_start : (p : Place) (F : Format) → p ≡ steps.start → p ≢ steps.between F
not_start p F f b = apart (sym f ∙ b) where
  apart : steps.start ≡ steps.between F → ⊥
  apart h = cc

-- a file has no fault, so the result is a report or out of memory
pub reported : {R : Type 0} (lines : List (List ℕ)) (records : List Record) (r : Result R VectorFault)
    → IsFile lines records → IfErr r (IsFaultOf lines) → IsReported r
reported lines records (Ok report) file h = tt
reported lines records (Err (AtLine n why)) file h = absurd (no_fault lines n why records h file)
reported lines records (Err NoRecords) file h = absurd (h.no_file records file)
reported lines records (Err (Unfinished n)) file h = absurd (h.0.no_file records file)
reported lines records (Err OutOfMemory) file h = refl
