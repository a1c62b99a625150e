-- Records judged so far, in a loop.
use Rattle.std.proofs.Common.{◌≡◌, ◌≢◌, ℕ, ◌+◌, ◌≤◌, Bool, List, [], ◌∷◌, ◌++◌, length, Ok, Err, refl, sym}
use Rattle.std.proofs.Common.{ap, ◌∙◌, subst, inl, inr, arith, length-append}
use Rattle.std.proofs.lemmas.List.{nil_from_length}
use Rattle.vectors.specs.declared.fault.Cause.{Cause}
use Rattle.vectors.specs.Grammar.{Record}
use Rattle.vectors.specs.Code.Steps as steps
use Rattle.vectors.specs.Code.Steps.{Place, step}
use Rattle.vectors.specs.Faults.{IsFaultAt, IsCutOff, HasEnded, is_inside}
use Rattle.vectors.specs.Agreement.{Agrees}
use Rattle.vectors.specs.Code.Judging.{IsSized}
use Rattle.vectors.proofs.Sizes.{last_read_sized}
use Rattle.vectors.specs.Reports.IsBad.{ends, agrees, disagrees}
use Rattle.vectors.specs.declared.suite.Format.{Format}
use Rattle.vectors.proofs.Places.{expected}
use Rattle.vectors.specs.Reports.{IsBad, IsReport}
use Rattle.vectors.specs.Code.Judging.{Judges}
use Rattle.vectors.proofs.Progress.{Progress, begins, goes_on, shift, same, fault, is_file, cut_off}
use Rattle.vectors.proofs.Progress.{count_is, ended}
use Rattle.std.proofs.lemmas.List.{append-nil}

-- n lines were read, to this place, and this many records, of which those with the numbers `bad` disagree
pub record Judged (lines rest : List (List ℕ)) (n : ℕ) (p : Place) (records : ℕ) (bad : List ℕ) : Type 0 where
  pub entries : List Record
  pub progress : Progress lines rest n p entries
  pub count : records ≡ length entries
  pub judged : IsBad 1 entries bad
  pub room : records ≤ n

-- one more record that agrees leaves the numbers of the bad records as they are
bad_yes : (n : ℕ) (rs : List Record) (r : Record) (bad : List ℕ) → IsBad n rs bad → Agrees r
    → IsBad n (rs ++ r ∷ []) bad
bad_yes n [] r [] ends a = agrees a ends
bad_yes n [] r (_ ∷ bad) h a = elim h [ ]
bad_yes n (s ∷ rs) r bad (agrees h t) a = agrees h (bad_yes (n + 1) rs r bad t a)
bad_yes n (s ∷ rs) r (_ ∷ bad) (disagrees h t) a = disagrees h (bad_yes (n + 1) rs r bad t a)

-- one more record that doesn't agree adds its number to those of the bad records
bad_no : (n m : ℕ) (rs : List Record) (r : Record) (bad : List ℕ) → m ≡ n + length rs → IsBad n rs bad
    → ¬ Agrees r → IsBad n (rs ++ r ∷ []) (bad ++ m ∷ [])
bad_no n m [] r [] e ends a =
    let number : n ≡ m = omega arith in
    subst (λ (k : ℕ). IsBad n (r ∷ []) (k ∷ [])) number (disagrees a ends)
bad_no n m [] r (_ ∷ bad) e h a = elim h [ ]
bad_no n m (s ∷ rs) r bad e (agrees h t) a = agrees h (bad_no (n + 1) m rs r bad (omega arith) t a)
bad_no n m (s ∷ rs) r (_ ∷ bad) e (disagrees h t) a =
    disagrees h (bad_no (n + 1) m rs r bad (omega arith) t a)

-- the numbers of the bad records after one more record was judged
judged_more : (records more : ℕ) (rs : List Record) (r : Record) (bad worse : List ℕ) → records ≡ length rs
    → IsBad 1 rs bad → Judges records bad r more worse → IsBad 1 (rs ++ r ∷ []) worse
judged_more records more rs r bad worse c h (m, inl j) =
    subst (λ (b : List ℕ). IsBad 1 (rs ++ r ∷ []) b) (sym j.1) (bad_yes 1 rs r bad h j.0)
judged_more records more rs r bad worse c h (m, inr j) =
    subst (λ (b : List ℕ). IsBad 1 (rs ++ r ∷ []) b) (sym j.1) (bad_no 1 more rs r bad (omega arith) h j.0)

-- at the start no line was read
pub start : (lines : List (List ℕ)) (bad : List ℕ) → bad ≡ [] → Judged lines lines 0 steps.start 0 bad
start lines bad e = record {
  entries = [];
  progress = begins lines;
  count = refl;
  judged =
      subst (λ (b : List ℕ). IsBad 1 [] b) (sym e) ends;
  room = omega arith;
}

-- after a line that doesn't end a record, the records are the same
pub after_line : (lines other : List (List ℕ)) (l : List ℕ) (rest : List (List ℕ)) (n : ℕ) (p q : Place)
    (records : ℕ) (bad : List ℕ)
    → Judged lines other n p records bad → other ≡ l ∷ rest → step p l ≡ Ok (q, [])
    → Judged lines rest (n + 1) q records bad
after_line lines other l rest n p q records bad h e s = record {
  entries = h.entries;
  progress = same lines rest (n + 1) q (h.entries ++ []) h.entries
      (goes_on lines l rest n p q h.entries [] (shift lines other (l ∷ rest) n p h.entries h.progress e) s)
      (append-nil h.entries);
  count = h.count;
  judged = h.judged;
  room = omega (arith, h.room);
}

-- after a line that ends a record, there is one more record, as it was judged
pub after_record : (lines other : List (List ℕ)) (l : List ℕ) (rest : List (List ℕ)) (n : ℕ) (p q : Place)
    (r : Record) (records more : ℕ) (bad worse : List ℕ)
    → Judged lines other n p records bad → other ≡ l ∷ rest → step p l ≡ Ok (q, r ∷ [])
    → Judges records bad r more worse → Judged lines rest (n + 1) q more worse
after_record lines other l rest n p q r records more bad worse h e s j = record {
  entries = h.entries ++ r ∷ [];
  progress = goes_on lines l rest n p q h.entries (r ∷ [])
      (shift lines other (l ∷ rest) n p h.entries h.progress e) s;
  count = omega (arith, h.count, j.0, length-append h.entries (r ∷ []));
  judged = judged_more records more h.entries r bad worse h.count h.judged j;
  room = omega (arith, h.room, j.0);
}

-- if the step of a line fails, this is the fault of the file
pub at_fault : (lines other : List (List ℕ)) (l : List ℕ) (rest : List (List ℕ)) (n : ℕ) (p : Place)
    (c : Cause) (records : ℕ) (bad : List ℕ)
    → Judged lines other n p records bad → other ≡ l ∷ rest → step p l ≡ Err c → IsFaultAt lines (n + 1) c
at_fault lines other l rest n p c records bad h e s =
    fault lines l rest n p h.entries c (shift lines other (l ∷ rest) n p h.entries h.progress e) s

-- at the end, the records make the report of the file
pub at_end : (lines other : List (List ℕ)) (n records : ℕ) (bad : List ℕ) (F : Format)
    → Judged lines other n (steps.between F) records bad → other ≡ [] → records ≢ 0
    → IsReport lines records bad
at_end lines other n records bad F h e some = record {
  records = h.entries;
  file = is_file lines n F h.entries (shift lines other [] n (steps.between F) h.entries h.progress e)
      (λ none. some (h.count ∙ ap length none));
  count_is = h.count;
  judged = h.judged;
}

-- if the lines end inside a record or without a record, the file is cut off
pub at_cut : (lines other : List (List ℕ)) (n : ℕ) (p : Place) (inside : Bool) (records : ℕ) (bad : List ℕ)
    → Judged lines other n p records bad → other ≡ [] → ((F : Format) → p ≡ steps.between F → records ≡ 0)
    → is_inside (expected p) ≡ inside → IsCutOff lines inside
at_cut lines other n p inside records bad h e none is =
    cut_off lines n p h.entries inside (shift lines other [] n p h.entries h.progress e)
    (λ F b. nil_from_length h.entries (sym h.count ∙ none F b)) is

-- at the end all lines are counted
pub lines_read : (lines other : List (List ℕ)) (n : ℕ) (p : Place) (records : ℕ) (bad : List ℕ)
    → Judged lines other n p records bad → other ≡ [] → n ≡ length lines
lines_read lines other n p records bad h e =
    sym (count_is lines n p h.entries (shift lines other [] n p h.entries h.progress e))

-- records with one more at the end are not empty
snoc_some : (rs : List Record) (r : Record) → (rs ++ r ∷ []) ≢ []
snoc_some [] r e = cc
snoc_some (s ∷ rs) r e = cc

-- a record that ends at a line has its suite's lengths
pub sized_at_end : (lines other : List (List ℕ)) (l : List ℕ) (rest : List (List ℕ)) (n : ℕ) (p q : Place)
    (r : Record) (records : ℕ) (bad : List ℕ)
    → Judged lines other n p records bad → other ≡ l ∷ rest → step p l ≡ Ok (q, r ∷ []) → IsSized r
sized_at_end lines other l rest n p q r records bad h e s =
    let after = goes_on lines l rest n p q h.entries (r ∷ [])
    (shift lines other (l ∷ rest) n p h.entries h.progress e) s in
    last_read_sized after.before q h.entries r after.read

-- if the next line ends a record, some first lines are a file
pub ended_at : (lines other : List (List ℕ)) (l : List ℕ) (rest : List (List ℕ)) (n : ℕ) (p q : Place)
    (r : Record) (records : ℕ) (bad : List ℕ)
    → Judged lines other n p records bad → other ≡ l ∷ rest → step p l ≡ Ok (q, r ∷ []) → HasEnded lines
ended_at lines other l rest n p q r records bad h e s =
    let after = goes_on lines l rest n p q h.entries (r ∷ [])
    (shift lines other (l ∷ rest) n p h.entries h.progress e) s in
    ended lines rest (n + 1) q (h.entries ++ r ∷ []) after (snoc_some h.entries r)
