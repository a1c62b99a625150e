-- After lines that were read, only one kind of line is expected.
use Rattle.std.proofs.Common.{◌≡◌, ℕ, List, [], ◌∷◌, ◌++◌, Ok, refl, sym, ap, ◌∙◌}
use Rattle.vectors.specs.declared.suite.Format.{Format}
use Rattle.vectors.specs.Suites.{fields_of}
use Rattle.vectors.specs.Grammar.{Record, unread}
use Rattle.vectors.specs.Faults as faults
use Rattle.vectors.specs.Faults.{Expected, Begun, Expects}
use Rattle.vectors.specs.Code.Steps as steps
use Rattle.vectors.specs.Code.Steps.{Place, run}
use Rattle.vectors.proofs.FieldLemmas.{Next, ok_is}
use Rattle.vectors.proofs.Runs.{both, one, first, suite-line, cuts-line, fills_read, all_read, gaps_read}
use Rattle.vectors.proofs.Runs.{complete}
use Rattle.vectors.proofs.Places.{expected}

-- the lines are read from the place to one where this line is expected
record LeadsTo (p : Place) (ls : List (List ℕ)) (e : Expected) : Type 0 where
  pub place : Place
  pub records : List Record
  pub read : run p ls ≡ Ok (place, records)
  pub is : expected place ≡ e

-- the first lines of a record that has not ended are read
begun_read : (F : Format) (ms : List (List ℕ)) (e : Expected) → Begun F ms e → LeadsTo (steps.between F) ms e
begun_read F _ _ (faults.some_fields {suite = s} {l = l} {ms = ms} {r = r} {f = f} {fs = fs} gs a order h) =
    record {
      place = steps.fields F (f ∷ gs) r;
      records = [];
      read =
          first (steps.between F) (steps.fields F (fs ++ f ∷ gs) (unread s)) l ms (steps.fields F (f ∷ gs) r)
          []
          (suite-line F l s a ∙ ap (λ hs. Ok (steps.fields F hs (unread s), [])) order)
          (fills_read F fs (f ∷ gs) (unread s) r ms h);
      is = refl;
    }
begun_read F _ _ (faults.all_fields {suite = s} {l = l} {ms = ms} {r = r} a h) = record {
  place = steps.fields F [] r;
  records = [];
  read = first (steps.between F) (steps.fields F (fields_of s) (unread s)) l ms (steps.fields F [] r) []
      (suite-line F l s a) (all_read F (fields_of s) (unread s) r ms h);
  is = refl;
}
begun_read F _ _ (faults.cuts {suite = s} {l = l} {c = c} {ms = ms} {r = r} a h m k) = record {
  place = steps.text F r;
  records = [];
  read = first (steps.between F) (steps.fields F (fields_of s) (unread s)) l (ms ++ c ∷ []) (steps.text F r)
      [] (suite-line F l s a)
      (both (steps.fields F (fields_of s) (unread s)) (steps.fields F [] r) ms (c ∷ []) (steps.text F r) []
      [] (all_read F (fields_of s) (unread s) r ms h)
      (one (steps.fields F [] r) (steps.text F r) c [] (cuts-line F r c m k)));
  is = refl;
}

-- lines after which a line is expected are read to a place where it is expected
expects_read : (ls : List (List ℕ)) (e : Expected) → Expects ls e → LeadsTo steps.start ls e
expects_read _ _ (faults.unformatted {ls = ls} h) =
    record { place = steps.start; records = []; read = gaps_read ls h; is = refl }
expects_read _ _ (faults.formatted {F = F} {ls = ls} {rs = rs} h) =
    record { place = steps.between F; records = rs; read = complete F ls rs h; is = refl }
expects_read _ _ (faults.inside {F = F} {ls = ls} {ms = ms} {rs = rs} {e = e} h b) =
    let begun = begun_read F ms e b in
    record {
      place = begun.place;
      records = rs ++ begun.records;
      read = both steps.start (steps.between F) ls ms begun.place rs begun.records (complete F ls rs h)
          begun.read;
      is = begun.is;
    }

-- if a line is expected after lines that were read, it is the one that is expected at the place that they lead to
pub only_expected : (ls : List (List ℕ)) (x : Next) (e : Expected) → run steps.start ls ≡ Ok x
    → Expects ls e → e ≡ expected x.0
only_expected ls x e h there =
    let r = expects_read ls e there in
    sym r.is ∙ ap (λ (y : Next). expected y.0) (ok_is (r.place, r.records) x (sym r.read ∙ h))
