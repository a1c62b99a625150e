use Rattle.std.proofs.Common.{◌≡◌, ℕ, List, [], sym, subst, ◌∙◌, arith, rules, inl, inr, get_or-set_same, get_or-set_other}
use Rattle.std.proofs.lemmas.Bool.{cases_eq}
use Rattle.aes.specs.Schedule.{schedule}
use Rattle.aes.specs.Code.InverseSteps.{round_key, inverse_mix_columns}
use Rattle.aes.specs.Code.InverseLanes.{HoldsUndone}
use Rattle.aes.proofs.InverseRounds.{plain_is}
use Rattle.aes.proofs.inverse_key.InverseKey.new.Goals as goal

-- a vector that is equal to one that holds a block holds it
holds : {v w : List ℕ} (b : List ℕ) → v ≡ w → HoldsUndone w b → HoldsUndone v b
holds b e h = subst (λ x. HoldsUndone x b) (sym e) h

pub loop-n-init : goal.loop-n-init
loop-n-init c =
    let key = c.args.key.now in
    record {
      size = search rules;
      first = plain_is c.plain_key.result key 0 (search rules) (λ i l. c.plain_key.ensures.bytes (omega arith) i l);
      middle = λ k some h. absurd (omega arith);
    }

pub loop-n-preserved : goal.loop-n-preserved
loop-n-preserved c =
    let n = c.loop-n.n in
    let ks = c.loop-n.keys in
    let v = c.middle_key.result in
    let key = c.args.key.now in
    let before = c.loop-n.invariant in
    let is = plain_is c.plain_key-in-loop-n.result key n (search rules) (λ i l. c.plain_key-in-loop-n.ensures.bytes (omega arith) i l) in
    record {
      size = search rules;
      first = get_or-set_other ks n 0 v [] (omega arith) ∙ before.first;
      middle = λ k some h. elim (cases_eq k n) [
        | inl e ↦ rw e (holds (inverse_mix_columns (round_key (schedule key) n)) (get_or-set_same ks n v [] (omega arith))
            (subst (λ x. HoldsUndone v (inverse_mix_columns x)) is c.middle_key.ensures))
        | inr e ↦ holds (inverse_mix_columns (round_key (schedule key) k)) (get_or-set_other ks n k v [] e)
            (before.middle k some (omega arith))
      ];
    }

pub returns : goal.returns
returns c =
    let key = c.args.key.now in
    let done = c.loop-n.invariant in
    let rounds = c.rounds-rounds.result in
    let v = c.plain_key-2.result in
    let ks = c.loop-n.keys in
    record {
      is_key = c.rounds-rounds.ensures.is_key;
      rounds_are = c.rounds-rounds.ensures.count;
      first = get_or-set_other ks rounds 0 v [] (omega arith) ∙ done.first;
      middle = λ n some h. holds (inverse_mix_columns (round_key (schedule key) n)) (get_or-set_other ks rounds n v [] (omega arith))
          (done.middle n some (omega arith));
      last = get_or-set_same ks rounds v [] (omega arith)
          ∙ plain_is v key rounds (search rules) (λ i l. c.plain_key-2.ensures.bytes (omega arith) i l);
    }
