use Rattle.std.proofs.Common.{[], ◌*◌, ◌+◌, sym, subst, arith, rules, inl, inr, get_or-set_same, ap, ◌∙◌, ℕ, get_or}
use Rattle.std.proofs.Common.{get_or-set_other}
use Rattle.std.proofs.lemmas.Bool.{cases_eq}
use Rattle.aes.specs.Schedule.{schedule, round_count}
use Rattle.aes.specs.Code.Planes.{HoldsWords, spot, word_byte, masked_byte}
use Rattle.aes.proofs.Permutation.{words_are}
use Rattle.aes.proofs.KeyPlanes.{first_key, key_held}
use Rattle.aes.proofs.key_planes.ready_planes.Goals as goal

pub loop-n-init : goal.loop-n-init
loop-n-init c = record {
  size = search rules;
  held = λ key k kept count.
      let ws = schedule key in
      record {
        first = subst (λ p. HoldsWords p (λ l k. word_byte ws 0 (spot l)))
            (sym (get_or-set_same c.args.keys.now 0 c.pack.result [] (search rules)))
            (c.pack.ensures (λ l k. word_byte ws 0 (spot l))
            (first_key c.spread.result c.rows.result (get_or c.args.ready.now 0 []) ws c.spread.ensures c.rows.ensures kept.first));
        middle = λ n h l. absurd (omega arith);
      };
}

pub loop-n-preserved : goal.loop-n-preserved
loop-n-preserved c =
    let n = c.loop-n.n in
    let ks = c.loop-n.keys in
    let v = c.pack-in-loop-n.result in
    record {
      size = search rules;
      held = λ key k kept count.
          let ws = schedule key in
          let before = c.loop-n.invariant.held key k kept count in
          let bytes = words_are key (4 * (round_count key + 1)) k.bytes in
          let made = c.pack-in-loop-n.ensures (λ l k. masked_byte ws n (spot l))
          (key_held c.spread-in-loop-n.result c.middle.result (λ l. masked_byte ws n (spot l)) c.spread-in-loop-n.ensures
          (c.middle.ensures ws n bytes (λ i l. kept.middle n i (omega arith) (omega arith) l))) in
          record {
            first = subst (λ p. HoldsWords p (λ l k. word_byte ws 0 (spot l)))
                (sym (get_or-set_other ks n 0 v [] (omega arith))) before.first;
            middle = λ m h l. elim (cases_eq m n) [
              | inl e ↦ rw e (subst (λ p. HoldsWords p (λ l k. masked_byte ws n (spot l)))
                  (sym (get_or-set_same ks n v [] (omega arith))) made)
              | inr e ↦ subst (λ p. HoldsWords p (λ l k. masked_byte ws m (spot l)))
                  (sym (get_or-set_other ks n m v [] e)) (before.middle m h (omega arith))
            ];
          };
    }

pub returns : goal.returns
returns c = λ key k kept count.
    let ws = schedule key in
    let n = c.args.last in
    let ks = c.loop-n.keys in
    let v = c.pack-2.result in
    let before = c.loop-n.invariant.held key k kept count in
    record {
      first = subst (λ p. HoldsWords p (λ l k. word_byte ws 0 (spot l)))
          (sym (get_or-set_other ks n 0 v [] (omega arith))) before.first;
      middle = λ m h l. subst (λ p. HoldsWords p (λ l k. masked_byte ws m (spot l)))
          (sym (get_or-set_other ks n m v [] (omega arith))) (before.middle m h (omega arith));
      final = subst (λ p. HoldsWords p (λ l k. masked_byte ws n l))
          (sym (get_or-set_same ks n v [] (omega arith)))
          (c.pack-2.ensures (λ l k. masked_byte ws n l)
          (key_held c.spread-2.result (get_or c.args.ready.now n []) (masked_byte ws n) c.spread-2.ensures
          (λ l h. ap (λ (m : ℕ). get_or (get_or c.args.ready.now m []) l 0) count ∙ kept.last l h
          ∙ ap (λ (m : ℕ). masked_byte ws m l) (sym count))));
    }
