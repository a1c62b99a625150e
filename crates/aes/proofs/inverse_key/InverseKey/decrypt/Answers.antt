use Rattle.std.proofs.Common.{◌≡◌, ℕ, List, ◌-◌, ◌<◌, sym, ap, subst, ◌∙◌, arith}
use Rattle.octets.specs.Bytes.{IsBlock}
use Rattle.aes.specs.Schedule.{round_count, schedule}
use Rattle.aes.specs.Cipher.{shift_rows, sub_bytes, add_round_key, cipher}
use Rattle.aes.specs.Code.InverseSteps.{inverse_mix_columns}
use Rattle.aes.specs.Code.InverseLanes.{HoldsUndone}
use Rattle.aes.proofs.Steps.{unsub, unshift, unsub_block, unshift_block, sub_unsub, shift_unshift, unmix_block}
use Rattle.aes.proofs.Permutation.{cipher_same}
use Rattle.aes.proofs.InverseRounds.{added_block, last_added, one_back, first_added}
use Rattle.aes.proofs.inverse_key.InverseKey.decrypt.Goals as goal

pub loop-done-init : goal.loop-done-init
loop-done-init c = λ key x.
    let ws = schedule key in
    let block : IsBlock c.args.block.now = c.bytes.ensures.are_bytes in
    let n : ℕ = c.args.self.now.rounds in (
      add_round_key ws n c.args.block.now,
      added_block key n c.args.block.now x.is_key block,
      subst (λ b. HoldsUndone c.begin-state.result (add_round_key ws n b)) c.bytes.ensures.value (c.begin-state.ensures ws n x.last),
      λ b h. last_added key c.args.block.now b block.length_is
          (h ∙ ap (λ (i : ℕ). add_round_key ws i c.args.block.now) x.rounds_are),
    )

pub loop-done-preserved : goal.loop-done-preserved
loop-done-preserved c = λ key x.
    let ws = schedule key in
    let before = c.loop-done.invariant key x in
    let t : List ℕ = before.0 in
    let tb : IsBlock t = before.1 in
    let s : List ℕ = unsub (unshift t) in
    let sb : IsBlock s = unsub_block (unshift t) (unshift_block t tb) in
    let back : shift_rows (sub_bytes s) ≡ t =
    ap shift_rows (sub_unsub (unshift t) (unshift_block t tb)) ∙ shift_unshift t tb in
    let n : ℕ = c.args.self.now.rounds - 1 - c.loop-done.done in
    let count : c.args.self.now.rounds ≡ round_count key = x.rounds_are in
    let below : c.loop-done.done < c.args.self.now.rounds - 1 = omega arith in (
      inverse_mix_columns (add_round_key ws n s),
      unmix_block (add_round_key ws n s),
      c.inverse_round-next.ensures s ws n sb (subst (HoldsUndone c.loop-done.state) (sym back) before.2)
          (x.middle n (omega arith) (omega arith)),
      λ b h. before.3 b (one_back key s t b c.loop-done.done n x.is_key sb (omega arith) (omega arith) back h),
    )

pub returns-clause-value : goal.returns-clause-value
returns-clause-value c = λ key x.
    let ws = schedule key in
    let before = c.loop-done.invariant key x in
    let t : List ℕ = before.0 in
    let tb : IsBlock t = before.1 in
    let s : List ℕ = unsub (unshift t) in
    let sb : IsBlock s = unsub_block (unshift t) (unshift_block t tb) in
    let back : shift_rows (sub_bytes s) ≡ t =
    ap shift_rows (sub_unsub (unshift t) (unshift_block t tb)) ∙ shift_unshift t tb in
    let count : c.args.self.now.rounds ≡ round_count key = x.rounds_are in
    let none : round_count key - 1 - c.loop-done.done ≡ 0 = omega arith in
    let f : List ℕ = add_round_key ws 0 s in
    let block : IsBlock f = added_block key 0 s x.is_key sb in
    let taken : cipher key f ≡ c.args.block.now =
    before.3 f (first_added key s t (round_count key - 1 - c.loop-done.done) none sb.length_is back) in
    let is = c.new.ensures.value ∙ c.end.ensures s ws 0 sb (subst (HoldsUndone c.loop-done.state) (sym back) before.2) x.first in
    rw is (record {
      taken = taken;
      only = λ d b e. cipher_same key d f x.is_key b block (e ∙ sym taken);
    })
