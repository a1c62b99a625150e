use Rattle.std.proofs.Common.{◌≡◌, ℕ, List, ◌+◌, ◌-◌, ◌*◌, ◌/◌, ◌<◌, ◌≤◌, ◌++◌, length, arith, sym, ap, ◌∙◌}
use Rattle.keywrap.specs.Wrapping.{steps}
use Rattle.keywrap.specs.Code.Places.{register}
use Rattle.keywrap.proofs.Pieces.{register_start, register_end}
use Rattle.keywrap.proofs.Runs.{steps_none, leads_before, one_round_less}
use Rattle.keywrap.proofs.steps.unwrap_blocks.Goals as goal

pub loop-i-init : goal.loop-i-init
loop-i-init c =
    let n : ℕ = length c.args.blocks.now / 8 in
    let some : 0 < c.loop-round.round = omega arith in
    let long : length c.loop-round.blocks ≤ 8 * n = omega arith in
    record {
      leads = λ s h.
          c.loop-round.invariant.leads s
          (ap (λ t. steps c.args.key.now t s) (one_round_less n c.loop-round.round some) ∙ h
          ∙ register_end (8 * n) c.loop-round.a c.loop-round.blocks long);
      first = c.loop-round.invariant.first;
      rest = c.loop-round.invariant.rest;
    }

pub loop-i-preserved : goal.loop-i-preserved
loop-i-preserved c =
    let n : ℕ = length c.args.blocks.now / 8 in
    let key : List ℕ = c.args.key.now in
    let t : ℕ = n * (c.loop-round.round - 1) + (c.loop-i.i - 1) in
    let some : 0 < c.loop-i.i = omega arith in
    let count : n * (c.loop-round.round - 1) + c.loop-i.i ≡ t + 1 = omega arith in
    let place : 8 * (c.loop-i.i - 1) + 8 ≡ 8 * c.loop-i.i = omega arith in
    record {
      leads = leads_before key (n * 6) t (c.args.first.now ++ c.args.blocks.now)
          (register (8 * (c.loop-i.i - 1) + 8) c.loop-i.a c.loop-i.blocks)
          (register (8 * (c.loop-i.i - 1)) c.unwrap_step-a.result c.unwrap_step-a.new.blocks)
          (λ s h. c.loop-i.invariant.leads s (ap (λ u. steps key u s) count ∙ h
          ∙ ap (λ p. register p c.loop-i.a c.loop-i.blocks) place))
          (c.unwrap_step-a.ensures.step key c.inverse-ready.ensures);
      first = c.unwrap_step-a.ensures.first;
      rest = c.unwrap_step-a.ensures.rest;
    }

pub loop-round-preserved : goal.loop-round-preserved
loop-round-preserved c =
    let n : ℕ = length c.args.blocks.now / 8 in
    let none : c.loop-i.i ≡ 0 = omega arith in
    let count : n * (c.loop-round.round - 1) + c.loop-i.i ≡ n * (c.loop-round.round - 1) = omega arith in
    let place : 0 ≡ 8 * c.loop-i.i = omega arith in
    record {
      leads = λ s h.
          c.loop-i.invariant.leads s
          (ap (λ t. steps c.args.key.now t s) count ∙ h
          ∙ sym (register_start c.loop-i.a c.loop-i.blocks)
          ∙ ap (λ p. register p c.loop-i.a c.loop-i.blocks) place);
      first = c.loop-i.invariant.first;
      rest = c.loop-i.invariant.rest;
    }

pub returns-clause-undone : goal.returns-clause-undone
returns-clause-undone c =
    let n : ℕ = length c.args.blocks.now / 8 in
    let start : List ℕ = c.loop-round.a ++ c.loop-round.blocks in
    let last : c.loop-round.round ≡ 0 = omega arith in
    let none : n * c.loop-round.round ≡ 0 = ap (λ r. n * r) last ∙ omega arith in
    let turned : 6 * n ≡ n * 6 = omega arith in
    ap (λ t. steps c.args.key.now t start) turned
    ∙ c.loop-round.invariant.leads start (sym (steps_none c.args.key.now start (n * c.loop-round.round) none))

pub returns-clause-key : goal.returns-clause-key
returns-clause-key c = c.inverse-ready.ensures.is_key
