use Rattle.std.proofs.Common.{◌≡◌, ℕ, List, ◌+◌, ◌*◌, ◌/◌, ◌≤◌, ◌++◌, length, arith, sym, ap, ◌∙◌}
use Rattle.keywrap.specs.Wrapping.{step, steps}
use Rattle.keywrap.specs.Code.Places.{register}
use Rattle.keywrap.proofs.Pieces.{register_start, register_end}
use Rattle.keywrap.proofs.Runs.{steps_none, steps_more}
use Rattle.keywrap.proofs.steps.wrap_blocks.Goals as goal

pub loop-round-init : goal.loop-round-init
loop-round-init c = steps_none c.args.key.now (c.args.first.now ++ c.args.blocks.now)
    (length c.args.blocks.now / 8 * 0) (omega arith)

pub loop-i-init : goal.loop-i-init
loop-i-init c =
    let n : ℕ = length c.args.blocks.now / 8 in
    let same : n * c.loop-round.round ≡ n * c.loop-round.round + 0 = omega arith in
    register_start c.loop-round.a c.loop-round.blocks ∙ c.loop-round.invariant
    ∙ ap (λ t. steps c.args.key.now t (c.args.first.now ++ c.args.blocks.now)) same

pub loop-i-preserved : goal.loop-i-preserved
loop-i-preserved c =
    let n : ℕ = length c.args.blocks.now / 8 in
    let key : List ℕ = c.args.key.now in
    let start : List ℕ = c.args.first.now ++ c.args.blocks.now in
    let t : ℕ = n * c.loop-round.round + c.loop-i.i in
    let place : 8 * (c.loop-i.i + 1) ≡ 8 * c.loop-i.i + 8 = omega arith in
    let more : t + 1 ≡ n * c.loop-round.round + (c.loop-i.i + 1) = omega arith in
    ap (λ p. register p c.wrap_step-a.result c.wrap_step-a.new.blocks) place
    ∙ c.wrap_step-a.ensures ∙ ap (step key (t + 1)) c.loop-i.invariant ∙ steps_more key start t
    ∙ ap (λ i. steps key i start) more

pub loop-round-preserved : goal.loop-round-preserved
loop-round-preserved c =
    let n : ℕ = length c.args.blocks.now / 8 in
    let long : length c.loop-i.blocks ≤ 8 * c.loop-i.i = omega arith in
    let all : c.loop-i.i ≡ n = omega arith in
    let more : n * c.loop-round.round + n ≡ n * (c.loop-round.round + 1) = omega arith in
    sym (register_end (8 * c.loop-i.i) c.loop-i.a c.loop-i.blocks long) ∙ c.loop-i.invariant
    ∙ ap (λ i. steps c.args.key.now (n * c.loop-round.round + i) (c.args.first.now ++ c.args.blocks.now)) all
    ∙ ap (λ t. steps c.args.key.now t (c.args.first.now ++ c.args.blocks.now)) more
