use Rattle.std.proofs.Common.{◌≡◌, ◌∙◌, refl, ap, arith}
use Rattle.chacha.specs.Block.{double_rounds}
use Rattle.chacha.specs.Code.Lanes.{lane}
use Rattle.chacha.proofs.SideBySide.{length-lane}
use Rattle.chacha.proofs.Halves.{next_double_round}
use Rattle.chacha.proofs.lanes.ten_rounds.Goals as goal

pub rounds-init : goal.rounds-init
unfolding double_rounds
rounds-init g c = (λ j l. refl, λ w h. h)

pub rounds-preserved : goal.rounds-preserved
rounds-preserved g c = (
  λ j l. next_double_round c.rounds.counter _ _ _ _ _ _ (length-lane j c.args.x.now ∙ c.told-x) (c.rounds.invariant.0 j l)
      (c.half_columns.ensures j l) (c.half_columns-in-rounds.ensures j l) (c.half_diagonals.ensures j l)
      (c.half_diagonals-in-rounds.ensures j l),
  λ w h.
      c.step-in-rounds-3.ensures w (c.step-in-rounds-2.ensures w
      (c.step-in-rounds.ensures w (c.step.ensures w (c.rounds.invariant.1 w h)))),
)

pub returns-clause-lanes : goal.returns-clause-lanes
returns-clause-lanes g c = λ j l.
    let end : c.rounds.counter ≡ 10 = omega (arith, c.rounds-test.false, c.rounds.auto.counter-end) in
    c.rounds.invariant.0 j l ∙ ap (λ m. double_rounds m (lane j c.args.x.now)) end

pub returns-clause-work : goal.returns-clause-work
returns-clause-work g c = c.rounds.invariant.1
