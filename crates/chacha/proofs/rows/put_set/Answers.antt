use Rattle.std.proofs.Common.{◌≡◌, ◌∙◌, refl, ap, arith}
use Rattle.chacha.specs.Block.{double_rounds}
use Rattle.chacha.proofs.Halves.{next_double_round}
use Rattle.chacha.proofs.ByRows.{blocks_put}
use Rattle.chacha.proofs.rows.put_set.Goals as goal

pub rounds-init : goal.rounds-init
unfolding double_rounds
rounds-init g c = (λ n l. refl, λ w h. h)

pub rounds-preserved : goal.rounds-preserved
rounds-preserved g c = (
  λ n l.
      next_double_round c.rounds._round _ _ _ _ _ _ (g.met.R.Rows.long c.starts_at-start.result n) (c.rounds.invariant.0 n l)
      (c.half_columns.ensures n l) (c.half_columns-in-rounds.ensures n l) (c.half_diagonals.ensures n l) (c.half_diagonals-in-rounds.ensures n l),
  λ w h. c.step-in-rounds.ensures w (c.step.ensures w (c.rounds.invariant.1 w h)),
)

pub returns-clause-stream : goal.returns-clause-stream
returns-clause-stream g c =
    let end : c.rounds._round ≡ 10 = omega (arith, c.rounds-test.false, c.rounds.auto._round-end) in
    blocks_put c.args.key.now c.args.nonce.now c.args.counter g.R.Rows.COUNT c.put_sums.new.out
    (g.R.Rows.state c.starts_at-start.result) (g.R.Rows.state c.rounds.x) (omega (arith, c.requires.size, c.put_sums.auto.out))
    c.starts_at-start.ensures
    (λ n l. c.rounds.invariant.0 n l ∙ ap (λ m. double_rounds m (g.R.Rows.state c.starts_at-start.result n)) end)
    c.put_sums.ensures

pub returns-clause-work : goal.returns-clause-work
returns-clause-work g c = c.rounds.invariant.1
