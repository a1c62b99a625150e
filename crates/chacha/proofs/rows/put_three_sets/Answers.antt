use Rattle.std.proofs.Common.{◌≡◌, ℕ, ◌+◌, ◌*◌, ◌∙◌, refl, ap, arith, length}
use Rattle.chacha.specs.Block.{double_rounds}
use Rattle.chacha.proofs.Halves.{next_double_round}
use Rattle.chacha.proofs.ByRows.{blocks_put, stream_joined}
use Rattle.chacha.proofs.rows.put_three_sets.Goals as goal

pub rounds-init : goal.rounds-init
unfolding double_rounds
rounds-init g c = (λ n l. refl, λ n l. refl, λ n l. refl, λ w h. h)

pub rounds-preserved : goal.rounds-preserved
rounds-preserved g c = (
  λ n l.
      next_double_round c.rounds._round _ _ _ _ _ _ (g.met.R.Rows.long c.starts_at-start_x.result n) (c.rounds.invariant.0 n l)
      (c.half_columns.ensures n l) (c.half_columns-in-rounds-3.ensures n l) (c.half_diagonals.ensures n l) (c.half_diagonals-in-rounds-3.ensures n l),
  λ n l.
      next_double_round c.rounds._round _ _ _ _ _ _ (g.met.R.Rows.long c.starts_at-start_y.result n) (c.rounds.invariant.1 n l)
      (c.half_columns-in-rounds.ensures n l) (c.half_columns-in-rounds-4.ensures n l) (c.half_diagonals-in-rounds.ensures n l) (c.half_diagonals-in-rounds-4.ensures n l),
  λ n l.
      next_double_round c.rounds._round _ _ _ _ _ _ (g.met.R.Rows.long c.starts_at-start_z.result n) (c.rounds.invariant.2 n l)
      (c.half_columns-in-rounds-2.ensures n l) (c.half_columns-in-rounds-5.ensures n l) (c.half_diagonals-in-rounds-2.ensures n l) (c.half_diagonals-in-rounds-5.ensures n l),
  λ w h. c.step-in-rounds.ensures w (c.step.ensures w (c.rounds.invariant.3 w h)),
)

pub returns-clause-stream : goal.returns-clause-stream
returns-clause-stream g c =
    let key = c.args.key.now in
    let nonce = c.args.nonce.now in
    let n : ℕ = c.args.counter in
    let k : ℕ = g.R.Rows.COUNT in
    let state = g.R.Rows.state in
    let cut = c.split_at_mut-front.ensures in
    let rest = c.split_at_mut-middle.ensures in
    let end : c.rounds._round ≡ 10 = omega (arith, c.rounds-test.false, c.rounds.auto._round-end) in
    let first : length c.put_sums.new.out ≡ 64 * k = omega (arith, c.requires.size, cut.front_len, c.put_sums.auto.out) in
    let second : length c.put_sums-2.new.out ≡ 64 * k =
    omega (arith, c.requires.size, cut.back_len, rest.front_len, c.put_sums-2.auto.out) in
    let third : length c.put_sums-3.new.out ≡ 64 * k =
    omega (arith, c.requires.size, cut.back_len, rest.back_len, c.put_sums-3.auto.out) in
    let next : ℕ = n + c.COUNT.result in
    let last : ℕ = n + 2 * c.COUNT-2.result in
    stream_joined key nonce n k next _ _ _ (omega (arith, c.COUNT.ensures)) refl first
    (blocks_put key nonce n k c.put_sums.new.out (state c.starts_at-start_x.result) (state c.rounds.x) first
    c.starts_at-start_x.ensures
    (λ m l. c.rounds.invariant.0 m l ∙ ap (λ i. double_rounds i (state c.starts_at-start_x.result m)) end)
    c.put_sums.ensures)
    (stream_joined key nonce next k last _ _ _ (omega (arith, c.COUNT.ensures, c.COUNT-2.ensures)) refl second
    (blocks_put key nonce next k c.put_sums-2.new.out (state c.starts_at-start_y.result) (state c.rounds.y) second
    c.starts_at-start_y.ensures
    (λ m l. c.rounds.invariant.1 m l ∙ ap (λ i. double_rounds i (state c.starts_at-start_y.result m)) end)
    c.put_sums-2.ensures)
    (blocks_put key nonce last k c.put_sums-3.new.out (state c.starts_at-start_z.result) (state c.rounds.z) third
    c.starts_at-start_z.ensures
    (λ m l. c.rounds.invariant.2 m l ∙ ap (λ i. double_rounds i (state c.starts_at-start_z.result m)) end)
    c.put_sums-3.ensures))

pub returns-clause-work : goal.returns-clause-work
returns-clause-work g c = c.rounds.invariant.3
