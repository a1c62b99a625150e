use Rattle.std.proofs.Common.{◌≡◌, ℕ, List, length, ◌∙◌, refl, ap, arith, get_or}
use Rattle.chacha.specs.Block.{initial_state}
use Rattle.std.proofs.lemmas.List.{length-set}
use Rattle.std.proofs.lemmas.Simd.{get_or-replicate}
use Rattle.chacha.specs.Code.Lanes.{lane}
use Rattle.chacha.proofs.SideBySide.{lane-set, lane_more, lane_all, lane_begun}
use Rattle.chacha.proofs.Lengths.{length-initial_state}
use Rattle.chacha.proofs.lanes.set_starts.Goals as goal

has_sixteen : (state key nonce : List ℕ) (n : ℕ) → state ≡ initial_state key n nonce → length state ≡ 16
has_sixteen state key nonce n is_state = ap length is_state ∙ length-initial_state key n nonce

pub words-init : goal.words-init
words-init g c = (c.told-x, λ j l. refl)

pub words-preserved : goal.words-preserved
words-preserved g c = (
  length-set c.words.x c.words.i _ ∙ c.words.invariant.0,
  λ j l. lane_more j c.words.x _ c.initial_state-state.result c.words.i
      (omega (arith, c.words.invariant.0, c.words-test.true))
      (omega (arith, has_sixteen _ _ _ _ c.initial_state-state.ensures, c.words-test.true)) (get_or-replicate g.row.N j _ 0 l)
      (c.words.invariant.1 j l),
)

pub returns : goal.returns
returns g c = λ j l.
    let x = c.words.x in
    let state = c.initial_state-state.result in
    let end : c.words.i ≡ 16 = omega (arith, c.words-test.false, c.words.auto.i-end) in
    let splats : lane j x ≡ state = lane_all j x state c.words.i c.words.invariant.0
    (has_sixteen _ _ _ _ c.initial_state-state.ensures) end
    (c.words.invariant.1 j l) in
    lane_begun c.args.key.now c.args.nonce.now (lane j x) _ (get_or c.args.counters j 0) 0
    (splats ∙ c.initial_state-state.ensures) (lane-set j x 12 c.args.counters)
