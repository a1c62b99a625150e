use Rattle.std.proofs.Common.{◌≡◌, ℕ, ◌+◌, ◌*◌, ◌++◌, List, ◌∙◌, ap₂, arith, length}
use Rattle.chacha.specs.Code.Lanes.{lane}
use Rattle.chacha.specs.Code.Rows.{four_from}
use Rattle.chacha.proofs.SideBySide.{xored_none, xored_more, xored_all, lane_eight}
use Rattle.chacha.proofs.lanes.xor_eight_lanes.Goals as goal

pub eights-init : goal.eights-init
eights-init c = (
  xored_none (lane 0 c.args.x.now) c.args.first.now,
  xored_none (lane 1 c.args.x.now) c.args.second.now,
  xored_none (lane 2 c.args.x.now) c.args.third.now,
  xored_none (lane 3 c.args.x.now) c.args.fourth.now,
  xored_none (lane 4 c.args.x.now) c.args.fifth.now,
  xored_none (lane 5 c.args.x.now) c.args.sixth.now,
  xored_none (lane 6 c.args.x.now) c.args.seventh.now,
  xored_none (lane 7 c.args.x.now) c.args.eighth.now,
)

pub eights-preserved : goal.eights-preserved
eights-preserved c =
    let x = c.args.x.now in
    let q : ℕ = c.eights.q in
    let held = c.eights.invariant in
    let low = c.transposed_halves.ensures in
    let high = c.transposed_halves-in-eights.ensures in
    let below = c.eights-test.true in
    let more = λ (j : ℕ) (was mid now part : List ℕ) (long : length was ≡ 64).
    xored_more x j was mid now part (8 * q) 8 (8 * (q + 1)) (32 * q) c.told-x long (omega (arith, below))
    (omega arith) (omega arith) in (
      more 0 c.args.first.now c.eights.first _ _ c.requires.front.0 held.0
          (c.low_halves.ensures ∙ ap₂ (λ (y z : List ℕ). four_from 0 y ++ four_from 0 z) low.first high.first
          ∙ lane_eight x 0 (8 * q) c.told-x (omega (arith, below))) c.xor_eight_at.ensures,
      more 1 c.args.second.now c.eights.second _ _ c.requires.front.1 held.1
          (c.low_halves-in-eights.ensures ∙ ap₂ (λ (y z : List ℕ). four_from 0 y ++ four_from 0 z) low.second high.second
          ∙ lane_eight x 1 (8 * q) c.told-x (omega (arith, below))) c.xor_eight_at-in-eights.ensures,
      more 2 c.args.third.now c.eights.third _ _ c.requires.front.2 held.2
          (c.low_halves-in-eights-2.ensures ∙ ap₂ (λ (y z : List ℕ). four_from 0 y ++ four_from 0 z) low.third high.third
          ∙ lane_eight x 2 (8 * q) c.told-x (omega (arith, below))) c.xor_eight_at-in-eights-2.ensures,
      more 3 c.args.fourth.now c.eights.fourth _ _ c.requires.front.3 held.3
          (c.low_halves-in-eights-3.ensures ∙ ap₂ (λ (y z : List ℕ). four_from 0 y ++ four_from 0 z) low.fourth high.fourth
          ∙ lane_eight x 3 (8 * q) c.told-x (omega (arith, below))) c.xor_eight_at-in-eights-3.ensures,
      more 4 c.args.fifth.now c.eights.fifth _ _ c.requires.back.0 held.4
          (c.high_halves.ensures ∙ ap₂ (λ (y z : List ℕ). four_from 4 y ++ four_from 4 z) low.first high.first
          ∙ lane_eight x 4 (8 * q) c.told-x (omega (arith, below))) c.xor_eight_at-in-eights-4.ensures,
      more 5 c.args.sixth.now c.eights.sixth _ _ c.requires.back.1 held.5
          (c.high_halves-in-eights.ensures ∙ ap₂ (λ (y z : List ℕ). four_from 4 y ++ four_from 4 z) low.second high.second
          ∙ lane_eight x 5 (8 * q) c.told-x (omega (arith, below))) c.xor_eight_at-in-eights-5.ensures,
      more 6 c.args.seventh.now c.eights.seventh _ _ c.requires.back.2 held.6
          (c.high_halves-in-eights-2.ensures ∙ ap₂ (λ (y z : List ℕ). four_from 4 y ++ four_from 4 z) low.third high.third
          ∙ lane_eight x 6 (8 * q) c.told-x (omega (arith, below))) c.xor_eight_at-in-eights-6.ensures,
      more 7 c.args.eighth.now c.eights.eighth _ _ c.requires.back.3 held.7
          (c.high_halves-in-eights-3.ensures ∙ ap₂ (λ (y z : List ℕ). four_from 4 y ++ four_from 4 z) low.fourth high.fourth
          ∙ lane_eight x 7 (8 * q) c.told-x (omega (arith, below))) c.xor_eight_at-in-eights-7.ensures,
    )

pub returns-clause-first : goal.returns-clause-first
returns-clause-first c =
    xored_all _ 0 _ _ (8 * c.eights.q) c.told-x c.requires.front.0 (omega (arith, c.eights-test.false, c.eights.auto.q-end))
    c.eights.invariant.0

pub returns-clause-second : goal.returns-clause-second
returns-clause-second c =
    xored_all _ 1 _ _ (8 * c.eights.q) c.told-x c.requires.front.1 (omega (arith, c.eights-test.false, c.eights.auto.q-end))
    c.eights.invariant.1

pub returns-clause-third : goal.returns-clause-third
returns-clause-third c =
    xored_all _ 2 _ _ (8 * c.eights.q) c.told-x c.requires.front.2 (omega (arith, c.eights-test.false, c.eights.auto.q-end))
    c.eights.invariant.2

pub returns-clause-fourth : goal.returns-clause-fourth
returns-clause-fourth c =
    xored_all _ 3 _ _ (8 * c.eights.q) c.told-x c.requires.front.3 (omega (arith, c.eights-test.false, c.eights.auto.q-end))
    c.eights.invariant.3

pub returns-clause-fifth : goal.returns-clause-fifth
returns-clause-fifth c =
    xored_all _ 4 _ _ (8 * c.eights.q) c.told-x c.requires.back.0 (omega (arith, c.eights-test.false, c.eights.auto.q-end))
    c.eights.invariant.4

pub returns-clause-sixth : goal.returns-clause-sixth
returns-clause-sixth c =
    xored_all _ 5 _ _ (8 * c.eights.q) c.told-x c.requires.back.1 (omega (arith, c.eights-test.false, c.eights.auto.q-end))
    c.eights.invariant.5

pub returns-clause-seventh : goal.returns-clause-seventh
returns-clause-seventh c =
    xored_all _ 6 _ _ (8 * c.eights.q) c.told-x c.requires.back.2 (omega (arith, c.eights-test.false, c.eights.auto.q-end))
    c.eights.invariant.6

pub returns-clause-eighth : goal.returns-clause-eighth
returns-clause-eighth c =
    xored_all _ 7 _ _ (8 * c.eights.q) c.told-x c.requires.back.3 (omega (arith, c.eights-test.false, c.eights.auto.q-end))
    c.eights.invariant.7
