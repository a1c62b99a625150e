use Rattle.std.proofs.Common.{◌≡◌, ℕ, ◌+◌, ◌*◌, List, ◌∙◌, arith, length}
use Rattle.chacha.specs.Code.Lanes.{lane}
use Rattle.chacha.proofs.SideBySide.{xored_none, xored_more, xored_all, lane_four}
use Rattle.chacha.proofs.lanes.xor_lanes.Goals as goal

pub quads-init : goal.quads-init
quads-init c = (
  xored_none (lane 0 c.args.x.now) c.args.first.now,
  xored_none (lane 1 c.args.x.now) c.args.second.now,
  xored_none (lane 2 c.args.x.now) c.args.third.now,
  xored_none (lane 3 c.args.x.now) c.args.fourth.now,
)

pub quads-preserved : goal.quads-preserved
quads-preserved c =
    let x = c.args.x.now in
    let q : ℕ = c.quads.q in
    let held = c.quads.invariant in
    let rows = c.transposed.ensures in
    let below = c.quads-test.true in
    let more = λ (j : ℕ) (was mid now part : List ℕ) (long : length was ≡ 64).
    xored_more x j was mid now part (4 * q) 4 (4 * (q + 1)) (16 * q) c.told-x long (omega (arith, below))
    (omega arith) (omega arith) in
    let words = λ (j : ℕ). lane_four x j (4 * q) c.told-x (omega (arith, below)) in (
      more 0 c.args.first.now c.quads.first _ _ c.requires.front.0 held.0 (rows.first ∙ words 0)
          c.xor_at.ensures,
      more 1 c.args.second.now c.quads.second _ _ c.requires.front.1 held.1 (rows.second ∙ words 1)
          c.xor_at-in-quads.ensures,
      more 2 c.args.third.now c.quads.third _ _ c.requires.back.0 held.2 (rows.third ∙ words 2)
          c.xor_at-in-quads-2.ensures,
      more 3 c.args.fourth.now c.quads.fourth _ _ c.requires.back.1 held.3 (rows.fourth ∙ words 3)
          c.xor_at-in-quads-3.ensures,
    )

pub returns-clause-first : goal.returns-clause-first
returns-clause-first c =
    xored_all _ 0 _ _ (4 * c.quads.q) c.told-x c.requires.front.0 (omega (arith, c.quads-test.false, c.quads.auto.q-end))
    c.quads.invariant.0

pub returns-clause-second : goal.returns-clause-second
returns-clause-second c =
    xored_all _ 1 _ _ (4 * c.quads.q) c.told-x c.requires.front.1 (omega (arith, c.quads-test.false, c.quads.auto.q-end))
    c.quads.invariant.1

pub returns-clause-third : goal.returns-clause-third
returns-clause-third c =
    xored_all _ 2 _ _ (4 * c.quads.q) c.told-x c.requires.back.0 (omega (arith, c.quads-test.false, c.quads.auto.q-end))
    c.quads.invariant.2

pub returns-clause-fourth : goal.returns-clause-fourth
returns-clause-fourth c =
    xored_all _ 3 _ _ (4 * c.quads.q) c.told-x c.requires.back.1 (omega (arith, c.quads-test.false, c.quads.auto.q-end))
    c.quads.invariant.3
