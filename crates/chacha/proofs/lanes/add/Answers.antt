use Rattle.std.proofs.Common.{◌≡◌, ℕ, ◌+◌, ◌%◌, ◌^◌, ◌++◌, ◌∙◌, ap, arith, add-one, length, take, drop, set}
use Rattle.std.proofs.Common.{get_or}
use Rattle.chacha.specs.Block.{added}
use Rattle.chacha.specs.Code.Lanes.{lane}
use Rattle.chacha.proofs.Words.{partly_added_none, partly_added_more, partly_added_all}
use Rattle.chacha.proofs.SideBySide.{lane-sum, length-lane}
use Rattle.chacha.proofs.lanes.add.Goals as goal

pub words-init : goal.words-init
words-init g c = λ j l. partly_added_none (lane j c.args.x.now) (lane j c.args.start.now)

pub words-preserved : goal.words-preserved
words-preserved g c = λ j l.
    let i : ℕ = c.words.i in
    let was = lane j c.args.x.now in
    let start = lane j c.args.start.now in
    let in_was : length was ≡ 16 = length-lane j c.args.x.now ∙ c.told-x in
    let in_start : length start ≡ 16 = length-lane j c.args.start.now ∙ c.told-start in
    rw add-one (
    lane-sum c.words.x c.args.start.now c.sum.result i j (c.sum.ensures j l)
    ∙ ap (λ s. set s i ((get_or s i 0 + get_or start i 0) % 2 ^ 32)) (c.words.invariant j l)
    ∙ partly_added_more was start i (omega (arith, in_was, c.words-test.true))
    (omega (arith, in_start, c.words-test.true))
    )

pub returns : goal.returns
returns g c = λ j l.
    let was = lane j c.args.x.now in
    let start = lane j c.args.start.now in
    let end : c.words.i ≡ 16 = omega (arith, c.words-test.false, c.words.auto.i-end) in
    c.words.invariant j l ∙ ap (λ n. added (take n was) (take n start) ++ drop n was) end
    ∙ partly_added_all was start 16 (length-lane j c.args.x.now ∙ c.told-x) (length-lane j c.args.start.now
    ∙ c.told-start)
