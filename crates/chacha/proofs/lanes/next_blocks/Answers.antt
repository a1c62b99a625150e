use Rattle.std.proofs.Common.{ℕ, ◌+◌, ◌%◌, ◌^◌, ◌∙◌, sym, ap, ap₂, set}
use Rattle.std.proofs.lemmas.Simd.{get_or-replicate}
use Rattle.chacha.specs.Code.Lanes.{lane}
use Rattle.chacha.proofs.SideBySide.{lane-set, get_or-lane, lane_begun, counter_of, lane_block}
use Rattle.chacha.proofs.lanes.next_blocks.Goals as goal

pub returns-clause-blocks : goal.returns-clause-blocks
returns-clause-blocks g c = λ j l key nonce n is.
    lane_block key nonce (lane j c.args.start.now) (lane j c.add.new.x) (lane j c.ten_rounds.new.x) n is
    (c.ten_rounds.ensures.lanes j l) (c.add.ensures j l)

pub returns-clause-counts : goal.returns-clause-counts
returns-clause-counts g c = λ j l key nonce n is.
    let start = c.args.start.now in
    lane_begun key nonce (lane j start) _ ((n + g.row.N) % 2 ^ 32) n is (lane-set j start 12 c.sum.result
    ∙ ap (set (lane j start) 12) (c.sum.ensures j l ∙ ap₂ (λ (y z : ℕ). (y + z) % 2 ^ 32)
    (sym (get_or-lane j start 12) ∙ counter_of key nonce (lane j start) n is)
    (get_or-replicate g.row.N j _ 0 l)))
