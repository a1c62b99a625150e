use Rattle.std.proofs.Common.{◌≡◌, ◌+◌, ◌∙◌, ap, sym}
use Rattle.octets.specs.Masked.{masked}
use Rattle.chacha.specs.Block.{double_rounds, initial_state}
use Rattle.chacha.specs.Code.Lanes.{lane}
use Rattle.chacha.specs.Code.Rows.{state_in}
use Rattle.chacha.specs.Stream.{key_stream_byte}
use Rattle.chacha.proofs.ByRows.{blocks_put, one_block, only_first}
use Rattle.chacha.proofs.Masking.{joined_block}
use Rattle.chacha.proofs.SideBySide.{lane_block}
use Rattle.chacha.proofs.row_beside.xor_five_blocks.Goals as goal

pub returns-clause-masked : goal.returns-clause-masked
returns-clause-masked g c =
    let key = c.args.key.now in
    let nonce = c.args.nonce.now in
    let n = c.args.counter in
    let row = state_in c.starts_at-row_start.result in
    let first = c.put_sums.new.out in
    let cut = c.split_at_mut-front.ensures in
    joined_block key nonce n c.split_at_mut-front.result.0.now c.split_at_mut-front.result.1.now first _ _ cut.front_len
    (one_block key nonce n first c.put_sums.auto.out
    (blocks_put key nonce n 1 first row (state_in c.ten_rounds.new.row) c.put_sums.auto.out c.starts_at-row_start.ensures
    (only_first (λ m. state_in c.ten_rounds.new.row m ≡ double_rounds 10 (row m)) c.ten_rounds.ensures.row)
    c.put_sums.ensures))
    c.xor_into.ensures
    (c.xor_serialized.ensures key nonce (n + 1) (λ j l.
    lane_block key nonce (lane j c.set_starts.new.x) (lane j c.add.new.x) (lane j c.ten_rounds.new.x) (n + 1 + j)
    (c.set_starts.ensures j l ∙ ap (λ m. initial_state key m nonce) (c.four_counters.ensures j l))
    (c.ten_rounds.ensures.lanes j l) (c.add.ensures j l)))
    ∙ ap (masked (key_stream_byte key nonce n) 0) (sym cut.value)
