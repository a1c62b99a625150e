use Rattle.std.proofs.Common.{ℕ, ◌+◌, ◌*◌, ◌/◌, get_or, bit_xor, arith, ltb-true}
use Rattle.aes.specs.Field.{times}
use Rattle.aes.specs.Code.Lanes.{key_byte}
use Rattle.aes.specs.Code.Planes.{block_byte, spot}
use Rattle.aes.specs.declared.planes.TheConstants.{SHIFTED, BELOW, TWO_BELOW}
use Rattle.aes.proofs.FourBlocks.{linear_small}
use Rattle.aes.proofs.SixteenBlocks.{same_bytes, brought, round_value}
use Rattle.aes.proofs.planes.round.Goals as goal

pub returns : goal.returns
returns g c = λ f ws blocks held key.
    let few = ltb-true g.P.BitPlanes.count 33 g.met.P.BitPlanes.few in
    let small = λ (l k : ℕ). (blocks (l / 16 * 8 + k)).bytes (spot l) in
    let shifted = c.shift_rows.ensures (block_byte f) held in
    let made = c.substitute.ensures (λ l k. block_byte f (get_or SHIFTED l 0) k)
    (λ l k. small (get_or SHIFTED l 0) k) shifted in
    let mixed = c.mix_columns.ensures (brought f)
    (λ l k. linear_small (block_byte f (get_or SHIFTED l 0) k) (small (get_or SHIFTED l 0) k)) made in
    same_bytes (g.P.BitPlanes.planes c.add.result)
    (c.add.ensures (λ l k. bit_xor
    (bit_xor (brought f (get_or BELOW l 0) k)
    (bit_xor (brought f (get_or TWO_BELOW l 0) k) (brought f (get_or BELOW (get_or TWO_BELOW l 0) 0) k)))
    (times 2 (bit_xor (brought f l k) (brought f (get_or BELOW l 0) k))))
    (λ l k. bit_xor (key_byte ws (spot l)) 0x63) mixed key)
    (λ l k hl hk. round_value f ws blocks l k (omega (arith, few, hl)))
