use Rattle.std.proofs.Common.{◌+◌, ◌*◌, ◌/◌, ◌%◌, get_or, bit_xor, arith, ltb-true}
use Rattle.aes.specs.Code.Lanes.{key_byte, linear_sbox}
use Rattle.aes.specs.Code.Planes.{block_byte, spot}
use Rattle.aes.specs.declared.planes.TheConstants.{SHIFTED_OUT}
use Rattle.aes.proofs.SixteenBlocks.{same_bytes, last_value}
use Rattle.aes.proofs.planes.last_round.Goals as goal

pub returns : goal.returns
returns g c = λ f ws blocks held key.
    let few = ltb-true g.P.BitPlanes.count 33 g.met.P.BitPlanes.few in
    let shifted = c.shift_out.ensures (block_byte f) held in
    let made = c.substitute.ensures (λ l k. block_byte f (get_or SHIFTED_OUT l 0) k)
    (λ l k. (blocks (get_or SHIFTED_OUT l 0 / 16 * 8 + k)).bytes (spot (get_or SHIFTED_OUT l 0))) shifted in
    same_bytes (g.P.BitPlanes.planes c.add.result)
    (c.add.ensures (λ l k. linear_sbox (block_byte f (get_or SHIFTED_OUT l 0) k))
    (λ l k. bit_xor (key_byte ws (l % 16)) 0x63) made key)
    (λ l k hl hk. last_value f ws l k (omega (arith, few, hl)))
