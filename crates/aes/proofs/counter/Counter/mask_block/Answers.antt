use Rattle.std.proofs.Common.{◌≡◌, ◌+◌, ◌%◌, ◌^◌, ◌∙◌, length, ap, arith}
use Rattle.std.proofs.lemmas.List.{take_all}
use Rattle.octets.specs.Bytes.{block_at}
use Rattle.aes.specs.Cipher.{cipher}
use Rattle.aes.proofs.counter.Counter.mask_block.Goals as goal

pub returns-clause-advances : goal.returns-clause-advances
returns-clause-advances g c = λ first made held. c.mask_with.ensures.advances c.args.key.now (λ q h.
    let s = c.args.self.now in
    let size : length c.bytes.result.now ≡ 16 = ap length c.bytes.ensures.value ∙ c.bytes.ensures.are_bytes.length_is in
    let first : q ≡ 0 = omega (arith, h, size) in
    let count : s.block_count ≡ (s.block_count + q) % 2 ^ 32 = omega (arith, first) in
    ap (block_at c.bytes.result.now) first ∙ take_all 16 c.bytes.result.now (omega (arith, size))
    ∙ c.bytes.ensures.value ∙ c.encrypt_in_registers-mask.ensures.value ∙ ap (cipher c.args.key.now) (c.block.ensures.value
    ∙ ap (g.C.Count.up s.first) count)) first made (record {
      first_is = held.first_is;
      block_count_is = held.block_count_is;
      used_is = held.used_is;
      mask_is = held.mask_is;
    })
