use Rattle.std.proofs.Common.{ap, sym, subst, refl, arith, ◌∙◌}
use Rattle.octets.specs.Bytes.{IsBlock, le}
use Rattle.octets.proofs.Xors.{zip2_xor}
use Rattle.gf128.proofs.LaneWords.{le_xor, xor_block_of}
use Rattle.gf128.proofs.word_bytes.WordBytesLanes.xor.Goals as goal

pub invariant_of-result : goal.invariant_of-result
invariant_of-result c =
    let a = c.args.self in
    let b = c.args.other in
    record {
      is_block =
          subst IsBlock (sym (zip2_xor _ a.bytes b.bytes (λ x y. refl)))
          (xor_block_of a.bytes b.bytes a.is_block b.is_block);
    }

pub returns : goal.returns
returns c =
    let a = c.args.self in
    let b = c.args.other in
    ap le (zip2_xor _ a.bytes b.bytes (λ x y. refl))
    ∙ le_xor a.bytes b.bytes (omega (arith, a.is_block.length_is, b.is_block.length_is)) a.is_block.bytes
    b.is_block.bytes
