use Rattle.std.proofs.Common.{◌≡◌, ℕ, ◌+◌, ◌-◌, ◌/◌, ◌%◌, ◌^◌, ◌<◌, List, get_or, refl, sym, ap, ap₂, ◌∙◌, arith}
use Rattle.std.proofs.Common.{bit_xor, cond, ◌==◌}
use Rattle.octets.specs.Bytes.{IsBlock}
use Rattle.aes.proofs.CountedBlocks.{sixteen_blocks}
use Rattle.aes.proofs.counter.Counter.sixteen.Goals as goal

pub returns : goal.returns
returns g c =
    let first = c.args.self.now.first in
    let begun = c.args.self.now.block_count in
    let up : List ℕ → ℕ → List ℕ = g.C.Count.up in
    let place : ℕ = g.C.Count.LOW in
    let counts = c.counts_in_nibble.ensures in
    let block : IsBlock first = c.bytes.ensures.are_bytes in
    let low : ℕ = (c.from.result + begun) % 2 ^ 32 % 16 in
    let whole : ℕ = (begun + (2 ^ 32 - low)) % 2 ^ 32 in
    let small : low < 16 = omega arith in
    let back : (whole + low) % 2 ^ 32 ≡ begun % 2 ^ 32 = omega arith in
    record {
      planes = c.count_blocks.ensures (λ q. up first ((begun + q) % 2 ^ 32)) (λ q i hq hi.
          sixteen_blocks up place g.met.C.Count.wraps counts first c.bytes-2.result.now c.bytes-3.result.now block begun low
          whole (ap (λ (v : ℕ). (v + begun) % 2 ^ 32 % 16)
          (c.from.ensures ∙ ap₂ (λ (v : List ℕ) (p : ℕ). get_or v p 0) c.bytes.ensures.value c.LOW.ensures)) back
          (c.bytes-2.ensures.value ∙ c.block.ensures.value) (c.bytes-3.ensures.value ∙ c.block-2.ensures.value)
          q ((low + q) / 16) i hq hi refl
          ∙ ap (λ (p : ℕ). bit_xor (get_or (cond ((low + q) / 16 == 0) c.bytes-2.result.now c.bytes-3.result.now) i 0)
          (cond (i == p) ((low + q) % 16) 0)) (sym c.LOW-2.ensures));
      each_is_block = λ j. counts.blocks first j block;
    }
