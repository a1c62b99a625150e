use Rattle.std.proofs.Common.{length, ap, ◌∙◌}
use Rattle.aes.specs.Counters.{up_be}
use Rattle.aes.proofs.StreamSteps.{up_be_written}
use Rattle.aes.proofs.counter.LastFourCount.block.Goals as goal

pub returns-clause-value : goal.returns-clause-value
returns-clause-value c =
    let same = c.bytes.ensures.value in
    c.new.ensures.value
    ∙ up_be_written c.bytes.result.now c.write_u32.new.buf c.read_u32-number.result c.args.steps
    (ap length same ∙ c.bytes.ensures.are_bytes.length_is) c.read_u32-number.ensures c.write_u32.ensures
    ∙ ap (λ b. up_be b c.args.steps) same
