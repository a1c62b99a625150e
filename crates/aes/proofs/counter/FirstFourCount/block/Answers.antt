use Rattle.std.proofs.Common.{length, ap, ◌∙◌}
use Rattle.aes.specs.Counters.{up_le}
use Rattle.aes.proofs.StreamSteps.{up_le_written}
use Rattle.aes.proofs.counter.FirstFourCount.block.Goals as goal

pub returns-clause-value : goal.returns-clause-value
returns-clause-value c =
    let same = c.bytes.ensures.value in
    c.new.ensures.value ∙ c.write_u32.ensures
    ∙ up_le_written c.bytes.result.now c.read_u32-number.result c.args.steps
    (ap length same ∙ c.bytes.ensures.are_bytes.length_is) c.read_u32-number.ensures
    ∙ ap (λ b. up_le b c.args.steps) same
