use Rattle.std.proofs.Common.{◌∙◌}
use Rattle.aead.proofs.hashes.first_block.Goals as goal

pub returns : goal.returns
returns c =
    let bytes = c.args.bytes.now in
    c.new.ensures.value ∙ c.copy_from_slice.ensures.after
