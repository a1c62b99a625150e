use Rattle.std.proofs.Common.{◌∙◌, arith, drop}
use Rattle.std.proofs.lemmas.List.{take_all, length-drop}
use Rattle.aead.proofs.hashes.last_block.Goals as goal

pub returns : goal.returns
returns c =
    let bytes = c.args.bytes.now in
    c.new.ensures.value ∙ c.copy_from_slice.ensures.after
    ∙ take_all 16 (drop 16 bytes) (omega (arith, length-drop 16 bytes))
