use Rattle.std.proofs.Common.{◌∙◌, refl, length}
use Rattle.poly1305.proofs.Texts.{ended_block, ended_number}
use Rattle.poly1305.proofs.poly.short_block_number.Goals as goal

pub returns : goal.returns
returns c =
    let bytes = c.args.bytes.now in
    let ended = ended_block bytes _ c.requires c.copy_from_slice.ensures.after in
    c.from_le_bytes.ensures ∙ ended_number bytes _ (length bytes) c.requires refl ended
