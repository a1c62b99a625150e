use Rattle.std.proofs.Common.{sym, ap, ◌∙◌}
use Rattle.aes.specs.Cipher.{cipher}
use Rattle.keywrap.proofs.PaddedTexts.{transformed_one, transformed_more}
use Rattle.keywrap.proofs.padded.encrypt_register.Goals as goal

pub returns-then-bytes-eq16 : goal.returns-then-bytes-eq16
returns-then-bytes-eq16 c =
    c.copy_from_slice.ensures.after ∙ c.bytes.ensures.value ∙ c.encrypt_in_registers.ensures.value
    ∙ ap (cipher c.args.key.now) c.only_block.ensures
    ∙ sym (transformed_one c.args.key.now c.args.bytes.now c.if-bytes-eq16.true)

pub returns-else-bytes-eq16 : goal.returns-else-bytes-eq16
returns-else-bytes-eq16 c = c.wrap_register.ensures
    ∙ sym (transformed_more c.args.key.now c.args.bytes.now c.if-bytes-eq16.false)
