use Rattle.std.proofs.Common.{◌∙◌, sym, arith, true≢false}
use Rattle.keywrap.proofs.PaddedTexts.{start_of, start_holds}
use Rattle.keywrap.proofs.padded.text_length.Goals as goal

pub returns-then-is_valid : goal.returns-then-is_valid
returns-then-is_valid c =
    start_of c.args.first.now c.args.blocks.now c.stated_length.result
    (record { length_is = omega arith; bytes = search }) c.requires.least c.requires.whole c.stated_length.ensures
    (omega arith) (c.difference.ensures.0 (c.is_valid.ensures.0 c.if-is_valid.true))

pub returns-else-is_valid : goal.returns-else-is_valid
returns-else-is_valid c text s =
    true≢false (sym (c.is_valid.ensures.1 (c.difference.ensures.1
    (start_holds text c.args.first.now c.args.blocks.now s))) ∙ c.if-is_valid.false)
