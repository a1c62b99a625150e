use Rattle.std.proofs.Common.{◌∙◌, sym}
use Rattle.keywrap.proofs.Checks.{start_by}
use Rattle.keywrap.proofs.padded.difference.Goals as goal

pub returns : goal.returns
returns c =
    let right = c.constant_difference-constant.ensures in
    start_by c.args.first.now c.args.blocks.now c.last_eight.result c.from.result c.count_behind-count.result
    c.last_number-number.result c.requires
    (λ z. right.0 (sym c.from.ensures ∙ z), λ z. c.from.ensures ∙ right.1 z) c.last_number-number.ensures.none
    c.last_eight.ensures c.count_behind-count.ensures.least c.count_behind-count.ensures.count
