use Rattle.std.proofs.Common.{◌∙◌, ap}
use Rattle.chacha.specs.Block.{serialized}
use Rattle.chacha.proofs.ByRows.{four_items}
use Rattle.chacha.proofs.rows.serialized_row.Goals as goal

pub returns : goal.returns
returns c = c.bytes_of.ensures ∙ ap serialized (four_items c.args.row c.fits-row.0)
