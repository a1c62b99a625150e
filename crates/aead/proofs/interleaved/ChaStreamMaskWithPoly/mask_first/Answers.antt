use Rattle.aead.specs.Code.Masks.{chacha_masks}
use Rattle.aead.proofs.interleaved.ChaStreamMaskWithPoly.mask_first.Goals as goal

pub returns-then-pays-clause-masks : goal.returns-then-pays-clause-masks
returns-then-pays-clause-masks c = chacha_masks c.args.self.now _ c.args.piece.now _ c.mask_first_interleaved.ensures.did
