use Rattle.aead.proofs.mask.MaskStream.apply_to.Goals as goal

pub returns : goal.returns
returns g c = g.met.Self.MaskStream.masks c.args.self.now _ c.args.piece.now _ c.apply_next.ensures
