use Rattle.aead.proofs.aead.Aead.seal_in_place.Goals as goal

pub returns : goal.returns
returns g c = c.seal_fitting.ensures
