use Rattle.std.proofs.Common.{◌+◌, refl, ap}
use Rattle.aead.proofs.Maskings.{mask_first, hash_first}
use Rattle.aead.proofs.step.step.Goals as goal

pub returns-in-MaskFirst-clause-step : goal.returns-in-MaskFirst-clause-step
returns-in-MaskFirst-clause-step g c =
    rw c.in-MaskFirst.is
    (mask_first g.S.MaskStream.made g.H.TagHash.held _ _ c.args.authenticator.now _ _ _ c.mask_first.ensures.masks
    c.mask_first.ensures.takes refl refl)

pub returns-in-HashFirst-clause-step : goal.returns-in-HashFirst-clause-step
returns-in-HashFirst-clause-step g c =
    rw c.in-HashFirst.is
    (hash_first g.S.MaskStream.made g.H.TagHash.held _ _ c.args.authenticator.now _ _ _ c.hash_first.ensures.masks
    c.hash_first.ensures.takes refl (ap (λ n. c.args.authenticator.now.length + n) c.hash_first.auto.piece))
