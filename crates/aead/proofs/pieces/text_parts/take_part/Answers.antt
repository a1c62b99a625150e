use Rattle.std.proofs.Common.{subst}
use Rattle.aead.specs.Code.Masks.{TakesText}
use Rattle.aead.proofs.pieces.text_parts.take_part.Goals as goal

pub returns-clause-takes : goal.returns-clause-takes
returns-clause-takes g c =
    subst (λ x. TakesText g.S.MaskStream.made g.H.TagHash.held c.args.mask.now c.step.new.mask c.args.authenticator.now
    c.step.new.authenticator x) c.copy_from_slice.ensures.after (λ s tag fed h k room.
    let next = c.step.ensures.step s tag fed h k room in (next.0, next.1))
