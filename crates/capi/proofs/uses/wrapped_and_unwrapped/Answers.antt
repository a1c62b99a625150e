use Rattle.capi.proofs.Outcomes.{done_to}
use Rattle.capi.proofs.uses.wrapped_and_unwrapped.Goals as goal

pub returns : goal.returns
returns c = λ zero.
    let one = done_to _ _ _ _ c.aeadkit_wrap-one.ensures c.if-one-ne0.false in
    let two = (done_to _ _ _ _ c.aeadkit_unwrap.ensures zero).1 in
    (one.1, (c.wrapping_has_one_text.ensures _ one.0 _ _ one.1).1 _ two)
