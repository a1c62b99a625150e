use Rattle.std.proofs.Common.{◌<◌, ◌∙◌, ap, arith}
use Rattle.aes.specs.Cipher.{cipher}
use Rattle.aes.proofs.counter.Counter.mask_two.Goals as goal

pub returns-clause-advances : goal.returns-clause-advances
returns-clause-advances g c = c.mask_with.ensures.advances c.args.key.now (λ q h.
    let within : q < 2 = omega (arith, h) in
    c.encrypt_two-masks.ensures q within ∙ ap (cipher c.args.key.now) (c.two.ensures q within))
