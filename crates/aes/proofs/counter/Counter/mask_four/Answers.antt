use Rattle.std.proofs.Common.{◌<◌, ◌∙◌, ap, arith}
use Rattle.aes.specs.Cipher.{cipher}
use Rattle.aes.proofs.counter.Counter.mask_four.Goals as goal

pub returns-clause-advances : goal.returns-clause-advances
returns-clause-advances g c = c.mask_with.ensures.advances c.args.key.now (λ q h.
    let within : q < 4 = omega (arith, h) in
    c.encrypt_four-masks.ensures q within ∙ ap (cipher c.args.key.now) (c.four.ensures q within))
