use Rattle.std.proofs.Common.{◌≡◌, ℕ, ◌-◌, ◌≤◌, ◌∙◌, length, arith}
use Rattle.std.proofs.lemmas.List.{length-take-le}
use Rattle.aes.proofs.StreamSteps.{advances_two}
use Rattle.aes.proofs.counter.Counter.apply.Goals as goal

pub returns-else-bytes-self : goal.returns-else-bytes-self
returns-else-bytes-self g c =
    let was = c.args.bytes.now in
    let h : ℕ = 16 - c.args.self.now.used in
    let begun = c.mask_rest-else-bytes-self.new.bytes in
    let within : h ≤ length was = omega (arith, c.if-bytes-self.false) in
    let size : length begun ≡ h = c.mask_rest-else-bytes-self.auto.bytes ∙ length-take-le h was within in
    advances_two g.C.Count.up c.args.key.now c.args.self.now c.mask_rest-else-bytes-self.new.self
    c.apply_blocks-else-bytes-self.new.self was begun
    c.apply_blocks-else-bytes-self.new.bytes h within size c.apply_blocks-else-bytes-self.auto.bytes
    (c.mask_rest-else-bytes-self.ensures.advances c.args.key.now) c.apply_blocks-else-bytes-self.ensures
