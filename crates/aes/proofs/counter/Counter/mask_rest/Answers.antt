use Rattle.std.proofs.Common.{◌≡◌, ℕ, ◌+◌, ◌-◌, ◌∙◌, ap, length, take, drop, refl, arith}
use Rattle.octets.specs.Bytes.{xor_bytes}
use Rattle.aes.proofs.StreamSteps.{went_on}
use Rattle.aes.proofs.counter.Counter.mask_rest.Goals as goal

pub returns-clause-advances : goal.returns-clause-advances
returns-clause-advances g c = λ key.
    let s = c.args.self.now in
    let xs = c.args.bytes.now in
    let n : ℕ = s.used + length xs - s.used in
    let size : n ≡ length xs = omega arith in
    went_on g.C.Count.up key s _ xs c.xor_into.new.dst n refl refl refl refl c.requires.some c.requires.room
    c.bytes.ensures.are_bytes.length_is size
    (c.xor_into.ensures ∙ ap (λ m. xor_bytes xs (take n (drop s.used m))) c.bytes.ensures.value)
