use Rattle.std.proofs.Common.{◌%◌, ◌∙◌, ap₂, bit_xor}
use Rattle.aes.proofs.MadeKeys.{sub_lane}
use Rattle.aes.proofs.schedule.sub_word.Goals as goal

pub returns : goal.returns
returns c = λ s k ss ks word_is constant_is i l.
    let made = c.substitute.ensures (λ i. s (i % 4)) (λ i h. ss (i % 4))
    (record { long = c.fits-word.0; each = word_is }) in
    c.sum.ensures.each i l ∙ ap₂ bit_xor (made.1.each i l) (constant_is i l)
    ∙ sub_lane (s (i % 4)) (k (i % 4)) (ss (i % 4)) (ks (i % 4))
