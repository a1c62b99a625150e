use Rattle.std.proofs.Common.{ℕ, ◌*◌, ◌/◌, ◌%◌, ◌+◌, ◌∙◌, ap₂, bit_xor}
use Rattle.std.proofs.lemmas.List.{get_or-replicate}
use Rattle.aes.specs.Code.Lanes.{byte_from}
use Rattle.aes.proofs.schedule.ready_last.Goals as goal

pub returns : goal.returns
returns c = λ ws n bytes held i l.
    let back = c.from_basis.ensures (byte_from ws (4 * n)) (λ k h. bytes (4 * n + k / 4) (k % 4))
    (record { long = c.fits-words.0; each = held.each }) in
    c.sum.ensures.each i l ∙ ap₂ bit_xor (back.each i l) (get_or-replicate {A = ℕ} 16 i 0x63 0 l)
