use Rattle.std.proofs.Common.{ℕ, ◌∙◌, ap₂, bit_xor, arith}
use Rattle.std.proofs.lemmas.List.{get_or-replicate}
use Rattle.aes.specs.Code.Lanes.{row_source}
use Rattle.aes.proofs.schedule.ready.Goals as goal

pub returns : goal.returns
returns c = λ ws n held i l.
    c.sum.ensures.each i l ∙ ap₂ bit_xor
    (c.shift_rows.ensures.each i l ∙ held.each (row_source i) (omega arith))
    (get_or-replicate {A = ℕ} 16 i 0x7c 0 l)
