use Rattle.std.proofs.Common.{◌≡◌, ◌≤◌, ◌+◌, ◌-◌, ap₂, ◌∙◌, arith, length, rules}
use Rattle.std.proofs.lemmas.Grind.{common_steps}
use Rattle.octets.specs.Bytes.{AreBytes}
use Rattle.keywrap.proofs.PaddedTexts.{wrapped_in_output}
use Rattle.keywrap.proofs.outputs.wrap_padded_to.Goals as goal
use borrow.Rule.Slice.PartMut.{put_mid}

pub returns-clause-answer : goal.returns-clause-answer
returns-clause-answer c =
    let old = c.args.wrapped.now in
    let text = c.args.text.now in
    let old_bytes : AreBytes (length old) old = search rules in
    let text_bytes : AreBytes (length text) text = search rules in
    let least : 1 ≤ length text = grind (arith, common_steps) in
    let count : 8 + length text - 8 ≡ length text = omega arith in
    wrapped_in_output c.args.key.now old text
    (put_mid 8 (8 + length text - 8) old c.copy_from_slice.new.self) c.copy_from_slice-2.new.self
    c.copy_from_slice-3.new.self c.encrypt_register.new.bytes least (omega arith) c.requires old_bytes
    text_bytes
    (ap₂ (λ k x. put_mid 8 k old x) count c.copy_from_slice.ensures.after)
    (c.copy_from_slice-2.ensures.after ∙ c.alternative_value.ensures) c.copy_from_slice-3.ensures.after
    c.encrypt_register.ensures
