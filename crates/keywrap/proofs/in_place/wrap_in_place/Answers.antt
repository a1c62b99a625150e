use Rattle.std.proofs.Common.{◌≡◌, ℕ, List, ◌-◌, ◌++◌, drop, length, arith, ap, refl, sym, length-drop, rules}
use Rattle.octets.specs.Bytes.{AreBytes}
use Rattle.keywrap.specs.Wrapping.{HasTextLength, HasWrappedLength}
use Rattle.keywrap.proofs.Bytes.{bytes_drop, bytes_resized}
use Rattle.keywrap.proofs.Texts.{wrapping_by}
use Rattle.keywrap.proofs.in_place.wrap_in_place.Goals as goal

pub returns-then-has_wrapped_length-clause-answer : goal.returns-then-has_wrapped_length-clause-answer
returns-then-has_wrapped_length-clause-answer c =
    let text : List ℕ = drop 8 c.args.bytes.now in
    let all : AreBytes (length c.args.bytes.now) c.args.bytes.now = search rules in
    let cut : length text ≡ length c.args.bytes.now - 8 = length-drop 8 c.args.bytes.now in
    let bytes : AreBytes (length text) text =
    bytes_resized (length c.args.bytes.now - 8) (length text) text (sym cut)
    (bytes_drop 8 (length c.args.bytes.now) c.args.bytes.now all) in
    let long : HasWrappedLength c.args.bytes.now = c.if-has_wrapped_length.ensures.0 refl in
    let lengths : HasTextLength text = record { least = omega arith; whole = omega arith } in
    wrapping_by c.args.key.now c.wrap_register.new.bytes (c.copy_from_slice.new.self ++ text) text bytes
    lengths
    (ap (λ x. x ++ text) c.copy_from_slice.ensures.after) c.wrap_register.ensures

pub returns-else-has_wrapped_length-clause-unchanged : goal.returns-else-has_wrapped_length-clause-unchanged
returns-else-has_wrapped_length-clause-unchanged c = refl
