use Rattle.std.proofs.Common.{refl, ◌∙◌, arith, length, rules}
use Rattle.octets.specs.Bytes.{AreBytes}
use Rattle.keywrap.specs.Padded.{HasPaddedRoom}
use Rattle.keywrap.proofs.PaddedTexts.{wrapped_in_room}
use Rattle.keywrap.proofs.padded_in_place.wrap_padded_in_place.Goals as goal

pub returns-clause-answer : goal.returns-clause-answer
returns-clause-answer c =
    let bytes : AreBytes (length c.args.bytes.now) c.args.bytes.now = search rules in
    let room : HasPaddedRoom c.args.bytes.now c.args.text_length = c.if-not-has_padded_room.ensures.0 refl in (
      room,
      wrapped_in_room c.args.key.now c.args.bytes.now c.copy_from_slice.new.self
          c.copy_from_slice-2.new.self c.encrypt_register.new.bytes c.args.text_length room (omega arith) bytes
          (c.copy_from_slice.ensures.after ∙ c.alternative_value.ensures) c.copy_from_slice-2.ensures.after
          c.encrypt_register.ensures,
    )
