use Rattle.std.proofs.Common.{◌∙◌, take, ap, arith}
use Rattle.std.specs.Int.{w32, from_be_bytes}
use Rattle.keywrap.proofs.Bytes.{bytes_take}
use Rattle.keywrap.proofs.Checks.{is_constant}
use Rattle.keywrap.proofs.padded.constant_difference.Goals as goal

pub returns : goal.returns
returns c =
    let right = is_constant (take 4 c.args.first.now) c.from_be_bytes.result
    (bytes_take 4 8 c.args.first.now (omega arith) (record { length_is = omega arith; bytes = search }))
    (c.from_be_bytes.ensures ∙ ap (from_be_bytes w32) c.copy_from_slice.ensures.after) in (
      λ z. right.0 (omega arith),
      λ z. let is = right.1 z in omega (arith, is),
    )
