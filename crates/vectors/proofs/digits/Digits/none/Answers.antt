use Rattle.std.proofs.Common.{refl}
use Rattle.hex.specs.Hex.{decode_pairs}
use Rattle.vectors.specs.Faults.{is_hex, bytes_of}
use Rattle.vectors.proofs.digits.Digits.none.Goals as goal

pub invariant_of-result : goal.invariant_of-result
unfolding is_hex
invariant_of-result c = record { valid = refl }

pub returns : goal.returns
unfolding bytes_of decode_pairs
returns c = refl
