use Rattle.std.proofs.Common.{◌+◌, ◌*◌, ◌/◌, ◌%◌, arith, rules}
use Rattle.std.proofs.lemmas.Nat.{xor_of_8}
use Rattle.aes.specs.Code.Planes.{masked_byte, word_byte, spot}
use Rattle.aes.proofs.MadeKeys.{middle_lanes}
use Rattle.aes.proofs.key_planes.middle.Goals as goal

pub returns : goal.returns
returns c = λ ws n bytes kept l h.
    (c.from_basis.ensures (λ l. masked_byte ws n (spot l))
    (λ k g. xor_of_8 (word_byte ws n (spot k)) 0x63 (bytes (4 * n + spot k / 4) (spot k % 4)) (omega arith))
    (middle_lanes c.unshifted_rows.result c.args.key ws n (search rules) bytes kept c.unshifted_rows.ensures)).each l h
