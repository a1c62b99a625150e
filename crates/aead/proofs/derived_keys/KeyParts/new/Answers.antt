use Rattle.std.proofs.Common.{◌++◌, take, ap, ◌∙◌}
use Rattle.std.specs.Int.{w32, to_le_bytes}
use Rattle.aes.specs.Cipher.{cipher}
use Rattle.aead.specs.Sealing.{key_part}
use Rattle.aead.proofs.derived_keys.KeyParts.new.Goals as goal

pub invariant_of-result : goal.invariant_of-result
unfolding key_part
invariant_of-result c = record {
  parts = λ q l. ap (take 8) (c.encrypt_four.ensures q l
      ∙ ap (cipher c.args.key.now)
      (c.first_numbered.ensures q l ∙ ap (λ n. to_le_bytes w32 q ++ n) c.bytes.ensures.value));
}
