use Rattle.std.proofs.Common.{ℕ, List, ap, sym, subst, ◌∙◌}
use Rattle.octets.specs.Bytes.{IsBlock}
use Rattle.aes.specs.Cipher.{cipher}
use Rattle.aes.proofs.Permutation.{cipher_block}
use Rattle.aes.proofs.FourRounds.{holds_one, one_held}
use Rattle.aes.proofs.key.AesKey.encrypt_in_registers.Goals as goal

pub returns-clause-value : goal.returns-clause-value
returns-clause-value c =
    let key = c.args.self.now in
    let b : List ℕ = c.bytes.result.now in
    let block : IsBlock b = subst IsBlock (sym c.bytes.ensures.value) c.bytes.ensures.are_bytes in
    c.new.ensures.value
    ∙ one_held c.encrypt_lanes.result (cipher key b) (cipher_block key b c.encrypt_lanes.ensures.is_key block).length_is
    (c.encrypt_lanes.ensures.value (λ q. b) (λ q. block) (holds_one b block.length_is))
    ∙ ap (cipher key) c.bytes.ensures.value
