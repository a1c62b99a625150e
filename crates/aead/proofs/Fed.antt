-- A text that an authenticator takes in part by part, each part padded to whole blocks.
use Rattle.std.proofs.Common.{◌≡◌, ℕ, ◌-◌, ◌%◌, List, ◌++◌, length, replicate, ap, ◌∙◌, arith, append_assoc}
use Rattle.std.proofs.Common.{length-append}
use Rattle.octets.specs.Bytes.{padding, pad16}
use Rattle.octets.proofs.Texts.{whole_padded}

-- if whole blocks come first, the padding of the joined list is the padding of the rest
pub pad16_after : (a b : List ℕ) → length a % 16 ≡ 0 → pad16 (a ++ b) ≡ a ++ pad16 b
pad16_after a b whole =
    let same : (16 - length (a ++ b) % 16) % 16 ≡ (16 - length b % 16) % 16 =
    omega (arith, length-append a b) in
    ap (λ n. (a ++ b) ++ replicate n 0) same ∙ append_assoc a b (padding b)

-- two padded parts that are joined and padded again are the two padded parts
pub fed : (a b z : List ℕ) → pad16 (pad16 a ++ b) ++ z ≡ pad16 a ++ (pad16 b ++ z)
fed a b z =
    ap (λ l. l ++ z) (pad16_after (pad16 a) b (whole_padded a))
    ∙ append_assoc (pad16 a) (pad16 b) z

-- a padded part and 16 bytes after it are whole blocks
pub whole_ended : (a z : List ℕ) → length z ≡ 16 → length (pad16 a ++ z) % 16 ≡ 0
whole_ended a z long = omega (arith, whole_padded a, length-append (pad16 a) z, long)
