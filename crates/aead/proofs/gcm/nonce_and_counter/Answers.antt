use Rattle.std.proofs.Common.{◌≡◌, List, ℕ, [], ◌∷◌, ◌++◌, length, take, drop, replicate, ap, sym, ◌∙◌, arith}
use Rattle.std.proofs.lemmas.List.{take_all, length-drop}
use Rattle.std.specs.Int.{w32, w64}
use Rattle.octets.specs.Bytes.{le, xor_bytes}
use Rattle.octets.proofs.Numbers.{le_is}
use Rattle.aead.proofs.GcmStarts.{counted_block}
use Rattle.aead.proofs.gcm.nonce_and_counter.Goals as goal

pub returns-clause-value : goal.returns-clause-value
returns-clause-value c =
    let nonce : List ℕ = c.args.nonce.now in
    let bytes : List ℕ = c.bytes-bytes.result.now in
    let whole : length bytes ≡ 12 = omega arith in
    let first : c.copy_from_slice.new.self ≡ take 8 nonce =
    c.copy_from_slice.ensures.after ∙ ap (take 8) c.bytes-bytes.ensures.value in
    let second : c.copy_from_slice-2.new.self ≡ drop 8 nonce =
    c.copy_from_slice-2.ensures.after ∙ take_all 4 (drop 8 bytes) (omega (arith, length-drop 8 bytes, whole))
    ∙ ap (drop 8) c.bytes-bytes.ensures.value in
    let low_is : c.from-low.result ≡ le (take 8 nonce) = c.from-low.ensures ∙ c.from_le_bytes.ensures
    ∙ sym (le_is w64 c.copy_from_slice.new.self (omega arith) (omega arith)) ∙ ap le first in
    let high_is : c.from-high.result ≡ le (drop 8 nonce) = c.from-high.ensures ∙ c.from_le_bytes-2.ensures
    ∙ sym (le_is w32 c.copy_from_slice-2.new.self (omega arith) (omega arith)) ∙ ap le second in
    c.new.ensures.value ∙ c.xored.ensures
    ∙ ap (λ x. xor_bytes x (replicate 12 0 ++ 0 ∷ 0 ∷ 0 ∷ c.args.counter ∷ [])) c.le_bytes.ensures
    ∙ counted_block nonce c.from-low.result c.from-high.result c.args.counter c.bytes-bytes.ensures.are_bytes low_is high_is
