use Rattle.std.proofs.Common.{◌≡◌, ◌≢◌, ◌+◌, ◌-◌, ◌*◌, ◌/◌, ◌++◌, List, ℕ, length, ap, ap₂, ◌∙◌, arith, refl, sym}
use Rattle.std.proofs.Common.{◌<◌, take, get_or, subst}
use Rattle.octets.specs.Bytes.{AreBytes}
use Rattle.keywrap.proofs.Bytes.{bytes_take}
use Rattle.std.proofs.Common.{length-append, take_all}
use Rattle.std.proofs.lemmas.List.{take-append-drop}
use Rattle.aes.specs.Cipher.{cipher}
use Rattle.keywrap.specs.Wrapping.{steps}
use Rattle.keywrap.proofs.PaddedTexts.{transformed_one, transformed_more}
use Rattle.keywrap.proofs.padded.decrypt_register.Goals as goal

pub returns-then-blocks-eq8-clause-undone : goal.returns-then-blocks-eq8-clause-undone
returns-then-blocks-eq8-clause-undone c =
    let d : List ℕ = c.bytes.result.now in
    let both : c.halves.result.0 ++ c.copy_from_slice.new.self ≡ d =
    ap₂ (λ x y. x ++ y) c.halves.ensures.first (c.copy_from_slice.ensures.after ∙ c.halves.ensures.second)
    ∙ take-append-drop 8 d in
    transformed_one c.args.key.now (c.halves.result.0 ++ c.copy_from_slice.new.self)
    (ap length both ∙ c.halves.ensures.long)
    ∙ ap (cipher c.args.key.now) (both ∙ c.bytes.ensures.value)
    ∙ (c.decrypt.ensures.value c.args.key.now c.inverse.ensures).taken ∙ c.new-block.ensures.value
    ∙ c.join_halves.ensures ∙ ap (λ r. c.args.first.now ++ r) (take_all 8 c.args.blocks.now (omega arith))

pub returns-else-blocks-eq8-clause-undone : goal.returns-else-blocks-eq8-clause-undone
returns-else-blocks-eq8-clause-undone c =
    let s : List ℕ = c.unwrap_blocks.new.first ++ c.unwrap_blocks.new.blocks in
    let long : length s ≡ 8 + length c.args.blocks.now =
    length-append c.unwrap_blocks.new.first c.unwrap_blocks.new.blocks ∙ omega arith in
    let more : length s ≢ 16 = λ e. absurd (omega (arith, c.if-blocks-eq8.false)) in
    let count : length s - 8 ≡ length c.args.blocks.now = omega arith in
    transformed_more c.args.key.now s more ∙ ap (λ n. steps c.args.key.now (6 * (n / 8)) s) count
    ∙ c.unwrap_blocks.ensures.undone

pub returns-then-blocks-eq8-clause-key : goal.returns-then-blocks-eq8-clause-key
returns-then-blocks-eq8-clause-key c = c.inverse.ensures.is_key

pub returns-then-blocks-eq8-clause-first : goal.returns-then-blocks-eq8-clause-first
returns-then-blocks-eq8-clause-first c =
    let cut : AreBytes 8 (take 8 c.decrypt.result) =
    bytes_take 8 16 c.decrypt.result (omega arith) c.decrypt.ensures.is_block in
    let same : c.halves.result.0 ≡ take 8 c.decrypt.result = c.halves.ensures.first ∙ ap (take 8) c.bytes.ensures.value in
    record {
      length_is = refl;
      bytes = λ i. subst (λ x. get_or x i 0 < 256) (sym same) (cut.bytes i);
    }
