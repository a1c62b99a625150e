use Rattle.std.proofs.Common.{◌++◌, List, ℕ, [], refl, sym, ap₂, subst, ◌∙◌}
use Rattle.aead.specs.Sealing.{Setting, Opened}
use Rattle.aead.specs.KeyedPasses.{setting_of}
use Rattle.aead.proofs.uses.opened_by_plain_numbers.Goals as goal

-- both pieces of the second pass are masked one after the other under the tag
pub returns : goal.returns
returns c =
    let aad = c.args.aad.now in
    let tag = c.args.tag.now in
    let s : Setting = setting_of c.args.suite c.args.key.now c.args.nonce.now aad in
    let first : List ℕ = c.args.first.now in
    let second : List ℕ = c.args.second.now in
    let bytes = c.in_ok-begin.ensures.bytes in
    let begun = c.in_ok-begin.ensures.answer in
    let one = c.in_ok-check.ensures.answer s tag [] (c.keys.ensures.keys s refl begun.0)
    (c.first_pass-state.ensures s begun.1) in
    let two = c.in_ok-check-2.ensures.answer s tag _ (c.keys-2.ensures.keys s refl begun.0) one.0 in
    let passed = c.in_ok-begin_second_pass.ensures.answer s tag _ (c.keys-3.ensures.keys s refl begun.0) bytes two.0 in
    let three = c.in_ok-open.ensures.answer s tag _ [] (c.keys-4.ensures.keys s refl begun.0) bytes passed.0
    (c.none.ensures _) in
    let four = c.in_ok-open-2.ensures.answer s tag _ first (c.keys-5.ensures.keys s refl begun.0) bytes three.0
    (c.none-2.ensures _) in
    let opens = c.in_ok-end_pass.ensures.answer s tag _ (first ++ second) (c.keys-6.ensures.keys s refl begun.0) bytes four.0 in
    subst (λ (t : List ℕ). Opened s ((first ++ second) ++ tag) t)
    (sym (ap₂ (λ (x : List ℕ) (y : List ℕ). x ++ y) three.1 four.1
    ∙ c.masked_pieces_join.ensures s tag first second)) opens
