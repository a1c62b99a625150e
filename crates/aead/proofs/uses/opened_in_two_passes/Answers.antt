use Rattle.std.proofs.Common.{◌≡◌, ◌++◌, ◌∙◌, ℕ, List, Result, Ok, Err, MatchResult, OnOk, sym, ap₂, subst}
use Rattle.octets.specs.declared.fault.Fault.{Fault}
use Rattle.octets.specs.Masked.{masked}
use Rattle.aead.specs.Sealing.{Setting, Opened, mask_of}
use Rattle.aead.specs.Ciphers.{setting}
use Rattle.aead.specs.AnyCiphers.{keyed_of}
use Rattle.aead.proofs.uses.opened_in_two_passes.Goals as goal

-- if a result is Ok, what holds of the value holds
if_ok : (r : Result (Unit {0}) Fault) (P : Type 0) (Q : Fault → Type 0) → MatchResult r (λ _. P) Q → OnOk r P
if_ok (Ok v) P Q m = m
if_ok (Err e) P Q m = tt

-- both passes take in the same pieces one after the other, and the text is that of both
pub returns : goal.returns
returns c =
    let s : Setting = setting (keyed_of c.args.cipher.now) c.args.nonce.now c.args.aad.now in
    let tag : List ℕ = c.args.tag.now in
    let body : List ℕ = c.args.first.now ++ c.args.second.now in
    let one = c.in_ok-update.ensures.answer s tag _ c.in_ok-opener.ensures in
    let two = c.in_ok-update-2.ensures.answer s tag _ one.0 in
    let passed = c.in_ok-writer.ensures.answer s tag _ two.0 in
    let three = c.in_ok-update-3.ensures.answer s tag _ _ passed.0 in
    let four = c.in_ok-update-4.ensures.answer s tag _ _ three.0 in
    let text : masked (mask_of s tag) 0 body ≡ c.update-3.new.piece ++ c.update-4.new.piece =
    sym (ap₂ (λ x y. x ++ y) three.1 four.1 ∙ c.masked_pieces_join.ensures s tag c.args.first.now c.args.second.now) in
    subst (λ t. OnOk c.finish-2.result (Opened s (body ++ tag) t)) text
    (if_ok c.finish-2.result _ _ (c.finish-2.ensures.answer s tag _ body four.0))
