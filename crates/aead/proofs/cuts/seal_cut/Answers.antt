use Rattle.std.proofs.Common.{ℕ, List, length, arith, ap, sym, subst, ◌∙◌, [], ◌∷◌, ◌++◌, map}
use Rattle.aead.specs.Ciphers.{setting}
use Rattle.aead.specs.AnyCiphers.{keyed_of}
use Rattle.aead.specs.Sealing.{Setting, Opened}
use Rattle.aead.specs.Code.CutBytes.{AreCut}
use Rattle.aead.proofs.CutPieces.{cut_sealing}
use Rattle.aead.proofs.cuts.seal_cut.Goals as goal

pub split_at-requires : goal.split_at-requires
split_at-requires g c =
    let s : Setting = setting (keyed_of c.args.cipher.now) c.args.nonce.now c.args.aad.now in
    omega (
      arith,
      (c.sealing_has_one_text.ensures s _ c.args.text.now c.in_ok-sealed.ensures).0,
      ap length c.deref.ensures.value,
    )

pub returns : goal.returns
returns g c =
    let s : Setting = setting (keyed_of c.args.cipher.now) c.args.nonce.now c.args.aad.now in
    let text : List ℕ = c.args.text.now in
    let sealed : List ℕ = c.deref.result.now in
    let pieces : List (List ℕ) = map (λ v. v.items) c.cut_into.new.pieces.items in
    let opened : Opened s sealed text =
    subst (λ (x : List ℕ). Opened s x text) (sym c.deref.ensures.value) c.in_ok-sealed.ensures in
    cut_sealing s text c.args.cuts.now sealed pieces _ opened
    (c.sealing_has_one_text.ensures s sealed text opened).0
    (subst (λ (x : List ℕ). AreCut x c.args.cuts.now pieces) c.split_at.ensures.front c.in_ok-cut_into.ensures)
    (c.in_ok-add.ensures ∙ ap (λ x. pieces ++ x ∷ []) c.split_at.ensures.back)
