-- Pieces that are masked one after the other are, joined, the ciphertext of their text.
use Rattle.std.proofs.Common.{◌≡◌, ◌+◌, ◌++◌, length, refl, sym, ap, ap₂, ◌∙◌, arith}
use Rattle.octets.specs.Masked.{masked}
use Rattle.octets.proofs.Masks.{masked-append}
use Rattle.aead.specs.Sealing.{mask_of, tag_of, sealing}
use Rattle.aead.specs.Pieces.{PiecesMakeASealing, MaskedPiecesJoin, MaskedPiecesMakeASealing}

-- the law `MaskedPiecesJoin`
pub under_one_tag : MaskedPiecesJoin
under_one_tag = λ s tag text piece.
    let m = mask_of s tag in
    let from : length text ≡ 0 + length text = omega arith in
    ap (λ n. masked m 0 text ++ masked m n piece) from ∙ sym (masked-append m 0 text piece)

-- the law `MaskedPiecesMakeASealing`
pub joined_under : MaskedPiecesMakeASealing
unfolding sealing
joined_under = λ s tag text c whole. (
  λ piece d next. ap₂ (λ x y. x ++ y) whole next ∙ under_one_tag s tag text piece,
  λ is. ap₂ (λ x y. x ++ y) (whole ∙ ap (λ t. masked (mask_of s t) 0 text) is) is,
)

-- the law `PiecesMakeASealing`
pub joined : PiecesMakeASealing
joined = λ s text c whole. (
  λ piece d next. λ tag. (joined_under s tag text c (whole tag)).0 piece d (next tag),
  (joined_under s (tag_of s text) text c (whole (tag_of s text))).1 refl,
)
