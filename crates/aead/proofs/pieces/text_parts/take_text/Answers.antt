use Rattle.std.proofs.Common.{◌≡◌, ℕ, ◌+◌, ◌-◌, ◌++◌, ◌∙◌, List, take, drop, sym, ap, subst, arith}
use Rattle.std.proofs.Math.Seq.{take-add}
use Rattle.std.proofs.lemmas.List.{take_all}
use Rattle.aead.specs.Code.Masks.{TakesText}
use Rattle.aead.proofs.Parts.{no_text, more_text}
use Rattle.aead.proofs.pieces.text_parts.take_text.Goals as goal

pub loop-done-init : goal.loop-done-init
loop-done-init g c = (
  omega arith,
  omega arith,
  no_text g.S.MaskStream.made g.H.TagHash.held c.args.mask.now c.args.authenticator.now,
)

pub loop-done-preserved : goal.loop-done-preserved
loop-done-preserved g c =
    let p : List ℕ = c.args.piece.now in
    let d : ℕ = c.loop-done.done in
    let k : ℕ = c.min-next.result in
    let i = c.loop-done.invariant in
    let count : d + k - d ≡ k = omega arith in
    let whole : take d p ++ take (d + k - d) (drop d p) ≡ take (d + k) p =
    ap (λ n. take d p ++ take n (drop d p)) count ∙ sym (take-add d k p) in (
      omega (arith, c.min-next.ensures, c.loop-done-test.true),
      omega (arith, c.take_part.ensures.length, i.1),
      more_text g.S.MaskStream.made g.H.TagHash.held _ _ _ _ _ _ (take d p) (take (d + k - d) (drop d p))
          (take (d + k) p) i.2 c.take_part.ensures.takes whole,
    )

pub returns-clause-takes : goal.returns-clause-takes
returns-clause-takes g c =
    let p : List ℕ = c.args.piece.now in
    let d : ℕ = c.loop-done.done in
    let all : take d p ≡ p = take_all d p (omega (arith, c.loop-done-test.false)) in
    subst (λ x. TakesText g.S.MaskStream.made g.H.TagHash.held c.args.mask.now c.loop-done.mask c.args.authenticator.now
    c.loop-done.authenticator x) all c.loop-done.invariant.2
