use Rattle.std.proofs.Common.{ℕ, List, ◌++◌, sym, subst, ap, ◌∙◌}
use Rattle.aead.specs.Suites.{Construction, construction_of}
use Rattle.aead.specs.Sealing.{mask_of}
use Rattle.aead.specs.PassStates.{HoldsNumbers}
use Rattle.aead.specs.KeyedPasses.{authenticated_by}
use Rattle.aead.proofs.KeyedPasses.{length_authenticated}
use Rattle.aead.proofs.pieces.keys.MessageKeys.open.Goals as goal

pub returns : goal.returns
returns c = λ s body k fits h knows.
    let mask = mask_of s c.args.tag.now in
    let same = λ (bytes : List ℕ).
    c.order_of_opening.ensures mask bytes ∙ ap (λ (x : Construction). authenticated_by x mask bytes) (sym k.by) in
    let long = h.length_is ∙ length_authenticated (construction_of s.suite) mask body in
    let m = c.mask.ensures.masks s body k long fits (subst (HoldsNumbers c.args.state.now s) (sym (same body)) h) knows in
    (subst (HoldsNumbers c.mask.new.state s) (same (body ++ c.args.piece.now)) m.0, m.1, m.2)
