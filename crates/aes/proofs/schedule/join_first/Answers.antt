use Rattle.std.proofs.Common.{ℕ, List, [], ◌∷◌, refl, ap, ◌∙◌, zero-add, get_or, arith}
use Rattle.aes.proofs.Schedules.{from_first, from_second}
use Rattle.aes.proofs.MadeKeys.{joined_first}
use Rattle.aes.proofs.schedule.join_first.Goals as goal

abbrev places : List ℕ
places = 0 ∷ 1 ∷ 2 ∷ 3 ∷ 4 ∷ 5 ∷ 6 ∷ 7 ∷ 16 ∷ 17 ∷ 18 ∷ 19 ∷ 20 ∷ 21 ∷ 22 ∷ 23 ∷ []

pub returns : goal.returns
returns c = λ ws m first rest.
    joined_first _ c.args.two c.args.four ws m first rest
    (λ i l. from_first c.args.two c.args.four places 0 i c.fits-two.0 refl (omega arith) l refl
    ∙ ap (λ (p : ℕ). get_or c.args.two p 0) (zero-add i))
    (λ i l. from_second c.args.two c.args.four places i c.fits-two.0 refl l refl)
