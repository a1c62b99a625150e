use Rattle.std.proofs.Common.{ℕ, List, [], ◌∷◌, refl, arith}
use Rattle.aes.proofs.Schedules.{from_first, from_second}
use Rattle.aes.proofs.MadeKeys.{joined_last}
use Rattle.aes.proofs.schedule.join_last.Goals as goal

abbrev places : List ℕ
places = 8 ∷ 9 ∷ 10 ∷ 11 ∷ 12 ∷ 13 ∷ 14 ∷ 15 ∷ 16 ∷ 17 ∷ 18 ∷ 19 ∷ 20 ∷ 21 ∷ 22 ∷ 23 ∷ []

pub returns : goal.returns
returns c = λ ws m first rest.
    joined_last _ c.args.four c.args.two ws m first rest
    (λ i l. from_first c.args.four c.args.two places 8 i c.fits-four.0 refl (omega arith) l refl)
    (λ i l. from_second c.args.four c.args.two places i c.fits-four.0 refl l refl)
