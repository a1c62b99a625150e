use Rattle.std.proofs.Common.{ℕ, ◌+◌, ◌%◌, List, [], ◌∷◌, refl}
use Rattle.aes.proofs.FourBlocks.{picked}
use Rattle.aes.proofs.schedule.rotated_second.Goals as goal

abbrev places : List ℕ
places = 5 ∷ 6 ∷ 7 ∷ 4 ∷ 5 ∷ 6 ∷ 7 ∷ 4 ∷ 5 ∷ 6 ∷ 7 ∷ 4 ∷ 5 ∷ 6 ∷ 7 ∷ 4 ∷ []

pub returns : goal.returns
returns c = λ i l. (picked c.args.words places (λ i. 4 + (i % 4 + 1) % 4) 16 16 c.fits-words.0 refl refl).each i l
