use Rattle.std.proofs.Common.{ℕ, ◌+◌, ◌%◌, List, [], ◌∷◌, refl}
use Rattle.aes.proofs.FourBlocks.{picked}
use Rattle.aes.proofs.schedule.rotated_last.Goals as goal

abbrev places : List ℕ
places = 13 ∷ 14 ∷ 15 ∷ 12 ∷ 13 ∷ 14 ∷ 15 ∷ 12 ∷ 13 ∷ 14 ∷ 15 ∷ 12 ∷ 13 ∷ 14 ∷ 15 ∷ 12 ∷ []

pub returns : goal.returns
returns c = λ i l. (picked c.args.words places (λ i. 12 + (i % 4 + 1) % 4) 16 16 c.fits-words.0 refl refl).each i l
