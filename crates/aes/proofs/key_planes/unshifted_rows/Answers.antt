use Rattle.std.proofs.Common.{ℕ, List, [], ◌∷◌, refl}
use Rattle.aes.specs.Code.Lanes.{row_target}
use Rattle.aes.specs.Code.Planes.{spot}
use Rattle.aes.proofs.FourBlocks.{picked}
use Rattle.aes.proofs.key_planes.unshifted_rows.Goals as goal

abbrev places : List ℕ
places = 0 ∷ 4 ∷ 8 ∷ 12 ∷ 13 ∷ 1 ∷ 5 ∷ 9 ∷ 10 ∷ 14 ∷ 2 ∷ 6 ∷ 7 ∷ 11 ∷ 15 ∷ 3 ∷ []

pub returns : goal.returns
returns c = λ i l. (picked c.args.key places (λ l. row_target (spot l)) 16 16 c.fits-key.0 refl refl).each i l
