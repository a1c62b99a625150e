use Rattle.std.proofs.Common.{◌≡◌, ℕ, List, [], ◌∷◌, get_or, length, refl}
use Rattle.std.specs.Int.{bit_at}
use Rattle.aes.proofs.Tested.{eight_cases}
use Rattle.aes.proofs.key_planes.spread.Goals as goal

pub returns : goal.returns
returns c =
    let r : List (List ℕ) =
    c.plane.result ∷ c.plane-2.result ∷ c.plane-3.result ∷ c.plane-4.result ∷ c.plane-5.result ∷ c.plane-6.result ∷
    c.plane-7.result ∷ c.plane-8.result ∷ [] in
    record {
      count = refl;
      long = eight_cases (λ j. length (get_or r j []) ≡ 16) c.plane.ensures.long c.plane-2.ensures.long
          c.plane-3.ensures.long c.plane-4.ensures.long c.plane-5.ensures.long c.plane-6.ensures.long
          c.plane-7.ensures.long c.plane-8.ensures.long;
      each = λ j l k hj hl hk.
          eight_cases (λ j. bit_at (get_or (get_or r j []) l 0) k ≡ bit_at (get_or c.args.key l 0) j)
          (c.plane.ensures.bits l k hl hk) (c.plane-2.ensures.bits l k hl hk) (c.plane-3.ensures.bits l k hl hk)
          (c.plane-4.ensures.bits l k hl hk) (c.plane-5.ensures.bits l k hl hk) (c.plane-6.ensures.bits l k hl hk)
          (c.plane-7.ensures.bits l k hl hk) (c.plane-8.ensures.bits l k hl hk) j hj;
    }
