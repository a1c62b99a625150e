use Rattle.std.proofs.Common.{◌≡◌, ℕ, List, [], ◌∷◌, get_or, ap, ◌∙◌}
use Rattle.std.specs.Int.{bit_at, to_le_bytes, w128}
use Rattle.aes.proofs.Tested.{eight_cases}
use Rattle.aes.proofs.key_planes.pack.Goals as goal

pub returns : goal.returns
returns c = λ g held.
    let words : List ℕ =
    c.number_of.result ∷ c.number_of-2.result ∷ c.number_of-3.result ∷ c.number_of-4.result ∷ c.number_of-5.result
    ∷ c.number_of-6.result ∷ c.number_of-7.result ∷ c.number_of-8.result ∷ [] in
    record {
      each = λ j l k hj hl hk.
          ap (λ (v : List ℕ). bit_at (get_or v l 0) k)
          (eight_cases (λ j. to_le_bytes w128 (get_or words j 0) ≡ get_or c.args.p j []) c.number_of.ensures
          c.number_of-2.ensures c.number_of-3.ensures c.number_of-4.ensures c.number_of-5.ensures c.number_of-6.ensures
          c.number_of-7.ensures c.number_of-8.ensures j hj)
          ∙ held.each j l k hj hl hk;
    }
