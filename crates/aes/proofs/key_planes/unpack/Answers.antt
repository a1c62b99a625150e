use Rattle.std.proofs.Common.{◌≡◌, ℕ, ◌<◌, List, [], ◌∷◌, get_or, length, refl, ap, ◌∙◌}
use Rattle.std.specs.Int.{bit_at, to_le_bytes, w128}
use Rattle.aes.proofs.Tested.{eight_cases}
use Rattle.aes.proofs.key_planes.unpack.Goals as goal

pub returns : goal.returns
returns c = λ g held.
    let planes : List (List ℕ) =
    c.lanes_in.result ∷ c.lanes_in-2.result ∷ c.lanes_in-3.result ∷ c.lanes_in-4.result ∷ c.lanes_in-5.result
    ∷ c.lanes_in-6.result ∷ c.lanes_in-7.result ∷ c.lanes_in-8.result ∷ [] in
    let is : (j : ℕ) → j < 8 → get_or planes j [] ≡ to_le_bytes w128 (get_or c.args.words.now j 0) =
    eight_cases (λ j. get_or planes j [] ≡ to_le_bytes w128 (get_or c.args.words.now j 0)) c.lanes_in.ensures
    c.lanes_in-2.ensures c.lanes_in-3.ensures c.lanes_in-4.ensures c.lanes_in-5.ensures c.lanes_in-6.ensures
    c.lanes_in-7.ensures c.lanes_in-8.ensures in
    record {
      count = refl;
      long = λ j hj. ap length (is j hj);
      each = λ j l k hj hl hk. ap (λ (v : List ℕ). bit_at (get_or v l 0) k) (is j hj) ∙ held.each j l k hj hl hk;
    }
