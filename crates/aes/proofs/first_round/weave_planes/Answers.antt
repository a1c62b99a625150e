use Rattle.std.proofs.Common.{◌≡◌, ℕ, List, [], ◌∷◌, ◌+◌, ◌*◌, ◌/◌, ◌%◌, get_or, ap, ◌∙◌}
use Rattle.std.specs.Int.{bit_at}
use Rattle.aes.proofs.FirstRounds.{row_plane, set_eight}
use Rattle.aes.proofs.Tested.{eight_cases}
use Rattle.aes.proofs.first_round.weave_planes.Goals as goal

pub returns : goal.returns
returns c = λ h held. record {
  each = λ j p r k hj hp hr hk.
      let all : List (List (List ℕ)) =
      c.weave.new.lists ∷ c.weave-2.new.lists ∷ c.weave-3.new.lists ∷ c.weave-4.new.lists ∷ c.weave-5.new.lists
      ∷ c.weave-6.new.lists ∷ c.weave-7.new.lists ∷ c.weave-8.new.lists ∷ [] in
      let set = set_eight c.args.columns.now c.weave.new.lists c.weave-2.new.lists c.weave-3.new.lists c.weave-4.new.lists
      c.weave-5.new.lists c.weave-6.new.lists c.weave-7.new.lists c.weave-8.new.lists c.told-columns in
      let row = λ (j : ℕ). ap (λ (v : List ℕ). get_or v p 0) (row_plane c.args.column j r hr) in
      ap (λ (v : List (List (List ℕ))). bit_at (get_or (get_or (get_or v j []) (p / 4) []) (4 * (p % 4) + r) 0) k) set
      ∙ ap (λ (x : ℕ). bit_at x k)
      (eight_cases (λ j. get_or (get_or (get_or all j []) (p / 4) []) (4 * (p % 4) + r) 0 ≡ get_or (get_or (get_or c.args.column r []) j []) p 0)
      (c.weave.ensures p r hp hr ∙ row 0) (c.weave-2.ensures p r hp hr ∙ row 1) (c.weave-3.ensures p r hp hr ∙ row 2)
      (c.weave-4.ensures p r hp hr ∙ row 3) (c.weave-5.ensures p r hp hr ∙ row 4) (c.weave-6.ensures p r hp hr ∙ row 5)
      (c.weave-7.ensures p r hp hr ∙ row 6) (c.weave-8.ensures p r hp hr ∙ row 7) j hj)
      ∙ (held r hr).each j p k hj hp hk;
}
