use Rattle.std.proofs.Common.{◌≡◌, ℕ, refl, ◌+◌, ◌*◌, ◌/◌, ◌<◌, ◌∙◌, List, [], length, get_or, drop, ap, arith}
use Rattle.std.proofs.lemmas.List.{get_or-take, get_or-drop}
use Rattle.std.specs.Int.{w128, to_be_bytes}
use Rattle.octets.proofs.Blocks.{chunk_at}
use Rattle.octets.specs.Polynomial.{Agree}
use Rattle.gf128.specs.Code.Words.{of_word, AreFours}
use Rattle.gf128.specs.Orders.{Order, sum_after}
use Rattle.gf128.proofs.SumsAfter.{joined}
use Rattle.gf128.proofs.wide_mul.WideMulMultiply.times_all.Goals as goal

pub returns : goal.returns
returns g c =
    let o : Order = g.O.HashOrder.order in
    let k : List ℕ = to_be_bytes w128 c.args.self.now.first.word in
    let blocks : List (List ℕ) = c.args.blocks.now in
    let fours : List (List (List ℕ)) = c.as_chunks.result.0.now in
    let rest : List (List ℕ) = c.as_chunks.result.1.now in
    let n : ℕ = length fours in
    let whole : n ≡ length blocks / 4 = c.as_chunks.ensures.front_len in
    let in_fours : AreFours fours blocks = λ i j l h.
    ap (λ (y : List (List (List ℕ))). get_or (get_or y i []) j []) c.as_chunks.ensures.front
    ∙ ap (λ (y : List (List ℕ)). get_or y j []) (chunk_at 4 (length blocks / 4) i blocks (omega (arith, l, whole)))
    ∙ get_or-take 4 (drop (i * 4) blocks) j [] h ∙ get_or-drop (i * 4) blocks j [] in
    let before : Agree (of_word c.times_runs-taken.result) (sum_after o k (of_word c.args.sum) blocks (n * 4)) =
    c.times_runs-taken.ensures blocks in_fours in
    let own : (j : ℕ) → j < length rest → get_or rest j [] ≡ get_or blocks (n * 4 + j) [] = λ j l.
    ap (λ (y : List (List ℕ)). get_or y j []) c.as_chunks.ensures.back ∙ get_or-drop (length blocks / 4 * 4) blocks j []
    ∙ rw whole refl in
    let all : n * 4 + length rest ≡ length blocks = omega (arith, whole, c.as_chunks.ensures.back_len) in
    let after : Agree (of_word c.times_few.result) (sum_after o k (of_word c.args.sum) blocks (n * 4 + length rest)) = λ i.
    c.times_few.ensures c.args.self.now.first.word c.args.self.now.first.filled i ∙ ap (λ f. f i)
    (joined o k (of_word c.args.sum) (of_word c.times_runs-taken.result) blocks rest (n * 4) (length rest) before own) in
    rw all at after
