use Rattle.std.proofs.Common.{◌≡◌, ℕ, List, [], ◌∷◌, get_or, length, refl, ◌∙◌, arith}
use Rattle.std.specs.Int.{bit_at}
use Rattle.aes.proofs.Tested.{eight_cases}
use Rattle.aes.proofs.planes.transpose.Goals as goal

pub returns : goal.returns
returns c =
    let p = c.args.p in
    let r : List (List ℕ) = c.exchange-9.result.0 ∷ c.exchange-10.result.0 ∷ c.exchange-11.result.0 ∷
    c.exchange-12.result.0 ∷ c.exchange-9.result.1 ∷ c.exchange-10.result.1 ∷ c.exchange-11.result.1 ∷
    c.exchange-12.result.1 ∷ [] in
    record {
      count = refl;
      long = λ j hj. eight_cases (λ j. length (get_or r j []) ≡ 32) c.exchange-9.ensures.long.0
          c.exchange-10.ensures.long.0 c.exchange-11.ensures.long.0 c.exchange-12.ensures.long.0
          c.exchange-9.ensures.long.1 c.exchange-10.ensures.long.1 c.exchange-11.ensures.long.1
          c.exchange-12.ensures.long.1 j hj;
      each = λ j l k hj hl hk.
          eight_cases (λ j. bit_at (get_or (get_or r j []) l 0) k ≡ bit_at (get_or (get_or p k []) l 0) j)
          -- plane 0
          (eight_cases (λ k. bit_at (get_or (c.exchange-9.result.0) l 0) k ≡ bit_at (get_or (get_or p k [])
          l 0) 0)
          (c.exchange-9.ensures.first l 0 hl (omega arith) ∙ c.exchange-5.ensures.first l 0 hl (omega arith)
          ∙ c.exchange.ensures.first l 0 hl (omega arith))
          (c.exchange-9.ensures.first l 1 hl (omega arith) ∙ c.exchange-5.ensures.first l 1 hl (omega arith)
          ∙ c.exchange.ensures.first l 1 hl (omega arith))
          (c.exchange-9.ensures.first l 2 hl (omega arith) ∙ c.exchange-5.ensures.first l 2 hl (omega arith)
          ∙ c.exchange-2.ensures.first l 0 hl (omega arith))
          (c.exchange-9.ensures.first l 3 hl (omega arith) ∙ c.exchange-5.ensures.first l 3 hl (omega arith)
          ∙ c.exchange-2.ensures.first l 1 hl (omega arith))
          (c.exchange-9.ensures.first l 4 hl (omega arith) ∙ c.exchange-7.ensures.first l 0 hl (omega
          arith) ∙ c.exchange-3.ensures.first l 0 hl (omega arith))
          (c.exchange-9.ensures.first l 5 hl (omega arith) ∙ c.exchange-7.ensures.first l 1 hl (omega
          arith) ∙ c.exchange-3.ensures.first l 1 hl (omega arith))
          (c.exchange-9.ensures.first l 6 hl (omega arith) ∙ c.exchange-7.ensures.first l 2 hl (omega
          arith) ∙ c.exchange-4.ensures.first l 0 hl (omega arith))
          (c.exchange-9.ensures.first l 7 hl (omega arith) ∙ c.exchange-7.ensures.first l 3 hl (omega
          arith) ∙ c.exchange-4.ensures.first l 1 hl (omega arith)) k hk)
          -- plane 1
          (eight_cases (λ k. bit_at (get_or (c.exchange-10.result.0) l 0) k ≡ bit_at (get_or (get_or p k
          []) l 0) 1)
          (c.exchange-10.ensures.first l 0 hl (omega arith) ∙ c.exchange-6.ensures.first l 0 hl (omega
          arith) ∙ c.exchange.ensures.second l 0 hl (omega arith))
          (c.exchange-10.ensures.first l 1 hl (omega arith) ∙ c.exchange-6.ensures.first l 1 hl (omega
          arith) ∙ c.exchange.ensures.second l 1 hl (omega arith))
          (c.exchange-10.ensures.first l 2 hl (omega arith) ∙ c.exchange-6.ensures.first l 2 hl (omega
          arith) ∙ c.exchange-2.ensures.second l 0 hl (omega arith))
          (c.exchange-10.ensures.first l 3 hl (omega arith) ∙ c.exchange-6.ensures.first l 3 hl (omega
          arith) ∙ c.exchange-2.ensures.second l 1 hl (omega arith))
          (c.exchange-10.ensures.first l 4 hl (omega arith) ∙ c.exchange-8.ensures.first l 0 hl (omega
          arith) ∙ c.exchange-3.ensures.second l 0 hl (omega arith))
          (c.exchange-10.ensures.first l 5 hl (omega arith) ∙ c.exchange-8.ensures.first l 1 hl (omega
          arith) ∙ c.exchange-3.ensures.second l 1 hl (omega arith))
          (c.exchange-10.ensures.first l 6 hl (omega arith) ∙ c.exchange-8.ensures.first l 2 hl (omega
          arith) ∙ c.exchange-4.ensures.second l 0 hl (omega arith))
          (c.exchange-10.ensures.first l 7 hl (omega arith) ∙ c.exchange-8.ensures.first l 3 hl (omega
          arith) ∙ c.exchange-4.ensures.second l 1 hl (omega arith)) k hk)
          -- plane 2
          (eight_cases (λ k. bit_at (get_or (c.exchange-11.result.0) l 0) k ≡ bit_at (get_or (get_or p k
          []) l 0) 2)
          (c.exchange-11.ensures.first l 0 hl (omega arith) ∙ c.exchange-5.ensures.second l 0 hl (omega
          arith) ∙ c.exchange.ensures.first l 2 hl (omega arith))
          (c.exchange-11.ensures.first l 1 hl (omega arith) ∙ c.exchange-5.ensures.second l 1 hl (omega
          arith) ∙ c.exchange.ensures.first l 3 hl (omega arith))
          (c.exchange-11.ensures.first l 2 hl (omega arith) ∙ c.exchange-5.ensures.second l 2 hl (omega
          arith) ∙ c.exchange-2.ensures.first l 2 hl (omega arith))
          (c.exchange-11.ensures.first l 3 hl (omega arith) ∙ c.exchange-5.ensures.second l 3 hl (omega
          arith) ∙ c.exchange-2.ensures.first l 3 hl (omega arith))
          (c.exchange-11.ensures.first l 4 hl (omega arith) ∙ c.exchange-7.ensures.second l 0 hl (omega
          arith) ∙ c.exchange-3.ensures.first l 2 hl (omega arith))
          (c.exchange-11.ensures.first l 5 hl (omega arith) ∙ c.exchange-7.ensures.second l 1 hl (omega
          arith) ∙ c.exchange-3.ensures.first l 3 hl (omega arith))
          (c.exchange-11.ensures.first l 6 hl (omega arith) ∙ c.exchange-7.ensures.second l 2 hl (omega
          arith) ∙ c.exchange-4.ensures.first l 2 hl (omega arith))
          (c.exchange-11.ensures.first l 7 hl (omega arith) ∙ c.exchange-7.ensures.second l 3 hl (omega
          arith) ∙ c.exchange-4.ensures.first l 3 hl (omega arith)) k hk)
          -- plane 3
          (eight_cases (λ k. bit_at (get_or (c.exchange-12.result.0) l 0) k ≡ bit_at (get_or (get_or p k
          []) l 0) 3)
          (c.exchange-12.ensures.first l 0 hl (omega arith) ∙ c.exchange-6.ensures.second l 0 hl (omega
          arith) ∙ c.exchange.ensures.second l 2 hl (omega arith))
          (c.exchange-12.ensures.first l 1 hl (omega arith) ∙ c.exchange-6.ensures.second l 1 hl (omega
          arith) ∙ c.exchange.ensures.second l 3 hl (omega arith))
          (c.exchange-12.ensures.first l 2 hl (omega arith) ∙ c.exchange-6.ensures.second l 2 hl (omega
          arith) ∙ c.exchange-2.ensures.second l 2 hl (omega arith))
          (c.exchange-12.ensures.first l 3 hl (omega arith) ∙ c.exchange-6.ensures.second l 3 hl (omega
          arith) ∙ c.exchange-2.ensures.second l 3 hl (omega arith))
          (c.exchange-12.ensures.first l 4 hl (omega arith) ∙ c.exchange-8.ensures.second l 0 hl (omega
          arith) ∙ c.exchange-3.ensures.second l 2 hl (omega arith))
          (c.exchange-12.ensures.first l 5 hl (omega arith) ∙ c.exchange-8.ensures.second l 1 hl (omega
          arith) ∙ c.exchange-3.ensures.second l 3 hl (omega arith))
          (c.exchange-12.ensures.first l 6 hl (omega arith) ∙ c.exchange-8.ensures.second l 2 hl (omega
          arith) ∙ c.exchange-4.ensures.second l 2 hl (omega arith))
          (c.exchange-12.ensures.first l 7 hl (omega arith) ∙ c.exchange-8.ensures.second l 3 hl (omega
          arith) ∙ c.exchange-4.ensures.second l 3 hl (omega arith)) k hk)
          -- plane 4
          (eight_cases (λ k. bit_at (get_or (c.exchange-9.result.1) l 0) k ≡ bit_at (get_or (get_or p k [])
          l 0) 4)
          (c.exchange-9.ensures.second l 0 hl (omega arith) ∙ c.exchange-5.ensures.first l 4 hl (omega
          arith) ∙ c.exchange.ensures.first l 4 hl (omega arith))
          (c.exchange-9.ensures.second l 1 hl (omega arith) ∙ c.exchange-5.ensures.first l 5 hl (omega
          arith) ∙ c.exchange.ensures.first l 5 hl (omega arith))
          (c.exchange-9.ensures.second l 2 hl (omega arith) ∙ c.exchange-5.ensures.first l 6 hl (omega
          arith) ∙ c.exchange-2.ensures.first l 4 hl (omega arith))
          (c.exchange-9.ensures.second l 3 hl (omega arith) ∙ c.exchange-5.ensures.first l 7 hl (omega
          arith) ∙ c.exchange-2.ensures.first l 5 hl (omega arith))
          (c.exchange-9.ensures.second l 4 hl (omega arith) ∙ c.exchange-7.ensures.first l 4 hl (omega
          arith) ∙ c.exchange-3.ensures.first l 4 hl (omega arith))
          (c.exchange-9.ensures.second l 5 hl (omega arith) ∙ c.exchange-7.ensures.first l 5 hl (omega
          arith) ∙ c.exchange-3.ensures.first l 5 hl (omega arith))
          (c.exchange-9.ensures.second l 6 hl (omega arith) ∙ c.exchange-7.ensures.first l 6 hl (omega
          arith) ∙ c.exchange-4.ensures.first l 4 hl (omega arith))
          (c.exchange-9.ensures.second l 7 hl (omega arith) ∙ c.exchange-7.ensures.first l 7 hl (omega
          arith) ∙ c.exchange-4.ensures.first l 5 hl (omega arith)) k hk)
          -- plane 5
          (eight_cases (λ k. bit_at (get_or (c.exchange-10.result.1) l 0) k ≡ bit_at (get_or (get_or p k
          []) l 0) 5)
          (c.exchange-10.ensures.second l 0 hl (omega arith) ∙ c.exchange-6.ensures.first l 4 hl (omega
          arith) ∙ c.exchange.ensures.second l 4 hl (omega arith))
          (c.exchange-10.ensures.second l 1 hl (omega arith) ∙ c.exchange-6.ensures.first l 5 hl (omega
          arith) ∙ c.exchange.ensures.second l 5 hl (omega arith))
          (c.exchange-10.ensures.second l 2 hl (omega arith) ∙ c.exchange-6.ensures.first l 6 hl (omega
          arith) ∙ c.exchange-2.ensures.second l 4 hl (omega arith))
          (c.exchange-10.ensures.second l 3 hl (omega arith) ∙ c.exchange-6.ensures.first l 7 hl (omega
          arith) ∙ c.exchange-2.ensures.second l 5 hl (omega arith))
          (c.exchange-10.ensures.second l 4 hl (omega arith) ∙ c.exchange-8.ensures.first l 4 hl (omega
          arith) ∙ c.exchange-3.ensures.second l 4 hl (omega arith))
          (c.exchange-10.ensures.second l 5 hl (omega arith) ∙ c.exchange-8.ensures.first l 5 hl (omega
          arith) ∙ c.exchange-3.ensures.second l 5 hl (omega arith))
          (c.exchange-10.ensures.second l 6 hl (omega arith) ∙ c.exchange-8.ensures.first l 6 hl (omega
          arith) ∙ c.exchange-4.ensures.second l 4 hl (omega arith))
          (c.exchange-10.ensures.second l 7 hl (omega arith) ∙ c.exchange-8.ensures.first l 7 hl (omega
          arith) ∙ c.exchange-4.ensures.second l 5 hl (omega arith)) k hk)
          -- plane 6
          (eight_cases (λ k. bit_at (get_or (c.exchange-11.result.1) l 0) k ≡ bit_at (get_or (get_or p k
          []) l 0) 6)
          (c.exchange-11.ensures.second l 0 hl (omega arith) ∙ c.exchange-5.ensures.second l 4 hl (omega
          arith) ∙ c.exchange.ensures.first l 6 hl (omega arith))
          (c.exchange-11.ensures.second l 1 hl (omega arith) ∙ c.exchange-5.ensures.second l 5 hl (omega
          arith) ∙ c.exchange.ensures.first l 7 hl (omega arith))
          (c.exchange-11.ensures.second l 2 hl (omega arith) ∙ c.exchange-5.ensures.second l 6 hl (omega
          arith) ∙ c.exchange-2.ensures.first l 6 hl (omega arith))
          (c.exchange-11.ensures.second l 3 hl (omega arith) ∙ c.exchange-5.ensures.second l 7 hl (omega
          arith) ∙ c.exchange-2.ensures.first l 7 hl (omega arith))
          (c.exchange-11.ensures.second l 4 hl (omega arith) ∙ c.exchange-7.ensures.second l 4 hl (omega
          arith) ∙ c.exchange-3.ensures.first l 6 hl (omega arith))
          (c.exchange-11.ensures.second l 5 hl (omega arith) ∙ c.exchange-7.ensures.second l 5 hl (omega
          arith) ∙ c.exchange-3.ensures.first l 7 hl (omega arith))
          (c.exchange-11.ensures.second l 6 hl (omega arith) ∙ c.exchange-7.ensures.second l 6 hl (omega
          arith) ∙ c.exchange-4.ensures.first l 6 hl (omega arith))
          (c.exchange-11.ensures.second l 7 hl (omega arith) ∙ c.exchange-7.ensures.second l 7 hl (omega
          arith) ∙ c.exchange-4.ensures.first l 7 hl (omega arith)) k hk)
          -- plane 7
          (eight_cases (λ k. bit_at (get_or (c.exchange-12.result.1) l 0) k ≡ bit_at (get_or (get_or p k
          []) l 0) 7)
          (c.exchange-12.ensures.second l 0 hl (omega arith) ∙ c.exchange-6.ensures.second l 4 hl (omega
          arith) ∙ c.exchange.ensures.second l 6 hl (omega arith))
          (c.exchange-12.ensures.second l 1 hl (omega arith) ∙ c.exchange-6.ensures.second l 5 hl (omega
          arith) ∙ c.exchange.ensures.second l 7 hl (omega arith))
          (c.exchange-12.ensures.second l 2 hl (omega arith) ∙ c.exchange-6.ensures.second l 6 hl (omega
          arith) ∙ c.exchange-2.ensures.second l 6 hl (omega arith))
          (c.exchange-12.ensures.second l 3 hl (omega arith) ∙ c.exchange-6.ensures.second l 7 hl (omega
          arith) ∙ c.exchange-2.ensures.second l 7 hl (omega arith))
          (c.exchange-12.ensures.second l 4 hl (omega arith) ∙ c.exchange-8.ensures.second l 4 hl (omega
          arith) ∙ c.exchange-3.ensures.second l 6 hl (omega arith))
          (c.exchange-12.ensures.second l 5 hl (omega arith) ∙ c.exchange-8.ensures.second l 5 hl (omega
          arith) ∙ c.exchange-3.ensures.second l 7 hl (omega arith))
          (c.exchange-12.ensures.second l 6 hl (omega arith) ∙ c.exchange-8.ensures.second l 6 hl (omega
          arith) ∙ c.exchange-4.ensures.second l 6 hl (omega arith))
          (c.exchange-12.ensures.second l 7 hl (omega arith) ∙ c.exchange-8.ensures.second l 7 hl (omega
          arith) ∙ c.exchange-4.ensures.second l 7 hl (omega arith)) k hk) j hj;
    }
