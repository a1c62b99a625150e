use Rattle.std.proofs.Common.{◌≡◌, ℕ, ◌+◌, ◌%◌, ◌^◌, List, ◌++◌, ◌∙◌, ap, length, rules, arith}
use Rattle.std.proofs.lemmas.List.{append-nil}
use Rattle.octets.specs.Bytes.{block_at}
use Rattle.aes.specs.Cipher.{cipher}
use Rattle.aes.proofs.StreamSteps.{joined_after}
use Rattle.aes.proofs.counter.Counter.mask_eight.Goals as goal

pub returns-clause-advances : goal.returns-clause-advances
returns-clause-advances g c = c.mask_with.ensures.advances c.args.key.now (λ q h.
    let s = c.args.self.now in
    let next : ℕ → List ℕ = λ q. g.C.Count.up s.first ((s.block_count + q) % 2 ^ 32) in
    let out = c.encrypt_eight.ensures next (λ q. c.sixteen.ensures.each_is_block ((s.block_count + q) % 2 ^ 32))
    c.sixteen.ensures.planes in
    let x = c.encrypt_eight.result in
    let first : length x.0 ≡ 64 = search rules in
    ap (λ l. block_at l q) (c.as_flattened.ensures.value ∙ ap (λ l. x.0 ++ l) (append-nil x.1))
    ∙ joined_after x.0 x.1 (λ q. cipher c.args.key.now (next q)) 4 first out.0 out.1 q (omega (arith, h)))
