use Rattle.std.proofs.Common.{◌≡◌, ℕ, ◌+◌, ◌%◌, ◌^◌, List, ◌++◌, ◌∙◌, ap, sym, length, rules, arith}
use Rattle.std.proofs.Common.{append_assoc}
use Rattle.std.proofs.lemmas.List.{append-nil}
use Rattle.octets.specs.Bytes.{block_at}
use Rattle.aes.specs.Cipher.{cipher}
use Rattle.aes.proofs.StreamSteps.{joined_fours}
use Rattle.aes.proofs.counter.Counter.mask_part.Goals as goal

pub returns-clause-advances : goal.returns-clause-advances
returns-clause-advances g c = c.mask_with.ensures.advances c.args.key.now (λ q h.
    let s = c.args.self.now in
    let up : List ℕ → ℕ → List ℕ = g.C.Count.up in
    let out = c.encrypt_sixteen.ensures (λ q. up s.first ((s.block_count + q) % 2 ^ 32))
    (λ q. c.sixteen.ensures.each_is_block ((s.block_count + q) % 2 ^ 32))
    (c.add_first_key-start.ensures (λ q. up s.first ((s.block_count + q) % 2 ^ 32)) c.sixteen.ensures.planes) in
    let x = c.encrypt_sixteen.result in
    let first : length c.encrypt_sixteen.result.0 ≡ 64 = search rules in
    let second : length c.encrypt_sixteen.result.1 ≡ 64 = search rules in
    let third : length c.encrypt_sixteen.result.2 ≡ 64 = search rules in
    let joined : c.as_flattened.result.now ≡ (x.0 ++ x.1) ++ (x.2 ++ x.3) =
    c.as_flattened.ensures.value ∙ ap (λ l. x.0 ++ (x.1 ++ (x.2 ++ l))) (append-nil x.3)
    ∙ sym (append_assoc x.0 x.1 (x.2 ++ x.3)) in
    ap (λ l. block_at l q) joined
    ∙ joined_fours x.0 x.1 x.2 x.3 (λ q. cipher c.args.key.now (up s.first ((s.block_count + q) % 2 ^ 32))) first second third
    out.0 out.1 out.2 out.3 q (omega (arith, h)))
