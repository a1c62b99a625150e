use Rattle.std.proofs.Common.{◌≡◌, ℕ, ◌+◌, ◌/◌, ◌%◌, ◌^◌, List, ◌++◌, ◌∙◌, ap, sym, length, refl, rules, arith}
use Rattle.std.proofs.lemmas.List.{take_all, length-append}
use Rattle.octets.specs.Bytes.{xor_bytes}
use Rattle.aes.specs.Cipher.{cipher}
use Rattle.aes.proofs.StreamSteps.{began, joined_fours}
use Rattle.aes.proofs.counter.Counter.mask_states.Goals as goal

pub returns-clause-advances : goal.returns-clause-advances
returns-clause-advances g c =
    let s = c.args.self.now in
    let xs = c.args.bytes.now in
    let up : List ℕ → ℕ → List ℕ = g.C.Count.up in
    let out = c.encrypt_sixteen.ensures (λ q. up s.first ((s.block_count + q) % 2 ^ 32))
    (λ q. c.requires.are_blocks ((s.block_count + q) % 2 ^ 32)) c.requires.states in
    let x = c.encrypt_sixteen.result in
    let first : length c.encrypt_sixteen.result.0 ≡ 64 = search rules in
    let second : length c.encrypt_sixteen.result.1 ≡ 64 = search rules in
    let third : length c.encrypt_sixteen.result.2 ≡ 64 = search rules in
    let fourth : length c.encrypt_sixteen.result.3 ≡ 64 = search rules in
    let masks : List ℕ = (x.0 ++ x.1) ++ (x.2 ++ x.3) in
    let size : length masks ≡ 256 =
    length-append (x.0 ++ x.1) (x.2 ++ x.3)
    ∙ omega (arith, first, second, third, fourth, length-append x.0 x.1, length-append x.2 x.3) in
    let long : length xs ≡ 256 = c.requires.whole in
    let counted : (s.block_count + 16) % 2 ^ 32 ≡ (s.block_count + (length xs + 15) / 16) % 2 ^ 32 = omega (arith, long) in
    began up c.args.key.now s _ masks xs c.xor_fours.new.bytes g.met.C.Count.wraps refl counted (omega (arith, long, c.requires.none))
    c.requires.none (omega (arith, long, size)) (omega (arith, size)) (λ short. absurd (omega (arith, short, long, size)))
    (λ q h. joined_fours x.0 x.1 x.2 x.3 (λ q. cipher c.args.key.now (up s.first ((s.block_count + q) % 2 ^ 32)))
    first second third out.0 out.1 out.2 out.3 q (omega (arith, h, size)))
    (c.xor_fours.ensures ∙ ap (xor_bytes xs) (sym (take_all (length xs) masks (omega (arith, long, size)))))
