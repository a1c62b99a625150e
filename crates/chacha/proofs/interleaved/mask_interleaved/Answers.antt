use Rattle.std.proofs.Common.{◌≡◌, ℕ, ◌+◌, ◌-◌, ◌≤◌, List, ◌++◌, ◌∙◌, ap, arith, length, refl, take, drop}
use Rattle.std.proofs.lemmas.List.{append_assoc, length-drop, length-take-le}
use Rattle.octets.specs.Masked.{masked}
use Rattle.chacha.specs.Stream.{key_stream_byte}
use Rattle.chacha.proofs.InterleavedRuns.{front_is, back_is, all_masked}
use Rattle.chacha.proofs.interleaved.mask_interleaved.Goals as goal

pub returns-clause-masked : goal.returns-clause-masked
returns-clause-masked g c =
    let f = key_stream_byte c.args.key.now c.args.nonce.now 0 in
    let p : ℕ = c.args.offset in
    let was : List ℕ = c.args.bytes.now in
    let b : List ℕ = take c.args.begun was in
    let rest : List ℕ = drop c.args.begun was in
    let ran = c.mask_runs-done.ensures in
    let d : ℕ = c.mask_runs-done.result.0 in
    let a : ℕ = d - c.args.begun in
    let mid : List ℕ = c.mask_runs-done.new.bytes in
    let le : a ≤ length rest = omega (arith, ran.done.1, length-drop c.args.begun was) in
    let place : d ≡ length b + a = omega (arith, ran.done.0, length-take-le c.args.begun was c.requires.begun) in
    let last : List ℕ = masked f (p + a) (drop d mid) in
    c.mask_last.ensures.masked
    ∙ ap (λ x. x ++ last) (front_is f p b rest mid a d place le ran.masked)
    ∙ append_assoc b (masked f p (take a rest)) last
    ∙ ap (λ x. b ++ x)
    (all_masked f p a rest (masked f p (take a rest)) (drop d mid) last le refl
    (back_is f p b rest mid a d place le ran.masked) refl)
