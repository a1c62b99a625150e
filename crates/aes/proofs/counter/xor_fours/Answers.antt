use Rattle.std.proofs.Common.{◌≡◌, List, ℕ, ◌++◌, ◌∙◌, ap, ap₂, sym, length, rules, arith}
use Rattle.std.proofs.lemmas.List.{length-append}
use Rattle.octets.specs.Bytes.{xor_bytes}
use Rattle.octets.proofs.Xors.{xor_bytes-append}
use Rattle.aes.proofs.counter.xor_fours.Goals as goal

pub returns : goal.returns
returns x =
    let whole = x.split_at_mut-front.ensures in
    let front = x.split_at_mut-first.ensures in
    let back = x.split_at_mut-third.ensures in
    let first = x.split_at_mut-first.result.0.now in
    let second = x.split_at_mut-first.result.1.now in
    let third = x.split_at_mut-third.result.0.now in
    let fourth = x.split_at_mut-third.result.1.now in
    let a = x.args.a.now in
    let b = x.args.b.now in
    let c = x.args.c.now in
    let d = x.args.d.now in
    let la : length a ≡ 64 = search rules in
    let lb : length b ≡ 64 = search rules in
    let lc : length c ≡ 64 = search rules in
    let l1 : length first ≡ 64 = front.front_len in
    let l2 : length second ≡ 64 = omega (arith, whole.front_len, front.back_len) in
    let l3 : length third ≡ 64 = back.front_len in
    let halves : length (first ++ second) ≡ length (a ++ b) =
    length-append first second ∙ omega (arith, la, lb, l1, l2, length-append a b) in
    ap₂ (λ (x y : List ℕ). x ++ y) (ap₂ (λ (x y : List ℕ). x ++ y) x.xor_into.ensures x.xor_into-2.ensures)
    (ap₂ (λ (x y : List ℕ). x ++ y) x.xor_into-3.ensures x.xor_into-4.ensures)
    ∙ ap₂ (λ (x y : List ℕ). x ++ y) (sym (xor_bytes-append first a second b (l1 ∙ sym la)))
    (sym (xor_bytes-append third c fourth d (l3 ∙ sym lc)))
    ∙ sym (xor_bytes-append (first ++ second) (a ++ b) (third ++ fourth) (c ++ d) halves)
    ∙ ap (λ m. xor_bytes m ((a ++ b) ++ (c ++ d)))
    (ap₂ (λ (x y : List ℕ). x ++ y) (sym front.value) (sym back.value) ∙ sym whole.value)
