use Rattle.std.proofs.Common.{◌≡◌, ℕ, ◌∙◌, List, length, take, drop, bit_xor, sym, ap, ap₂, arith}
use Rattle.octets.specs.Bytes.{le}
use Rattle.gf128.specs.Code.Words.{looked_up}
use Rattle.gf128.proofs.PairedTables.{first_at, second_at}
use Rattle.gf128.proofs.paired.PairTables.part.Goals as goal

pub returns : goal.returns
returns c =
    let s = c.args.self.now in
    let j = c.args.j in
    let at = c.args.at in
    let lh : length s.high ≡ 16 = omega arith in
    let ll : length s.low ≡ 16 = omega arith in
    let high = c.of_bytes-high.ensures in
    let low = c.of_bytes-low.ensures in
    c.look.ensures ∙ ap₂ bit_xor
    (ap le (ap₂ (λ (t u : List ℕ). looked_up t u at.first.bytes) (ap (take 16) high ∙ sym (first_at s.high j (omega (arith, c.requires, lh))))
    (ap (take 16) low ∙ sym (first_at s.low j (omega (arith, c.requires, ll))))))
    (ap le (ap₂ (λ (t u : List ℕ). looked_up t u at.second.bytes) (ap (drop 16) high ∙ sym (second_at s.high j (omega (arith, c.requires, lh))))
    (ap (drop 16) low ∙ sym (second_at s.low j (omega (arith, c.requires, ll))))))
