use Rattle.std.proofs.Common.{◌≡◌, ℕ, List, ◌<◌, ◌≤◌, ◌+◌, ◌*◌, ◌^◌, ◌∙◌, ap, length, take, drop, get_or, inl, inr, arith}
use Rattle.std.proofs.lemmas.Bool.{cases_lt}
use Rattle.std.proofs.lemmas.List.{get_or-take, get_or_past, length-take-le}
use Rattle.std.proofs.Math.Seq.{take-add}
use Rattle.octets.specs.Bytes.{le}
use Rattle.octets.proofs.Numbers.{le-append, le_small}
use Rattle.octets.proofs.Orders.{little_number_is}
use Rattle.chacha.proofs.state.two_words.Goals as goal

-- the number that eight bytes spell is that of the first four, and that of the other four above it
halves : (bs : List ℕ) → 8 ≤ length bs
    → le (take 8 bs) ≡ le (take 4 bs) + le (take 4 (drop 4 bs)) * 4294967296
halves bs long =
    let four : length (take 4 bs) ≡ 4 = length-take-le 4 bs (omega (arith, long)) in
    ap le (take-add 4 4 bs) ∙ le-append (take 4 bs) (take 4 (drop 4 bs))
    ∙ ap (λ (n : ℕ). le (take 4 bs) + 256 ^ n * le (take 4 (drop 4 bs))) four ∙ omega arith

-- four bytes spell a number below 2^32
below : (bs : List ℕ) → 8 ≤ length bs → ((i : ℕ) → get_or bs i 0 < 256) → le (take 4 bs) < 4294967296
below bs long small =
    let four : length (take 4 bs) ≡ 4 = length-take-le 4 bs (omega (arith, long)) in
    let each : (i : ℕ) → get_or (take 4 bs) i 0 < 256 = λ i. elim (cases_lt i 4) [
      | inl l ↦ let at : get_or (take 4 bs) i 0 ≡ get_or bs i 0 = get_or-take 4 bs i 0 l in rw at (small i)
      | inr l ↦ let past : get_or (take 4 bs) i 0 ≡ 0 = get_or_past (take 4 bs) i 0 (omega (arith, four, l)) in omega (arith, past)
    ] in
    let bound : le (take 4 bs) < 256 ^ length (take 4 bs) = le_small (take 4 bs) each in
    let power : 256 ^ length (take 4 bs) ≡ 4294967296 = ap (λ (n : ℕ). 256 ^ n) four in
    omega (arith, bound, power)

pub returns-clause-first : goal.returns-clause-first
returns-clause-first c =
    let bs = c.args.bytes.now in
    let both = c.read_u64-both.ensures ∙ little_number_is 8 bs c.requires ∙ halves bs c.requires in
    let low = below bs c.requires (λ i. (c.type_inv.bytes i).fits) in
    omega (arith, both, low)

pub returns-clause-second : goal.returns-clause-second
returns-clause-second c =
    let bs = c.args.bytes.now in
    let both = c.read_u64-both.ensures ∙ little_number_is 8 bs c.requires ∙ halves bs c.requires in
    let low = below bs c.requires (λ i. (c.type_inv.bytes i).fits) in
    omega (arith, both, low)
