-- The text that a state in pieces holds.
use Rattle.std.specs.Prelude.{◌≡◌, ℕ, ◌+◌, ◌*◌, ◌/◌, ◌%◌, ◌^◌, List, length, take}
use Rattle.octets.specs.Code.Pieces.{HoldsPieces}
use Rattle.poly1305.specs.Poly1305.{prime, block_sum, r_of, s_of}
use Rattle.poly1305.specs.Code.Residue.{pair}
use Rattle.poly1305.specs.declared.poly.PolySum.{PolySum}
use Rattle.poly1305.specs.declared.poly.PolyBy.{PolyBy}
use Rattle.poly1305.specs.declared.word_mul.WordMul.{WordMul}

-- c has absorbed the whole blocks m under the key: its sum is theirs, modulo 2^130 - 5
pub record PolySumHolds {M : Type 0} (factor : M → ℕ) (c : PolySum M) (key : List ℕ) (m : List ℕ) : Type 0
  where
    pub factor_is : factor c.multiplier ≡ r_of key
    pub addend_is : c.addend ≡ s_of key
    pub sum_is : pair c.sum.low c.sum.high % prime ≡ block_sum (r_of key) m (length m / 16) % prime

-- the pair is the sum over the whole blocks of m
abbrev pub IsSum : List ℕ → List ℕ → ℕ → ℕ → Type 0
IsSum key m low high =
    pair low high
    ≡ block_sum (r_of key) (take (length m / 16 * 16) m) (length (take (length m / 16 * 16) m) / 16) % prime

-- p holds the text m under the key, by a multiplier with these factors
abbrev pub HoldsBy : {M : Type 0} → (M → ℕ) → PolyBy M → List ℕ → List ℕ → Type 0
HoldsBy factor p key m = HoldsPieces (PolySumHolds factor) p.pieces key m

-- the factor of the multiplier in use
abbrev pub factor_of : WordMul → ℕ
factor_of s = s.low + s.high * 2 ^ 64

-- p holds the text m under the key, by the multiplier in use
abbrev pub Holds : PolyBy WordMul → List ℕ → List ℕ → Type 0
Holds p key m = HoldsBy factor_of p key m
