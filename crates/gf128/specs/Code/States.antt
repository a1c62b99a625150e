-- The text that a state in pieces holds. `key` gives the key of its multiplier.
use Rattle.std.specs.Prelude.{ℕ, ◌*◌, ◌/◌, List, length, take}
use Rattle.std.specs.Int.{w128, to_be_bytes}
use Rattle.octets.specs.Polynomial.{Agree}
use Rattle.octets.specs.Code.Pieces.{HoldsPieces}
use Rattle.gf128.specs.Code.Words.{of_word}
use Rattle.gf128.specs.Orders.{Order, Straight, Reversed, Serves, block_sum}
use Rattle.gf128.specs.declared.ghash.GhashOrder.{GhashOrder}
use Rattle.gf128.specs.declared.hash.BlockHash.{BlockHash}
use Rattle.gf128.specs.declared.hash.BlockSum.{BlockSum}
use Rattle.gf128.specs.declared.polyval.PolyvalOrder.{PolyvalOrder}
use Rattle.gf128.specs.declared.table_mul.TableMul.{TableMul}

-- the key of a `TableMul`, as a block
abbrev pub key_of : TableMul → List ℕ
key_of s = to_be_bytes w128 s.word

-- s has absorbed the whole blocks m under the key h
pub record SumHolds {M O : Type 0} (order : Order) (key : M → List ℕ) (s : BlockSum M O) (h : List ℕ)
    (m : List ℕ) : Type 0 where
  pub serves : Serves order h (key s.multiplier)
  pub sum_is : Agree (of_word s.sum) (block_sum order (key s.multiplier) m (length m / 16))

-- s holds the text m under the key h
abbrev pub HashHolds : {M O : Type 0} → Order → (M → List ℕ) → BlockHash M O → List ℕ → List ℕ → Type 0
HashHolds order key s h m = HoldsPieces (SumHolds order key) s.pieces h m

-- the state s of GHASH holds the text m under the key h
abbrev pub Holds : {M : Type 0} → (M → List ℕ) → BlockHash M GhashOrder → List ℕ → List ℕ → Type 0
Holds key s h m = HashHolds Straight key s h m

-- the state s of POLYVAL holds the text m under the key h
abbrev pub PolyvalHolds : {M : Type 0} → (M → List ℕ) → BlockHash M PolyvalOrder → List ℕ → List ℕ → Type 0
PolyvalHolds key s h m = HashHolds Reversed key s h m

-- the word is the sum over the whole blocks of m under the key h, computed with any key that serves h
abbrev pub IsSum : Order → List ℕ → List ℕ → ℕ → Type 0
IsSum order h m sum =
    (k : List ℕ) → Serves order h k → Agree (of_word sum)
    (block_sum order k (take (length m / 16 * 16) m) (length (take (length m / 16 * 16) m) / 16))
