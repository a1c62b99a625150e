-- Tables of sixteen bytes that hold the multiples of a word: what the look-ups by one word give, moved to their places, is the
-- product.
use Rattle.std.proofs.Common.{◌≡◌, ℕ, zero, suc, ◌+◌, ◌*◌, ◌/◌, ◌%◌, ◌^◌, ◌<◌, Bool, false, List, [], ◌∷◌}
use Rattle.std.proofs.Common.{◌++◌, get_or, replicate, bit_xor, refl, sym, subst, ap, ap₂, ◌∙◌, arith, inl, inr}
use mathlib.Core.Path.{fun_ext}
use Rattle.std.specs.Int.{w128, to_be_bytes}
use Rattle.std.proofs.lemmas.Nat.{xor_of_8}
use Rattle.std.proofs.lemmas.Bool.{cases_lt}
use Rattle.std.proofs.lemmas.List.{get_or-replicate, get_or_past}
use Rattle.octets.specs.Bytes.{IsBlock, le}
use Rattle.octets.specs.Polynomial.{coefficient, sum, product, residue}
use Rattle.octets.proofs.Sequence.{sum_of, plus_false}
use Rattle.octets.proofs.Numbers.{le_byte}
use Rattle.octets.proofs.Ring.{coefficient_sum}
use Rattle.octets.proofs.Horner.{residue_same}
use Rattle.gf128.specs.Ghash.{ghash_modulus}
use Rattle.gf128.specs.Code.Words.{of_bits, of_word, products, folded_wide, looked_up, table_at, entry}
use Rattle.gf128.specs.Code.Words.{placed, AreBytes, AreMultiples, AreTables, IsReduced, IsWordProduct}
use Rattle.gf128.proofs.BitParts.{own_residue, residue_parts, x_same, reduced_same, word_product_is}
use Rattle.gf128.proofs.Folds.{wide_folded_at}
use Rattle.gf128.proofs.WordLemmas.{multiple_of_zero}
use Rattle.gf128.proofs.FourProducts.{shortened, products_none, products_joined, last_product}
use Rattle.gf128.proofs.LaneWords.{le_block}
use Rattle.gf128.proofs.Rows.{row, row_block, le_row_xor, horner_list, horner_list_at}
use Rattle.gf128.proofs.Rows.{rows_and_columns, byte_of_number}
use Rattle.gf128.proofs.Placings.{placed_sum, placed_low, placed_lt}

-- the sum by Horner's rule of the products by single bytes has the residue of the products
horner_products : (l : List (ℕ × ℕ)) (z : ℕ → ℕ) (q : ℕ) → ((p : ℕ) → p < q → IsReduced (products 8 (shortened (8 * p) l)) (z p))
    → coefficient (residue ghash_modulus (horner_list (λ p. of_word (z p)) q))
    ≡ coefficient (residue ghash_modulus (products (8 * q) l))
unfolding horner_list
horner_products l z zero is = residue_same ghash_modulus [] (products 0 l) refl (fun_ext (λ k. sym (products_none l k)))
horner_products l z (suc q) is =
    let m : List Bool = ghash_modulus in
    let up : List Bool → List Bool = λ (r : List Bool). replicate 8 false ++ r in
    let before : List Bool = horner_list (λ p. of_word (z p)) q in
    let here : List Bool = products 8 (shortened (8 * q) l) in
    let below : List Bool = products (8 * q) l in
    let more : 8 + 8 * q ≡ 8 * suc q = omega arith in
    residue_parts (of_word (z q)) (up before)
    ∙ ap₂ sum_of (sym (fun_ext (own_residue (z q))) ∙ fun_ext (is q (omega arith)))
    (x_same 8 before below (horner_products l z q (λ p h. is p (omega arith))))
    ∙ sym (residue_parts here (up below))
    ∙ residue_same m (sum here (up below)) (products (8 + 8 * q) l) refl (sym (products_joined 8 (8 * q) l))
    ∙ ap (λ (w : ℕ). coefficient (residue m (products w l))) more

-- if column p of sixteen rows of bytes is the product by byte p, the rows, moved to their places and reduced, are the product
pub placed_products : (l : List (ℕ × ℕ)) (e : ℕ → ℕ → ℕ) → ((j p : ℕ) → e j p < 256)
    → ((p : ℕ) → p < 16 → IsReduced (products 8 (shortened (8 * p) l)) (le (row (λ j. e j p))))
    → IsReduced (products 128 l) (folded_wide (placed (λ j. le (row (e j))) 16))
placed_products l e small is k =
    let r : ℕ → ℕ = λ (j : ℕ). le (row (e j)) in
    let z : ℕ → ℕ = λ (p : ℕ). le (row (λ j. e j p)) in
    let n : ℕ = placed r 16 in
    let word : (j : ℕ) → r j < 2 ^ 128 = λ j. le_block (row (e j)) (row_block (e j) (small j)) in
    let same : coefficient (of_bits 256 n) ≡ coefficient (horner_list (λ p. of_word (z p)) 16) =
    placed_sum r 16 (omega arith) word ∙ rows_and_columns e small ∙ sym (horner_list_at (λ p. of_word (z p)) 16) in
    ap (λ f. f k) (wide_folded_at n (placed_lt r 16 (omega arith) word) (λ j h. placed_low r 16 j h)
    ∙ residue_same ghash_modulus (of_bits 256 n) (horner_list (λ p. of_word (z p)) 16) refl same
    ∙ horner_products l z 16 is)

-- ---- tables

-- what the look-ups by the byte at place p give in all tables are the XOR of an entry of each
pub looked_column : (high low : List (List ℕ)) (n : ℕ) → AreBytes high → AreBytes low
    → le (row (λ j. bit_xor (get_or (table_at high j) (n / 16) 0) (get_or (table_at low j) (n % 16) 0)))
    ≡ bit_xor (entry high (n / 16)) (entry low (n % 16))
unfolding entry
looked_column high low n sh sl =
    le_row_xor (λ j. get_or (table_at high j) (n / 16) 0) (λ j. get_or (table_at low j) (n % 16) 0) (λ j. sh j (n / 16)) (λ j. sl j (n % 16))

-- byte p of a word that sixteen bytes spell
byte_in : (x : List ℕ) (p : ℕ) → IsBlock x → of_bits 8 (get_or x p 0) ≡ of_bits 8 (le x / 2 ^ (8 * p))
byte_in x p is = ap (of_bits 8) (sym (le_byte x p is.bytes)) ∙ byte_of_number (le x) p

-- the sum of one product is the product
one_product : (h x : ℕ) → coefficient (products 128 ((x, h) ∷ [])) ≡ coefficient (product (of_bits 128 x) (of_word h))
one_product h x =
    let p : List Bool = product (of_bits 128 x) (of_word h) in
    fun_ext (λ k. coefficient_sum p [] k ∙ plus_false (coefficient p k))

-- what the look-ups by the bytes x give, moved to their places and reduced, is the product of their word and h
pub looked_product : (h : ℕ) (high low : List (List ℕ)) (x : List ℕ) → IsBlock x → AreTables h high low
    → IsWordProduct (le x) (to_be_bytes w128 h)
    (folded_wide (placed (λ j. le (looked_up (table_at high j) (table_at low j) x)) 16))
unfolding looked_up
looked_product h high low x is tables =
    let sh = tables.high_bytes in
    let sl = tables.low_bytes in
    let e : ℕ → ℕ → ℕ = λ (j p : ℕ). bit_xor (get_or (table_at high j) (get_or x p 0 / 16) 0) (get_or (table_at low j) (get_or x p 0 % 16) 0) in
    let l : List (ℕ × ℕ) = (le x, h) ∷ [] in
    let z : ℕ = folded_wide (placed (λ j. le (row (e j))) 16) in
    let part : (p : ℕ) → p < 16 → IsReduced (products 8 (shortened (8 * p) l)) (le (row (λ j. e j p))) = λ p small.
    let n : ℕ = get_or x p 0 in
    let q : ℕ = le x / 2 ^ (8 * p) in
    let here : IsReduced (product (of_bits 8 n) (of_word h)) (le (row (λ j. e j p))) =
    rw (looked_column high low n sh sl) (tables.filled n (is.bytes p)) in
    last_product (product (of_bits 8 q) (of_word h)) (le (row (λ j. e j p)))
    (subst (λ (b : List Bool). IsReduced (product b (of_word h)) (le (row (λ j. e j p)))) (byte_in x p is) here) in
    word_product_is (le x) h z (reduced_same (products 128 l) (product (of_bits 128 (le x)) (of_word h)) z (one_product h (le x))
    (placed_products l e (λ j p. xor_of_8 (get_or (table_at high j) (get_or x p 0 / 16) 0) (get_or (table_at low j) (get_or x p 0 % 16) 0) (sh j (get_or x p 0 / 16)) (sl j (get_or x p 0 % 16))) part))

-- each byte of tables of zeros is 0
zero_byte : (j n : ℕ) → get_or (table_at (replicate 16 (replicate 16 0)) j) n 0 ≡ 0
zero_byte j n = elim (cases_lt j 16) [
  | inl l ↦
      let table : table_at (replicate 16 (replicate 16 0)) j ≡ replicate 16 0 =
      get_or-replicate {A = List ℕ} 16 j (replicate 16 0) [] l in
      ap (λ (t : List ℕ). get_or t n 0) table ∙ elim (cases_lt n 16) [
        | inl r ↦ get_or-replicate {A = ℕ} 16 n 0 0 r
        | inr r ↦ get_or_past (replicate {A = ℕ} 16 0) n 0 r
      ]
  | inr l ↦
      let table : table_at (replicate 16 (replicate 16 0)) j ≡ [] =
      get_or_past (replicate {A = List ℕ} 16 (replicate 16 0)) j [] l in
      ap (λ (t : List ℕ). get_or t n 0) table
]

-- sixteen tables of zeros have the entries 0
zero_entry : (n : ℕ) → n < 16 → entry (replicate 16 (replicate 16 0)) n ≡ 0
unfolding entry le
zero_entry n l =
    ap (λ (f : ℕ → ℕ). le (row f)) (fun_ext (λ j. zero_byte j n))

zero_multiples : AreMultiples (of_word 0) (entry (replicate 16 (replicate 16 0))) (entry (replicate 16 (replicate 16 0)))
zero_multiples n l =
    let sum : bit_xor (entry (replicate 16 (replicate 16 0)) (n / 16)) (entry (replicate 16 (replicate 16 0)) (n % 16)) ≡ 0 =
    ap₂ bit_xor (zero_entry (n / 16) (omega arith)) (zero_entry (n % 16) (omega arith)) in
    subst (IsReduced (product (of_bits 8 n) (of_word 0))) (sym sum) (multiple_of_zero 8 n)

-- tables of zeros are those of 0
pub zero_tables : AreTables 0 (replicate 16 (replicate 16 0)) (replicate 16 (replicate 16 0))
zero_tables = record {
  high_bytes = λ j n. rw (zero_byte j n) (omega arith);
  low_bytes = λ j n. rw (zero_byte j n) (omega arith);
  filled = zero_multiples;
}
