-- The sum after blocks, from one sum to the next.
use Rattle.std.proofs.Common.{◌≡◌, ℕ, zero, suc, ◌+◌, ◌*◌, ◌/◌, ◌%◌, ◌<◌, Bool, List, [], ◌∷◌, ◌++◌, length}
use Rattle.std.proofs.Common.{get_or, bit_xor, refl, sym, ap, ap₂, ◌∙◌, arith}
use mathlib.Core.Path.{fun_ext}
use Rattle.std.proofs.lemmas.List.{length-append, take_all}
use Rattle.std.specs.Simd.{first_chunks}
use Rattle.octets.specs.Bytes.{block_at}
use Rattle.octets.specs.Bits.{g}
use Rattle.octets.specs.Polynomial.{coefficient, sum, product, residue, Agree}
use Rattle.octets.proofs.Sequence.{sum_of}
use Rattle.octets.proofs.Horner.{sum_is, times_same}
use Rattle.octets.proofs.Blocks.{next_block, chunk_at}
use Rattle.gf128.specs.Ghash.{ghash_modulus}
use Rattle.gf128.specs.Code.Words.{of_word, AreFours, IsWordProduct, IsFourProducts}
use Rattle.gf128.specs.Orders.{Order, reading, block_sum, sum_after, IsSumAfter}
use Rattle.gf128.proofs.WordLemmas.{of_word_xor, word_product}
use Rattle.gf128.proofs.FourProducts.{product_of, product_of_is, four_steps}
use Rattle.gf128.proofs.Sums.{block_sum-append, block_sum_step}

-- sums that begin alike and of which each follows from the one before by the next block are the sums after the blocks
pub follows : (o : Order) (k : List ℕ) (s : List Bool) (blocks : List (List ℕ)) (f : ℕ → List Bool) (n : ℕ)
    → coefficient s ≡ coefficient (f 0)
    → ((i : ℕ) → i < n → coefficient (f (suc i))
    ≡ coefficient (residue ghash_modulus (product (sum (f i) (reading o (get_or blocks i []))) (g k))))
    → coefficient (sum_after o k s blocks n) ≡ coefficient (f n)
unfolding sum_after
follows o k s blocks f zero e step = e
follows o k s blocks f (suc n) e step =
    let x : List Bool = reading o (get_or blocks n []) in
    let t : List Bool = sum_after o k s blocks n in
    let before : coefficient t ≡ coefficient (f n) = follows o k s blocks f n e (λ i l. step i (omega (arith, l))) in
    times_same ghash_modulus (sum t x) (sum (f n) x) (g k) refl
    (sum_is t x ∙ ap (λ q. sum_of q (coefficient x)) before ∙ sym (sum_is (f n) x))
    ∙ sym (step n (omega arith))

-- if a is the sum after n blocks, x the word of the next block, and z their XOR times the key, z is the sum after n + 1 blocks
pub one_after : (o : Order) (k : List ℕ) (s : List Bool) (blocks : List (List ℕ)) (n a x z : ℕ)
    → Agree (of_word a) (sum_after o k s blocks n) → of_word x ≡ reading o (get_or blocks n [])
    → IsWordProduct (bit_xor a x) k z → Agree (of_word z) (sum_after o k s blocks (suc n))
unfolding sum_after
one_after o k s blocks n a x z held ex is i =
    let t : List Bool = sum_after o k s blocks n in
    let r : List Bool = reading o (get_or blocks n []) in
    let same : coefficient (of_word (bit_xor a x)) ≡ coefficient (sum t r) =
    fun_ext (of_word_xor a x) ∙ ap₂ sum_of (fun_ext held) (ap coefficient ex) ∙ sym (sum_is t r) in
    ap (λ f. f i) (word_product (bit_xor a x) z k is
    ∙ times_same ghash_modulus (of_word (bit_xor a x)) (sum t r) (g k) refl same)

-- the four products of s and the words of the first four blocks are the sum after them
pub four_after : (o : Order) (k : List ℕ) (blocks : List (List ℕ)) (s a b c d z : ℕ)
    → of_word a ≡ reading o (get_or blocks 0 []) → of_word b ≡ reading o (get_or blocks 1 [])
    → of_word c ≡ reading o (get_or blocks 2 []) → of_word d ≡ reading o (get_or blocks 3 [])
    → IsFourProducts (bit_xor s a) b c d k z → Agree (of_word z) (sum_after o k (of_word s) blocks 4)
unfolding sum_after
four_after o k blocks s a b c d z ea eb ec ed is =
    let p : ℕ = bit_xor s a in
    let t : ℕ = product_of p k in
    let u : ℕ = product_of (bit_xor t b) k in
    let w : ℕ = product_of (bit_xor u c) k in
    let q : List Bool = of_word s in
    one_after o k q blocks 3 w d z (one_after o k q blocks 2 u c w (one_after o k q blocks 1 t b u
    (one_after o k q blocks 0 s a t (λ i. refl) ea (product_of_is p k)) eb (product_of_is (bit_xor t b) k))
    ec (product_of_is (bit_xor u c) k)) ed (four_steps p b c d z k is)

-- the sum after n blocks and then j more is the sum after n + j blocks
pub joined : (o : Order) (k : List ℕ) (s t : List Bool) (blocks more : List (List ℕ)) (n j : ℕ)
    → Agree t (sum_after o k s blocks n) → ((i : ℕ) → i < j → get_or more i [] ≡ get_or blocks (n + i) [])
    → coefficient (sum_after o k t more j) ≡ coefficient (sum_after o k s blocks (n + j))
unfolding sum_after
joined o k s t blocks more n j held own =
    let none : n + 0 ≡ n = omega arith in
    follows o k t more (λ i. sum_after o k s blocks (n + i)) j (rw none (fun_ext held)) (λ i l.
    let next : n + suc i ≡ suc (n + i) = omega arith in
    rw (next, own i l) refl)

-- the sum after some groups of four blocks and one group more
pub fours_more : (o : Order) (k : List ℕ) (q : List Bool) (fours : List (List (List ℕ))) (blocks : List (List ℕ)) (n s a b c d z : ℕ)
    → AreFours fours blocks → n < length fours
    → let four = get_or fours n [] in of_word a ≡ reading o (get_or four 0 []) → of_word b ≡ reading o (get_or four 1 [])
    → of_word c ≡ reading o (get_or four 2 []) → of_word d ≡ reading o (get_or four 3 [])
    → Agree (of_word s) (sum_after o k q blocks (n * 4)) → IsFourProducts (bit_xor s a) b c d k z
    → Agree (of_word z) (sum_after o k q blocks ((n + 1) * 4))
fours_more o k q fours blocks n s a b c d z own l ea eb ec ed held is =
    let four : List (List ℕ) = get_or fours n [] in
    let next : n * 4 + 4 ≡ (n + 1) * 4 = omega arith in
    let after : Agree (of_word z) (sum_after o k q blocks (n * 4 + 4)) = λ i.
    four_after o k four s a b c d z ea eb ec ed is i
    ∙ ap (λ f. f i) (joined o k q (of_word s) blocks four (n * 4) 4 held (λ j h. own n j l h)) in
    rw next at after

-- the sum after the blocks of a text, if s is the sum over the whole blocks before it
pub absorbed : (o : Order) (k m text : List ℕ) (blocks : List (List ℕ)) (s z : ℕ) → length m % 16 ≡ 0
    → length text % 16 ≡ 0 → blocks ≡ first_chunks 16 (length text / 16) text
    → length blocks ≡ length text / 16 → Agree (of_word s) (block_sum o k m (length m / 16))
    → IsSumAfter o k s blocks z → Agree (of_word z) (block_sum o k (m ++ text) (length (m ++ text) / 16))
absorbed o k m text blocks s z whole blank eb lb held is i =
    let q : ℕ = length m / 16 in
    let n : ℕ = length text / 16 in
    let none : q + 0 ≡ q = omega arith in
    let start : block_sum o k (m ++ text) q ≡ block_sum o k m q = block_sum-append o k m text q (omega arith) in
    let end : length (m ++ text) / 16 ≡ q + n = omega (arith, length-append m text, whole, blank) in
    let own : (j : ℕ) → j < n → get_or blocks j [] ≡ block_at (m ++ text) (q + j) = λ j l.
    ap (λ (y : List (List ℕ)). get_or y j []) eb ∙ chunk_at 16 n j text l ∙ sym (next_block m text j whole) in
    let all : coefficient (sum_after o k (of_word s) blocks n) ≡ coefficient (block_sum o k (m ++ text) (q + n)) =
    follows o k (of_word s) blocks (λ j. block_sum o k (m ++ text) (q + j)) n (rw (none, start) (fun_ext held)) (λ j l.
    let next : q + suc j ≡ suc (q + j) = omega arith in
    rw (next, own j l) (block_sum_step o k (m ++ text) (q + j))) in
    rw end (is i ∙ ap (λ x. coefficient (sum_after o k (of_word s) blocks x) i) lb ∙ ap (λ f. f i) all)

-- the sum after one block more, which is given by its word
pub one_more : (o : Order) (k m block : List ℕ) (s x z : ℕ) → length m % 16 ≡ 0 → length block ≡ 16
    → of_word x ≡ reading o block → Agree (of_word s) (block_sum o k m (length m / 16)) → IsWordProduct (bit_xor s x) k z
    → Agree (of_word z) (block_sum o k (m ++ block) (length (m ++ block) / 16))
unfolding sum_after
one_more o k m block s x z whole long ex held is =
    let one : length block / 16 ≡ 1 = omega (arith, long) in
    let only : block ∷ [] ≡ first_chunks 16 (length block / 16) block =
    rw one (ap (λ (b : List ℕ). b ∷ []) (sym (take_all 16 block (omega (arith, long))))) in
    absorbed o k m block (block ∷ []) s z whole (omega (arith, long)) only (sym one) held
    (one_after o k (of_word s) (block ∷ []) 0 s x z (λ i. refl) ex is)
