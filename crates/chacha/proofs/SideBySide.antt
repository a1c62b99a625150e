-- States side by side: one in each lane.
use Rattle.std.proofs.Common.{◌≡◌, ℕ, zero, suc, ◌+◌, ◌-◌, ◌*◌, ◌/◌, ◌%◌, ◌^◌, ◌<◌, ◌≤◌, Fits, bit_or, bit_xor}
use Rattle.std.proofs.Common.{refl, sym, ap, ap₂, ◌∙◌, arith}
use Rattle.std.proofs.Common.{List, [], ◌∷◌, ◌++◌, length, get_or, set, take, drop, map, replicate}
use Rattle.std.proofs.lemmas.List.{map-set, length-map, get_or-map, take_all, take_at, take_more}
use Rattle.std.proofs.lemmas.List.{take_more_set, drop_all, drop_at, drop-drop}
use Rattle.std.proofs.lemmas.List.{append-nil, length-take-le}
use Rattle.std.proofs.Math.ListN.{get_or-map as get_or-map_any}
use Rattle.std.proofs.lemmas.Simd.{zip2_splat, zip2-map}
use Rattle.std.specs.Simd.Lanes.{zip2, Each1, number_l, digits_l}
use Rattle.std.proofs.Math.Seq.{take-add}
use Rattle.std.specs.Int.Bits.{xor_zero_l}
use Rattle.std.specs.Int.{w32, rotate_left, to_le_bytes}
use Rattle.octets.specs.Bytes.{xor_bytes}
use Rattle.octets.proofs.Xors.{length-xor_bytes}
use Rattle.chacha.specs.Block.{add_xor_rotate, double_rounds, added, serialized, block_from, initial_state}
use Rattle.chacha.specs.Block.{block}
use Rattle.chacha.specs.Code.Lanes.{lane}
use Rattle.chacha.proofs.Words.{serialized-append, four_bytes}
use Rattle.chacha.proofs.Lengths.{length-serialized}

-- an OR of each lane shifted up by n places and shifted down by 32 - n places is a rotation by n places
pub shifts_rotate : (v : List ℕ) (lanes n j : ℕ) → length v ≡ lanes → j < lanes → 0 < n → n < 32
    → get_or (zip2 bit_or (zip2 (λ (x k : ℕ). x * 2 ^ k % 2 ^ 32) v (replicate lanes n))
    (zip2 (λ (x k : ℕ). x / 2 ^ k) v (replicate lanes (32 - n)))) j 0
    ≡ rotate_left w32 (get_or v j 0) n
shifts_rotate v lanes n j long below low high =
    let up : ℕ → ℕ = λ x. x * 2 ^ n % 2 ^ 32 in
    let down : ℕ → ℕ = λ x. x / 2 ^ (32 - n) in
    let left : n ≡ n % 32 = omega arith in
    let right : 32 - n ≡ (32 - n % 32) % 32 = omega arith in
    ap (λ l. get_or l j 0)
    (ap₂ (zip2 bit_or) (zip2_splat (λ (x k : ℕ). x * 2 ^ k % 2 ^ 32) v lanes n long)
    (zip2_splat (λ (x k : ℕ). x / 2 ^ k) v lanes (32 - n) long)
    ∙ zip2-map bit_or up down v)
    ∙ get_or-map (λ (x : ℕ). bit_or (up x) (down x)) v j 0 0 (omega arith)
    ∙ ap₂ (λ (s t : ℕ). bit_or (get_or v j 0 * 2 ^ s % 2 ^ 32) (get_or v j 0 / 2 ^ t)) left right

-- if the vectors have the sum and the rotated XOR of one lane, that lane undergoes a step of the quarter round
pub lane-step : (x : List (List ℕ)) (sum turned : List ℕ) (a b d n j : ℕ)
    → get_or sum j 0 ≡ (get_or (get_or x a []) j 0 + get_or (get_or x b []) j 0) % 2 ^ 32
    → get_or turned j 0 ≡ rotate_left w32 (bit_xor (get_or (get_or x d []) j 0) (get_or sum j 0)) n
    → lane j (set (set x a sum) d turned) ≡ add_xor_rotate a b d n (lane j x)
unfolding lane add_xor_rotate
lane-step x sum turned a b d n j is_sum is_turned =
    let f : List ℕ → ℕ = λ v. get_or v j 0 in
    let at : (k : ℕ) → f (get_or x k []) ≡ get_or (map f x) k 0 = λ k. sym (get_or-map_any f x k []) in
    let s : f sum ≡ (get_or (map f x) a 0 + get_or (map f x) b 0) % 2 ^ 32 =
    is_sum ∙ ap₂ (λ (y z : ℕ). (y + z) % 2 ^ 32) (at a) (at b) in
    map-set f (set x a sum) d turned ∙ ap (λ l. set l d (f turned)) (map-set f x a sum)
    ∙ ap₂ (λ (y z : ℕ). set (set (map f x) a y) d z) s
    (is_turned ∙ ap₂ (λ (y z : ℕ). rotate_left w32 (bit_xor y z) n) (at d) s)

-- a state has as many words as there are vectors
pub length-lane : (j : ℕ) (x : List (List ℕ)) → length (lane j x) ≡ length x
unfolding lane
length-lane j x = length-map x (λ (v : List ℕ). get_or v j 0)

-- word i of the state in lane j
pub get_or-lane : (j : ℕ) (x : List (List ℕ)) (i : ℕ) → get_or (lane j x) i 0 ≡ get_or (get_or x i []) j 0
unfolding lane
get_or-lane j x i = get_or-map_any (λ (v : List ℕ). get_or v j 0) x i []

-- replacing vector i replaces word i of the state in each lane
pub lane-set : (j : ℕ) (x : List (List ℕ)) (i : ℕ) (v : List ℕ)
    → lane j (set x i v) ≡ set (lane j x) i (get_or v j 0)
unfolding lane
lane-set j x i v = map-set (λ (w : List ℕ). get_or w j 0) x i v

-- if vector i has the sum of two words in one lane, word i of the state in that lane becomes their sum
pub lane-sum : (x start : List (List ℕ)) (sum : List ℕ) (i j : ℕ)
    → get_or sum j 0 ≡ (get_or (get_or x i []) j 0 + get_or (get_or start i []) j 0) % 2 ^ 32
    → lane j (set x i sum) ≡ set (lane j x) i ((get_or (lane j x) i 0 + get_or (lane j start) i 0) % 2 ^ 32)
lane-sum x start sum i j is_sum =
    lane-set j x i sum
    ∙ ap (set (lane j x) i) (is_sum ∙ ap₂ (λ (y z : ℕ). (y + z) % 2 ^ 32) (sym (get_or-lane j x i))
    (sym (get_or-lane j start i)))

-- the lowest digits to base 256 of a number whose lowest 32 bits are a word are the word's four bytes
word_digits : (w r n : ℕ) → w < 2 ^ 32 → digits_l 256 (suc (suc (suc (suc n)))) (w + 2 ^ 32 * r)
    ≡ to_le_bytes w32 w ++ digits_l 256 n r
word_digits w r n small =
    let x : ℕ = w + 2 ^ 32 * r in
    let e0 : x % 256 ≡ w % 256 = omega arith in
    let e1 : x / 256 % 256 ≡ w / 256 % 256 = omega arith in
    let e2 : x / 256 / 256 % 256 ≡ w / 65536 % 256 = omega arith in
    let e3 : x / 256 / 256 / 256 % 256 ≡ w / 16777216 % 256 = omega arith in
    let e4 : x / 256 / 256 / 256 / 256 ≡ r = omega arith in
    λ k. e0 k ∷ e1 k ∷ e2 k ∷ e3 k ∷ digits_l 256 n (e4 k)

-- the digits to base 256 of words that are put together into one number are the serialized words
digits-serialized : (v : List ℕ) → Each1 (Fits w32) v → digits_l 256 (4 * length v) (number_l (2 ^ 32) v)
    ≡ serialized v
unfolding serialized
digits-serialized [] fit = refl
digits-serialized (w ∷ v) fit =
    let more : 4 * suc (length v) ≡ suc (suc (suc (suc (4 * length v)))) = omega arith in
    ap (λ (n : ℕ). digits_l 256 n (w + 2 ^ 32 * number_l (2 ^ 32) v)) more
    ∙ word_digits w (number_l (2 ^ 32) v) (4 * length v) fit.0.fits
    ∙ ap (λ l. to_le_bytes w32 w ++ l) (digits-serialized v fit.1)

-- the bytes of a vector of n words are the serialized words
pub lanes_serialized : (v : List ℕ) (n m : ℕ) → length v ≡ n → m ≡ 4 * n → Each1 (Fits w32) v
    → digits_l 256 m (number_l (2 ^ 32) v) ≡ serialized v
lanes_serialized v n m long size fit =
    let whole : m ≡ 4 * length v = omega arith in
    ap (λ (k : ℕ). digits_l 256 k (number_l (2 ^ 32) v)) whole ∙ digits-serialized v fit

-- the XOR of two joined lists is the XOR of the first parts and then that of the second parts
xor_bytes-append : (xs ys zs ws : List ℕ) → length xs ≡ length ys → xor_bytes (xs ++ zs) (ys ++ ws)
    ≡ xor_bytes xs ys ++ xor_bytes zs ws
unfolding xor_bytes
xor_bytes-append [] [] zs ws same = refl
xor_bytes-append [] (y ∷ ys) zs ws same = absurd (omega arith)
xor_bytes-append (x ∷ xs) [] zs ws same = absurd (omega arith)
xor_bytes-append (x ∷ xs) (y ∷ ys) zs ws same =
    ap (λ l. bit_xor x y ∷ l) (xor_bytes-append xs ys zs ws (omega arith))

-- XORing a list into zeros gives the list
pub xor_bytes-zeros : (ys : List ℕ) (n : ℕ) → length ys ≡ n → xor_bytes (replicate n 0) ys ≡ ys
unfolding xor_bytes
xor_bytes-zeros [] zero same = refl
xor_bytes-zeros [] (suc n) same = absurd (omega arith)
xor_bytes-zeros (y ∷ ys) zero same = absurd (omega arith)
xor_bytes-zeros (y ∷ ys) (suc n) same = ap₂ (λ (z : ℕ) (zs : List ℕ). z ∷ zs) (xor_zero_l y)
    (xor_bytes-zeros ys n (omega arith))

-- the first n words of a state, serialized, are XORed into a list, and the rest of the list stays as it was
abbrev pub Xored : List ℕ → ℕ → List ℕ → List ℕ → Type 0
Xored words n was now = now ≡ xor_bytes (take (4 * n) was) (serialized (take n words)) ++ drop (4 * n) was

-- before the first word, the list is as it was
pub xored_none : (words was : List ℕ) → Xored words 0 was was
unfolding serialized xor_bytes
xored_none words was = refl

-- one lane of four neighbouring vectors has four neighbouring words of its state
pub lane_four : (x : List (List ℕ)) (j n : ℕ) → length x ≡ 16 → n + 4 ≤ 16
    → get_or (get_or x n []) j 0 ∷ get_or (get_or x (n + 1) []) j 0 ∷ get_or (get_or x (n + 2) []) j 0
    ∷ get_or (get_or x (n + 3) []) j 0 ∷ [] ≡ take 4 (drop n (lane j x))
lane_four x j n sixteen room =
    let at : (i : ℕ) → get_or (get_or x i []) j 0 ≡ get_or (lane j x) i 0 = λ i. sym (get_or-lane j x i) in
    (λ k. at n k ∷ at (n + 1) k ∷ at (n + 2) k ∷ at (n + 3) k ∷ [])
    ∙ sym (four_bytes (lane j x) n (omega (arith, length-lane j x)))

-- one lane of eight neighbouring vectors has eight neighbouring words of its state
pub lane_eight : (x : List (List ℕ)) (j n : ℕ) → length x ≡ 16 → n + 8 ≤ 16
    → (get_or (get_or x n []) j 0 ∷ get_or (get_or x (n + 1) []) j 0 ∷ get_or (get_or x (n + 2) []) j 0
    ∷ get_or (get_or x (n + 3) []) j 0 ∷ []) ++ (get_or (get_or x (n + 4) []) j 0
    ∷ get_or (get_or x (n + 5) []) j 0 ∷ get_or (get_or x (n + 6) []) j 0 ∷ get_or (get_or x (n + 7) []) j 0 ∷ [])
    ≡ take 8 (drop n (lane j x))
lane_eight x j n sixteen room =
    let words = lane j x in
    let at : (i k : ℕ) → i ≡ k → get_or (get_or x i []) j 0 ≡ get_or (get_or x k []) j 0 =
    λ i k e. ap (λ (l : ℕ). get_or (get_or x l []) j 0) e in
    ap₂ (λ (y z : List ℕ). y ++ z) (lane_four x j n sixteen (omega arith))
    ((λ k. get_or (get_or x (n + 4) []) j 0 ∷ at (n + 5) (n + 4 + 1) (omega arith) k
    ∷ at (n + 6) (n + 4 + 2) (omega arith) k ∷ at (n + 7) (n + 4 + 3) (omega arith) k ∷ [])
    ∙ lane_four x j (n + 4) sixteen (omega arith))
    ∙ ap (λ l. take 4 (drop n words) ++ take 4 l) (sym (drop-drop 4 n words)) ∙ sym (take-add 4 4 (drop n words))

-- if n words of a lane's block were XORed in, and then k words more from byte a on, n + k words are XORed in
pub xored_more : (x : List (List ℕ)) (j : ℕ) (was mid now part : List ℕ) (n k m a : ℕ) → length x ≡ 16
    → length was ≡ 64 → n + k ≤ 16 → m ≡ n + k → a ≡ 4 * n
    → Xored (lane j x) n was mid → part ≡ take k (drop n (lane j x))
    → now ≡ take a mid ++ xor_bytes (take (4 * k) (drop a mid)) (serialized part) ++ drop (a + 4 * k) mid
    → Xored (lane j x) m was now
xored_more x j was mid now part n k m a sixteen long room sum place held is_part is_now =
    let words = lane j x in
    let all : length words ≡ 16 = length-lane j x ∙ sixteen in
    let b : ℕ = 4 * k in
    let front = take a was in
    let rest = drop a was in
    let done = serialized (take n words) in
    let next : 4 * m ≡ a + b = omega arith in
    let size : length front ≡ a = length-take-le a was (omega arith) in
    let same : length front ≡ length done =
    size ∙ omega (arith, length-serialized (take n words), length-take-le n words (omega (arith, all))) in
    let has : mid ≡ xor_bytes front done ++ rest =
    held ∙ ap (λ (i : ℕ). xor_bytes (take i was) done ++ drop i was) (sym place) in
    let whole : length (xor_bytes front done) ≡ a = length-xor_bytes front done same ∙ size in
    let before : take a mid ≡ xor_bytes front done = ap (take a) has ∙ take_at (xor_bytes front done) rest
    a whole in
    let after : drop a mid ≡ rest = ap (drop a) has ∙ drop_at (xor_bytes front done) rest a whole in
    let past : drop (a + b) mid ≡ drop (4 * m) was =
    sym (drop-drop b a mid) ∙ ap (drop b) after ∙ drop-drop b a was ∙ ap (λ (i : ℕ). drop i was) (sym next) in
    let words_more : serialized (take m words) ≡ done ++ serialized part =
    ap (λ (i : ℕ). serialized (take i words)) sum ∙ ap serialized (take-add n k words)
    ∙ serialized-append (take n words) (take k (drop n words)) ∙ ap (λ l. done ++ serialized l) (sym is_part) in
    let bytes_more : take (4 * m) was ≡ front ++ take b rest = ap (λ (i : ℕ). take i was) next
    ∙ take-add a b was in
    is_now
    ∙ ap₂ (λ (x y : List ℕ). x ++ y)
    (ap₂ (λ (x y : List ℕ). x ++ xor_bytes (take b y) (serialized part)) before after
    ∙ sym (xor_bytes-append front done (take b rest) (serialized part) same)
    ∙ ap₂ xor_bytes (sym bytes_more) (sym words_more))
    past

-- if all 16 words of a lane's block were XORed in, the whole block was
pub xored_all : (x : List (List ℕ)) (j : ℕ) (was now : List ℕ) (n : ℕ) → length x ≡ 16 → length was ≡ 64
    → n ≡ 16 → Xored (lane j x) n was now → now ≡ xor_bytes was (serialized (lane j x))
xored_all x j was now n sixteen long end held =
    let words = lane j x in
    let all : length words ≡ 16 = length-lane j x ∙ sixteen in
    rw end at held
    ∙ ap₂ (λ (x y : List ℕ). x ++ y)
    (ap₂ (λ (x y : List ℕ). xor_bytes x (serialized y)) (take_all 64 was (omega arith))
    (take_all 16 words (omega (arith, all))))
    (drop_all 64 was (omega arith))
    ∙ append-nil (xor_bytes was (serialized words))

-- if one more vector has the next word in a lane, the lane has one word more
pub lane_more : (j : ℕ) (x : List (List ℕ)) (v words : List ℕ) (i : ℕ) → i < length x → i < length words
    → get_or v j 0 ≡ get_or words i 0
    → take i (lane j x) ≡ take i words → take (i + 1) (lane j (set x i v)) ≡ take (i + 1) words
lane_more j x v words i there in_words is same =
    ap (take (i + 1)) (lane-set j x i v)
    ∙ take_more_set (lane j x) i (get_or v j 0) (omega (arith, length-lane j x))
    ∙ ap₂ (λ (l : List ℕ) (y : ℕ). l ++ y ∷ []) same is ∙ sym (take_more words i 0 in_words)

-- if all 16 vectors have their words in a lane, the lane has the whole state
pub lane_all : (j : ℕ) (x : List (List ℕ)) (words : List ℕ) (i : ℕ) → length x ≡ 16 → length words ≡ 16
    → i ≡ 16
    → take i (lane j x) ≡ take i words → lane j x ≡ words
lane_all j x words i sixteen long end same =
    sym (take_all i (lane j x) (omega (arith, length-lane j x))) ∙ same ∙ take_all i words (omega arith)

-- an initial state with word 12 set to n is the initial state of the counter n
pub lane_begun : (key nonce state start : List ℕ) (n m : ℕ) → state ≡ initial_state key m nonce
    → start ≡ set state 12 n → start ≡ initial_state key n nonce
unfolding initial_state
lane_begun key nonce state start n m is_state is_start = is_start ∙ ap (λ (s : List ℕ). set s 12 n) is_state

-- word 12 of an initial state is its counter
pub counter_of : (key nonce state : List ℕ) (n : ℕ) → state ≡ initial_state key n nonce → get_or state 12 0 ≡ n
unfolding initial_state
counter_of key nonce state n is_state = ap (λ (s : List ℕ). get_or s 12 0) is_state

-- ten double rounds of an initial state, with that state added, serialize to its block
pub lane_block : (key nonce start x rounds : List ℕ) (n : ℕ) → start ≡ initial_state key n nonce
    → rounds ≡ double_rounds 10 start → x ≡ added rounds start → serialized x ≡ block key n nonce
unfolding block block_from
lane_block key nonce start x rounds n begins is_rounds is_x =
    ap serialized (is_x ∙ ap (λ s. added s start) is_rounds ∙ ap (λ s. added (double_rounds 10 s) s) begins)

-- item j of four numbers from c on is c + j
pub four_counters : (c j : ℕ) → j < 4 → get_or (c ∷ (c + 1) ∷ (c + 2) ∷ (c + 3) ∷ []) j 0 ≡ c + j
four_counters c zero h = omega arith
four_counters c (suc zero) h = refl
four_counters c (suc (suc zero)) h = refl
four_counters c (suc (suc (suc zero))) h = refl
four_counters c (suc (suc (suc (suc j)))) h = absurd (omega arith)

-- item j of eight numbers from c on is c + j
pub eight_counters : (c j : ℕ) → j < 8
    → get_or (c ∷ (c + 1) ∷ (c + 2) ∷ (c + 3) ∷ (c + 4) ∷ (c + 5) ∷ (c + 6) ∷ (c + 7) ∷ []) j 0 ≡ c + j
eight_counters c zero h = omega arith
eight_counters c (suc zero) h = refl
eight_counters c (suc (suc zero)) h = refl
eight_counters c (suc (suc (suc zero))) h = refl
eight_counters c (suc (suc (suc (suc zero)))) h = refl
eight_counters c (suc (suc (suc (suc (suc zero))))) h = refl
eight_counters c (suc (suc (suc (suc (suc (suc zero)))))) h = refl
eight_counters c (suc (suc (suc (suc (suc (suc (suc zero))))))) h = refl
eight_counters c (suc (suc (suc (suc (suc (suc (suc (suc j)))))))) h = absurd (omega arith)
