-- The steps of the S-box in lanes, each in terms of the lanes before it.
use Rattle.std.proofs.Common.{ℕ, ◌/◌, ◌%◌, List, get_or, bit_xor}
use Rattle.aes.specs.Code.Lanes.{HasLanes, entry}
use Rattle.aes.specs.Code.Lanes.{scaled_at, both_at, first_at, second_at, u_at, t_at}
use Rattle.aes.specs.declared.lanes.TheConstants.{INVERSE, SCALED}
use Rattle.aes.proofs.FourBlocks.{via, via_two}

-- v is the XOR of two vectors
abbrev pub IsSum : ℕ → List ℕ → List ℕ → List ℕ → Type 0
IsSum n v a b = HasLanes n v (λ k. bit_xor (get_or a k 0) (get_or b k 0))

-- v has the entries of a table at the places in a vector
abbrev pub IsLook : ℕ → List ℕ → List ℕ → List ℕ → Type 0
IsLook n v table places = HasLanes n v (λ k. entry table (get_or places k 0))

-- if entries of a table are XORed with a vector, the lanes are those entries XORed with its lanes
looked : {n : ℕ} {g h : ℕ → ℕ} (table : List ℕ) (v look places other : List ℕ) → IsLook n look table places
    → IsSum n v look other → HasLanes n places g → HasLanes n other h
    → HasLanes n v (λ k. bit_xor (entry table (g k)) (h k))
looked {g = g} {h = h} table v look places other is_look is_sum p o =
    via_two bit_xor (λ k. entry table (g k)) h v look other is_sum (via (entry table) g look places is_look p)
    o

-- the XOR of the low and the high nibbles is `both_at` of each lane
pub sum_is : {n : ℕ} (x : List ℕ) {low high both : List ℕ} → HasLanes n low (λ k. get_or x k 0 % 16)
    → HasLanes n high (λ k. get_or x k 0 / 16) → IsSum n both low high
    → HasLanes n both (λ k. both_at (get_or x k 0))
sum_is x {low = low} {high = high} {both = both} l h s =
    via_two bit_xor (λ k. get_or x k 0 % 16) (λ k. get_or x k 0 / 16) both low high s l h

-- the nibbles of a vector, their sums, and the scaled inverses of the low ones
pub record HasNibbles (n : ℕ) (x low high both scaled : List ℕ) : Type 0 where
  pub low_is : HasLanes n low (λ k. get_or x k 0 % 16)
  pub high_is : HasLanes n high (λ k. get_or x k 0 / 16)
  pub both_is : HasLanes n both (λ k. both_at (get_or x k 0))
  pub scaled_is : HasLanes n scaled (λ k. scaled_at (get_or x k 0))

-- the nibbles, the XOR of them, and the look-up of the low ones in SCALED are `HasNibbles`
pub has_nibbles : {n : ℕ} {x low high both scaled : List ℕ} → HasLanes n low (λ k. get_or x k 0 % 16)
    → HasLanes n high (λ k. get_or x k 0 / 16) → IsSum n both low high → IsLook n scaled SCALED low
    → HasNibbles n x low high both scaled
has_nibbles {x = x} {low = low} {high = high} {both = both} {scaled = scaled} l h b s = record {
  low_is = l;
  high_is = h;
  both_is = sum_is x l h b;
  scaled_is = via (entry SCALED) (λ k. get_or x k 0 % 16) scaled low s l;
}

-- the inverses of the high nibbles plus the scaled inverses of the low ones are `first_at` of each lane
pub first_is : {n : ℕ} {x low high both scaled look first : List ℕ} → HasNibbles n x low high both scaled
    → IsLook n look INVERSE high → IsSum n first look scaled → HasLanes n first (λ k. first_at (get_or x k 0))
first_is {high = high} {scaled = scaled} {look = look} {first = first} nibbles l s =
    looked INVERSE first look high scaled l s nibbles.high_is nibbles.scaled_is

-- the inverses of the sums of the nibbles plus the scaled inverses of the low ones are `second_at` of each lane
pub second_is : {n : ℕ} {x low high both scaled look second : List ℕ} → HasNibbles n x low high both scaled
    → IsLook n look INVERSE both → IsSum n second look scaled → HasLanes n second (λ k. second_at (get_or x k 0))
second_is {both = both} {scaled = scaled} {look = look} {second = second} nibbles l s =
    looked INVERSE second look both scaled l s nibbles.both_is nibbles.scaled_is

-- the inverses of `first_at` plus the sums of the nibbles are `u_at` of each lane
pub u_is : {n : ℕ} {x low high both scaled first look u : List ℕ} → HasNibbles n x low high both scaled
    → HasLanes n first (λ k. first_at (get_or x k 0)) → IsLook n look INVERSE first → IsSum n u look both
    → HasLanes n u (λ k. u_at (get_or x k 0))
unfolding u_at
u_is {both = both} {first = first} {look = look} {u = u} nibbles f l s =
    looked INVERSE u look first both l s f nibbles.both_is

-- the inverses of `second_at` plus the high nibbles are `t_at` of each lane
pub t_is : {n : ℕ} {x low high both scaled second look t : List ℕ} → HasNibbles n x low high both scaled
    → HasLanes n second (λ k. second_at (get_or x k 0)) → IsLook n look INVERSE second → IsSum n t look high
    → HasLanes n t (λ k. t_at (get_or x k 0))
unfolding t_at
t_is {high = high} {second = second} {look = look} {t = t} nibbles f l s =
    looked INVERSE t look second high l s f nibbles.high_is

-- the XOR of a table's entries at one vector and another's at a second is that of the entries at what the vectors hold
pub both_looked : {n : ℕ} {g h : ℕ → ℕ} (p q : List ℕ) {u t v : List ℕ}
    → HasLanes n v (λ k. bit_xor (entry p (get_or u k 0)) (entry q (get_or t k 0))) → HasLanes n u g → HasLanes n t h
    → HasLanes n v (λ k. bit_xor (entry p (g k)) (entry q (h k)))
both_looked {g = g} {h = h} p q {u = u} {t = t} {v = v} made hu ht =
    via_two (λ a b. bit_xor (entry p a) (entry q b)) g h v u t made hu ht
