-- The least significant byte of a counter, and its low half.
use Rattle.std.proofs.Common.{◌≡◌, ℕ, zero, suc, ◌+◌, ◌-◌, ◌*◌, ◌/◌, ◌%◌, ◌^◌, ◌<◌}
use Rattle.std.proofs.Common.{Bool, true, false, cond, ◌==◌, List, []}
use Rattle.std.proofs.Common.{◌∷◌, ◌++◌, length, take, drop, get_or, bit_xor, refl, sym, ap, ap₂, ◌∙◌, arith, inl, inr}
use Rattle.std.specs.Int.{bytes_high_first, bytes_low_first}
use Rattle.std.specs.Int.Bits.{xor_zero_r}
use Rattle.std.proofs.lemmas.Bool.{eqb-true, cases_lt}
use Rattle.std.proofs.lemmas.List.{length-append, length-take-le, length-drop, get_or_append_left, get_or-append-add}
use Rattle.std.proofs.lemmas.List.{get_or-drop, take_all, take_more}
use Rattle.octets.specs.Bytes.{le, be}
use Rattle.octets.proofs.Numbers.{be_push}
use Rattle.aes.specs.Counters.{up_be, up_le}
use Rattle.octets.specs.Bytes.{IsBlock}
use Rattle.aes.specs.Code.Nibbles.{CountsInByte, CountsInNibble}
use Rattle.aes.proofs.Tested.{all_below, all_below_at}
use Rattle.aes.proofs.Counting.{small_take}

-- XORing s, below 16, into a multiple of 16 is adding it, tested at each pair
nibbles_computed : all_below (λ a. all_below (λ s. bit_xor (16 * a) s == 16 * a + s) 16) 16 ≡ true
nibbles_computed = refl

nibble_sum : (v s : ℕ) → v < 256 → v % 16 ≡ 0 → s < 16 → v + s ≡ bit_xor v s
nibble_sum v s hv hm hs =
    let a : ℕ = v / 16 in
    let whole : 16 * a ≡ v = omega arith in
    let below : a < 16 = omega arith in
    ap (λ (w : ℕ). w + s) (sym whole)
    ∙ sym (eqb-true (bit_xor (16 * a) s) (16 * a + s)
    (all_below_at (λ s. bit_xor (16 * a) s == 16 * a + s) 16 s
    (all_below_at (λ a. all_below (λ s. bit_xor (16 * a) s == 16 * a + s) 16) 16 a nibbles_computed below) hs))
    ∙ ap (λ (w : ℕ). bit_xor w s) whole

-- a byte at another place stays as it is
unlike : (b : Bool) (u s : ℕ) → ◌≡◌ {A = ℕ} (cond b 1 0) 0 → u ≡ u + cond b s 0
unlike true u s h = absurd (omega (arith, h))
unlike false u s h = omega arith

-- adding s or 0 is XORing it, where s goes into a multiple of 16
nibble_or : (b : Bool) (v s : ℕ) → v < 256 → (b ≡ true → v % 16 ≡ 0) → s < 16 → v + cond b s 0 ≡ bit_xor v (cond b s 0)
nibble_or true v s hv none hs = nibble_sum v s hv (none refl) hs
nibble_or false v s hv none hs = let same : v + 0 ≡ v = omega arith in same ∙ sym (xor_zero_r v)

-- a counter that counts in a byte counts in its low half
in_nibble : (up : List ℕ → ℕ → List ℕ) (place : ℕ) → CountsInByte up place → (b : List ℕ) (j s i : ℕ) → IsBlock b → get_or (up b j) place 0 % 16 ≡ 0 → s < 16 → i < 16
    → get_or (up b (j + s)) i 0 ≡ bit_xor (get_or (up b j) i 0) (cond (i == place) s 0)
in_nibble up place counts b j s i block none hs hi =
    counts.near b j s i block (omega (arith, none, hs, (counts.blocks b j block).bytes place)) hi
    ∙ nibble_or (i == place) (get_or (up b j) i 0) s ((counts.blocks b j block).bytes i)
    (λ e. ap (λ (p : ℕ). get_or (up b j) p 0 % 16) (eqb-true i place e) ∙ none) hs

-- if the items of two lists are below 256, so are those of both joined
small_append : (xs ys : List ℕ) → ((i : ℕ) → get_or xs i 0 < 256) → ((i : ℕ) → get_or ys i 0 < 256)
    → (i : ℕ) → get_or (xs ++ ys) i 0 < 256
small_append xs ys hx hy i =
    elim (cases_lt i (length xs)) [
      | inl l ↦ rw (get_or_append_left xs ys 0 i l) (hx i)
      | inr g ↦
          let place : i ≡ length xs + (i - length xs) = omega arith in
          let same = ap (λ (p : ℕ). get_or (xs ++ ys) p 0) place ∙ get_or-append-add xs ys (i - length xs) 0 in
          rw same (hy (i - length xs))
    ]

-- ---- most significant byte first
bytes_be : (n t : ℕ) → get_or (bytes_high_first 4 n) t 0 < 256
bytes_be n zero = omega arith
bytes_be n (suc zero) = omega arith
bytes_be n (suc (suc zero)) = omega arith
bytes_be n (suc (suc (suc zero))) = omega arith
bytes_be n (suc (suc (suc (suc t)))) = omega arith

four_be : (n s t : ℕ) → n % 256 + s < 256 → t < 4
    → get_or (bytes_high_first 4 (n + s)) t 0 ≡ get_or (bytes_high_first 4 n) t 0 + cond (12 + t == 15) s 0
four_be n s zero hn ht = let e : (n + s) / 16777216 % 256 ≡ n / 16777216 % 256 + 0 = omega arith in e
four_be n s (suc zero) hn ht = let e : (n + s) / 65536 % 256 ≡ n / 65536 % 256 + 0 = omega arith in e
four_be n s (suc (suc zero)) hn ht = let e : (n + s) / 256 % 256 ≡ n / 256 % 256 + 0 = omega arith in e
four_be n s (suc (suc (suc zero))) hn ht = let e : (n + s) % 256 ≡ n % 256 + s = omega arith in e
four_be n s (suc (suc (suc (suc t)))) hn ht = absurd (omega arith)

-- the number that the last four bytes spell is that of the three before the last, times 256, plus the last byte
last_be : (b : List ℕ) → length b ≡ 16 → be (drop 12 b) ≡ be (take 3 (drop 12 b)) * 256 + get_or b 15 0
last_be b long =
    let d : List ℕ = drop 12 b in
    let size : length d ≡ 4 = length-drop 12 b ∙ omega arith in
    ap be (sym (take_all 4 d (omega arith)) ∙ take_more d 3 0 (omega arith)) ∙ be_push (take 3 d) (get_or d 3 0)
    ∙ ap (λ (x : ℕ). be (take 3 d) * 256 + x) (get_or-drop 12 b 3 0)

-- byte 12 + t of twelve bytes and a number's four bytes is byte t of the number
byte_be : (front : List ℕ) (n t : ℕ) → length front ≡ 12
    → get_or (front ++ bytes_high_first 4 n) (12 + t) 0 ≡ get_or (bytes_high_first 4 n) t 0
byte_be front n t size =
    ap (λ (p : ℕ). get_or (front ++ bytes_high_first 4 n) (p + t) 0) (sym size)
    ∙ get_or-append-add front (bytes_high_first 4 n) t 0

before_computed : all_below (λ i. cond (i == 15) 1 0 == 0) 12 ≡ true
before_computed = refl

blocks_be : (b : List ℕ) (j : ℕ) → IsBlock b → IsBlock (up_be b j)
unfolding up_be
blocks_be b j block =
    let front : List ℕ = take 12 b in
    let long : length b ≡ 16 = block.length_is in
    let n : ℕ = (be (drop 12 b) + j) % 2 ^ 32 in
    let size : length front ≡ 12 = length-take-le 12 b (omega arith) in
    record {
      length_is = length-append front (bytes_high_first 4 n) ∙ ap (λ (x : ℕ). x + 4) size;
      bytes = small_append front (bytes_high_first 4 n) (small_take 12 b block.bytes) (bytes_be n);
    }

pub bytes_count_be : CountsInByte up_be 15
unfolding up_be
bytes_count_be = record {
  within = omega arith;
  end = inr refl;
  blocks = blocks_be;
  near = λ b j s i block below hi.
      let front : List ℕ = take 12 b in
      let long : length b ≡ 16 = block.length_is in
      let n : ℕ = (be (drop 12 b) + j) % 2 ^ 32 in
      let m : ℕ = (be (drop 12 b) + (j + s)) % 2 ^ 32 in
      let size : length front ≡ 12 = length-take-le 12 b (omega arith) in
      let low : n % 256 + s < 256 = omega (arith, below, byte_be front n 3 size) in
      let sum : m ≡ n + s = omega arith in
      elim (cases_lt i 12) [
        | inl l ↦
            get_or_append_left front (bytes_high_first 4 m) 0 i (omega arith)
            ∙ sym (get_or_append_left front (bytes_high_first 4 n) 0 i (omega arith))
            ∙ unlike (i == 15) (get_or (front ++ bytes_high_first 4 n) i 0) s
            (eqb-true (cond (i == 15) 1 0) 0 (all_below_at (λ i. cond (i == 15) 1 0 == 0) 12 i before_computed l))
        | inr g ↦
            let place : i ≡ 12 + (i - 12) = omega arith in
            ap (λ (p : ℕ). get_or (front ++ bytes_high_first 4 m) p 0) place ∙ byte_be front m (i - 12) size
            ∙ ap (λ (x : ℕ). get_or (bytes_high_first 4 x) (i - 12) 0) sum
            ∙ four_be n s (i - 12) low (omega arith)
            ∙ ap₂ (λ (x p : ℕ). x + cond (p == 15) s 0) (sym (byte_be front n (i - 12) size)) (sym place)
            ∙ ap (λ (p : ℕ). get_or (front ++ bytes_high_first 4 n) p 0 + cond (i == 15) s 0) (sym place)
      ];
}

pub counts_be : CountsInNibble up_be 15
unfolding up_be
counts_be = record {
  within = omega arith;
  blocks = blocks_be;
  nibble = λ b j block.
      let long : length b ≡ 16 = block.length_is in
      let n : ℕ = (be (drop 12 b) + j) % 2 ^ 32 in
      let size : length (take 12 b) ≡ 12 = length-take-le 12 b (omega arith) in
      let number = last_be b long in
      let low : n % 256 % 16 ≡ (get_or b 15 0 + j) % 16 = omega arith in
      ap (λ (x : ℕ). x % 16) (byte_be (take 12 b) n 3 size) ∙ low;
  near = in_nibble up_be 15 bytes_count_be;
}

-- ---- least significant byte first
bytes_le : (n t : ℕ) → get_or (bytes_low_first 0 4 n) t 0 < 256
bytes_le n zero = omega arith
bytes_le n (suc zero) = omega arith
bytes_le n (suc (suc zero)) = omega arith
bytes_le n (suc (suc (suc zero))) = omega arith
bytes_le n (suc (suc (suc (suc t)))) = omega arith

four_le : (n s t : ℕ) → n % 256 + s < 256 → t < 4
    → get_or (bytes_low_first 0 4 (n + s)) t 0 ≡ get_or (bytes_low_first 0 4 n) t 0 + cond (t == 0) s 0
four_le n s zero hn ht = let e : (n + s) % 256 ≡ n % 256 + s = omega arith in e
four_le n s (suc zero) hn ht = let e : (n + s) / 256 % 256 ≡ n / 256 % 256 + 0 = omega arith in e
four_le n s (suc (suc zero)) hn ht = let e : (n + s) / 65536 % 256 ≡ n / 65536 % 256 + 0 = omega arith in e
four_le n s (suc (suc (suc zero))) hn ht = let e : (n + s) / 16777216 % 256 ≡ n / 16777216 % 256 + 0 = omega arith in e
four_le n s (suc (suc (suc (suc t)))) hn ht = absurd (omega arith)

-- the low half of the number in the first four bytes plus j is the low half of the first byte plus j
first_le : (b : List ℕ) (j : ℕ) → length b ≡ 16
    → (le (take 4 b) + j) % 2 ^ 32 % 256 % 16 ≡ (get_or b 0 0 + j) % 16
unfolding le
first_le [] j long = absurd (omega arith)
first_le (x ∷ xs) j long = omega arith

after_computed : all_below (λ i. cond (4 + i == 0) 1 0 == 0) 12 ≡ true
after_computed = refl

blocks_le : (b : List ℕ) (j : ℕ) → IsBlock b → IsBlock (up_le b j)
unfolding up_le
blocks_le b j block =
    let back : List ℕ = drop 4 b in
    let long : length b ≡ 16 = block.length_is in
    let n : ℕ = (le (take 4 b) + j) % 2 ^ 32 in
    record {
      length_is = length-append (bytes_low_first 0 4 n) back
          ∙ ap (λ (x : ℕ). 4 + x) (length-drop 4 b ∙ ap (λ (x : ℕ). x - 4) long);
      bytes = small_append (bytes_low_first 0 4 n) back (bytes_le n)
          (λ i. rw (get_or-drop 4 b i 0) (block.bytes (4 + i)));
    }

pub bytes_count_le : CountsInByte up_le 0
unfolding up_le
bytes_count_le = record {
  within = omega arith;
  end = inl refl;
  blocks = blocks_le;
  near = λ b j s i block below hi.
      let back : List ℕ = drop 4 b in
      let n : ℕ = (le (take 4 b) + j) % 2 ^ 32 in
      let m : ℕ = (le (take 4 b) + (j + s)) % 2 ^ 32 in
      let low : n % 256 + s < 256 = below in
      let sum : m ≡ n + s = omega arith in
      elim (cases_lt i 4) [
        | inl l ↦
            get_or_append_left (bytes_low_first 0 4 m) back 0 i l
            ∙ ap (λ (x : ℕ). get_or (bytes_low_first 0 4 x) i 0) sum ∙ four_le n s i low l
            ∙ ap (λ (x : ℕ). x + cond (i == 0) s 0) (sym (get_or_append_left (bytes_low_first 0 4 n) back 0 i l))
        | inr g ↦
            let place : i ≡ 4 + (i - 4) = omega arith in
            let t : ℕ = i - 4 in
            let within : t < 12 = omega arith in
            ap (λ (p : ℕ). get_or (bytes_low_first 0 4 m ++ back) p 0) place
            ∙ get_or-append-add (bytes_low_first 0 4 m) back t 0
            ∙ sym (get_or-append-add (bytes_low_first 0 4 n) back t 0)
            ∙ unlike (4 + t == 0) (get_or (bytes_low_first 0 4 n ++ back) (4 + t) 0) s
            (eqb-true (cond (4 + t == 0) 1 0) 0 (all_below_at (λ i. cond (4 + i == 0) 1 0 == 0) 12 t after_computed within))
            ∙ ap (λ (p : ℕ). get_or (bytes_low_first 0 4 n ++ back) p 0 + cond (p == 0) s 0) (sym place)
      ];
}

pub counts_le : CountsInNibble up_le 0
unfolding up_le
counts_le = record {
  within = omega arith;
  blocks = blocks_le;
  nibble = λ b j block. first_le b j block.length_is;
  near = in_nibble up_le 0 bytes_count_le;
}
