-- The steps of the counter streams, one piece after the other.
use Rattle.std.proofs.Common.{◌≡◌, ℕ, ◌+◌, ◌-◌, ◌*◌, ◌/◌, ◌%◌, zero, suc, ◌^◌, ◌<◌, ◌≤◌, List, [], ◌++◌}
use Rattle.std.proofs.Common.{length, take, drop, get_or, append_assoc, refl, sym, ap, ap₂, subst, ◌∙◌, arith, take-add}
use Rattle.std.proofs.Common.{add-zero}
use Rattle.std.proofs.lemmas.List.{take_at, drop_at, take_all, drop_all, drop-drop, length-append}
use Rattle.std.proofs.lemmas.List.{length-take-le, length-drop, get_or-take, get_or-drop, append-nil}
use Rattle.std.proofs.lemmas.Slice.{take-put_mid, drop-put_mid}
use Rattle.std.specs.Int.{bytes_high_first}
use borrow.Rule.Slice.PartMut.{put_mid}
use Rattle.octets.specs.Bytes.{xor_bytes, le, be, block_at}
use Rattle.octets.specs.Masked.{masked}
use Rattle.octets.proofs.Masks.{masked-append, xor_bytes-masked}
use Rattle.octets.proofs.Xors.{length-put_mid}
use Rattle.byteorder.specs.Endian.{big_number, big_bytes, little_number, little_bytes}
use Rattle.octets.proofs.Orders.{big_number_is, little_number_is}
use Rattle.aes.specs.Cipher.{cipher}
use Rattle.aes.specs.Counters.{up_be, up_le, counter_byte}
use Rattle.aes.specs.Code.Wraps.{WrapsAround}
use Rattle.octets.proofs.Blocks.{block_at-append}
use Rattle.aes.specs.Code.Planes.{AreMasks}
use Rattle.aes.specs.Code.Streams.{Makes, Advances, AdvancesFront}
use Rattle.aes.specs.declared.counter.Counter.{Counter}

-- writing the number in the last four bytes plus j back over them is j steps of the counter
pub up_be_written : (b ys : List ℕ) (n j : ℕ) → length b ≡ 16 → n ≡ big_number 4 (take 4 (drop 12 b))
    → ys ≡ big_bytes 4 ((n + j) % 2 ^ 32) ++ drop 4 (take 4 (drop 12 b)) → put_mid 12 4 b ys ≡ up_be b j
unfolding up_be
up_be_written b ys n j long read written =
    let last : List ℕ = drop 12 b in
    let size : length last ≡ 4 = length-drop 12 b ∙ omega arith in
    let whole : take 4 last ≡ last = take_all 4 last (omega arith) in
    let none : drop 4 last ≡ [] = drop_all 4 last (omega arith) in
    let number : n ≡ be last =
    read ∙ ap (big_number 4) whole ∙ big_number_is 4 last (omega arith) ∙ ap be whole in
    let bytes : ys ≡ bytes_high_first 4 ((be last + j) % 2 ^ 32) =
    written ∙ ap (λ x. big_bytes 4 ((n + j) % 2 ^ 32) ++ x) (ap (drop 4) whole ∙ none)
    ∙ append-nil (big_bytes 4 ((n + j) % 2 ^ 32))
    ∙ ap (λ (x : ℕ). big_bytes 4 ((x + j) % 2 ^ 32)) number in
    ap (λ x. take 12 b ++ x) (ap (λ x. ys ++ x) none ∙ append-nil ys ∙ bytes)

-- writing the number in the first four bytes plus j back over them is j steps of the counter
pub up_le_written : (b : List ℕ) (n j : ℕ) → length b ≡ 16 → n ≡ little_number 4 b
    → little_bytes 4 ((n + j) % 2 ^ 32) ++ drop 4 b ≡ up_le b j
unfolding up_le
up_le_written b n j long read =
    let number : n ≡ le (take 4 b) = read ∙ little_number_is 4 b (omega arith) in
    ap (λ (x : ℕ). little_bytes 4 ((x + j) % 2 ^ 32) ++ drop 4 b) number

-- XORing in a part of the cipher of one block masks the bytes at their place in the stream
block_masked : (up : List ℕ → ℕ → List ℕ) (key first mask xs : List ℕ) (made used n : ℕ)
    → mask ≡ cipher key (up first (made / 16)) → used ≡ made % 16 → used + length xs ≤ 16 → length mask ≡ 16
    → n ≡ length xs
    → xor_bytes xs (take n (drop used mask)) ≡ masked (counter_byte up key first) made xs
unfolding counter_byte
block_masked up key first mask xs made used n is place room long size =
    let part : length (take n (drop used mask)) ≡ n =
    length-take-le n (drop used mask) (omega (arith, length-drop used mask)) in
    xor_bytes-masked (counter_byte up key first) made xs (take n (drop used mask)) (omega arith)
    (λ i l.
    let block : (made + i) / 16 ≡ made / 16 = omega arith in
    let byte : (made + i) % 16 ≡ used + i = omega arith in
    get_or-take n (drop used mask) i 0 (omega arith) ∙ get_or-drop used mask i 0
    ∙ ap (λ m. get_or m (used + i) 0) is
    ∙ sym (ap₂ (λ (q r : ℕ). get_or (cipher key (up first q)) r 0) block byte))

-- if the bytes fit in the block that is begun, XORing in the next ones of its cipher advances the stream
pub went_on : {C : Type 0} (up : List ℕ → ℕ → List ℕ) (key : List ℕ) (s t : Counter C) (xs ys : List ℕ) (n : ℕ)
    → t.first ≡ s.first → t.block_count ≡ s.block_count → t.mask ≡ s.mask
    → t.used ≡ (s.used + length xs) % 16
    → 0 < s.used → s.used + length xs ≤ 16 → length s.mask ≡ 16 → n ≡ length xs
    → ys ≡ xor_bytes xs (take n (drop s.used s.mask)) → Advances up key s t xs ys
went_on up key s t xs ys n first_stays count_stays mask_stays used_rises some room long size xored =
    λ first made held.
    let place : s.used ≡ made % 16 = held.used_is in
    let mask : s.mask ≡ cipher key (up first (made / 16)) = held.mask_is (omega arith) in
    let blocks : (made + 15) / 16 ≡ (made + length xs + 15) / 16 = omega arith in (
      record {
        first_is = first_stays ∙ held.first_is;
        block_count_is = count_stays ∙ held.block_count_is ∙ ap (λ (x : ℕ). x % 2 ^ 32) blocks;
        used_is = omega arith;
        mask_is = λ left.
            let block : made / 16 ≡ (made + length xs) / 16 = omega arith in
            mask_stays ∙ mask ∙ ap (λ (x : ℕ). cipher key (up first x)) block;
      },
      xored ∙ block_masked up key first s.mask xs made s.used n mask place room long size,
    )

-- the four blocks of four lists of 16 bytes, joined, are these lists
pub joined_blocks : (a b c d m : List ℕ) (f : ℕ → List ℕ) → length a ≡ 16 → length b ≡ 16 → length c ≡ 16
    → length d ≡ 16 → m ≡ a ++ (b ++ (c ++ d))
    → a ≡ f 0 → b ≡ f 1 → c ≡ f 2 → d ≡ f 3 → (q : ℕ) → q < 4 → block_at m q ≡ f q
joined_blocks a b c d m f ha hb hc hd is ea eb ec ed zero h =
    ap (take 16) is ∙ take_at a (b ++ (c ++ d)) 16 ha ∙ ea
joined_blocks a b c d m f ha hb hc hd is ea eb ec ed (suc zero) h =
    ap (λ l. take 16 (drop 16 l)) is ∙ ap (take 16) (drop_at a (b ++ (c ++ d)) 16 ha)
    ∙ take_at b (c ++ d) 16 hb ∙ eb
joined_blocks a b c d m f ha hb hc hd is ea eb ec ed (suc (suc zero)) h =
    ap (take 16) (sym (drop-drop 16 16 m) ∙ ap (drop 16) (ap (drop 16) is ∙ drop_at a (b ++ (c ++ d)) 16 ha)
    ∙ drop_at b (c ++ d) 16 hb) ∙ take_at c d 16 hc ∙ ec
joined_blocks a b c d m f ha hb hc hd is ea eb ec ed (suc (suc (suc zero))) h =
    ap (take 16) (sym (drop-drop 16 32 m)
    ∙ ap (drop 16) (sym (drop-drop 16 16 m)
    ∙ ap (drop 16) (ap (drop 16) is ∙ drop_at a (b ++ (c ++ d)) 16 ha) ∙ drop_at b (c ++ d) 16 hb)
    ∙ drop_at c d 16 hc)
    ∙ take_all 16 d (omega arith) ∙ ed
joined_blocks a b c d m f ha hb hc hd is ea eb ec ed (suc (suc (suc (suc q)))) h = absurd (omega arith)

-- the two blocks of a pair
pub joined_pair : (a b m : List ℕ) (f : ℕ → List ℕ) → length a ≡ 16 → length b ≡ 16 → m ≡ a ++ b → a ≡ f 0 → b ≡ f 1
    → (q : ℕ) → q < 2 → block_at m q ≡ f q
joined_pair a b m f ha hb is ea eb zero h = ap (take 16) is ∙ take_at a b 16 ha ∙ ea
joined_pair a b m f ha hb is ea eb (suc zero) h =
    ap (λ l. take 16 (drop 16 l)) is ∙ ap (take 16) (drop_at a b 16 ha) ∙ take_all 16 b (omega arith) ∙ eb
joined_pair a b m f ha hb is ea eb (suc (suc q)) h = absurd (omega arith)

-- if no block is begun, XORing in the first bytes of the ciphers of the next blocks advances the stream
pub began : {C : Type 0} (up : List ℕ → ℕ → List ℕ) (key : List ℕ) (s t : Counter C) (masks xs ys : List ℕ)
    → WrapsAround up
    → t.first ≡ s.first → t.block_count ≡ (s.block_count + (length xs + 15) / 16) % 2 ^ 32
    → t.used ≡ length xs % 16 → s.used ≡ 0 → length xs ≤ length masks → length masks % 16 ≡ 0
    → (length xs < length masks → t.mask ≡ block_at masks (length xs / 16))
    → AreMasks up key s.first s.block_count masks
    → ys ≡ xor_bytes xs (take (length xs) masks) → Advances up key s t xs ys
unfolding counter_byte
began up key s t masks xs ys wraps first_stays counted used_is none room whole kept are xored =
    λ first made held.
    let n : ℕ = length xs in
    let place : 0 ≡ made % 16 = sym none ∙ held.used_is in
    let blocks : (made + 15) / 16 ≡ made / 16 = omega arith in
    let before : s.block_count ≡ (made / 16) % 2 ^ 32 = held.block_count_is ∙ ap (λ (x : ℕ). x % 2 ^ 32) blocks in
    let next : (s.block_count + (n + 15) / 16) % 2 ^ 32 ≡ (made + n + 15) / 16 % 2 ^ 32 = omega (arith, before, place) in
    let mask_at : (q : ℕ) → q * 16 < length masks → block_at masks q ≡ cipher key (up first (made / 16 + q)) =
    λ q within.
    let count : ((made / 16) % 2 ^ 32 + q) % 2 ^ 32 ≡ (made / 16 + q) % 2 ^ 32 = omega arith in
    are q within
    ∙ ap (cipher key) (ap₂ up held.first_is (ap (λ (x : ℕ). (x + q) % 2 ^ 32) before ∙ count)
    ∙ wraps first (made / 16 + q)) in
    let cut : length (take n masks) ≡ n = length-take-le n masks room in (
      record {
        first_is = first_stays ∙ held.first_is;
        block_count_is = counted ∙ next;
        used_is = omega (arith, used_is, place);
        mask_is = λ left.
            let last : made / 16 + n / 16 ≡ (made + n) / 16 = omega (arith, place) in
            let short : n < length masks = omega (arith, left, place, room, whole) in
            kept short ∙ mask_at (n / 16) (omega (arith, short)) ∙ ap (λ (x : ℕ). cipher key (up first x)) last;
      },
      xored ∙ xor_bytes-masked (counter_byte up key first) made xs (take n masks) (omega arith) (λ i l.
          let q : ℕ = i / 16 in
          let within : q * 16 < length masks = omega (arith, l, room) in
          let split : i ≡ q * 16 + i % 16 = omega arith in
          let block : (made + i) / 16 ≡ made / 16 + q = omega (arith, place) in
          let byte : (made + i) % 16 ≡ i % 16 = omega (arith, place) in
          get_or-take n masks i 0 (omega (arith, l))
          ∙ ap (λ (k : ℕ). get_or masks k 0) split ∙ sym (get_or-drop (q * 16) masks (i % 16) 0)
          ∙ sym (get_or-take 16 (drop (q * 16) masks) (i % 16) 0 (omega arith))
          ∙ ap (λ m. get_or m (i % 16) 0) (mask_at q within)
          ∙ sym (ap₂ (λ (b r : ℕ). get_or (cipher key (up first b)) r 0) block byte)),
    )

-- the blocks of 64 bytes and of others after them are the first four blocks and then the others
pub joined_after : (a x : List ℕ) (f : ℕ → List ℕ) (n : ℕ) → length a ≡ 64 → ((q : ℕ) → q < 4 → block_at a q ≡ f q)
    → ((q : ℕ) → q < n → block_at x q ≡ f (4 + q)) → (q : ℕ) → q < 4 + n → block_at (a ++ x) q ≡ f q
joined_after a x f n long front back zero h = block_at-append a x 0 (omega (arith, long)) ∙ front 0 (omega arith)
joined_after a x f n long front back (suc zero) h =
    block_at-append a x 1 (omega (arith, long)) ∙ front 1 (omega arith)
joined_after a x f n long front back (suc (suc zero)) h =
    block_at-append a x 2 (omega (arith, long)) ∙ front 2 (omega arith)
joined_after a x f n long front back (suc (suc (suc zero))) h =
    block_at-append a x 3 (omega (arith, long)) ∙ front 3 (omega arith)
joined_after a x f n long front back (suc (suc (suc (suc q)))) h =
    let next : suc (suc (suc (suc q))) ≡ 4 + q = omega arith in
    let place : (4 + q) * 16 ≡ 64 + q * 16 = omega arith in
    ap (block_at (a ++ x)) next ∙ ap (λ (i : ℕ). take 16 (drop i (a ++ x))) place ∙ ap (take 16) (sym (drop-drop (q * 16) 64 (a ++ x)))
    ∙ ap (λ l. take 16 (drop (q * 16) l)) (drop_at a x 64 long) ∙ back q (omega (arith, h)) ∙ ap f (sym next)

-- the blocks of four lists of 64 bytes, joined, are the sixteen blocks of these lists
pub joined_fours : (a b c d : List ℕ) (f : ℕ → List ℕ) → length a ≡ 64 → length b ≡ 64 → length c ≡ 64
    → ((q : ℕ) → q < 4 → block_at a q ≡ f q) → ((q : ℕ) → q < 4 → block_at b q ≡ f (4 + q))
    → ((q : ℕ) → q < 4 → block_at c q ≡ f (8 + q)) → ((q : ℕ) → q < 4 → block_at d q ≡ f (12 + q))
    → (q : ℕ) → q < 16 → block_at ((a ++ b) ++ (c ++ d)) q ≡ f q
joined_fours a b c d f la lb lc fa fb fc fd q h =
    ap (λ l. block_at l q) (append_assoc a b (c ++ d))
    ∙ joined_after a (b ++ (c ++ d)) f 12 la fa
    (joined_after b (c ++ d) (λ k. f (4 + k)) 8 lb fb
    (joined_after c d (λ k. f (4 + (4 + k))) 4 lc (λ k l. fc k l ∙ ap f (omega arith))
    (λ k l. fd k l ∙ ap f (omega arith)))) q h

-- a stream advances over no bytes by doing nothing
pub advances-nil : {C : Type 0} (up : List ℕ → ℕ → List ℕ) (key : List ℕ) (s : Counter C) → Advances up key s s [] []
unfolding masked
advances-nil up key s = λ first made held. (subst (Makes up s key first) (sym (add-zero made)) held, refl)

-- if a stream advances over one piece and then another, it advances over both joined
pub advances-append : {C : Type 0} (up : List ℕ → ℕ → List ℕ) (key : List ℕ) (s t u : Counter C) (a x b y : List ℕ)
    → Advances up key s t a x → Advances up key t u b y → Advances up key s u (a ++ b) (x ++ y)
advances-append up key s t u a x b y front back = λ first made held.
    let one = front first made held in
    let two = back first (made + length a) one.0 in
    let size : made + length a + length b ≡ made + length (a ++ b) = omega (arith, length-append a b) in (
      subst (Makes up u key first) size two.0,
      ap₂ (λ (v w : List ℕ). v ++ w) one.1 two.1 ∙ sym (masked-append (counter_byte up key first) made a b),
    )

-- if a stream advanced over the first a bytes, and then over k bytes that are written after them, it advanced over a + k bytes
pub advances_more : {C : Type 0} (up : List ℕ → ℕ → List ℕ) (key : List ℕ) (s t u : Counter C) (was mid ys : List ℕ)
    (a k b : ℕ)
    → a + k ≤ length mid → a + k ≡ b → length ys ≡ k → drop a mid ≡ drop a was
    → Advances up key s t (take a was) (take a mid) → Advances up key t u (take k (drop a mid)) ys
    → Advances up key s u (take b was) (take b (put_mid a k mid ys)) × (drop b (put_mid a k mid ys) ≡ drop b was)
advances_more up key s t u was mid ys a k b room sum size rest front back =
    let now : take b (put_mid a k mid ys) ≡ take a mid ++ ys =
    take-put_mid a k mid ys b (omega arith) (omega arith) in
    let old : take b was ≡ take a was ++ take k (drop a mid) =
    ap (λ i. take i was) (sym sum) ∙ take-add a k was ∙ ap (λ l. take a was ++ take k l) (sym rest) in
    let left : drop b (put_mid a k mid ys) ≡ drop b was =
    drop-put_mid a k mid ys b (omega arith) (omega arith) size
    ∙ ap (λ i. drop i mid) (sym sum) ∙ sym (drop-drop k a mid) ∙ ap (drop k) rest ∙ drop-drop k a was
    ∙ ap (λ i. drop i was) sum in
    let joined = advances-append up key s t u (take a was) (take a mid) (take k (drop a mid)) ys front back in
    (rw (now, old) joined, left)

-- if a stream advanced over the first b bytes, and there are no others, it advanced over all
pub advances_all : {C : Type 0} (up : List ℕ → ℕ → List ℕ) (key : List ℕ) (s t : Counter C) (was now : List ℕ) (b : ℕ)
    → length was ≤ b → length now ≤ b → Advances up key s t (take b was) (take b now) → Advances up key s t was now
advances_all up key s t was now b h k all = rw (take_all b was h, take_all b now k) at all

-- if a stream advanced over the rest of a block, and then over all that was left, it advanced over all
pub advances_two : {C : Type 0} (up : List ℕ → ℕ → List ℕ) (key : List ℕ) (s t u : Counter C) (was begun ys : List ℕ) (h : ℕ)
    → h ≤ length was → length begun ≡ h
    → length ys ≡ length (take (length (begun ++ drop h was) - h) (drop h (begun ++ drop h was)))
    → Advances up key s t (take h was) begun
    → Advances up key t u (take (length (begun ++ drop h was) - h) (drop h (begun ++ drop h was))) ys
    → Advances up key s u was (put_mid h (length (begun ++ drop h was) - h) (begun ++ drop h was) ys)
advances_two up key s t u was begun ys h within size same front back =
    let mid : List ℕ = begun ++ drop h was in
    let k : ℕ = length mid - h in
    let whole : length mid ≡ length was =
    length-append begun (drop h was) ∙ omega (arith, length-drop h was) in
    let part : length (take k (drop h mid)) ≡ k =
    length-take-le k (drop h mid) (omega (arith, length-drop h mid)) in
    let first : Advances up key s t (take h was) (take h mid) = rw (take_at begun (drop h was) h size) front in
    let more = advances_more up key s t u was mid ys h k (length was) (omega arith) (omega arith) (same ∙ part)
    (drop_at begun (drop h was) h size) first back in
    advances_all up key s u was (put_mid h k mid ys) (length was) (omega arith)
    (omega (arith, length-put_mid h k mid ys (omega arith) (same ∙ part))) more.0

-- a stream with no block begun has advanced over the first 0 bytes
pub front_none : {C : Type 0} (up : List ℕ → ℕ → List ℕ) (key : List ℕ) (s : Counter C) (was : List ℕ) → s.used ≡ 0
    → AdvancesFront up key s s was was 0
front_none up key s was none = record {
  within = omega arith;
  none = λ l. none;
  left = refl;
  front = advances-nil up key s;
}

-- so has one with the same numbers
pub front_same : {C : Type 0} (up : List ℕ → ℕ → List ℕ) (key : List ℕ) (s t : Counter C) (was : List ℕ) → t.first ≡ s.first
    → t.block_count ≡ s.block_count → t.used ≡ s.used → t.mask ≡ s.mask → s.used ≡ 0 → AdvancesFront up key s t was was 0
front_same up key s t was first_stays count_stays used_stays mask_stays none = record {
  within = omega arith;
  none = λ l. used_stays ∙ none;
  left = refl;
  front = λ first made held. advances-nil up key t first made (record {
    first_is = first_stays ∙ held.first_is;
    block_count_is = count_stays ∙ held.block_count_is;
    used_is = used_stays ∙ held.used_is;
    mask_is = λ l. mask_stays ∙ held.mask_is l;
  });
}

-- if a stream advanced over the first a bytes, and then over k bytes that are written after them, it advanced over the first b
pub front_more : {C : Type 0} (up : List ℕ → ℕ → List ℕ) (key : List ℕ) (s t u : Counter C) (was mid ys : List ℕ) (a k b : ℕ)
    → length mid ≡ length was → AdvancesFront up key s t was mid a → a + k ≤ length mid → a + k ≡ b → length ys ≡ k
    → Advances up key t u (take k (drop a mid)) ys → (b < length mid → u.used ≡ 0)
    → AdvancesFront up key s u was (put_mid a k mid ys) b
front_more up key s t u was mid ys a k b same begun room sum size more none =
    let both = advances_more up key s t u was mid ys a k b room sum size begun.left begun.front more in
    record {
      within = omega (arith, room, same, sum);
      none = λ l. none (omega (arith, l, same));
      left = both.1;
      front = both.0;
    }

-- if a stream advanced over the first a bytes, and then over the first r of all the others, it advanced over the first a + r
pub front_then : {C : Type 0} (up : List ℕ → ℕ → List ℕ) (key : List ℕ) (s t u : Counter C) (was mid ys : List ℕ) (a k r : ℕ)
    → length mid ≡ length was → AdvancesFront up key s t was mid a → k ≡ length mid - a → length ys ≡ k
    → AdvancesFront up key t u (take k (drop a mid)) ys r → AdvancesFront up key s u was (put_mid a k mid ys) (a + r)
front_then up key s t u was mid ys a k r same begun whole size more =
    let within : a ≤ length mid = omega (arith, same, begun.within) in
    let all : take k (drop a mid) ≡ drop a was =
    take_all k (drop a mid) (omega (arith, length-drop a mid, whole)) ∙ begun.left in
    let part : length (take k (drop a mid)) ≡ k = length-take-le k (drop a mid) (omega (arith, length-drop a mid, whole)) in
    let front : length (take a mid) ≡ a = length-take-le a mid within in
    let last : put_mid a k mid ys ≡ take a mid ++ ys =
    ap (λ l. take a mid ++ (ys ++ l)) (drop_all k (drop a mid) (omega (arith, length-drop a mid, whole)))
    ∙ ap (λ l. take a mid ++ l) (append-nil ys) in
    let now : take (a + r) (put_mid a k mid ys) ≡ take a mid ++ take r ys =
    ap (take (a + r)) last ∙ take-add a r (take a mid ++ ys)
    ∙ ap₂ (λ (x y : List ℕ). x ++ take r y) (take_at (take a mid) ys a front) (drop_at (take a mid) ys a front) in
    let old : take (a + r) was ≡ take a was ++ take r (take k (drop a mid)) =
    take-add a r was ∙ ap (λ l. take a was ++ take r l) (sym all) in
    record {
      within = omega (arith, more.within, part, whole, within, same);
      none = λ l. more.none (omega (arith, l, part, whole, within, same));
      left = ap (drop (a + r)) last ∙ sym (drop-drop r a (take a mid ++ ys))
          ∙ ap (drop r) (drop_at (take a mid) ys a front) ∙ more.left ∙ ap (drop r) all ∙ drop-drop r a was;
      front = rw (now, old) (advances-append up key s t u (take a was) (take a mid) (take r (take k (drop a mid)))
          (take r ys) begun.front more.front);
    }

-- if a stream advanced over the first n bytes, and there are no others, it advanced over all
pub front_all : {C : Type 0} (up : List ℕ → ℕ → List ℕ) (key : List ℕ) (s t : Counter C) (was now : List ℕ) (n : ℕ)
    → length now ≡ length was → AdvancesFront up key s t was now n → length was ≤ n → Advances up key s t was now
front_all up key s t was now n same begun all =
    advances_all up key s t was now n all (omega (arith, same, all)) begun.front
