-- Bytes into which the key stream is XORed, one run after the other.
use Rattle.std.proofs.Common.{◌≡◌, ℕ, suc, ◌+◌, ◌-◌, ◌*◌, ◌/◌, ◌%◌, ◌<◌, ◌≤◌, bit_xor, refl, sym, ap, ap₂}
use Rattle.std.proofs.Common.{◌∙◌, arith}
use Rattle.std.proofs.Common.{zero, List, [], ◌∷◌, ◌++◌, length, length-append, take, drop, get_or, min}
use Rattle.std.proofs.Common.{append_assoc, replicate}
use Rattle.std.specs.Int.Bits.{xor_zero_l}
use Rattle.std.proofs.lemmas.List.{get_or-take, get_or-drop}
use Rattle.std.proofs.lemmas.List.{length-take-le, length-drop}
use Rattle.std.proofs.lemmas.List.{take_at, drop_at, drop-drop, take_all, drop_all, append-nil}
use Rattle.std.proofs.Math.Seq.{take-add}
use Rattle.std.proofs.lemmas.Simd.{length-replicate, get_or-replicate}
use borrow.Rule.Slice.PartMut.{put_mid}
use Rattle.octets.specs.Bytes.{xor_bytes}
use Rattle.octets.specs.Masked.{masked}
use Rattle.octets.proofs.Masks.{length-masked, masked-append, xor_bytes-masked}
use Rattle.chacha.specs.Block.{serialized, block}
use Rattle.chacha.specs.Stream.{key_stream_byte}
use Rattle.chacha.proofs.Lengths.{length-block}

-- two streams that agree from places p and q on mask a list alike
pub masked_same : (f g : ℕ → ℕ) (p q : ℕ) (xs : List ℕ) → ((j : ℕ) → f (p + j) ≡ g (q + j))
    → masked f p xs ≡ masked g q xs
unfolding masked
masked_same f g p q [] same = refl
masked_same f g p q (x ∷ xs) same =
    let p0 : p + 0 ≡ p = omega arith in
    let q0 : q + 0 ≡ q = omega arith in
    ap₂ (λ (y : ℕ) (ys : List ℕ). bit_xor x y ∷ ys) (ap f (sym p0) ∙ same 0 ∙ ap g q0)
    (masked_same f g (suc p) (suc q) xs (λ j.
    let p1 : suc p + j ≡ p + suc j = omega arith in
    let q1 : suc q + j ≡ q + suc j = omega arith in
    ap f p1 ∙ same (suc j) ∙ ap g (sym q1)))

-- a byte of the key stream from counter `first` on is the byte 64 * `first` places later in the key stream from counter 0 on
pub key_stream_byte-first : (key nonce : List ℕ) (first made i : ℕ)
    → key_stream_byte key nonce 0 (first * 64 + made + i) ≡ key_stream_byte key nonce first (made + i)
unfolding key_stream_byte
key_stream_byte-first key nonce first made i =
    let counter : 0 + (first * 64 + made + i) / 64 ≡ first + (made + i) / 64 = omega arith in
    let place : (first * 64 + made + i) % 64 ≡ (made + i) % 64 = omega arith in
    ap₂ (λ (c j : ℕ). get_or (block key c nonce) j 0) counter place

-- the bytes of a block are the first ones of the key stream from its counter on
pub block_bytes : (key nonce : List ℕ) (c i : ℕ) → i < 64 → get_or (block key c nonce) i 0
    ≡ key_stream_byte key nonce c i
unfolding key_stream_byte
block_bytes key nonce c i below =
    let counter : c ≡ c + i / 64 = omega arith in
    let place : i ≡ i % 64 = omega arith in
    ap₂ (λ (n j : ℕ). get_or (block key n nonce) j 0) counter place

-- a byte that was 0 becomes the byte of the stream
masked_zero : (f : ℕ → ℕ) (at i k : ℕ) (xs : List ℕ) → i < length xs → get_or xs i 0 ≡ 0 → k ≡ at + i
    → get_or (masked f at xs) i 0 ≡ f k
unfolding masked
masked_zero f at i k [] below is_zero e = absurd (omega arith)
masked_zero f at zero k (x ∷ xs) below is_zero e =
    let same : at ≡ k = omega arith in
    ap (λ (y : ℕ). bit_xor y (f at)) is_zero ∙ xor_zero_l (f at) ∙ ap f same
masked_zero f at (suc i) k (x ∷ xs) below is_zero e = masked_zero f (suc at) i k xs (omega arith) is_zero
    (omega arith)

-- XORing a block into 64 bytes masks them at the place of the block in the key stream
block_masked : (key nonce : List ℕ) (c j at : ℕ) (xs words : List ℕ) → length xs ≡ 64 → at ≡ 64 * j
    → words ≡ block key (c + j) nonce
    → xor_bytes xs words ≡ masked (key_stream_byte key nonce c) at xs
unfolding key_stream_byte
block_masked key nonce c j at xs words size is_at is_block =
    xor_bytes-masked (key_stream_byte key nonce c) at xs words (ap length is_block
    ∙ length-block key (c + j) nonce ∙ sym size) (λ i l.
    let counter : c + j ≡ c + (at + i) / 64 = omega arith in
    let place : i ≡ (at + i) % 64 = omega arith in
    ap (λ b. get_or b i 0) is_block ∙ ap₂ (λ (n k : ℕ). get_or (block key n nonce) k 0) counter place)

-- XORing four blocks into 256 bytes masks them with the key stream from the first counter on
pub four_masked : (key nonce : List ℕ) (c : ℕ) (l : ℕ → List ℕ) (a b d e now_a now_b now_d now_e : List ℕ)
    → ((j : ℕ) → j < 4 → serialized (l j) ≡ block key (c + j) nonce)
    → length a ≡ 64 → length b ≡ 64 → length d ≡ 64 → length e ≡ 64
    → now_a ≡ xor_bytes a (serialized (l 0)) → now_b ≡ xor_bytes b (serialized (l 1))
    → now_d ≡ xor_bytes d (serialized (l 2)) → now_e ≡ xor_bytes e (serialized (l 3))
    → now_a ++ now_b ++ (now_d ++ now_e) ≡ masked (key_stream_byte key nonce c) 0 (a ++ b ++ (d ++ e))
four_masked key nonce c l a b d e now_a now_b now_d now_e has a64 b64 d64 e64 is_a is_b is_d is_e =
    let f = key_stream_byte key nonce c in
    let at_b : 0 + length a ≡ 64 = omega (arith, a64) in
    let at_d : 0 + length (a ++ b) ≡ 128 = omega (arith, a64, b64, length-append a b) in
    let at_e : 128 + length d ≡ 192 = omega (arith, d64) in
    let first : now_a ≡ masked f 0 a = is_a ∙ block_masked key nonce c 0 0 a _ a64 refl
    (has 0 (omega arith)) in
    let second : now_b ≡ masked f 64 b = is_b ∙ block_masked key nonce c 1 64 b _ b64 refl
    (has 1 (omega arith)) in
    let third : now_d ≡ masked f 128 d = is_d ∙ block_masked key nonce c 2 128 d _ d64 refl
    (has 2 (omega arith)) in
    let fourth : now_e ≡ masked f 192 e = is_e ∙ block_masked key nonce c 3 192 e _ e64 refl
    (has 3 (omega arith)) in
    ap₂ (λ (y z : List ℕ). y ++ z)
    (ap₂ (λ (y z : List ℕ). y ++ z) first second
    ∙ sym (masked-append f 0 a b ∙ ap (λ (n : ℕ). masked f 0 a ++ masked f n b) at_b))
    (ap₂ (λ (y z : List ℕ). y ++ z) third fourth ∙ sym (masked-append f 128 d e
    ∙ ap (λ (n : ℕ). masked f 128 d ++ masked f n e) at_e))
    ∙ sym (masked-append f 0 (a ++ b) (d ++ e) ∙ ap (λ (n : ℕ). masked f 0 (a ++ b) ++ masked f n (d ++ e))
    at_d)

-- the key stream from the counter c + k on is that from the counter c on, at offset 64 * k
pub later : (key nonce : List ℕ) (c k : ℕ) (xs : List ℕ)
    → masked (key_stream_byte key nonce (c + k)) 0 xs ≡ masked (key_stream_byte key nonce c) (64 * k) xs
unfolding key_stream_byte
later key nonce c k xs =
    masked_same (key_stream_byte key nonce (c + k)) (key_stream_byte key nonce c) 0 (64 * k) xs (λ j.
    let counter : c + k + (0 + j) / 64 ≡ c + (64 * k + j) / 64 = omega arith in
    let place : (0 + j) % 64 ≡ (64 * k + j) % 64 = omega arith in
    ap₂ (λ (n i : ℕ). get_or (block key n nonce) i 0) counter place)

-- if the first k blocks are masked, and the bytes after them from the counter c + k on, all are masked from the counter c on
pub joined : (key nonce : List ℕ) (c k : ℕ) (front back a b : List ℕ) → length front ≡ 64 * k
    → a ≡ masked (key_stream_byte key nonce c) 0 front
    → b ≡ masked (key_stream_byte key nonce (c + k)) 0 back
    → a ++ b ≡ masked (key_stream_byte key nonce c) 0 (front ++ back)
joined key nonce c k front back a b long is_a is_b =
    let f = key_stream_byte key nonce c in
    let at : 0 + length front ≡ 64 * k = omega (arith, long) in
    ap₂ (λ (y z : List ℕ). y ++ z) is_a (is_b ∙ later key nonce c k back)
    ∙ sym (masked-append f 0 front back ∙ ap (λ (n : ℕ). masked f 0 front ++ masked f n back) at)

-- if the first block is masked, and the bytes after it from the next counter on, all are masked from the counter c on
pub joined_block : (key nonce : List ℕ) (c : ℕ) (front back first a b : List ℕ) → length front ≡ 64
    → first ≡ block key c nonce → a ≡ xor_bytes front first
    → b ≡ masked (key_stream_byte key nonce (c + 1)) 0 back
    → a ++ b ≡ masked (key_stream_byte key nonce c) 0 (front ++ back)
joined_block key nonce c front back first a b long is_first is_a =
    let same : c ≡ c + 0 = omega arith in
    joined key nonce c 1 front back a b long
    (is_a ∙ block_masked key nonce c 0 0 front first long refl (is_first ∙ ap (λ n. block key n nonce) same))

-- the key stream from the counter p / 64 on is the key stream from counter 0 on, at place p, if p begins a block
pub whole_blocks : (key nonce : List ℕ) (p : ℕ) (xs : List ℕ) → p % 64 ≡ 0
    → masked (key_stream_byte key nonce (p / 64)) 0 xs ≡ masked (key_stream_byte key nonce 0) p xs
whole_blocks key nonce p xs begins =
    masked_same (key_stream_byte key nonce (p / 64)) (key_stream_byte key nonce 0) 0 p xs (λ j.
    let place : p / 64 * 64 + 0 + j ≡ p + j = omega arith in
    sym (key_stream_byte-first key nonce (p / 64) 0 j) ∙ ap (key_stream_byte key nonce 0) place)

-- if a stream agrees with the key stream from the counter p / 64 on, XORing in its bytes from place p mod 64 on masks a run of
-- bytes at place p
pub run_of_stream : (key nonce : List ℕ) (p size n : ℕ) (bytes stream now : List ℕ) → length stream ≡ size
    → ((i : ℕ) → i < size → get_or stream i 0 ≡ key_stream_byte key nonce (p / 64) i)
    → n ≡ min (length stream - p % 64) (length bytes)
    → now ≡ xor_bytes (take n bytes) (take n (drop (p % 64) stream)) ++ drop n bytes
    → now ≡ masked (key_stream_byte key nonce 0) p (take n bytes) ++ drop n bytes
run_of_stream key nonce p size n bytes stream now long same least is_now =
    let s : ℕ = p % 64 in
    let part = take n (drop s stream) in
    let whole : length (take n bytes) ≡ n = length-take-le n bytes (omega arith) in
    let room : length part ≡ n = length-take-le n (drop s stream) (omega (arith, length-drop s stream)) in
    is_now
    ∙ ap (λ l. l ++ drop n bytes)
    (xor_bytes-masked (key_stream_byte key nonce 0) p (take n bytes) part (room ∙ sym whole) (λ j l.
    let place : p / 64 * 64 + s + j ≡ p + j = omega arith in
    get_or-take n (drop s stream) j 0 (omega (arith, whole)) ∙ get_or-drop s stream j 0
    ∙ same (s + j) (omega (arith, l, whole))
    ∙ sym (key_stream_byte-first key nonce (p / 64) s j) ∙ ap (key_stream_byte key nonce 0) place))

-- if the key stream is XORed into zeros, the result is the bytes of the key stream
pub bytes_of_zeros : (f : ℕ → ℕ) (size i : ℕ) → i < size → get_or (masked f 0 (replicate size 0)) i 0 ≡ f i
bytes_of_zeros f size i l =
    masked_zero f 0 i i (replicate size 0) (omega (arith, l, length-replicate {A = ℕ} size 0))
    (get_or-replicate size i 0 0 l) (omega arith)

-- bytes that result from zeros into which the key stream was XORed are the bytes of the key stream
pub bytes_from_zeros : (f : ℕ → ℕ) (size : ℕ) (bytes : List ℕ) → bytes ≡ masked f 0 (replicate size 0)
    → (i : ℕ) → i < length bytes → get_or bytes i 0 ≡ f i
bytes_from_zeros f size bytes are i l =
    let long : length bytes ≡ size =
    ap length are ∙ length-masked f 0 (replicate size 0) ∙ length-replicate {A = ℕ} size 0 in
    ap (λ bs. get_or bs i 0) are ∙ bytes_of_zeros f size i (omega (arith, l, long))

-- a run of bytes is masked at place p, if the stream is zeros into which the key stream was XORed
pub run_of_zeros : (key nonce : List ℕ) (p size n : ℕ) (bytes stream now : List ℕ)
    → stream ≡ masked (key_stream_byte key nonce (p / 64)) 0 (replicate size 0) → length stream ≡ size
    → n ≡ min (length stream - p % 64) (length bytes)
    → now ≡ xor_bytes (take n bytes) (take n (drop (p % 64) stream)) ++ drop n bytes
    → now ≡ masked (key_stream_byte key nonce 0) p (take n bytes) ++ drop n bytes
run_of_zeros key nonce p size n bytes stream now is_stream long =
    run_of_stream key nonce p size n bytes stream now long (λ i l.
    ap (λ s. get_or s i 0) is_stream ∙ bytes_of_zeros (key_stream_byte key nonce (p / 64)) size i l)

-- if k bytes are masked at place p, which begins a block, and then the first n bytes after them, k + n bytes are masked
pub front_and_run : (key nonce : List ℕ) (p k n : ℕ) (bytes xs ys now stream rest : List ℕ) → p % 64 ≡ 0
    → k % 64 ≡ 0 → length xs ≡ k → bytes ≡ xs ++ ys
    → now ≡ masked (key_stream_byte key nonce (p / 64)) 0 xs
    → stream ≡ masked (key_stream_byte key nonce (p / 64 + k / 64)) 0 (replicate k 0) → length stream ≡ k
    → n ≡ min (length stream - 0) (length ys)
    → rest ≡ xor_bytes (take n ys) (take n (drop 0 stream)) ++ drop n ys
    → now ++ rest ≡ masked (key_stream_byte key nonce 0) p (take (k + n) bytes) ++ drop (k + n) bytes
front_and_run key nonce p k n bytes xs ys now stream rest begins whole long split is_now is_stream size least is_rest =
    let f = key_stream_byte key nonce 0 in
    let counter : p / 64 + k / 64 ≡ (p + k) / 64 = omega (arith, begins, whole) in
    let skip : 0 ≡ (p + k) % 64 = omega (arith, begins, whole) in
    let place : p + length xs ≡ p + k = omega (arith, long) in
    let front : now ≡ masked f p xs = is_now ∙ whole_blocks key nonce p xs begins in
    let back : rest ≡ masked f (p + k) (take n ys) ++ drop n ys =
    run_of_zeros key nonce (p + k) k n ys stream rest
    (is_stream ∙ ap (λ c. masked (key_stream_byte key nonce c) 0 (replicate k 0)) counter) size
    (least ∙ ap (λ s. min (length stream - s) (length ys)) skip)
    (is_rest ∙ ap (λ s. xor_bytes (take n ys) (take n (drop s stream)) ++ drop n ys) skip) in
    let taken : take (k + n) bytes ≡ xs ++ take n ys =
    ap (take (k + n)) split ∙ take-add k n (xs ++ ys)
    ∙ ap₂ (λ (x y : List ℕ). x ++ take n y) (take_at xs ys k long) (drop_at xs ys k long) in
    let dropped : drop (k + n) bytes ≡ drop n ys =
    ap (drop (k + n)) split ∙ sym (drop-drop n k (xs ++ ys)) ∙ ap (drop n) (drop_at xs ys k long) in
    ap₂ (λ (x y : List ℕ). x ++ y) front back
    ∙ sym (append_assoc (masked f p xs) (masked f (p + k) (take n ys)) (drop n ys))
    ∙ ap₂ (λ (x y : List ℕ). x ++ y)
    (sym (ap (masked f p) taken ∙ masked-append f p xs (take n ys)
    ∙ ap (λ i. masked f p xs ++ masked f i (take n ys)) place)) (sym dropped)

-- a run of bytes is masked at place p, if the stream is one block
pub run_of_block : (key nonce : List ℕ) (p n : ℕ) (bytes stream now : List ℕ)
    → stream ≡ block key (p / 64) nonce
    → n ≡ min (length stream - p % 64) (length bytes)
    → now ≡ xor_bytes (take n bytes) (take n (drop (p % 64) stream)) ++ drop n bytes
    → now ≡ masked (key_stream_byte key nonce 0) p (take n bytes) ++ drop n bytes
run_of_block key nonce p n bytes stream now is_block =
    run_of_stream key nonce p 64 n bytes stream now (ap length is_block ∙ length-block key (p / 64) nonce)
    (λ i l.
    ap (λ s. get_or s i 0) is_block ∙ block_bytes key nonce (p / 64) i l)

-- before the first run, no bytes are masked
pub no_run : (f : ℕ → ℕ) (p : ℕ) (was : List ℕ) → was ≡ masked f p (take 0 was) ++ drop 0 was
unfolding masked
no_run f p was = refl

-- if r of the bytes after the first a are masked, the first a + r bytes are masked
pub run_more : (f : ℕ → ℕ) (p a k r : ℕ) (was mid now : List ℕ) → a + k ≡ length was → r ≤ k
    → mid ≡ masked f p (take a was) ++ drop a was
    → now ≡ masked f (p + a) (take r (take k (drop a mid))) ++ drop r (take k (drop a mid))
    → put_mid a k mid now ≡ masked f p (take (a + r) was) ++ drop (a + r) was
run_more f p a k r was mid now whole room held done =
    let u = take a was in
    let d = drop a was in
    let len : length u ≡ a = length-take-le a was (omega arith) in
    let size : length (masked f p u) ≡ a = length-masked f p u ∙ len in
    let long : length d ≤ k = omega (arith, length-drop a was) in
    let front : take a mid ≡ masked f p u = ap (take a) held ∙ take_at (masked f p u) d a size in
    let back : drop a mid ≡ d = ap (drop a) held ∙ drop_at (masked f p u) d a size in
    let part : take k (drop a mid) ≡ d = ap (take k) back ∙ take_all k d long in
    let none : drop k (drop a mid) ≡ [] = ap (drop k) back ∙ drop_all k d long in
    let new : now ≡ masked f (p + a) (take r d) ++ drop r d = done ∙ ap (λ l. masked f (p + a) (take r l)
    ++ drop r l) part in
    let end : now ++ drop k (drop a mid) ≡ masked f (p + a) (take r d) ++ drop r d =
    ap₂ (λ (x y : List ℕ). x ++ y) new none ∙ append-nil (masked f (p + a) (take r d) ++ drop r d) in
    let taken : masked f p (take (a + r) was) ≡ masked f p u ++ masked f (p + a) (take r d) =
    ap (masked f p) (take-add a r was) ∙ masked-append f p u (take r d) ∙ ap (λ (n : ℕ). masked f p u
    ++ masked f (p + n) (take r d)) len in
    ap₂ (λ (x y : List ℕ). x ++ y) front end
    ∙ sym (append_assoc (masked f p u) (masked f (p + a) (take r d)) (drop r d))
    ∙ ap₂ (λ (x y : List ℕ). x ++ y) (sym taken) (drop-drop r a was)

-- if the k bytes after the first a are masked, the first a + k bytes are masked
whole_run_more : (f : ℕ → ℕ) (p a k : ℕ) (was mid now : List ℕ) → a ≤ length was
    → mid ≡ masked f p (take a was) ++ drop a was
    → now ≡ masked f (p + a) (take k (drop a mid))
    → put_mid a k mid now ≡ masked f p (take (a + k) was) ++ drop (a + k) was
whole_run_more f p a k was mid now within held done =
    let u = take a was in
    let d = drop a was in
    let len : length u ≡ a = length-take-le a was within in
    let size : length (masked f p u) ≡ a = length-masked f p u ∙ len in
    let front : take a mid ≡ masked f p u = ap (take a) held ∙ take_at (masked f p u) d a size in
    let back : drop a mid ≡ d = ap (drop a) held ∙ drop_at (masked f p u) d a size in
    let taken : masked f p (take (a + k) was) ≡ masked f p u ++ masked f (p + a) (take k d) =
    ap (masked f p) (take-add a k was) ∙ masked-append f p u (take k d) ∙ ap (λ (n : ℕ). masked f p u
    ++ masked f (p + n) (take k d)) len in
    ap₂ (λ (x y : List ℕ). x ++ y) front
    (ap₂ (λ (x y : List ℕ). x ++ y) (done ∙ ap (λ l. masked f (p + a) (take k l)) back) (ap (drop k) back))
    ∙ sym (append_assoc (masked f p u) (masked f (p + a) (take k d)) (drop k d))
    ∙ ap₂ (λ (x y : List ℕ). x ++ y) (sym taken) (drop-drop k a was)

-- if k bytes of the next blocks are masked, of a text whose first block has the counter c, the first a + k bytes are masked
pub blocks_more : (key nonce : List ℕ) (c a k : ℕ) (was mid now : List ℕ) → a % 64 ≡ 0 → a ≤ length was
    → mid ≡ masked (key_stream_byte key nonce c) 0 (take a was) ++ drop a was
    → now ≡ masked (key_stream_byte key nonce (c + a / 64)) 0 (take (a + k - a) (drop a mid))
    → put_mid a (a + k - a) mid now
    ≡ masked (key_stream_byte key nonce c) 0 (take (a + k) was) ++ drop (a + k) was
blocks_more key nonce c a k was mid now begins within held done =
    let f = key_stream_byte key nonce c in
    let run = take (a + k - a) (drop a mid) in
    let place : 64 * (a / 64) ≡ 0 + a = omega (arith, begins) in
    let part : a + (a + k - a) ≡ a + k = omega arith in
    whole_run_more f 0 a (a + k - a) was mid now within held
    (done ∙ later key nonce c (a / 64) run ∙ ap (λ p. masked f p run) place)
    ∙ ap (λ m. masked f 0 (take m was) ++ drop m was) part

-- if the runs reach the end, the whole text is masked
pub all_runs : (f : ℕ → ℕ) (p n : ℕ) (was : List ℕ) → length was ≤ n → masked f p (take n was) ++ drop n was
    ≡ masked f p was
all_runs f p n was whole =
    let taken : take n was ≡ was = take_all n was whole in
    let rest : drop n was ≡ [] = drop_all n was whole in
    rw (taken, rest) (append-nil (masked f p was))
