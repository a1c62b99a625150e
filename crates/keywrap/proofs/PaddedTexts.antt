-- Padded texts, the registers that their wrappings start from, and the transformation of these registers.
use Rattle.std.proofs.Common.{◌≡◌, ◌≢◌, ℕ, zero, suc, ◌+◌, ◌-◌, ◌*◌, ◌/◌, ◌%◌, ◌^◌, ◌<◌, ◌≤◌, Bool}
use Rattle.std.proofs.Common.{true, false, eqb, List, [], ◌∷◌, ◌++◌, take, drop, length, replicate, refl}
use Rattle.std.proofs.Common.{sym, ap, ap₂, ◌∙◌, subst, arith, length-append, length-drop, append_assoc}
use Rattle.std.specs.Prelude.{Option, Some, None, MatchOption, IfSome}
use Rattle.std.specs.Int.{bytes_high_first, from_be_bytes, w32}
use Rattle.std.proofs.lemmas.Nat.{from_be_bytes-to_be_bytes_4, be_bytes_4}
use Rattle.std.proofs.lemmas.Bool.{eqb-true}
use Rattle.std.proofs.lemmas.List.{take_at, drop_at, drop_all, append-nil, take-append-drop, take_all}
use Rattle.std.proofs.lemmas.List.{length-replicate, length-take-le}
use Rattle.std.proofs.Math.Seq.{take-add}
use Rattle.octets.specs.Bytes.{AreBytes}
use Rattle.aes.specs.Cipher.{cipher, IsKey, IsPermutation}
use Rattle.keywrap.specs.Wrapping.{steps}
use Rattle.keywrap.specs.Padded.{constant, alternative_value, padded, transformed, HasPaddableLength}
use Rattle.keywrap.specs.Padded.{HasBlocks, HasPaddedRoom, UnwrappedPadded, IsPaddedWrapping}
use Rattle.keywrap.specs.Code.Padded.{IsStartOf, IsPaddedStart, stated}
use Rattle.keywrap.specs.Padded.{HasOnePaddedText}
use borrow.Rule.Slice.PartMut.{put_mid}
use Rattle.keywrap.proofs.Blocks.{length_cipher}
use Rattle.keywrap.proofs.Texts.{steps_length}
use Rattle.keywrap.proofs.Bytes.{bytes_append, bytes_resized, bytes_take, bytes_drop, bytes_replicate}
use Rattle.keywrap.proofs.Bytes.{bytes_number, same_front, same_back, steps_bytes, steps_one_to_one}

-- A and one block are transformed by the cipher
pub transformed_one : (key s : List ℕ) → length s ≡ 16 → transformed key s ≡ cipher key s
unfolding transformed
transformed_one key s e = rw e refl

-- numbers that differ fail the test
differs : (m n : ℕ) → m ≢ n → eqb m n ≡ false
differs m n d = grind arith

-- A and two or more blocks are transformed by the steps
pub transformed_more : (key s : List ℕ) → length s ≢ 16
    → transformed key s ≡ steps key (6 * ((length s - 8) / 8)) s
unfolding transformed
transformed_more key s d = rw (differs (length s) 16 d) refl

-- a test of a number against itself does not fail
fails : eqb 16 16 ≡ false → ⊥
fails e = cc

-- the transformation takes n bytes to n bytes, if n is at least 16
made_bytes : (b : Bool) (key s : List ℕ) (n : ℕ) → eqb n 16 ≡ b → IsPermutation → IsKey key → AreBytes n s
    → 16 ≤ n → AreBytes n (transformed key s)
made_bytes true key s n e law k h l =
    let long : n ≡ 16 = eqb-true n 16 e in
    let block : AreBytes 16 s = bytes_resized n 16 s long h in
    rw (transformed_one key s block.length_is)
    (bytes_resized 16 n (cipher key s) (sym long) ((law key k).0 s block))
made_bytes false key s n e law k h l =
    let d : length s ≢ 16 = λ is. fails (sym (ap (λ m. eqb m 16) (sym h.length_is ∙ is)) ∙ e) in
    rw (transformed_more key s d) (steps_bytes key s (6 * ((length s - 8) / 8)) n law k h l)

-- the transformation of n bytes is one to one
made_one_to_one : (b : Bool) (key s r : List ℕ) (n : ℕ) → eqb n 16 ≡ b → IsPermutation → IsKey key
    → AreBytes n s → AreBytes n r → 16 ≤ n
    → transformed key s ≡ transformed key r → s ≡ r
made_one_to_one true key s r n e law k h i l same =
    let long : n ≡ 16 = eqb-true n 16 e in
    let x : AreBytes 16 s = bytes_resized n 16 s long h in
    let y : AreBytes 16 r = bytes_resized n 16 r long i in
    (law key k).1 s r x y (sym (transformed_one key s x.length_is) ∙ same ∙ transformed_one key r y.length_is)
made_one_to_one false key s r n e law k h i l same =
    let none : n ≢ 16 = λ is. fails (sym (ap (λ m. eqb m 16) is) ∙ e) in
    let ds : length s ≢ 16 = λ is. none (sym h.length_is ∙ is) in
    let dr : length r ≢ 16 = λ is. none (sym i.length_is ∙ is) in
    let count : length s ≡ length r = h.length_is ∙ sym i.length_is in
    steps_one_to_one key s r (6 * ((length r - 8) / 8)) n law k h i l
    (ap (λ m. steps key (6 * ((m - 8) / 8)) s) (sym count) ∙ sym (transformed_more key s ds) ∙ same
    ∙ transformed_more key r dr)

-- a padded text has whole blocks, and no block more than it needs
pub padded_long : (text : List ℕ) → (length (padded text) % 8 ≡ 0) × (length text ≤ length (padded text))
    × (length (padded text) < length text + 8)
padded_long text =
    let all : length (padded text) ≡ length text + (8 - length text % 8) % 8 =
    length-append text (replicate ((8 - length text % 8) % 8) 0)
    ∙ ap (λ n. length text + n) (length-replicate ((8 - length text % 8) % 8) 0) in
    (omega arith, omega arith, omega arith)

-- the register of a text: the alternative initial value and the padded text
abbrev pub start : List ℕ → List ℕ
start text = alternative_value (length text) ++ padded text

-- the register of a text consists of bytes, eight more than the padded text has
pub start_bytes : (text : List ℕ) → AreBytes (length text) text
    → AreBytes (8 + length (padded text)) (start text)
start_bytes text b =
    let zeros : ℕ = (8 - length text % 8) % 8 in
    let long : length text + zeros ≡ length (padded text) =
    sym (length-append text (replicate zeros 0) ∙ ap (λ n. length text + n) (length-replicate zeros 0)) in
    bytes_append 8 (length (padded text)) (alternative_value (length text)) (padded text)
    (bytes_append 4 4 constant (bytes_high_first 4 (length text)) (bytes_number 4 0xa65959a6)
    (bytes_number 4 (length text)))
    (bytes_resized (length text + zeros) (length (padded text)) (padded text) long
    (bytes_append (length text) zeros text (replicate zeros 0) b (bytes_replicate zeros 0 (omega arith))))

-- lengths below 2^32 with the same alternative initial value are equal
pub one_length : (m n : ℕ) → m < 2 ^ 32 → n < 2 ^ 32 → alternative_value m ≡ alternative_value n → m ≡ n
one_length m n lm ln e =
    sym (from_be_bytes-to_be_bytes_4 m lm)
    ∙ ap (from_be_bytes w32) (same_back constant constant (bytes_high_first 4 m) (bytes_high_first 4 n) refl
    e)
    ∙ from_be_bytes-to_be_bytes_4 n ln

-- texts to pad with the same register are equal
pub one_start : (text other : List ℕ) → HasPaddableLength text → HasPaddableLength other
    → start text ≡ start other → text ≡ other
one_start text other h i e =
    let fronts : alternative_value (length text) ≡ alternative_value (length other) =
    same_front (alternative_value (length text)) (alternative_value (length other)) (padded text)
    (padded other) refl e in
    let backs : padded text ≡ padded other =
    same_back (alternative_value (length text)) (alternative_value (length other)) (padded text)
    (padded other) refl e in
    let long : length text ≡ length other = one_length (length text) (length other) h.most i.most fronts in
    same_front text other (replicate ((8 - length text % 8) % 8) 0)
    (replicate ((8 - length other % 8) % 8) 0) long backs

-- the register of a text has whole blocks, and at least one
pub start_long : (text : List ℕ) → 1 ≤ length text → 16 ≤ 8 + length (padded text)
start_long text h = omega (arith, (padded_long text).0, (padded_long text).1)

-- a wrapping with padding is as long as the register of its text
pub wrapped_bytes : (key wrapped text : List ℕ) → IsPermutation → IsKey key
    → UnwrappedPadded key wrapped text → AreBytes (8 + length (padded text)) wrapped
wrapped_bytes key wrapped text law k u =
    rw u.is (made_bytes (eqb (8 + length (padded text)) 16) key (start text) (8 + length (padded text)) refl
    law k (start_bytes text u.bytes) (start_long text u.length_is.least))

-- a register that is transformed into a wrapping of the text is the register of the text
pub only_start : (key wrapped text s : List ℕ) → IsPermutation → IsKey key → AreBytes (length wrapped) s
    → transformed key s ≡ wrapped
    → UnwrappedPadded key wrapped text → s ≡ start text
only_start key wrapped text s law k b e u =
    let n : ℕ = 8 + length (padded text) in
    let long : length wrapped ≡ n = (wrapped_bytes key wrapped text law k u).length_is in
    made_one_to_one (eqb n 16) key s (start text) n refl law k (bytes_resized (length wrapped) n s long b)
    (start_bytes text u.bytes)
    (start_long text u.length_is.least) (e ∙ u.is)

-- a wrapping with padding has only one text
pub one_text : IsPermutation → HasOnePaddedText
one_text law key k wrapped text u = (
  (wrapped_bytes key wrapped text law k u).length_is ∙ omega arith,
  λ other v.
      let long : 8 + length (padded other) ≡ length wrapped =
      sym (wrapped_bytes key wrapped other law k v).length_is in
      one_start other text v.length_is u.length_is
      (only_start key wrapped text (start other) law k
      (bytes_resized (8 + length (padded other)) (length wrapped) (start other) long
      (start_bytes other v.bytes)) (sym v.is) u),
)

-- whole blocks that have fewer than 8 bytes after the first n, all of them 0, are those n bytes with their padding
pub padded_by : (n : ℕ) (blocks : List ℕ) → length blocks % 8 ≡ 0 → n ≤ length blocks → length blocks < n + 8
    → drop n blocks ≡ replicate (length blocks - n) 0
    → blocks ≡ padded (take n blocks)
padded_by n blocks whole least few h =
    let long : length (take n blocks) ≡ n = length-take-le n blocks least in
    let rest : length blocks - n ≡ (8 - length (take n blocks) % 8) % 8 = omega arith in
    sym (take-append-drop n blocks) ∙ ap (λ z. take n blocks ++ z)
    (h ∙ ap (λ (m : ℕ). replicate m 0) rest)

-- the transformation keeps the length of a register of 16 bytes or more, whatever the key
made_length : (b : Bool) (key s : List ℕ) → eqb (length s) 16 ≡ b → 16 ≤ length s
    → length (transformed key s) ≡ length s
made_length true key s e l =
    let long : length s ≡ 16 = eqb-true (length s) 16 e in
    ap length (transformed_one key s long) ∙ length_cipher key s ∙ sym long
made_length false key s e l =
    let d : length s ≢ 16 = λ is. fails (sym (ap (λ m. eqb m 16) is) ∙ e) in
    ap length (transformed_more key s d) ∙ steps_length key s (6 * ((length s - 8) / 8)) l

-- a wrapping with padding is eight bytes longer than the padded text, whatever the key
pub wrapped_longer : (key wrapped text : List ℕ) → UnwrappedPadded key wrapped text
    → length wrapped ≡ 8 + length (padded text)
wrapped_longer key wrapped text u =
    let s : List ℕ = start text in
    let begins : length s ≡ 8 + length (padded text) =
    length-append (alternative_value (length text)) (padded text) in
    ap length u.is ∙ made_length (eqb (length s) 16) key s refl
    (omega (arith, begins, start_long text u.length_is.least)) ∙ begins

-- the lengths of a wrapping with padding
pub wrapped_long : (key wrapped text : List ℕ) → UnwrappedPadded key wrapped text
    → HasBlocks wrapped × (length wrapped ≤ 2 ^ 32 + 8)
wrapped_long key wrapped text u =
    let fits = padded_long text in
    let long : length wrapped ≡ 8 + length (padded text) = wrapped_longer key wrapped text u in (
      record {
        least = omega (arith, long, fits.0, fits.1, u.length_is.least);
        whole =
            omega (arith, long, fits.0);
      },
      omega (arith, long, fits.0, fits.2, u.length_is.most),
    )

-- A and the blocks of a wrapping, joined again, are the wrapping
pub parts : (wrapped a blocks : List ℕ) → a ≡ take 8 wrapped
    → blocks ≡ take (length wrapped - 8) (drop 8 wrapped) → a ++ blocks ≡ wrapped
parts wrapped a blocks e f =
    ap₂ (λ x y. x ++ y) e (f ∙ take_all (length wrapped - 8) (drop 8 wrapped)
    (omega (arith, length-drop 8 wrapped))) ∙ take-append-drop 8 wrapped

-- if a register leads to the wrapping and begins the first n bytes of its blocks, these are the text of the wrapping
pub unwrapped_by : (key wrapped first rest : List ℕ) (n : ℕ) → n ≤ length rest → AreBytes (length rest) rest
    → IsStartOf (take n rest) first rest
    → transformed key (first ++ rest) ≡ wrapped → UnwrappedPadded key wrapped (take n rest)
unwrapped_by key wrapped first rest n l b s e = record {
  length_is = s.length_is;
  bytes = bytes_resized n (length (take n rest)) (take n rest) (sym (length-take-le n rest l))
      (bytes_take n (length rest) rest l b);
  is = sym e ∙ ap (transformed key) (ap₂ (λ x y. x ++ y) s.first_is s.blocks_are);
}

-- if a register leads to the bytes and does not begin any text, the bytes are not a valid wrapping
pub no_wrapping : (key wrapped first rest : List ℕ) → IsPermutation → IsKey key
    → AreBytes (length wrapped) (first ++ rest) → length first ≡ 8
    → transformed key (first ++ rest) ≡ wrapped → ((text : List ℕ) → IsStartOf text first rest → ⊥)
    → ¬ IsPaddedWrapping key wrapped
no_wrapping key wrapped first rest law k b long e none (text, u) =
    let same : first ++ rest ≡ start text = only_start key wrapped text (first ++ rest) law k b e u in
    none text (record {
      length_is = u.length_is;
      first_is = same_front first (alternative_value (length text)) rest (padded text) long same;
      blocks_are = same_back first (alternative_value (length text)) rest (padded text) long same;
    })

-- A and the blocks of which the checks hold are the register of the text whose length A states
pub start_of : (first blocks : List ℕ) (n : ℕ) → AreBytes 8 first → 8 ≤ length blocks
    → length blocks % 8 ≡ 0 → n ≡ stated first → n < 2 ^ 32 → IsPaddedStart first blocks
    → (n ≤ length blocks) × IsStartOf (take n blocks) first blocks
start_of first blocks n b some whole is most s =
    let least : n ≤ length blocks = omega (arith, s.least) in
    let few : length blocks < n + 8 = omega (arith, s.few) in
    let long : length (take n blocks) ≡ n = length-take-le n blocks least in
    let back : AreBytes 4 (drop 4 first) = bytes_drop 4 8 first b in
    let value : first ≡ alternative_value n =
    sym (take-append-drop 4 first)
    ∙ ap₂ (λ x y. x ++ y) s.constant_is (sym (be_bytes_4 (drop 4 first) n back.length_is back.bytes is)) in
    let zeros : drop n blocks ≡ replicate (length blocks - n) 0 =
    subst (λ (m : ℕ). drop m blocks ≡ replicate (length blocks - m) 0) (sym is) s.zeros in (
      least,
      record {
        length_is = record { least = omega arith; most = omega arith };
        first_is = value ∙ ap alternative_value (sym long);
        blocks_are = padded_by n blocks whole least few zeros;
      },
    )

-- of the register of a text the checks hold
pub start_holds : (text first blocks : List ℕ) → IsStartOf text first blocks → IsPaddedStart first blocks
start_holds text first blocks s =
    let m : ℕ = length text in
    let pad : ℕ = (8 - m % 8) % 8 in
    let value : List ℕ = bytes_high_first 4 m in
    let states : stated first ≡ m =
    ap (λ (x : List ℕ). from_be_bytes w32 (drop 4 x)) s.first_is
    ∙ ap (from_be_bytes w32) (drop_at constant value 4 refl)
    ∙ from_be_bytes-to_be_bytes_4 m s.length_is.most in
    let long : length blocks ≡ m + pad =
    ap length s.blocks_are ∙ length-append text (replicate pad 0)
    ∙ ap (λ n. m + n) (length-replicate pad 0) in
    let behind : drop m blocks ≡ replicate pad 0 =
    ap (drop m) s.blocks_are ∙ drop_at text (replicate pad 0) m refl in
    record {
      constant_is = ap (take 4) s.first_is ∙ take_at constant value 4 refl;
      least = omega (arith, states, long);
      few = omega (arith, states, long);
      zeros = ap (λ (n : ℕ). drop n blocks) states ∙ behind
          ∙ ap (λ (n : ℕ). replicate n 0) (omega (arith, states, long));
    }

-- the first n of eight zeros are n zeros
pub few_zeros : (n : ℕ) → n ≤ 8 → take {A = ℕ} n (0 ∷ 0 ∷ 0 ∷ 0 ∷ 0 ∷ 0 ∷ 0 ∷ 0 ∷ []) ≡ replicate n 0
few_zeros n l = take_zeros 8 n l where
  take_zeros : (m n : ℕ) → n ≤ m → take {A = ℕ} n (replicate m 0) ≡ replicate n 0
  take_zeros m zero l = refl
  take_zeros zero (suc n) l = absurd (omega arith)
  take_zeros (suc m) (suc n) l = ap (λ (xs : List ℕ). 0 ∷ xs) (take_zeros m n (omega arith))

-- the alternative initial value, then the text, then the zeros after it, written one after the other, are the register of the
-- text
pub started : (text value first second last : List ℕ) → value ≡ alternative_value (length text)
    → first ≡ value → second ≡ first ++ text
    → last ≡ second ++ take {A = ℕ} ((8 - length text % 8) % 8) (0 ∷ 0 ∷ 0 ∷ 0 ∷ 0 ∷ 0 ∷ 0 ∷ 0 ∷ [])
    → last ≡ start text
started text value first second last a b e f =
    let z : List ℕ = replicate ((8 - length text % 8) % 8) 0 in
    f ∙ ap₂ (λ x y. x ++ y) (e ∙ ap (λ x. x ++ text) (b ∙ a))
    (few_zeros ((8 - length text % 8) % 8) (omega arith))
    ∙ append_assoc (alternative_value (length text)) text z

-- if A is written into the room before a text, and zeros into the room behind it, the transformation of these bytes is the
-- wrapping of the text
pub wrapped_in_room : (key bytes value zeros wrapped : List ℕ) (n : ℕ) → HasPaddedRoom bytes n → n < 2 ^ 32
    → AreBytes (length bytes) bytes
    → value ≡ alternative_value n → zeros
    ≡ take {A = ℕ} (length bytes - 8 - n) (0 ∷ 0 ∷ 0 ∷ 0 ∷ 0 ∷ 0 ∷ 0 ∷ 0 ∷ [])
    → wrapped ≡ transformed key (put_mid (8 + n) (length (value ++ drop 8 bytes) - (8 + n))
    (value ++ drop 8 bytes) zeros)
    → UnwrappedPadded key wrapped (take n (drop 8 bytes))
wrapped_in_room key bytes value zeros wrapped n room most b v z e =
    let text : List ℕ = take n (drop 8 bytes) in
    let least : 1 ≤ n = room.least in
    let size : length bytes ≡ 8 + (n + (8 - n % 8) % 8) = room.room in
    let within : n ≤ length (drop 8 bytes) = omega (arith, length-drop 8 bytes) in
    let long : length text ≡ n = length-take-le n (drop 8 bytes) within in
    let eight : length value ≡ 8 = ap length v in
    let count : length bytes - 8 - n ≡ (8 - n % 8) % 8 = omega arith in
    let front : take (8 + n) (value ++ drop 8 bytes) ≡ value ++ text =
    take-add 8 n (value ++ drop 8 bytes) ∙ ap₂ (λ x y. x ++ take n y) (take_at value (drop 8 bytes) 8 eight)
    (drop_at value (drop 8 bytes) 8 eight) in
    let all : List ℕ = value ++ drop 8 bytes in
    let none : drop (length all - (8 + n)) (drop (8 + n) all) ≡ [] =
    drop_all (length all - (8 + n)) (drop (8 + n) all) (omega (arith, length-drop (8 + n) all)) in
    let past : zeros ≡ replicate ((8 - n % 8) % 8) 0 =
    z ∙ ap (λ m. take {A = ℕ} m (0 ∷ 0 ∷ 0 ∷ 0 ∷ 0 ∷ 0 ∷ 0 ∷ 0 ∷ [])) count
    ∙ few_zeros ((8 - n % 8) % 8) (omega arith) in
    record {
      length_is = record { least = omega arith; most = omega arith };
      bytes = bytes_resized n (length text) text (sym long)
          (bytes_take n (length bytes - 8) (drop 8 bytes) (omega arith)
          (bytes_drop 8 (length bytes) bytes b));
      is = e ∙ ap (transformed key) (ap₂ (λ x y. x ++ y) front
          (ap (λ y. zeros ++ y) none ∙ append-nil zeros ∙ past)
          ∙ append_assoc value text (replicate ((8 - n % 8) % 8) 0)
          ∙ ap₂ (λ x m. x ++ (text ++ replicate ((8 - m % 8) % 8) 0)) (v ∙ ap alternative_value (sym long))
          (sym long));
    }

-- if a text is copied into an output, A is written before it and zeros behind it, the transformation of these bytes is the
-- wrapping of the text
pub wrapped_in_output : (key old text copied value zeros wrapped : List ℕ) → 1 ≤ length text
    → length text < 2 ^ 32
    → length old ≡ 8 + (length text + (8 - length text % 8) % 8) → AreBytes (length old) old
    → AreBytes (length text) text → copied ≡ put_mid 8 (length text) old text
    → value ≡ alternative_value (length text) → zeros
    ≡ take {A = ℕ} (length old - 8 - length text) (0 ∷ 0 ∷ 0 ∷ 0 ∷ 0 ∷ 0 ∷ 0 ∷ 0 ∷ [])
    → wrapped ≡ transformed key (put_mid (8 + length text)
    (length (value ++ drop 8 copied) - (8 + length text)) (value ++ drop 8 copied) zeros)
    → UnwrappedPadded key wrapped text
wrapped_in_output key old text copied value zeros wrapped least most size b d is v z e =
    let n : ℕ = length text in
    let past : List ℕ = drop n (drop 8 old) in
    let rest : ℕ = length old - 8 - n in
    let laid : AreBytes (8 + (n + rest)) (put_mid 8 n old text) =
    bytes_append 8 (n + rest) (take 8 old) (text ++ past) (bytes_take 8 (length old) old (omega arith) b)
    (bytes_append n rest text past d
    (bytes_drop n (length old - 8) (drop 8 old) (bytes_drop 8 (length old) old b))) in
    let long : length copied ≡ length old = ap length is ∙ laid.length_is ∙ omega arith in
    let all : AreBytes (length copied) copied =
    rw is (bytes_resized (8 + (n + rest)) (length (put_mid 8 n old text)) (put_mid 8 n old text)
    (sym laid.length_is) laid) in
    let found : take n (drop 8 copied) ≡ text =
    ap (λ (xs : List ℕ). take n (drop 8 xs)) is
    ∙ ap (take n) (drop_at (take 8 old) (text ++ past) 8 (length-take-le 8 old (omega arith)))
    ∙ take_at text past n refl in
    subst (λ (xs : List ℕ). UnwrappedPadded key wrapped xs) found
    (wrapped_in_room key copied value zeros wrapped n (record { least = least; room = long ∙ size }) most all
    v
    (z ∙ ap (λ m. take {A = ℕ} (m - 8 - n) (0 ∷ 0 ∷ 0 ∷ 0 ∷ 0 ∷ 0 ∷ 0 ∷ 0 ∷ [])) (sym long)) e)

-- if a length is found, the register is that of the text with this length
pub start_found : (first rest : List ℕ) (found : Option ℕ)
    → MatchOption found ((text : List ℕ) → ¬ IsStartOf text first rest)
    (λ n. (n ≤ length rest) × IsStartOf (take n rest) first rest)
    → IfSome found (λ n. IsStartOf (take n rest) first rest)
start_found first rest None h = tt
start_found first rest (Some n) h = h.1

-- if a length is found, it is that of the wrapping's text; if none is found, the bytes are not a valid wrapping
pub found_by : (key wrapped first rest : List ℕ) (found : Option ℕ) → IsPermutation → IsKey key
    → AreBytes (length wrapped) (first ++ rest) → length first ≡ 8
    → AreBytes (length rest) rest → transformed key (first ++ rest) ≡ wrapped
    → MatchOption found ((text : List ℕ) → ¬ IsStartOf text first rest)
    (λ n. (n ≤ length rest) × IsStartOf (take n rest) first rest)
    → MatchOption found (¬ IsPaddedWrapping key wrapped)
    (λ n. (n ≤ length rest) × UnwrappedPadded key wrapped (take n rest))
found_by key wrapped first rest None law k b long r e h = no_wrapping key wrapped first rest law k b long e h
found_by key wrapped first rest (Some n) law k b long r e h =
    (h.0, unwrapped_by key wrapped first rest n h.0 r h.1 e)

-- if the blocks of a register are written, they are its bytes after the first eight
pub blocks_in_place : (xs ys : List ℕ) → 16 ≤ length xs → length ys ≡ length xs - 8
    → drop 8 (put_mid 8 (length xs - 8) xs ys) ≡ ys
blocks_in_place xs ys l ly =
    let z : List ℕ = drop (length xs - 8) (drop 8 xs) in
    drop_at (take 8 xs) (ys ++ z) 8 (length-take-le 8 xs (omega arith))
    ∙ ap (λ v. ys ++ v) (drop_all (length xs - 8) (drop 8 xs) (omega (arith, length-drop 8 xs)))
    ∙ append-nil ys

-- if the blocks of a register are written, and then A, the blocks are still its bytes after the first eight
pub rest_in_place : (x xs ys : List ℕ) → length x ≡ 8 → 16 ≤ length xs → length ys ≡ length xs - 8
    → drop 8 (x ++ drop 8 (put_mid 8 (length xs - 8) xs ys)) ≡ ys
rest_in_place x xs ys lx l ly =
    drop_at x (drop 8 (put_mid 8 (length xs - 8) xs ys)) 8 lx ∙ blocks_in_place xs ys l ly
