-- Digits and the bytes that they spell.
use Rattle.std.proofs.Common.{◌≡◌, ℕ, ◌<◌, get_or, set, inl, inr, subst, zero, suc, [], ◌∷◌, ◌++◌, ◌+◌, ◌*◌}
use Rattle.std.proofs.Common.{◌%◌, ◌≤◌, ◌==◌, true, List, length, take, drop, Option, Some, None, Result, Ok}
use Rattle.std.proofs.Common.{Err, refl, sym, ap, ap₂, ◌∙◌, arith}
use Rattle.std.specs.List.{list_all}
use Rattle.std.specs.Result.{result_unwrap_or}
use Rattle.std.proofs.lemmas.Bool.{and_parts, eqb-true, cases_Bool, cases_eq}
use Rattle.std.proofs.lemmas.List.Sums.{AllPass-from_list_all, list_all-from_AllPass}
use Rattle.std.proofs.lemmas.List.{take-append-drop}
use Rattle.std.proofs.lemmas.List.Folds.{list_all-append, list_all_at}
use Rattle.std.proofs.lemmas.Grind.{common_steps, get_or-set_at}
use Rattle.hex.specs.Hex as hex
use Rattle.hex.specs.Hex.{is_hex_digit, hex_digit_value, digit_or_error, pair_value, ◌>>=◌}
use Rattle.hex.specs.Hex.{decode_pairs}
use Rattle.hex.specs.declared.error.FromHexError.{FromHexError}
use Rattle.hex.proofs.HexLemmas.{decode_of-digits, decode_of-ok, decode_of-even}
use Rattle.vectors.specs.Grammar.{Spells}
use Rattle.vectors.specs.Faults.{is_hex, bytes_of}

-- digits spell their bytes
pub spells : (digits : List ℕ) → is_hex digits ≡ true → Spells digits (bytes_of digits)
unfolding is_hex bytes_of
spells digits h =
    let both = and_parts (length digits % 2 == 0) (list_all is_hex_digit digits) h in
    let decoded = decode_of-digits digits (eqb-true (length digits % 2) 0 both.0)
    (AllPass-from_list_all is_hex_digit digits both.1) in
    decoded.1 ∙ ap Ok (sym (ap (λ (r : Result (List ℕ) FromHexError). result_unwrap_or r []) decoded.1))

-- if digits spell bytes, these are the bytes of the digits
pub spelled-bytes : (digits bytes : List ℕ) → Spells digits bytes → bytes_of digits ≡ bytes
unfolding bytes_of
spelled-bytes digits bytes h = ap (λ (r : Result (List ℕ) FromHexError). result_unwrap_or r []) h

-- a text that spells bytes is an even number of hexadecimal digits
pub spelled-digits : (digits bytes : List ℕ) → Spells digits bytes → is_hex digits ≡ true
unfolding is_hex
spelled-digits digits bytes h =
    let ok = decode_of-ok digits bytes h in
    let even : (length digits % 2 == 0) ≡ true = grind (arith, ok.0) in
    rw (even, list_all-from_AllPass is_hex_digit digits ok.1) refl

-- there are two digits for each byte
pub digits_length : (digits : List ℕ) → is_hex digits ≡ true → length digits ≡ 2 * length (bytes_of digits)
digits_length digits h = (decode_of-ok digits (bytes_of digits) (spells digits h)).2

-- ---- the digits of the first bytes

-- if two steps of decoding in a row return Ok, the first one did, and the second did on its value
bind_ok : {A B : Type 0} (r : Result A FromHexError) (f : A → Result B FromHexError) (y : B)
    → (r >>= f) ≡ Ok y
    → (x : A) × (r ≡ Ok x) × (f x ≡ Ok y)
bind_ok (Ok x) f y h = (x, refl, h)
bind_ok (Err e) f y h = absurd cc

-- the value of a digit, if it is one
value_of : Option ℕ → ℕ
value_of None = 0
value_of (Some v) = v

-- the value of a digit
digit : ℕ → ℕ
digit c = value_of (hex_digit_value c)

-- if `digit_or_error` returns Ok v, v is the value of the digit
digit_is : (c i : ℕ) (o : Option ℕ) (v : ℕ) → digit_or_error c i o ≡ Ok v → value_of o ≡ v
unfolding value_of
digit_is c i None v e = absurd cc
digit_is c i (Some w) v e = cc

-- the bytes of pairs of digits
pairs : List ℕ → List ℕ
pairs [] = []
pairs (c ∷ []) = []
pairs (a ∷ b ∷ rest) = (digit a * 16 + digit b) ∷ pairs rest

-- if digits decode to bytes, these are the bytes of their pairs
decoded : (i : ℕ) (s bytes : List ℕ) → decode_pairs i s ≡ Ok bytes → pairs s ≡ bytes
unfolding decode_pairs pairs digit
decoded i [] bytes e = cc
decoded i (c ∷ []) bytes e = absurd cc
decoded i (a ∷ b ∷ rest) bytes e =
    let p = bind_ok (pair_value a b i) (λ byte. decode_pairs (i + 2) rest >>= λ bytes. Ok (byte ∷ bytes))
    bytes e in
    let high = bind_ok (hex.value_at a i) (λ h. hex.value_at b (i + 1) >>= λ l. Ok (h * 16 + l)) p.0 p.1 in
    let low = bind_ok (hex.value_at b (i + 1)) (λ l. Ok (high.0 * 16 + l)) p.0 high.2 in
    let others = bind_ok (decode_pairs (i + 2) rest) (λ bytes. Ok (p.0 ∷ bytes)) bytes p.2 in
    let h : digit a ≡ high.0 = digit_is a i (hex_digit_value a) high.0 high.1 in
    let l : digit b ≡ low.0 = digit_is b (i + 1) (hex_digit_value b) low.0 low.1 in
    let byte : high.0 * 16 + low.0 ≡ p.0 = cc in
    let whole : p.0 ∷ others.0 ≡ bytes = cc in
    ap₂ (λ x y. (x * 16 + y) ∷ pairs rest) h l
    ∙ ap₂ (λ (x : ℕ) (xs : List ℕ). x ∷ xs) byte (decoded (i + 2) rest others.0 others.1)
    ∙ whole

-- the bytes of digits are those of their pairs
bytes_are : (digits : List ℕ) → is_hex digits ≡ true → bytes_of digits ≡ pairs digits
unfolding is_hex
bytes_are digits h =
    let both = and_parts (length digits % 2 == 0) (list_all is_hex_digit digits) h in
    let even = eqb-true (length digits % 2) 0 both.0 in
    sym (decoded 0 digits (bytes_of digits) (sym (decode_of-even digits even) ∙ spells digits h))

-- twice a number
twice : ℕ → ℕ
twice zero = zero
twice (suc k) = suc (suc (twice k))

-- twice a number is its product with 2
twice_is : (k : ℕ) → twice k ≡ 2 * k
unfolding twice
twice_is zero = refl
twice_is (suc k) = let h = twice_is k in omega (arith, h)

-- the pairs of the first 2k digits are the first k bytes
take-pairs : (k : ℕ) (s : List ℕ) → pairs (take (twice k) s) ≡ take k (pairs s)
unfolding twice pairs
take-pairs zero s = refl
take-pairs (suc k) [] = refl
take-pairs (suc k) (c ∷ []) = refl
take-pairs (suc k) (a ∷ b ∷ rest) = ap (λ (xs : List ℕ). (digit a * 16 + digit b) ∷ xs) (take-pairs k rest)

-- the pairs of the digits after the first 2k are the bytes after the first k
drop-pairs : (k : ℕ) (s : List ℕ) → pairs (drop (twice k) s) ≡ drop k (pairs s)
unfolding twice pairs
drop-pairs zero s = refl
drop-pairs (suc k) [] = refl
drop-pairs (suc k) (c ∷ []) = refl
drop-pairs (suc k) (a ∷ b ∷ rest) = drop-pairs k rest

-- an even number of digits, cut after the first 2k, is an even number of digits on both sides
pub cut_hex : (digits : List ℕ) (k : ℕ) → is_hex digits ≡ true → 2 * k ≤ length digits
    → (is_hex (take (2 * k) digits) ≡ true) × (is_hex (drop (2 * k) digits) ≡ true)
unfolding is_hex
cut_hex digits k h fits =
    let both = and_parts (length digits % 2 == 0) (list_all is_hex_digit digits) h in
    let even = eqb-true (length digits % 2) 0 both.0 in
    let whole : list_all is_hex_digit (take (2 * k) digits ++ drop (2 * k) digits) ≡ true =
    ap (list_all is_hex_digit) (take-append-drop (2 * k) digits) ∙ both.1 in
    let parts = and_parts (list_all is_hex_digit (take (2 * k) digits))
    (list_all is_hex_digit (drop (2 * k) digits))
    (sym (list_all-append is_hex_digit (take (2 * k) digits) (drop (2 * k) digits)) ∙ whole) in
    let front : (length (take (2 * k) digits) % 2 == 0) ≡ true = grind (arith, common_steps) in
    let back : (length (drop (2 * k) digits) % 2 == 0) ≡ true = grind (arith, common_steps, even) in
    (rw (front, parts.0) refl, rw (back, parts.1) refl)

-- the first 2k digits spell the first k bytes
pub front_bytes : (digits : List ℕ) (k : ℕ) → is_hex digits ≡ true → 2 * k ≤ length digits
    → bytes_of (take (2 * k) digits) ≡ take k (bytes_of digits)
front_bytes digits k h fits =
    bytes_are (take (2 * k) digits) (cut_hex digits k h fits).0
    ∙ ap (λ n. pairs (take n digits)) (sym (twice_is k))
    ∙ take-pairs k digits
    ∙ ap (take k) (sym (bytes_are digits h))

-- the digits after the first 2k spell the bytes after the first k
pub back_bytes : (digits : List ℕ) (k : ℕ) → is_hex digits ≡ true → 2 * k ≤ length digits
    → bytes_of (drop (2 * k) digits) ≡ drop k (bytes_of digits)
back_bytes digits k h fits =
    bytes_are (drop (2 * k) digits) (cut_hex digits k h fits).1
    ∙ ap (λ n. pairs (drop n digits)) (sym (twice_is k))
    ∙ drop-pairs k digits
    ∙ ap (drop k) (sym (bytes_are digits h))

-- each byte of an even number of hexadecimal digits is a hexadecimal digit
pub digit_at : (digits : List ℕ) (i : ℕ) → is_hex digits ≡ true → i < length digits
    → is_hex_digit (get_or digits i 0) ≡ true
unfolding is_hex
digit_at digits i h l =
    elim (cases_Bool (is_hex_digit (get_or digits i 0))) [
      | inl is ↦ is
      | inr other ↦ cc (sym (and_parts (length digits % 2 == 0) (list_all is_hex_digit digits) h).1
          ∙ list_all_at is_hex_digit digits i 0 l other)
    ]

-- the byte of pair k, from its two digits
pair_at : (s : List ℕ) (k : ℕ) → k < length (pairs s)
    → get_or (pairs s) k 0 ≡ digit (get_or s (twice k) 0) * 16 + digit (get_or s (suc (twice k)) 0)
unfolding pairs twice
pair_at [] k l = absurd (omega arith)
pair_at (c ∷ []) k l = absurd (omega arith)
pair_at (a ∷ b ∷ rest) zero l = refl
pair_at (a ∷ b ∷ rest) (suc k) l = pair_at rest k (omega arith)

-- a byte is 16 times the value of its first digit plus that of its second
pub byte_at : (digits : List ℕ) (k a b : ℕ) → is_hex digits ≡ true → k < length (bytes_of digits)
    → hex_digit_value (get_or digits (2 * k) 0) ≡ Some a
    → hex_digit_value (get_or digits (2 * k + 1) 0) ≡ Some b
    → a * 16 + b ≡ get_or (bytes_of digits) k 0
unfolding digit value_of
byte_at digits k a b h l high low =
    let is = bytes_are digits h in
    let found = pair_at digits k (subst (λ (bs : List ℕ). k < length bs) is l) in
    let first : digit (get_or digits (twice k) 0) ≡ a =
    ap (λ i. digit (get_or digits i 0)) (twice_is k) ∙ ap value_of high in
    let second : digit (get_or digits (suc (twice k)) 0) ≡ b =
    ap (λ i. digit (get_or digits i 0)) (next k) ∙ ap value_of low in
    sym (ap (λ (bs : List ℕ). get_or bs k 0) is ∙ found ∙ ap₂ (λ x y. x * 16 + y) first second) where
      next : (k : ℕ) → suc (twice k) ≡ 2 * k + 1
      next k = let e = twice_is k in omega (arith, e)

-- if the first i bytes in the room are right, and byte i is written, the first i + 1 are right
pub written_more : (bytes room : List ℕ) (i v : ℕ) → i < length room → v ≡ get_or bytes i 0
    → ((k : ℕ) → k < i → get_or room k 0 ≡ get_or bytes k 0)
    → (k : ℕ) → k < i + 1 → get_or (set room i v) k 0 ≡ get_or bytes k 0
written_more bytes room i v within is done k l =
    elim (cases_eq k i) [
      | inl here ↦ get_or-set_at room i k v 0 here within ∙ is ∙ ap (λ j. get_or bytes j 0) (sym here)
      | inr before ↦ grind (arith, common_steps, done k (omega (arith, before, l)), before)
    ]
