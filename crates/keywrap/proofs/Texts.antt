-- Wrappings and their texts.
use Rattle.std.proofs.Common.{◌≡◌, ℕ, ◌+◌, ◌-◌, ◌*◌, ◌/◌, ◌≤◌, List, ◌++◌, take, drop, length, refl, sym, ap}
use Rattle.std.proofs.Common.{ap₂, ◌∙◌, zero, suc, arith, length-append, length-drop, take_all}
use Rattle.std.proofs.lemmas.List.{take_at, take-append-drop, length-take-le}
use Rattle.std.specs.Int.{bytes_high_first}
use Rattle.octets.specs.Bytes.{AreBytes, xor_bytes}
use Rattle.octets.proofs.Xors.{length-xor_bytes}
use Rattle.aes.specs.Cipher.{cipher, IsKey, IsPermutation}
use Rattle.keywrap.specs.Wrapping.{step, steps, initial_value, HasTextLength, HasWrappedLength, Unwrapped}
use Rattle.keywrap.specs.Wrapping.{IsWrapping, HasOneText}
use Rattle.keywrap.proofs.Blocks.{length_cipher}
use Rattle.keywrap.proofs.Bytes.{length_number, bytes_append, bytes_resized, bytes_replicate, same_back}
use Rattle.keywrap.proofs.Bytes.{steps_bytes, steps_one_to_one}

-- the initial value and a text of n bytes are 8 + n bytes
pub start_bytes : (n : ℕ) (text : List ℕ) → AreBytes n text → AreBytes (8 + n) (initial_value ++ text)
start_bytes n text b = bytes_append 8 n initial_value text (bytes_replicate 8 0xa6 (omega arith)) b

-- a wrapping is eight bytes longer than its text
pub wrapped_bytes : (key wrapped text : List ℕ) → IsPermutation → IsKey key → Unwrapped key wrapped text
    → AreBytes (8 + length text) wrapped
wrapped_bytes key wrapped text law k u =
    let least : 16 ≤ length text = u.length_is.least in
    rw u.is
    (steps_bytes key (initial_value ++ text) (6 * (length text / 8)) (8 + length text) law k
    (start_bytes (length text) text u.bytes) (omega arith))

-- a step keeps the register's length, whatever the key
step_length : (key s : List ℕ) (t : ℕ) → 16 ≤ length s → length (step key t s) ≡ length s
unfolding step
step_length key s t l =
    let b : List ℕ = cipher key (take 16 s) in
    let n : List ℕ = bytes_high_first 8 t in
    let whole : length b ≡ 16 = length_cipher key (take 16 s) in
    let half : length (take 8 b) ≡ 8 = length-take-le 8 b (omega arith) in
    let first : length (xor_bytes (take 8 b) n) ≡ 8 =
    length-xor_bytes (take 8 b) n (half ∙ sym (length_number 8 t)) ∙ half in
    let rest : length (drop 16 s ++ drop 8 b) ≡ length (drop 16 s) + length (drop 8 b) =
    length-append (drop 16 s) (drop 8 b) in
    length-append (xor_bytes (take 8 b) n) (drop 16 s ++ drop 8 b)
    ∙ omega (arith, first, rest, length-drop 16 s, length-drop 8 b)

-- any number of steps keeps the register's length, whatever the key
pub steps_length : (key s : List ℕ) (t : ℕ) → 16 ≤ length s → length (steps key t s) ≡ length s
unfolding steps
steps_length key s zero l = refl
steps_length key s (suc t) l =
    let before : length (steps key t s) ≡ length s = steps_length key s t l in
    step_length key (steps key t s) (suc t) (omega arith) ∙ before

-- a wrapping has one block more than a text
pub wrapped_length : (key wrapped text : List ℕ) → Unwrapped key wrapped text → HasWrappedLength wrapped
wrapped_length key wrapped text u =
    let start : length (initial_value ++ text) ≡ 8 + length text = length-append initial_value text in
    let least : 16 ≤ length text = u.length_is.least in
    let long : length wrapped ≡ 8 + length text =
    ap length u.is ∙ steps_length key (initial_value ++ text) (6 * (length text / 8)) (omega arith) ∙ start in
    record { least = omega arith; whole = omega (arith, long, u.length_is.whole) }

-- a register from which the steps lead to a wrapping of a text is the initial value and the text
pub one_start : (key wrapped text start : List ℕ) → IsPermutation → IsKey key
    → AreBytes (length wrapped) start
    → steps key (6 * ((length wrapped - 8) / 8)) start ≡ wrapped → Unwrapped key wrapped text
    → start ≡ initial_value ++ text
one_start key wrapped text start law k b e u =
    let long : length wrapped ≡ 8 + length text = (wrapped_bytes key wrapped text law k u).length_is in
    let least : 16 ≤ length text = u.length_is.least in
    let blocks : length text ≡ length wrapped - 8 = omega arith in
    steps_one_to_one key start (initial_value ++ text) (6 * (length text / 8)) (8 + length text) law k
    (bytes_resized (length wrapped) (8 + length text) start long b) (start_bytes (length text) text u.bytes)
    (omega arith)
    (ap (λ n. steps key (6 * (n / 8)) start) blocks ∙ e ∙ u.is)

-- a wrapping has only one text
pub one_text : IsPermutation → HasOneText
one_text law key k wrapped text u = (
  (wrapped_bytes key wrapped text law k u).length_is ∙ omega arith,
  λ other v.
      let long : length wrapped ≡ 8 + length other = (wrapped_bytes key wrapped other law k v).length_is in
      let blocks : length wrapped - 8 ≡ length other = omega arith in
      same_back initial_value initial_value other text refl
      (one_start key wrapped text (initial_value ++ other) law k
      (bytes_resized (8 + length other) (length wrapped) (initial_value ++ other) (sym long)
      (start_bytes (length other) other v.bytes))
      (ap (λ n. steps key (6 * (n / 8)) (initial_value ++ other)) blocks ∙ sym v.is) u),
)

-- if the steps lead to the bytes from a register that does not begin with the initial value, the bytes are not a valid wrapping
pub no_wrapping : (key wrapped start : List ℕ) → IsPermutation → IsKey key → AreBytes (length wrapped) start
    → steps key (6 * ((length wrapped - 8) / 8)) start ≡ wrapped → (take 8 start ≡ initial_value → ⊥)
    → ¬ IsWrapping key wrapped
no_wrapping key wrapped start law k b e other (text, u) =
    other (ap (take 8) (one_start key wrapped text start law k b e u) ∙ take_at initial_value text 8 refl)

-- if the steps lead from the initial value and a text to bytes of the length of a wrapping, these are the text's wrapping
pub unwrapped_by : (key wrapped start text : List ℕ) → HasWrappedLength wrapped
    → AreBytes (length wrapped - 8) text
    → start ≡ initial_value ++ text → steps key (6 * ((length wrapped - 8) / 8)) start ≡ wrapped
    → Unwrapped key wrapped text
unwrapped_by key wrapped start text l b begins e =
    let long : length text ≡ length wrapped - 8 = b.length_is in
    let least : 24 ≤ length wrapped = l.least in
    record {
      length_is = record { least = omega arith; whole = omega (arith, l.whole) };
      bytes = bytes_resized (length wrapped - 8) (length text) text (sym long) b;
      is = sym e ∙ ap₂ (λ n s. steps key (6 * (n / 8)) s) (sym long) begins;
    }

-- for a text that can be wrapped, the bytes to which the steps lead from the initial value and the text are its wrapping
pub wrapping_by : (key wrapped start text : List ℕ) → AreBytes (length text) text → HasTextLength text
    → start ≡ initial_value ++ text
    → wrapped ≡ steps key (6 * ((length start - 8) / 8)) start → Unwrapped key wrapped text
wrapping_by key wrapped start text b l begins e =
    let long : length start ≡ 8 + length text = ap length begins ∙ length-append initial_value text in
    let blocks : length start - 8 ≡ length text = omega arith in
    record { length_is = l; bytes = b; is = e ∙ ap₂ (λ n s. steps key (6 * (n / 8)) s) blocks begins }

-- if the steps lead to A and the blocks of a wrapping, they lead to the wrapping
pub start_of_parts : (key wrapped a blocks first rest : List ℕ) → a ≡ take 8 wrapped
    → blocks ≡ take (length wrapped - 8) (drop 8 wrapped)
    → steps key (6 * (length blocks / 8)) (first ++ rest) ≡ a ++ blocks
    → steps key (6 * ((length wrapped - 8) / 8)) (first ++ rest) ≡ wrapped
start_of_parts key wrapped a blocks first rest e f h =
    let all : blocks ≡ drop 8 wrapped = f
    ∙ take_all (length wrapped - 8) (drop 8 wrapped) (omega (arith, length-drop 8 wrapped)) in
    let long : length wrapped - 8 ≡ length blocks = sym (ap length all ∙ length-drop 8 wrapped) in
    ap (λ n. steps key (6 * (n / 8)) (first ++ rest)) long ∙ h ∙ ap₂ (λ x y. x ++ y) e all
    ∙ take-append-drop 8 wrapped
