-- The code's form of a key: its round keys, ready for the rounds. The standard does not define it.
use Rattle.std.specs.Prelude.{◌≡◌, ℕ, ◌*◌, ◌/◌, ◌%◌, ◌<◌, ◌==◌, nat_lt, if◌then◌else◌, List, [], map, length}
use Rattle.std.specs.Prelude.{get_or, bit_xor, ◌⊎◌}
use Rattle.std.specs.List.{range_with_len}
use Rattle.std.proofs.Common.{sym, ap, ap₂, ◌∙◌, lit<, inl, inr, arith, zero-add}
use Rattle.std.proofs.Common.{le-ltb, lt-ltb}
use Rattle.std.proofs.Math.Nat.{mul-div_cancel_left}
use Rattle.std.proofs.lemmas.Bool.{cases_eq, cases_lt, eq-eqb, ne_eqb}
use Rattle.std.proofs.lemmas.List.{ext_get_or}
use Rattle.std.proofs.lemmas.List.FromFn.{get_or-map-range_with_len, length-map-range_with_len}
use Rattle.aes.specs.Code.Lanes.{from_basis, row_source, row_target}
use Rattle.aes.specs.Code.Planes.{word_byte, masked_byte}
use Rattle.aes.specs.Code.ReadyKeys.{ready_byte, KeepsReadyKeys}
use Rattle.aes.specs.Schedule.{round_count, schedule}
use Rattle.aes.specs.declared.key.AesKey.TheInside.{Inside}

-- the number of words in a key
abbrev pub IsKeySize : ℕ → Type 0
IsKeySize nk = (nk ≡ 4) ⊎ ((nk ≡ 6) ⊎ (nk ≡ 8))

-- byte i of round key n, from the stored round keys, for any n before the last
abbrev pub plain_byte : List (List ℕ) → ℕ → ℕ → ℕ
plain_byte keys n i =
    if n == 0 then get_or (get_or keys 0 []) i 0
    else from_basis (bit_xor (get_or (get_or keys n []) (row_target i) 0) 0x7c)

-- the key of nk words, which are the first ones of the round keys
unfoldable pub key_of : List (List ℕ) → ℕ → List ℕ
key_of keys nk = map (λ i. plain_byte keys (i / 16) (i % 16)) (range_with_len 0 (4 * nk))

-- the stored round keys of an expanded key: they are those of the key that they begin with
pub record IsExpanded (keys : List (List ℕ)) (nk : ℕ) : Type 0 where
  pub size : IsKeySize nk
  pub length_is : length (key_of keys nk) ≡ 4 * nk
  pub bytes : (i : ℕ) → get_or (key_of keys nk) i 0 < 256
  pub keys_are : KeepsReadyKeys keys (key_of keys nk)

-- byte i of the stored round key n, if the last one is this
abbrev stored_byte : List (List ℕ) → ℕ → ℕ → ℕ → ℕ
stored_byte ws last n i =
    if n == 0 then word_byte ws 0 i
    else if nat_lt n last then ready_byte ws n (row_source i)
    else if n == last then masked_byte ws last i
    else 0

-- the stored round keys of a key
unfoldable pub stored : List ℕ → List (List ℕ)
stored key =
    map (λ n. map (λ i. stored_byte (schedule key) (round_count key) n i) (range_with_len 0 16)) (range_with_len 0 15)

-- the stored round keys, and the number of words in the key
abbrev pub fields_of : List ℕ → Inside
fields_of key = record { keys = stored key; size = length key / 4 }

-- the key of nk words has four bytes for each of them
pub length_key_of : (keys : List (List ℕ)) (nk : ℕ) → length (key_of keys nk) ≡ 4 * nk
unfolding key_of
length_key_of keys nk =
    length-map-range_with_len (λ i. plain_byte keys (i / 16) (i % 16)) 0 (4 * nk)

stored_is : (keys : List (List ℕ)) (key : List ℕ) (n i : ℕ) → KeepsReadyKeys keys key → n < 15 → i < 16
    → get_or (get_or keys n []) i 0 ≡ stored_byte (schedule key) (round_count key) n i
stored_is keys key n i x h l =
    elim (cases_eq n 0) [
      | inl e ↦ rw (eq-eqb n 0 e) (ap (λ (m : ℕ). get_or (get_or keys m []) i 0) e ∙ x.first i l)
      | inr some ↦ rw (ne_eqb n 0 some) (elim (cases_lt n (round_count key)) [
        | inl less ↦ rw (lt-ltb n (round_count key) less) (x.middle n i (omega arith) less l)
        | inr more ↦ rw (le-ltb n (round_count key) more) (elim (cases_eq n (round_count key)) [
          | inl e ↦ rw (eq-eqb n (round_count key) e)
              (ap (λ (m : ℕ). get_or (get_or keys m []) i 0) e ∙ x.last i l)
          | inr other ↦ rw (ne_eqb n (round_count key) other) (x.after n i (omega arith) h l)
        ])
      ])
    ]

-- the stored round keys are those that the key determines
pub keys_are_stored : (keys : List (List ℕ)) (key : List ℕ) → KeepsReadyKeys keys key → stored key ≡ keys
unfolding stored
keys_are_stored keys key x =
    let byte : ℕ → ℕ → ℕ = λ n i. stored_byte (schedule key) (round_count key) n i in
    let row : ℕ → List ℕ = λ n. map (byte n) (range_with_len 0 16) in
    let long : length (map row (range_with_len 0 15)) ≡ 15 =
    length-map-range_with_len row 0 15 in
    ext_get_or [] (map row (range_with_len 0 15)) keys (long ∙ sym x.long) (λ n h.
    let within : n < 15 = omega (arith, long) in
    let size : length (row n) ≡ 16 = length-map-range_with_len (byte n) 0 16 in
    get_or-map-range_with_len row 0 15 n n [] within (zero-add n)
    ∙ ext_get_or 0 (row n) (get_or keys n []) (size ∙ sym (x.each_long n within)) (λ i l.
    let small : i < 16 = omega (arith, size) in
    get_or-map-range_with_len (byte n) 0 16 i i 0 small (zero-add i)
    ∙ sym (stored_is keys key n i x within small)))

-- the fields are those that the key determines
pub fields_of-key_of : (a : Inside) → IsExpanded a.keys a.size → fields_of (key_of a.keys a.size) ≡ a
fields_of-key_of a x =
    let size : length (key_of a.keys a.size) / 4 ≡ a.size =
    ap (λ n. n / 4) x.length_is ∙ mul-div_cancel_left a.size (lit< tt) in
    let fields : List (List ℕ) → ℕ → Inside = λ keys size. record { keys = keys; size = size } in
    ap₂ fields (keys_are_stored a.keys (key_of a.keys a.size) x.keys_are) size
