-- The encryption keys of GCM-SIV, part by part.
use Rattle.std.proofs.Common.{◌≡◌, ℕ, ◌+◌, ◌/◌, List, ◌++◌, length, flat_map, sym, ap, ◌∙◌}
use Rattle.std.proofs.Common.{append_assoc}
use Rattle.std.proofs.lemmas.List.{append-nil}
use Rattle.std.specs.List.{range_with_len}
use Rattle.aead.specs.Sealing.{key_part, encryption_key}

-- the encryption key for a key of 16 bytes consists of parts 2 and 3
pub short_key : (key nonce : List ℕ) → length key ≡ 16
    → encryption_key key nonce ≡ key_part key nonce 2 ++ key_part key nonce 3
unfolding encryption_key
short_key key nonce h =
    ap (λ n. flat_map (λ i. key_part key nonce (2 + i)) (range_with_len 0 (n / 8))) h
    ∙ ap (λ l. key_part key nonce 2 ++ l) (append-nil (key_part key nonce 3))

-- the encryption key for a key of 32 bytes consists of parts 2, 3, 4 and 5
pub long_key : (key nonce : List ℕ) → length key ≡ 32
    → encryption_key key nonce
    ≡ (key_part key nonce 2 ++ key_part key nonce 3) ++ (key_part key nonce 4 ++ key_part key nonce 5)
unfolding encryption_key
long_key key nonce h =
    ap (λ n. flat_map (λ i. key_part key nonce (2 + i)) (range_with_len 0 (n / 8))) h
    ∙ ap (λ l. key_part key nonce 2 ++ (key_part key nonce 3 ++ (key_part key nonce 4 ++ l)))
    (append-nil (key_part key nonce 5))
    ∙ sym (append_assoc (key_part key nonce 2) (key_part key nonce 3)
    (key_part key nonce 4 ++ key_part key nonce 5))
