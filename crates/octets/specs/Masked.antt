-- A list of bytes XORed with a stream of bytes, which is how every stream cipher here encrypts and decrypts.
use Rattle.std.specs.Prelude.{ℕ, suc, List, [], ◌∷◌, bit_xor}

-- xs XORed with the bytes of the stream from offset `at` on
unfoldable pub masked : (ℕ → ℕ) → ℕ → List ℕ → List ℕ
masked stream at [] = []
masked stream at (x ∷ xs) = bit_xor x (stream at) ∷ masked stream (suc at) xs
