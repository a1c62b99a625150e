-- Values given in hexadecimal, and lines printed in hexadecimal.
use Rattle.std.specs.Prelude.{◌≡◌, ℕ, List, [], ◌∷◌, ◌++◌, IsErr, Ok}
use Rattle.hex.specs.Hex.{decode_of, encode_lower}

-- the text is an even number of hex digits, of either case, which spell these bytes
abbrev pub Spells : List ℕ → List ℕ → Type 0
Spells digits bytes = decode_of digits ≡ Ok bytes

-- the text is not an even number of hex digits
abbrev pub IsBadHex : List ℕ → Type 0
IsBadHex text = IsErr (decode_of text)

-- bytes as lower-case hex digits, and LF
abbrev pub hex_line : List ℕ → List ℕ
hex_line bytes = encode_lower bytes ++ 10 ∷ []
