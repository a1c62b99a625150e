-- The value of a `cuts` line: numbers joined by single commas, as 1,5,16.
use Rattle.std.specs.Prelude.{ℕ, ◌-◌, ◌^◌, List, [], ◌∷◌, map, Bool, true, false, not, ◌&&◌, ◌==◌, Option}
use Rattle.std.specs.Prelude.{Some, None, if◌then◌else◌, nat_lt, nat_le}
use Rattle.std.specs.List.{list_all, slice_split}
use Rattle.std.specs.Int.Digits.{number_from_digits}

-- a decimal digit
abbrev pub is_digit : ℕ → Bool
is_digit b = nat_le 48 b && nat_le b 57

-- there is a first digit, and it is not zero
abbrev pub has_no_leading_zero : List ℕ → Bool
has_no_leading_zero [] = false
has_no_leading_zero (b ∷ bs) = not (b == 48)

-- the number that digits spell
unfoldable pub decimal_value : List ℕ → ℕ
decimal_value digits = number_from_digits 10 (map (λ b. b - 48) digits)

-- the number that a text spells, if it is decimal digits without a leading zero and fits in 64 bits
unfoldable pub number_of : List ℕ → Option ℕ
number_of text =
    if has_no_leading_zero text && (list_all is_digit text && nat_lt (decimal_value text) (2 ^ 64))
    then Some (decimal_value text)
    else None

-- these texts spell rising numbers, which are above `last` and at most `most`
abbrev pub rise : ℕ → ℕ → List (List ℕ) → Bool
rise most last [] = true
rise most last (text ∷ texts) =
    elim (number_of text) [ None ↦ false | Some n ↦ nat_lt last n && (nat_le n most && rise most n texts) ]

-- one or more rising numbers from 1 to `most`, joined by single commas
unfoldable pub are_cuts : ℕ → List ℕ → Bool
are_cuts most value = rise most 0 (slice_split (λ b. b == 44) value)
