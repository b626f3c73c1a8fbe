-- Rows of text.
use Rattle.std.specs.Prelude.{◌≡◌, ℕ, ◌^◌, ◌<◌, List, [], ◌∷◌, ◌++◌, decimal}
use Rattle.std.specs.List.{flat_map}
use Rattle.std.specs.Str.Parse.{IsNumeral, digits_value}

-- a space, and a number in decimals
abbrev pub spaced : ℕ → List ℕ
spaced n = 32 ∷ decimal n

-- a word, its numbers, and the end of the line
abbrev pub row : List ℕ → List ℕ → List ℕ
row word ns = word ++ (flat_map spaced ns ++ (10 ∷ []))

-- ---- theorem

-- what is written of a number is a numeral with that value
abbrev pub NumbersReadBack : Type 0
NumbersReadBack = (n : ℕ) → n < 2 ^ 64 → IsNumeral 10 (decimal n) × (digits_value 10 (decimal n) ≡ n)
