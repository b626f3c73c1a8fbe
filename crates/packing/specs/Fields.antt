-- Fields of a 48-bit word, the most significant bit first.
use Rattle.std.specs.Prelude.{ℕ, ◌+◌, ◌-◌, ◌*◌, ◌/◌, ◌%◌, ◌^◌, ◌<◌, List, [], ◌∷◌, slice_index}

-- the field of w bits from bit f on, bit 0 being the most significant of 48
abbrev pub field : ℕ → ℕ → ℕ → ℕ
field f w n = n / 2 ^ (48 - f - w) % 2 ^ w

-- the fields of these widths, one behind the other from bit f on
abbrev pub fields : ℕ → List ℕ → ℕ → List ℕ
fields f [] n = []
fields f (w ∷ ws) n = field f w n ∷ fields (f + w) ws n

-- how many bits fields of these widths have together
abbrev pub width : List ℕ → ℕ
width [] = 0
width (w ∷ ws) = w + width ws

-- the number that has these values in fields of these widths
abbrev pub pack : List ℕ → List ℕ → ℕ
pack [] vs = 0
pack (w ∷ ws) [] = 0
pack (w ∷ ws) (v ∷ vs) = v * 2 ^ width ws + pack ws vs

-- there is a value for each width, and it fits
abbrev pub Fit : List ℕ → List ℕ → Type 0
Fit [] [] = Unit {0}
Fit [] (v ∷ vs) = ⊥
Fit (w ∷ ws) [] = ⊥
Fit (w ∷ ws) (v ∷ vs) = (v < 2 ^ w) × Fit ws vs

-- six bytes as fields
abbrev pub six : List ℕ
six = 8 ∷ 8 ∷ 8 ∷ 8 ∷ 8 ∷ 8 ∷ []

-- the first six of some bytes
abbrev pub front : List ℕ → List ℕ
front s = slice_index s 0 ∷ slice_index s 1 ∷ slice_index s 2 ∷ slice_index s 3 ∷ slice_index s 4 ∷ slice_index s 5 ∷ []

-- their word, the first byte the highest
abbrev pub word : List ℕ → ℕ
word s = pack six (front s)

-- the six bytes of a word
abbrev pub bytes : ℕ → List ℕ
bytes n = fields 0 six n
