-- The laws of layouts: fields that fill the 48 bits of a word.
use Rattle.std.specs.Prelude.{◌≡◌, ℕ, ◌^◌, ◌<◌, List, length, slice_index}
use Rattle.packing.specs.Fields.{fields, width, pack, Fit, word, bytes}

-- the fields of a layout, put back in their places, give the word
abbrev pub FieldsGiveTheWord : Type 0
FieldsGiveTheWord = (ws : List ℕ) (n : ℕ) → width ws ≡ 48 → n < 2 ^ 48 → pack ws (fields 0 ws n) ≡ n

-- values that fit, packed, are cut back to themselves
abbrev pub ValuesComeBack : Type 0
ValuesComeBack = (ws vs : List ℕ) → width ws ≡ 48 → Fit ws vs → fields 0 ws (pack ws vs) ≡ vs

-- a word packed of values that fit has 48 bits
abbrev pub WordsFit : Type 0
WordsFit = (ws vs : List ℕ) → width ws ≡ 48 → Fit ws vs → pack ws vs < 2 ^ 48

-- six bytes give a word that gives the same six bytes
abbrev pub BytesComeBack : Type 0
BytesComeBack = (s : List ℕ) → length s ≡ 6 → ((i : ℕ) → slice_index s i < 256) → bytes (word s) ≡ s

-- a word gives six bytes that give the same word
abbrev pub WordComesBack : Type 0
WordComesBack = (n : ℕ) → n < 2 ^ 48 → word (bytes n) ≡ n
