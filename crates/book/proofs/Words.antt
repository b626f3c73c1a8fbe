-- The records of some bytes, one after the other.
use Rattle.std.proofs.Common.{◌≡◌, ℕ, zero, suc, ◌-◌, ◌/◌, ◌<◌, ◌≤◌, List, [], ◌∷◌, length, take, drop, refl, ap, ◌∙◌, subst, arith}
use Rattle.std.proofs.lemmas.List.{length-drop, length-map, take_rest, get_or-take}
use Rattle.packing.specs.Fields.{word}
use Rattle.book.specs.declared.values.Entry.{Entry}
use Rattle.book.specs.Format.{entry_of}
use Rattle.book.specs.Reading.{words_of, words, entries, NoRounds}

pub words_step : (s : List ℕ) → 6 ≤ length s → words s ≡ word s ∷ words (drop 6 s)
words_step s h =
    let e : length s / 6 ≡ suc (length (drop 6 s) / 6) = rw length-drop (omega arith) in
    ap (λ n. words_of n s) e

pub words_short : (s : List ℕ) → length s < 6 → words s ≡ []
words_short s h = let e : length s / 6 ≡ 0 = omega arith in ap (λ n. words_of n s) e

-- what a slice pattern calls the rest
pub rest : (s : List ℕ) → take (length s - 6) (drop 6 s) ≡ drop 6 s
rest s = take_rest s 6

-- the first six bytes stay where more is cut off
pub word_take : (n : ℕ) (s : List ℕ) → 6 ≤ n → word (take n s) ≡ word s
word_take n s h =
    rw (get_or-take n s 0 0 (omega arith), get_or-take n s 1 0 (omega arith), get_or-take n s 2 0 (omega arith), get_or-take n s 3 0 (omega arith), get_or-take n s 4 0 (omega arith), get_or-take n s 5 0 (omega arith))

pub entries_step : (s : List ℕ) (x : Entry) → 6 ≤ length s → x ≡ entry_of (word (take 6 s)) → entries s ≡ x ∷ entries (take (length s - 6) (drop 6 s))
entries_step s x h e =
    let first = words_step s h in
    let same = word_take 6 s (omega arith) in
    let part = rest s in
    cc

-- the first record is cut off
entries_rest : (s : List ℕ) → 6 ≤ length s → entries s ≡ entry_of (word s) ∷ entries (take (length s - 6) (drop 6 s))
entries_rest s h = let first = words_step s h in let part = rest s in cc

pub fewer : (s : List ℕ) → 6 ≤ length s → length (entries (take (length s - 6) (drop 6 s))) < length (entries s)
fewer s h = let e = ap length (entries_rest s h) in omega arith

pub no_rounds_rest : (s : List ℕ) → 6 ≤ length s → NoRounds (entries s) → NoRounds (entries (take (length s - 6) (drop 6 s)))
no_rounds_rest s h none = (subst NoRounds (entries_rest s h) none).1

length_words : (n : ℕ) (s : List ℕ) → length (words_of n s) ≡ n
length_words zero s = refl
length_words (suc n) s = ap suc (length_words n (drop 6 s))

pub length_entries : (s : List ℕ) → length (entries s) ≡ length s / 6
length_entries s = length-map (words s) entry_of ∙ length_words (length s / 6) s
