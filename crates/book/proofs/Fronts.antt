-- A book is told by its front.
use Rattle.std.proofs.Common.{◌≡◌, ℕ, ◌+◌, ◌*◌, ◌<◌, List, length, take, Some, None, sym, refl, ap, ◌∙◌, inl, inr, arith}
use Rattle.std.proofs.lemmas.List.{take_all, length-take-le}
use Rattle.std.proofs.lemmas.Bool.{cases_lt, eqb-true, ne_eqb}
use Rattle.packing.specs.Fields.{word}
use Rattle.book.specs.Format.{count}
use Rattle.book.specs.Questions.{header_questions, word_questions, first_no}
use Rattle.book.specs.Reading.{with_header, read_book}
use Rattle.book.specs.Laws.{FrontIsEnough}
use Rattle.book.proofs.Words.{word_take}
use Rattle.book.proofs.Faults.{passes, header_asks}

-- a length that no count tells is a fault, and the same one for every such length
module _ (n a b : ℕ) (long : 24576 < a) (also : 24576 < b) where
  pub lengths_alike : first_no (word_questions n a) ≡ first_no (word_questions n b)
  lengths_alike =
      let p = ne_eqb a (6 + 6 * count n) (omega arith) in
      let q = ne_eqb b (6 + 6 * count n) (omega arith) in
      rw (p, q)

  pub some_no : first_no (word_questions n a) ≡ None → ⊥
  some_no e = let p = eqb-true a (6 + 6 * count n) (passes (word_questions n a) e).1.1.1.1.1.0 in omega arith

pub front_is_enough : FrontIsEnough
front_is_enough s n more =
    elim (cases_lt n (length s)) [
      | inr all ↦ ap read_book (take_all n s all)
      | inl cut ↦
          let l : length (take n s) ≡ n = length-take-le n s (omega arith) in
          let here = header_asks (word s) s (omega arith) refl in
          let front : first_no (word_questions (word s) n) ≡ first_no (header_questions (take n s)) = ap (λ m. first_no (word_questions (word s) m)) (sym l) ∙ header_asks (word s) (take n s) (omega arith) (sym (word_take n s (omega arith))) in
          let asked : first_no (header_questions (take n s)) ≡ first_no (header_questions s) = sym front ∙ lengths_alike (word s) n (length s) more (omega arith) ∙ here in
          ap (with_header (take n s)) asked
          ∙ elim (first_no (header_questions s)) as (λ o. (first_no (header_questions s) ≡ o) → with_header (take n s) o ≡ with_header s o) [
            | None ↦ λ is. absurd (some_no (word s) (length s) n (omega arith) more (here ∙ is))
            | Some q ↦ λ is. refl
          ] refl
    ]

-- where the bytes at hand are the front of an input
pub read_of_input : (s input : List ℕ) → s ≡ take 24577 input → read_book input ≡ read_book s
read_of_input s input e = sym (front_is_enough input 24577 (omega arith)) ∙ ap read_book (sym e)
