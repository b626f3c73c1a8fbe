-- Values that fit come back from their words, and words that read come back from their values.
use Rattle.std.proofs.Common.{◌≡◌, ℕ, ◌+◌, ◌*◌, ◌^◌, ◌<◌, true, cond, eqb, ltb, ◌⊎◌, List, [], ◌∷◌, ◌++◌, get_or, sym, refl, ap, ◌∙◌, ⊎_elim, arith}
use Rattle.std.proofs.lemmas.Bool.{and_parts, ltb-true, eq-eqb}
use Rattle.std.proofs.lemmas.Bool.Decides.{nat_tests}
use Rattle.packing.specs.Fields.{field, fields, width, pack, Fit}
use Rattle.packing.proofs.Cuts.{fields_give_the_word, values_come_back, words_fit}
use Rattle.book.specs.declared.values.Header.{Header}
use Rattle.book.specs.declared.values.Entry.{Entry}
use Rattle.book.specs.declared.values.Entry.TheVariants.{Place, Withdraw, Round}
use Rattle.book.specs.declared.fault.Question.TheVariants.{Form, HeaderSpare, Length}
use Rattle.book.specs.Format.{form, header_spare, count, kind, header_of, placement_of, withdrawal_of, entry_of}
use Rattle.book.specs.Questions.{value_questions, word_questions, record_questions, first_no}
use Rattle.book.specs.Writing.{header_widths, header_values, header_word, entry_widths, entry_values, entry_word, fits, header_fits, entry_fits}
use Rattle.book.specs.Laws.{Passes}

fit_from : (ws vs : List ℕ) → fits ws vs ≡ true → Fit ws vs
fit_from [] [] h = tt
fit_from [] (v ∷ vs) h = absurd (grind arith)
fit_from (w ∷ ws) [] h = absurd (grind arith)
fit_from (w ∷ ws) (v ∷ vs) h =
    let p = and_parts (ltb v (2 ^ w)) (fits ws vs) h in
    (ltb-true v (2 ^ w) p.0, fit_from ws vs p.1)

-- ---- a record

entry_width : (e : Entry) → width (entry_widths e) ≡ 48
entry_width (Place p) = refl
entry_width (Withdraw w) = refl
entry_width Round = refl

pub entry_small : (e : Entry) → entry_fits e ≡ true → entry_word e < 2 ^ 48
entry_small e h = words_fit (entry_widths e) (entry_values e) (entry_width e) (fit_from (entry_widths e) (entry_values e) h)

entry_cut : (e : Entry) → entry_fits e ≡ true → fields 0 (entry_widths e) (entry_word e) ≡ entry_values e
entry_cut e h = values_come_back (entry_widths e) (entry_values e) (entry_width e) (fit_from (entry_widths e) (entry_values e) h)

-- by the kind k of the word n
entry_by : ℕ → ℕ → Entry
entry_by k n = cond (eqb k 0) (Place (placement_of n)) (cond (eqb k 1) (Withdraw (withdrawal_of n)) Round)

pub entry_back : (e : Entry) → entry_fits e ≡ true → entry_of (entry_word e) ≡ e
unfolding entry_by
entry_back (Place p) h =
    ap (λ (l : List ℕ). cond (eqb (get_or l 0 0) 0) (Place (record { side = get_or l 1 0; kind = get_or l 2 0; member = get_or l 3 0; limit = get_or l 4 0; quantity = get_or l 5 0 })) (cond (eqb (kind (entry_word (Place p))) 1) (Withdraw (withdrawal_of (entry_word (Place p)))) Round)) (entry_cut (Place p) h)
entry_back (Withdraw w) h =
    ap (λ (l : List ℕ). cond (eqb (get_or l 0 0) 0) (Place (placement_of (entry_word (Withdraw w)))) (cond (eqb (get_or l 0 0) 1) (Withdraw (record { member = get_or l 1 0; number = get_or l 2 0 })) Round)) (entry_cut (Withdraw w) h)
entry_back Round h = refl

-- the kinds that read, each with its spare bits 0
kinds : (w n : ℕ) → Passes (record_questions w n) → ((kind n ≡ 0) × (field 42 6 n ≡ 0)) ⊎ (((kind n ≡ 1) × (field 17 31 n ≡ 0)) ⊎ ((kind n ≡ 2) × (field 2 46 n ≡ 0)))
kinds w n p = let a = p.0 in let b = p.1.1.0 in grind (arith, nat_tests)

pub word_back : (w n : ℕ) → n < 2 ^ 48 → Passes (record_questions w n) → entry_word (entry_of n) ≡ n
unfolding entry_by
word_back w n small p =
    ⊎_elim
    (λ a. ap (λ k. entry_word (entry_by k n)) a.0 ∙ (λ i. pack (entry_widths (Place (placement_of n))) (sym a.0 i ∷ field 2 1 n ∷ field 3 2 n ∷ field 5 6 n ∷ field 11 11 n ∷ field 22 20 n ∷ sym a.1 i ∷ [])) ∙ fields_give_the_word (entry_widths (Place (placement_of n))) n refl small)
    (⊎_elim
    (λ a. ap (λ k. entry_word (entry_by k n)) a.0 ∙ (λ i. pack (entry_widths (Withdraw (withdrawal_of n))) (sym a.0 i ∷ field 2 6 n ∷ field 8 9 n ∷ sym a.1 i ∷ [])) ∙ fields_give_the_word (entry_widths (Withdraw (withdrawal_of n))) n refl small)
    (λ a. ap (λ k. entry_word (entry_by k n)) a.0 ∙ (λ i. pack (entry_widths Round) (sym a.0 i ∷ sym a.1 i ∷ [])) ∙ fields_give_the_word (entry_widths Round) n refl small))
    (kinds w n p)

-- ---- the header

module _ (h : Header) (n : ℕ) (t : header_fits h n ≡ true) where
  pub header_small : header_word h n < 2 ^ 48
  header_small = words_fit header_widths (header_values h n) refl (fit_from header_widths (header_values h n) t)

  pub header_cut : fields 0 header_widths (header_word h n) ≡ header_values h n
  header_cut = values_come_back header_widths (header_values h n) refl (fit_from header_widths (header_values h n) t)

  pub count_small : n < 4096
  count_small = (fit_from header_widths (header_values h n) t).1.1.1.1.1.0

  pub header_back : header_of (header_word h n) ≡ h
  header_back = ap (λ (l : List ℕ). record { way = get_or l 1 0; sharing = get_or l 2 0; reference = get_or l 3 0; period = get_or l 4 0 }) header_cut

  -- what is filled in passes, so that only the values are left to be asked about
  pub header_asked : first_no (word_questions (header_word h n) (6 + 6 * n)) ≡ first_no (value_questions h.way h.sharing h.reference)
  header_asked =
      let length-is = eq-eqb (6 + 6 * n) (6 + 6 * n) refl in
      ap (λ (l : List ℕ). first_no ((Form, eqb (get_or l 0 0) 1) ∷ (value_questions (get_or l 1 0) (get_or l 2 0) (get_or l 3 0) ++ ((HeaderSpare, eqb (get_or l 6 0) 0) ∷ (Length, eqb (6 + 6 * n) (6 + 6 * get_or l 5 0)) ∷ [])))) header_cut ∙ rw length-is

pub header_word_back : (n : ℕ) → n < 2 ^ 48 → form n ≡ 1 → header_spare n ≡ 0 → header_word (header_of n) (count n) ≡ n
header_word_back n small f s =
    (λ i. pack header_widths (sym f i ∷ field 4 3 n ∷ field 7 2 n ∷ field 9 11 n ∷ field 20 12 n ∷ field 32 12 n ∷ sym s i ∷ [])) ∙ fields_give_the_word header_widths n refl small
