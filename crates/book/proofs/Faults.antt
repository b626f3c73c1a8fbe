-- A fault, and the absence of one, in the words of the book.
use Rattle.std.proofs.Common.{◌≡◌, ℕ, ◌+◌, ◌-◌, ◌<◌, ◌≤◌, true, false, cond, leb, List, [], ◌∷◌, length, take, drop, Some, None, Ok, Err, Option, Result, MatchResult, sym, refl, ap, subst, ◌∙◌, inl, inr, arith}
use Rattle.std.proofs.lemmas.Bool.{cond-true, cond-false, le-leb, lt-leb}
use Rattle.std.specs.List.{AllByRecursion}
use Rattle.std.specs.Result.{IsErrAnd, result_err}
use Rattle.packing.specs.Fields.{word}
use Rattle.book.specs.declared.values.Header.{Header}
use Rattle.book.specs.declared.values.Entry.{Entry}
use Rattle.book.specs.declared.fault.Question.{Question}
use Rattle.book.specs.declared.fault.Question.TheVariants.{SixBytes}
use Rattle.book.specs.declared.fault.Fault.{Fault}
use Rattle.book.specs.Format.{way, header_of}
use Rattle.book.specs.Questions.{Asked, header_questions, word_questions, record_questions, first_no, first_fault, fault_or, fault}
use Rattle.book.specs.Reading.{words, entries, read_book, with_header, with_records}
use Rattle.book.proofs.Words.{words_step, rest}
use Rattle.book.specs.Laws.{Passes, Fails, RecordFails, Faulty, Faultless}

-- ---- an error that is passed on

pub err_of : {X E : Type 0} (r : Result X E) (f : E) → IsErrAnd r (λ x. x ≡ f) → result_err r ≡ Some f
err_of (Ok x) f h = absurd h
err_of (Err e) f h = ap Some h

pub err_told : {X E : Type 0} (r : Result X E) (f : E) (P : X → Type 0) (Q : E → Type 0) → IsErrAnd r (λ x. x ≡ f) → Q f → MatchResult r P Q
err_told (Ok x) f P Q h q = absurd h
err_told (Err e) f P Q h q = subst Q (sym h) q

-- ---- the first no

pub passes : (asked : List Asked) → first_no asked ≡ None → Passes asked
passes [] e = tt
passes (a ∷ later) e =
    elim a.1 as (λ b. cond b (first_no later) (Some a.0) ≡ None → (b ≡ true) × Passes later) [
      | true ↦ λ h. (refl, passes later h)
      | false ↦ λ h. absurd (grind arith)
    ] e

fails_after : (a : Asked) (later : List Asked) (q : Question) → a.1 ≡ true → Fails later q → Fails (a ∷ later) q
fails_after a later q ok f =
    record { earlier = a ∷ f.earlier; later = f.later; order = ap (λ l. a ∷ l) f.order; passed = (ok, f.passed) }

pub fails : (asked : List Asked) (q : Question) → first_no asked ≡ Some q → Fails asked q
fails [] q e = absurd (grind arith)
fails (a ∷ later) q e =
    elim a.1 as (λ b. (a.1 ≡ b) → cond b (first_no later) (Some a.0) ≡ Some q → Fails (a ∷ later) q) [
      | true ↦ λ is h. fails_after a later q is (fails later q h)
      | false ↦ λ is h.
          let same : a.0 ≡ q = cc in
          let pair : a ≡ (q, false) = rw (← same, ← is) in
          record { earlier = []; later = later; order = ap (λ x. x ∷ later) pair; passed = tt }
    ] refl e

module _ {X : Type 0} (asks : X → List Asked) where
  pub records_pass : (k : ℕ) (xs : List X) → first_fault asks k xs ≡ None → AllByRecursion (λ (x : X). Passes (asks x)) xs
  records_pass k [] e = tt
  records_pass k (x ∷ xs) e =
      elim (first_no (asks x)) as (λ o. (first_no (asks x) ≡ o) → fault_or o k (first_fault asks (k + 1) xs) ≡ None → AllByRecursion (λ (y : X). Passes (asks y)) (x ∷ xs)) [
        | None ↦ λ is h. (passes (asks x) is, records_pass (k + 1) xs h)
        | Some q ↦ λ is h. absurd (grind arith)
      ] refl e

  pub record_fails : (k : ℕ) (xs : List X) (f : Fault) → first_fault asks k xs ≡ Some f → RecordFails asks k xs f
  record_fails k [] f e = absurd (grind arith)
  record_fails k (x ∷ xs) f e =
      elim (first_no (asks x)) as (λ o. (first_no (asks x) ≡ o) → fault_or o k (first_fault asks (k + 1) xs) ≡ Some f → RecordFails asks k (x ∷ xs) f) [
        | None ↦ λ is h.
            let r = record_fails (k + 1) xs f h in
            record {
              earlier = x ∷ r.earlier;
              here = r.here;
              later = r.later;
              order = ap (λ l. x ∷ l) r.order;
              number = let m = r.number in omega arith;
              passed = (passes (asks x) is, r.passed);
              fails = r.fails;
            }
        | Some q ↦ λ is h.
            let same : fault q k ≡ f = cc in
            record {
              earlier = [];
              here = x;
              later = xs;
              order = refl;
              number = sym (ap (λ (y : Fault). y.«record») same) ∙ omega arith;
              passed = tt;
              fails = fails (asks x) f.question (is ∙ ap (λ (y : Fault). Some y.question) same);
            }
      ] refl e

-- ---- one record more, where the code has its word as n

module _ (w k n : ℕ) (s : List ℕ) (long : 6 ≤ length s) (is : n ≡ word s) where
  pub fault_here : (q : Question) → Some q ≡ first_no (record_questions w n) → Some (fault q k) ≡ first_fault (record_questions w) k (words s)
  fault_here q e = rw (words_step s long, ← is, ← e)

  pub fault_later : None ≡ first_no (record_questions w n) → first_fault (record_questions w) (k + 1) (words (take (length s - 6) (drop 6 s))) ≡ first_fault (record_questions w) k (words s)
  fault_later e = rw (rest s, words_step s long, ← is, ← e)

-- ---- the whole book

-- what is known of a book that has a fault
pub record Told (s : List ℕ) (f : Fault) : Type 0 where
  pub reads : read_book s ≡ Err f
  pub tells : Faulty s f

-- and of one that has none
pub record Read (s : List ℕ) (h : Header) (es : List Entry) : Type 0 where
  pub reads : read_book s ≡ Ok (h, es)
  pub tells : Faultless s

header_told : (s : List ℕ) (q : Question) → first_no (header_questions s) ≡ Some q → Told s (fault q 0)
header_told s q e = record { reads = ap (with_header s) e; tells = inl (refl, fails (header_questions s) q e) }

pub short_told : (s : List ℕ) → length s < 6 → Told s (fault SixBytes 0)
short_told s short =
    header_told s SixBytes (cond-false (leb 6 (length s)) (first_no (word_questions (word s) (length s))) (Some SixBytes) (lt-leb 6 (length s) short))

-- where the code has the header's word as n
module _ (n : ℕ) (s : List ℕ) (long : 6 ≤ length s) (is : n ≡ word s) where
  pub header_asks : first_no (word_questions n (length s)) ≡ first_no (header_questions s)
  header_asks =
      rw is (sym (cond-true (leb 6 (length s)) (first_no (word_questions (word s) (length s))) (Some SixBytes) (le-leb 6 (length s) long)))

  pub word_told : (q : Question) → Some q ≡ first_no (word_questions n (length s)) → Told s (fault q 0)
  word_told q e = header_told s q (sym (e ∙ header_asks))

  module _ (h : Header) (header : h ≡ header_of n) (ok : None ≡ first_no (word_questions n (length s))) where
    pub header_passes : first_no (header_questions s) ≡ None
    header_passes = sym (ok ∙ header_asks)

    pub same_header : h ≡ header_of (word s)
    same_header = header ∙ ap header_of is

    pub same_records : (o : Option Fault) → o ≡ first_fault (record_questions h.way) 1 (words (take (length s - 6) (drop 6 s))) → first_fault (record_questions (way (word s))) 1 (words (drop 6 s)) ≡ o
    same_records o e = sym (e ∙ ap (λ (x : Header). first_fault (record_questions x.way) 1 (words (take (length s - 6) (drop 6 s)))) same_header ∙ ap (λ l. first_fault (record_questions (way (word s))) 1 (words l)) (rest s))

    pub record_told : (f : Fault) → Some f ≡ first_fault (record_questions h.way) 1 (words (take (length s - 6) (drop 6 s))) → Told s f
    record_told f e =
        let here = same_records (Some f) e in
        record {
          reads = ap (with_header s) header_passes ∙ ap (with_records (header_of (word s)) (entries (drop 6 s))) here;
          tells = inr (passes (header_questions s) header_passes, record_fails (record_questions (way (word s))) 1 (words (drop 6 s)) f here);
        }

    pub book_reads : None ≡ first_fault (record_questions h.way) 1 (words (take (length s - 6) (drop 6 s))) → Read s h (entries (take (length s - 6) (drop 6 s)))
    book_reads e =
        let none = same_records None e in
        record {
          reads = ap (with_header s) header_passes ∙ ap (with_records (header_of (word s)) (entries (drop 6 s))) none ∙ ap (λ (x : Header). Ok (x, entries (drop 6 s))) (sym same_header) ∙ ap (λ l. Ok (h, entries l)) (sym (rest s));
          tells = (passes (header_questions s) header_passes, records_pass (record_questions (way (word s))) 1 (words (drop 6 s)) none);
        }
