-- The round trip of whole books, both ways.
use Rattle.std.proofs.Common.{◌≡◌, ℕ, zero, suc, ◌+◌, ◌*◌, ◌/◌, ◌^◌, ◌<◌, ◌≤◌, Bool, true, false, ◌||◌, leb, eqb, List, [], ◌∷◌, ◌++◌, map, length, take, drop, Some, None, Ok, Err, Option, Result, sym, refl, ap, ◌∙◌, subst, arith, get_or-drop}
use Rattle.std.specs.List.{flat_map, AllByRecursion}
use Rattle.std.proofs.lemmas.List.{length-drop, take_at}
use Rattle.std.proofs.lemmas.Bool.{leb-true, eqb-true, and_parts}
use Rattle.std.proofs.lemmas.Bool.Decides.{nat_tests}
use Rattle.packing.specs.Fields.{six, front, word, bytes}
use Rattle.packing.proofs.Cuts.{values_come_back, words_fit, word_comes_back}
use Rattle.book.specs.declared.values.Header.{Header}
use Rattle.book.specs.declared.values.Entry.{Entry}
use Rattle.book.specs.declared.fault.Question.{Question}
use Rattle.book.specs.declared.fault.Question.TheVariants.{Fit, Room}
use Rattle.book.specs.declared.fault.Fault.{Fault}
use Rattle.book.specs.Format.{way, count, header_of, entry_of}
use Rattle.book.specs.Questions.{header_questions, word_questions, value_questions, record_questions, first_no, fault, fault_or, first_fault}
use Rattle.book.specs.Reading.{words, entries, with_records, with_header, read_book, Lawful, is_round, NoRounds}
use Rattle.book.specs.Writing.{header_word, entry_word, entry_bytes, encode, book_length, header_fits, fit_questions, read_questions, or_else, fault_of, write_fault}
use Rattle.book.specs.Laws.{Passes, Bytes, WrittenReadsBack, ReadIsOnlyWriting}
use Rattle.book.proofs.Words.{words_step, length_entries}
use Rattle.book.proofs.Faults.{passes, records_pass, header_asks}
use Rattle.book.proofs.Fitting.{entry_small, entry_back, word_back, header_small, header_back, header_asked, header_word_back, count_small}

-- ---- what is written reads back

abbrev Fitting : List Entry → Type 0
Fitting es = AllByRecursion (λ (e : Entry). Passes (fit_questions e)) es

pub length_records : (es : List Entry) → length (flat_map entry_bytes es) ≡ 6 * length es
length_records [] = refl
length_records (e ∷ es) = let l = length_records es in omega arith

words_written : (es : List Entry) → Fitting es → words (flat_map entry_bytes es) ≡ map entry_word es
words_written [] fit = refl
words_written (e ∷ es) fit =
    let first = word_comes_back (entry_word e) (entry_small e fit.0.0) in
    let others = words_written es fit.1 in
    words_step (flat_map entry_bytes (e ∷ es)) (omega arith) ∙ (λ i. first i ∷ others i)

entries_back : (es : List Entry) → Fitting es → map entry_of (map entry_word es) ≡ es
entries_back [] fit = refl
entries_back (e ∷ es) fit = let first = entry_back e fit.0.0 in let others = entries_back es fit.1 in (λ i. first i ∷ others i)

first_fault_map : (w k : ℕ) (es : List Entry) → first_fault (record_questions w) k (map entry_word es) ≡ first_fault (read_questions w) k es
first_fault_map w k [] = refl
first_fault_map w k (e ∷ es) = ap (fault_or (first_no (read_questions w e)) k) (first_fault_map w (k + 1) es)

-- what a written book reads as, by the first no of its header's values
abbrev pub read_by : Header → List Entry → Option Question → Result (Header × List Entry) Fault
read_by h es None = with_records h es (first_fault (read_questions h.way) 1 es)
read_by h es (Some q) = Err (fault q 0)

module _ (h : Header) (es : List Entry) (t : header_fits h (length es) ≡ true) (fit : Fitting es) where
  pub header_written : header_word h (length es) ≡ word (encode h es)
  header_written = sym (word_comes_back (header_word h (length es)) (header_small h (length es) t))

  pub length_written : length (encode h es) ≡ 6 + 6 * length es
  length_written = let l = length_records es in omega arith

  pub asked_written : first_no (header_questions (encode h es)) ≡ first_no (value_questions h.way h.sharing h.reference)
  asked_written =
      sym (header_asks (header_word h (length es)) (encode h es) (omega (arith, length_written)) header_written) ∙ ap (λ n. first_no (word_questions (header_word h (length es)) n)) length_written ∙ header_asked h (length es) t

  pub header_read : header_of (word (encode h es)) ≡ h
  header_read = ap header_of (sym header_written) ∙ header_back h (length es) t

  pub with_written : (o : Option Question) → with_header (encode h es) o ≡ read_by h es o
  with_written None =
      let ws = words_written es fit in
      let all : entries (flat_map entry_bytes es) ≡ es = ap (map entry_of) ws ∙ entries_back es fit in
      let faults : first_fault (record_questions h.way) 1 (words (flat_map entry_bytes es)) ≡ first_fault (read_questions h.way) 1 es = ap (first_fault (record_questions h.way) 1) ws ∙ first_fault_map h.way 1 es in
      (λ i. with_records (header_read i) (all i) (first_fault (record_questions (header_read i).way) 1 (words (flat_map entry_bytes es)))) ∙ ap (with_records h es) faults
  with_written (Some q) = refl

  pub read_written : read_book (encode h es) ≡ read_by h es (first_no (value_questions h.way h.sharing h.reference))
  read_written = ap (with_header (encode h es)) asked_written ∙ with_written (first_no (value_questions h.way h.sharing h.reference))

fault_with : (h : Header) (es : List Entry) (o : Option Fault) → fault_of (with_records h es o) ≡ o
fault_with h es None = refl
fault_with h es (Some f) = refl

fault_by : (h : Header) (es : List Entry) (o : Option Question) → fault_of (read_by h es o) ≡ fault_or o 0 (first_fault (read_questions h.way) 1 es)
fault_by h es None = fault_with h es (first_fault (read_questions h.way) 1 es)
fault_by h es (Some q) = refl

-- the reading questions, as they are asked before anything is written
pub fault_written : (h : Header) (es : List Entry) → header_fits h (length es) ≡ true → Fitting es → fault_of (read_book (encode h es)) ≡ fault_or (first_no (value_questions h.way h.sharing h.reference)) 0 (first_fault (read_questions h.way) 1 es)
fault_written h es t fit = ap fault_of (read_written h es t fit) ∙ fault_by h es (first_no (value_questions h.way h.sharing h.reference))

-- what a write without a fault has passed
pub record Passed (h : Header) (es : List Entry) (len : ℕ) : Type 0 where
  pub header : header_fits h (length es) ≡ true
  pub fit : first_fault fit_questions 1 es ≡ None
  pub room : leb (book_length es) len ≡ true
  pub read : fault_of (read_book (encode h es)) ≡ None

parts : (a : Bool) (u : Option Fault) (l : Bool) (o : Option Fault) → fault_or (first_no ((Fit, a) ∷ [])) 0 (or_else u (fault_or (first_no ((Room, l) ∷ [])) 0 o)) ≡ None → (a ≡ true) × (u ≡ None) × (l ≡ true) × (o ≡ None)
parts true None true o e = (refl, refl, refl, e)
parts true None false o e = absurd (grind arith)
parts true (Some f) l o e = absurd (grind arith)
parts false u l o e = absurd (grind arith)

pub passed : (h : Header) (es : List Entry) (len : ℕ) → write_fault h es len ≡ None → Passed h es len
passed h es len none =
    let p = parts (header_fits h (length es)) (first_fault fit_questions 1 es) (leb (book_length es) len) (fault_of (read_book (encode h es))) none in
    record { header = p.0; fit = p.1; room = p.2; read = p.3 }

reads_by : (h : Header) (es : List Entry) (o : Option Question) → fault_of (read_by h es o) ≡ None → read_by h es o ≡ Ok (h, es)
reads_by h es None e =
    elim (first_fault (read_questions h.way) 1 es) as (λ o. fault_of (with_records h es o) ≡ None → with_records h es o ≡ Ok (h, es)) [
      | None ↦ λ z. refl
      | Some f ↦ λ z. absurd (grind arith)
    ] e
reads_by h es (Some q) e = absurd (grind arith)

pub written_reads_back : WrittenReadsBack
written_reads_back h es len none =
    let p = passed h es len none in
    let whole = read_written h es p.header (records_pass fit_questions 1 es p.fit) in
    whole ∙ reads_by h es (first_no (value_questions h.way h.sharing h.reference)) (ap fault_of (sym whole) ∙ p.read)

-- ---- what reads is the only writing

front_drop : (s : List ℕ) → 6 ≤ length s → front s ++ drop 6 s ≡ s
front_drop [] h = absurd (omega arith)
front_drop (a ∷ []) h = absurd (omega arith)
front_drop (a ∷ b ∷ []) h = absurd (omega arith)
front_drop (a ∷ b ∷ c ∷ []) h = absurd (omega arith)
front_drop (a ∷ b ∷ c ∷ d ∷ []) h = absurd (omega arith)
front_drop (a ∷ b ∷ c ∷ d ∷ e ∷ []) h = absurd (omega arith)
front_drop (a ∷ b ∷ c ∷ d ∷ e ∷ f ∷ s) h = refl

module _ (s : List ℕ) (small : Bytes s) where
  pub word_small : word s < 2 ^ 48
  word_small = words_fit six (front s) refl (small 0, (small 1, (small 2, (small 3, (small 4, (small 5, tt))))))

  pub bytes_front : bytes (word s) ≡ front s
  bytes_front = values_come_back six (front s) refl (small 0, (small 1, (small 2, (small 3, (small 4, (small 5, tt))))))

  pub small_drop : Bytes (drop 6 s)
  small_drop i = rw get_or-drop (small (6 + i))

records_only : (w k : ℕ) (s : List ℕ) → Bytes s → length s ≡ 6 * k → AllByRecursion (λ n. Passes (record_questions w n)) (words s) → flat_map entry_bytes (entries s) ≡ s
records_only w zero [] small len ok = refl
records_only w zero (a ∷ s) small len ok = absurd (omega arith)
records_only w (suc k) s small len ok =
    let long : 6 ≤ length s = omega arith in
    let step = words_step s long in
    let oks : AllByRecursion (λ n. Passes (record_questions w n)) (word s ∷ words (drop 6 s)) = subst (AllByRecursion (λ n. Passes (record_questions w n))) step ok in
    let first : entry_bytes (entry_of (word s)) ≡ front s = ap bytes (word_back w (word s) (word_small s small) oks.0) ∙ bytes_front s small in
    let others = records_only w k (drop 6 s) (small_drop s small) (rw length-drop (omega arith)) oks.1 in
    ap (λ l. flat_map entry_bytes (map entry_of l)) step ∙ (λ i. first i ++ others i) ∙ front_drop s long

-- what a book that reads has passed
pub record Reads (s : List ℕ) (h : Header) (es : List Entry) : Type 0 where
  pub asked : first_no (header_questions s) ≡ None
  pub records : first_fault (record_questions (way (word s))) 1 (words (drop 6 s)) ≡ None
  pub header : header_of (word s) ≡ h
  pub all : entries (drop 6 s) ≡ es

reads_records : (x h : Header) (all es : List Entry) (o : Option Fault) → with_records x all o ≡ Ok (h, es) → (o ≡ None) × (x ≡ h) × (all ≡ es)
reads_records x h all es None e = let p : ◌≡◌ {A = Header × List Entry} (x, all) (h, es) = cc in (refl, ap (λ y. y.0) p, ap (λ y. y.1) p)
reads_records x h all es (Some f) e = absurd (grind arith)

reads_parts : (s : List ℕ) (h : Header) (es : List Entry) → read_book s ≡ Ok (h, es) → Reads s h es
reads_parts s h es e =
    elim (first_no (header_questions s)) as (λ o. (first_no (header_questions s) ≡ o) → with_header s o ≡ Ok (h, es) → Reads s h es) [
      | None ↦ λ is r.
          let p = reads_records (header_of (word s)) h (entries (drop 6 s)) es (first_fault (record_questions (way (word s))) 1 (words (drop 6 s))) r in
          record { asked = is; records = p.0; header = p.1; all = p.2 }
      | Some q ↦ λ is r. absurd (grind arith)
    ] refl e

module _ (s : List ℕ) (h : Header) (es : List Entry) (small : Bytes s) (r : Reads s h es) where
  pub header_ok : Passes (header_questions s)
  header_ok = passes (header_questions s) r.asked

  pub length_ok : length s ≡ 6 + 6 * count (word s)
  length_ok = eqb-true (length s) (6 + 6 * count (word s)) header_ok.1.1.1.1.1.1.0

  pub count_ok : length es ≡ count (word s)
  count_ok =
      let n : length (drop 6 s) / 6 ≡ count (word s) = rw length-drop (omega (arith, length_ok)) in
      ap length (sym r.all) ∙ length_entries (drop 6 s) ∙ n

  pub header_only : header_word h (length es) ≡ word s
  header_only =
      (λ i. header_word (sym r.header i) (count_ok i)) ∙ header_word_back (word s) (word_small s small) (eqb-true _ 1 header_ok.1.0) (eqb-true _ 0 header_ok.1.1.1.1.1.0)

  pub only : s ≡ encode h es
  only =
      let first : bytes (header_word h (length es)) ≡ front s = ap bytes header_only ∙ bytes_front s small in
      let others : flat_map entry_bytes es ≡ drop 6 s =
      ap (flat_map entry_bytes) (sym r.all) ∙ records_only (way (word s)) (count (word s)) (drop 6 s) (small_drop s small) (rw length-drop (omega (arith, length_ok))) (records_pass (record_questions (way (word s))) 1 (words (drop 6 s)) r.records) in
      sym ((λ i. first i ++ others i) ∙ front_drop s (omega (arith, length_ok)))

pub read_is_only_writing : ReadIsOnlyWriting
read_is_only_writing s h es small e = only s h es small (reads_parts s h es e)

-- ---- what holds of a book that reads

-- a book has fewer records than its count can tell
pub few : (s : List ℕ) (h : Header) (es : List Entry) → Bytes s → read_book s ≡ Ok (h, es) → length es < 4096
few s h es small e = let n = count_ok s h es small (reads_parts s h es e) in omega arith

lawful_values : (h : Header) → Passes (value_questions h.way h.sharing h.reference) → Lawful h
lawful_values h p =
    let way = p.0 in
    let sharing = and_parts (leb h.sharing 2) (leb h.way 1 || eqb h.sharing 0) p.1.0 in
    let reference = p.1.1.0 in
    record {
      way = leb-true h.way 5 way;
      sharing = leb-true h.sharing 2 sharing.0;
      one_sharing = λ more. let one = sharing.1 in grind (arith, nat_tests);
      reference = λ other. grind (arith, nat_tests);
    }

pub lawful : (s : List ℕ) (h : Header) (es : List Entry) → read_book s ≡ Ok (h, es) → Lawful h
lawful s h es e =
    let r = reads_parts s h es e in
    let ok = passes (header_questions s) r.asked in
    subst Lawful r.header (lawful_values (header_of (word s)) (ok.1.1.0, (ok.1.1.1.0, (ok.1.1.1.1.0, tt))))

-- a record that passes where rounds are asked away is none
no_round : (w n : ℕ) → 5 ≤ w → Passes (record_questions w n) → is_round (entry_of n) ≡ false
no_round w n late p = let a = p.0 in grind (arith, nat_tests)

no_round_words : (w : ℕ) → 5 ≤ w → (ns : List ℕ) → AllByRecursion (λ n. Passes (record_questions w n)) ns → NoRounds (map entry_of ns)
no_round_words w late [] p = tt
no_round_words w late (n ∷ ns) p = (no_round w n late p.0, no_round_words w late ns p.1)

pub no_rounds : (s : List ℕ) (h : Header) (es : List Entry) → read_book s ≡ Ok (h, es) → 5 ≤ h.way → NoRounds es
no_rounds s h es e late =
    let r = reads_parts s h es e in
    let w : way (word s) ≡ h.way = ap (λ (x : Header). x.way) r.header in
    subst NoRounds r.all (no_round_words (way (word s)) (omega arith) (words (drop 6 s)) (records_pass (record_questions (way (word s))) 1 (words (drop 6 s)) r.records))

-- ---- the calls of writing

all_passed : (a : Bool) (u : Option Fault) (l : Bool) (o x : Option Fault) → None ≡ first_no ((Fit, a) ∷ []) → None ≡ u → None ≡ first_no ((Room, l) ∷ []) → o ≡ x → x ≡ fault_or (first_no ((Fit, a) ∷ [])) 0 (or_else u (fault_or (first_no ((Room, l) ∷ [])) 0 o))
all_passed a u l o x p q r e = rw (← p, ← q, ← r) (sym e)

-- where fit and room are there, the reading questions decide
pub write_asks : (h : Header) (es : List Entry) (len : ℕ) (q : Option Question) → None ≡ first_no ((Fit, header_fits h (length es)) ∷ []) → None ≡ first_fault fit_questions 1 es → None ≡ first_no ((Room, leb (book_length es) len) ∷ []) → q ≡ first_no (value_questions h.way h.sharing h.reference) → fault_or q 0 (first_fault (read_questions h.way) 1 es) ≡ write_fault h es len
write_asks h es len q t u l is =
    all_passed (header_fits h (length es)) (first_fault fit_questions 1 es) (leb (book_length es) len) (fault_of (read_book (encode h es))) (fault_or q 0 (first_fault (read_questions h.way) 1 es)) t u l
    (fault_written h es (passes ((Fit, header_fits h (length es)) ∷ []) (sym t)).0 (records_pass fit_questions 1 es (sym u)) ∙ ap (λ o. fault_or o 0 (first_fault (read_questions h.way) 1 es)) (sym is))

pub write_room : (h : Header) (es : List Entry) (len : ℕ) → None ≡ write_fault h es len → (length es < 4096) × (book_length es ≤ len)
write_room h es len none =
    let p = passed h es len (sym none) in
    (count_small h (length es) p.header, leb-true (book_length es) len p.room)

pub reads_written : (h : Header) (es : List Entry) (old new : List ℕ) (n : ℕ) → None ≡ write_fault h es (length old) → n ≡ book_length es → new ≡ encode h es ++ drop (book_length es) old → read_book (take n new) ≡ Ok (h, es)
reads_written h es old new n none is e =
    let l : length (encode h es) ≡ n = let k = length_records es in omega arith in
    ap read_book (ap (take n) e ∙ take_at (encode h es) (drop (book_length es) old) n l) ∙ written_reads_back h es (length old) (sym none)
