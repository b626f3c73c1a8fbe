-- A set of members as a number: the ones of it are the members that lines name.
use Rattle.std.proofs.Common.{◌≡◌, ℕ, zero, suc, ◌+◌, ◌*◌, ◌/◌, ◌%◌, ◌^◌, ◌<◌, Bool, cond, ◌||◌, eqb, List, [], ◌∷◌, ◌++◌, length, get_or, take, sym, ap, ◌∙◌, inl, inr, pow-suc, arith}
use lib.Bits.{bit_or}
use lib.Count.{ones, ones_step, ones_cat, ones-le}
use Rattle.std.specs.Int.{bit_at, w64}
use Rattle.std.proofs.lemmas.Nat.{pow_pos, div_below, mod_below, shr_split}
use Rattle.std.proofs.lemmas.Nat.Bits.{bit_at_cat_low, bit_at_set_same, bit_at_set_other}
use Rattle.std.proofs.lemmas.List.{take_more}
use Rattle.std.proofs.lemmas.Bool.{cases_eq}
use Rattle.curves.specs.Sums.{total}
use Rattle.orders.specs.declared.order.Line.{Line}
use Rattle.orders.specs.Settlement.{member_places}
use Rattle.orders.specs.Kept.{no_line}
use Rattle.orders.specs.Members.{has_line, distinct_members}

ones_small : (q : ℕ) → q < 2 → ones q ≡ q % 2
ones_small q h = let z : q / 2 ≡ 0 = omega arith in ones_step q ∙ ap (λ w. q % 2 + ones w) z ∙ omega (arith, ones-le 0 0 (omega arith))

-- a number whose digits below place k say what p says has as many ones as p has places there
counted : (p : ℕ → Bool) (k n : ℕ) → n < 2 ^ k → ((j : ℕ) → j < k → bit_at n j ≡ cond (p j) 1 0) → ones n ≡ total k (λ j. cond (p j) 1 0)
unfolding total
counted p zero n h b = omega (arith, ones-le 0 n h)
counted p (suc k) n h b =
    let q = n / 2 ^ k in
    let r = n % 2 ^ k in
    let low : r < 2 ^ k = mod_below n (2 ^ k) (pow_pos k) in
    let high : q < 2 = div_below n (2 ^ k) 2 (pow_pos k) (omega (arith, pow-suc 2 k)) in
    let digit : (j : ℕ) → j < k → bit_at r j ≡ cond (p j) 1 0 = λ j l. sym (bit_at_cat_low q k r j l) ∙ ap (λ z. bit_at z j) (shr_split n k) ∙ b j (omega (arith, l)) in
    sym (ap ones (shr_split n k)) ∙ ones_cat k q r low
    ∙ omega (arith, ones_small q high, counted p k r low digit, b k (omega arith))

pub ones_members : (ls : List Line) (n : ℕ) → n < 2 ^ 64 → ((j : ℕ) → bit_at n j ≡ cond (has_line ls j) 1 0) → ones n ≡ distinct_members ls
ones_members ls n h b = counted (has_line ls) 64 n h (λ j _. b j)

pub has_push : (ls : List Line) (l : Line) (m : ℕ) → has_line (ls ++ l ∷ []) m ≡ (has_line ls m || eqb l.member m)
has_push [] l m = grind arith
has_push (x ∷ ls) l m = let more = has_push ls l m in grind arith

pub marked_more : (ls : List Line) (i n : ℕ) → i < length ls → (get_or ls i no_line).member < member_places
    → ((j : ℕ) → bit_at n j ≡ cond (has_line (take i ls) j) 1 0)
    → (j : ℕ) → bit_at (bit_or n (1 * 2 ^ (get_or ls i no_line).member % 2 ^ 64)) j ≡ cond (has_line (take (i + 1) ls) j) 1 0
marked_more ls i n lt fits h j =
    let m = (get_or ls i no_line).member in
    let more : has_line (take (i + 1) ls) j ≡ (has_line (take i ls) j || eqb m j) =
    ap (λ z. has_line z j) (take_more ls i no_line lt) ∙ has_push (take i ls) (get_or ls i no_line) j in
    let here = h j in
    elim (cases_eq j m) [
      | inl s ↦ let set = ap (λ z. bit_at (bit_or n (1 * 2 ^ m % 2 ^ 64)) z) s ∙ bit_at_set_same w64 n m fits in grind arith
      | inr o ↦ let same = bit_at_set_other w64 n m fits j o in grind arith
    ]
