-- The way of a book, by the numbers of its header.
use Rattle.std.proofs.Common.{◌≡◌, ℕ, Bool, true, false, cond, eqb, List, ◌∷◌, ap, ◌∙◌, subst}
use Rattle.std.proofs.lemmas.Bool.{false_from_ne_true, true≢false}
use Rattle.curves.specs.Pricing.{PriceMeaning}
use Rattle.rules.specs.Prices.{crossing, principles}
use Rattle.rules.specs.Sharing.{earliest_first, largest_first, pro_rata}
use Rattle.rules.specs.Pairs.{buyers_price, sellers_price, half_the_sum}
use Rattle.book.specs.declared.values.Header.{Header}
use Rattle.book.specs.declared.values.Entry.{Entry}
use Rattle.book.specs.Reading.{NoRounds}
use Rattle.book.specs.declared.values.Entry.TheVariants.{Round}
use Rattle.steps.specs.Ways.{Way, Uniform, is_continuous}
use Rattle.sheets.specs.Calls.{sharing_of, paired_at, continuous_way, way_of, Suits}

-- ---- rounds in a book

-- only a batch way has rounds
pub rounds_are_batch : (w : Way) (es : List Entry) → Suits w (Round ∷ es) → is_continuous w ≡ false
rounds_are_batch w es h = false_from_ne_true (is_continuous w) (λ t. true≢false (h t).0)

-- what suits a way suits it without the first record
pub suits_rest : (w v : Way) (e : Entry) (all es : List Entry) → w ≡ v → all ≡ e ∷ es → Suits w all → Suits v es
suits_rest w v e all es i a h c = (subst NoRounds a (h (ap is_continuous i ∙ c))).1

-- ---- every way of a book

either : (P : Way → Type 0) (b : Bool) (v w : Way) → P v → P w → P (cond b v w)
either P true v w p q = p
either P false v w p q = q

by_sharing : (P : Way → Type 0) (price : PriceMeaning) (r n : ℕ) → P (Uniform price earliest_first r) → P (Uniform price largest_first r) → P (Uniform price pro_rata r) →
    P (Uniform price (sharing_of n) r)
by_sharing P price r n a b c =
    elim (eqb n 0) as (λ x. P (Uniform price (cond x earliest_first (cond (eqb n 1) largest_first pro_rata)) r)) [
      | true ↦ a
      | false ↦ elim (eqb n 1) as (λ x. P (Uniform price (cond x largest_first pro_rata) r)) [ true ↦ b | false ↦ c ]
    ]

-- what holds of each of the rules that ship holds of every book's way
pub every_way : (P : Way → Type 0) → ((r : ℕ) → P (Uniform crossing earliest_first r)) → ((r : ℕ) → P (Uniform crossing largest_first r)) → ((r : ℕ) → P (Uniform crossing pro_rata r)) →
    ((r : ℕ) → P (Uniform principles earliest_first r)) → ((r : ℕ) → P (Uniform principles largest_first r)) → ((r : ℕ) → P (Uniform principles pro_rata r)) →
    P (paired_at buyers_price) → P (paired_at sellers_price) → P (paired_at half_the_sum) → P continuous_way → (h : Header) → P (way_of h)
unfolding way_of
every_way P a b c d e f buyers sellers half cont h =
    let r = h.reference in
    either P (eqb h.way 0) _ _ (by_sharing P crossing r h.sharing (a r) (b r) (c r))
    (either P (eqb h.way 1) _ _ (by_sharing P principles r h.sharing (d r) (e r) (f r))
    (either P (eqb h.way 2) _ _ buyers
    (either P (eqb h.way 3) _ _ sellers
    (either P (eqb h.way 4) _ _ half cont))))
