-- Figures summed from what stands at each limit.
use Rattle.std.proofs.Common.{◌≡◌, ℕ, suc, ◌+◌, ◌<◌, ◌≤◌, Bool, true, false, cond, ◌&&◌, eqb, ltb, leb, List, map, length, get_or, set, sym, refl, ap, ◌∙◌, inl, inr, arith}
use Rattle.std.proofs.lemmas.Bool.{cases_lt, cases_eq, le-leb, lt-leb}
use Rattle.std.proofs.lemmas.List.{get_or-set_same, get_or-set_other, get_or_past}
use Rattle.std.specs.List.{range_with_len}
use Rattle.std.proofs.lemmas.List.FromFn.{fill_by_all, length-map-range_with_len, get_or-map-range_with_len}
use Rattle.curves.specs.Sums.{total}
use Rattle.curves.specs.Curves.{Curves, curve, figures}
use Rattle.curves.proofs.Prices.{curve_figures}
use Rattle.curves.proofs.Sums.{total_le, total_same, total_add, total_zero, total_pick, total_swap}
use Rattle.ticks.specs.Ticks.{highest_tick, Falls, Rises, kept_at, summed, at_limit, summed_figures, FiguresOfOrders}
use Rattle.curves.specs.Orders.{Bid, at, on, keeps, willing, demand, supply, OnTicks}
use Rattle.ticks.proofs.Steps.{total_front, front_more}

-- at each limit up to p: the sum of the first p + 1
pub offered_to : (n p : ℕ) (f : ℕ → ℕ) → p < n → total n (λ l. cond (leb l p) (f l) 0) ≡ total (suc p) f
offered_to n p f h = total_same n _ _ (λ k _. one (f k) k) ∙ total_front n (suc p) f h
  where
    one : (x k : ℕ) → cond (leb k p) x 0 ≡ cond (ltb k (suc p)) x 0
    one x k = grind arith

-- at each limit from p up: one more than from p + 1 up
pub wanted_from : (n p : ℕ) (f : ℕ → ℕ) → p < n → total n (λ l. cond (leb p l) (f l) 0) ≡ total n (λ l. cond (leb (suc p) l) (f l) 0) + f p
wanted_from n p f h =
    let split : total n (λ l. cond (leb p l) (f l) 0) ≡ total n (λ l. cond (leb (suc p) l) (f l) 0 + cond (eqb p l) (f l) 0) =
    total_same n _ _ (λ k _. one (f k) k) in
    omega (arith, total_add n (λ l. cond (leb (suc p) l) (f l) 0) (λ l. cond (eqb p l) (f l) 0), total_pick n p f h)
  where
    one : (x k : ℕ) → cond (leb p k) x 0 ≡ cond (leb (suc p) k) x 0 + cond (eqb p k) x 0
    one x k = grind arith

pub wanted_past : (n : ℕ) (f : ℕ → ℕ) → total n (λ l. cond (leb n l) (f l) 0) ≡ 0
wanted_past n f = total_same n _ (λ _. 0) (λ k h. rw (lt-leb n k h) refl) ∙ total_zero n

figure_at : (f : ℕ → ℕ) (k : ℕ) → k < suc highest_tick → curve (figures highest_tick f) k ≡ f k
unfolding figures
figure_at f k h = get_or-map-range_with_len f 0 (suc highest_tick) k k 0 h (omega arith)

same_figures : (f g : ℕ → ℕ) → ((k : ℕ) → k < suc highest_tick → f k ≡ g k) → figures highest_tick f ≡ figures highest_tick g
unfolding figures
same_figures f g same = fill_by_all g (map f (range_with_len 0 (suc highest_tick))) (suc highest_tick) 0 (length-map-range_with_len f 0 (suc highest_tick)) (λ k h. figure_at f k h ∙ same k h)

-- a list that holds the figures of all ticks
pub all_figures : (side : Bool) (xs ys : List ℕ) → length ys ≡ suc highest_tick → ((k : ℕ) → k < suc highest_tick → get_or ys k 0 ≡ kept_at side xs k) →
    ys ≡ figures highest_tick (summed side xs)
unfolding figures
all_figures side xs ys long same =
    fill_by_all (summed side xs) ys (suc highest_tick) 0 long (λ k h. same k h ∙ rw (le-leb k highest_tick (omega arith)) refl)

-- a turn of the loop that sums from the highest limit down
pub falling_more : (xs ys : List ℕ) (i t s : ℕ) → i ≡ suc t → t < suc highest_tick → length ys ≡ suc highest_tick → s ≡ kept_at true xs i →
    ((k : ℕ) → i ≤ k → k < suc highest_tick → get_or ys k 0 ≡ kept_at true xs k) →
    (s + get_or xs t 0 ≡ kept_at true xs t)
    × ((k : ℕ) → t ≤ k → k < suc highest_tick → get_or (set ys t (s + get_or xs t 0)) k 0 ≡ kept_at true xs k)
falling_more xs ys i t s e h long is below =
    let from : kept_at true xs t ≡ kept_at true xs (suc t) + get_or xs t 0 = wanted_from (suc highest_tick) t (curve xs) h in
    let so_far : s ≡ kept_at true xs (suc t) = rw e at is in
    let sum : s + get_or xs t 0 ≡ kept_at true xs t = omega arith in (
      sum,
      λ k a b. elim (cases_eq k t) [
        | inl here ↦ let lt : t < length ys = omega arith in rw (here, get_or-set_same) sum
        | inr other ↦ rw get_or-set_other (below k (omega arith) b)
      ],
    )

-- a turn of the loop that sums from the lowest limit up
pub rising_more : (xs ys : List ℕ) (t s : ℕ) → t < length ys → s ≡ total t (curve xs) →
    ((k : ℕ) → k < t → get_or ys k 0 ≡ total (suc k) (curve xs)) →
    (k : ℕ) → k < t + 1 → get_or (set ys t (s + get_or xs t 0)) k 0 ≡ total (suc k) (curve xs)
unfolding total
rising_more xs ys t s h is = front_more ys (λ k. total (suc k) (curve xs)) t (s + get_or xs t 0) h (rw is refl)

-- figures that are summed so fall and rise
summed_past : (side : Bool) (xs : List ℕ) (p : ℕ) → highest_tick < p → summed side xs p ≡ 0
summed_past side xs p h = rw (lt-leb p highest_tick h) refl

summed_at : (side : Bool) (xs : List ℕ) (p : ℕ) → p ≤ highest_tick → summed side xs p ≡ kept_at side xs p
summed_at side xs p h = rw (le-leb p highest_tick h) refl

curve_at : (side : Bool) (xs : List ℕ) (p : ℕ) → curve (figures highest_tick (summed side xs)) p ≡ summed side xs p
curve_at side xs p = ap (λ (f : ℕ → ℕ). f p) (curve_figures highest_tick (summed side xs) (summed_past side xs))

pub summed_falls : (xs : List ℕ) → Falls (figures highest_tick (summed true xs))
summed_falls xs p r h =
    let at_p = curve_at true xs p in
    let at-r = curve_at true xs r in
    elim (cases_lt highest_tick r) [
      | inl past ↦ omega (arith, summed_past true xs r past)
      | inr on ↦
          let least : kept_at true xs r ≤ kept_at true xs p = total_le (suc highest_tick) _ _ (λ l _. fewer (curve xs l) l) in
          omega (arith, summed_at true xs r on, summed_at true xs p (omega arith))
    ]
  where
    fewer : (x l : ℕ) → cond (leb r l) x 0 ≤ cond (leb p l) x 0
    fewer x l = grind arith

pub summed_rises : (xs : List ℕ) → Rises (figures highest_tick (summed false xs))
summed_rises xs p r h on =
    let least : kept_at false xs p ≤ kept_at false xs r = total_le (suc highest_tick) _ _ (λ l _. fewer (curve xs l) l) in
    omega (arith, curve_at false xs p, curve_at false xs r, summed_at false xs r on, summed_at false xs p (omega arith))
  where
    fewer : (x l : ℕ) → cond (leb l p) x 0 ≤ cond (leb l r) x 0
    fewer x l = grind arith

-- ---- the figures of orders

total_if : (b : Bool) (n : ℕ) (f : ℕ → ℕ) → cond b (total n f) 0 ≡ total n (λ k. cond b (f k) 0)
total_if true n f = refl
total_if false n f = sym (total_zero n)

module _ (side : Bool) (bs : List Bid) (on_ticks : OnTicks highest_tick bs) where
  -- an order stands at its own limit alone
  one_limit : (p k : ℕ) → k < length bs →
      total (suc highest_tick) (λ l. cond (keeps side l p) (cond (on side (at bs k) && eqb (at bs k).limit l) (at bs k).left 0) 0)
      ≡ cond (on side (at bs k) && keeps side (at bs k).limit p) (at bs k).left 0
  one_limit p k h =
      let tick = on_ticks k h in
      total_same (suc highest_tick) _ (λ l. cond (eqb (at bs k).limit l) (cond (on side (at bs k) && keeps side l p) (at bs k).left 0) 0)
      (λ l _. swapped (keeps side l p) (on side (at bs k)) (eqb (at bs k).limit l) (at bs k).left)
      ∙ total_pick (suc highest_tick) (at bs k).limit (λ l. cond (on side (at bs k) && keeps side l p) (at bs k).left 0) (omega arith)
    where
      swapped : (a b c : Bool) (x : ℕ) → cond a (cond (b && c) x 0) 0 ≡ cond c (cond (b && a) x 0) 0
      swapped a b c x = grind arith

  kept_is_willing : (p : ℕ) → kept_at side (figures highest_tick (at_limit side bs)) p ≡ willing side bs p
  kept_is_willing p =
      let n = length bs in
      let stands = λ (l k : ℕ). cond (on side (at bs k) && eqb (at bs k).limit l) (at bs k).left 0 in
      total_same (suc highest_tick) _ (λ l. total n (λ k. cond (keeps side l p) (stands l k) 0))
      (λ l h. ap (λ (x : ℕ). cond (keeps side l p) x 0) (figure_at (at_limit side bs) l h) ∙ total_if (keeps side l p) n (stands l))
      ∙ total_swap (suc highest_tick) n (λ l k. cond (keeps side l p) (stands l k) 0)
      ∙ total_same n _ _ (λ k h. one_limit p k h)

pub figures_of_orders : FiguresOfOrders
figures_of_orders bs on_ticks = (of_side true (demand highest_tick bs) (λ p h. refl), of_side false (supply highest_tick bs) (λ p h. refl))
  where
    of_side : (side : Bool) (f : ℕ → ℕ) → ((p : ℕ) → p < suc highest_tick → f p ≡ cond (leb p highest_tick) (willing side bs p) 0) →
        summed_figures side bs ≡ figures highest_tick f
    of_side side f is = same_figures _ f (λ p h. ap (λ (x : ℕ). cond (leb p highest_tick) x 0) (kept_is_willing side bs on_ticks p) ∙ sym (is p h))

-- figures in order
pub in_order : (d s : List ℕ) → Falls d → Rises s → length d ≡ suc highest_tick → length s ≡ suc highest_tick → Curves highest_tick (curve d) (curve s)
in_order d s falls rises dl sl =
    record {
      falls = falls;
      rises = rises;
      demand_ends = λ p h. get_or_past d p 0 (omega arith);
      supply_ends = λ p h. get_or_past s p 0 (omega arith);
    }
