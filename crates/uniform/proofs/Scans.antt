-- A look at each order tells the best limits, and so whether anything can trade.
use Rattle.std.proofs.Common.{◌≡◌, ℕ, suc, ◌+◌, ◌-◌, ◌<◌, ◌≤◌, min, max, Bool, true, false, cond, ltb, leb, List, length, ap, ◌∙◌, inl, inr, arith}
use Rattle.std.proofs.lemmas.List.{length-map}
use Rattle.std.proofs.lemmas.Bool.{cases_lt, le-leb, lt-leb, cond-true, cond-false}
use Rattle.curves.specs.Sums.{total}
use Rattle.curves.specs.Curves.{executable}
use Rattle.curves.specs.Orders.{Bid, willing, demand, supply, clearing_volume}
use Rattle.curves.specs.Orders.{at as bid}
use Rattle.curves.proofs.Sums.{greatest_at, greatest_le}
use Rattle.curves.proofs.Orders.{orders_make_curves}
use Rattle.ticks.specs.Ticks.{highest_tick}
use Rattle.ticks.proofs.Steps.{total_none, total_more}
use Rattle.orders.specs.declared.order.Life.{Life}
use Rattle.orders.specs.declared.order.Life.TheVariants.{Standing, Filled, Withdrawn, Killed}
use Rattle.orders.specs.declared.order.Order.{Order}
use Rattle.orders.specs.Orders.{buys, is_standing, left_by, bid_of, bids_of, at, sound_order}
use Rattle.orders.specs.Willing.{willing_at}
use Rattle.orders.proofs.Keeps.{sound_parts}
use Rattle.orders.proofs.Bids.{bid_at}
use Rattle.steps.specs.Uniform.{uniform_volume}
use Rattle.uniform.proofs.Standing.{cut_le, volume_standing}

-- a standing order has something left
some_left : (k : ℕ) (o : Order) → sound_order k o ≡ true → is_standing o.life ≡ true → 0 < o.left
some_left k o h s = let left : left_by o.life o.left ≡ true = grind arith in by_life o.life o.left left s
  where
    by_life : (l : Life) (n : ℕ) → left_by l n ≡ true → is_standing l ≡ true → 0 < n
    by_life Standing n y s = grind arith
    by_life Filled n y s = grind arith
    by_life Withdrawn n y s = grind arith
    by_life Killed n y s = grind arith

-- what the first n orders have open on a side at tick p
abbrev pub open_of : List Order → ℕ → Bool → ℕ → ℕ
open_of os n side p = total n (λ k. willing_at side p (bid (bids_of os) k))

-- of the first n orders: no standing buy is at a or above, no standing sell below l, and there are such just there
pub record Scanned (os : List Order) (n a l : ℕ) : Type 0 where
  pub high : (p : ℕ) → a ≤ p → open_of os n true p ≡ 0
  pub low : (p : ℕ) → p < l → open_of os n false p ≡ 0
  pub buy : 0 < a → 0 < open_of os n true (a - 1)
  pub sell : l ≤ highest_tick → 0 < open_of os n false l
  pub below : a ≤ suc highest_tick

pub scanned_none : (os : List Order) → Scanned os 0 0 (suc highest_tick)
scanned_none os = record {
  high = λ p _. total_none (λ k. willing_at true p (bid (bids_of os) k));
  low = λ p _. total_none (λ k. willing_at false p (bid (bids_of os) k));
  buy = λ h. absurd (omega arith);
  sell = λ h. absurd (omega arith);
  below = omega arith;
}

module _ (os : List Order) (i : ℕ) (h : i < length os) (s : sound_order i (at os i) ≡ true) (a l : ℕ) (was : Scanned os i a l) where
  abbrev o : Order
  o = at os i

  open_more : (side : Bool) (p : ℕ) → open_of os (i + 1) side p ≡ open_of os i side p + willing_at side p (bid_of o)
  open_more side p =
      total_more i (λ k. willing_at side p (bid (bids_of os) k))
      ∙ ap (λ b. open_of os i side p + willing_at side p b) (bid_at os i h)

  pub scanned_other : is_standing o.life ≡ false → Scanned os (i + 1) a l
  scanned_other out =
      let none : (side : Bool) (p : ℕ) → willing_at side p (bid_of o) ≡ 0 = λ side p. grind arith in
      record {
        high = λ p g. omega (arith, open_more true p, none true p, was.high p g);
        low = λ p g. omega (arith, open_more false p, none false p, was.low p g);
        buy = λ g. omega (arith, open_more true (a - 1), was.buy g);
        sell = λ g. omega (arith, open_more false l, was.sell g);
        below = was.below;
      }

  pub scanned_buy : is_standing o.life ≡ true → buys o.side ≡ true → Scanned os (i + 1) (max a (o.limit + 1)) l
  scanned_buy st b =
      let w : (p : ℕ) → willing_at true p (bid_of o) ≡ cond (leb p o.limit) o.left 0 = λ p. grind arith in
      let v : (p : ℕ) → willing_at false p (bid_of o) ≡ 0 = λ p. grind arith in
      record {
        high = λ p g. omega (arith, open_more true p, was.high p (omega arith), w p, cond-false (leb p o.limit) o.left 0 (lt-leb p o.limit (omega arith)));
        low = λ p g. omega (arith, open_more false p, v p, was.low p g);
        buy = λ g. elim (cases_lt o.limit a) [
          | inl before ↦
              let e : max a (o.limit + 1) - 1 ≡ a - 1 = omega arith in
              omega (arith, ap (open_of os (i + 1) true) e, open_more true (a - 1), was.buy (omega arith))
          | inr past ↦
              let e : max a (o.limit + 1) - 1 ≡ o.limit = omega arith in
              let here = w o.limit in
              let some = some_left i o s st in
              let more = open_more true o.limit in
              rw e (grind arith)
        ];
        sell = λ g. omega (arith, open_more false l, was.sell g);
        below = omega (arith, was.below, (sound_parts i o s).limit);
      }

  pub scanned_sell : is_standing o.life ≡ true → buys o.side ≡ false → Scanned os (i + 1) a (min l o.limit)
  scanned_sell st b =
      let w : (p : ℕ) → willing_at false p (bid_of o) ≡ cond (leb o.limit p) o.left 0 = λ p. grind arith in
      let v : (p : ℕ) → willing_at true p (bid_of o) ≡ 0 = λ p. grind arith in
      record {
        high = λ p g. omega (arith, open_more true p, v p, was.high p g);
        low = λ p g. omega (arith, open_more false p, was.low p (omega arith), w p, cond-false (leb o.limit p) o.left 0 (lt-leb o.limit p (omega arith)));
        buy = λ g. omega (arith, open_more true (a - 1), was.buy g);
        sell = λ g. elim (cases_lt o.limit l) [
          | inl before ↦
              let e : min l o.limit ≡ o.limit = omega arith in
              let here = w o.limit in
              let some = some_left i o s st in
              let more = open_more false o.limit in
              rw e (grind arith)
          | inr past ↦
              let e : min l o.limit ≡ l = omega arith in
              omega (arith, ap (open_of os (i + 1) false) e, open_more false l, was.sell (omega arith))
        ];
        below = was.below;
      }

module _ (os : List Order) (a l : ℕ) (scanned : Scanned os (length os) a l) where
  abbrev bs : List Bid
  bs = bids_of os

  abbrev D : ℕ → ℕ
  D = demand highest_tick bs

  abbrev S : ℕ → ℕ
  S = supply highest_tick bs

  all : (side : Bool) (p : ℕ) → willing side bs p ≡ open_of os (length os) side p
  all side p = ap (λ n. total n (λ k. willing_at side p (bid (bids_of os) k))) (length-map os bid_of)

  some : l < a → 0 < clearing_volume highest_tick bs
  some c =
      let tick : l ≤ highest_tick = omega (arith, scanned.below) in
      let d : D (a - 1) ≤ D l = (orders_make_curves highest_tick bs).falls l (a - 1) (omega arith) in
      let dd : D (a - 1) ≡ willing true bs (a - 1) = cond-true (leb (a - 1) highest_tick) (willing true bs (a - 1)) 0 (le-leb (a - 1) highest_tick (omega (arith, scanned.below))) in
      let ss : S l ≡ willing false bs l = cond-true (leb l highest_tick) (willing false bs l) 0 (le-leb l highest_tick tick) in
      let most : executable D S l ≤ clearing_volume highest_tick bs = greatest_le highest_tick (executable D S) l tick in
      omega (arith, all true (a - 1), all false l, scanned.buy (omega arith), scanned.sell tick)

  none : a ≤ l → clearing_volume highest_tick bs ≡ 0
  none c =
      let (p, tick, e) = greatest_at highest_tick (executable D S) in
      elim (cases_lt p a) [
        | inl below ↦ omega (arith, cut_le (leb p highest_tick) (willing false bs p), all false p, scanned.low p (omega arith))
        | inr above ↦ omega (arith, cut_le (leb p highest_tick) (willing true bs p), all true p, scanned.high p above)
      ]

  -- something can trade where a sell's limit is below the buys' bound
  pub scanned_all : ltb l a ≡ ltb 0 (uniform_volume os)
  scanned_all =
      let same = volume_standing highest_tick os in
      elim (cases_lt l a) [ inl crossed ↦ let most = some crossed in grind arith | inr apart ↦ let shut = none apart in grind arith ]
