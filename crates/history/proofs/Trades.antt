-- One trade of a pair, and the induction over all trades of a pairing.
use Rattle.std.proofs.Common.{◌≡◌, ℕ, zero, suc, ◌+◌, ◌-◌, ◌<◌, ◌≤◌, Bool, true, false, ltb, List, [], ◌∷◌, length, Some, None, sum_by, Option, sym, refl, ap, ◌∙◌, subst, arith}
use Rattle.std.proofs.lemmas.List.{get_or-set_other}
use Rattle.std.proofs.lemmas.List.Sums.{sum_by-set}
use Rattle.std.proofs.lemmas.Bool.{le-leb, both_ways}
use Rattle.curves.specs.Orders.{keeps}
use Rattle.rules.specs.Pairs.{PairLaw}
use Rattle.orders.specs.declared.order.Side.{Side}
use Rattle.orders.specs.declared.order.Side.TheVariants.{Buy, Sell}
use Rattle.orders.specs.declared.order.Event.TheVariants.{Fill}
use Rattle.orders.specs.declared.order.Order.{Order}
use Rattle.orders.specs.declared.order.Line.{Line}
use Rattle.orders.specs.Orders.{buys, at, no_order, standing, filled_by}
use Rattle.orders.specs.Settlement.{line_of, place_of, fill}
use Rattle.steps.specs.Pairing.{Pairs, best_pair, pair_quantity, pair_price, buy_line, sell_line, after_pair, lines_of_pair, pair_lines_from}
use Rattle.steps.specs.Ways.{PairsLaw}
use Rattle.history.specs.Fairness.{Trade}
use Rattle.history.proofs.Orders.{Good, changed_good, changed_long, filled_standing}
use Rattle.history.proofs.Fills.{Fit}
use Rattle.history.proofs.Bests.{of_side, Pair, stands_parts, stands_in, best_pair_stands}

-- the line of an order that stands, at a price that keeps its limit
pub line_fits : (os : List Order) (k q p i : ℕ) → Good os → k < length os → 0 < q → q ≤ standing (at os k) →
    keeps (buys (at os k).side) (at os k).limit p ≡ true → Fit os (line_of (at os k) q p i)
line_fits os k q p i g l some le keeps-it =
    let n = (g k l).number in
    let there : (at os k).number - 1 ≡ k = omega arith in
    record {
      kept = record {
        given = omega arith;
        within = omega arith;
        side = ap (λ j. (at os j).side) (sym there);
        member = ap (λ j. (at os j).member) (sym there);
        some = some;
        limit = subst (λ j. keeps (buys (at os k).side) (at os j).limit p ≡ true) (sym there) keeps-it;
      };
      enough = omega (arith, ap (λ j. standing (at os j)) there);
    }

-- a fill takes its quantity off all that stands
pub fill_sum : (os : List Order) (l : Line) → Fit os l → sum_by standing (fill os l) + l.quantity ≡ sum_by standing os
fill_sum os l f =
    let k = f.kept in
    let o = at os (place_of l) in
    omega (
      arith,
      sum_by-set standing os (place_of l) (filled_by l.quantity o) no_order (omega (arith, k.given, k.within)),
      filled_standing l.quantity o,
      f.enough,
    )

is_buy : (side : Side) → buys side ≡ true → side ≡ Buy
is_buy Buy e = refl
is_buy Sell e = absurd (both_ways false refl e)

is_sell : (side : Side) → buys side ≡ false → side ≡ Sell
is_sell Buy e = absurd (both_ways true e refl)
is_sell Sell e = refl

module _ (rules : Pairs) (law : PairLaw rules.price) (os : List Order) (i : ℕ) (p : ℕ × ℕ) (good : Good os) (h : Pair os p) where
  abbrev q : ℕ
  q = pair_quantity os p

  abbrev price : ℕ
  price = pair_price rules os p

  abbrev bl : Line
  bl = buy_line rules os i p

  abbrev sl : Line
  sl = sell_line rules os i p

  abbrev ys : List Order
  ys = fill os bl

  pub side_in : (side : Bool) → of_side p side < length os
  side_in side = stands_in side os (of_side p side) (h.stand side)

  pub side_of : (side : Bool) → buys (at os (of_side p side)).side ≡ side
  side_of side = (stands_parts side (at os (of_side p side)) (h.stand side)).0

  side_stands : (side : Bool) → 0 < standing (at os (of_side p side))
  side_stands side = (stands_parts side (at os (of_side p side)) (h.stand side)).1

  -- the pair is of two orders
  pub two_orders : p.1 ≡ p.0 → ⊥
  two_orders e = both_ways (buys (at os p.0).side) (subst (λ k. buys (at os k).side ≡ false) e (side_of false)) (side_of true)

  pub some_trades : 0 < q
  some_trades = omega (arith, side_stands true, side_stands false)

  side_keeps : (side : Bool) → keeps side (at os (of_side p side)).limit price ≡ true
  side_keeps true = le-leb price (at os p.0).limit (law (at os p.0).limit (at os p.1).limit (ltb (at os p.0).number (at os p.1).number) h.meet).1
  side_keeps false = le-leb (at os p.1).limit price (law (at os p.0).limit (at os p.1).limit (ltb (at os p.0).number (at os p.1).number) h.meet).0

  -- the line of either order, were it made first
  side_fits : (side : Bool) (j : ℕ) → q ≤ standing (at os (of_side p side)) → Fit os (line_of (at os (of_side p side)) q price j)
  side_fits side j le =
      line_fits os (of_side p side) q price j good (side_in side) some_trades le
      (subst (λ (b : Bool). keeps b (at os (of_side p side)).limit price ≡ true) (sym (side_of side)) (side_keeps side))

  pub buy_fits : Fit os bl
  buy_fits = side_fits true i (omega arith)

  pub buy_place : place_of bl ≡ p.0
  buy_place = omega (arith, (good p.0 (side_in true)).number)

  pub sell_place : place_of sl ≡ p.1
  sell_place = omega (arith, (good p.1 (side_in false)).number)

  -- the sell is as it was when the buy is filled
  pub sell_left : at ys p.1 ≡ at os p.1
  sell_left = get_or-set_other os (place_of bl) p.1 (filled_by q (at os (place_of bl))) no_order (λ e. two_orders (e ∙ buy_place))

  pub bought_good : Good ys
  bought_good = changed_good (place_of bl) (Fill q) os good

  pub sell_fits : Fit ys sl
  sell_fits =
      let e = sell_left in
      subst (λ o. Fit ys (line_of o q price (suc i))) e
      (line_fits ys p.1 q price (suc i) bought_good (omega (arith, changed_long (place_of bl) (Fill q) os, side_in false)) some_trades
      (omega (arith, ap standing e))
      (subst (λ o. keeps (buys o.side) o.limit price ≡ true) (sym e)
      (subst (λ (b : Bool). keeps b (at os p.1).limit price ≡ true) (sym (side_of false)) (side_keeps false))))

  pub traded_good : Good (after_pair rules os i p)
  traded_good = changed_good (place_of sl) (Fill q) ys bought_good

  -- a trade takes something off what stands
  pub traded_less : sum_by standing (after_pair rules os i p) < sum_by standing os
  traded_less = omega (arith, fill_sum os bl buy_fits, fill_sum ys sl sell_fits, some_trades)

  pub traded : Trade i bl sl
  traded = record {
    buy = is_buy (at os p.0).side (side_of true);
    sell = is_sell (at os p.1).side (side_of false);
    quantity = refl;
    price = refl;
    first = refl;
    second = refl;
  }

-- ---- all trades

-- what holds of no lines where there is no best pair, and of two lines more where it holds of the lines of what the best
-- pair's trade leaves, holds of the lines of the pairing
module _ (rules : Pairs) (laws : PairsLaw rules) (Q : ℕ → List Order → List Line → Type 0)
    (ends : (i : ℕ) (os : List Order) → Good os → best_pair rules os ≡ None → Q i os [])
    (trades : (i : ℕ) (os : List Order) (p : ℕ × ℕ) (ls : List Line) → Good os → best_pair rules os ≡ Some p → Pair os p →
    Q (suc (suc i)) (after_pair rules os i p) ls → Q i os (buy_line rules os i p ∷ sell_line rules os i p ∷ ls)) where
  abbrev later : ℕ → ℕ → List Order → ℕ × ℕ → List Line
  later n i os p = buy_line rules os i p ∷ sell_line rules os i p ∷ pair_lines_from rules n (suc (suc i)) (after_pair rules os i p)

  none_left : (i : ℕ) (os : List Order) → Good os → sum_by standing os ≤ 0 → (o : Option (ℕ × ℕ)) → best_pair rules os ≡ o → Q i os []
  none_left i os g le None e = ends i os g e
  none_left i os g le (Some p) e = absurd (omega (arith, traded_less rules laws.2 os i p g (best_pair_stands rules laws os g p e)))

  next : (n : ℕ) → ((i : ℕ) (os : List Order) → Good os → sum_by standing os ≤ n → Q i os (pair_lines_from rules n i os)) →
      (i : ℕ) (os : List Order) → Good os → sum_by standing os ≤ suc n → (o : Option (ℕ × ℕ)) → best_pair rules os ≡ o → Q i os (lines_of_pair o (later n i os))
  next n ih i os g le None e = ends i os g e
  next n ih i os g le (Some p) e =
      let h = best_pair_stands rules laws os g p e in
      trades i os p _ g e h
      (ih (suc (suc i)) (after_pair rules os i p) (traded_good rules laws.2 os i p g h) (omega (arith, traded_less rules laws.2 os i p g h)))

  pub pairing : (n i : ℕ) (os : List Order) → Good os → sum_by standing os ≤ n → Q i os (pair_lines_from rules n i os)
  pairing zero i os g le = none_left i os g le (best_pair rules os) refl
  pairing (suc n) i os g le = next n (pairing n) i os g le (best_pair rules os) refl
