-- One trade of a pair that meets.
use Rattle.std.proofs.Common.{◌≡◌, ℕ, ◌+◌, ◌-◌, ◌<◌, ◌≤◌, Bool, true, false, cond, ltb, List, length, set, IfSome, Some, None, sum_by, count_by, Option, sym, ap, ◌∙◌, subst, inl, inr, arith}
use Rattle.std.proofs.lemmas.List.{get_or-set_same, get_or-set_other, length-set}
use Rattle.std.proofs.lemmas.List.Sums.{sum_by-set}
use Rattle.std.proofs.lemmas.Bool.{cases_lt}
use Rattle.orders.specs.declared.order.Life.{Life}
use Rattle.orders.specs.declared.order.Life.TheVariants.{Standing, Filled, Withdrawn, Killed}
use Rattle.orders.specs.declared.order.Event.TheVariants.{Fill}
use Rattle.orders.specs.declared.order.Order.{Order}
use Rattle.orders.specs.declared.order.Line.{Line}
use Rattle.orders.specs.Orders.{at, buys, standing, no_order, is_standing, left_after, life_after, filled_by}
use Rattle.orders.specs.Settlement.{place_of, fill}
use Rattle.steps.specs.Pairing.{Pairs, stands, best_place, meeting, best_pair, pair_quantity, buy_line, sell_line, after_pair}
use Rattle.pairing.proofs.Bests.{Numbered, stands_in, best_stands}

-- ---- a fill

standing_by_life : (l : Life) (q n : ℕ) → cond (is_standing (life_after l (Fill q) n)) (left_after l (Fill q) n) 0 ≡ cond (is_standing l) n 0 - q
standing_by_life Standing q n = grind arith
standing_by_life Filled q n = omega arith
standing_by_life Withdrawn q n = omega arith
standing_by_life Killed q n = omega arith

-- a fill takes its quantity off what stands
pub filled_standing : (q : ℕ) (o : Order) → standing (filled_by q o) ≡ standing o - q
filled_standing q o = standing_by_life o.life q o.left

-- all that stands
abbrev pub units : List Order → ℕ
units os = sum_by standing os

-- how many orders stand
abbrev pub standings : List Order → ℕ
standings os = count_by (λ (o : Order). ltb 0 (standing o)) os

abbrev one_if : Bool → ℕ
one_if b = cond b 1 0

module _ (os : List Order) (k q : ℕ) (lt : k < length os) where
  abbrev filled : List Order
  filled = set os k (filled_by q (at os k))

  units_filled : units filled + standing (at os k) ≡ units os + (standing (at os k) - q)
  units_filled = omega (arith, sum_by-set standing os k (filled_by q (at os k)) no_order lt, filled_standing q (at os k))

  numbered_filled : Numbered os → Numbered filled
  numbered_filled nb j l =
      let was = nb j (omega (arith, length-set os k (filled_by q (at os k)))) in
      grind (arith, get_or-set_same, get_or-set_other)

  -- a fill adds no standing order
  standings_most : standings filled ≤ standings os
  standings_most =
      let s = sum_by-set (λ (o : Order). one_if (ltb 0 (standing o))) os k (filled_by q (at os k)) no_order lt in
      let t = filled_standing q (at os k) in
      grind arith

  -- one that takes all leaves one standing order fewer
  standings_fewer : 0 < standing (at os k) → standing (at os k) ≤ q → standings filled + 1 ≡ standings os
  standings_fewer some all =
      let s = sum_by-set (λ (o : Order). one_if (ltb 0 (standing o))) os k (filled_by q (at os k)) no_order lt in
      let t = filled_standing q (at os k) in
      grind arith

-- ---- the pair

-- a standing buy and a standing sell whose limits meet
pub record Pair (os : List Order) (p : ℕ × ℕ) : Type 0 where
  pub buys : stands true (at os p.0) ≡ true
  pub sells : stands false (at os p.1) ≡ true
  pub meets : (at os p.1).limit ≤ (at os p.0).limit

meeting_pair : (os : List Order) (b s : Option ℕ) (p : ℕ × ℕ) → IfSome b (λ k. stands true (at os k) ≡ true) →
    IfSome s (λ k. stands false (at os k) ≡ true) → meeting os b s ≡ Some p → Pair os p
meeting_pair os None s p f g e = grind arith
meeting_pair os (Some b) None p f g e = grind arith
meeting_pair os (Some b) (Some s) p f g e = grind arith

pub best_meets : (rules : Pairs) (os : List Order) (p : ℕ × ℕ) → best_pair rules os ≡ Some p → Pair os p
best_meets rules os p e = meeting_pair os (best_place rules true os) (best_place rules false os) p (best_stands rules.buys true os) (best_stands rules.sells false os) e

-- ---- its trade

module _ (rules : Pairs) (os : List Order) (i : ℕ) (p : ℕ × ℕ) (nb : Numbered os) (h : Pair os p) where
  abbrev b : ℕ
  b = p.0

  abbrev s : ℕ
  s = p.1

  abbrev q : ℕ
  q = pair_quantity os p

  abbrev bl : Line
  bl = buy_line rules os i p

  abbrev sl : Line
  sl = sell_line rules os i p

  -- the orders between the two lines
  abbrev ys : List Order
  ys = fill os bl

  pub is_buy : buys (at os b).side ≡ true
  is_buy = let y = h.buys in grind arith

  pub is_sell : buys (at os s).side ≡ false
  is_sell = let y = h.sells in grind arith

  pub buy_in : b < length os
  buy_in = stands_in true os b h.buys

  pub sell_in : s < length os
  sell_in = stands_in false os s h.sells

  pub buy_some : 0 < standing (at os b)
  buy_some = let y = h.buys in grind arith

  pub sell_some : 0 < standing (at os s)
  sell_some = let y = h.sells in grind arith

  pub some_quantity : 0 < q
  some_quantity = omega (arith, buy_some, sell_some)

  pub apart : s ≡ b → ⊥
  apart e = let b = is_buy in let s = is_sell in grind arith

  pub place_b : place_of bl ≡ b
  place_b = omega (arith, nb b buy_in)

  pub place_s : place_of sl ≡ s
  place_s = omega (arith, nb s sell_in)

  abbrev after_buy : List Order
  after_buy = set os b (filled_by q (at os b))

  abbrev after_sell : List Order
  after_sell = set after_buy s (filled_by q (at after_buy s))

  pub buy_fill : ys ≡ after_buy
  buy_fill = ap (λ k. set os k (filled_by q (at os k))) place_b

  pub both_fills : after_pair rules os i p ≡ after_sell
  both_fills = ap (λ k. set ys k (filled_by q (at ys k))) place_s ∙ ap (λ z. set z s (filled_by q (at z s))) buy_fill

  sell_kept : at after_buy s ≡ at os s
  sell_kept = get_or-set_other os b s (filled_by q (at os b)) no_order apart

  pub sell_stays : at ys s ≡ at os s
  sell_stays = ap (λ z. at z s) buy_fill ∙ sell_kept

  sell_in_after : s < length after_buy
  sell_in_after = omega (arith, length-set os b (filled_by q (at os b)), sell_in)

  pub numbered_after : Numbered (after_pair rules os i p)
  numbered_after = subst Numbered (sym both_fills) (numbered_filled after_buy s q sell_in_after (numbered_filled os b q buy_in nb))

  -- a trade takes its quantity off both
  pub units_after : units (after_pair rules os i p) + q + q ≡ units os
  units_after =
      let kept : standing (at after_buy s) ≡ standing (at os s) = ap standing sell_kept in
      let same : units (after_pair rules os i p) ≡ units after_sell = ap units both_fills in
      let first = units_filled os b q buy_in in
      let second = units_filled after_buy s q sell_in_after in
      omega arith

  -- it takes all of one of the two
  pub standings_after : standings (after_pair rules os i p) + 1 ≤ standings os
  standings_after =
      let kept : standing (at after_buy s) ≡ standing (at os s) = ap standing sell_kept in
      let same : standings (after_pair rules os i p) ≡ standings after_sell = ap standings both_fills in
      elim (cases_lt (standing (at os b)) (standing (at os s))) [
        | inl l ↦ omega (arith, standings_fewer os b q buy_in buy_some (omega arith), standings_most after_buy s q sell_in_after)
        | inr g ↦ omega (arith, standings_most os b q buy_in, standings_fewer after_buy s q sell_in_after (omega (arith, sell_some)) (omega arith))
      ]
