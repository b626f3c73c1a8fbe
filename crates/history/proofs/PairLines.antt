-- The lines of a pairing: they fit, come in pairs, even out, leave nothing that could trade, and are few.
use Rattle.std.proofs.Common.{◌≡◌, ℕ, suc, ◌+◌, ◌-◌, ◌*◌, ◌≤◌, true, false, cond, ltb, List, [], ◌∷◌, length, fold, sum_by, count_by, refl, ap, ◌∙◌, inl, inr, arith}
use Rattle.std.proofs.lemmas.List.Sums.{sum_by-cons, sum_by-set, count_by-le-length}
use Rattle.std.proofs.lemmas.Bool.{cases_lt, cond_both, cond-true, cond-false, lt-ltb, le-ltb}
use Rattle.rules.specs.Pairs.{PairLaw}
use Rattle.orders.specs.declared.order.Order.{Order}
use Rattle.orders.specs.declared.order.Line.{Line}
use Rattle.orders.specs.Orders.{most_orders, buys, at, no_order, standing, filled_by}
use Rattle.orders.specs.Settlement.{place_of, fill, worth, bill, credit}
use Rattle.orders.specs.Kept.{most_lines}
use Rattle.steps.specs.Pairing.{Pairs, buy_line, sell_line, after_pair, pair_lines_from, pair_lines, Uncrossed}
use Rattle.steps.specs.Ways.{PairsLaw}
use Rattle.history.specs.Fairness.{on_side, Trade, InPairs}
use Rattle.history.proofs.Orders.{Good, filled_standing}
use Rattle.history.proofs.Fills.{Fit, Fits}
use Rattle.history.proofs.Bests.{Pair, no_pair_uncrossed}
use Rattle.history.proofs.Trades.{buy_fits, sell_fits, buy_place, sell_place, sell_left, traded, pairing}

-- ---- lines that come in pairs

-- what is alike in the two lines of each trade adds up alike
in_pairs_sum : (f g : Line → ℕ) → ((i : ℕ) (b s : Line) → Trade i b s → f b + f s ≡ g b + g s) → (i : ℕ) (ls : List Line) → InPairs i ls →
    sum_by f ls ≡ sum_by g ls
in_pairs_sum f g alike i [] h = refl
in_pairs_sum f g alike i (b ∷ []) h = absurd h
in_pairs_sum f g alike i (b ∷ s ∷ ls) h = omega (
  arith,
  sum_by-cons f b (s ∷ ls),
  sum_by-cons f s ls,
  sum_by-cons g b (s ∷ ls),
  sum_by-cons g s ls,
  alike i b s h.0,
  in_pairs_sum f g alike (suc (suc i)) ls h.1,
)

pub in_pairs_sides : (i : ℕ) (ls : List Line) → InPairs i ls → sum_by (on_side true) ls ≡ sum_by (on_side false) ls
in_pairs_sides = in_pairs_sum (on_side true) (on_side false) (λ i b s t. omega (
  arith,
  t.quantity,
  ap (λ x. cond (buys x) b.quantity 0) t.buy,
  ap (λ x. cond (buys x) s.quantity 0) t.sell,
  ap (λ x. cond (buys x) 0 b.quantity) t.buy,
  ap (λ x. cond (buys x) 0 s.quantity) t.sell,
))

pub in_pairs_even : (period i : ℕ) (ls : List Line) → InPairs i ls → sum_by (bill period) ls ≡ sum_by (credit period) ls
in_pairs_even period = in_pairs_sum (bill period) (credit period) (λ i b s t. omega (
  arith,
  ap (λ x. x * b.price * period) t.quantity ∙ ap (λ x. s.quantity * x * period) t.price,
  ap (λ x. cond (buys x) (worth period b) 0) t.buy,
  ap (λ x. cond (buys x) (worth period s) 0) t.sell,
  ap (λ x. cond (buys x) 0 (worth period b)) t.buy,
  ap (λ x. cond (buys x) 0 (worth period s)) t.sell,
))

-- ---- how many orders stand

abbrev pub standings : List Order → ℕ
standings os = count_by (λ (o : Order). ltb 0 (standing o)) os

-- 1 where something is left
abbrev one_if : ℕ → ℕ
one_if n = cond (ltb 0 n) 1 0

one_none : (n : ℕ) → n ≡ 0 → one_if n ≡ 0
one_none n e = cond-false (ltb 0 n) 1 0 (le-ltb 0 n (omega arith))

one_most : (n : ℕ) → one_if n ≤ 1
one_most n = cond_both (ltb 0 n) 1 0 (λ x. x ≤ 1) (λ _. omega arith) (λ _. omega arith)

-- an order that a line fills stands on or not, by what is left of it
fill_count : (os : List Order) (l : Line) → Fit os l → standings (fill os l) + 1 ≡ standings os + one_if (standing (at os (place_of l)) - l.quantity)
fill_count os l f =
    let k = f.kept in
    let o = at os (place_of l) in
    omega (
      arith,
      sum_by-set (λ (o : Order). one_if (standing o)) os (place_of l) (filled_by l.quantity o) no_order (omega (arith, k.given, k.within)),
      ap one_if (filled_standing l.quantity o),
      cond-true {A = ℕ} (ltb 0 (standing o)) 1 0 (lt-ltb 0 (standing o) (omega (arith, f.enough, k.some))),
    )

-- a trade takes the last unit of one of its two orders
pub traded_count : (rules : Pairs) → PairLaw rules.price → (os : List Order) (i : ℕ) (p : ℕ × ℕ) → Good os → Pair os p →
    standings (after_pair rules os i p) + 1 ≤ standings os
traded_count rules law os i p g h =
    let bl = buy_line rules os i p in
    let sl = sell_line rules os i p in
    let ys = fill os bl in
    let x = standing (at os (place_of bl)) - bl.quantity in
    let y = standing (at ys (place_of sl)) - sl.quantity in
    let a = fill_count os bl (buy_fits rules law os i p g h) in
    let b = fill_count ys sl (sell_fits rules law os i p g h) in
    let eb : standing (at os (place_of bl)) ≡ standing (at os p.0) = ap (λ k. standing (at os k)) (buy_place rules law os i p g h) in
    let es : standing (at ys (place_of sl)) ≡ standing (at os p.1) =
    ap (λ k. standing (at ys k)) (sell_place rules law os i p g h) ∙ ap standing (sell_left rules law os i p g h) in
    elim (cases_lt (standing (at os p.0)) (standing (at os p.1))) [
      | inl l ↦ omega (arith, one_none x (omega arith), one_most y)
      | inr l ↦ omega (arith, one_none y (omega arith), one_most x)
    ]

-- ---- the lines of a pairing

module _ (rules : Pairs) (laws : PairsLaw rules) where
  pub pair_lines_fit : (n i : ℕ) (os : List Order) → Good os → sum_by standing os ≤ n → Fits os (pair_lines_from rules n i os)
  pair_lines_fit =
      pairing rules laws (λ i os ls. Fits os ls) (λ i os g e. tt)
      (λ i os p ls g e h later. (buy_fits rules laws.2 os i p g h, (sell_fits rules laws.2 os i p g h, later)))

  pub pair_lines_in_pairs : (n i : ℕ) (os : List Order) → Good os → sum_by standing os ≤ n → InPairs i (pair_lines_from rules n i os)
  pair_lines_in_pairs =
      pairing rules laws (λ i os ls. InPairs i ls) (λ i os g e. tt)
      (λ i os p ls g e h later. (traded rules laws.2 os i p g h, later))

  -- afterwards no two orders that stand could trade
  pub pair_lines_uncross : (n i : ℕ) (os : List Order) → Good os → sum_by standing os ≤ n → Uncrossed (fold fill os (pair_lines_from rules n i os))
  pair_lines_uncross =
      pairing rules laws (λ i os ls. Uncrossed (fold fill os ls)) (λ i os g e. no_pair_uncrossed rules laws os g e)
      (λ i os p ls g e h later. later)

  -- two lines at most for each order that stands
  pub pair_lines_few : (n i : ℕ) (os : List Order) → Good os → sum_by standing os ≤ n → length (pair_lines_from rules n i os) ≤ 2 * standings os
  pair_lines_few =
      pairing rules laws (λ i os ls. length ls ≤ 2 * standings os) (λ i os g e. omega arith)
      (λ i os p ls g e h later. omega (arith, later, traded_count rules laws.2 os i p g h))

  -- so a pairing of at most 511 orders makes at most 1,022 lines
  pub pair_lines_most : (os : List Order) → Good os → length os ≤ most_orders → length (pair_lines rules os) ≤ most_lines
  pair_lines_most os g l =
      omega (arith, pair_lines_few (sum_by standing os) 0 os g (omega arith), count_by-le-length (λ (o : Order). ltb 0 (standing o)) os)
