-- The lines of a uniform round: they fit, keep limits at one price, add up, and give each order its award.
use Rattle.std.proofs.Common.{◌≡◌, ℕ, zero, suc, ◌+◌, ◌-◌, ◌*◌, ◌<◌, ◌≤◌, Bool, true, false, cond, not, eqb, ltb, List, [], ◌∷◌, map, length, get_or, sum_by, filter, sym, refl, ap, ◌∙◌, subst, inl, inr, add-mul, zero-mul, arith}
use Rattle.std.specs.List.{AllByRecursion}
use Rattle.std.proofs.lemmas.List.{get_or-map, get_or-set_other, length-map, same_lists, get_or_default}
use Rattle.std.proofs.ByRecursion.{All-get_or, All-from_get_or, all_kept_by}
use Rattle.std.proofs.lemmas.List.Sums.{sum_by-cons, length-filter, count_by-le-length}
use Rattle.std.proofs.lemmas.Bool.{cases_lt, cond_both, cond-true, cond-false, ltb-true, ltb-false, lt-ltb, le-ltb, eq-eqb, ne_eqb}
use Rattle.curves.specs.Sums.{total}
use Rattle.curves.specs.Orders.{Bid, on, keeps, OnTicks}
use Rattle.curves.specs.Orders.{at as bid}
use Rattle.curves.specs.Allotments.{given, given_to, Award, Best}
use Rattle.curves.specs.Sharing.{SharingMeaning, SharingLaw}
use Rattle.curves.specs.Filling.{award_by}
use Rattle.curves.specs.Pricing.{PriceMeaning, PriceLaw, price_by}
use Rattle.curves.proofs.Sums.{total_head, total_at}
use Rattle.curves.proofs.Orders.{on_of_buys}
use Rattle.curves.proofs.Awards.{award_is_best, award_keeps_limits}
use Rattle.curves.proofs.Filling.{award_of_sharing}
use Rattle.curves.proofs.Prices.{price_of_rule}
use Rattle.ticks.specs.Ticks.{highest_tick}
use Rattle.orders.specs.declared.order.Order.{Order}
use Rattle.orders.specs.declared.order.Line.{Line}
use Rattle.orders.specs.Orders.{buys, is_standing, at, no_order, standing, filled_by, bid_of, bids_of}
use Rattle.orders.specs.Settlement.{line_of, place_of, fill, bill, credit}
use Rattle.orders.proofs.Bids.{bid_at}
use Rattle.steps.specs.Uniform.{standing_of, standing_bids, uniform_volume, uniform_price, lines_at, uniform_lines}
use Rattle.history.specs.Fairness.{of_order, on_side, award_of}
use Rattle.history.proofs.Orders.{Good, kept_like, like_changed}
use Rattle.history.proofs.Fills.{Fit, Fits}

-- ---- lines of different orders

-- no two lines are of one order
abbrev Ascending : List Line → Type 0
Ascending [] = Unit {0}
Ascending (l ∷ ls) = AllByRecursion (λ (x : Line). l.order < x.order) ls × Ascending ls

-- a line still fits where another order is filled
still_fits : (os : List Order) (l x : Line) → Fit os l → l.order < x.order → Fit os x → Fit (fill os l) x
still_fits os l x f lt g =
    let k = f.kept in
    let same : at (fill os l) (place_of x) ≡ at os (place_of x) =
    get_or-set_other os (place_of l) (place_of x) (filled_by l.quantity (at os (place_of l))) no_order (λ e. omega (arith, k.given)) in
    record {
      kept = kept_like os (fill os l) x (like_changed (place_of l) _ os) g.kept;
      enough = omega (arith, ap standing same, g.enough);
    }

pub fits_ascending : (os : List Order) (ls : List Line) → Ascending ls → AllByRecursion (Fit os) ls → Fits os ls
fits_ascending os [] a f = tt
fits_ascending os (l ∷ ls) a f = (f.0, fits_ascending (fill os l) ls a.1 (all ls a.0 f.1))
  where
    all : (xs : List Line) → AllByRecursion (λ (x : Line). l.order < x.order) xs → AllByRecursion (Fit os) xs → AllByRecursion (Fit (fill os l)) xs
    all [] a f = tt
    all (x ∷ xs) a g = (still_fits os l x f.0 a.0 g.0, all xs a.1 g.1)

of_none : (n : ℕ) (ls : List Line) → AllByRecursion (λ (l : Line). n < l.order) ls → sum_by (of_order n) ls ≡ 0
of_none n [] h = refl
of_none n (l ∷ ls) h = omega (
  arith,
  sum_by-cons (of_order n) l ls,
  cond-false (eqb l.order n) l.quantity 0 (ne_eqb l.order n (λ e. omega (arith, h.0))),
  of_none n ls h.1,
)

-- ---- orders whose numbers rise

abbrev Rising : List Order → Type 0
Rising [] = Unit {0}
Rising (o ∷ os) = AllByRecursion (λ (x : Order). o.number < x.number) os × Rising os

rising_from : (n : ℕ) (os : List Order) → ((k : ℕ) → k < length os → (at os k).number ≡ n + k + 1) → Rising os
rising_from n [] h = tt
rising_from n (o ∷ os) h = (
  All-from_get_or (λ (x : Order). o.number < x.number) os no_order (λ k l. omega (arith, h 0 (omega arith), h (suc k) (omega arith))),
  rising_from (n + 1) os (λ k l. omega (arith, h (suc k) (omega arith))),
)

rising_kept : (test : Order → Bool) (os : List Order) → Rising os → Rising (filter test os)
rising_kept test [] h = tt
rising_kept test (o ∷ os) h =
    cond_both (test o) (o ∷ filter test os) (filter test os) Rising
    (λ _. (all_kept_by test (λ (x : Order). o.number < x.number) os h.0, rising_kept test os h.1))
    (λ _. rising_kept test os h.1)

-- ---- the lines of quantities

module _ (p : ℕ) where
  -- what holds of the line of each order that is given something holds of all lines
  lines_all : (P : Line → Type 0) (os : List Order) (qs : List ℕ) (i : ℕ) →
      ((k j : ℕ) → k < length os → 0 < get_or qs k 0 → P (line_of (at os k) (get_or qs k 0) p j)) → AllByRecursion P (lines_at p i os qs)
  lines_all P [] qs i h = tt
  lines_all P (o ∷ os) [] i h = tt
  lines_all P (o ∷ os) (q ∷ qs) i h =
      let later : (j : ℕ) → AllByRecursion P (lines_at p j os qs) = λ j. lines_all P os qs j (λ k n l. h (suc k) n (omega arith)) in
      cond_both (ltb 0 q) (line_of o q p i ∷ lines_at p (suc i) os qs) (lines_at p i os qs) (AllByRecursion P)
      (λ y. (h 0 i (omega arith) (ltb-true 0 q y), later (suc i)))
      (λ _. later i)

  -- no lines where nothing is given
  lines_none : (os : List Order) (qs : List ℕ) (i : ℕ) → ((k : ℕ) → k < length os → get_or qs k 0 ≡ 0) → lines_at p i os qs ≡ []
  lines_none [] qs i h = refl
  lines_none (o ∷ os) [] i h = refl
  lines_none (o ∷ os) (q ∷ qs) i h =
      cond-false (ltb 0 q) (line_of o q p i ∷ lines_at p (suc i) os qs) (lines_at p i os qs) (le-ltb 0 q (omega (arith, h 0 (omega arith))))
      ∙ lines_none os qs i (λ k l. h (suc k) (omega arith))

  -- no more lines than orders
  lines_few : (os : List Order) (qs : List ℕ) (i : ℕ) → length (lines_at p i os qs) ≤ length os
  lines_few [] qs i = omega arith
  lines_few (o ∷ os) [] i = omega arith
  lines_few (o ∷ os) (q ∷ qs) i =
      cond_both (ltb 0 q) (line_of o q p i ∷ lines_at p (suc i) os qs) (lines_at p i os qs) (λ ls. length ls ≤ suc (length os))
      (λ _. omega (arith, lines_few os qs (suc i)))
      (λ _. omega (arith, lines_few os qs i))

  above : (o : Order) (os : List Order) (qs : List ℕ) (i : ℕ) → AllByRecursion (λ (x : Order). o.number < x.number) os → AllByRecursion (λ (l : Line). o.number < l.order) (lines_at p i os qs)
  above o os qs i h =
      lines_all (λ (l : Line). o.number < l.order) os qs i (λ k _ l _. All-get_or (λ (x : Order). o.number < x.number) os k no_order l h)

  lines_ascend : (os : List Order) (qs : List ℕ) (i : ℕ) → Rising os → Ascending (lines_at p i os qs)
  lines_ascend [] qs i h = tt
  lines_ascend (o ∷ os) [] i h = tt
  lines_ascend (o ∷ os) (q ∷ qs) i h =
      cond_both (ltb 0 q) (line_of o q p i ∷ lines_at p (suc i) os qs) (lines_at p i os qs) Ascending
      (λ _. (above o os qs (suc i) h.0, lines_ascend os qs (suc i) h.1))
      (λ _. lines_ascend os qs i h.1)

  -- the lines of an order give it its quantity
  lines_of : (os : List Order) (qs : List ℕ) (i : ℕ) → Rising os → (k : ℕ) → k < length os →
      sum_by (of_order (at os k).number) (lines_at p i os qs) ≡ get_or qs k 0
  lines_of [] qs i h k l = absurd (omega arith)
  lines_of (o ∷ os) [] i h k l = refl
  lines_of (o ∷ os) (q ∷ qs) i h zero l =
      let none : (j : ℕ) → sum_by (of_order o.number) (lines_at p j os qs) ≡ 0 = λ j. of_none o.number (lines_at p j os qs) (above o os qs j h.0) in
      cond_both (ltb 0 q) (line_of o q p i ∷ lines_at p (suc i) os qs) (lines_at p i os qs) (λ ls. sum_by (of_order o.number) ls ≡ q)
      (λ _. omega (
        arith,
        sum_by-cons (of_order o.number) (line_of o q p i) (lines_at p (suc i) os qs),
        cond-true (eqb o.number o.number) q 0 (eq-eqb o.number o.number refl),
        none (suc i),
      ))
      (λ z. omega (arith, none i, ltb-false 0 q z))
  lines_of (o ∷ os) (q ∷ qs) i h (suc k) l =
      let l' : k < length os = omega arith in
      let n = (at os k).number in
      let lt : o.number < n = All-get_or (λ (x : Order). o.number < x.number) os k no_order l' h.0 in
      cond_both (ltb 0 q) (line_of o q p i ∷ lines_at p (suc i) os qs) (lines_at p i os qs) (λ ls. sum_by (of_order n) ls ≡ get_or qs k 0)
      (λ _. omega (
        arith,
        sum_by-cons (of_order n) (line_of o q p i) (lines_at p (suc i) os qs),
        cond-false (eqb o.number n) q 0 (ne_eqb o.number n (λ e. omega arith)),
        lines_of os qs (suc i) h.1 k l',
      ))
      (λ _. lines_of os qs i h.1 k l')

  on_line : (side : Bool) (o : Order) (q i : ℕ) → on_side side (line_of o q p i) ≡ cond (on side (bid_of o)) q 0
  on_line true o q i = refl
  on_line false o q i = elim (buys o.side) as (λ b. cond b 0 q ≡ cond (not b) q 0) [ true ↦ refl | false ↦ refl ]

  none_on : (side : Bool) (qs : List ℕ) → given side (bids_of []) qs ≡ 0
  unfolding total
  none_on side qs = refl

  -- the lines of a side add up to what is given to it
  lines_on : (side : Bool) (os : List Order) (qs : List ℕ) (i : ℕ) → length qs ≡ length os → sum_by (on_side side) (lines_at p i os qs) ≡ given side (bids_of os) qs
  lines_on side [] qs i e = sym (none_on side qs)
  lines_on side (o ∷ os) [] i e = absurd (omega arith)
  lines_on side (o ∷ os) (q ∷ qs) i e =
      let whole : given side (bids_of (o ∷ os)) (q ∷ qs) ≡ cond (on side (bid_of o)) q 0 + given side (bids_of os) qs =
      total_head (length (bids_of os)) (given_to side (bids_of (o ∷ os)) (q ∷ qs)) in
      cond_both (ltb 0 q) (line_of o q p i ∷ lines_at p (suc i) os qs) (lines_at p i os qs) (λ ls. sum_by (on_side side) ls ≡ given side (bids_of (o ∷ os)) (q ∷ qs))
      (λ _. omega (
        arith,
        whole,
        sum_by-cons (on_side side) (line_of o q p i) (lines_at p (suc i) os qs),
        on_line side o q i,
        lines_on side os qs (suc i) (omega arith),
      ))
      (λ z. omega (
        arith,
        whole,
        lines_on side os qs i (omega arith),
        cond_both (on side (bid_of o)) q 0 (λ x. x ≡ 0) (λ _. omega (arith, ltb-false 0 q z)) (λ _. refl),
      ))

  -- ---- money at one price

  -- what a line has its member pay, or get
  abbrev money : Bool → ℕ → Line → ℕ
  money true r l = bill r l
  money false r l = credit r l

  nothing : (r : ℕ) → 0 * p * r ≡ 0
  nothing r = ap (λ x. x * r) (zero-mul p) ∙ zero-mul r

  money_is : (side : Bool) (r : ℕ) (l : Line) → l.price ≡ p → money side r l ≡ on_side side l * p * r
  money_is true r l e =
      ap (λ x. cond (buys l.side) (l.quantity * x * r) 0) e
      ∙ elim (buys l.side) as (λ b. cond b (l.quantity * p * r) 0 ≡ cond b l.quantity 0 * p * r) [ true ↦ refl | false ↦ sym (nothing r) ]
  money_is false r l e =
      ap (λ x. cond (buys l.side) 0 (l.quantity * x * r)) e
      ∙ elim (buys l.side) as (λ b. cond b 0 (l.quantity * p * r) ≡ cond b 0 l.quantity * p * r) [ true ↦ sym (nothing r) | false ↦ refl ]

  -- at one price, the money of a side is its quantity times the price, over the period
  money_sum : (side : Bool) (r : ℕ) (ls : List Line) → AllByRecursion (λ (l : Line). l.price ≡ p) ls → sum_by (money side r) ls ≡ sum_by (on_side side) ls * p * r
  money_sum side r [] h = sym (nothing r)
  money_sum side r (l ∷ ls) h =
      sum_by-cons (money side r) l ls
      ∙ ap (λ x. x + sum_by (money side r) ls) (money_is side r l h.0)
      ∙ ap (λ x. on_side side l * p * r + x) (money_sum side r ls h.1)
      ∙ sym (
      ap (λ x. x * p * r) (sum_by-cons (on_side side) l ls)
      ∙ ap (λ x. x * r) (add-mul (on_side side l) (sum_by (on_side side) ls) p)
      ∙ add-mul (on_side side l * p) (sum_by (on_side side) ls * p) r
      )

-- ---- the round

-- an order that stands in its place among these
record Among (os : List Order) (x : Order) : Type 0 where
  given : 1 ≤ x.number
  within : x.number ≤ length os
  there : at os (x.number - 1) ≡ x
  limit : x.limit ≤ highest_tick

module _ (price : PriceMeaning) (share : SharingMeaning) (reference : ℕ) (priced : PriceLaw highest_tick price) (shared : SharingLaw share)
    (os : List Order) (good : Good os) where
  abbrev xs : List Order
  xs = standing_of os

  abbrev bs : List Bid
  bs = standing_bids os

  abbrev qs : List ℕ
  qs = award_by share highest_tick bs

  abbrev P : ℕ
  P = uniform_price price reference os

  among : (k : ℕ) → k < length xs → Among os (at xs k)
  among k l =
      let one : (j : ℕ) → j < length os → Among os (at os j) =
      λ j h. let g = good j h in record {
        given = omega (arith, g.number);
        within = omega (arith, g.number);
        there = ap (at os) {x = (at os j).number - 1} {y = j} (omega (arith, g.number));
        limit = g.limit;
      } in
      All-get_or (Among os) xs k no_order l (all_kept_by (λ (o : Order). is_standing o.life) (Among os) os (All-from_get_or (Among os) os no_order one))

  rising : Rising xs
  rising = rising_kept (λ (o : Order). is_standing o.life) os (rising_from 0 os (λ k l. omega (arith, (good k l).number)))

  long_bs : length bs ≡ length xs
  long_bs = length-map xs bid_of

  ticks : OnTicks highest_tick bs
  ticks k l =
      let h : k < length xs = omega (arith, long_bs) in
      omega (arith, ap (λ (b : Bid). b.limit) (bid_at xs k h), (among k h).limit)

  -- V to each side, best limits first
  pub round_award : Award highest_tick bs qs
  round_award = award_of_sharing share shared highest_tick bs ticks

  long_qs : length qs ≡ length xs
  long_qs = round_award.fits.whole ∙ long_bs

  -- where anything is given, V is above 0
  some_volume : (k : ℕ) → k < length xs → 0 < get_or qs k 0 → 0 < uniform_volume os
  some_volume k l some =
      let side = (bid bs k).buys in
      omega (
        arith,
        round_award.clears side,
        total_at (length bs) (given_to side bs qs) k (omega (arith, long_bs)),
        cond-true (on side (bid bs k)) (get_or qs k 0) 0 (on_of_buys side (bid bs k) refl),
      )

  -- the lines are those of the award, which are none where V is 0
  pub lines_are : uniform_lines price share reference os ≡ lines_at P 0 xs qs
  lines_are =
      elim (cases_lt 0 (uniform_volume os)) [
        | inl v ↦ cond-true (ltb 0 (uniform_volume os)) (lines_at P 0 xs qs) [] (lt-ltb 0 (uniform_volume os) v)
        | inr z ↦
            cond-false (ltb 0 (uniform_volume os)) (lines_at P 0 xs qs) [] (le-ltb 0 (uniform_volume os) z)
            ∙ sym (lines_none P xs qs 0 (λ k l. elim (cases_lt 0 (get_or qs k 0)) [ inl some ↦ absurd (omega (arith, some_volume k l some)) | inr z0 ↦ omega arith ]))
      ]

  -- each order that is given something keeps its limit at the price
  keeps_limit : (k : ℕ) → k < length xs → 0 < get_or qs k 0 → keeps (buys (at xs k).side) (at xs k).limit P ≡ true
  keeps_limit k l some =
      let v = some_volume k l some in
      let is : P ≡ price_by price highest_tick bs reference = cond-true (ltb 0 (uniform_volume os)) (price_by price highest_tick bs reference) 0 (lt-ltb 0 (uniform_volume os) v) in
      subst (λ (b : Bid). keeps b.buys b.limit P ≡ true) (bid_at xs k l)
      (subst (λ x. keeps (bid bs k).buys (bid bs k).limit x ≡ true) (sym is)
      (award_keeps_limits highest_tick bs qs (price_by price highest_tick bs reference) round_award
      (price_of_rule highest_tick price priced bs reference v).1 k (omega (arith, long_bs)) some))

  line_fits : (k j : ℕ) → k < length xs → 0 < get_or qs k 0 → Fit os (line_of (at xs k) (get_or qs k 0) P j)
  line_fits k j l some =
      let a = among k l in
      record {
        kept = record {
          given = a.given;
          within = a.within;
          side = ap (λ (x : Order). x.side) (sym a.there);
          member = ap (λ (x : Order). x.member) (sym a.there);
          some = some;
          limit = subst (λ (x : Order). keeps (buys (at xs k).side) x.limit P ≡ true) (sym a.there) (keeps_limit k l some);
        };
        enough = omega (arith, ap standing a.there, ap (λ (b : Bid). b.left) (bid_at xs k l), round_award.fits.within k (omega (arith, long_bs)));
      }

  abbrev ls : List Line
  ls = uniform_lines price share reference os

  pub round_fits : Fits os ls
  round_fits = subst (Fits os) (sym lines_are) (fits_ascending os (lines_at P 0 xs qs) (lines_ascend P xs qs 0 rising) (lines_all P (Fit os) xs qs 0 line_fits))

  pub round_few : length ls ≤ length os
  round_few = omega (
    arith,
    ap length lines_are,
    lines_few P xs qs 0,
    length-filter (λ (o : Order). is_standing o.life) os,
    count_by-le-length (λ (o : Order). is_standing o.life) os,
  )

  pub round_priced : AllByRecursion (λ (l : Line). l.price ≡ P) ls
  round_priced = subst (AllByRecursion (λ (l : Line). l.price ≡ P)) (sym lines_are) (lines_all P (λ (l : Line). l.price ≡ P) xs qs 0 (λ _ _ _ _. refl))

  pub round_sums : (side : Bool) → sum_by (on_side side) ls ≡ uniform_volume os
  round_sums side = ap (sum_by (on_side side)) lines_are ∙ lines_on P side xs qs 0 long_qs ∙ round_award.clears side

  pub round_even : (period : ℕ) → sum_by (bill period) ls ≡ sum_by (credit period) ls
  round_even period =
      money_sum P true period ls round_priced
      ∙ ap (λ x. x * P * period) (round_sums true ∙ sym (round_sums false))
      ∙ sym (money_sum P false period ls round_priced)

  -- what the lines give to the orders that stand is the award
  pub lines_award : award_of xs ls ≡ qs
  lines_award =
      let f : Order → ℕ = λ o. sum_by (of_order o.number) ls in
      same_lists (map f xs) qs (length-map xs f ∙ sym long_qs)
      (λ k d l.
      let h : k < length xs = omega (arith, length-map xs f) in
      get_or-map f xs k no_order d h
      ∙ ap (sum_by (of_order (at xs k).number)) lines_are
      ∙ lines_of P xs qs 0 rising k h
      ∙ get_or_default qs k 0 d (omega (arith, long_qs)))

  pub round_best : Best bs (award_of xs ls)
  round_best = subst (Best bs) (sym lines_award) (award_is_best highest_tick bs ticks qs round_award)
