-- A fill-or-kill order that opposite quantity covers is filled whole.
use Rattle.std.proofs.Common.{◌≡◌, ℕ, suc, ◌+◌, ◌<◌, ◌≤◌, Bool, true, false, cond, not, ◌&&◌, eqb, ltb, ◌⊎◌, List, [], ◌∷◌, length, fold, sum_by, sym, refl, ap, ◌∙◌, subst, inl, inr, arith}
use Rattle.std.proofs.lemmas.List.{get_or_append_left, get_or_push}
use Rattle.std.proofs.lemmas.List.Sums.{sum_by-cons, sum_by_push, sum_by-set}
use Rattle.std.proofs.lemmas.Bool.{cases_eq, cases_lt, cond_both, cond-true, cond-false, both_ways, and_parts, and_from, and_left, not_from_true, leb-true, le-leb, lt-ltb, eq-eqb}
use Rattle.curves.specs.Sums.{total}
use Rattle.curves.specs.Orders.{Bid, on, keeps, willing}
use Rattle.curves.specs.Orders.{at as bid}
use Rattle.curves.proofs.Sums.{total_head}
use Rattle.curves.proofs.Orders.{on_of_buys}
use Rattle.rules.specs.Pairs.{PairLaw}
use Rattle.orders.specs.declared.order.Ask.{Ask}
use Rattle.orders.specs.declared.order.Kind.TheVariants.{FillOrKill}
use Rattle.orders.specs.declared.order.Event.TheVariants.{Fill}
use Rattle.orders.specs.declared.order.Order.{Order}
use Rattle.orders.specs.declared.order.Line.{Line}
use Rattle.orders.specs.Orders.{buys, at, no_order, standing, filled_by, bid_of, bids_of}
use Rattle.orders.specs.Settlement.{place_of, fill, ranked}
use Rattle.orders.specs.Changes.{new_order}
use Rattle.orders.proofs.Sifts.{sum_ranked}
use Rattle.steps.specs.Pairing.{Pairs, stands, pair_quantity, buy_line, sell_line, after_pair, pair_lines_from, pair_lines, Uncrossed}
use Rattle.steps.specs.Ways.{Way, Uniform, Paired, Continuous, PairsLaw, Laws, place_lines}
use Rattle.steps.specs.Calls.{may_trade, with_ask}
use Rattle.history.specs.Fairness.{of_order}
use Rattle.history.specs.Histories.{Apart}
use Rattle.history.proofs.Orders.{Good, changed_field, changed_long, filled_standing, push_long, changed_at}
use Rattle.history.proofs.Fills.{Fit, fill_taken, settles}
use Rattle.history.proofs.Bests.{of_side, Pair, stands_in, no_pair_uncrossed, Stood}
use Rattle.history.proofs.PairLines.{pair_lines_fit}
use Rattle.history.proofs.Trades.{buy_fits, sell_fits, buy_place, sell_place, sell_left, side_in, side_of, traded_good, pairing}

-- ---- cover

-- is the order on this side, and does a trade at p keep its limit?
abbrev pub suits : Bool → ℕ → Order → Bool
suits side p o = on side (bid_of o) && keeps side o.limit p

-- what stands of such an order
abbrev pub covers : Bool → ℕ → Order → ℕ
covers side p o = cond (suits side p o) (standing o) 0

-- and of all of them
abbrev pub cover : Bool → ℕ → List Order → ℕ
cover side p os = sum_by (covers side p) os

total_bids : (f : Bid → ℕ) (os : List Order) → total (length (bids_of os)) (λ k. f (bid (bids_of os) k)) ≡ sum_by (λ (o : Order). f (bid_of o)) os
unfolding total
total_bids f [] = refl
total_bids f (o ∷ os) =
    total_head (length (bids_of os)) (λ k. f (bid (bids_of (o ∷ os)) k))
    ∙ omega (arith, total_bids f os, sum_by-cons (λ (o : Order). f (bid_of o)) o os)

pub cover_willing : (side : Bool) (p : ℕ) (os : List Order) → willing side (bids_of os) p ≡ cover side p os
cover_willing side p os = total_bids (λ (b : Bid). cond (on side b && keeps side b.limit p) b.left 0) os

on_filled : (side : Bool) (q : ℕ) (o : Order) → on side (bid_of (filled_by q o)) ≡ on side (bid_of o)
on_filled true q o = refl
on_filled false q o = refl

-- a fill takes its quantity off the cover where its order suits
fill_cover : (side : Bool) (p : ℕ) (os : List Order) (l : Line) → Fit os l →
    cover side p (fill os l) + cond (suits side p (at os (place_of l))) l.quantity 0 ≡ cover side p os
fill_cover side p os l f =
    let k = f.kept in
    let o = at os (place_of l) in
    let set = sum_by-set (covers side p) os (place_of l) (filled_by l.quantity o) no_order (omega (arith, k.given, k.within)) in
    let one : covers side p (filled_by l.quantity o) + cond (suits side p o) l.quantity 0 ≡ covers side p o =
    ap (λ b. cond (b && keeps side o.limit p) (standing (filled_by l.quantity o)) 0 + cond (suits side p o) l.quantity 0) (on_filled side l.quantity o)
    ∙ elim (suits side p o) as (λ b. cond b (standing (filled_by l.quantity o)) 0 + cond b l.quantity 0 ≡ cond b (standing o) 0)
    [ true ↦ omega (arith, filled_standing l.quantity o, f.enough) | false ↦ refl ] in
    omega arith

-- ---- an order whose cover is enough

-- no two other orders could trade
abbrev pub Others : ℕ → List Order → Type 0
Others n os = (j k : ℕ) → (j ≡ n → ⊥) → (k ≡ n → ⊥) → stands true (at os j) ≡ true → stands false (at os k) ≡ true → (at os j).limit < (at os k).limit

-- the order at place n is on this side and has this limit, and orders of the other side that keep it cover it
pub record Ready (side : Bool) (limit n : ℕ) (os : List Order) : Type 0 where
  pub good : Good os
  pub there : n < length os
  pub side_is : buys (at os n).side ≡ side
  pub limit_is : (at os n).limit ≡ limit
  pub others : Others n os
  pub covered : standing (at os n) ≤ cover (not side) limit os

-- what stands after a fill stood before it
fill_stood : (os : List Order) (l : Line) → Fit os l → Stood os (fill os l)
fill_stood os l f side k =
    let ke = f.kept in
    let o = at os (place_of l) in
    changed_at (place_of l) (Fill l.quantity) os k (λ x. stands side x ≡ true → (stands side (at os k) ≡ true) × (x.limit ≡ (at os k).limit))
    (omega (arith, ke.given, ke.within))
    (λ d y.
    let p = and_parts (on side (bid_of (filled_by l.quantity o))) (ltb 0 (standing (filled_by l.quantity o))) y in
    let stood : stands side o ≡ true = and_from (on side (bid_of o)) (ltb 0 (standing o)) (sym (on_filled side l.quantity o) ∙ p.0) (lt-ltb 0 (standing o) (omega (arith, f.enough, ke.some))) in
    (subst (λ j. stands side (at os j) ≡ true) (sym d) stood, ap (λ j. (at os j).limit) (sym d)))
    (λ _ y. (y, refl))

fill_others : (n : ℕ) (os : List Order) (l : Line) → Fit os l → Others n os → Others n (fill os l)
fill_others n os l f h j k nj nk sj sk =
    let a = fill_stood os l f true j sj in
    let b = fill_stood os l f false k sk in
    omega (arith, h j k nj nk a.0 b.0, a.1, b.1)

module _ (rules : Pairs) (law : PairLaw rules.price) (limit n : ℕ) (os : List Order) (i : ℕ) (p : ℕ × ℕ) (h : Pair os p) where
  abbrev q : ℕ
  q = pair_quantity os p

  abbrev bl : Line
  bl = buy_line rules os i p

  abbrev sl : Line
  sl = sell_line rules os i p

  abbrev ys : List Order
  ys = fill os bl

  abbrev zs : List Order
  zs = after_pair rules os i p

  -- the pair's order on its side is the one that is covered
  mine : (side : Bool) → Ready side limit n os → of_side p side ≡ n
  mine side r =
      elim (cases_eq (of_side p side) n) [
        | inl e ↦ e
        | inr ne ↦ absurd (omega (arith, both side r ne, h.meet))
      ]
    where
      another : (s t : Bool) → (s ≡ t → ⊥) → Ready s limit n os → of_side p t ≡ n → ⊥
      another s t d r e = d (sym r.side_is ∙ sym (ap (λ k. buys (at os k).side) e) ∙ side_of rules law os i p r.good h t)

      both : (side : Bool) → Ready side limit n os → (of_side p side ≡ n → ⊥) → (at os p.0).limit < (at os p.1).limit
      both true r ne = r.others p.0 p.1 ne (another true false (λ e. both_ways true e refl) r) (h.stand true) (h.stand false)
      both false r ne = r.others p.0 p.1 (another false true (λ e. both_ways false refl e) r) ne (h.stand true) (h.stand false)

  module _ (side : Bool) (r : Ready side limit n os) where
    fb : Fit os bl
    fb = buy_fits rules law os i p r.good h

    fs : Fit ys sl
    fs = sell_fits rules law os i p r.good h

    -- the cover by the orders of a side, before and after the trade
    cover_traded : (c : Bool) → cover c limit zs + cond (suits c limit (at os p.0)) q 0 + cond (suits c limit (at os p.1)) q 0 ≡ cover c limit os
    cover_traded c = omega (
      arith,
      fill_cover c limit os bl fb,
      ap (λ k. cond (suits c limit (at os k)) q 0) (buy_place rules law os i p r.good h),
      fill_cover c limit ys sl fs,
      ap (λ k. cond (suits c limit (at ys k)) q 0) (sell_place rules law os i p r.good h)
          ∙ ap (λ o. cond (suits c limit o) q 0) (sell_left rules law os i p r.good h),
    )

    kept_by_fills : {A : Type 0} (f : Order → A) → ((x : ℕ) (o : Order) → f (filled_by x o) ≡ f o) → f (at zs n) ≡ f (at os n)
    kept_by_fills f same = changed_field (place_of sl) (Fill q) f (same q) ys n ∙ changed_field (place_of bl) (Fill q) f (same q) os n

  off_side : (side : Bool) (b : Bid) → b.buys ≡ side → on (not side) b ≡ false
  off_side true b e = not_from_true b.buys e
  off_side false b e = e

  -- its own side's order covers nothing, and that of the other side what they trade
  own_none : (side : Bool) → Ready side limit n os → cond (suits (not side) limit (at os (of_side p side))) q 0 ≡ 0
  own_none side r =
      let o = at os (of_side p side) in
      cond-false (suits (not side) limit o) q 0
      (and_left (on (not side) (bid_of o)) (keeps (not side) o.limit limit) (off_side side (bid_of o) (side_of rules law os i p r.good h side)))

  others_trade : (side : Bool) → Ready side limit n os → cond (suits (not side) limit (at os (of_side p (not side)))) q 0 ≡ q
  others_trade side r =
      let o = at os (of_side p (not side)) in
      cond-true (suits (not side) limit o) q 0
      (and_from (on (not side) (bid_of o)) (keeps (not side) o.limit limit) (on_of_buys (not side) (bid_of o) (side_of rules law os i p r.good h (not side)))
      (meets side (ap (λ k. (at os k).limit) (mine side r) ∙ r.limit_is)))
    where
      meets : (side : Bool) → (at os (of_side p side)).limit ≡ limit → keeps (not side) (at os (of_side p (not side))).limit limit ≡ true
      meets true e = le-leb (at os p.1).limit limit (omega (arith, h.meet))
      meets false e = le-leb limit (at os p.0).limit (omega (arith, h.meet))

  cover_less : (side : Bool) → Ready side limit n os → cover (not side) limit zs + q ≡ cover (not side) limit os
  cover_less true r = omega (arith, cover_traded true r false, own_none true r, others_trade true r)
  cover_less false r = omega (arith, cover_traded false r true, own_none false r, others_trade false r)

  mine_less : (side : Bool) → Ready side limit n os → standing (at zs n) + q ≤ standing (at os n)
  mine_less side r =
      let a = fill_taken os bl (fb side r) n in
      let b = fill_taken ys sl (fs side r) n in
      omega (arith, a, b, of_mine side r (mine side r))
    where
      of_mine : (side : Bool) → Ready side limit n os → of_side p side ≡ n → q ≤ of_order (suc n) bl + of_order (suc n) sl
      of_mine true r e = omega (
        arith,
        cond-true (eqb bl.order (suc n)) q 0
            (eq-eqb bl.order (suc n) (omega (arith, (r.good p.0 (side_in rules law os i p r.good h true)).number))),
      )
      of_mine false r e = omega (
        arith,
        cond-true (eqb sl.order (suc n)) q 0
            (eq-eqb sl.order (suc n) (omega (arith, (r.good p.1 (side_in rules law os i p r.good h false)).number))),
      )

  ready_traded : (side : Bool) → Ready side limit n os → Ready side limit n zs
  ready_traded side r = record {
    good = traded_good rules law os i p r.good h;
    there = omega (arith, r.there, changed_long (place_of bl) (Fill q) os, changed_long (place_of sl) (Fill q) ys);
    side_is = kept_by_fills side r (λ o. buys o.side) (λ _ _. refl) ∙ r.side_is;
    limit_is = kept_by_fills side r (λ o. o.limit) (λ _ _. refl) ∙ r.limit_is;
    others = fill_others n ys sl (fs side r) (fill_others n os bl (fb side r) r.others);
    covered = omega (arith, mine_less side r, cover_less side r, r.covered);
  }

-- ---- where no two orders could trade, an order that stands has no cover

no_cover : (f : Order → ℕ) (os : List Order) → ((k : ℕ) → k < length os → f (at os k) ≡ 0) → sum_by f os ≡ 0
no_cover f [] h = refl
no_cover f (o ∷ os) h = omega (arith, sum_by-cons f o os, h 0 (omega arith), no_cover f os (λ k l. h (suc k) (omega arith)))

-- an order that stands cannot trade with one of the other side that would keep its limit
cannot_trade : (side : Bool) (limit n k : ℕ) (os : List Order) → Uncrossed os → (at os n).limit ≡ limit → stands side (at os n) ≡ true →
    stands (not side) (at os k) ≡ true → keeps (not side) (at os k).limit limit ≡ true → ⊥
cannot_trade true limit n k os u e sn sk t = omega (arith, u n k sn sk, leb-true (at os k).limit limit t)
cannot_trade false limit n k os u e sn sk t = omega (arith, u k n sk sn, leb-true limit (at os k).limit t)

uncovered : (side : Bool) (limit n : ℕ) (os : List Order) → Ready side limit n os → Uncrossed os → standing (at os n) ≡ 0
uncovered side limit n os r u =
    elim (cases_lt 0 (standing (at os n))) [
      | inr none ↦ omega arith
      | inl some ↦
          let sn : stands side (at os n) ≡ true =
          and_from (on side (bid_of (at os n))) (ltb 0 (standing (at os n))) (on_of_buys side (bid_of (at os n)) r.side_is) (lt-ltb 0 (standing (at os n)) some) in
          absurd (omega (arith, r.covered, no_cover (covers (not side) limit) os (λ k _. covers_none k sn)))
    ]
  where
    covers_none : (k : ℕ) → stands side (at os n) ≡ true → covers (not side) limit (at os k) ≡ 0
    covers_none k sn =
        cond_both (suits (not side) limit (at os k)) (standing (at os k)) 0 (λ x. x ≡ 0)
        (λ t.
        let parts = and_parts (on (not side) (bid_of (at os k))) (keeps (not side) (at os k).limit limit) t in
        elim (cases_lt 0 (standing (at os k))) [
          | inr none ↦ omega arith
          | inl some ↦ absurd (cannot_trade side limit n k os u r.limit_is sn
              (and_from (on (not side) (bid_of (at os k))) (ltb 0 (standing (at os k))) parts.0 (lt-ltb 0 (standing (at os k)) some)) parts.1)
        ])
        (λ _. refl)

-- a covered order is filled whole
pub filled_whole : (rules : Pairs) → PairsLaw rules → (side : Bool) (limit n : ℕ) (m i : ℕ) (os : List Order) → Good os → sum_by standing os ≤ m →
    Ready side limit n os → standing (at (fold fill os (pair_lines_from rules m i os)) n) ≡ 0
filled_whole rules laws side limit n =
    pairing rules laws (λ i os ls. Ready side limit n os → standing (at (fold fill os ls) n) ≡ 0)
    (λ i os g e r. uncovered side limit n os r (no_pair_uncrossed rules laws os g e))
    (λ i os p ls g e h later r. later (ready_traded rules laws.2 limit n os i p h side r))

-- ---- the new order

ready_new : (a : Ask) (os : List Order) → Good (with_ask a os) → Uncrossed os → may_trade FillOrKill a os ≡ true →
    Ready (buys a.side) a.limit (length os) (with_ask a os)
ready_new a os g u y =
    let n = length os in
    let new = new_order a (suc n) in
    let ns = with_ask a os in
    let c = not (buys a.side) in
    let here : at ns n ≡ new = get_or_push os new no_order n refl in
    let old : (k : ℕ) → k < length ns → (k ≡ n → ⊥) → at ns k ≡ at os k =
    λ k l ne. get_or_append_left os (new ∷ []) no_order k (omega (arith, push_long os new)) in
    record {
      good = g;
      there = omega (arith, push_long os new);
      side_is = ap (λ (o : Order). buys o.side) here;
      limit_is = ap (λ (o : Order). o.limit) here;
      others = λ j k nj nk sj sk.
          let ej = old j (stands_in true ns j sj) nj in
          let ek = old k (stands_in false ns k sk) nk in
          omega (
            arith,
            u j k (sym (ap (stands true) ej) ∙ sj) (sym (ap (stands false) ek) ∙ sk),
            ap (λ (o : Order). o.limit) ej,
            ap (λ (o : Order). o.limit) ek,
          );
      covered = omega (
        arith,
        ap standing here,
        leb-true a.quantity (willing c (bids_of os) a.limit) y,
        cover_willing c a.limit os,
        sum_by_push (covers c a.limit) os new,
      );
    }

-- a fill-or-kill order's lines give it all that it asked for, or it makes none
pub whole_lines : (w : Way) → Laws w → (a : Ask) (os : List Order) → Good (with_ask a os) → Apart w os → (b : Bool) → may_trade FillOrKill a os ≡ b →
    let ls = ranked (cond b (place_lines w (with_ask a os)) []) in (sum_by (of_order (suc (length os))) ls ≡ a.quantity) ⊎ (ls ≡ [])
whole_lines (Uniform price share reference) laws a os g u true y = inr refl
whole_lines (Uniform price share reference) laws a os g u false y = inr refl
whole_lines (Paired rules) laws a os g u true y = inr refl
whole_lines (Paired rules) laws a os g u false y = inr refl
whole_lines (Continuous rules) laws a os g u false y = inr refl
whole_lines (Continuous rules) laws a os g u true y =
    let n = length os in
    let new = new_order a (suc n) in
    let ns = with_ask a os in
    let m = sum_by standing ns in
    let ls = pair_lines rules ns in
    let st = settles ns ls g (pair_lines_fit rules laws m 0 ns g (omega arith)) in
    inl (omega (
      arith,
      filled_whole rules laws (buys a.side) a.limit n m 0 ns g (omega arith) (ready_new a os g u y),
      st.taken n,
      ap standing (get_or_push os new no_order n refl),
      sum_ranked (of_order (suc n)) ls,
    ))
