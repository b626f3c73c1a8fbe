-- What all orders get by the margins of V is the award of the sharing rule.
use Rattle.std.proofs.Common.{◌≡◌, ℕ, ◌-◌, ◌<◌, ◌≤◌, Bool, true, cond, eqb, List, [], length, get_or, take, drop, count_by, sym, ap, ◌∙◌, add-zero, subst, arith}
use Rattle.std.specs.List.{AllByRecursion}
use Rattle.std.proofs.lemmas.List.{get_or-drop, length-map, take-map}
use Rattle.std.proofs.ByRecursion.{All-from_get_or, all_kept_by, All-map, All-get_or}
use Rattle.std.proofs.lemmas.List.FromFn.{length-map-range_with_len, get_or-map-range_with_len, fill_by_all}
use Rattle.curves.specs.Orders.{Bid, no_bid, better, demand, supply, OnTicks}
use Rattle.curves.specs.Orders.{at as bid}
use Rattle.curves.specs.Sharing.{SharingMeaning, SharingLaw}
use Rattle.curves.specs.Filling.{ahead, grouped, group, earlier, share_of, filled, award_by}
use Rattle.curves.proofs.Filling.{award_of_sharing}
use Rattle.ticks.specs.Ticks.{highest_tick}
use Rattle.orders.specs.declared.order.Order.{Order}
use Rattle.orders.specs.Orders.{most_orders, standing, buys, bid_of, bids_of, at, no_order}
use Rattle.orders.specs.Settlement.{Session}
use Rattle.orders.specs.Kept.{Sound}
use Rattle.orders.proofs.Keeps.{sound_parts}
use Rattle.orders.proofs.Bids.{bid_at}
use Rattle.steps.specs.Uniform.{standing_of, standing_bids, uniform_volume, lines_at}
use Rattle.uniform.specs.declared.margin.Margin.{Margin}
use Rattle.uniform.specs.declared.margin.Margins.{Margins}
use Rattle.uniform.specs.Margins.{ahead_of, marginal, marginal_group, granted, margin_of, grant_of, margins_at, grants, Ready, MadeBy}
use Rattle.uniform.proofs.Places.{kept_front, kept_here, kept_within}
use Rattle.uniform.proofs.Groups.{group_standing, count_standing, advanced, advanced_by}
use Rattle.uniform.proofs.Spread.{stands, spread, length_spread, lines_spread, getD_spread}
use Rattle.uniform.proofs.Filled.{RunsOut, filled_by_margin, margin_facts}

module _ (share : SharingMeaning) (law : SharingLaw share) (os : List Order) (sound : Sound os (length os)) (ms : Margins)
    (made : MadeBy share (demand highest_tick (standing_bids os)) (supply highest_tick (standing_bids os)) os ms) where
  abbrev bs : List Bid
  bs = standing_bids os

  abbrev V : ℕ
  V = uniform_volume os

  abbrev D : ℕ → ℕ
  D = demand highest_tick bs

  abbrev S : ℕ → ℕ
  S = supply highest_tick bs

  abbrev M : Bool → ℕ
  M side = (margin_of side ms).limit

  abbrev pub qs : List ℕ
  qs = award_by share highest_tick bs

  bids_on_ticks : OnTicks highest_tick bs
  bids_on_ticks k h =
      let each : AllByRecursion (λ (o : Order). o.limit ≤ highest_tick) os =
      All-from_get_or (λ (o : Order). o.limit ≤ highest_tick) os no_order (λ i l. (sound_parts i (at os i) (sound i l)).limit) in
      All-get_or (λ (b : Bid). b.limit ≤ highest_tick) bs k no_bid h
      (All-map (λ (b : Bid). b.limit ≤ highest_tick) bid_of (standing_of os)
      (all_kept_by stands (λ (o : Order). o.limit ≤ highest_tick) os each))

  runs_out : (side : Bool) → RunsOut V side bs (M side)
  runs_out side = subst (λ (m : ℕ). RunsOut V side bs m) (sym (made.limit side)) (margin_facts bs bids_on_ticks side).1

  ahead_same : (side : Bool) → ahead side bs (M side) ≡ ahead_of side D S (M side)
  ahead_same side =
      subst (λ (m : ℕ). ahead side bs m ≡ ahead_of side D S m) (sym (made.limit side)) (margin_facts bs bids_on_ticks side).0

  module _ (k : ℕ) (h : k < length os) (st : stands (at os k) ≡ true) where
    abbrev o : Order
    o = at os k

    -- the place among the standing orders
    abbrev j : ℕ
    j = count_by stands (take k os)

    place_in : j < length (standing_of os)
    place_in = kept_within stands no_order os k h st

    bid_in : j < length bs
    bid_in = omega (arith, length-map (standing_of os) bid_of, place_in)

    bid_there : bid bs j ≡ bid_of o
    bid_there = bid_at (standing_of os) j place_in ∙ ap bid_of (kept_here stands no_order os k h st)

    -- how many of the margin's group come before
    abbrev before : Bool → ℕ
    before side = count_by (marginal side (M side)) (take k os)

    earlier_same : (side : Bool) → earlier side bs (M side) j ≡ before side
    earlier_same side =
        ap (count_by (grouped side (M side))) (take-map bid_of j (standing_of os) ∙ ap bids_of (kept_front stands no_order os k))
        ∙ count_standing side (M side) (take k os)

    -- the next share of the margin's group
    share_there : (side : Bool) → share_of share V side bs (M side) j ≡ get_or (margin_of side ms).shares (before side) 0
    share_there side =
        let G = marginal_group side (M side) os in
        ap (λ z. get_or (share (V - z) (group side bs (M side))) (earlier side bs (M side) j) 0) (ahead_same side)
        ∙ ap (λ z. get_or (share (V - ahead_of side D S (M side)) z) (earlier side bs (M side) j) 0) (group_standing side (M side) os)
        ∙ ap (λ z. get_or (share (V - ahead_of side D S (M side)) G) z 0) (earlier_same side)
        ∙ sym (ap (λ z. get_or z (before side) 0) (made.shares side))

    -- what a bid at this place gets
    abbrev gets : Bid → ℕ
    gets b = cond (better b.buys b.limit (M b.buys)) b.left
        (cond (eqb b.limit (M b.buys)) (share_of share V b.buys bs (M b.buys) j) 0)

    award_there : get_or qs j 0 ≡ gets (bid_of o)
    award_there =
        get_or-map-range_with_len (filled share V bs) 0 (length bs) j j 0 bid_in (omega arith)
        ∙ filled_by_margin share law V bs (M (bid bs j).buys) j bid_in (runs_out (bid bs j).buys)
        ∙ ap gets bid_there

    abbrev side : Bool
    side = buys o.side

    margin_there : margin_of side (margins_at ms os k) ≡ advanced (before side) (margin_of side ms)
    margin_there = advanced_by side ms (take k os)

    granted_there : granted side (margin_of side (margins_at ms os k)) o.limit o.left ≡ get_or qs j 0
    granted_there =
        let sh = (margin_of side ms).shares in
        let next : get_or (drop (before side) sh) 0 0 ≡ share_of share V side bs (M side) j =
        get_or-drop (before side) sh 0 0 ∙ ap (λ n. get_or sh n 0) (add-zero (before side)) ∙ sym (share_there side) in
        let given = award_there in
        ap (λ (m : Margin). granted side m o.limit o.left) margin_there ∙ grind arith

    award_within : get_or qs j 0 ≤ standing o
    award_within =
        omega (arith, (award_of_sharing share law highest_tick bs bids_on_ticks).fits.within j bid_in, ap (λ (b : Bid). b.left) bid_there)

  grant_there : (k : ℕ) → k < length os → get_or (spread os qs) k 0 ≡ grant_of (margins_at ms os k) (at os k)
  grant_there k h =
      let given = getD_spread os qs k h in let here = granted_there k h in grind arith

  pub grants_are : grants ms os ≡ spread os qs
  grants_are = sym (fill_by_all (λ k. grant_of (margins_at ms os k) (at os k)) (spread os qs) (length os) 0 (length_spread os qs) grant_there)

  grants_within : (k : ℕ) → k < length os → get_or (grants ms os) k 0 ≤ standing (at os k)
  grants_within k h =
      let e : get_or (grants ms os) k 0 ≡ cond (stands (at os k)) (get_or qs (count_by stands (take k os)) 0) 0 =
      ap (λ z. get_or z k 0) grants_are ∙ getD_spread os qs k h in
      let within = award_within k h in
      grind arith

  pub round_ready : (s : Session) → s.orders ≡ os → s.lines ≡ [] → length os ≤ most_orders → Ready s (grants ms os)
  round_ready s e fresh few = record {
    sound = subst (λ (z : List Order). Sound z (length z)) (sym e) sound;
    few = omega (arith, ap length e);
    fresh = fresh;
    whole = length-map-range_with_len (λ k. grant_of (margins_at ms os k) (at os k)) 0 (length os) ∙ sym (ap length e);
    within = subst (λ (z : List Order). (k : ℕ) → k < length z → get_or (grants ms os) k 0 ≤ standing (at z k)) (sym e) grants_within;
  }

  pub round_lines : (p : ℕ) → lines_at p 0 os (grants ms os) ≡ lines_at p 0 (standing_of os) qs
  round_lines p =
      ap (lines_at p 0 os) grants_are
      ∙ lines_spread p 0 os qs (length-map-range_with_len (filled share V bs) 0 (length bs) ∙ length-map (standing_of os) bid_of)
