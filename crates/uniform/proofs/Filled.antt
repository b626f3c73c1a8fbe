-- What an order gets by the margin of its side is its share in its own group.
use Rattle.std.proofs.Common.{◌≡◌, ℕ, zero, suc, ◌<◌, ◌≤◌, min, Bool, true, false, cond, eqb, leb, ◌⊎◌, List, length, refl, ap, inl, inr, arith}
use Rattle.std.proofs.lemmas.Bool.{cases_lt, eq-eqb, leb-true, le-leb}
use Rattle.curves.specs.Sums.{lowest}
use Rattle.curves.specs.Curves.{executable}
use Rattle.curves.specs.Crossing.{before}
use Rattle.curves.specs.Orders.{Bid, at, better, willing, demand, supply, clearing_volume, OnTicks}
use Rattle.curves.specs.Sharing.{SharingMeaning, SharingLaw}
use Rattle.curves.specs.Filling.{ahead, share_of, filled}
use Rattle.curves.proofs.Sums.{greatest_at, highest_ge, highest_passes, lowest_le, lowest_passes}
use Rattle.curves.proofs.Orders.{willing_le_ahead, before_supply, demand_above, on_of_buys, orders_make_curves}
use Rattle.curves.proofs.Filling.{fits_full, past_none, own_group}
use Rattle.ticks.specs.Ticks.{highest_tick}
use Rattle.uniform.specs.Margins.{margin_tick, ahead_of}
use Rattle.uniform.proofs.Standing.{cut_le, highest_tick_le}

-- v runs out at m: the better limits have at most v, and with m itself there is at least v
pub record RunsOut (v : ℕ) (side : Bool) (bs : List Bid) (m : ℕ) : Type 0 where
  pub before : ahead side bs m ≤ v
  pub enough : v ≤ willing side bs m

-- limits are better, equal or worse
three : (side : Bool) (l m : ℕ) → (better side l m ≡ true) ⊎ ((l ≡ m) ⊎ (better side m l ≡ true))
three true l m = grind arith
three false l m = grind arith

worse_not_better : (side : Bool) (l m : ℕ) → better side m l ≡ true → (better side l m ≡ false) × (eqb l m ≡ false)
worse_not_better true l m b = grind arith
worse_not_better false l m b = grind arith

same_not_better : (side : Bool) (l m : ℕ) → l ≡ m → better side l m ≡ false
same_not_better true l m e = grind arith
same_not_better false l m e = grind arith

module _ (share : SharingMeaning) (law : SharingLaw share) (v : ℕ) (bs : List Bid) where
  -- what the order at place k gets, where v runs out at m on its side
  abbrev pub by_margin : Bool → ℕ → ℕ → ℕ
  by_margin side m k = cond (better side (at bs k).limit m) (at bs k).left
      (cond (eqb (at bs k).limit m) (share_of share v side bs m k) 0)

  pub filled_by_margin : (m k : ℕ) → k < length bs → RunsOut v (at bs k).buys bs m → filled share v bs k ≡ by_margin (at bs k).buys m k
  filled_by_margin m k h out =
      let side = (at bs k).buys in
      let l = (at bs k).limit in
      let own = own_group share law v side bs k (on_of_buys side (at bs k) refl) in
      elim (three side l m) [
        | inl b ↦
            rw b (fits_full share law v side bs l (omega (arith, willing_le_ahead side bs l m b, out.before)) k h own)
        | inr (inl e) ↦ rw (same_not_better side l m e, eq-eqb l m e) (ap (λ z. share_of share v side bs z k) e)
        | inr (inr w) ↦
            let none = past_none share law v side bs l (omega (arith, willing_le_ahead side bs m l w, out.enough)) k h own in
            let worse = worse_not_better side l m w in
            grind arith
      ]

-- ---- the margin of V

module _ (bs : List Bid) (t : OnTicks highest_tick bs) where
  abbrev D : ℕ → ℕ
  D = demand highest_tick bs

  abbrev S : ℕ → ℕ
  S = supply highest_tick bs

  abbrev V : ℕ
  V = clearing_volume highest_tick bs

  -- V is open at its margin, and no more than V is open at better limits
  pub margin_facts : (side : Bool) →
      (ahead side bs (margin_tick side D S) ≡ ahead_of side D S (margin_tick side D S)) × RunsOut V side bs (margin_tick side D S)
  margin_facts true =
      let (p, tick, e) = greatest_at highest_tick (executable D S) in
      let P : ℕ → Bool = λ p. leb V (D p) in
      let m = margin_tick true D S in
      let yes : P p ≡ true = le-leb V (D p) (omega arith) in
      let passes = highest_passes (suc highest_tick) P p (omega arith) yes in
      let le : m ≤ highest_tick = highest_tick_le highest_tick P in
      let ah : ahead true bs m ≡ D (suc m) = demand_above highest_tick bs m t le in
      let small : D (suc m) ≤ V =
      elim (cases_lt V (D (suc m))) [
        | inl over ↦
            let past = highest_ge (suc highest_tick) P (suc m) in
            let ends = (orders_make_curves highest_tick bs).demand_ends (suc m) in
            grind arith
        | inr ok ↦ ok
      ] in
      (ah, record { before = omega arith; enough = omega (arith, leb-true V (D m) passes.0, cut_le (leb m highest_tick) (willing true bs m)) })
  margin_facts false =
      let (p, tick, e) = greatest_at highest_tick (executable D S) in
      let P : ℕ → Bool = λ p. leb V (S p) in
      let low = lowest (suc highest_tick) P in
      let yes : P p ≡ true = le-leb V (S p) (omega arith) in
      let le : low ≤ p = lowest_le (suc highest_tick) P p (omega arith) yes in
      let here : min low highest_tick ≡ low = omega arith in
      let m = margin_tick false D S in
      let passes : P low ≡ true = lowest_passes (suc highest_tick) P (omega arith) in
      let enough : V ≤ S m = omega (arith, leb-true V (S low) passes, ap S here) in
      let ah : ahead false bs m ≡ before S m = before_supply highest_tick bs m t (omega arith) in
      let small : before S low ≤ V = below low (omega arith) (lowest_le (suc highest_tick) P) in
      (ah, record { before = omega (arith, ap (before S) here); enough = omega (arith, cut_le (leb m highest_tick) (willing false bs m)) })
    where
      below : (low : ℕ) → low ≤ highest_tick → ((k : ℕ) → k < suc highest_tick → leb V (S k) ≡ true → low ≤ k) → before S low ≤ V
      below zero le first = omega arith
      below (suc k) le first =
          let here = first k (omega arith) in grind arith
