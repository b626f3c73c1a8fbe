-- Whatever lawful rule shares, the groups filled from the best on are an award.
use Rattle.std.proofs.Common.{◌≡◌, ℕ, zero, suc, ◌+◌, ◌-◌, ◌<◌, ◌≤◌, min, Bool, true, false, cond, eqb, List, length, get_or, sym, refl, ap, ◌∙◌, inl, inr, arith}
use Rattle.std.proofs.lemmas.Bool.{cases_Bool, cond-true, eq-eqb, and_from}
use Rattle.std.proofs.lemmas.List.FromFn.{length-map-range_with_len, get_or-map-range_with_len}
use Rattle.curves.specs.Sums.{total}
use Rattle.curves.specs.Curves.{executable}
use Rattle.curves.specs.Orders.{Bid, no_bid, at, on, better, willing, demand, supply, clearing_volume, OnTicks}
use Rattle.curves.specs.Allotments.{given_to, given}
use Rattle.curves.specs.Sharing.{SharingMeaning, SharingLaw}
use Rattle.curves.specs.Filling.{ahead, grouped, group, earlier, share_of, filled, award_by, AwardOfSharing}
use Rattle.curves.proofs.Sums.{total_same, total_zero, total_swap, total_pick, total_full, total_at, greatest_at}
use Rattle.curves.proofs.Orders.{buys_of_on, on_of_buys, group_total, side_total, willing_splits, willing_le_side, willing_le_ahead, willing_all, ahead_of_best, ahead_of_next, executable_le_willing}
use Rattle.curves.proofs.Groups.{kept_add, kept_at, length_kept, sum_kept}

-- ---- groups in turn: each takes what the groups before it leave of v

-- upwards: A l is what stands before l
upwards : (v : ℕ) (A G : ℕ → ℕ) → A 0 ≡ 0 → ((l : ℕ) → A (suc l) ≡ A l + G l) → (m : ℕ) → total m (λ l. min (v - A l) (G l)) ≡ min v (A m)
unfolding total
upwards v A G none next zero = omega arith
upwards v A G none next (suc m) = omega (arith, upwards v A G none next m, next m)

-- downwards: B (l + 1) is what stands before l
downwards : (v : ℕ) (B G : ℕ → ℕ) → ((l : ℕ) → B l ≡ B (suc l) + G l) → (m : ℕ) → total m (λ l. min (v - B (suc l)) (G l)) + min v (B m) ≡ min v (B 0)
unfolding total
downwards v B G next zero = omega arith
downwards v B G next (suc m) = omega (arith, downwards v B G next m, next m)

groups_add : (v top : ℕ) (bs : List Bid) → OnTicks top bs → (side : Bool) →
    total (suc top) (λ l. min (v - ahead side bs l) (group_total side bs l)) ≡ min v (side_total side bs)
groups_add v top bs t true =
    let d = downwards v (willing true bs) (group_total true bs) (willing_splits true bs) (suc top) in
    let z : willing true bs (suc top) ≡ 0 = ahead_of_best top bs t true in
    let a = willing_all top bs t true in
    omega arith
groups_add v top bs t false =
    let u = upwards v (ahead false bs) (group_total false bs) (ahead_of_best top bs t false) (λ l. ahead_of_next bs l ∙ willing_splits false bs l) (suc top) in
    let n = ahead_of_next bs top in
    let a = willing_all top bs t false in
    omega arith

-- ---- one side

module _ (share : SharingMeaning) (law : SharingLaw share) (v : ℕ) (side : Bool) (bs : List Bid) where
  -- the share of place k in the group with limit l, if it is there
  abbrev in_group : ℕ → ℕ → ℕ
  in_group l k = cond (grouped side l (at bs k)) (share_of share v side bs l k) 0

  group_adds : (l : ℕ) → total (length bs) (in_group l) ≡ min (v - ahead side bs l) (group_total side bs l)
  group_adds l =
      kept_add (grouped side l) no_bid bs (share (v - ahead side bs l) (group side bs l))
      (law.whole (v - ahead side bs l) (group side bs l) ∙ length_kept (grouped side l) no_bid (λ (b : Bid). b.left) bs)
      ∙ law.adds (v - ahead side bs l) (group side bs l)
      ∙ ap (λ (z : ℕ). min (v - ahead side bs l) z) (sum_kept (grouped side l) no_bid (λ (b : Bid). b.left) bs)

  pub share_within : (l k : ℕ) → k < length bs → grouped side l (at bs k) ≡ true → share_of share v side bs l k ≤ (at bs k).left
  share_within l k h y =
      let w = law.within (v - ahead side bs l) (group side bs l) (earlier side bs l k) in
      let e = kept_at (grouped side l) no_bid (λ (b : Bid). b.left) bs k h y in
      omega arith

  -- a group that fits is full
  pub fits_full : (l : ℕ) → willing side bs l ≤ v → (k : ℕ) → k < length bs → grouped side l (at bs k) ≡ true → share_of share v side bs l k ≡ (at bs k).left
  fits_full l fits k h y =
      let f = total_full (length bs) (in_group l) (λ k. cond (grouped side l (at bs k)) (at bs k).left 0)
      (λ k h. elim (cases_Bool (grouped side l (at bs k))) [ inl y ↦ rw y (share_within l k h y) | inr z ↦ rw z (omega arith) ])
      (omega (arith, group_adds l, willing_splits side bs l)) k h in
      rw y at f

  -- a group that the better limits leave nothing for gets nothing
  pub past_none : (l : ℕ) → v ≤ ahead side bs l → (k : ℕ) → k < length bs → grouped side l (at bs k) ≡ true → share_of share v side bs l k ≡ 0
  past_none l past k h y =
      let part : in_group l k ≡ share_of share v side bs l k = cond-true _ _ _ y in
      omega (arith, total_at (length bs) (in_group l) k h, group_adds l, part)

  -- the groups of all limits have the whole side
  side_adds : (top : ℕ) → OnTicks top bs → v ≤ side_total side bs →
      total (length bs) (λ k. cond (on side (at bs k)) (share_of share v side bs (at bs k).limit k) 0) ≡ v
  side_adds top t enough =
      let spread : total (length bs) (λ k. cond (on side (at bs k)) (share_of share v side bs (at bs k).limit k) 0)
      ≡ total (length bs) (λ k. total (suc top) (λ l. in_group l k)) =
      total_same (length bs) _ _ (λ k h. elim (cases_Bool (on side (at bs k))) [
        | inl y ↦ let q : (at bs k).limit < suc top = omega (arith, t k h) in
            rw y (sym (total_pick (suc top) (at bs k).limit (λ l. share_of share v side bs l k) q))
        | inr z ↦ rw z (sym (total_zero (suc top)))
      ]) in
      let swapped = total_swap (length bs) (suc top) (λ k l. in_group l k) in
      let summed : total (suc top) (λ l. total (length bs) (in_group l)) ≡ total (suc top) (λ l. min (v - ahead side bs l) (group_total side bs l)) =
      total_same (suc top) _ _ (λ l _. group_adds l) in
      let all = groups_add v top bs t side in
      omega arith

  pub own_group : (k : ℕ) → on side (at bs k) ≡ true → grouped side (at bs k).limit (at bs k) ≡ true
  own_group k y = and_from (on side (at bs k)) (eqb (at bs k).limit (at bs k).limit) y (eq-eqb (at bs k).limit (at bs k).limit refl)

  -- where a worse limit gets anything, a better one's group fits
  shares_first : (i j : ℕ) → i < length bs → j < length bs → on side (at bs i) ≡ true → on side (at bs j) ≡ true →
      better side (at bs i).limit (at bs j).limit ≡ true → 0 < share_of share v side bs (at bs j).limit j →
      share_of share v side bs (at bs i).limit i ≡ (at bs i).left
  shares_first i j hi hj yi yj b some =
      let part : in_group (at bs j).limit j ≡ share_of share v side bs (at bs j).limit j = cond-true _ _ _ (own_group j yj) in
      let whole = total_at (length bs) (in_group (at bs j).limit) j hj in
      let sum = group_adds (at bs j).limit in
      let before = willing_le_ahead side bs (at bs i).limit (at bs j).limit b in
      fits_full (at bs i).limit (omega arith) i hi (own_group i yi)

-- ---- both sides

module _ (share : SharingMeaning) (law : SharingLaw share) (top : ℕ) (bs : List Bid) (t : OnTicks top bs) where
  abbrev V : ℕ
  V = clearing_volume top bs

  abbrev qs : List ℕ
  qs = award_by share top bs

  award_at : (k : ℕ) → k < length bs → get_or qs k 0 ≡ filled share V bs k
  award_at k h = get_or-map-range_with_len (filled share V bs) 0 (length bs) k k 0 h (omega arith)

  V_le_side : (side : Bool) → V ≤ side_total side bs
  V_le_side side =
      let (p, _, e) = greatest_at top (executable (demand top bs) (supply top bs)) in
      let x = executable_le_willing top bs p side in
      let w = willing_le_side side bs p in
      omega arith

  award_clears : (side : Bool) → given side bs qs ≡ V
  award_clears side = total_same (length bs) _ _ one ∙ side_adds share law V side bs top t (V_le_side side)
    where
      one : (k : ℕ) → k < length bs → given_to side bs qs k ≡ cond (on side (at bs k)) (share_of share V side bs (at bs k).limit k) 0
      one k h =
          elim (cases_Bool (on side (at bs k))) [
            | inl y ↦ rw y (award_at k h ∙ ap (λ (s : Bool). share_of share V s bs (at bs k).limit k) (buys_of_on side (at bs k) y))
            | inr z ↦ rw z refl
          ]

  award_within : (k : ℕ) → k < length bs → get_or qs k 0 ≤ (at bs k).left
  award_within k h =
      let s = (at bs k).buys in
      rw (award_at k h) (share_within share law V s bs (at bs k).limit k h (own_group share law V s bs k (on_of_buys s (at bs k) refl)))

pub award_of_sharing : AwardOfSharing
award_of_sharing share law top bs t =
    record {
      fits = record {
        whole = length-map-range_with_len (filled share (clearing_volume top bs) bs) 0 (length bs);
        within = award_within share law top bs t;
      };
      clears = award_clears share law top bs t;
      first = λ i j hi hj same b some.
          let s = (at bs i).buys in
          let v = clearing_volume top bs in
          let e : share_of share v s bs (at bs j).limit j ≡ filled share v bs j = ap (λ (s : Bool). share_of share v s bs (at bs j).limit j) same in
          let g = award_at share law top bs t j hj in
          award_at share law top bs t i hi
          ∙ shares_first share law v s bs i j hi hj (on_of_buys s (at bs i) refl) (on_of_buys s (at bs j) (sym same)) b (omega arith);
    }
