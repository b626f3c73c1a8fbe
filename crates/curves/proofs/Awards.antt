-- An award is best: at a crossing tick no allotment beats it (duality).
use Rattle.std.proofs.Common.{◌≡◌, ℕ, suc, ◌+◌, ◌-◌, ◌*◌, ◌<◌, ◌≤◌, Bool, true, false, cond, ◌&&◌, ltb, leb, List, length, get_or, ℤ, pos, ◌-ℤ◌, ◌≤ℤ◌, sym, refl, ap, ◌∙◌, subst, inl, inr, mul-le-mul_right, mul-le-mul_left, arith}
use Rattle.std.proofs.lemmas.Bool.{cases_eq, cases_lt, cases_Bool, le-leb, lt-leb, lt-ltb, cond-true}
use Rattle.std.proofs.lemmas.Int.{ints}
use Rattle.curves.specs.Sums.{total}
use Rattle.curves.specs.Curves.{executable}
use Rattle.curves.specs.Crossing.{Crossing}
use Rattle.curves.specs.Orders.{Bid, at, on, better, keeps, willing, demand, supply, clearing_volume, OnTicks}
use Rattle.curves.specs.Allotments.{given_to, given, worth, surplus, Within, Allotment, BestFirst, Award, AwardIsBest, AwardsAgree, AwardKeepsLimits}
use Rattle.curves.specs.Filling.{ahead}
use Rattle.curves.proofs.Sums.{total_le, total_lt, total_add, total_scale}
use Rattle.curves.proofs.Crossings.{crossing_exists, crossing_clears}
use Rattle.curves.proofs.Orders.{room, in_rooms, buys_of_on, on_of_buys, kept_is_better, better_than_rest, orders_make_curves, crossing_ahead, executable_le_willing}

-- ---- sums of parts: P holds of the places that pass, c is what each can take, x what it gets

module _ (n : ℕ) (P : ℕ → Bool) (c x : ℕ → ℕ) where
  -- one that does not pass gets something, and all that pass are full
  spilled : (j : ℕ) → j < n → P j ≡ false → 0 < x j → ((i : ℕ) → i < n → P i ≡ true → x i ≡ c i) →
      total n (λ k. cond (P k) (c k) 0) < total n x
  spilled j l out gets full =
      total_lt n (λ k. cond (P k) (c k) 0) x j
      (λ k i. elim (cases_Bool (P k)) [ inl y ↦ let f : x k ≡ c k = full k i y in grind arith | inr z ↦ grind arith ])
      l (grind arith)

  -- one that passes is not full, and none that does not pass gets anything
  short : (i : ℕ) → i < n → P i ≡ true → x i < c i → ((k : ℕ) → k < n → x k ≤ c k) → ((j : ℕ) → j < n → P j ≡ false → x j ≡ 0) →
      total n x < total n (λ k. cond (P k) (c k) 0)
  short i l passes less within none =
      total_lt n x (λ k. cond (P k) (c k) 0) i
      (λ k h. let w : x k ≤ c k = within k h in elim (cases_Bool (P k)) [ inl y ↦ grind arith | inr z ↦ let f : x k ≡ 0 = none k h z in grind arith ])
      l (grind arith)

-- ---- one order that gets x of at most c, where a unit is worth a to it and costs b

split : (b d x c : ℕ) → x ≤ c → (b + d) * x ≤ b * x + d * c
split b d x c h = omega (arith, mul-le-mul_left d h)

most : (a b x c : ℕ) → x ≤ c → a * x + cond (ltb a b) x 0 ≤ b * x + (a - b) * c
most a b x c h =
    elim (cases_lt a b) [
      | inl less ↦ let m : suc a * x ≤ b * x = mul-le-mul_right x less in grind arith
      | inr more ↦ let e : b + (a - b) ≡ a = omega arith in let s : a * x ≤ b * x + (a - b) * c = rw e at (split b (a - b) x c h) in grind arith
    ]

-- it reaches that, where it gets all if a unit is worth more than it costs, and nothing if less
reached : (a b x c : ℕ) → (b < a → x ≡ c) → (a < b → x ≡ 0) → b * x + (a - b) * c ≤ a * x
reached a b x c full none =
    elim (cases_lt a b) [
      | inl less ↦ let z : x ≡ 0 = none less in let d : a - b ≡ 0 = omega arith in rw (z, d) (omega arith)
      | inr more ↦
          elim (cases_eq a b) [
            | inl e ↦ let d : a - b ≡ 0 = omega arith in rw (d, e) (omega arith)
            | inr ne ↦
                let f : x ≡ c = full (omega arith) in
                let e : (b + (a - b)) * c ≡ a * c = ap (λ (z : ℕ). z * c) (omega arith) in
                rw f (joined b (a - b) c (a * c) e)
          ]
    ]
  where
    joined : (b d c r : ℕ) → (b + d) * c ≡ r → b * c + d * c ≤ r
    joined b d c r e = omega arith

-- ---- one side at the tick p: to a buy a unit is worth its limit and costs p, to a sell it is the other way round

abbrev worth_each : Bool → ℕ → ℕ → ℕ
worth_each true l p = l
worth_each false l p = p

abbrev cost_each : Bool → ℕ → ℕ → ℕ
cost_each true l p = p
cost_each false l p = l

-- what goes to orders that do not keep their limits at p
abbrev past : Bool → List Bid → List ℕ → ℕ → ℕ
past side bs qs p = total (length bs) (λ k. cond (keeps side (at bs k).limit p) 0 (given_to side bs qs k))

-- what could be gained on a side, were all that is better than p full
abbrev gain : Bool → List Bid → ℕ → ℕ
gain side bs p = total (length bs) (λ k. (worth_each side (at bs k).limit p - cost_each side (at bs k).limit p) * room side bs k)

abbrev worth_all : Bool → List Bid → List ℕ → ℕ → ℕ
worth_all side bs qs p = total (length bs) (λ k. worth_each side (at bs k).limit p * given_to side bs qs k)

abbrev cost_all : Bool → List Bid → List ℕ → ℕ → ℕ
cost_all side bs qs p = total (length bs) (λ k. cost_each side (at bs k).limit p * given_to side bs qs k)

not_kept : (side : Bool) (l p c : ℕ) → cond (keeps side l p) 0 c ≡ cond (ltb (worth_each side l p) (cost_each side l p)) c 0
not_kept true l p c = grind arith
not_kept false l p c = grind arith

module _ (side : Bool) (bs : List Bid) (qs : List ℕ) (fits : Within bs qs) where
  in_room : (k : ℕ) → k < length bs → given_to side bs qs k ≤ room side bs k
  in_room k h = let w : get_or qs k 0 ≤ (at bs k).left = fits.within k h in grind arith

  side_most : (p : ℕ) → worth_all side bs qs p + past side bs qs p ≤ cost_all side bs qs p + gain side bs p
  side_most p =
      rw (← total_add, ← total_add)
      (total_le (length bs) _ _ (λ k h.
      rw (not_kept side (at bs k).limit p (given_to side bs qs k))
      (most (worth_each side (at bs k).limit p) (cost_each side (at bs k).limit p) (given_to side bs qs k) (room side bs k) (in_room k h))))

  -- what a side gets is open at p, or goes past the limits
  given_most : (p : ℕ) → given side bs qs ≤ willing side bs p + past side bs qs p
  given_most p =
      rw (← total_add)
      (total_le (length bs) _ _ (λ k h. one (on side (at bs k)) (keeps side (at bs k).limit p) (get_or qs k 0) (at bs k).left (fits.within k h)))
    where
      one : (a b : Bool) (x c : ℕ) → x ≤ c → cond a x 0 ≤ cond (a && b) c 0 + cond b 0 (cond a x 0)
      one a b x c h = grind arith

-- ---- best limits first, seen from one side

module _ (side : Bool) (bs : List Bid) (qs : List ℕ) (first : BestFirst bs qs) where
  first_on : (i j : ℕ) → i < length bs → j < length bs → better side (at bs i).limit (at bs j).limit ≡ true →
      0 < given_to side bs qs j → given_to side bs qs i ≡ room side bs i
  first_on i j hi hj b some =
      elim (cases_Bool (on side (at bs i))) [
        | inl yi ↦
            elim (cases_Bool (on side (at bs j))) [
              | inl yj ↦
                  let si : (at bs i).buys ≡ side = buys_of_on side (at bs i) yi in
                  let sj : (at bs j).buys ≡ side = buys_of_on side (at bs j) yj in
                  let b' : better (at bs i).buys (at bs i).limit (at bs j).limit ≡ true = subst (λ (s : Bool). better s (at bs i).limit (at bs j).limit ≡ true) (sym si) b in
                  let some' : 0 < get_or qs j 0 = rw yj at some in
                  let full : get_or qs i 0 ≡ (at bs i).left = first i j hi hj (si ∙ sym sj) b' some' in
                  rw yi full
              | inr nj ↦ absurd (grind arith)
            ]
        | inr ni ↦ rw ni refl
      ]

  -- where a side gets no more than is open at p, nothing goes past the limits
  none_past : (p : ℕ) → given side bs qs ≤ willing side bs p → (k : ℕ) → k < length bs → keeps side (at bs k).limit p ≡ false → given_to side bs qs k ≡ 0
  none_past p enough k h out =
      elim (cases_lt 0 (given_to side bs qs k)) [
        | inl some ↦
            let over = spilled (length bs) (λ i. keeps side (at bs i).limit p) (room side bs) (given_to side bs qs) k h out some
            (λ i hi y. first_on i k hi h (kept_is_better side (at bs i).limit (at bs k).limit p y out) some) in
            absurd (omega (arith, in_rooms side bs (λ k. keeps side (at bs k).limit p)))
        | inr z ↦ omega arith
      ]

  -- where it gets no less than is ahead of p, all that is ahead is full
  ahead_full : Within bs qs → (p : ℕ) → ahead side bs p ≤ given side bs qs → (k : ℕ) → k < length bs → better side (at bs k).limit p ≡ true → given_to side bs qs k ≡ room side bs k
  ahead_full fits p enough k h y =
      let w : given_to side bs qs k ≤ room side bs k = in_room side bs qs fits k h in
      elim (cases_lt (given_to side bs qs k) (room side bs k)) [
        | inl less ↦
            let under = short (length bs) (λ i. better side (at bs i).limit p) (room side bs) (given_to side bs qs) k h y less (in_room side bs qs fits)
            (λ j hj n. elim (cases_lt 0 (given_to side bs qs j)) [
              | inl some ↦ absurd (omega (arith, first_on k j h hj (better_than_rest side (at bs k).limit (at bs j).limit p y n) some))
              | inr z ↦ omega arith
            ]) in
            absurd (omega (arith, in_rooms side bs (λ k. better side (at bs k).limit p)))
        | inr z ↦ omega arith
      ]

better_from : (side : Bool) (l p : ℕ) → cost_each side l p < worth_each side l p → better side l p ≡ true
better_from true l p h = lt-ltb p l h
better_from false l p h = lt-ltb l p h

lost_from : (side : Bool) (l p : ℕ) → worth_each side l p < cost_each side l p → keeps side l p ≡ false
lost_from true l p h = lt-leb p l h
lost_from false l p h = lt-leb l p h

-- an award reaches on each side what no allotment exceeds
side_reached : (side : Bool) (bs : List Bid) (qs : List ℕ) → Within bs qs → BestFirst bs qs → (p : ℕ) →
    ahead side bs p ≤ given side bs qs → given side bs qs ≤ willing side bs p →
    cost_all side bs qs p + gain side bs p ≤ worth_all side bs qs p
side_reached side bs qs fits first p enough room_at =
    rw (← total_add)
    (total_le (length bs) _ _ (λ k h.
    reached (worth_each side (at bs k).limit p) (cost_each side (at bs k).limit p) (given_to side bs qs k) (room side bs k)
    (λ l. ahead_full side bs qs first fits p enough k h (better_from side (at bs k).limit p l))
    (λ l. none_past side bs qs first p room_at k h (lost_from side (at bs k).limit p l))))

-- ---- both sides

-- where both sides get as much, what the buys cost at p is what the sells are worth at p
same_price : (bs : List Bid) (qs : List ℕ) (p : ℕ) → given true bs qs ≡ given false bs qs → cost_all true bs qs p ≡ worth_all false bs qs p
same_price bs qs p e = at_price true ∙ ap (λ (v : ℕ). p * v) e ∙ sym (at_price false)
  where
    at_price : (side : Bool) → total (length bs) (λ k. p * given_to side bs qs k) ≡ p * given side bs qs
    at_price side = total_scale (length bs) p (given_to side bs qs)

-- no allotment has more surplus than what could be gained on both sides, and what goes past the limits takes from it
allotment_most : (bs : List Bid) (qs : List ℕ) → Allotment bs qs → (p : ℕ) →
    worth true bs qs + past true bs qs p + past false bs qs p ≤ worth false bs qs + gain true bs p + gain false bs p
allotment_most bs qs a p =
    let b = side_most true bs qs a.fits p in
    let s = side_most false bs qs a.fits p in
    let e = same_price bs qs p a.even in
    omega arith

module _ (top : ℕ) (bs : List Bid) (t : OnTicks top bs) (qs : List ℕ) (w : Award top bs qs) where
  even : given true bs qs ≡ given false bs qs
  even = w.clears true ∙ sym (w.clears false)

  award_reached : (p : ℕ) → Crossing top (demand top bs) (supply top bs) p →
      worth false bs qs + gain true bs p + gain false bs p ≤ worth true bs qs
  award_reached p c =
      let b = on_side true in
      let s = on_side false in
      let e = same_price bs qs p even in
      omega arith
    where
      on_side : (side : Bool) → cost_all side bs qs p + gain side bs p ≤ worth_all side bs qs p
      on_side side =
          let v : given side bs qs ≡ clearing_volume top bs = w.clears side in
          let a = crossing_ahead top bs t p c side in
          let x = executable_le_willing top bs p side in
          let e = crossing_clears top (demand top bs) (supply top bs) p c in
          side_reached side bs qs w.fits w.first p (omega arith) (omega arith)

  best_in_numbers : (x : List ℕ) → Allotment bs x →
      (worth true bs x + worth false bs qs ≤ worth true bs qs + worth false bs x)
      × (worth true bs x + worth false bs qs ≡ worth true bs qs + worth false bs x → given true bs x ≤ given true bs qs)
  best_in_numbers x a =
      let (p, c) = crossing_exists top (demand top bs) (supply top bs) (orders_make_curves top bs) in
      let m = allotment_most bs x a p in
      let r = award_reached p c in
      let b = given_most true bs x a.fits p in
      let s = given_most false bs x a.fits p in
      let d : willing true bs p ≡ demand top bs p = sym (cond-true (leb p top) (willing true bs p) 0 (le-leb p top c.tick)) in
      let u : willing false bs p ≡ supply top bs p = sym (cond-true (leb p top) (willing false bs p) 0 (le-leb p top c.tick)) in
      let e : executable (demand top bs) (supply top bs) p ≡ clearing_volume top bs = crossing_clears top (demand top bs) (supply top bs) p c in
      let v : given true bs qs ≡ clearing_volume top bs = w.clears true in
      let o : given true bs x ≡ given false bs x = a.even in
      (omega arith, λ same. omega arith)

surplus_le : (a b c d : ℕ) → a + d ≤ c + b → (pos a -ℤ pos b) ≤ℤ (pos c -ℤ pos d)
surplus_le a b c d h = omega (arith, ints)

surplus_same : (a b c d : ℕ) → (pos a -ℤ pos b) ≡ (pos c -ℤ pos d) → a + d ≡ c + b
surplus_same a b c d h = omega (arith, ints)

pub award_is_best : AwardIsBest
award_is_best top bs t qs w =
    record {
      allots = record { fits = w.fits; even = even top bs t qs w };
      surplus_most = λ x a. surplus_le (worth true bs x) (worth false bs x) (worth true bs qs) (worth false bs qs) (best_in_numbers top bs t qs w x a).0;
      volume_most = λ x a same.
          (best_in_numbers top bs t qs w x a).1 (surplus_same (worth true bs x) (worth false bs x) (worth true bs qs) (worth false bs qs) same);
    }

pub awards_agree : AwardsAgree
awards_agree top bs t qs rs w v =
    let a = award_is_best top bs t qs w in
    let b = award_is_best top bs t rs v in (
      w.clears true ∙ sym (v.clears true),
      same (surplus bs qs) (surplus bs rs) (b.surplus_most qs a.allots) (a.surplus_most rs b.allots),
    )
  where
    same : (x y : ℤ) → x ≤ℤ y → y ≤ℤ x → x ≡ y
    same x y h k = omega (arith, ints)

pub award_keeps_limits : AwardKeepsLimits
award_keeps_limits top bs qs p w e k h some =
    elim (cases_Bool (keeps (at bs k).buys (at bs k).limit p)) [
      | inl y ↦ y
      | inr n ↦
          let x = executable_le_willing top bs p (at bs k).buys in
          let v : given (at bs k).buys bs qs ≡ clearing_volume top bs = w.clears (at bs k).buys in
          let z = none_past (at bs k).buys bs qs w.first p (omega arith) k h n in
          let g : given_to (at bs k).buys bs qs k ≡ get_or qs k 0 = cond-true (on (at bs k).buys (at bs k)) (get_or qs k 0) 0 (on_of_buys (at bs k).buys (at bs k) refl) in
          absurd (omega arith)
    ]
