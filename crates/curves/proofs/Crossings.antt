-- V is the greatest; the crossing range is an interval that is not empty, and every tick in it clears V.
use Rattle.std.proofs.Common.{◌≡◌, ℕ, zero, suc, ◌≤◌, true, ◌&&◌, leb, inl, inr, arith}
use Rattle.std.proofs.lemmas.Bool.{cases_lt, and_parts, and_from, le-leb, leb-true}
use Rattle.curves.specs.Curves.{Curves, executable, volume, VolumeIsGreatest}
use Rattle.curves.specs.Crossing.{before, Crossing, crosses, crossing_low, crossing_high, crossing_middle, CrossingExists, CrossingIsInterval, CrossingClears, CrossingEnds, CrossingMiddle}
use Rattle.curves.proofs.Sums.{greatest_le, greatest_at, lowest_le, lowest_passes, highest_ge, highest_passes}

pub volume_is_greatest : VolumeIsGreatest
volume_is_greatest top D S = (λ p h. greatest_le top (executable D S) p h, greatest_at top (executable D S))

module _ (top : ℕ) (D S : ℕ → ℕ) (c : Curves top D S) where
  -- down from a tick that is high enough, to the lowest that is
  crossing_down : (p : ℕ) → p ≤ top → D (suc p) ≤ volume top D S → volume top D S ≤ S p → (r : ℕ) × Crossing top D S r
  crossing_down zero h a s =
      let (q, _, e) = greatest_at top (executable D S) in
      let d : D q ≤ D 0 = c.falls 0 q (omega arith) in
      (0, record { tick = h; above = a; demanded = omega arith; below = omega arith; supplied = s })
  crossing_down (suc p) h a s =
      elim (cases_lt (volume top D S) (D (suc p))) [
        | inl over ↦
            let small : executable D S (suc p) ≤ volume top D S = greatest_le top (executable D S) (suc p) h in
            let up : S p ≤ S (suc p) = c.rises p (suc p) (omega arith) (omega arith) in
            (suc p, record { tick = h; above = a; demanded = omega arith; below = omega arith; supplied = s })
        | inr under ↦
            elim (cases_lt (S p) (volume top D S)) [
              | inl short ↦
                  let (q, _, e) = greatest_at top (executable D S) in
                  let d : volume top D S ≤ D (suc p) =
                  elim (cases_lt p q) [ inl l ↦ omega (arith, c.falls (suc p) q l) | inr l ↦ omega (arith, c.rises q p l (omega arith)) ] in
                  (suc p, record { tick = h; above = a; demanded = d; below = omega arith; supplied = s })
              | inr enough ↦ crossing_down p (omega arith) under enough
            ]
      ]

pub crossing_exists : CrossingExists
crossing_exists top D S c =
    let (q, l, e) = greatest_at top (executable D S) in
    let z : D (suc top) ≡ 0 = c.demand_ends (suc top) (omega arith) in
    let up : S q ≤ S top = c.rises q top l (omega arith) in
    crossing_down top D S c top (omega arith) (omega arith) (omega arith)

pub crossing_clears : CrossingClears
crossing_clears top D S p c =
    let small : executable D S p ≤ volume top D S = greatest_le top (executable D S) p c.tick in
    omega arith

before_rises : (top : ℕ) (D S : ℕ → ℕ) → Curves top D S → (p r : ℕ) → p ≤ r → r ≤ top → before S p ≤ before S r
before_rises top D S c zero r h t = omega arith
before_rises top D S c (suc p) zero h t = omega arith
before_rises top D S c (suc p) (suc r) h t = c.rises p r (omega arith) (omega arith)

pub crossing_is_interval : CrossingIsInterval
crossing_is_interval top D S c l p h a b lp ph =
    let ht : h ≤ top = b.tick in
    let d1 : D (suc p) ≤ D (suc l) = c.falls (suc l) (suc p) (omega arith) in
    let d2 : D h ≤ D p = c.falls p h ph in
    let s1 : before S p ≤ before S h = before_rises top D S c p h ph b.tick in
    let s2 : S l ≤ S p = c.rises l p lp (omega arith) in
    record { tick = omega arith; above = omega arith; demanded = omega arith; below = omega arith; supplied = omega arith }

-- ---- the test says what the range says

crosses_says : (top : ℕ) (D S : ℕ → ℕ) (p : ℕ) → p ≤ top → crosses (volume top D S) D S p ≡ true → Crossing top D S p
crosses_says top D S p h e =
    let (a, b) = and_parts (leb (D (suc p)) (volume top D S) && leb (volume top D S) (D p)) (leb (before S p) (volume top D S) && leb (volume top D S) (S p)) e in
    let (a1, a2) = and_parts (leb (D (suc p)) (volume top D S)) (leb (volume top D S) (D p)) a in
    let (b1, b2) = and_parts (leb (before S p) (volume top D S)) (leb (volume top D S) (S p)) b in
    record { tick = h; above = leb-true _ _ a1; demanded = leb-true _ _ a2; below = leb-true _ _ b1; supplied = leb-true _ _ b2 }

pub crosses_when : (top : ℕ) (D S : ℕ → ℕ) (p : ℕ) → Crossing top D S p → crosses (volume top D S) D S p ≡ true
crosses_when top D S p c =
    and_from _ _ (and_from _ _ (le-leb _ _ c.above) (le-leb _ _ c.demanded)) (and_from _ _ (le-leb _ _ c.below) (le-leb _ _ c.supplied))

pub crossing_ends : CrossingEnds
crossing_ends top D S c =
    let (r, x) = crossing_exists top D S c in
    let t : crosses (volume top D S) D S r ≡ true = crosses_when top D S r x in
    let rt : r ≤ top = x.tick in
    let ll : crossing_low top D S ≤ r = lowest_le (suc top) (crosses (volume top D S) D S) r (omega arith) t in
    let lp : crosses (volume top D S) D S (crossing_low top D S) ≡ true = lowest_passes (suc top) (crosses (volume top D S) D S) (omega arith) in
    let (hp, hl) = highest_passes (suc top) (crosses (volume top D S) D S) r (omega arith) t in (
      crosses_says top D S (crossing_low top D S) (omega arith) lp,
      crosses_says top D S (crossing_high top D S) (omega arith) hp,
      λ p y. let yt : p ≤ top = y.tick in (
        lowest_le (suc top) (crosses (volume top D S) D S) p (omega arith) (crosses_when top D S p y),
        highest_ge (suc top) (crosses (volume top D S) D S) p (omega arith) (crosses_when top D S p y),
      ),
    )

pub crossing_in_the_middle : CrossingMiddle
crossing_in_the_middle top D S c =
    let (lx, hx, all) = crossing_ends top D S c in
    let lh : crossing_low top D S ≤ crossing_high top D S = (all (crossing_low top D S) lx).1 in
    crossing_is_interval top D S c (crossing_low top D S) (crossing_middle top D S) (crossing_high top D S) lx hx (omega arith) (omega arith)
