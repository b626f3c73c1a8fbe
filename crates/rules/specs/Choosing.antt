-- The price by principles is a tick, with executable volume V where V is above 0.
use Rattle.std.specs.Prelude.{◌≡◌, ℕ, zero, suc, ◌+◌, ◌-◌, ◌<◌, ◌≤◌, min, max, Bool, true, false, cond, ◌⊎◌, ◌==◌, refl}
use Rattle.std.proofs.Common.{sym, inl, inr, arith, add-one}
use Rattle.std.proofs.lemmas.Bool.{cases_eq, cases_lt, cases_Bool, and_parts, and_from, or_left, eqb-true, eqb-false, eq-eqb, ne_eqb, ltb-true, not_from_false, cond_both}
use Rattle.curves.specs.Sums.{lowest, highest}
use Rattle.curves.specs.Curves.{Curves, executable, volume}
use Rattle.curves.proofs.Sums.{greatest_le, greatest_at, lowest_le, lowest_passes, highest_ge, highest_passes}
use Rattle.rules.specs.Prices.{smallest, none, candidate, unbalance, least_unbalance, kept_ticks, over, under, clamp, choice, principles_price}
use Rattle.ticks.proofs.Ends.{lowest_most, highest_most, lowest_never, highest_never}

pub smallest_none : (P : ℕ → Bool) (f : ℕ → ℕ) (d : ℕ) → smallest 0 P f d ≡ d
unfolding smallest
smallest_none P f d = refl

pub smallest_more : (n : ℕ) (P : ℕ → Bool) (f : ℕ → ℕ) (d : ℕ) → smallest (n + 1) P f d ≡ cond (P n) (min (smallest n P f d) (f n)) (smallest n P f d)
unfolding smallest
smallest_more n P f d = rw add-one refl

smallest_le : (n : ℕ) (P : ℕ → Bool) (f : ℕ → ℕ) (d k : ℕ) → k < n → P k ≡ true → smallest n P f d ≤ f k
unfolding smallest
smallest_le zero P f d k h y = absurd (omega arith)
smallest_le (suc n) P f d k h y =
    elim (cases_eq k n) [
      | inl e ↦ let here : P n ≡ true = rw e at y in rw (here, e) (omega arith)
      | inr ne ↦ let ih = smallest_le n P f d k (omega arith) y in elim (cases_Bool (P n)) [ inl p ↦ rw p (omega arith) | inr z ↦ rw z ih ]
    ]

-- the smallest is d, or is reached at a place that passes
smallest_at : (n : ℕ) (P : ℕ → Bool) (f : ℕ → ℕ) (d : ℕ) → (smallest n P f d ≡ d) ⊎ ((j : ℕ) × (j < n) × (P j ≡ true) × (f j ≡ smallest n P f d))
unfolding smallest
smallest_at zero P f d = inl refl
smallest_at (suc n) P f d =
    elim (cases_Bool (P n)) [
      | inl y ↦
          elim (cases_lt (f n) (smallest n P f d)) [
            | inl l ↦ inr (n, omega arith, y, rw y (omega arith))
            | inr g ↦ elim (smallest_at n P f d) [
              | inl e ↦ inl (rw y (omega arith))
              | inr (j, h, p, e) ↦ inr (j, omega arith, p, rw y (omega arith))
            ]
          ]
      | inr z ↦ elim (smallest_at n P f d) [
        | inl e ↦ inl (rw z e)
        | inr (j, h, p, e) ↦ inr (j, omega arith, p, rw z e)
      ]
    ]

-- a test that is met somewhere
met : (n : ℕ) (P : ℕ → Bool) → none n P ≡ false → (lowest n P < n) × (P (lowest n P) ≡ true)
met n P some =
    let most = lowest_most n P in
    let h : lowest n P < n = omega (arith, eqb-false (lowest n P) n some) in
    (h, lowest_passes n P h)

module _ (n u : ℕ) (K : ℕ → Bool) (D S : ℕ → ℕ) (r : ℕ) where
  -- a test that is met nowhere, and one that is met
  none_holds : (P : ℕ → Bool) → ((p : ℕ) → p < n → P p ≡ false) → none n P ≡ true
  none_holds P never = eq-eqb (lowest n P) n (sym (lowest_never n P never))

  none_fails : (P : ℕ → Bool) (p : ℕ) → p < n → P p ≡ true → none n P ≡ false
  none_fails P p h y = ne_eqb (lowest n P) n (λ e. omega (arith, lowest_le n P p h y))

  -- the choice by cases
  pub none_kept : ((p : ℕ) → p < n → K p ≡ false) → 0 ≡ choice n u K D S r
  none_kept never =
      let high = highest_never n K never in
      let no-under = none_holds (under K D S) (λ p h. rw (never p h) refl) in
      cond_both (u == 0) _ _ (λ (x : ℕ). 0 ≡ x) (λ _. omega arith) (λ _. rw no-under high)

  module _ (unbalanced : 0 < u) where
    pub none_under : ((p : ℕ) → p < n → under K D S p ≡ false) → highest n K ≡ choice n u K D S r
    none_under never = rw (ne_eqb u 0 (λ e. omega arith), none_holds (under K D S) never) refl

    pub none_over : (q : ℕ) → q < n → under K D S q ≡ true → ((p : ℕ) → p < n → over K D S p ≡ false) → lowest n K ≡ choice n u K D S r
    none_over q h y never = rw (ne_eqb u 0 (λ e. omega arith), none_fails (under K D S) q h y, none_holds (over K D S) never) refl

    pub over_and_under : (q p : ℕ) → q < n → under K D S q ≡ true → p < n → over K D S p ≡ true →
        clamp r (highest n (over K D S)) (lowest n (under K D S)) ≡ choice n u K D S r
    over_and_under q p hq yq hp yp = rw (ne_eqb u 0 (λ e. omega arith), none_fails (under K D S) q hq yq, none_fails (over K D S) p hp yp) refl

-- whatever is kept, the choice is a tick
pub choice_is_tick : (top u : ℕ) (K : ℕ → Bool) (D S : ℕ → ℕ) (r : ℕ) → choice (suc top) u K D S r ≤ top
choice_is_tick top u K D S r =
    let high = highest_most top K in
    let Tick = λ (p : ℕ). p ≤ top in
    cond_both (u == 0) _ _ Tick (λ _. omega arith)
    (λ _. cond_both (none (suc top) (under K D S)) _ _ Tick (λ _. high)
    (λ some. let (h, y) = met (suc top) (under K D S) some in
    cond_both (none (suc top) (over K D S)) _ _ Tick
    (λ _. let (k, _) = and_parts (K (lowest (suc top) (under K D S))) _ y in omega (arith, lowest_le (suc top) K _ h k))
    (λ _. omega arith)))

module _ (top : ℕ) (D S : ℕ → ℕ) (c : Curves top D S) where
  -- a tick between two of executable volume V
  between : (l p h : ℕ) → executable D S l ≡ volume top D S → executable D S h ≡ volume top D S → l ≤ p → p ≤ h → h ≤ top →
      executable D S p ≡ volume top D S
  between l p h a b lp ph ht =
      let d : D h ≤ D p = c.falls p h ph in
      let s : S l ≤ S p = c.rises l p lp (omega arith) in
      let m : executable D S p ≤ volume top D S = greatest_le top (executable D S) p (omega arith) in
      omega arith

  -- up from a tick of executable volume V to the end of its step in demand
  some_candidate : 0 < volume top D S → (d p : ℕ) → p + d ≡ top → executable D S p ≡ volume top D S →
      (r : ℕ) × (r < suc top) × (candidate (volume top D S) D S r ≡ true)
  some_candidate v zero p t e =
      let z : D (suc p) ≡ 0 = c.demand_ends (suc p) (omega arith) in
      (p, omega arith, and_from _ _ (eq-eqb _ _ e) (or_left _ _ (not_from_false _ (ne_eqb (D p) (D (suc p)) (λ q. omega arith)))))
  some_candidate v (suc d) p t e =
      elim (cases_Bool (D p == D (suc p))) [
        | inl same ↦
            let q : D p ≡ D (suc p) = eqb-true _ _ same in
            let s : S p ≤ S (suc p) = c.rises p (suc p) (omega arith) (omega arith) in
            let m : executable D S (suc p) ≤ volume top D S = greatest_le top (executable D S) (suc p) (omega arith) in
            some_candidate v d (suc p) (omega arith) (omega arith)
        | inr differ ↦ (p, omega arith, and_from _ _ (eq-eqb _ _ e) (or_left _ _ (not_from_false _ differ)))
      ]

  some_kept : 0 < volume top D S → (r : ℕ) × (r < suc top) × (kept_ticks (volume top D S) (least_unbalance top (volume top D S) D S) D S r ≡ true)
  some_kept v =
      let (p, l, e) = greatest_at top (executable D S) in
      let (r, h, y) = some_candidate v (top - p) p (omega arith) e in
      let C = candidate (volume top D S) D S in
      elim (smallest_at (suc top) C (unbalance D S) (max (D 0) (S top))) [
        | inl all ↦
            let least = smallest_le (suc top) C (unbalance D S) (max (D 0) (S top)) r h y in
            let d : D r ≤ D 0 = c.falls 0 r (omega arith) in
            let s : S r ≤ S top = c.rises r top (omega arith) (omega arith) in
            (r, h, and_from _ _ y (eq-eqb _ _ (omega arith)))
        | inr (j, hj, yj, ej) ↦ (j, hj, and_from _ _ yj (eq-eqb _ _ ej))
      ]

  -- whatever is kept, as long as something is, and each of it has executable volume V
  module _ (u : ℕ) (K : ℕ → Bool) (r : ℕ) (some : (k : ℕ) × (k < suc top) × (K k ≡ true))
      (clears : (p : ℕ) → K p ≡ true → executable D S p ≡ volume top D S) where
    abbrev Clears : ℕ → Type 0
    Clears x = (x ≤ top) × (executable D S x ≡ volume top D S)

    low_clears : Clears (lowest (suc top) K)
    low_clears =
        let (k, h, y) = some in
        let l = lowest_le (suc top) K k h y in
        (omega arith, clears _ (lowest_passes (suc top) K (omega arith)))

    high_clears : Clears (highest (suc top) K)
    high_clears = let (k, h, y) = some in let (a, b) = highest_passes (suc top) K k h y in (omega arith, clears _ a)

    clamp_clears : (l h : ℕ) → Clears l → Clears h → l ≤ h → Clears (clamp r l h)
    clamp_clears l h a b lh = (omega arith, between l (clamp r l h) h a.1 b.1 (omega arith) (omega arith) b.0)

    -- demand is above supply below, and supply above demand from there
    mixed : none (suc top) (under K D S) ≡ false → none (suc top) (over K D S) ≡ false →
        Clears (clamp r (highest (suc top) (over K D S)) (lowest (suc top) (under K D S)))
    mixed some-under some-over =
        let (uh, uy) = met (suc top) (under K D S) some-under in
        let (oh, oy) = met (suc top) (over K D S) some-over in
        let (hy, hh) = highest_passes (suc top) (over K D S) _ oh oy in
        let low = highest (suc top) (over K D S) in
        let high = lowest (suc top) (under K D S) in
        let (hk, hd) = and_parts (K low) _ hy in
        let (lk, ls) = and_parts (K high) _ uy in
        let more : S low < D low = ltb-true _ _ hd in
        let less : D high < S high = ltb-true _ _ ls in
        let order : low ≤ high =
        elim (cases_lt high low) [
          | inl l ↦ absurd (omega (arith, c.falls high low (omega arith), c.rises high low (omega arith) (omega arith)))
          | inr g ↦ g
        ] in
        clamp_clears low high (omega arith, clears low hk) (omega arith, clears high lk) order

    choice_clears : Clears (choice (suc top) u K D S r)
    choice_clears =
        cond_both (u == 0) _ _ Clears
        (λ _. clamp_clears _ _ low_clears high_clears (let (k, h, y) = some in omega (arith, lowest_le (suc top) K k h y, highest_ge (suc top) K k h y)))
        (λ _. cond_both (none (suc top) (under K D S)) _ _ Clears (λ _. high_clears)
        (λ some-under. cond_both (none (suc top) (over K D S)) _ _ Clears (λ _. low_clears) (λ some-over. mixed some-under some-over)))

  pub principles_clear : (r : ℕ) → 0 < volume top D S → (principles_price top D S r ≤ top) × (executable D S (principles_price top D S r) ≡ volume top D S)
  principles_clear r v =
      let w = volume top D S in
      let u = least_unbalance top w D S in
      choice_clears u (kept_ticks w u D S) r (some_kept v)
      (λ p y. let (a, _) = and_parts (candidate w D S p) _ y in let (e, _) = and_parts (executable D S p == w) _ a in eqb-true _ _ e)
