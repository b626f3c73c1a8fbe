-- Sharing by turns: where the amount runs out, and what the shares add up to.
use Rattle.std.proofs.Common.{◌≡◌, ℕ, zero, suc, ◌+◌, ◌-◌, ◌<◌, ◌≤◌, min, Bool, true, false, cond, ◌&&◌, eqb, ltb, ◌⊎◌, List, [], ◌∷◌, map, length, get_or, sum_by, sum, filter, sym, refl, ap, ◌∙◌, inl, inr, arith}
use Rattle.std.specs.List.{range_with_len}
use Rattle.std.proofs.lemmas.Bool.{cases_lt, cases_order, lt-ltb, le-ltb, ltb-true, eq-eqb, ne_eqb, eqb-true, or_cases, or_left, or_right, and_parts, and_from}
use Rattle.std.proofs.lemmas.List.Sums.{sum_by-cons, sum-map}
use Rattle.std.proofs.lemmas.List.FromFn.{length-map-range_with_len, get_or-map-range_with_len}
use Rattle.std.proofs.lemmas.List.{get_or_past}
use Rattle.curves.specs.Sums.{total}
use Rattle.curves.proofs.Sums.{total_le, total_same, total_add, total_zero, total_head, total_pick, total_at}
use Rattle.curves.proofs.Groups.{sum_kept}
use Rattle.turns.specs.Turns.{goes_first, claimed_before, in_turn, of_place, by_turns, claims_above, RunsOut, got}
use Rattle.ticks.proofs.Steps.{total_more, total_front}

-- ---- sums over the places of a list

pub total_sumBy : (f : ℕ → ℕ) (xs : List ℕ) → total (length xs) (of_place f xs) ≡ sum_by f xs
total_sumBy f [] = unfold total in refl
total_sumBy f (x ∷ xs) = omega (arith, total_head (length xs) (of_place f (x ∷ xs)), total_sumBy f xs, sum_by-cons f x xs)

-- what is claimed above a key, over the places and over the quantities that have such a key
pub above_kept : (key claim : ℕ → ℕ) (group : List ℕ) (t : ℕ) →
    claims_above (length group) (of_place key group) (of_place claim group) t ≡ sum_by claim (filter (λ q. ltb t (key q)) group)
above_kept key claim group t = sym (sum_kept (λ q. ltb t (key q)) 0 claim group) ∙ sum-map claim (filter (λ q. ltb t (key q)) group)

sum_places : (f : ℕ → ℕ) (a n : ℕ) → sum (map f (range_with_len a n)) ≡ total n (λ k. f (a + k))
sum_places f a zero = unfold total in refl
sum_places f a (suc n) =
    let rest : total n (λ k. f (a + suc k)) ≡ total n (λ k. f (a + 1 + k)) = total_same n _ _ (λ k _. ap f (shift k)) in
    let first : f (a + 0) ≡ f a = ap f (none a) in
    omega (arith, total_head n (λ k. f (a + k)), sum_places f (a + 1) n, sum_by-cons (λ (x : ℕ). x) (f a) (map f (range_with_len (a + 1) n)))
  where
    shift : (k : ℕ) → a + suc k ≡ a + 1 + k
    shift k = omega arith

    none : (b : ℕ) → b + 0 ≡ b
    none b = omega arith

-- ---- turns

module _ (n : ℕ) (key claim : ℕ → ℕ) where
  -- what the places before k with the key t claim
  abbrev pub equals_before : ℕ → ℕ → ℕ
  equals_before t k = total k (λ j. cond (eqb t (key j)) (claim j) 0)

  -- a place with a key above t, and all before it
  above_holds : (t k : ℕ) → k < n → t < key k → claimed_before n key claim k + claim k ≤ claims_above n key claim t
  above_holds t k h l =
      let mine = total_pick n k claim h in
      let both : total n (λ j. cond (goes_first key j k) (claim j) 0 + cond (eqb k j) (claim j) 0) ≤ claims_above n key claim t =
      total_le n _ _ (λ j _. one j (claim j)) in
      omega (arith, total_add n (λ j. cond (goes_first key j k) (claim j) 0) (λ j. cond (eqb k j) (claim j) 0))
    where
      one : (j x : ℕ) → cond (goes_first key j k) x 0 + cond (eqb k j) x 0 ≤ cond (ltb t (key j)) x 0
      one j x = grind arith

  -- all places with a key above s go before a place whose key is at most s
  below_waits : (s k : ℕ) → key k ≤ s → claims_above n key claim s ≤ claimed_before n key claim k
  below_waits s k l = total_le n _ _ (λ j _. one j (claim j))
    where
      one : (j x : ℕ) → cond (ltb s (key j)) x 0 ≤ cond (goes_first key j k) x 0
      one j x = grind arith

  -- a place with the key t comes after those above it, and after its equals before it
  equal_waits : (t k : ℕ) → k ≤ n → key k ≡ t → claimed_before n key claim k ≡ claims_above n key claim t + equals_before t k
  equal_waits t k h e =
      let front = total_front n k (λ j. cond (eqb t (key j)) (claim j) 0) h in
      let both : claimed_before n key claim k ≡ total n (λ j. cond (ltb t (key j)) (claim j) 0 + cond (ltb j k) (cond (eqb t (key j)) (claim j) 0) 0) =
      total_same n _ _ (λ j _. one j (claim j)) in
      omega (arith, total_add n (λ j. cond (ltb t (key j)) (claim j) 0) (λ j. cond (ltb j k) (cond (eqb t (key j)) (claim j) 0) 0))
    where
      one : (j x : ℕ) → cond (goes_first key j k) x 0 ≡ cond (ltb t (key j)) x 0 + cond (ltb j k) (cond (eqb t (key j)) x 0) 0
      one j x = grind arith

  -- where the amount runs out at t, each turn is decided by the key
  pub turn_at : (amount t : ℕ) → RunsOut n key claim amount t → (k : ℕ) → k < n →
      in_turn n key claim amount k
      ≡ cond (ltb t (key k)) (claim k) (cond (eqb t (key k)) (min (claim k) (amount - claims_above n key claim t - equals_before t k)) 0)
  turn_at amount t out k h =
      elim (cases_order t (key k)) [
        | inl e ↦ rw (le-ltb t (key k) (omega arith), eq-eqb t (key k) e) (omega (arith, equal_waits t k (omega arith) (sym e)))
        | inr (inl l) ↦ rw (lt-ltb t (key k) l) (omega (arith, above_holds t k h l, out.0))
        | inr (inr g) ↦
            rw (le-ltb t (key k) (omega arith), ne_eqb t (key k) (λ e. omega arith)) (waits t g out.1)
      ]
    where
      waits : (t : ℕ) → key k < t → ((s : ℕ) → t ≡ suc s → amount ≤ claims_above n key claim s) → in_turn n key claim amount k ≡ 0
      waits zero g o = absurd (omega arith)
      waits (suc s) g o = omega (arith, o s refl, below_waits s k (omega arith))

  -- the equals of t take in turn what is left for them
  equals_add : (t spare m : ℕ) → total m (λ k. cond (eqb t (key k)) (min (claim k) (spare - equals_before t k)) 0) ≡ min spare (equals_before t m)
  unfolding total
  equals_add t spare zero = omega arith
  equals_add t spare (suc m) = one (eqb t (key m)) _ (equals_before t m) (claim m) (equals_add t spare m)
    where
      one : (b : Bool) (x e y : ℕ) → x ≡ min spare e → x + cond b (min y (spare - e)) 0 ≡ min spare (e + cond b y 0)
      one true x e y h = omega arith
      one false x e y h = omega arith

  pub none_above : (t : ℕ) → ((k : ℕ) → k < n → key k ≤ t) → claims_above n key claim t ≡ 0
  none_above t most = total_same n _ (λ _. 0) (λ k h. rw (le-ltb t (key k) (most k h)) refl) ∙ total_zero n

  -- some key is where the amount runs out
  runs_out : (amount : ℕ) → (t : ℕ) × RunsOut n key claim amount t
  runs_out amount = down (total n key) (rw (none_above (total n key) (total_at n key)) (omega arith))
    where
      down : (t : ℕ) → claims_above n key claim t ≤ amount → (t : ℕ) × RunsOut n key claim amount t
      down zero h = (0, (h, λ s e. absurd (omega arith)))
      down (suc t) h =
          elim (cases_lt amount (claims_above n key claim t)) [
            | inl l ↦ (suc t, (h, λ s e. let same : s ≡ t = omega arith in rw same (omega arith)))
            | inr g ↦ down t g
          ]

  -- the claims above s are those above s + 1, and those of its equals
  above_step : (s : ℕ) → claims_above n key claim s ≡ claims_above n key claim (suc s) + equals_before (suc s) n
  above_step s = total_same n _ _ (λ k _. one (key k) (claim k)) ∙ total_add n _ _
    where
      one : (x y : ℕ) → cond (ltb s x) y 0 ≡ cond (ltb (suc s) x) y 0 + cond (eqb (suc s) x) y 0
      one x y = grind arith

  above_most : (s : ℕ) → claims_above n key claim s ≤ total n claim
  above_most s = total_le n _ _ (λ k _. one (ltb s (key k)) (claim k))
    where
      one : (b : Bool) (y : ℕ) → cond b y 0 ≤ y
      one b y = grind arith

  all_claims : total n claim ≡ claims_above n key claim 0 + equals_before 0 n
  all_claims = total_same n _ _ (λ k _. one (key k) (claim k)) ∙ total_add n _ _
    where
      one : (x y : ℕ) → y ≡ cond (ltb 0 x) y 0 + cond (eqb 0 x) y 0
      one x y = grind arith

  turns_add_at : (amount t : ℕ) → RunsOut n key claim amount t → total n (in_turn n key claim amount) ≡ min amount (total n claim)
  turns_add_at amount t out =
      let above = claims_above n key claim t in
      let pieces : total n (in_turn n key claim amount) ≡ total n (λ k. cond (ltb t (key k)) (claim k) 0 + cond (eqb t (key k)) (min (claim k) (amount - above - equals_before t k)) 0) =
      total_same n _ _ (λ k h. turn_at amount t out k h ∙ one (key k) (claim k) (min (claim k) (amount - above - equals_before t k))) in
      let two = total_add n (λ k. cond (ltb t (key k)) (claim k) 0) (λ k. cond (eqb t (key k)) (min (claim k) (amount - above - equals_before t k)) 0) in
      let equals = equals_add t (amount - above) n in
      let sum : total n (in_turn n key claim amount) ≡ above + min (amount - above) (equals_before t n) = omega arith in
      whole t out sum
    where
      one : (x a b : ℕ) → cond (ltb t x) a (cond (eqb t x) b 0) ≡ cond (ltb t x) a 0 + cond (eqb t x) b 0
      one x a b = grind arith

      whole : (t : ℕ) → RunsOut n key claim amount t →
          total n (in_turn n key claim amount) ≡ claims_above n key claim t + min (amount - claims_above n key claim t) (equals_before t n) →
          total n (in_turn n key claim amount) ≡ min amount (total n claim)
      whole zero o e = omega (arith, o.0, all_claims)
      whole (suc s) o e = omega (arith, o.0, o.1 s refl, above_step s, above_most s)

  pub turns_add : (amount : ℕ) → total n (in_turn n key claim amount) ≡ min amount (total n claim)
  turns_add amount = let (t, out) = runs_out amount in turns_add_at amount t out

  turn_says : (i j : ℕ) → goes_first key i j ≡ true → (key j < key i) ⊎ ((key i ≡ key j) × (i < j))
  turn_says i j e =
      elim (or_cases (ltb (key j) (key i)) (eqb (key i) (key j) && ltb i j) e) [
        | inl larger ↦ inl (ltb-true (key j) (key i) larger)
        | inr tie ↦ let (same, earlier) = and_parts (eqb (key i) (key j)) (ltb i j) tie in inr (eqb-true (key i) (key j) same, ltb-true i j earlier)
      ]

  turn_when : (i j : ℕ) → (key j < key i) ⊎ ((key i ≡ key j) × (i < j)) → goes_first key i j ≡ true
  turn_when i j (inl l) = or_left (ltb (key j) (key i)) _ (lt-ltb (key j) (key i) l)
  turn_when i j (inr (e, l)) = or_right (ltb (key j) (key i)) _ (and_from (eqb (key i) (key j)) (ltb i j) (eq-eqb (key i) (key j) e) (lt-ltb i j l))

  turn_chain : (i j k : ℕ) → goes_first key i j ≡ true → goes_first key j k ≡ true → goes_first key i k ≡ true
  turn_chain i j k a b =
      let x = turn_says i j a in
      let y = turn_says j k b in
      turn_when i k (elim (cases_lt (key k) (key i)) [ inl l ↦ inl l | inr g ↦ inr (omega arith) ])

  pick : (a b c : Bool) (x : ℕ) → (a ≡ true → (b ≡ false) × (c ≡ true)) → (b ≡ true → c ≡ true) → cond a x 0 + cond b x 0 ≤ cond c x 0
  pick true b c x h g = let (p, q) = h refl in rw (p, q) (omega arith)
  pick false true c x h g = rw (g refl) (omega arith)
  pick false false c x h g = omega arith

  -- a place that goes before another, with all before it, comes before the other
  before_both : (i j : ℕ) → i < n → goes_first key i j ≡ true → claimed_before n key claim i + claim i ≤ claimed_before n key claim j
  before_both i j h first =
      let mine = total_pick n i claim h in
      let both : total n (λ k. cond (goes_first key k i) (claim k) 0 + cond (eqb i k) (claim k) 0) ≤ claimed_before n key claim j =
      total_le n _ _ (λ k _. one k (claim k)) in
      omega (arith, total_add n (λ k. cond (goes_first key k i) (claim k) 0) (λ k. cond (eqb i k) (claim k) 0))
    where
      one : (k x : ℕ) → cond (goes_first key k i) x 0 + cond (eqb i k) x 0 ≤ cond (goes_first key k j) x 0
      one k x =
          pick (goes_first key k i) (eqb i k) (goes_first key k j) x
          (λ y. (ne_eqb i k (λ e. omega (arith, turn_says k i y, ap key e)), turn_chain k i j y first))
          (λ e. let same : i ≡ k = eqb-true i k e in rw (← same) first)

  -- where a place gets anything in its turn, every place before it has its claim
  pub claim_first : (amount i j : ℕ) → i < n → goes_first key i j ≡ true → 0 < in_turn n key claim amount j → in_turn n key claim amount i ≡ claim i
  claim_first amount i j h first some = omega (arith, before_both i j h first)

-- ---- the shares of a group

module _ (sure key claim : ℕ → ℕ) (amount : ℕ) (group : List ℕ) where
  pub turns_length : length (by_turns sure key claim amount group) ≡ length group
  turns_length = length-map-range_with_len _ 0 (length group)

  pub turns_share : (k : ℕ) → k < length group → get_or (by_turns sure key claim amount group) k 0
      ≡ of_place sure group k + in_turn (length group) (of_place key group) (of_place claim group) amount k
  turns_share k h = get_or-map-range_with_len _ 0 (length group) k k 0 h (omega arith)

  pub turns_within : ((q : ℕ) → sure q + claim q ≤ q) → (k : ℕ) → get_or (by_turns sure key claim amount group) k 0 ≤ get_or group k 0
  turns_within law k =
      elim (cases_lt k (length group)) [
        | inl h ↦ omega (arith, turns_share k h, law (get_or group k 0))
        | inr g ↦ omega (arith, get_or_past (by_turns sure key claim amount group) k 0 (rw turns_length g))
      ]

  pub turns_sum : sum (by_turns sure key claim amount group) ≡ sum_by sure group + min amount (sum_by claim group)
  turns_sum =
      let n = length group in
      let places = sum_places (λ k. of_place sure group k + in_turn n (of_place key group) (of_place claim group) amount k) 0 n in
      let same : total n (λ k. of_place sure group (0 + k) + in_turn n (of_place key group) (of_place claim group) amount (0 + k))
      ≡ total n (λ k. of_place sure group k + in_turn n (of_place key group) (of_place claim group) amount k) =
      total_same n _ _ (λ k _. ap (λ (j : ℕ). of_place sure group j + in_turn n (of_place key group) (of_place claim group) amount j) (none k)) in
      omega (arith, total_add n (of_place sure group) (in_turn n (of_place key group) (of_place claim group) amount), turns_add n (of_place key group) (of_place claim group) amount, total_sumBy sure group, total_sumBy claim group)
    where
      none : (k : ℕ) → 0 + k ≡ k
      none k = omega arith

  -- a turn of the loop that writes the shares: the share, and what is left for the rest of the key t
  module _ (t : ℕ) (out : RunsOut (length group) (of_place key group) (of_place claim group) amount t) (i : ℕ) (h : i < length group) where
    abbrev left_for : ℕ → ℕ
    left_for k =
        amount - claims_above (length group) (of_place key group) (of_place claim group) t
        - equals_before (length group) (of_place key group) (of_place claim group) t k

    pub share_is : (spare : ℕ) → spare ≡ left_for i → of_place sure group i + got key claim t spare (get_or group i 0) ≡ get_or (by_turns sure key claim amount group) i 0
    share_is spare e =
        rw e (sym (turns_share i h ∙ ap (λ (x : ℕ). of_place sure group i + x) (turn_at (length group) (of_place key group) (of_place claim group) amount t out i h)))

    pub spare_taken : (spare : ℕ) → spare ≡ left_for i → of_place key group i ≡ t → spare - got key claim t spare (get_or group i 0) ≡ left_for (i + 1)
    spare_taken spare e same = taken _ _ _ spare (of_place key group i) (of_place claim group i) (total_more i (λ j. cond (eqb t (of_place key group j)) (of_place claim group j) 0)) e same
      where
        taken : (left b c spare x y : ℕ) → c ≡ b + cond (eqb t x) y 0 → spare ≡ left - b → x ≡ t → spare - cond (ltb t x) y (cond (eqb t x) (min y spare) 0) ≡ left - c
        taken left b c spare x y more e same =
            let yes = eq-eqb t x (sym same) in
            let no = le-ltb t x (omega arith) in
            let mine : c ≡ b + y = rw yes at more in
            rw (no, yes) (omega arith)

    pub spare_kept : (of_place key group i ≡ t → ⊥) → left_for i ≡ left_for (i + 1)
    spare_kept other = kept _ _ _ (of_place key group i) (of_place claim group i) (total_more i (λ j. cond (eqb t (of_place key group j)) (of_place claim group j) 0)) other
      where
        kept : (left b c x y : ℕ) → c ≡ b + cond (eqb t x) y 0 → (x ≡ t → ⊥) → left - b ≡ left - c
        kept left b c x y more other =
            let no = ne_eqb t x (λ (e : t ≡ x). other (sym e)) in
            let same : c ≡ b + 0 = rw no at more in
            omega arith
