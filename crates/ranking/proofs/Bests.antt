-- The best so far is ahead of all others, at each place in turn.
use Rattle.std.proofs.Common.{◌≡◌, ℕ, zero, suc, ◌<◌, Bool, Some, None, Option, sym, refl, ◌∙◌, inl, inr, arith}
use Rattle.std.proofs.lemmas.Bool.{cases_Bool, cases_eq, not-false}
use Rattle.ranking.specs.Laws.{RankLaw}
use Rattle.ranking.specs.Best.{joined, best_of, place_of, Distinct, BestAt, Found}

-- Found, with the thing that is found
abbrev Leader : {X : Type 0} → (X → X → Bool) → ℕ → (ℕ → Option X) → Option (ℕ × X) → Type 0
Leader ahead n thing None = (k : ℕ) → k < n → thing k ≡ None
Leader ahead n thing (Some b) = BestAt ahead n thing b.0 b.1

found : {X : Type 0} (ahead : X → X → Bool) (n : ℕ) (thing : ℕ → Option X) (best : Option (ℕ × X)) → Leader ahead n thing best → Found ahead n thing (place_of best)
found ahead n thing None l = l
found ahead n thing (Some b) l = (b.1, l)

none≢some : {X : Type 0} (y : X) → ◌≡◌ {A = Option X} None (Some y) → ⊥
none≢some y e = let z : ◌≡◌ {A = ℕ} 0 1 = cc in omega arith

some_same : {X : Type 0} {x y : X} → ◌≡◌ {A = Option X} (Some x) (Some y) → x ≡ y
some_same e = cc

module _ {X : Type 0} (mark : X → ℕ) (ahead : X → X → Bool) (law : RankLaw mark ahead) (thing : ℕ → Option X) where
  -- the thing at the place n joins the best below it
  leader_more : (n : ℕ) → Distinct mark (suc n) thing → (here : Option X) → thing n ≡ here → (best : Option (ℕ × X)) → Leader ahead n thing best →
      Leader ahead (suc n) thing (joined ahead n here best)
  leader_more n d None e None l = λ k h. elim (cases_eq k n) [ inl s ↦ rw s e | inr ne ↦ l k (omega arith) ]
  leader_more n d None e (Some b) l =
      (omega (arith, l.0), l.1, λ k y h ne t. elim (cases_eq k n) [ inl s ↦ absurd (none≢some y (sym e ∙ rw s at t)) | inr nn ↦ l.2 k y (omega arith) ne t ])
  leader_more n d (Some x) e None l =
      (omega arith, e, λ k y h ne t. absurd (none≢some y (sym (l k (omega arith)) ∙ t)))
  leader_more n d (Some x) e (Some b) l =
      elim (cases_Bool (ahead x b.1)) [
        | inl first ↦ rw first (
          omega arith,
          e,
          λ k y h ne t. elim (cases_eq k b.0) [
            | inl s ↦ let same : b.1 ≡ y = some_same (sym l.1 ∙ rw s at t) in rw (← same) first
            | inr nb ↦ law.chain x b.1 y first (l.2 k y (omega arith) nb t)
          ],
        )
        | inr behind ↦ rw behind (
          omega (arith, l.0),
          l.1,
          λ k y h ne t. elim (cases_eq k n) [
            | inl s ↦
                let same : x ≡ y = some_same (sym e ∙ rw s at t) in
                let differ : mark x ≡ mark b.1 → ⊥ = λ m. omega (arith, d n b.0 x b.1 (omega arith) (omega (arith, l.0)) e l.1 m, l.0) in
                rw (← same) (not-false (ahead b.1 x) (sym (law.one x b.1 differ) ∙ behind))
            | inr nn ↦ l.2 k y (omega arith) ne t
          ],
        )
      ]

  leader : (n : ℕ) → Distinct mark n thing → Leader ahead n thing (best_of ahead n thing)
  leader zero d = λ k h. absurd (omega arith)
  leader (suc n) d = leader_more n d (thing n) refl (best_of ahead n thing) (leader n (λ j k x y a b. d j k x y (omega arith) (omega arith)))

  pub best_found : (n : ℕ) (place : Option ℕ) → place ≡ place_of (best_of ahead n thing) → Distinct mark n thing → Found ahead n thing place
  best_found n place e d = rw e (found ahead n thing (best_of ahead n thing) (leader n d))
