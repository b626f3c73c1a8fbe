-- The better limit first, then any tie-break that is a ranking: that keeps the law on both sides.
use Rattle.std.specs.Prelude.{◌≡◌, ℕ, Bool, true, false, not, ◌&&◌, ◌⊎◌, ◌==◌, ◌≢◌}
use Rattle.std.proofs.Common.{◌∙◌, inl, inr, arith}
use Rattle.std.proofs.lemmas.Bool.{eqb-true, eq-eqb, or_cases, or_left, or_right, and_parts, and_from}
use Rattle.ranking.specs.declared.OrderFields.{OrderFields}
use Rattle.ranking.specs.Laws.{RankLaw, better}
use Rattle.ranking.specs.Orders.{OrderRank, OrderRankLaw, by_limit}

better_chain : (buys : Bool) (a b c : ℕ) → better buys a b ≡ true → better buys b c ≡ true → better buys a c ≡ true
better_chain true a b c f g = grind arith
better_chain false a b c f g = grind arith

module _ (tie : OrderRank) (law : RankLaw (λ (o : OrderFields). o.number) tie) where
  limits_one : (buys : Bool) (x y : OrderFields) → (x.number ≢ y.number) → by_limit buys tie x y ≡ not (by_limit buys tie y x)
  limits_one true x y ne = let t = law.one x y ne in grind arith
  limits_one false x y ne = let t = law.one x y ne in grind arith

  says : (buys : Bool) (x y : OrderFields) → by_limit buys tie x y ≡ true →
      (better buys x.limit y.limit ≡ true) ⊎ ((x.limit ≡ y.limit) × (tie x y ≡ true))
  says buys x y e =
      elim (or_cases (better buys x.limit y.limit) (x.limit == y.limit && tie x y) e) [
        | inl first ↦ inl first
        | inr second ↦ let (same, ties) = and_parts (x.limit == y.limit) (tie x y) second in inr (eqb-true x.limit y.limit same, ties)
      ]

  limits_chain : (buys : Bool) (x y z : OrderFields) → by_limit buys tie x y ≡ true → by_limit buys tie y z ≡ true → by_limit buys tie x z ≡ true
  limits_chain buys x y z a b =
      elim (says buys x y a) [
        | inl f ↦ or_left (better buys x.limit z.limit) _
            (elim (says buys y z b) [ inl g ↦ better_chain buys x.limit y.limit z.limit f g | inr (same, _) ↦ rw (← same) f ])
        | inr (same, ties) ↦ elim (says buys y z b) [
          | inl g ↦ or_left (better buys x.limit z.limit) _ (rw same g)
          | inr (same2, ties2) ↦ or_right (better buys x.limit z.limit) _ (and_from (x.limit == z.limit) (tie x z) (eq-eqb x.limit z.limit (same ∙ same2)) (law.chain x y z ties ties2))
        ]
      ]

  pub by_limit_law : (buys : Bool) → OrderRankLaw buys (by_limit buys tie)
  by_limit_law buys =
      record {
        ranks = record { one = limits_one buys; chain = limits_chain buys };
        limits = λ x y b. or_left (better buys x.limit y.limit) _ b;
      }
