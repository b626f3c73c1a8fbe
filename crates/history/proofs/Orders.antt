-- Orders as calls change them: by an event of one of them.
use Rattle.std.proofs.Common.{◌≡◌, ℕ, zero, suc, ◌+◌, ◌-◌, ◌<◌, ◌≤◌, true, cond, eqb, ltb, List, [], ◌∷◌, ◌++◌, length, sym, refl, ap, ◌∙◌, subst, inl, inr, arith}
use Rattle.std.proofs.lemmas.List.{get_or-set_same, get_or-set_other, get_or_append_left, get_or_push, get_or_past, length-set, length_push}
use Rattle.std.proofs.lemmas.Bool.{cases_eq, cases_lt, cond_both, cond-true, cond-false, eq-eqb, ne_eqb, ltb-false}
use Rattle.curves.specs.Orders.{keeps}
use Rattle.ticks.specs.Ticks.{highest_tick}
use Rattle.orders.specs.declared.order.Life.{Life}
use Rattle.orders.specs.declared.order.Life.TheVariants.{Standing, Filled, Withdrawn, Killed}
use Rattle.orders.specs.declared.order.Event.{Event}
use Rattle.orders.specs.declared.order.Event.TheVariants.{Fill, Withdraw, Kill}
use Rattle.orders.specs.declared.order.Order.{Order}
use Rattle.orders.specs.declared.order.Line.{Line}
use Rattle.orders.specs.Orders.{last_member, buys, is_standing, left_after, life_after, after, at, no_order, standing}
use Rattle.orders.specs.Settlement.{place_of, changed}
use Rattle.orders.specs.Kept.{Sound}
use Rattle.orders.proofs.Keeps.{sound_parts}
use Rattle.history.specs.Fairness.{Kept}

-- what no event changes: an order at place k is numbered by it, is of a member and has a tick for its limit
pub record GoodOrder (k : ℕ) (o : Order) : Type 0 where
  pub number : o.number ≡ suc k
  pub member : o.member ≤ last_member
  pub limit : o.limit ≤ highest_tick

abbrev pub Good : List Order → Type 0
Good os = (k : ℕ) → k < length os → GoodOrder k (at os k)

pub good_sound : (os : List Order) → Sound os (length os) → Good os
good_sound os h k l = let p = sound_parts k (at os k) (h k l) in record { number = p.number; member = p.member; limit = p.limit }

-- ---- orders with the same member, side and limit

pub record Same (o p : Order) : Type 0 where
  pub member : o.member ≡ p.member
  pub side : o.side ≡ p.side
  pub limit : o.limit ≡ p.limit

-- the first orders are among the second, as far as member, side and limit go
pub record Like (os ps : List Order) : Type 0 where
  pub longer : length os ≤ length ps
  pub same : (k : ℕ) → k < length os → Same (at os k) (at ps k)

pub like_itself : (os : List Order) → Like os os
like_itself os = record { longer = omega arith; same = λ k _. record { member = refl; side = refl; limit = refl } }

pub like_chain : (os ps qs : List Order) → Like os ps → Like ps qs → Like os qs
like_chain os ps qs g h = record {
  longer = omega (arith, g.longer, h.longer);
  same = λ k l.
      let a = g.same k l in
      let b = h.same k (omega (arith, g.longer)) in
      record { member = a.member ∙ b.member; side = a.side ∙ b.side; limit = a.limit ∙ b.limit };
}

-- a line that keeps to its order keeps to one like it
pub kept_like : (os ps : List Order) (l : Line) → Like os ps → Kept os l → Kept ps l
kept_like os ps l g k =
    let s = g.same (place_of l) (omega (arith, k.given, k.within)) in
    record {
      given = k.given;
      within = omega (arith, k.within, g.longer);
      side = k.side ∙ s.side;
      member = k.member ∙ s.member;
      some = k.some;
      limit = subst (λ x. keeps (buys l.side) x l.price ≡ true) s.limit k.limit;
    }

-- ---- one event

module _ (j : ℕ) (e : Event) where
  -- a field that events leave is left at every place
  pub changed_field : {A : Type 0} (f : Order → A) → ((o : Order) → f (after e o) ≡ f o) → (os : List Order) (k : ℕ) →
      f (at (changed j e os) k) ≡ f (at os k)
  changed_field f same os k = go os j k
    where
      go : (os : List Order) (j k : ℕ) → f (at (changed j e os) k) ≡ f (at os k)
      go [] j k = refl
      go (o ∷ os) zero zero = same o
      go (o ∷ os) zero (suc k) = refl
      go (o ∷ os) (suc j) zero = refl
      go (o ∷ os) (suc j) (suc k) = go os j k

  pub changed_long : (os : List Order) → length (changed j e os) ≡ length os
  changed_long os = length-set os j (after e (at os j))

  pub changed_good : (os : List Order) → Good os → Good (changed j e os)
  changed_good os g k l =
      let h = g k (omega (arith, changed_long os)) in
      record {
        number = changed_field (λ o. o.number) (λ _. refl) os k ∙ h.number;
        member = omega (arith, changed_field (λ o. o.member) (λ _. refl) os k, h.member);
        limit = omega (arith, changed_field (λ o. o.limit) (λ _. refl) os k, h.limit);
      }

  changed_same : (os : List Order) (k : ℕ) → Same (at (changed j e os) k) (at os k)
  changed_same os k = record {
    member = changed_field (λ o. o.member) (λ _. refl) os k;
    side = changed_field (λ o. o.side) (λ _. refl) os k;
    limit = changed_field (λ o. o.limit) (λ _. refl) os k;
  }

  pub like_changed : (os : List Order) → Like os (changed j e os)
  like_changed os = record {
    longer = omega (arith, changed_long os);
    same = λ k _. let s = changed_same os k in record { member = sym s.member; side = sym s.side; limit = sym s.limit };
  }

  pub changed_like : (os : List Order) → Like (changed j e os) os
  changed_like os = record { longer = omega (arith, changed_long os); same = λ k _. changed_same os k }

  -- what holds of the order after the event, and of all others as they were, holds at every place
  pub changed_at : (os : List Order) (k : ℕ) (P : Order → Type 0) → j < length os → (k ≡ j → P (after e (at os j))) → ((k ≡ j → ⊥) → P (at os k)) →
      P (at (changed j e os) k)
  changed_at os k P l here other =
      elim (cases_eq k j) [
        | inl d ↦ subst P (sym (ap (λ i. at (changed j e os) i) d ∙ get_or-set_same os j (after e (at os j)) no_order l)) (here d)
        | inr n ↦ subst P (sym (get_or-set_other os j k (after e (at os j)) no_order n)) (other n)
      ]

  -- where the event takes q of what stands, that is what the order numbered n loses, and no other loses anything
  pub changed_standing : (q n : ℕ) (os : List Order) → n ≡ suc j → j < length os → q ≤ standing (at os j) →
      standing (after e (at os j)) ≡ standing (at os j) - q → (k : ℕ) →
      standing (at (changed j e os) k) + cond (eqb n (suc k)) q 0 ≡ standing (at os k)
  changed_standing q n os num l le takes k =
      changed_at os k (λ o. standing o + cond (eqb n (suc k)) q 0 ≡ standing (at os k)) l
      (λ d. omega (arith, cond-true (eqb n (suc k)) q 0 (eq-eqb n (suc k) (omega arith)), takes, ap (λ i. standing (at os i)) d))
      (λ d. omega (arith, cond-false (eqb n (suc k)) q 0 (ne_eqb n (suc k) (λ x. d (omega arith)))))

standing_filled : (l : Life) (q n : ℕ) → cond (is_standing (life_after l (Fill q) n)) (left_after l (Fill q) n) 0 ≡ cond (is_standing l) n 0 - q
standing_filled Standing q n =
    cond_both (ltb q n) Standing Filled (λ x. cond (is_standing x) (n - q) 0 ≡ n - q) (λ _. refl) (λ f. omega (arith, ltb-false q n f))
standing_filled Filled q n = omega arith
standing_filled Withdrawn q n = omega arith
standing_filled Killed q n = omega arith

-- a fill takes its quantity off what stands
pub filled_standing : (q : ℕ) (o : Order) → standing (after (Fill q) o) ≡ standing o - q
filled_standing q o = standing_filled o.life q o.left

-- an event that ends an order leaves nothing of it standing
abbrev pub Ends : Event → Type 0
Ends e = (o : Order) → standing (after e o) ≡ 0

standing_killed : (l : Life) (n : ℕ) → cond (is_standing (life_after l Kill n)) (left_after l Kill n) 0 ≡ 0
standing_killed Standing n = refl
standing_killed Filled n = refl
standing_killed Withdrawn n = refl
standing_killed Killed n = refl

pub kill_ends : Ends Kill
kill_ends o = standing_killed o.life o.left

standing_withdrawn : (l : Life) (n : ℕ) → cond (is_standing (life_after l Withdraw n)) (left_after l Withdraw n) 0 ≡ 0
standing_withdrawn Standing n = refl
standing_withdrawn Filled n = refl
standing_withdrawn Withdrawn n = refl
standing_withdrawn Killed n = refl

pub withdraw_ends : Ends Withdraw
withdraw_ends o = standing_withdrawn o.life o.left

-- all that stands of the order numbered n is lost, and no other loses anything
pub ended_standing : (e : Event) → Ends e → (j n : ℕ) (os : List Order) → n ≡ suc j → j < length os → (k : ℕ) →
    standing (at (changed j e os) k) + cond (eqb n (suc k)) (standing (at os j)) 0 ≡ standing (at os k)
ended_standing e ends j n os num l =
    changed_standing j e (standing (at os j)) n os num l (omega arith) (omega (arith, ends (at os j)))

-- ---- one more order

module _ (os : List Order) (o : Order) where
  pub push_long : length (os ++ (o ∷ [])) ≡ suc (length os)
  push_long = omega (arith, length_push os o)

  pub push_at : (k : ℕ) (P : Order → Type 0) → (k < length os → P (at os k)) → (k ≡ length os → P o) → (length os < k → P no_order) →
      P (at (os ++ (o ∷ [])) k)
  push_at k P before here past =
      elim (cases_lt k (length os)) [
        | inl l ↦ subst P (sym (get_or_append_left os (o ∷ []) no_order k l)) (before l)
        | inr l ↦ elim (cases_eq k (length os)) [
          | inl d ↦ subst P (sym (get_or_push os o no_order k (sym d))) (here d)
          | inr n ↦ subst P (sym (get_or_past (os ++ (o ∷ [])) k no_order (omega (arith, push_long)))) (past (omega arith))
        ]
      ]

  pub push_good : Good os → GoodOrder (length os) o → Good (os ++ (o ∷ []))
  push_good g new k l =
      push_at k (GoodOrder k) (λ h. g k h) (λ d. subst (λ i. GoodOrder i o) (sym d) new) (λ h. absurd (omega (arith, push_long)))

  pub push_like : Like os (os ++ (o ∷ []))
  push_like = record {
    longer = omega (arith, push_long);
    same = λ k l.
        push_at k (Same (at os k)) (λ _. record { member = refl; side = refl; limit = refl }) (λ d. absurd (omega arith)) (λ h. absurd (omega arith));
  }

  -- a figure of an order that is 0 where there is none
  pub push_figure : (f : Order → ℕ) → f no_order ≡ 0 → (k : ℕ) →
      f (at (os ++ (o ∷ [])) k) ≡ f (at os k) + cond (eqb (suc (length os)) (suc k)) (f o) 0
  push_figure f none k =
      let other : (length os ≡ k → ⊥) → cond (eqb (suc (length os)) (suc k)) (f o) 0 ≡ 0 =
      λ n. cond-false (eqb (suc (length os)) (suc k)) (f o) 0 (ne_eqb (suc (length os)) (suc k) (λ x. n (omega arith))) in
      let past : length os ≤ k → f (at os k) ≡ 0 = λ l. ap f (get_or_past os k no_order l) ∙ none in
      push_at k (λ p. f p ≡ f (at os k) + cond (eqb (suc (length os)) (suc k)) (f o) 0)
      (λ l. omega (arith, other (λ x. omega arith)))
      (λ d. omega (arith, cond-true (eqb (suc (length os)) (suc k)) (f o) 0 (eq-eqb (suc (length os)) (suc k) (omega arith)), past (omega arith)))
      (λ l. omega (arith, other (λ x. omega arith), past (omega arith)))
