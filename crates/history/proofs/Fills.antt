-- Lines that fit their orders, one after the other, and what they do to the orders.
use Rattle.std.proofs.Common.{◌≡◌, ℕ, suc, ◌+◌, ◌≤◌, List, [], ◌∷◌, length, fold, refl, ◌∙◌, arith}
use Rattle.std.specs.List.{AllByRecursion}
use Rattle.std.proofs.ByRecursion.{All-weaker}
use Rattle.std.proofs.lemmas.List.Sums.{sum_by-cons}
use Rattle.orders.specs.declared.order.Event.TheVariants.{Fill}
use Rattle.orders.specs.declared.order.Order.{Order}
use Rattle.orders.specs.declared.order.Line.{Line}
use Rattle.orders.specs.Orders.{last_member, at, standing}
use Rattle.orders.specs.Settlement.{place_of, fill}
use Rattle.history.specs.Fairness.{of_order, Kept, Taken}
use Rattle.history.proofs.Orders.{Good, Like, like_itself, like_chain, kept_like, changed_field, changed_long, changed_good, like_changed, changed_like, changed_standing, filled_standing}

-- a line that keeps to its order, which has its quantity standing
pub record Fit (os : List Order) (l : Line) : Type 0 where
  pub kept : Kept os l
  pub enough : l.quantity ≤ standing (at os (place_of l))

-- each line fits the orders that the lines before it leave
abbrev pub Fits : List Order → List Line → Type 0
Fits os [] = Unit {0}
Fits os (l ∷ ls) = Fit os l × Fits (fill os l) ls

pub fill_taken : (os : List Order) (l : Line) → Fit os l → (k : ℕ) → standing (at (fill os l) k) + of_order (suc k) l ≡ standing (at os k)
fill_taken os l f =
    let k = f.kept in
    changed_standing (place_of l) (Fill l.quantity) l.quantity l.order os (omega (arith, k.given))
    (omega (arith, k.given, k.within)) f.enough (filled_standing l.quantity (at os (place_of l)))

-- what lines that fit do to the orders
pub record Settles (os : List Order) (ls : List Line) (ps : List Order) : Type 0 where
  pub good : Good ps
  pub long : length ps ≡ length os
  pub like : Like os ps
  pub taken : Taken os ls ps
  pub placed : (k : ℕ) → (at ps k).placed ≡ (at os k).placed
  pub kept : AllByRecursion (Kept os) ls
  pub members : AllByRecursion (λ (l : Line). l.member ≤ last_member) ls

pub settles : (os : List Order) (ls : List Line) → Good os → Fits os ls → Settles os ls (fold fill os ls)
settles os [] g f = record {
  good = g;
  long = refl;
  like = like_itself os;
  taken = λ k. omega arith;
  placed = λ k. refl;
  kept = tt;
  members = tt;
}
settles os (l ∷ ls) g f =
    let j = place_of l in
    let e = Fill l.quantity in
    let k = f.0.kept in
    let ps = fold fill (fill os l) ls in
    let later = settles (fill os l) ls (changed_good j e os g) f.1 in
    record {
      good = later.good;
      long = later.long ∙ changed_long j e os;
      like = like_chain os (fill os l) ps (like_changed j e os) later.like;
      taken = λ k. omega (arith, later.taken k, fill_taken os l f.0 k, sum_by-cons (of_order (suc k)) l ls);
      placed = λ k. later.placed k ∙ changed_field j e (λ o. o.placed) (λ _. refl) os k;
      kept = (k, All-weaker (Kept (fill os l)) (Kept os) (λ x. kept_like (fill os l) os x (changed_like j e os)) ls later.kept);
      members = (omega (arith, (g j (omega (arith, k.given, k.within))).member, k.member), later.members);
    }
