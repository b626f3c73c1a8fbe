-- The orders of one side: what is open at a tick and what is ahead of it. Their demand falls and their supply rises.
use Rattle.std.proofs.Common.{◌≡◌, ℕ, zero, suc, ◌+◌, ◌<◌, ◌≤◌, Bool, true, false, cond, ◌&&◌, eqb, ltb, leb, List, length, sym, ◌∙◌, inl, inr, arith}
use Rattle.std.proofs.lemmas.Bool.{cases_lt, cond-true, cond-false, le-leb, lt-leb, leb-true, leb-false, ltb-true, ltb-false, lt-ltb, not-true, not_from_false}
use Rattle.curves.specs.Sums.{total}
use Rattle.curves.specs.Curves.{executable}
use Rattle.curves.specs.Crossing.{before, Crossing}
use Rattle.curves.specs.Orders.{Bid, at, on, better, keeps, willing, demand, supply, clearing_volume, OnTicks, OrdersMakeCurves}
use Rattle.curves.specs.Filling.{ahead, grouped}
use Rattle.curves.proofs.Sums.{total_le, total_same, total_add, total_zero}

-- ---- sides and limits

pub buys_of_on : (side : Bool) (b : Bid) → on side b ≡ true → b.buys ≡ side
buys_of_on true b h = h
buys_of_on false b h = not-true b.buys h

pub on_of_buys : (side : Bool) (b : Bid) → b.buys ≡ side → on side b ≡ true
on_of_buys true b h = h
on_of_buys false b h = not_from_false b.buys h

-- a limit that p keeps is better than one that p does not keep
pub kept_is_better : (side : Bool) (l m p : ℕ) → keeps side l p ≡ true → keeps side m p ≡ false → better side l m ≡ true
kept_is_better true l m p y n = lt-ltb m l (omega (arith, leb-true p l y, leb-false p m n))
kept_is_better false l m p y n = lt-ltb l m (omega (arith, leb-true l p y, leb-false m p n))

-- a limit better than p is better than one that is not
pub better_than_rest : (side : Bool) (l m p : ℕ) → better side l p ≡ true → better side m p ≡ false → better side l m ≡ true
better_than_rest true l m p y n = lt-ltb m l (omega (arith, ltb-true p l y, ltb-false p m n))
better_than_rest false l m p y n = lt-ltb l m (omega (arith, ltb-true l p y, ltb-false m p n))

-- ---- what is open at a tick

-- what an order has left, if it is on this side
abbrev pub room : Bool → List Bid → ℕ → ℕ
room side bs k = cond (on side (at bs k)) (at bs k).left 0

-- a side's orders that pass a test
pub in_rooms : (side : Bool) (bs : List Bid) (P : ℕ → Bool) →
    total (length bs) (λ k. cond (on side (at bs k) && P k) (at bs k).left 0) ≡ total (length bs) (λ k. cond (P k) (room side bs k) 0)
in_rooms side bs P = total_same (length bs) _ _ (λ k _. one (on side (at bs k)) (P k) (at bs k).left)
  where
    one : (a b : Bool) (c : ℕ) → cond (a && b) c 0 ≡ cond b (cond a c 0) 0
    one a b c = grind arith

-- what is left of the orders of one group
abbrev pub group_total : Bool → List Bid → ℕ → ℕ
group_total side bs l = total (length bs) (λ k. cond (grouped side l (at bs k)) (at bs k).left 0)

-- what is left of all orders of one side
abbrev pub side_total : Bool → List Bid → ℕ
side_total side bs = total (length bs) (room side bs)

-- a limit that l keeps is better than l, or is l
pub willing_splits : (side : Bool) (bs : List Bid) (l : ℕ) → willing side bs l ≡ ahead side bs l + group_total side bs l
willing_splits side bs l =
    total_same (length bs) _ _ (λ k _. one side (on side (at bs k)) (at bs k).limit (at bs k).left) ∙ total_add (length bs) _ _
  where
    one : (side b : Bool) (m c : ℕ) → cond (b && keeps side m l) c 0 ≡ cond (b && better side m l) c 0 + cond (b && eqb m l) c 0
    one true b m c = grind arith
    one false b m c = grind arith

cut_le : (b : Bool) (c : ℕ) → cond b c 0 ≤ c
cut_le b c = grind arith

pub willing_le_side : (side : Bool) (bs : List Bid) (p : ℕ) → willing side bs p ≤ side_total side bs
willing_le_side side bs p =
    rw (in_rooms side bs (λ k. keeps side (at bs k).limit p))
    (total_le (length bs) _ _ (λ k _. cut_le (keeps side (at bs k).limit p) (room side bs k)))

-- what is at least as good as l is ahead of any worse limit
pub willing_le_ahead : (side : Bool) (bs : List Bid) (l m : ℕ) → better side l m ≡ true → willing side bs l ≤ ahead side bs m
willing_le_ahead side bs l m b = total_le (length bs) _ _ (λ k _. one side (on side (at bs k)) (at bs k).limit (at bs k).left b)
  where
    one : (side a : Bool) (x c : ℕ) → better side l m ≡ true → cond (a && keeps side x l) c 0 ≤ cond (a && better side x m) c 0
    one true a x c h = let g = ltb-true m l h in grind arith
    one false a x c h = let g = ltb-true l m h in grind arith

-- the whole side is open at its worst tick
pub willing_all : (top : ℕ) (bs : List Bid) → OnTicks top bs → (side : Bool) → willing side bs (cond side 0 top) ≡ side_total side bs
willing_all top bs t side = total_same (length bs) _ _ (λ k h. one side (on side (at bs k)) (at bs k).limit (at bs k).left (t k h))
  where
    one : (side a : Bool) (l c : ℕ) → l ≤ top → cond (a && keeps side l (cond side 0 top)) c 0 ≡ cond a c 0
    one true a l c h = grind arith
    one false a l c h = grind arith

-- no limit is better than the best tick of its side
pub ahead_of_best : (top : ℕ) (bs : List Bid) → OnTicks top bs → (side : Bool) → ahead side bs (cond side top 0) ≡ 0
ahead_of_best top bs t side =
    total_same (length bs) _ (λ _. 0) (λ k h. one side (on side (at bs k)) (at bs k).limit (at bs k).left (t k h)) ∙ total_zero (length bs)
  where
    one : (side a : Bool) (l c : ℕ) → l ≤ top → cond (a && better side l (cond side top 0)) c 0 ≡ 0
    one true a l c h = grind arith
    one false a l c h = grind arith

-- what is better than tick p + 1 for a sell is open at p
pub ahead_of_next : (bs : List Bid) (p : ℕ) → ahead false bs (suc p) ≡ willing false bs p
ahead_of_next bs p = total_same (length bs) _ _ (λ k _. one (on false (at bs k)) (at bs k).limit (at bs k).left)
  where
    one : (b : Bool) (l c : ℕ) → cond (b && ltb l (suc p)) c 0 ≡ cond (b && leb l p) c 0
    one b l c = grind arith

-- ---- the curves

-- where p keeps the limit r, it keeps every limit that r keeps
willing_falls : (side : Bool) (bs : List Bid) (p r : ℕ) → keeps side r p ≡ true → willing side bs r ≤ willing side bs p
willing_falls side bs p r h = total_le (length bs) _ _ (λ k _. one side (on side (at bs k)) (at bs k).limit (at bs k).left h)
  where
    one : (side a : Bool) (l c : ℕ) → keeps side r p ≡ true → cond (a && keeps side l r) c 0 ≤ cond (a && keeps side l p) c 0
    one true a l c h = let g = leb-true p r h in grind arith
    one false a l c h = let g = leb-true r p h in grind arith

pub orders_make_curves : OrdersMakeCurves
orders_make_curves top bs =
    record {
      falls = λ p r h. let f : willing true bs r ≤ willing true bs p = willing_falls true bs p r (le-leb p r h) in cut_falls p r (willing true bs p) (willing true bs r) h f;
      rises = λ p r h t. let f : willing false bs p ≤ willing false bs r = willing_falls false bs r p (le-leb p r h) in cut_rises p r (willing false bs p) (willing false bs r) t f;
      demand_ends = λ p h. past p (willing true bs p) h;
      supply_ends = λ p h. past p (willing false bs p) h;
    }
  where
    cut_falls : (p r a b : ℕ) → p ≤ r → b ≤ a → cond (leb r top) b 0 ≤ cond (leb p top) a 0
    cut_falls p r a b h f = grind arith

    cut_rises : (p r a b : ℕ) → r ≤ top → a ≤ b → cond (leb p top) a 0 ≤ cond (leb r top) b 0
    cut_rises p r a b t f = grind arith

    past : (p a : ℕ) → top < p → cond (leb p top) a 0 ≡ 0
    past p a h = grind arith

-- ---- a tick of the crossing range, seen from one side

pub before_supply : (top : ℕ) (bs : List Bid) (p : ℕ) → OnTicks top bs → p ≤ top → ahead false bs p ≡ before (supply top bs) p
before_supply top bs zero t h = ahead_of_best top bs t false
before_supply top bs (suc p) t h = ahead_of_next bs p ∙ sym (cond-true (leb p top) (willing false bs p) 0 (le-leb p top (omega arith)))

pub demand_above : (top : ℕ) (bs : List Bid) (p : ℕ) → OnTicks top bs → p ≤ top → ahead true bs p ≡ demand top bs (suc p)
demand_above top bs p t h =
    elim (cases_lt p top) [
      | inl l ↦ sym (cond-true (leb (suc p) top) (willing true bs (suc p)) 0 (le-leb (suc p) top l))
      | inr g ↦
          let e : p ≡ top = omega arith in
          rw e (ahead_of_best top bs t true ∙ sym (cond-false (leb (suc top) top) (willing true bs (suc top)) 0 (lt-leb (suc top) top (omega arith))))
    ]

-- what is ahead of the tick is at most V
pub crossing_ahead : (top : ℕ) (bs : List Bid) → OnTicks top bs → (p : ℕ) → Crossing top (demand top bs) (supply top bs) p →
    (side : Bool) → ahead side bs p ≤ clearing_volume top bs
crossing_ahead top bs t p c true = omega (arith, demand_above top bs p t c.tick, c.above)
crossing_ahead top bs t p c false = omega (arith, before_supply top bs p t c.tick, c.below)

pub executable_le_willing : (top : ℕ) (bs : List Bid) (p : ℕ) (side : Bool) → executable (demand top bs) (supply top bs) p ≤ willing side bs p
executable_le_willing top bs p true = let l = cut_le (leb p top) (willing true bs p) in omega arith
executable_le_willing top bs p false = let l = cut_le (leb p top) (willing false bs p) in omega arith
