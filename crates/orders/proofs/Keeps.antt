-- What the tables keep as one element of them changes.
use Rattle.std.proofs.Common.{◌≡◌, ℕ, suc, ◌+◌, ◌*◌, ◌<◌, ◌≤◌, true, cond, List, length, take, set, sum_by, ap, ◌∙◌, arith}
use Rattle.std.proofs.Math.Seq.{take-set-lt}
use Rattle.std.proofs.ByRecursion.{All-from_get_or, sum_by_le}
use Rattle.std.proofs.lemmas.List.{length-take-le, get_or-take}
use Rattle.std.proofs.lemmas.List.Sums.{sum_by-set}
use Rattle.ticks.specs.Ticks.{highest_tick}
use Rattle.orders.specs.declared.order.Life.{Life}
use Rattle.orders.specs.declared.order.Event.{Event}
use Rattle.orders.specs.declared.order.Event.TheVariants.{Fill}
use Rattle.orders.specs.declared.order.Order.{Order}
use Rattle.orders.specs.declared.order.Account.{Account}
use Rattle.orders.specs.Orders.{most_orders, most_quantity, last_member, is_standing, left_after, after, filled_by, standing, at, no_order, sound_order}
use Rattle.orders.specs.Settlement.{changed}
use Rattle.orders.specs.Kept.{Sound, gone, Within, OrdersKept}

-- ---- orders

-- the parts of an order that is in order
pub record SoundOrder (k : ℕ) (o : Order) : Type 0 where
  pub number : o.number ≡ suc k
  pub member : o.member ≤ last_member
  pub limit : o.limit ≤ highest_tick
  pub placed : o.placed ≤ most_quantity
  pub left : o.left ≤ o.placed

pub sound_parts : (k : ℕ) (o : Order) → sound_order k o ≡ true → SoundOrder k o
sound_parts k o h = grind arith

pub sound_take : (os : List Order) (n : ℕ) → Sound os n → Sound (take n os) n
sound_take os n h k l = ap (sound_order k) (get_or-take n os k no_order l) ∙ h k l

-- ---- what has gone

left_event : (l : Life) (e : Event) (n : ℕ) → left_after l e n ≤ n
left_event l e n = grind arith

pub gone_event : (e : Event) (o : Order) → gone o ≤ gone (after e o)
gone_event e o = omega (arith, left_event o.life e o.left)

left_filled : (l : Life) (q n : ℕ) → q ≤ cond (is_standing l) n 0 → left_after l (Fill q) n + q ≡ n
left_filled l q n h = grind arith

-- of an order that is filled by q, q more has gone
gone_filled : (k q : ℕ) (o : Order) → sound_order k o ≡ true → q ≤ standing o → gone (filled_by q o) ≡ gone o + q
gone_filled k q o h le = omega (arith, left_filled o.life q o.left le, (sound_parts k o h).left)

-- where an order is filled by q, q more has gone of all orders
pub gone_fill : (os : List Order) (k q : ℕ) → k < length os → sound_order k (at os k) ≡ true → q ≤ standing (at os k) →
    sum_by gone (changed k (Fill q) os) ≡ sum_by gone os + q
gone_fill os k q lt h le = omega (arith, sum_by-set gone os k (filled_by q (at os k)) no_order lt, gone_filled k q (at os k) h le)

gone_set : (os : List Order) (n i : ℕ) (o : Order) → OrdersKept os n → i < n →
    sum_by gone (take n (set os i o)) + gone (at os i) ≡ sum_by gone (take n os) + gone o
gone_set os n i o k lt =
    let long : length (take n os) ≡ n = length-take-le n os (omega (arith, k.0, k.1)) in
    omega (
      arith,
      ap (sum_by gone) (take-set-lt n os i o lt),
      sum_by-set gone (take n os) i o no_order (omega arith),
      ap gone (get_or-take n os i no_order lt),
    )

pub gone_small : (os : List Order) (n : ℕ) → OrdersKept os n → sum_by gone (take n os) ≤ most_orders * most_quantity
gone_small os n k =
    let long : length (take n os) ≡ n = length-take-le n os (omega (arith, k.0, k.1)) in
    let each = All-from_get_or (λ o. gone o ≤ most_quantity) (take n os) no_order
    (λ i l. let j : i < n = omega arith in omega (arith, (sound_parts i (at (take n os) i) (sound_take os n k.2 i j)).placed)) in
    omega (arith, sum_by_le gone most_quantity (take n os) each, long, k.1)

-- ---- accounts

-- an account's bound grows with what has gone, and nothing comes back as an order changes
pub within_put : (f : Account → ℕ) (os : List Order) (n i : ℕ) (o : Order) (acs : List Account) → OrdersKept os n → i < n →
    gone (at os i) ≤ gone o → Within f acs (sum_by gone (take n os)) → Within f acs (sum_by gone (take n (set os i o)))
within_put f os n i o acs k lt le w m l = omega (arith, gone_set os n i o k lt, w m l)
