-- What always holds of the tables.
use Rattle.std.specs.Prelude.{◌≡◌, ℕ, ◌-◌, ◌*◌, ◌<◌, ◌≤◌, Bool, true, ◌&&◌, List, length, take, sum_by, nat_le, nat_lt, slice_index_or}
use Rattle.ticks.specs.Ticks.{highest_tick}
use Rattle.orders.specs.declared.order.Side.TheVariants.{Buy}
use Rattle.orders.specs.declared.order.Order.{Order}
use Rattle.orders.specs.declared.order.Line.{Line}
use Rattle.orders.specs.declared.order.Account.{Account}
use Rattle.orders.specs.Orders.{most_orders, at, sound_order}
use Rattle.orders.specs.Settlement.{member_places, account}

-- a call makes at most 1,022 lines
abbrev pub most_lines : ℕ
most_lines = 1022

-- a period is 1 to 2,976 quarter-hours, a month of 31 days
abbrev pub longest_period : ℕ
longest_period = 2976

-- is it such a period?
abbrev pub lawful_period : ℕ → Bool
lawful_period n = nat_le 1 n && nat_le n longest_period

-- the most that a unit can cost: the highest tick over the longest period
abbrev pub dearest : ℕ
dearest = highest_tick * longest_period

-- the first n orders are in order
abbrev pub Sound : List Order → ℕ → Type 0
Sound os n = (k : ℕ) → k < n → sound_order k (at os k) ≡ true

-- what stands past the end of a list of lines
abbrev pub no_line : Line
no_line = record { side = Buy; order = 0; member = 0; quantity = 0; price = 0; making = 0 }

-- a line is of a member, and has a quantity above 0
abbrev pub sound_line : Line → Bool
sound_line l = nat_lt l.member member_places && nat_lt 0 l.quantity

-- the first n lines are in order
abbrev pub SoundLines : List Line → ℕ → Type 0
SoundLines ls n = (k : ℕ) → k < n → sound_line (slice_index_or ls k no_line) ≡ true

-- what has gone of an order: filled, withdrawn or killed
abbrev pub gone : Order → ℕ
gone o = o.placed - o.left

-- no account has more than all that has gone of the orders can cost
abbrev pub Within : (Account → ℕ) → List Account → ℕ → Type 0
Within f acs g = (m : ℕ) → m < length acs → f (account acs m) ≤ dearest * g

-- the order table, with n orders
abbrev pub OrdersKept : List Order → ℕ → Type 0
OrdersKept os n = (length os ≡ most_orders) × (n ≤ most_orders) × Sound os n

-- the line table, with n lines
abbrev pub LinesKept : List Line → ℕ → Type 0
LinesKept ls n = (length ls ≡ most_lines) × (n ≤ most_lines) × SoundLines ls n

-- the accounts, beside n orders: so no sum of them passes 64 bits
abbrev pub AccountsKept : List Order → ℕ → List Account → Type 0
AccountsKept os n acs =
    (length acs ≡ member_places)
    × Within (λ a. a.pays) acs (sum_by gone (take n os))
    × Within (λ a. a.gets) acs (sum_by gone (take n os))
