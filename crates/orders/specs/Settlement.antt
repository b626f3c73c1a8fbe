-- The abstract session, and the one way that quantity and money move in it: by lines.
use Rattle.std.specs.Prelude.{◌≡◌, ℕ, ◌+◌, ◌-◌, ◌*◌, false, cond, List, [], ◌∷◌, ◌++◌, replicate, fold, slice_index_or, slice_set}
use Rattle.std.specs.List.{AllByRecursion}
use Rattle.ranking.specs.declared.lines.LineKey.{LineKey}
use Rattle.ranking.specs.Lines.{line_ahead}
use Rattle.orders.specs.declared.order.Event.{Event}
use Rattle.orders.specs.declared.order.Order.{Order}
use Rattle.orders.specs.declared.order.Line.{Line}
use Rattle.orders.specs.declared.order.Account.{Account}
use Rattle.orders.specs.Orders.{buys, after, filled_by, at}

-- accounts stand by member, from 0 to 63
abbrev pub member_places : ℕ
member_places = 64

-- every order ever numbered, the accounts by member, the lines of the latest call, and the period in quarter-hours
pub record Session : Type 0 where
  pub orders : List Order
  pub accounts : List Account
  pub lines : List Line
  pub period : ℕ

-- an account that no line has come to
abbrev pub no_account : Account
no_account = record { pays = 0; gets = 0 }

-- a session as it opens
abbrev pub opening : ℕ → Session
opening period = record { orders = []; accounts = replicate member_places no_account; lines = []; period = period }

-- the line of a trade of an order: a quantity at a price, and its place in the making of the call
abbrev pub line_of : Order → ℕ → ℕ → ℕ → Line
line_of o q p i = record { side = o.side; order = o.number; member = o.member; quantity = q; price = p; making = i }

-- the place of a line's order
abbrev pub place_of : Line → ℕ
place_of l = l.order - 1

-- the orders after an event of the one at place k
abbrev pub changed : ℕ → Event → List Order → List Order
changed k e os = slice_set os k (after e (at os k))

-- a line takes its quantity off its order
abbrev pub fill : List Order → Line → List Order
fill os l = slice_set os (place_of l) (filled_by l.quantity (at os (place_of l)))

-- what a line is worth over a period
abbrev pub worth : ℕ → Line → ℕ
worth period l = l.quantity * l.price * period

-- what a line has its member pay
abbrev pub bill : ℕ → Line → ℕ
bill period l = cond (buys l.side) (worth period l) 0

-- what a line has its member get
abbrev pub credit : ℕ → Line → ℕ
credit period l = cond (buys l.side) 0 (worth period l)

-- the account of a member
abbrev pub account : List Account → ℕ → Account
account acs m = slice_index_or acs m no_account

-- an account that a line is billed or credited to
abbrev pub charged : ℕ → Line → Account → Account
charged period l a = record { pays = a.pays + bill period l; gets = a.gets + credit period l }

-- a line bills or credits its member
abbrev pub charge : ℕ → List Account → Line → List Account
charge period acs l = slice_set acs l.member (charged period l (account acs l.member))

-- what lines are ranked by: member, then order number, then making
abbrev pub key_of : Line → LineKey
key_of l = record { member = l.member; order = l.order; making = l.making }

-- a line among ranked lines
abbrev pub put : Line → List Line → List Line
put l [] = l ∷ []
put l (x ∷ xs) = cond (line_ahead (key_of x) (key_of l)) (x ∷ put l xs) (l ∷ x ∷ xs)

-- a call's lines, as they stand
abbrev pub ranked : List Line → List Line
ranked [] = []
ranked (l ∷ ls) = put l (ranked ls)

-- the settlement: the lines of a call, in their making, fill their orders and charge their members, and stand ranked
abbrev pub settled : List Line → Session → Session
settled ls s = record {
  orders = fold fill s.orders ls;
  accounts = fold (charge s.period) s.accounts ls;
  lines = ranked ls;
  period = s.period;
}

-- the session with other orders
abbrev pub with_orders : List Order → Session → Session
with_orders os s = record { orders = os; accounts = s.accounts; lines = s.lines; period = s.period }

-- the session with no lines, as a call begins
abbrev pub cleared : Session → Session
cleared s = record { orders = s.orders; accounts = s.accounts; lines = []; period = s.period }

-- the session with a line billed or credited to its member
abbrev pub with_charge : Line → Session → Session
with_charge l s = record
    { orders = s.orders; accounts = charge s.period s.accounts l; lines = s.lines; period = s.period }

-- the session with one more line
abbrev pub with_line : Line → Session → Session
with_line l s = record { orders = s.orders; accounts = s.accounts; lines = s.lines ++ (l ∷ []); period = s.period }

-- the session after one line: it fills its order, charges its member and stands last
abbrev pub posted : Line → Session → Session
posted l s = with_line l (with_charge l (with_orders (fill s.orders l) s))

-- the session with its lines ranked
abbrev pub with_ranked_lines : Session → Session
with_ranked_lines s = record { orders = s.orders; accounts = s.accounts; lines = ranked s.lines; period = s.period }

-- no line is ahead of one that stands before it
abbrev pub InRank : List Line → Type 0
InRank [] = Unit {0}
InRank (l ∷ ls) = AllByRecursion (λ x. line_ahead (key_of x) (key_of l) ≡ false) ls × InRank ls

-- ---- theorem

-- lines that are posted one by one, and then ranked, are settled
abbrev pub SettledOneByOne : Type 0
SettledOneByOne =
    (ls : List Line) (s : Session) → with_ranked_lines (fold (λ t l. posted l t) (cleared s) ls) ≡ settled ls s
