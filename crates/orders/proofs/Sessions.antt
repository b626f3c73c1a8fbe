-- Sessions whose parts are equal, and what one line does.
use Rattle.std.proofs.Common.{◌≡◌, ℕ, suc, ◌-◌, ◌*◌, ◌≤◌, List, [], ◌∷◌, ◌++◌, length, fold, sym, ap, ◌∙◌, le_refl, mul_assoc, arith}
use Rattle.std.proofs.lemmas.Nat.{mul-le}
use Rattle.ticks.specs.Ticks.{highest_tick}
use Rattle.orders.specs.declared.order.Event.TheVariants.{Fill}
use Rattle.orders.specs.declared.order.Order.{Order}
use Rattle.orders.specs.declared.order.Line.{Line}
use Rattle.orders.specs.declared.order.Account.{Account}
use Rattle.orders.specs.Orders.{at}
use Rattle.orders.specs.Settlement.{Session, line_of, worth, changed, with_orders, with_charge, with_line, fill, charge, posted, with_ranked_lines, SettledOneByOne}
use Rattle.std.proofs.lemmas.List.{append-nil, append_assoc}
use Rattle.orders.specs.Kept.{longest_period, dearest}
use Rattle.orders.specs.Changes.{traded}

abbrev pub held : List Order → List Account → List Line → ℕ → Session
held os acs ls p = record { orders = os; accounts = acs; lines = ls; period = p }

-- a trade by its three changes, where orders are numbered by their places
pub traded_is : (k q p : ℕ) (s : Session) (l : Line) → l ≡ line_of (at s.orders k) q p (length s.lines) → (at s.orders k).number ≡ suc k →
    with_line l (with_charge l (with_orders (changed k (Fill q) s.orders) s)) ≡ traded k q p s
traded_is k q p s l e number =
    let place : k ≡ (at s.orders k).number - 1 = omega arith in
    ap (λ z. with_line z (with_charge z (with_orders (changed k (Fill q) s.orders) s))) e
    ∙ ap (λ j. with_line (line_of (at s.orders k) q p (length s.lines))
    (with_charge (line_of (at s.orders k) q p (length s.lines)) (with_orders (changed j (Fill q) s.orders) s))) place

-- no line is worth more than its quantity at the dearest
pub worth_most : (d : ℕ) (l : Line) → l.price ≤ highest_tick → d ≤ longest_period → worth d l ≤ dearest * l.quantity
worth_most d l p t =
    let a = mul-le l.quantity (l.price * d) l.quantity dearest (le_refl l.quantity) (mul-le l.price d highest_tick longest_period p t) in
    omega (arith, a, mul_assoc l.quantity l.price d)

pub posted_all : (ls : List Line) (os : List Order) (acs : List Account) (before : List Line) (p : ℕ) →
    fold (λ t l. posted l t) (held os acs before p) ls ≡ held (fold fill os ls) (fold (charge p) acs ls) (before ++ ls) p
posted_all [] os acs before p = ap (λ z. held os acs z p) (sym (append-nil before))
posted_all (l ∷ ls) os acs before p =
    posted_all ls (fill os l) (charge p acs l) (before ++ (l ∷ [])) p
    ∙ ap (λ z. held (fold fill (fill os l) ls) (fold (charge p) (charge p acs l) ls) z p) (append_assoc before (l ∷ []) ls)

pub settled_one_by_one : SettledOneByOne
settled_one_by_one ls s = ap with_ranked_lines (posted_all ls s.orders s.accounts [] s.period)
