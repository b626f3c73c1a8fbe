-- Pairing trade by trade: how many lines there can be, one trade more, and the end.
use Rattle.std.proofs.Common.{◌≡◌, ℕ, zero, suc, ◌+◌, ◌*◌, ◌<◌, ◌≤◌, Bool, true, false, cond, ltb, List, [], ◌∷◌, ◌++◌, length, take, Some, None, fold, Option, sym, refl, ap, ◌∙◌, subst, arith}
use Rattle.std.proofs.ByRecursion.{All-from_get_or, sum_by_le}
use Rattle.std.proofs.lemmas.List.{append_assoc, append-nil, length_push, length-take-le}
use Rattle.std.proofs.lemmas.List.Sums.{fold_push, sum_by_push, count_by-le-length}
use Rattle.std.proofs.lemmas.Bool.{cond-true}
use Rattle.ranking.specs.Orders.{OrderRankLaw}
use Rattle.orders.specs.declared.order.Order.{Order}
use Rattle.orders.specs.declared.order.Line.{Line}
use Rattle.orders.specs.Orders.{most_orders, most_quantity, at, buys, standing, no_order}
use Rattle.orders.specs.Settlement.{Session, line_of, cleared, posted, settled, with_ranked_lines}
use Rattle.orders.specs.Kept.{Sound, OrdersKept, most_lines}
use Rattle.orders.specs.Changes.{can_trade, traded}
use Rattle.orders.proofs.Keeps.{sound_take}
use Rattle.orders.proofs.Bids.{standing_most}
use Rattle.orders.proofs.Sessions.{settled_one_by_one}
use Rattle.steps.specs.Pairing.{Pairs, best_pair, pair_quantity, pair_price, buy_line, sell_line, after_pair, lines_of_pair, pair_lines_from, pair_lines, Uncrossed}
use Rattle.steps.specs.Ways.{bought}
use Rattle.pairing.proofs.Bests.{Numbered, sound_numbered, uncrossed}
use Rattle.pairing.proofs.Trades.{units, standings, Pair, best_meets, some_quantity, is_buy, is_sell, sell_stays, numbered_after, units_after, standings_after}

-- the orders that a table holds
pub kept_orders : (os : List Order) (n : ℕ) → OrdersKept os n → Sound (take n os) (length (take n os)) × (length (take n os) ≤ most_orders)
kept_orders os n k =
    let long : length (take n os) ≡ n = length-take-le n os (omega (arith, k.0, k.1)) in
    (λ j l. sound_take os n k.2 j (omega arith), omega (arith, k.1))

-- all that stands of a session's orders
pub units_most : (os : List Order) → Sound os (length os) → length os ≤ most_orders → units os ≤ most_orders * most_quantity
units_most os sound few =
    let each = All-from_get_or (λ o. standing o ≤ most_quantity) os no_order (λ k l. standing_most k (at os k) (sound k l)) in
    omega (arith, sum_by_le standing most_quantity os each)

module _ (rules : Pairs) where
  -- the lines of a pair's trade, and of at most n more trades
  abbrev trade_lines : ℕ → ℕ → List Order → ℕ × ℕ → List Line
  trade_lines n i os p = buy_line rules os i p ∷ sell_line rules os i p ∷ pair_lines_from rules n (suc (suc i)) (after_pair rules os i p)

  -- ---- how many lines

  next_count : (n i : ℕ) (os : List Order) (o : Option (ℕ × ℕ)) → ((j : ℕ) (zs : List Order) → Numbered zs → length (pair_lines_from rules n j zs) ≤ 2 * standings zs) →
      best_pair rules os ≡ o → Numbered os → length (lines_of_pair o (trade_lines n i os)) ≤ 2 * standings os
  next_count n i os None ih e nb = omega arith
  next_count n i os (Some p) ih e nb =
      let h = best_meets rules os p e in
      let fewer = standings_after rules os i p nb h in
      let rest = ih (suc (suc i)) (after_pair rules os i p) (numbered_after rules os i p nb h) in
      omega arith

  -- every trade ends an order, and makes two lines
  count : (n i : ℕ) (os : List Order) → Numbered os → length (pair_lines_from rules n i os) ≤ 2 * standings os
  count zero i os nb = omega arith
  count (suc n) i os nb = next_count n i os (best_pair rules os) (count n) refl nb

  standings_few : (os : List Order) → length os ≤ most_orders → 2 * standings os ≤ most_lines
  standings_few os few = omega (arith, count_by-le-length (λ (o : Order). ltb 0 (standing o)) os)

  -- the lines of a session's orders have room
  pub pair_lines_fit : (os : List Order) → Sound os (length os) → length os ≤ most_orders → length (pair_lines rules os) ≤ most_lines
  pair_lines_fit os sound few = omega (arith, count (units os) 0 os (sound_numbered os sound), standings_few os few)

  -- ---- enough trades

  enough_none : (m i : ℕ) (os : List Order) (o : Option (ℕ × ℕ)) → Numbered os → best_pair rules os ≡ o → units os ≤ 0 → [] ≡ lines_of_pair o (trade_lines m i os)
  enough_none m i os None nb e l = refl
  enough_none m i os (Some p) nb e l =
      let h = best_meets rules os p e in
      absurd (omega (arith, units_after rules os i p nb h, some_quantity rules os i p nb h))

  enough_some : (n m i : ℕ) (os : List Order) (o : Option (ℕ × ℕ)) →
      ((j : ℕ) (zs : List Order) → Numbered zs → units zs ≤ n → units zs ≤ m → pair_lines_from rules n j zs ≡ pair_lines_from rules m j zs) →
      Numbered os → best_pair rules os ≡ o → units os ≤ suc n → units os ≤ suc m → lines_of_pair o (trade_lines n i os) ≡ lines_of_pair o (trade_lines m i os)
  enough_some n m i os None ih nb e l k = refl
  enough_some n m i os (Some p) ih nb e l k =
      let h = best_meets rules os p e in
      let less = units_after rules os i p nb h in
      let some = some_quantity rules os i p nb h in
      ap (λ ls. buy_line rules os i p ∷ sell_line rules os i p ∷ ls)
      (ih (suc (suc i)) (after_pair rules os i p) (numbered_after rules os i p nb h) (omega arith) (omega arith))

  -- as many trades as units stand are all: more make no more lines
  pub enough : (n m i : ℕ) (os : List Order) → Numbered os → units os ≤ n → units os ≤ m → pair_lines_from rules n i os ≡ pair_lines_from rules m i os
  enough zero zero i os nb l k = refl
  enough zero (suc m) i os nb l k = enough_none m i os (best_pair rules os) nb refl l
  enough (suc n) zero i os nb l k = sym (enough_none n i os (best_pair rules os) nb refl k)
  enough (suc n) (suc m) i os nb l k = enough_some n m i os (best_pair rules os) (λ j zs. enough n m j zs) nb refl l k

  lines_more : (i : ℕ) (os : List Order) (p : ℕ × ℕ) → Numbered os → best_pair rules os ≡ Some p →
      pair_lines_from rules (units os) i os ≡ trade_lines (units (after_pair rules os i p)) i os p
  lines_more i os p nb e =
      let h = best_meets rules os p e in
      let less = units_after rules os i p nb h in
      let zs = after_pair rules os i p in
      enough (units os) (suc (units os)) i os nb (omega arith) (omega arith)
      ∙ ap (λ o. lines_of_pair o (trade_lines (units os) i os)) e
      ∙ ap (λ ls. buy_line rules os i p ∷ sell_line rules os i p ∷ ls)
      (enough (units os) (units zs) (suc (suc i)) zs (numbered_after rules os i p nb h) (omega arith) (omega arith))

  lines_end : (i : ℕ) (os : List Order) → Numbered os → best_pair rules os ≡ None → pair_lines_from rules (units os) i os ≡ []
  lines_end i os nb e =
      enough (units os) (suc (units os)) i os nb (omega arith) (omega arith)
      ∙ ap (λ o. lines_of_pair o (trade_lines (units os) i os)) e

  -- ---- the lines made so far

  -- from the session s, as its call began, the session t has come about by the lines that it holds, and the lines that
  -- its orders have yet to make are the others
  pub record SoFar (s t : Session) : Type 0 where
    pub numbered : Numbered t.orders
    pub all : pair_lines rules s.orders ≡ t.lines ++ pair_lines_from rules (units t.orders) (length t.lines) t.orders
    pub posts : t ≡ fold (λ u l. posted l u) (cleared s) t.lines
    pub room : length t.lines + 2 * standings t.orders ≤ most_lines
    pub total : bought t.lines + units t.orders ≤ most_orders * most_quantity

  -- a trade more: from the session t to v
  pub record Turn (s t v : Session) (quantity : ℕ) : Type 0 where
    pub so_far : SoFar s v
    pub bought_more : bought v.lines ≡ bought t.lines + quantity
    pub units_less : units v.orders < units t.orders

  pub so_far_none : (s : Session) (empty : cleared s ≡ s) → Sound s.orders (length s.orders) → length s.orders ≤ most_orders → SoFar s s
  so_far_none s empty sound few = subst (SoFar s) empty (record {
    numbered = sound_numbered s.orders sound;
    all = refl;
    posts = refl;
    room = omega (arith, standings_few s.orders few);
    total = omega (arith, units_most s.orders sound few);
  })

  module _ (s t : Session) (f : SoFar s t) (p : ℕ × ℕ) (e : best_pair rules t.orders ≡ Some p) where
    abbrev os : List Order
    os = t.orders

    abbrev i : ℕ
    i = length t.lines

    abbrev q : ℕ
    q = pair_quantity os p

    abbrev r : ℕ
    r = pair_price rules os p

    abbrev bl : Line
    bl = buy_line rules os i p

    abbrev sl : Line
    sl = sell_line rules os i p

    -- the session between the two lines, and after them
    abbrev bought_of : Session
    bought_of = traded p.0 q r t

    abbrev sold_of : Session
    sold_of = traded p.1 q r bought_of

    h : Pair os p
    h = best_meets rules os p e

    more : suc (length t.lines) ≡ length (t.lines ++ (bl ∷ []))
    more = omega (arith, length_push t.lines bl)

    left_room : i + 2 ≤ most_lines
    left_room = omega (arith, f.room, standings_after rules os i p f.numbered h)

    can_buy : can_trade p.0 q t ≡ true
    can_buy =
        let room = left_room in
        let some = some_quantity rules os i p f.numbered h in
        grind arith

    can_sell : can_trade p.1 q bought_of ≡ true
    can_sell =
        let room = left_room in
        let long = more in
        let some = some_quantity rules os i p f.numbered h in
        let stays = ap standing (sell_stays rules os i p f.numbered h) in
        grind arith

    sold_line : line_of (at bought_of.orders p.1) q r (length bought_of.lines) ≡ sl
    sold_line = ap (λ o. line_of o q r (length bought_of.lines)) (sell_stays rules os i p f.numbered h) ∙ ap (line_of (at os p.1) q r) (sym more)

    sold_is : sold_of ≡ posted sl (posted bl t)
    sold_is = ap (λ l. posted l bought_of) sold_line

    posted_bought : bought ((t.lines ++ (bl ∷ [])) ++ (sl ∷ [])) ≡ bought t.lines + q
    posted_bought =
        let first = sum_by_push (λ (l : Line). cond (buys l.side) l.quantity 0) t.lines bl in
        let second = sum_by_push (λ (l : Line). cond (buys l.side) l.quantity 0) (t.lines ++ (bl ∷ [])) sl in
        let buy = is_buy rules os i p f.numbered h in
        let sell = is_sell rules os i p f.numbered h in
        grind arith

    posted_so_far : SoFar s (posted sl (posted bl t))
    posted_so_far =
        let zs = after_pair rules os i p in
        let ns = (t.lines ++ (bl ∷ [])) ++ (sl ∷ []) in
        let long : suc (suc i) ≡ length ns = omega (arith, length_push (t.lines ++ (bl ∷ [])) sl, more) in
        let rest = pair_lines_from rules (units zs) (suc (suc i)) zs in
        let P : Session → Line → Session = λ u l. posted l u in
        record {
          numbered = numbered_after rules os i p f.numbered h;
          all =
              f.all ∙ ap (λ ls. t.lines ++ ls) (lines_more i os p f.numbered e)
              ∙ sym (append_assoc (t.lines ++ (bl ∷ [])) (sl ∷ []) rest ∙ append_assoc t.lines (bl ∷ []) (sl ∷ rest))
              ∙ ap (λ n. ns ++ pair_lines_from rules (units zs) n zs) long;
          posts =
              ap (λ u. posted sl (posted bl u)) f.posts
              ∙ ap (posted sl) (sym (fold_push P (cleared s) t.lines bl))
              ∙ sym (fold_push P (cleared s) (t.lines ++ (bl ∷ [])) sl);
          room = omega (arith, f.room, long, standings_after rules os i p f.numbered h);
          total = omega (arith, f.total, posted_bought, units_after rules os i p f.numbered h);
        }

    so_far_more : SoFar s sold_of
    so_far_more = subst (SoFar s) (sym sold_is) posted_so_far

    sold_bought : bought sold_of.lines ≡ bought t.lines + q
    sold_bought = ap (λ (u : Session). bought u.lines) sold_is ∙ posted_bought

    sold_less : units sold_of.orders < units os
    sold_less =
        omega (arith, ap (λ (u : Session). units u.orders) sold_is, units_after rules os i p f.numbered h, some_quantity rules os i p f.numbered h)

    -- both of its trades go through
    trades_through : (quantity price : ℕ) → quantity ≡ q → price ≡ r → (u v : Session) (first second : Bool) →
        first ≡ can_trade p.0 quantity t → u ≡ cond first (traded p.0 quantity price t) t →
        second ≡ can_trade p.1 quantity u → v ≡ cond second (traded p.1 quantity price u) u → v ≡ sold_of
    trades_through quantity price eq er u v first second ef eu es ev =
        let yes : first ≡ true = ef ∙ ap (λ n. can_trade p.0 n t) eq ∙ can_buy in
        let one : u ≡ bought_of =
        eu ∙ cond-true first (traded p.0 quantity price t) t yes ∙ ap (λ n. traded p.0 n price t) eq ∙ ap (λ n. traded p.0 q n t) er in
        let also : second ≡ true = es ∙ ap (λ n. can_trade p.1 n u) eq ∙ ap (can_trade p.1 q) one ∙ can_sell in
        ev ∙ cond-true second (traded p.1 quantity price u) u also ∙ ap (λ n. traded p.1 n price u) eq
        ∙ ap (λ n. traded p.1 q n u) er ∙ ap (traded p.1 q r) one

    -- one turn of the loop
    pub turn : (quantity price : ℕ) → quantity ≡ q → price ≡ r → (u v : Session) (first second : Bool) →
        first ≡ can_trade p.0 quantity t → u ≡ cond first (traded p.0 quantity price t) t →
        second ≡ can_trade p.1 quantity u → v ≡ cond second (traded p.1 quantity price u) u → Turn s t v quantity
    turn quantity price eq er u v first second ef eu es ev =
        let sold = trades_through quantity price eq er u v first second ef eu es ev in
        record {
          so_far = subst (SoFar s) (sym sold) so_far_more;
          bought_more = omega (arith, ap (λ (w : Session). bought w.lines) sold, sold_bought, eq);
          units_less = omega (arith, ap (λ (w : Session). units w.orders) sold, sold_less);
        }

  -- no pair is left: the lines are those of all trades, and the session u has them ranked
  module _ (began s t u : Session) (clear : s ≡ cleared began) (f : SoFar s t) (e : best_pair rules t.orders ≡ None) (rank : u ≡ with_ranked_lines t) where
    lines_all : t.lines ≡ pair_lines rules s.orders
    lines_all = sym (f.all ∙ ap (λ ls. t.lines ++ ls) (lines_end (length t.lines) t.orders f.numbered e) ∙ append-nil t.lines)

    pub bought_all : (volume : ℕ) → volume ≡ bought t.lines → volume ≡ bought (pair_lines rules began.orders)
    bought_all volume v = v ∙ ap bought lines_all ∙ ap (λ (w : Session). bought (pair_lines rules w.orders)) clear

    pub settled_all : u ≡ settled (pair_lines rules began.orders) began
    settled_all =
        rank ∙ ap with_ranked_lines f.posts ∙ settled_one_by_one t.lines s ∙ ap (λ ls. settled ls s) lines_all
        ∙ ap (λ (w : Session). settled (pair_lines rules w.orders) w) clear

    pub uncrossed_all : OrderRankLaw true rules.buys → OrderRankLaw false rules.sells → Uncrossed u.orders
    uncrossed_all buys sells = subst (λ (w : Session). Uncrossed w.orders) (sym rank) (uncrossed rules buys sells t.orders f.numbered e)
