-- The orders of a round trade in turn: one order more.
use Rattle.std.proofs.Common.{◌≡◌, ℕ, zero, suc, ◌+◌, ◌<◌, ◌≤◌, Bool, cond, ltb, List, [], ◌∷◌, ◌++◌, length, get_or, take, fold, sym, refl, ap, ◌∙◌, add-zero, add-one, arith}
use Rattle.std.specs.List.{AllByRecursion}
use Rattle.std.proofs.lemmas.List.{get_or-set_other, get_or-take, length-take-le, length-set}
use Rattle.std.proofs.lemmas.List.Sums.{fold_push}
use Rattle.orders.specs.declared.order.Order.{Order}
use Rattle.orders.specs.declared.order.Line.{Line}
use Rattle.orders.specs.Orders.{at, no_order, standing, filled_by}
use Rattle.orders.specs.Settlement.{Session, line_of, place_of, fill, posted}
use Rattle.orders.specs.Kept.{Sound, most_lines}
use Rattle.orders.specs.Changes.{can_trade, traded}
use Rattle.orders.proofs.Keeps.{sound_parts}
use Rattle.orders.proofs.Sessions.{posted_all}
use Rattle.steps.specs.Uniform.{lines_at}
use Rattle.uniform.specs.Margins.{posted_lines, traded_to, Ready}

module _ (p : ℕ) where
  -- the lines of one order more
  more : (j : ℕ) (os : List Order) (qs : List ℕ) (i : ℕ) → i < length os → length qs ≡ length os →
      lines_at p j (take (suc i) os) (take (suc i) qs)
      ≡ cond (ltb 0 (get_or qs i 0)) (lines_at p j (take i os) (take i qs) ++ (line_of (at os i) (get_or qs i 0) p (j + length (lines_at p j (take i os) (take i qs))) ∷ [])) (lines_at p j (take i os) (take i qs))
  more j [] qs i h e = absurd (omega arith)
  more j (o ∷ os) [] i h e = absurd (omega arith)
  more j (o ∷ os) (q ∷ qs) zero h e = ap (λ n. cond (ltb 0 q) (line_of o q p n ∷ []) []) (sym (add-zero j))
  more j (o ∷ os) (q ∷ qs) (suc i) h e =
      let y = more (suc j) os qs i (omega arith) (omega arith) in
      let n = more j os qs i (omega arith) (omega arith) in
      grind arith

  abbrev so_far : List Order → List ℕ → ℕ → List Line
  so_far os qs i = lines_at p 0 (take i os) (take i qs)

  lines_more : (os : List Order) (qs : List ℕ) (i : ℕ) → i < length os → length qs ≡ length os →
      so_far os qs (i + 1) ≡ cond (ltb 0 (get_or qs i 0)) (so_far os qs i ++ (line_of (at os i) (get_or qs i 0) p (length (so_far os qs i)) ∷ [])) (so_far os qs i)
  lines_more os qs i h e =
      let U = so_far os qs i in
      let z : 0 + length U ≡ length U = omega arith in
      rw add-one (more 0 os qs i h e ∙ ap (λ n. cond (ltb 0 (get_or qs i 0)) (U ++ (line_of (at os i) (get_or qs i 0) p n ∷ [])) U) z)

  -- at most one line for each order
  lines_most : (j : ℕ) (os : List Order) (qs : List ℕ) → length (lines_at p j os qs) ≤ length os
  lines_most j [] qs = omega arith
  lines_most j (o ∷ os) [] = omega arith
  lines_most j (o ∷ os) (q ∷ qs) =
      let some = lines_most (suc j) os qs in let none = lines_most j os qs in grind arith

  -- each line is of an order among those gone through
  lines_below : (base n j : ℕ) (os : List Order) (qs : List ℕ) → ((k : ℕ) → k < length os → (at os k).number ≡ suc (base + k)) → base + length os ≤ n → AllByRecursion (λ (l : Line). l.order ≤ n) (lines_at p j os qs)
  lines_below base n j [] qs g h = tt
  lines_below base n j (o ∷ os) [] g h = tt
  lines_below base n j (o ∷ os) (q ∷ qs) g h =
      let x : o.number ≡ suc (base + 0) = g 0 (omega arith) in
      let next : (k : ℕ) → k < length os → (at os k).number ≡ suc (suc base + k) = λ k l. let y = g (suc k) (omega arith) in omega arith in
      let some = lines_below (suc base) n (suc j) os qs next (omega arith) in
      let none = lines_below (suc base) n j os qs next (omega arith) in
      grind arith

  untouched_by : (os : List Order) (ls : List Line) (k : ℕ) → AllByRecursion (λ (l : Line). l.order ≤ k) ls → 0 < k → at (fold fill os ls) k ≡ at os k
  untouched_by os [] k a h = refl
  untouched_by os (l ∷ ls) k a h =
      let b = a.0 in
      untouched_by (fill os l) ls k a.1 h ∙ get_or-set_other os (place_of l) k (filled_by l.quantity (at os (place_of l))) no_order (λ e. omega arith)

  -- the order whose turn it is has not been filled yet
  untouched : (os : List Order) (qs : List ℕ) (i : ℕ) → Sound os (length os) → i < length os → at (fold fill os (so_far os qs i)) i ≡ at os i
  untouched os qs zero g h = refl
  untouched os qs (suc i) g h =
      let t = length-take-le (suc i) os (omega arith) in
      untouched_by os (so_far os qs (suc i)) (suc i)
      (lines_below 0 (suc i) 0 (take (suc i) os) (take (suc i) qs)
      (λ k l. ap (λ (o : Order). o.number) (get_or-take (suc i) os k no_order (omega arith)) ∙ (let n = (sound_parts k (at os k) (g k (omega arith))).number in omega arith))
      (omega arith))
      (omega arith)

length_filled : (os : List Order) (ls : List Line) → length (fold fill os ls) ≡ length os
length_filled os [] = refl
length_filled os (l ∷ ls) = length_filled (fill os l) ls ∙ length-set os (place_of l) (filled_by l.quantity (at os (place_of l)))

-- no order comes or goes
pub orders_stay : (p : ℕ) (s : Session) (qs : List ℕ) (i : ℕ) → length (traded_to p s qs i).orders ≡ length s.orders
orders_stay p s qs i =
    ap (λ (z : Session). length z.orders) (posted_all (so_far p s.orders qs i) s.orders s.accounts s.lines s.period)
    ∙ length_filled s.orders (so_far p s.orders qs i)

module _ (p : ℕ) (s : Session) (qs : List ℕ) (ready : Ready s qs) (i : ℕ) (h : i < length s.orders) where
  abbrev os : List Order
  os = s.orders

  abbrev t : Session
  t = traded_to p s qs i

  abbrev U : List Line
  U = so_far p os qs i

  abbrev q : ℕ
  q = get_or qs i 0

  pub order_now : at t.orders i ≡ at os i
  order_now = ap (λ (z : Session). at z.orders i) (posted_all U os s.accounts s.lines s.period) ∙ untouched p os qs i ready.sound h

  lines_now : t.lines ≡ U
  lines_now = ap (λ (z : Session). z.lines) (posted_all U os s.accounts s.lines s.period) ∙ ap (λ z. z ++ U) ready.fresh

  trades_if : can_trade i q t ≡ ltb 0 q
  trades_if =
      let room : length t.lines < most_lines =
      omega (arith, ap length lines_now, lines_most p 0 (take i os) (take i qs), length-take-le i os (omega arith), ready.few) in
      let enough : q ≤ standing (at t.orders i) = omega (arith, ap standing order_now, ready.within i h) in
      grind arith

  -- the turn of one order
  pub traded_more : (r : Bool) → r ≡ can_trade i q t → cond r (traded i q p t) t ≡ traded_to p s qs (i + 1)
  traded_more r e =
      let l : Line = line_of (at os i) q p (length U) in
      let post : Session → Line → Session = λ u x. posted x u in
      let line : line_of (at t.orders i) q p (length t.lines) ≡ l =
      ap (λ o. line_of o q p (length t.lines)) order_now ∙ ap (λ z. line_of (at os i) q p (length z)) lines_now in
      ap (λ b. cond b (traded i q p t) t) (e ∙ trades_if)
      ∙ ap (λ x. cond (ltb 0 q) (posted x t) t) line
      ∙ ap (λ z. cond (ltb 0 q) z t) (sym (fold_push post s U l))
      ∙ pull (ltb 0 q) (U ++ (l ∷ [])) U
      ∙ sym (ap (posted_lines s) (lines_more p os qs i h ready.whole))
    where
      pull : (b : Bool) (xs ys : List Line) → cond b (posted_lines s xs) (posted_lines s ys) ≡ posted_lines s (cond b xs ys)
      pull b xs ys = grind arith
