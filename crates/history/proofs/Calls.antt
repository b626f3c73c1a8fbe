-- What each call does.
use Rattle.std.proofs.Common.{◌≡◌, ℕ, suc, ◌+◌, ◌-◌, ◌<◌, ◌≤◌, Bool, true, false, cond, eqb, ltb, List, [], ◌∷◌, ◌++◌, length, Ok, Err, fold, sum_by, sym, refl, ap, ◌∙◌, arith}
use Rattle.std.proofs.lemmas.List.{get_or_push}
use Rattle.std.proofs.ByRecursion.{All-weaker}
use Rattle.std.proofs.lemmas.Bool.{cond_both}
use Rattle.ticks.specs.Ticks.{highest_tick}
use Rattle.orders.specs.declared.order.Ask.{Ask}
use Rattle.orders.specs.declared.order.Kind.{Kind}
use Rattle.orders.specs.declared.order.Kind.TheVariants.{Normal, FillAndKill, FillOrKill}
use Rattle.orders.specs.declared.order.Event.{Event as OrderEvent}
use Rattle.orders.specs.declared.order.Event.TheVariants.{Withdraw as Withdrawal, Kill}
use Rattle.orders.specs.declared.order.Order.{Order}
use Rattle.orders.specs.declared.order.Line.{Line}
use Rattle.orders.specs.Orders.{most_orders, last_member, at, no_order, standing}
use Rattle.orders.specs.Settlement.{Session, fill, changed, bill, credit, settled, with_orders}
use Rattle.orders.specs.Kept.{most_lines}
use Rattle.orders.specs.Changes.{new_order}
use Rattle.orders.proofs.Sifts.{sum_ranked, ranked_all, length_ranked}
use Rattle.steps.specs.declared.call.Call.{Call}
use Rattle.steps.specs.declared.call.Call.TheVariants.{Place, Withdraw, Round}
use Rattle.steps.specs.declared.call.Reply.TheVariants.{Accepted, Withdrawn, Cleared}
use Rattle.steps.specs.declared.call.OrderRef.{OrderRef}
use Rattle.steps.specs.declared.call.Acceptance.{Acceptance}
use Rattle.steps.specs.declared.refusal.Refusal.{Refusal}
use Rattle.steps.specs.declared.refusal.Refusal.TheVariants.{Lines}
use Rattle.steps.specs.Pairing.{Pairs, pair_lines}
use Rattle.steps.specs.Ways.{Way, Uniform, Paired, Continuous, PairsLaw, Laws, round_lines, place_lines}
use Rattle.steps.specs.Calls.{Answer, may_trade, with_ask, closed, acceptance, withdrawn, outcome, round}
use Rattle.history.specs.Fairness.{of_order, Kept}
use Rattle.history.specs.Histories.{Event, event_of, withdraws, BestIfRound, Awarded, IfAccepted, Apart}
use Rattle.history.proofs.Orders.{Good, Like, like_itself, like_chain, kept_like, Ends, kill_ends, withdraw_ends, changed_field, changed_long, changed_good, like_changed, ended_standing, push_long, push_good, push_like, push_figure}
use Rattle.history.proofs.Fills.{Fits, Settles, settles}
use Rattle.history.proofs.Charges.{charges_accounted, charges_even}
use Rattle.history.proofs.Bests.{stood_uncrossed, ended_stood, new_ended_stood}
use Rattle.history.proofs.PairLines.{in_pairs_even, pair_lines_fit, pair_lines_in_pairs, pair_lines_uncross, pair_lines_most}
use Rattle.history.proofs.Uniforms.{round_fits, round_even, round_few}
use Rattle.history.proofs.Carries.{Sane, Stepped, fair_next}

none : (b : Bool) → ◌≡◌ {A = ℕ} (cond b 0 0) 0
none b = cond_both b 0 0 (λ (x : ℕ). x ≡ 0) (λ _. refl) (λ _. refl)

award_if : (w : Way) (e : Event) → BestIfRound e.call e → Awarded w e
award_if (Uniform price share reference) e h = h
award_if (Paired rules) e h = tt
award_if (Continuous rules) e h = tt

-- ---- lines

-- what any call owes of its lines
record Owing (os : List Order) (ls : List Line) : Type 0 where
  fits : Fits os ls
  even : (period : ℕ) → sum_by (bill period) ls ≡ sum_by (credit period) ls
  few : length ls ≤ most_lines

owing_none : (os : List Order) → Owing os []
owing_none os = record { fits = tt; even = λ _. refl; few = omega arith }

owing_pairs : (rules : Pairs) → PairsLaw rules → (os : List Order) → Good os → length os ≤ most_orders → Owing os (pair_lines rules os)
owing_pairs rules laws os g few = record {
  fits = pair_lines_fit rules laws (sum_by standing os) 0 os g (omega arith);
  even = λ period. in_pairs_even period 0 (pair_lines rules os) (pair_lines_in_pairs rules laws (sum_by standing os) 0 os g (omega arith));
  few = pair_lines_most rules laws os g few;
}

owing_round : (w : Way) → Laws w → (os : List Order) → Good os → length os ≤ most_orders → Owing os (round_lines w os)
owing_round (Uniform price share reference) laws os g few = record {
  fits = round_fits price share reference laws.0 laws.1 os g;
  even = round_even price share reference laws.0 laws.1 os g;
  few = omega (arith, round_few price share reference laws.0 laws.1 os g);
}
owing_round (Paired rules) laws os g few = owing_pairs rules laws os g few
owing_round (Continuous rules) laws os g few = owing_none os

owing_place : (w : Way) → Laws w → (os : List Order) → Good os → length os ≤ most_orders → Owing os (place_lines w os)
owing_place (Uniform price share reference) laws os g few = owing_none os
owing_place (Paired rules) laws os g few = owing_none os
owing_place (Continuous rules) laws os g few = owing_pairs rules laws os g few

-- ---- a refusal

none_accepted : (P : Ask → Acceptance → Type 0) (c : Call) (q : Refusal) → IfAccepted P c (Err q)
none_accepted P (Place a) q = tt
none_accepted P (Withdraw o) q = tt
none_accepted P Round q = tt

pub refused_steps : (w : Way) (s : Session) (c : Call) (q : Refusal) → Sane s → BestIfRound c (event_of s c (Err q, s)) → (q ≡ Lines → ⊥) →
    Stepped w s (event_of s c (Err q, s)) s
refused_steps w s c q i award other = record {
  sane = i;
  lasts = refl;
  like = like_itself s.orders;
  asked = none_accepted _ c q;
  kept = tt;
  accounts = record { as_many = refl; pays = λ m. omega arith; gets = λ m. omega arith };
  even = λ h. h;
  given = λ k. omega arith;
  placed = λ k. omega arith;
  left = λ k. omega (arith, none (withdraws c (suc k)));
  award = award_if w _ award;
  room = record { fits = omega arith; never = λ e. other (cc) };
  apart = λ h. h;
}

-- ---- an order that ends

apart_ended : (w : Way) (e : OrderEvent) → Ends e → (os : List Order) (j : ℕ) → j < length os → Apart w os → Apart w (changed j e os)
apart_ended (Uniform price share reference) e ends os j l h = tt
apart_ended (Paired rules) e ends os j l h = tt
apart_ended (Continuous rules) e ends os j l h = stood_uncrossed os (changed j e os) (ended_stood e ends os j l) h

-- ---- withdraw

pub withdraw_steps : (w : Way) (s : Session) (o : OrderRef) → Sane s → 1 ≤ o.number → o.number ≤ length s.orders →
    Stepped w s (event_of s (Withdraw o) (Ok (Withdrawn (withdrawn o.number s).0), (withdrawn o.number s).1)) (withdrawn o.number s).1
withdraw_steps w s o i low high =
    let n = o.number in
    let os = s.orders in
    let j = n - 1 in
    let l : j < length os = omega arith in
    let long = changed_long j Withdrawal os in
    record {
      sane = record { good = changed_good j Withdrawal os i.good; few = omega (arith, long, i.few); members = i.members };
      lasts = refl;
      like = like_changed j Withdrawal os;
      asked = tt;
      kept = tt;
      accounts = record { as_many = refl; pays = λ m. omega arith; gets = λ m. omega arith };
      even = λ h. h;
      given = λ k. omega (arith, ap (λ x. cond {A = ℕ} (ltb k x) 1 0) long);
      placed = λ k. omega (arith, changed_field j Withdrawal (λ o. o.placed) (λ _. refl) os k);
      left = λ k. omega (arith, ended_standing Withdrawal withdraw_ends j n os (omega arith) l k);
      award = award_if w _ tt;
      room = record { fits = omega arith; never = λ e. let z : ◌≡◌ {A = ℕ} 0 1 = cc in omega arith };
      apart = apart_ended w Withdrawal withdraw_ends os j l;
    }

-- ---- round

abbrev round_event : Way → Session → Event
round_event w s = event_of s Round (Ok (Cleared (outcome w s)), (round w s).1)

round_awarded : (w : Way) → Laws w → (s : Session) → Sane s → Awarded w (round_event w s)
round_awarded (Uniform price share reference) laws s i = (fair_next (Uniform price share reference) laws s i).best
round_awarded (Paired rules) laws s i = tt
round_awarded (Continuous rules) laws s i = tt

round_apart : (w : Way) (os : List Order) → Apart w os → Apart w (fold fill os (round_lines w os))
round_apart (Uniform price share reference) os h = tt
round_apart (Paired rules) os h = tt
round_apart (Continuous rules) os h = h

pub round_steps : (w : Way) → Laws w → (s : Session) → Sane s → Stepped w s (round_event w s) (round w s).1
round_steps w laws s i =
    let os = s.orders in
    let ls = round_lines w os in
    let ps = fold fill os ls in
    let o = owing_round w laws os i.good i.few in
    let st = settles os ls i.good o.fits in
    let accounts = charges_accounted s.period s.accounts ls i.members st.members in
    record {
      sane = record { good = st.good; few = omega (arith, st.long, i.few); members = accounts.as_many ∙ i.members };
      lasts = refl;
      like = st.like;
      asked = tt;
      kept = ranked_all (Kept ps) ls (All-weaker (Kept os) (Kept ps) (λ l. kept_like os ps l st.like) ls st.kept);
      accounts = accounts;
      even = charges_even s.period s.accounts ls i.members st.members (o.even s.period);
      given = λ k. omega (arith, ap (λ x. cond {A = ℕ} (ltb k x) 1 0) st.long);
      placed = λ k. omega (arith, st.placed k);
      left = λ k. omega (arith, st.taken k, sum_ranked (of_order (suc k)) ls);
      award = round_awarded w laws s i;
      room = record { fits = omega (arith, length_ranked ls, o.few); never = λ e. let z : ◌≡◌ {A = ℕ} 0 1 = cc in omega arith };
      apart = round_apart w os;
    }

-- ---- place

-- what the questions of a place say of an ask that passes them
pub record Passed (a : Ask) (s : Session) : Type 0 where
  pub member : a.member ≤ last_member
  pub limit : a.limit ≤ highest_tick
  pub some : 0 < a.quantity
  pub room : length s.orders < most_orders

-- one number more is given, the next
next_given : (n k : ℕ) → ◌≡◌ {A = ℕ} (cond (ltb k (suc n)) 1 0) (cond (ltb k n) 1 0 + cond (eqb (suc n) (suc k)) 1 0)
next_given n k = grind arith

module _ (w : Way) (laws : Laws w) (a : Ask) (s : Session) (i : Sane s) (passed : Passed a s) where
  abbrev os : List Order
  os = s.orders

  abbrev n : ℕ
  n = length s.orders

  abbrev new : Order
  new = new_order a (suc n)

  abbrev pub ns : List Order
  ns = with_ask a os

  pub new_good : Good ns
  new_good = push_good os new i.good (record { number = refl; member = passed.member; limit = passed.limit })

  new_few : length ns ≤ most_orders
  new_few = omega (arith, push_long os new, passed.room)

  module _ (b : Bool) where
    abbrev ls : List Line
    ls = cond b (place_lines w ns) []

    abbrev ps : List Order
    ps = fold fill ns ls

    owing : Owing ns ls
    owing = cond_both b (place_lines w ns) [] (Owing ns) (λ _. owing_place w laws ns new_good new_few) (λ _. owing_none ns)

    pub place_few : length ls ≤ most_lines
    place_few = owing.few

    pub place_settles : Settles ns ls ps
    place_settles = settles ns ls new_good owing.fits

    pub new_in : n < length ps
    new_in = omega (arith, push_long os new, place_settles.long)

    abbrev left_by : List Order → ℕ → Answer × Session
    left_by qs x = (Ok (Accepted (record { number = suc n; killed = x })), with_orders qs (settled ls (with_orders ns s)))

    -- whatever of the new order is then killed
    closes : (qs : List Order) (x : ℕ) → Good qs → length qs ≡ length ps → Like ps qs → ((k : ℕ) → (at qs k).placed ≡ (at ps k).placed) →
        ((k : ℕ) → standing (at qs k) + cond (eqb (suc n) (suc k)) x 0 ≡ standing (at ps k)) → (Apart w os → Apart w qs) →
        Stepped w s (event_of s (Place a) (left_by qs x)) (left_by qs x).1
    closes qs x good long like placed left apart =
        let st = place_settles in
        let accounts = charges_accounted s.period s.accounts ls i.members st.members in
        let all : Like ns qs = like_chain ns ps qs st.like like in
        let here : at ns n ≡ new = get_or_push os new no_order n refl in
        let place : suc n - 1 ≡ n = omega arith in
        let same = all.same n (omega (arith, push_long os new)) in
        let longer : length qs ≡ suc n = omega (arith, long, st.long, push_long os new) in
        record {
          sane = record { good = good; few = omega (arith, longer, passed.room); members = accounts.as_many ∙ i.members };
          lasts = refl;
          like = like_chain os ns qs (push_like os new) all;
          asked = record {
            given = omega arith;
            within = omega arith;
            member = ap (λ k. (at qs k).member) place ∙ sym same.member ∙ ap (λ (o : Order). o.member) here;
            side = ap (λ k. (at qs k).side) place ∙ sym same.side ∙ ap (λ (o : Order). o.side) here;
            limit = ap (λ k. (at qs k).limit) place ∙ sym same.limit ∙ ap (λ (o : Order). o.limit) here;
          };
          kept = ranked_all (Kept qs) ls (All-weaker (Kept ns) (Kept qs) (λ l. kept_like ns qs l all) ls st.kept);
          accounts = accounts;
          even = charges_even s.period s.accounts ls i.members st.members (owing.even s.period);
          given = λ k. ap (λ x. cond {A = ℕ} (ltb k x) 1 0) longer ∙ next_given n k;
          placed = λ k. placed k ∙ st.placed k ∙ push_figure os new (λ o. o.placed) refl k;
          left = λ k. omega (arith, left k, st.taken k, push_figure os new standing refl k, sum_ranked (of_order (suc k)) ls);
          award = award_if w _ tt;
          room = record { fits = omega (arith, length_ranked ls, owing.few); never = λ e. let z : ◌≡◌ {A = ℕ} 0 1 = cc in omega arith };
          apart = apart;
        }

    -- nothing is
    stands_on : (Apart w os → Apart w ps) → Stepped w s (event_of s (Place a) (left_by ps 0)) (left_by ps 0).1
    stands_on apart = closes ps 0 place_settles.good refl (like_itself ps) (λ k. refl) (λ k. omega (arith, none (eqb (suc n) (suc k)))) apart

    abbrev killed : List Order
    killed = changed n Kill ps

    -- all that it has left is
    is_killed : (Apart w os → Apart w killed) → Stepped w s (event_of s (Place a) (left_by killed (standing (at ps n)))) (left_by killed (standing (at ps n))).1
    is_killed apart =
        closes killed (standing (at ps n)) (changed_good n Kill ps place_settles.good) (changed_long n Kill ps) (like_changed n Kill ps)
        (changed_field n Kill (λ o. o.placed) (λ _. refl) ps) (ended_standing Kill kill_ends n (suc n) ps refl new_in) apart

apart_traded : (w : Way) → Laws w → (ns : List Order) → Good ns → Apart w (fold fill ns (place_lines w ns))
apart_traded (Uniform price share reference) laws ns g = tt
apart_traded (Paired rules) laws ns g = tt
apart_traded (Continuous rules) laws ns g = pair_lines_uncross rules laws (sum_by standing ns) 0 ns g (omega arith)

-- an order that did not trade, and is killed
apart_untraded : (w : Way) (os : List Order) (o : Order) → Apart w os → Apart w (changed (length os) Kill (os ++ (o ∷ [])))
apart_untraded (Uniform price share reference) os o h = tt
apart_untraded (Paired rules) os o h = tt
apart_untraded (Continuous rules) os o h = stood_uncrossed os _ (new_ended_stood Kill kill_ends os o) h

module _ (w : Way) (laws : Laws w) (a : Ask) (s : Session) (i : Sane s) (passed : Passed a s) where
  apart_killed : (b : Bool) → Apart w s.orders → Apart w (killed w laws a s i passed b)
  apart_killed true h =
      apart_ended w Kill kill_ends (ps w laws a s i passed true) (length s.orders) (new_in w laws a s i passed true)
      (apart_traded w laws (with_ask a s.orders) (new_good w laws a s i passed))
  apart_killed false h = apart_untraded w s.orders (new_order a (suc (length s.orders))) h

  -- the answer to a place, as if its order were of this kind
  abbrev pub placed_as : Kind → Acceptance × Session
  placed_as kind =
      acceptance (suc (length s.orders))
      (closed kind (length s.orders)
      (settled (cond (may_trade kind a s.orders) (place_lines w (with_ask a s.orders)) []) (with_orders (with_ask a s.orders) s)))

  pub place_steps : (kind : Kind) → Stepped w s (event_of s (Place a) (Ok (Accepted (placed_as kind).0), (placed_as kind).1)) (placed_as kind).1
  place_steps Normal = stands_on w laws a s i passed true (λ _. apart_traded w laws (with_ask a s.orders) (new_good w laws a s i passed))
  place_steps FillAndKill = is_killed w laws a s i passed true (apart_killed true)
  place_steps FillOrKill = let b = may_trade FillOrKill a s.orders in is_killed w laws a s i passed b (apart_killed b)
