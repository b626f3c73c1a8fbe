-- From what one call does to what all calls have done.
use Rattle.std.proofs.Common.{◌≡◌, ℕ, suc, ◌+◌, ◌-◌, ◌≤◌, cond, ltb, List, [], ◌++◌, length, Ok, Err, sum_by, sym, ap, ◌∙◌, subst, arith}
use Rattle.std.specs.List.{AllByRecursion}
use Rattle.std.proofs.lemmas.List.{flat_map_more}
use Rattle.std.proofs.lemmas.List.Sums.{sum_by-append, sum_by_push}
use Rattle.std.proofs.ByRecursion.{All-append, All-push, All-weaker}
use Rattle.orders.specs.declared.order.Ask.{Ask}
use Rattle.orders.specs.declared.order.Order.{Order}
use Rattle.orders.specs.declared.order.Line.{Line}
use Rattle.orders.specs.declared.order.Account.{Account}
use Rattle.orders.specs.Orders.{most_orders, at, standing}
use Rattle.orders.specs.Settlement.{Session, member_places}
use Rattle.steps.specs.declared.call.Acceptance.{Acceptance}
use Rattle.steps.specs.declared.call.Call.{Call}
use Rattle.steps.specs.declared.call.Call.TheVariants.{Place, Withdraw, Round}
use Rattle.steps.specs.declared.call.Reply.TheVariants.{Accepted, Withdrawn, Cleared}
use Rattle.steps.specs.Ways.{Way, Uniform, Paired, Continuous, Laws}
use Rattle.steps.specs.Calls.{Answer, round}
use Rattle.history.specs.Fairness.{of_order, pays_of, gets_of, Kept, Accounted, Fair}
use Rattle.history.specs.Histories.{Event, History, event_of, more, gives, asked_for, killed_for, withdrawn_for, all_lines, Awarded, IfAccepted, AsAsked, Asked, Whole, Roomy, Apart, Holds}
use Rattle.history.proofs.Orders.{Good, Like, kept_like}
use Rattle.history.proofs.Rounds.{uniform_fair, paired_fair}

-- what holds of a session at any time
pub record Sane (s : Session) : Type 0 where
  pub good : Good s.orders
  pub few : length s.orders ≤ most_orders
  pub members : length s.accounts ≡ member_places

-- what one call does, whatever came before it
pub record Stepped (w : Way) (s : Session) (e : Event) (t : Session) : Type 0 where
  pub sane : Sane t
  pub lasts : t.period ≡ s.period
  pub like : Like s.orders t.orders
  pub asked : Asked t.orders e
  pub kept : AllByRecursion (Kept t.orders) e.lines
  pub accounts : Accounted s.period s.accounts e.lines t.accounts
  pub even : sum_by (λ (a : Account). a.pays) s.accounts ≡ sum_by (λ (a : Account). a.gets) s.accounts →
      sum_by (λ (a : Account). a.pays) t.accounts ≡ sum_by (λ (a : Account). a.gets) t.accounts
  pub given : (k : ℕ) → ◌≡◌ {A = ℕ} (cond (ltb k (length t.orders)) 1 0) (cond (ltb k (length s.orders)) 1 0 + cond (gives e.answer (suc k)) 1 0)
  pub placed : (k : ℕ) → (at t.orders k).placed ≡ (at s.orders k).placed + asked_for (suc k) e
  pub left : (k : ℕ) → standing (at s.orders k) + asked_for (suc k) e
      ≡ standing (at t.orders k) + sum_by (of_order (suc k)) e.lines + withdrawn_for (suc k) e + killed_for (suc k) e
  pub award : Awarded w e
  pub room : Roomy e
  pub apart : Apart w s.orders → Apart w t.orders

pub fair_next : (w : Way) → Laws w → (s : Session) → Sane s → Fair w s (round w s)
fair_next (Uniform price share reference) laws s i = uniform_fair price share reference laws.0 laws.1 s i.good i.members
fair_next (Paired rules) laws s i = paired_fair rules laws s i.good i.members
fair_next (Continuous rules) laws s i = tt

-- ---- what was accepted

accepted_weaker : (P Q : Ask → Acceptance → Type 0) → ((a : Ask) (x : Acceptance) → P a x → Q a x) → (c : Call) (r : Answer) → IfAccepted P c r → IfAccepted Q c r
accepted_weaker P Q f (Place a) (Ok (Accepted x)) h = f a x h
accepted_weaker P Q f (Place a) (Ok (Withdrawn q)) h = tt
accepted_weaker P Q f (Place a) (Ok (Cleared o)) h = tt
accepted_weaker P Q f (Place a) (Err q) h = tt
accepted_weaker P Q f (Withdraw o) r h = tt
accepted_weaker P Q f Round r h = tt

-- an order that is as it was asked for stays so
asked_like : (os ps : List Order) → Like os ps → (e : Event) → Asked os e → Asked ps e
asked_like os ps like e =
    accepted_weaker (λ a x. AsAsked os a x.number) (λ a x. AsAsked ps a x.number)
    (λ a x k.
    let s = like.same (x.number - 1) (omega (arith, k.given, k.within)) in
    record {
      given = k.given;
      within = omega (arith, k.within, like.longer);
      member = sym s.member ∙ k.member;
      side = sym s.side ∙ k.side;
      limit = sym s.limit ∙ k.limit;
    })
    e.call e.answer

-- ---- a history

-- what holds of a history, and of its session
pub record Held (w : Way) (period : ℕ) (h : History) : Type 0 where
  pub sane : Sane h.session
  pub lasts : h.session.period ≡ period
  pub holds : Holds w period h

module _ (w : Way) (laws : Laws w) (period : ℕ) (h : History) (c : Call) (r : Answer × Session) where
  abbrev e : Event
  e = event_of h.session c r

  lines_more : all_lines (more h c r) ≡ all_lines h ++ e.lines
  lines_more = sym (flat_map_more (λ (e : Event). e.lines) [] h.events e)

  sum_more : (f : Line → ℕ) → sum_by f (all_lines (more h c r)) ≡ sum_by f (all_lines h) + sum_by f e.lines
  sum_more f = ap (sum_by f) lines_more ∙ sum_by-append f (all_lines h) e.lines

  pub held_more : Held w period h → Stepped w h.session e r.1 → Whole e → Held w period (more h c r)
  held_more i d whole =
      let o = i.holds in
      let os = h.session.orders in
      let ps = r.1.orders in
      let accounted : Accounted period h.session.accounts e.lines r.1.accounts =
      subst (λ x. Accounted x h.session.accounts e.lines r.1.accounts) i.lasts d.accounts in
      record {
        sane = d.sane;
        lasts = d.lasts ∙ i.lasts;
        holds = record {
          award = All-push (Awarded w) h.events e o.award d.award;
          asked = All-push (Asked ps) h.events e (All-weaker (Asked os) (Asked ps) (asked_like os ps d.like) h.events o.asked) d.asked;
          limits = subst (AllByRecursion (Kept ps)) (sym lines_more)
              (All-append (Kept ps) (all_lines h) e.lines (All-weaker (Kept os) (Kept ps) (λ l. kept_like os ps l d.like) (all_lines h) o.limits) d.kept);
          pays = λ m. omega (arith, accounted.pays m, o.pays m, sum_more (pays_of period m));
          gets = λ m. omega (arith, accounted.gets m, o.gets m, sum_more (gets_of period m));
          even = d.even o.even;
          given = λ k. omega (arith, d.given k, o.given k, sum_by_push (λ (e : Event). cond (gives e.answer (suc k)) 1 0) h.events e);
          named = λ k. omega (arith, d.placed k, o.named k, sum_by_push (asked_for (suc k)) h.events e);
          balance = λ k. omega (
            arith,
            d.left k,
            o.balance k,
            sum_by_push (asked_for (suc k)) h.events e,
            sum_by_push (withdrawn_for (suc k)) h.events e,
            sum_by_push (killed_for (suc k)) h.events e,
            sum_more (of_order (suc k)),
          );
          uncrossed = d.apart o.uncrossed;
          whole = All-push Whole h.events e o.whole whole;
          room = All-push Roomy h.events e o.room d.room;
          fair = fair_next w laws r.1 d.sane;
        };
      }
