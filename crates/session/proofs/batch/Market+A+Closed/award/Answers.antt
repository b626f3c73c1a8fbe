use Rattle.std.proofs.Common.{◌≡◌, sym, subst, rules}
use Rattle.orders.specs.Settlement.{Session}
use Rattle.orders.specs.Held.{session_of}
use Rattle.pairing.proofs.Loops.{kept_orders}
use Rattle.steps.specs.declared.call.Outcome.{Outcome}
use Rattle.steps.specs.Calls.{round}
use Rattle.history.specs.Fairness.{Fair}
use Rattle.history.proofs.Rounds.{rounds_are_fair}
use Rattle.session.specs.Awards.{outcome_of}
use Rattle.session.proofs.batch.Market+A+Closed.award.Goals as goal

pub returns-clause-fair : goal.returns-clause-fair
returns-clause-fair g c =
    let auction = c.args.self.rules in
    let way = g.A.Auction.way auction in
    let t = c.args.self.tables in
    let s = session_of t in
    let awarded = c.into_state.result in
    let is : ◌≡◌ {A = Outcome × Session} (outcome_of {A = g.row.A.Denot} awarded, session_of awarded.tables) (round way s) = rw (c.into_state.ensures.tables, c.into_state.ensures.state) (search rules) in
    subst (λ (r : Outcome × Session). Fair way s r) (sym is) (rounds_are_fair way c.vouch.ensures.laws s (kept_orders t.orders t.count t.ordered).0 t.owed.0)
