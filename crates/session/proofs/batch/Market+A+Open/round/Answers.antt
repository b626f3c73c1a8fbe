use Rattle.std.proofs.Common.{◌≡◌, sym, subst, rules}
use Rattle.orders.specs.Settlement.{Session}
use Rattle.orders.specs.Held.{session_of}
use Rattle.pairing.proofs.Loops.{kept_orders}
use Rattle.steps.specs.declared.call.Outcome.{Outcome}
use Rattle.steps.specs.Calls.{round}
use Rattle.history.specs.Fairness.{Fair}
use Rattle.history.proofs.Rounds.{rounds_are_fair}
use Rattle.session.proofs.batch.Market+A+Open.round.Goals as goal

pub returns-clause-fair : goal.returns-clause-fair
returns-clause-fair g c =
    let auction = c.args.self.now.rules in
    let way = g.A.Auction.way auction in
    let t = c.args.self.now.tables in
    let s = session_of t in
    let answer : Outcome = record { volume = c.settle-volume.result.0; price = c.settle-volume.result.1; members = c.member_count.result } in
    let is : ◌≡◌ {A = Outcome × Session} (answer, session_of c.settle-volume.new.tables) (round way s) = search rules in
    subst (λ (r : Outcome × Session). Fair way s r) (sym is) (rounds_are_fair way c.vouch.ensures.laws s (kept_orders t.orders t.count t.ordered).0 t.owed.0)
