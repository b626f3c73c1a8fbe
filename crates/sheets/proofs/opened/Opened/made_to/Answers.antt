use Rattle.std.proofs.Common.{◌≡◌, ◌+◌, false, ◌∷◌, sym, refl, ap, ◌∙◌, subst, arith}
use Rattle.std.specs.declared.iter.Enumerate.{Enumerate}
use Rattle.std.specs.Iterator.Adapters.{enumerate_source, enumerate_count}
use Rattle.book.specs.declared.reading.Book.{Book}
use Rattle.book.specs.declared.values.Entry.{Entry}
use Rattle.book.specs.Reading.{entries, NoRounds}
use Rattle.orders.specs.Held.{session_of}
use Rattle.steps.specs.declared.call.Call.TheVariants.{Place as CallPlace, Withdraw as CallWithdraw}
use Rattle.steps.specs.Ways.{is_continuous}
use Rattle.sheets.specs.Calls.{calls_of, Suits}
use Rattle.sheets.proofs.SoFar.{so_far_start, so_far_turn, so_far_whole}
use Rattle.sheets.proofs.Ways.{rounds_are_batch, suits_rest}
use Rattle.sheets.proofs.opened.Opened.made_to.Goals as goal

pub loop-i-init : goal.loop-i-init
loop-i-init g c =
    let made = c.into_iter-i-iterator.ensures.into_iter_gives in
    let left = ap (λ (x : Enumerate Book). entries (enumerate_source x).rest.now) made ∙ ap (λ (b : Book). entries b.rest.now) c.enumerate-i-items.ensures.source in
    let one = ap (λ (x : Enumerate Book). enumerate_count x + 1) made ∙ ap (λ n. n + 1) c.enumerate-i-items.ensures.count in
    (so_far_start _ _ _ _ _ _ _ (ap calls_of left) one c.new-sheet.ensures.text c.new-sheet.ensures.marks, refl, λ late. subst NoRounds (sym left) (c.requires late))

pub loop-i-preserved-in-Continue-1 : goal.loop-i-preserved-in-Continue-1
loop-i-preserved-in-Continue-1 g c =
    let now = c.loop-i.session in
    let same = ap g.S.TakesOrders.way c.loop-i.invariant.1 in
    let rules = c.place.ensures.rules in
    let steps = c.in-Some.ensures.steps in
    let handed = steps.0.1 ∙ ap (λ (x : Entry). x ∷ entries (enumerate_source c.next.new.self).rest.now) (sym c.from.ensures ∙ c.in-Place.is) in (
      so_far_turn _ (g.S.TakesOrders.way now.rules) _ _ _ _ _ _ _ _ c.loop-i.sheet _ (enumerate_count c.loop-i.i-iterator + 1) (c.in-Some.i + 1) (enumerate_count c.next.new.self + 1) same (ap calls_of handed) (ap CallPlace c.ask_of.ensures)
          (omega (arith, steps.1)) (omega (arith, steps.1, steps.2))
          c.in_ok-place-in-Place.ensures.sheet c.place.ensures.session c.loop-i.invariant.0,
      rules ∙ c.loop-i.invariant.1,
      suits_rest (g.S.TakesOrders.way now.rules) _ _ _ _ (sym (ap g.S.TakesOrders.way rules)) steps.0.1 c.loop-i.invariant.2,
    )

pub loop-i-preserved-in-Continue-branch-2 : goal.loop-i-preserved-in-Continue-branch-2
loop-i-preserved-in-Continue-branch-2 g c =
    let now = c.loop-i.session in
    let same = ap g.S.TakesOrders.way c.loop-i.invariant.1 in
    let rules = c.withdraw.ensures.rules in
    let steps = c.in-Some.ensures.steps in
    let handed = steps.0.1 ∙ ap (λ (x : Entry). x ∷ entries (enumerate_source c.next.new.self).rest.now) (sym c.from.ensures ∙ c.in-Withdraw.is) in (
      so_far_turn _ (g.S.TakesOrders.way now.rules) _ _ _ _ _ _ _ _ c.loop-i.sheet _ (enumerate_count c.loop-i.i-iterator + 1) (c.in-Some.i + 1) (enumerate_count c.next.new.self + 1) same (ap calls_of handed) (ap CallWithdraw c.order_of.ensures)
          (omega (arith, steps.1)) (omega (arith, steps.1, steps.2))
          c.in_ok-withdraw-in-Withdraw.ensures.sheet c.withdraw.ensures.session c.loop-i.invariant.0,
      rules ∙ c.loop-i.invariant.1,
      suits_rest (g.S.TakesOrders.way now.rules) _ _ _ _ (sym (ap g.S.TakesOrders.way rules)) steps.0.1 c.loop-i.invariant.2,
    )

pub loop-i-preserved : goal.loop-i-preserved
loop-i-preserved g c =
    let now = c.loop-i.session in
    let same = ap g.S.TakesOrders.way c.loop-i.invariant.1 in
    let made = c.round.ensures in
    let rules = made.rules in
    let steps = c.in-Some.ensures.steps in
    let handed = steps.0.1 ∙ ap (λ (x : Entry). x ∷ entries (enumerate_source c.next.new.self).rest.now) (sym c.from.ensures ∙ c.in-Round.is) in
    let batch : is_continuous (g.S.TakesOrders.way now.rules) ≡ false = rounds_are_batch (g.S.TakesOrders.way now.rules) _ (subst (Suits (g.S.TakesOrders.way now.rules)) handed c.loop-i.invariant.2) in (
      so_far_turn _ (g.S.TakesOrders.way now.rules) _ _ _ _ _ _ _ _ c.loop-i.sheet _ (enumerate_count c.loop-i.i-iterator + 1) (c.in-Some.i + 1) (enumerate_count c.next.new.self + 1) same (ap calls_of handed) refl
          (omega (arith, steps.1)) (omega (arith, steps.1, steps.2))
          (c.in_ok-round-in-Round.ensures.sheet batch (c.in-Some.i + 1)) (made.session batch) c.loop-i.invariant.0,
      rules ∙ c.loop-i.invariant.1,
      suits_rest (g.S.TakesOrders.way now.rules) _ _ _ _ (sym (ap g.S.TakesOrders.way rules)) steps.0.1 c.loop-i.invariant.2,
    )

pub returns : goal.returns
returns g c =
    λ opens.
    so_far_whole _ _ c.args.self.book.header.period _ (session_of c.loop-i.session.tables) (calls_of (entries c.args.self.book.rest.now)) _ _ _ _ _
    refl opens (ap calls_of c.in-None.ensures.steps.0.1.0)
    c.loop-i.invariant.0 c.in_ok-put_accounts.ensures
