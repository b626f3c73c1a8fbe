use Rattle.std.proofs.Common.{◌≡◌, ◌<◌, ◌≤◌, length, sum_by, sym, ap, ◌∙◌, arith}
use Rattle.std.proofs.lemmas.List.{get_or-take, length-take-le}
use Rattle.ticks.specs.Ticks.{highest_tick}
use Rattle.orders.specs.Orders.{at, standing, no_order, sound_order}
use Rattle.orders.specs.Settlement.{member_places, account, line_of, worth, with_charge, with_line}
use Rattle.orders.specs.Kept.{gone}
use Rattle.orders.specs.Held.{session_of}
use Rattle.orders.proofs.Keeps.{sound_parts, gone_fill}
use Rattle.orders.proofs.Sessions.{traded_is, worth_most}
use Rattle.orders.proofs.tables.Tables.post.Goals as goal

pub charge-requires : goal.charge-requires
charge-requires c =
    let t = c.args.self.now in
    let s = session_of t in
    let k = c.args.place in
    let q = c.args.quantity in
    let o = at t.orders k in
    let l = c.line-line.result in
    let e = c.line-line.ensures in
    let filled = c.apply.ensures in
    let sound = t.ordered.2 k c.requires.there in
    let same : at s.orders k ≡ o = get_or-take t.count t.orders k no_order c.requires.there in
    let long : length s.orders ≡ t.count = length-take-le t.count t.orders (omega (arith, t.ordered.0, t.ordered.1)) in
    let m : l.member < member_places = omega (arith, ap (λ z. z.member) e, (sound_parts k o sound).member) in
    let m' : l.member < length t.accounts = omega (arith, t.owed.0) in
    let p : l.price ≤ highest_tick = omega (arith, ap (λ z. z.price) e, c.args.price.within) in
    let w = worth_most t.period.quarters l p t.period.within in
    let g = gone_fill s.orders k q (omega (arith, c.requires.there)) (ap (sound_order k) same ∙ sound) (omega (arith, ap standing same, c.requires.enough)) in
    let g' = ap (λ z. sum_by gone z.orders) filled in
    let d = ap (λ z. worth z.period l) filled in
    let size = ap (λ z. z.quantity) e in
    record {
      member = m;
      pays = omega (arith, t.owed.1 l.member m', w, g, g', d, size, ap (λ z. (account z.accounts l.member).pays) filled);
      gets = omega (arith, t.owed.2 l.member m', w, g, g', d, size, ap (λ z. (account z.accounts l.member).gets) filled);
    }

pub returns : goal.returns
returns c =
    let t = c.args.self.now in
    let k = c.args.place in
    let q = c.args.quantity in
    let p = c.args.price.value in
    let o = at t.orders k in
    let s = session_of t in
    let l = c.line-line.result in
    let same : at s.orders k ≡ o = get_or-take t.count t.orders k no_order c.requires.there in
    let long : length s.lines ≡ t.made = length-take-le t.made t.lines (omega (arith, t.lined.0, t.lined.1)) in
    let line : l ≡ line_of (at s.orders k) q p (length s.lines) =
    c.line-line.ensures ∙ ap (λ z. line_of z q p t.made) (sym same) ∙ ap (line_of (at s.orders k) q p) (sym long) in
    let number = ap (λ z. z.number) same ∙ (sound_parts k o (t.ordered.2 k c.requires.there)).number in
    c.push_line.ensures
    ∙ ap (with_line l) (c.charge.ensures ∙ ap (with_charge l) c.apply.ensures)
    ∙ traded_is k q p s l line number
