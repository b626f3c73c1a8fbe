use Rattle.std.proofs.Common.{arith}
use Rattle.orders.proofs.Keeps.{gone_small}
use Rattle.orders.proofs.tables.Tables.charge.Goals as goal

pub charged-requires : goal.charged-requires
charged-requires c =
    let t = c.args.self.now in
    let g = gone_small t.orders t.count t.ordered in
    record { pays = omega (arith, c.requires.pays, g); gets = omega (arith, c.requires.gets, g) }
