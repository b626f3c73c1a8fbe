use Rattle.uniform.proofs.Scans.{Scanned}
use Rattle.uniform.proofs.crossed.is_crossed.Given as goal

abbrev pub invariant-loop-order : goal.invariant-loop-order
invariant-loop-order l = Scanned l.orders l.order-index l.above_buys l.lowest_sell
