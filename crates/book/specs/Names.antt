-- The name of each way, sharing, side and kind of order.
use Rattle.std.specs.Prelude.{ℕ, List, codes}
use Rattle.book.specs.declared.codes.Way.{Way}
use Rattle.book.specs.declared.codes.Way.TheVariants.{Crossing, Principles, BuyersPrice, SellersPrice, HalfTheSum, Continuous}
use Rattle.book.specs.declared.codes.Sharing.{Sharing}
use Rattle.book.specs.declared.codes.Sharing.TheVariants.{EarliestFirst, LargestFirst, ProRata}
use Rattle.book.specs.declared.codes.Side.{Side}
use Rattle.book.specs.declared.codes.Side.TheVariants.{Buy, Sell}
use Rattle.book.specs.declared.codes.OrderKind.{OrderKind}
use Rattle.book.specs.declared.codes.OrderKind.TheVariants.{Normal, FillAndKill, FillOrKill}

abbrev pub name_of_way : Way → List ℕ
name_of_way Crossing = codes "crossing"
name_of_way Principles = codes "principles"
name_of_way BuyersPrice = codes "buyer's price"
name_of_way SellersPrice = codes "seller's price"
name_of_way HalfTheSum = codes "half the sum"
name_of_way Continuous = codes "continuous at the earlier order's price"

abbrev pub name_of_sharing : Sharing → List ℕ
name_of_sharing EarliestFirst = codes "earliest first"
name_of_sharing LargestFirst = codes "largest first"
name_of_sharing ProRata = codes "pro rata"

abbrev pub name_of_side : Side → List ℕ
name_of_side Buy = codes "buy"
name_of_side Sell = codes "sell"

abbrev pub name_of_kind : OrderKind → List ℕ
name_of_kind Normal = codes "normal"
name_of_kind FillAndKill = codes "fill-and-kill"
name_of_kind FillOrKill = codes "fill-or-kill"
