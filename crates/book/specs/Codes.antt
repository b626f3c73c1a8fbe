-- The code of each way, sharing, side and kind of order.
use Rattle.std.specs.Prelude.{ℕ}
use Rattle.book.specs.declared.codes.Way.{Way}
use Rattle.book.specs.declared.codes.Way.TheVariants.{Crossing, Principles, BuyersPrice, SellersPrice, HalfTheSum, Continuous}
use Rattle.book.specs.declared.codes.Sharing.{Sharing}
use Rattle.book.specs.declared.codes.Sharing.TheVariants.{EarliestFirst, LargestFirst, ProRata}
use Rattle.book.specs.declared.codes.Side.{Side}
use Rattle.book.specs.declared.codes.Side.TheVariants.{Buy, Sell}
use Rattle.book.specs.declared.codes.OrderKind.{OrderKind}
use Rattle.book.specs.declared.codes.OrderKind.TheVariants.{Normal, FillAndKill, FillOrKill}

abbrev pub way_code : Way → ℕ
way_code Crossing = 0
way_code Principles = 1
way_code BuyersPrice = 2
way_code SellersPrice = 3
way_code HalfTheSum = 4
way_code Continuous = 5

abbrev pub sharing_code : Sharing → ℕ
sharing_code EarliestFirst = 0
sharing_code LargestFirst = 1
sharing_code ProRata = 2

abbrev pub side_code : Side → ℕ
side_code Buy = 0
side_code Sell = 1

abbrev pub kind_code : OrderKind → ℕ
kind_code Normal = 0
kind_code FillAndKill = 1
kind_code FillOrKill = 2
