-- The names that a book's enums give are those of their codes.
use Rattle.std.proofs.Common.{◌≡◌, ℕ, refl}
use Rattle.book.specs.declared.codes.Way.{Way}
use Rattle.book.specs.declared.codes.Way.TheVariants.{Crossing, Principles, BuyersPrice, SellersPrice, HalfTheSum, Continuous}
use Rattle.book.specs.declared.codes.Sharing.{Sharing}
use Rattle.book.specs.declared.codes.Sharing.TheVariants.{EarliestFirst, LargestFirst, ProRata}
use Rattle.book.specs.Codes.{way_code, sharing_code}
use Rattle.book.specs.Names.{name_of_way, name_of_sharing}
use Rattle.listing.specs.Words.{way_name, sharing_name}

pub way_named : (w : Way) (n : ℕ) → way_code w ≡ n → name_of_way w ≡ way_name n
way_named Crossing n e = rw (← e) refl
way_named Principles n e = rw (← e) refl
way_named BuyersPrice n e = rw (← e) refl
way_named SellersPrice n e = rw (← e) refl
way_named HalfTheSum n e = rw (← e) refl
way_named Continuous n e = rw (← e) refl

pub sharing_named : (s : Sharing) (n : ℕ) → sharing_code s ≡ n → name_of_sharing s ≡ sharing_name n
sharing_named EarliestFirst n e = rw (← e) refl
sharing_named LargestFirst n e = rw (← e) refl
sharing_named ProRata n e = rw (← e) refl
