-- The number of each refusal, and the first question that is answered no.
use Rattle.std.specs.Prelude.{ℕ, Bool, cond, List, [], ◌∷◌, Some, None, Option}
use Rattle.steps.specs.declared.refusal.Refusal.{Refusal}
use Rattle.steps.specs.declared.refusal.Refusal.TheVariants.{Period, Reference, Member, Limit, Quantity, Kind, OtherSide, Numbers, Lines, NotGiven, NotOwned, NotStanding, NoSuchLine}

abbrev pub number_of : Refusal → ℕ
number_of Period = 1
number_of Reference = 2
number_of Member = 3
number_of Limit = 4
number_of Quantity = 5
number_of Kind = 6
number_of OtherSide = 7
number_of Numbers = 8
number_of Lines = 9
number_of NotGiven = 10
number_of NotOwned = 11
number_of NotStanding = 12
number_of NoSuchLine = 13

-- a question and whether it is answered yes
abbrev pub Asked : Type 0
Asked = Refusal × Bool

-- the first question that is answered no
abbrev pub first_no : List Asked → Option Refusal
first_no [] = None
first_no (a ∷ later) = cond a.1 (first_no later) (Some a.0)
