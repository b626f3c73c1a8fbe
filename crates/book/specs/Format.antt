-- The fields of the header and of the records, each by its first bit and its width, and the values that they hold.
use Rattle.std.specs.Prelude.{ℕ, cond, ◌==◌}
use Rattle.packing.specs.Fields.{field}
use Rattle.book.specs.declared.values.Header.{Header}
use Rattle.book.specs.declared.values.Placement.{Placement}
use Rattle.book.specs.declared.values.Withdrawal.{Withdrawal}
use Rattle.book.specs.declared.values.Entry.{Entry}
use Rattle.book.specs.declared.values.Entry.TheVariants.{Place, Withdraw, Round}

-- ---- the header

abbrev pub form : ℕ → ℕ
form n = field 0 4 n

abbrev pub way : ℕ → ℕ
way n = field 4 3 n

abbrev pub sharing : ℕ → ℕ
sharing n = field 7 2 n

abbrev pub reference : ℕ → ℕ
reference n = field 9 11 n

abbrev pub period : ℕ → ℕ
period n = field 20 12 n

abbrev pub count : ℕ → ℕ
count n = field 32 12 n

abbrev pub header_spare : ℕ → ℕ
header_spare n = field 44 4 n

abbrev pub header_of : ℕ → Header
header_of n = record { way = way n; sharing = sharing n; reference = reference n; period = period n }

-- ---- the records

abbrev pub kind : ℕ → ℕ
kind n = field 0 2 n

abbrev pub order_kind : ℕ → ℕ
order_kind n = field 3 2 n

abbrev pub placement_of : ℕ → Placement
placement_of n = record { side = field 2 1 n; kind = order_kind n; member = field 5 6 n; limit = field 11 11 n; quantity = field 22 20 n }

abbrev pub withdrawal_of : ℕ → Withdrawal
withdrawal_of n = record { member = field 2 6 n; number = field 8 9 n }

-- by kind: 0 a place, 1 a withdrawal, else a round
abbrev pub entry_of : ℕ → Entry
entry_of n = cond (kind n == 0) (Place (placement_of n)) (cond (kind n == 1) (Withdraw (withdrawal_of n)) Round)

abbrev pub record_spare : ℕ → ℕ
record_spare n = cond (kind n == 0) (field 42 6 n) (cond (kind n == 1) (field 17 31 n) (field 2 46 n))
