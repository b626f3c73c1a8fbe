-- The sheet of a book: the text of the history of its calls.
use Rattle.std.specs.Prelude.{ℕ, zero, suc, Bool, cond, List, [], ◌∷◌, ◌++◌, Some, None, Ok, Err, Option, Result}
use Rattle.book.specs.declared.values.Header.{Header}
use Rattle.book.specs.declared.values.Entry.{Entry}
use Rattle.book.specs.declared.fault.Fault.{Fault}
use Rattle.book.specs.Reading.{read_book}
use Rattle.orders.specs.declared.order.Line.{Line}
use Rattle.orders.specs.declared.order.Account.{Account}
use Rattle.orders.specs.Orders.{last_member}
use Rattle.orders.specs.Settlement.{account}
use Rattle.orders.specs.Members.{has_line}
use Rattle.steps.specs.declared.call.Reply.TheVariants.{Accepted, Withdrawn, Cleared}
use Rattle.steps.specs.declared.refusal.Refusal.{Refusal}
use Rattle.steps.specs.Refusals.{first_no}
use Rattle.steps.specs.Calls.{Answer, open_questions}
use Rattle.history.specs.Histories.{Event, History, run, all_lines, Holds}
use Rattle.sheets.specs.Rows.{fault_row, no_row, round_row, line_rows, account_row}
use Rattle.sheets.specs.Calls.{way_of, calls_of}

-- what a record adds to the sheet, by the answer of its call and the lines that the call made
abbrev pub answer_text : ℕ → Answer → List Line → List ℕ
answer_text k (Ok (Accepted a)) ls = line_rows ls
answer_text k (Ok (Withdrawn q)) ls = line_rows ls
answer_text k (Ok (Cleared o)) ls = round_row o ++ line_rows ls
answer_text k (Err q) ls = no_row k q

-- the events of the records from the k-th on
abbrev pub events_text : ℕ → List Event → List ℕ
events_text k [] = []
events_text k (e ∷ es) = answer_text k e.answer e.lines ++ events_text (suc k) es

-- the account of a member, if it has lines
abbrev pub account_piece : (ℕ → Bool) → List Account → ℕ → List ℕ
account_piece traded acs m = cond (traded m) (account_row m (account acs m)) []

-- the accounts of n members from m on, of those that have lines
abbrev pub accounts_from : (ℕ → Bool) → List Account → ℕ → ℕ → List ℕ
accounts_from traded acs zero m = []
accounts_from traded acs (suc n) m = account_piece traded acs m ++ accounts_from traded acs n (suc m)

-- the accounts of all members that have lines, ascending
unfoldable pub accounts_text : (ℕ → Bool) → List Account → List ℕ
accounts_text traded acs = accounts_from traded acs last_member 1

-- a whole history, its records counted from 1
abbrev pub history_text : History → List ℕ
history_text h = events_text 1 h.events ++ accounts_text (has_line (all_lines h)) h.session.accounts

-- a book whose opening is refused has that one row
abbrev pub opened_text : Option Refusal → Header → List Entry → List ℕ
opened_text None h es = history_text (run (way_of h) h.period (calls_of es))
opened_text (Some q) h es = no_row 0 q

-- the sheet of what was read; a fault is its one row
abbrev pub sheet_read : Result (Header × List Entry) Fault → List ℕ
sheet_read (Ok b) = opened_text (first_no (open_questions b.0.period b.0.reference)) b.0 b.1
sheet_read (Err f) = fault_row f

-- the sheet of a book's bytes
abbrev pub sheet_of : List ℕ → List ℕ
sheet_of bytes = sheet_read (read_book bytes)

-- ---- theorem

-- what was read is cleared right: the theorem over every list of calls, of this book's calls
abbrev pub RightRead : Result (Header × List Entry) Fault → Type 0
RightRead (Ok b) = Holds (way_of b.0) b.0.period (run (way_of b.0) b.0.period (calls_of b.1))
RightRead (Err f) = Unit {0}

abbrev pub Right : List ℕ → Type 0
Right bytes = RightRead (read_book bytes)
