use Rattle.std.proofs.Common.{◌≡◌, ◌+◌, ◌++◌, string_bytes}
use Rattle.std.specs.Iterator.Adapters.{enumerate_source, enumerate_count}
use Rattle.book.specs.Reading.{entries}
use Rattle.listing.specs.Listing.{record_lines}
use Rattle.listing.proofs.append_records.Given as goal

abbrev pub invariant-loop-i : goal.invariant-loop-i
invariant-loop-i l =
    string_bytes l.out ++ record_lines (enumerate_count l.i-iterator + 1) (entries (enumerate_source l.i-iterator).rest.now) ≡ string_bytes l.initial.out ++ record_lines 1 (entries l.initial.book.rest.now)
