use Rattle.std.proofs.Common.{◌≡◌, ℕ, List, IfOk, string_bytes, sym, ap, subst}
use Rattle.book.proofs.Fronts.{read_of_input}
use Rattle.listing.specs.Listing.{listed as text_of}
use Rattle.listing.proofs.listing.Goals as goal

pub returns : goal.returns
returns c input e =
    subst (λ (l : List ℕ). IfOk c.listed.result (λ text. string_bytes text ≡ l)) (sym (ap text_of (read_of_input c.args.bytes.now input e))) c.listed.ensures
