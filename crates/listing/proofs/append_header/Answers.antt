use Rattle.std.proofs.Common.{◌≡◌, ◌++◌, length, string_bytes, codes, sym, ap, ◌∙◌}
use Rattle.std.proofs.lemmas.Result.{on_ok_weaker}
use Rattle.book.specs.Reading.{entries}
use Rattle.listing.specs.Words.{way_name}
use Rattle.listing.specs.Listing.{named_line, header_lines}
use Rattle.listing.proofs.Lines.{five}
use Rattle.listing.proofs.Names.{way_named, sharing_named}
use Rattle.listing.proofs.append_header.Goals as goal

pub returns : goal.returns
returns c =
    let h = c.header-header.result in
    let was = string_bytes c.args.out.now in
    let way = c.name.ensures ∙ way_named c.way.result h.way (c.way.ensures ∙ sym (ap (λ x. x.way) c.header-header.ensures)) in
    let sharing = c.name-2.ensures ∙ sharing_named c.sharing.result h.sharing (c.sharing.ensures ∙ sym (ap (λ x. x.sharing) c.header-header.ensures)) in
    let same : header_lines h c.len.result ≡ header_lines c.args.book.now.header (length (entries c.args.book.now.rest.now)) = λ i. header_lines (c.header-header.ensures i) (c.len.ensures i) in
    on_ok_weaker c.append_number-3.result
    (λ last. five was _ _ _ _ _ (named_line (codes "way") h.way (way_name h.way)) _ _ _ _
    (c.in_ok-append_named.ensures ∙ ap (λ name. was ++ named_line (codes "way") h.way name) way)
    (c.in_ok-append_named-2.ensures ∙ ap (λ name. string_bytes c.append_named.new.out ++ named_line (codes "sharing") h.sharing name) sharing)
    c.in_ok-append_number.ensures
    c.in_ok-append_number-2.ensures
    last
    ∙ ap (λ lines. was ++ lines) same)
    c.append_number-3.ensures
