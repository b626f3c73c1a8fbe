-- The buffer while a book is put into it, record by record.
use Rattle.std.proofs.Common.{◌≡◌, ℕ, ◌+◌, ◌-◌, ◌*◌, ◌<◌, ◌≤◌, List, ◌++◌, length, get_or, take, drop, sym, ap, ◌∙◌, arith}
use borrow.Rule.Slice.PartMut.{put_mid}
use Rattle.std.specs.List.{flat_map}
use Rattle.std.proofs.lemmas.List.{take_more, flat_map_more, append_assoc, drop-drop, take_at, drop_at, length-append, length-take, take_all}
use Rattle.book.specs.declared.values.Entry.{Entry}
use Rattle.book.specs.Writing.{entry_bytes, book_length}
use Rattle.book.proofs.RoundTrip.{length_records}

pub put_six : (at : ℕ) (out part six : List ℕ) → part ≡ six → put_mid at (at + 6 - at) out part ≡ take at out ++ (six ++ drop (at + 6) out)
put_six at out part six e =
    let k : at + 6 - at ≡ 6 = omega arith in
    rw (k, e) (ap (λ (l : List ℕ). take at out ++ (six ++ l)) (drop-drop 6 at out))

-- one record more: `was` is the buffer behind the header, `head` its first six bytes
pub put_more : (head was out : List ℕ) (es : List Entry) (i : ℕ) (d : Entry) (six : List ℕ) → i < length es → six ≡ entry_bytes (get_or es i d) → length head ≡ 6 → 6 + 6 * i + 6 ≤ length was → out ≡ (head ++ flat_map entry_bytes (take i es)) ++ drop (6 + 6 * i) was → take (6 + 6 * i) out ++ (six ++ drop (6 + 6 * i + 6) out) ≡ (head ++ flat_map entry_bytes (take (i + 1) es)) ++ drop (6 + 6 * (i + 1)) was
put_more head was out es i d six h six-is head-long room e =
    let at = 6 + 6 * i in
    let done = head ++ flat_map entry_bytes (take i es) in
    let long : length done ≡ at = rw (length-append, length_records (take i es), length-take) (omega arith) in
    let front-is : take at out ≡ done = ap (take at) e ∙ take_at done (drop at was) at long in
    let rest-is : drop at out ≡ drop at was = ap (drop at) e ∙ drop_at done (drop at was) at long in
    let next : at + 6 ≡ 6 + 6 * (i + 1) = omega arith in
    let behind-is : drop (at + 6) out ≡ drop (6 + 6 * (i + 1)) was = sym (drop-drop 6 at out) ∙ ap (drop 6) rest-is ∙ drop-drop 6 at was ∙ ap (λ n. drop n was) next in
    let grown : done ++ six ≡ head ++ flat_map entry_bytes (take (i + 1) es) =
    ap (λ (l : List ℕ). done ++ l) six-is ∙ flat_map_more entry_bytes head (take i es) (get_or es i d) ∙ ap (λ (l : List Entry). head ++ flat_map entry_bytes l) (sym (take_more es i d h)) in
    (λ j. front-is j ++ (six ++ behind-is j)) ∙ sym (append_assoc done six (drop (6 + 6 * (i + 1)) was)) ∙ ap (λ (l : List ℕ). l ++ drop (6 + 6 * (i + 1)) was) grown

-- all records: `old` is the buffer as it was lent
pub put_done : (head was old out : List ℕ) (es : List Entry) (i at : ℕ) → length head ≡ 6 → was ≡ head ++ drop 6 old → length es ≤ i → at ≡ book_length es → out ≡ (take 6 was ++ flat_map entry_bytes (take i es)) ++ drop at was → out ≡ (head ++ flat_map entry_bytes es) ++ drop (book_length es) old
put_done head was old out es i at head-long was-is all at-is e =
    let head-is : take 6 was ≡ head = ap (take 6) was-is ∙ take_at head (drop 6 old) 6 head-long in
    let rest-is : drop 6 was ≡ drop 6 old = ap (drop 6) was-is ∙ drop_at head (drop 6 old) 6 head-long in
    let behind-is : drop at was ≡ drop (book_length es) old =
    ap (λ (m : ℕ). drop m was) at-is ∙ sym (drop-drop (6 * length es) 6 was) ∙ ap (drop (6 * length es)) rest-is ∙ drop-drop (6 * length es) 6 old in
    let whole = take_all i es all in
    e ∙ (λ j. (head-is j ++ flat_map entry_bytes (whole j)) ++ behind-is j)
