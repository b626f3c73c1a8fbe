-- The laws of fields, each once over a list of widths.
use Rattle.std.proofs.Common.{◌≡◌, ℕ, ◌+◌, ◌-◌, ◌*◌, ◌/◌, ◌%◌, ◌^◌, ◌<◌, ◌≤◌, eqb, ltb, List, [], ◌∷◌, length, sym, refl, ap, ◌∙◌, subst, inl, inr, add_assoc, mod-eq_of_lt, mul_assoc, add-mul, zero-mul, arith, pow_pos, pow_mono, pow-add}
use Rattle.std.proofs.lemmas.Nat.{mod-pow-add, shr_high, mod_low, mod_below, mul-add-lt}
use Rattle.std.proofs.lemmas.Bool.{cases_lt, lt-ltb, le-ltb, eq-eqb, ne_eqb}
use Rattle.packing.specs.Fields.{field, fields, width, pack, Fit, six, front}
use Rattle.packing.specs.Laws.{FieldsGiveTheWord, ValuesComeBack, WordsFit, BytesComeBack, WordComesBack}

-- the fields in the lowest bits of a number, by the width of what lies behind each
abbrev pub cut : List ℕ → ℕ → List ℕ
cut [] n = []
cut (w ∷ ws) n = n / 2 ^ width ws % 2 ^ w ∷ cut ws n

fields_cut : (f : ℕ) (ws : List ℕ) (n : ℕ) → f + width ws ≡ 48 → fields f ws n ≡ cut ws n
fields_cut f [] n h = refl
fields_cut f (w ∷ ws) n h =
    let behind : 48 - f - w ≡ width ws = omega arith in
    let first : field f w n ≡ n / 2 ^ width ws % 2 ^ w = ap (λ k. n / 2 ^ k % 2 ^ w) behind in
    let others = fields_cut (f + w) ws n (omega arith) in
    cc

pack_lt : (ws vs : List ℕ) → Fit ws vs → pack ws vs < 2 ^ width ws
pack_lt [] [] h = omega arith
pack_lt [] (v ∷ vs) h = absurd h
pack_lt (w ∷ ws) [] h = absurd h
pack_lt (w ∷ ws) (v ∷ vs) h =
    let p = pack_lt ws vs h.1 in
    let q = mul-add-lt v (2 ^ width ws) (pack ws vs) (2 ^ w) h.0 p in
    rw pow-add (omega arith)

-- what stands above the fields does not matter
cut_above : (ws vs : List ℕ) (k : ℕ) → Fit ws vs → cut ws (k * 2 ^ width ws + pack ws vs) ≡ vs
cut_above [] [] k h = refl
cut_above [] (v ∷ vs) k h = absurd h
cut_above (w ∷ ws) [] k h = absurd h
cut_above (w ∷ ws) (v ∷ vs) k h =
    let again : k * 2 ^ (w + width ws) + (v * 2 ^ width ws + pack ws vs) ≡ (k * 2 ^ w + v) * 2 ^ width ws + pack ws vs =
    rw (pow-add 2 w (width ws), add-mul (k * 2 ^ w) v (2 ^ width ws)) (rw (mul_assoc, add_assoc)) in
    let first : (k * 2 ^ (w + width ws) + (v * 2 ^ width ws + pack ws vs)) / 2 ^ width ws % 2 ^ w ≡ v =
    rw (again, shr_high (k * 2 ^ w + v) (width ws) (pack ws vs) (pack_lt ws vs h.1), mod_low k w v h.0) in
    let others : cut ws (k * 2 ^ (w + width ws) + (v * 2 ^ width ws + pack ws vs)) ≡ vs =
    rw again (cut_above ws vs (k * 2 ^ w + v) h.1) in
    cc

cut_pack : (ws vs : List ℕ) → Fit ws vs → cut ws (pack ws vs) ≡ vs
cut_pack ws vs h = let e : 0 * 2 ^ width ws + pack ws vs ≡ pack ws vs = rw zero-mul (omega arith) in rw e at (cut_above ws vs 0 h)

pack_cut : (ws : List ℕ) (n : ℕ) → pack ws (cut ws n) ≡ n % 2 ^ width ws
pack_cut [] n = omega arith
pack_cut (w ∷ ws) n = rw (pack_cut ws n) (sym (mod-pow-add n w (width ws)))

pub fields_give_the_word : FieldsGiveTheWord
fields_give_the_word ws n full small =
    let low : n < 2 ^ width ws = rw full small in
    ap (pack ws) (fields_cut 0 ws n (omega arith)) ∙ pack_cut ws n ∙ mod-eq_of_lt low

pub values_come_back : ValuesComeBack
values_come_back ws vs full fit = fields_cut 0 ws (pack ws vs) (omega arith) ∙ cut_pack ws vs fit

pub words_fit : WordsFit
words_fit ws vs full fit = subst (λ k. pack ws vs < 2 ^ k) full (pack_lt ws vs fit)

-- six bytes are the front of themselves
front_six : (s : List ℕ) → length s ≡ 6 → front s ≡ s
front_six [] h = absurd (omega arith)
front_six (a ∷ []) h = absurd (omega arith)
front_six (a ∷ b ∷ []) h = absurd (omega arith)
front_six (a ∷ b ∷ c ∷ []) h = absurd (omega arith)
front_six (a ∷ b ∷ c ∷ d ∷ []) h = absurd (omega arith)
front_six (a ∷ b ∷ c ∷ d ∷ e ∷ []) h = absurd (omega arith)
front_six (a ∷ b ∷ c ∷ d ∷ e ∷ f ∷ []) h = refl
front_six (a ∷ b ∷ c ∷ d ∷ e ∷ f ∷ g ∷ s) h = absurd (omega arith)

pub bytes_come_back : BytesComeBack
bytes_come_back s h small =
    values_come_back six (front s) refl (small 0, (small 1, (small 2, (small 3, (small 4, (small 5, tt)))))) ∙ front_six s h

pub word_comes_back : WordComesBack
word_comes_back n small = fields_give_the_word six n refl small

-- ---- a field that is wider than the number

pub mod_wide : (n w : ℕ) → n < 2 ^ 64 → 64 ≤ w → n ≡ n % 2 ^ w
mod_wide n w h wide = let more = pow_mono {i = 64} {j = w} wide in let lt : n < 2 ^ w = omega arith in sym (mod-eq_of_lt lt)

-- the lowest bits are the whole where the number fits
pub lowest_whole : (n w r : ℕ) → r ≡ n % 2 ^ w → eqb r n ≡ ltb n (2 ^ w)
lowest_whole n w r e =
    elim (cases_lt n (2 ^ w)) [
      | inl lt ↦ eq-eqb r n (e ∙ mod-eq_of_lt lt) ∙ sym (lt-ltb n (2 ^ w) lt)
      | inr ge ↦ let below = mod_below n (2 ^ w) (pow_pos w) in ne_eqb r n (omega arith) ∙ sym (le-ltb n (2 ^ w) ge)
    ]
