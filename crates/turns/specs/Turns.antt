-- Sharing by turns: a place of a group gets a sure part, and in its turn what it claims.
use Rattle.std.specs.Prelude.{◌≡◌, ℕ, suc, ◌+◌, ◌-◌, ◌≤◌, min, Bool, cond, ◌&&◌, ◌||◌, List, map, length, ◌==◌, nat_lt, slice_index}
use Rattle.std.specs.List.{range_with_len}
use Rattle.curves.specs.Sums.{total}
use Rattle.curves.specs.Sharing.{SharingMeaning}

-- the larger key goes first, and of equal keys the earlier place
abbrev pub goes_first : (ℕ → ℕ) → ℕ → ℕ → Bool
goes_first key i j = nat_lt (key j) (key i) || (key i == key j && nat_lt i j)

-- what those of n places claim that go before place k
abbrev pub claimed_before : ℕ → (ℕ → ℕ) → (ℕ → ℕ) → ℕ → ℕ
claimed_before n key claim k = total n (λ j. cond (goes_first key j k) (claim j) 0)

-- what place k gets in its turn: its claim, or what those before it leave of the amount
abbrev pub in_turn : ℕ → (ℕ → ℕ) → (ℕ → ℕ) → ℕ → ℕ → ℕ
in_turn n key claim amount k = min (claim k) (amount - claimed_before n key claim k)

-- a figure of the quantity at each place
abbrev pub of_place : (ℕ → ℕ) → List ℕ → ℕ → ℕ
of_place f group k = f (slice_index group k)

-- the shares, where sure part, key and claim of a place go by its quantity
abbrev pub by_turns : (ℕ → ℕ) → (ℕ → ℕ) → (ℕ → ℕ) → SharingMeaning
by_turns sure key claim amount group =
    map (λ k. of_place sure group k + in_turn (length group) (of_place key group) (of_place claim group) amount k) (range_with_len 0 (length group))

-- the same by a key alone: no part is sure, and each place claims its quantity
abbrev pub by_key : (ℕ → ℕ) → SharingMeaning
by_key key = by_turns (λ q. 0) key (λ q. q)

-- ---- how the turns are found

-- what those of n places claim whose key is above t
abbrev pub claims_above : ℕ → (ℕ → ℕ) → (ℕ → ℕ) → ℕ → ℕ
claims_above n key claim t = total n (λ k. cond (nat_lt t (key k)) (claim k) 0)

-- t is the key at which the amount runs out: enough for all keys above it, and not for more keys than its own
abbrev pub RunsOut : ℕ → (ℕ → ℕ) → (ℕ → ℕ) → ℕ → ℕ → Type 0
RunsOut n key claim amount t = (claims_above n key claim t ≤ amount) × ((s : ℕ) → t ≡ suc s → amount ≤ claims_above n key claim s)

-- what a place gets, where the amount runs out at t and `spare` is left for the rest of that key
abbrev pub got : (ℕ → ℕ) → (ℕ → ℕ) → ℕ → ℕ → ℕ → ℕ
got key claim t spare q = cond (nat_lt t (key q)) (claim q) (cond (t == key q) (min (claim q) spare) 0)
