-- Where an element of a list stands among those that pass a test.
use Rattle.std.proofs.Common.{◌≡◌, ℕ, ◌+◌, ◌<◌, Bool, true, List, ◌∷◌, ◌++◌, length, get_or, take, drop, count_by, filter, sym, ap, ◌∙◌, arith}
use Rattle.std.proofs.lemmas.List.{take-append-drop, drop_more, take_at, get_or_at, length-append}
use Rattle.std.proofs.lemmas.List.Elements.{filter-append}
use Rattle.std.proofs.lemmas.List.Sums.{length-filter}
use Rattle.std.proofs.lemmas.Bool.{cond-true}

module _ {X : Type 0} (P : X → Bool) (d : X) (xs : List X) (k : ℕ) where
  -- the place among those that pass
  abbrev pub place : ℕ
  place = count_by P (take k xs)

  kept_split : filter P xs ≡ filter P (take k xs) ++ filter P (drop k xs)
  kept_split = ap (filter P) (sym (take-append-drop k xs)) ∙ filter-append P (take k xs) (drop k xs)

  pub kept_front : take place (filter P xs) ≡ filter P (take k xs)
  kept_front = ap (take place) kept_split ∙ take_at (filter P (take k xs)) (filter P (drop k xs)) place (length-filter P (take k xs))

  kept_there : k < length xs → P (get_or xs k d) ≡ true →
      filter P xs ≡ filter P (take k xs) ++ (get_or xs k d ∷ filter P (drop (k + 1) xs))
  kept_there h y =
      kept_split ∙ ap (λ z. filter P (take k xs) ++ z)
      (ap (filter P) (drop_more xs k d h)
      ∙ cond-true (P (get_or xs k d)) (get_or xs k d ∷ filter P (drop (k + 1) xs)) (filter P (drop (k + 1) xs)) y)

  pub kept_here : k < length xs → P (get_or xs k d) ≡ true → get_or (filter P xs) place d ≡ get_or xs k d
  kept_here h y =
      ap (λ z. get_or z place d) (kept_there h y)
      ∙ get_or_at (filter P (take k xs)) (get_or xs k d) (filter P (drop (k + 1) xs)) d place (length-filter P (take k xs))

  pub kept_within : k < length xs → P (get_or xs k d) ≡ true → place < length (filter P xs)
  kept_within h y =
      omega (
        arith,
        ap length (kept_there h y),
        length-append (filter P (take k xs)) (get_or xs k d ∷ filter P (drop (k + 1) xs)),
        length-filter P (take k xs),
      )
