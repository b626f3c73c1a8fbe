-- The elements of a list that pass a test, and a share for each of them, by place in the whole list.
use Rattle.std.proofs.Common.{◌≡◌, ℕ, zero, suc, ◌+◌, ◌<◌, Bool, true, false, cond, List, [], ◌∷◌, map, length, get_or, take, sum, count_by, filter, sym, refl, ap, ◌∙◌, inl, inr, arith}
use lib.ListN.{length-map}
use Rattle.std.proofs.lemmas.List.Sums.{sum_by-cons, length-filter}
use Rattle.std.proofs.lemmas.Bool.{cases_Bool, cond-true, cond-false}
use Rattle.curves.specs.Sums.{total}
use Rattle.curves.proofs.Sums.{total_same, total_head}

module _ {X : Type 0} (P : X → Bool) (d : X) where
  count_yes : (x : X) (xs : List X) → P x ≡ true → count_by P (x ∷ xs) ≡ suc (count_by P xs)
  count_yes x xs y = omega (arith, sum_by-cons (λ z. cond (P z) 1 0) x xs, cond-true {A = ℕ} (P x) 1 0 y)

  count_no : (x : X) (xs : List X) → P x ≡ false → count_by P (x ∷ xs) ≡ count_by P xs
  count_no x xs n = omega (arith, sum_by-cons (λ z. cond (P z) 1 0) x xs, cond-false {A = ℕ} (P x) 1 0 n)

  -- the share in ys of the element at place k, if that passes
  abbrev share_at : List X → List ℕ → ℕ → ℕ
  share_at xs ys k = cond (P (get_or xs k d)) (get_or ys (count_by P (take k xs)) 0) 0

  kept_skip : (x : X) (xs : List X) (ys : List ℕ) → P x ≡ false → total (length (x ∷ xs)) (share_at (x ∷ xs) ys) ≡ total (length xs) (share_at xs ys)
  kept_skip x xs ys n =
      let h = total_head (length xs) (share_at (x ∷ xs) ys) in
      let z : share_at (x ∷ xs) ys 0 ≡ 0 = cond-false (P x) (get_or ys 0 0) 0 n in
      let s : total (length xs) (λ k. share_at (x ∷ xs) ys (suc k)) ≡ total (length xs) (share_at xs ys) =
      total_same (length xs) _ _ (λ k _. ap (λ (c : ℕ). cond (P (get_or xs k d)) (get_or ys c 0) 0) (count_no x (take k xs) n)) in
      omega arith

  kept_take : (x : X) (xs : List X) (y : ℕ) (ys : List ℕ) → P x ≡ true → total (length (x ∷ xs)) (share_at (x ∷ xs) (y ∷ ys)) ≡ y + total (length xs) (share_at xs ys)
  kept_take x xs y ys p =
      let h = total_head (length xs) (share_at (x ∷ xs) (y ∷ ys)) in
      let z : share_at (x ∷ xs) (y ∷ ys) 0 ≡ y = cond-true (P x) y 0 p in
      let s : total (length xs) (λ k. share_at (x ∷ xs) (y ∷ ys) (suc k)) ≡ total (length xs) (share_at xs ys) =
      total_same (length xs) _ _ (λ k _. ap (λ (c : ℕ). cond (P (get_or xs k d)) (get_or (y ∷ ys) c 0) 0) (count_yes x (take k xs) p)) in
      omega arith

  pub kept_add : (xs : List X) (ys : List ℕ) → length ys ≡ count_by P xs → total (length xs) (share_at xs ys) ≡ sum ys
  kept_add [] [] e = unfold total in refl
  kept_add [] (y ∷ ys) e = absurd (omega arith)
  kept_add (x ∷ xs) [] e =
      elim (cases_Bool (P x)) [
        | inl p ↦ absurd (omega (arith, count_yes x xs p))
        | inr n ↦ kept_skip x xs [] n ∙ kept_add xs [] (e ∙ count_no x xs n)
      ]
  kept_add (x ∷ xs) (y ∷ ys) e =
      elim (cases_Bool (P x)) [
        | inl p ↦ omega (arith, kept_take x xs y ys p, kept_add xs ys (omega (arith, count_yes x xs p)), sum_by-cons (λ (n : ℕ). n) y ys)
        | inr n ↦ kept_skip x xs (y ∷ ys) n ∙ kept_add xs (y ∷ ys) (e ∙ count_no x xs n)
      ]

  module _ (f : X → ℕ) where
    pub kept_at : (xs : List X) (k : ℕ) → k < length xs → P (get_or xs k d) ≡ true → get_or (map f (filter P xs)) (count_by P (take k xs)) 0 ≡ f (get_or xs k d)
    kept_at [] k h y = absurd (omega arith)
    kept_at (x ∷ xs) zero h y = ap (λ (zs : List X). get_or (map f zs) 0 0) (cond-true (P x) (x ∷ filter P xs) (filter P xs) y)
    kept_at (x ∷ xs) (suc k) h y =
        elim (cases_Bool (P x)) [
          | inl p ↦
              ap (λ (zs : List X). get_or (map f zs) (count_by P (x ∷ take k xs)) 0) (cond-true (P x) (x ∷ filter P xs) (filter P xs) p)
              ∙ ap (λ (c : ℕ). get_or (map f (x ∷ filter P xs)) c 0) (count_yes x (take k xs) p)
              ∙ kept_at xs k (omega arith) y
          | inr n ↦
              ap (λ (zs : List X). get_or (map f zs) (count_by P (x ∷ take k xs)) 0) (cond-false (P x) (x ∷ filter P xs) (filter P xs) n)
              ∙ ap (λ (c : ℕ). get_or (map f (filter P xs)) c 0) (count_no x (take k xs) n)
              ∙ kept_at xs k (omega arith) y
        ]

    pub length_kept : (xs : List X) → length (map f (filter P xs)) ≡ count_by P xs
    length_kept xs = length-map (filter P xs) f ∙ length-filter P xs

    pub sum_kept : (xs : List X) → sum (map f (filter P xs)) ≡ total (length xs) (λ k. cond (P (get_or xs k d)) (f (get_or xs k d)) 0)
    sum_kept xs =
        sym (kept_add xs (map f (filter P xs)) (length_kept xs))
        ∙ total_same (length xs) _ _ (λ k h. elim (cases_Bool (P (get_or xs k d))) [ inl y ↦ rw y (kept_at xs k h y) | inr n ↦ rw n refl ])
