-- What lines do to the accounts.
use Rattle.std.proofs.Common.{◌≡◌, ℕ, ◌+◌, ◌<◌, ◌≤◌, cond, eqb, List, [], ◌∷◌, length, fold, sum_by, sym, refl, ap, ◌∙◌, inl, inr, arith}
use Rattle.std.specs.List.{AllByRecursion}
use Rattle.std.proofs.lemmas.List.{get_or-set_same, get_or-set_other, length-set}
use Rattle.std.proofs.lemmas.List.Sums.{sum_by-cons, sum_by-set}
use Rattle.std.proofs.lemmas.Bool.{cases_eq, cond-true, cond-false, eq-eqb, ne_eqb}
use Rattle.orders.specs.declared.order.Line.{Line}
use Rattle.orders.specs.declared.order.Account.{Account}
use Rattle.orders.specs.Orders.{last_member}
use Rattle.orders.specs.Settlement.{member_places, no_account, account, charged, charge, bill, credit, ranked}
use Rattle.orders.proofs.Sifts.{sum_ranked}
use Rattle.history.specs.Fairness.{pays_of, gets_of, Accounted}

pub charge_long : (period : ℕ) (acs : List Account) (l : Line) → length (charge period acs l) ≡ length acs
charge_long period acs l = length-set acs l.member (charged period l (account acs l.member))

-- a figure of an account, and what a line adds to it
module _ (period : ℕ) (figure : Account → ℕ) (part : Line → ℕ) (adds : (l : Line) (a : Account) → figure (charged period l a) ≡ figure a + part l) where
  charge_at : (acs : List Account) (l : Line) → l.member < length acs → (m : ℕ) →
      figure (account (charge period acs l) m) ≡ figure (account acs m) + cond (eqb l.member m) (part l) 0
  charge_at acs l h m =
      let a = charged period l (account acs l.member) in
      elim (cases_eq m l.member) [
        | inl d ↦ omega (
          arith,
          cond-true (eqb l.member m) (part l) 0 (eq-eqb l.member m (sym d)),
          ap (λ i. figure (account acs i)) d,
          ap (λ i. figure (account (charge period acs l) i)) d ∙ ap figure (get_or-set_same acs l.member a no_account h),
          adds l (account acs l.member),
        )
        | inr n ↦ omega (
          arith,
          cond-false (eqb l.member m) (part l) 0 (ne_eqb l.member m (λ x. n (sym x))),
          ap figure (get_or-set_other acs l.member m a no_account n),
        )
      ]

  charges_at : (acs : List Account) (ls : List Line) → length acs ≡ member_places → AllByRecursion (λ (l : Line). l.member ≤ last_member) ls → (m : ℕ) →
      figure (account (fold (charge period) acs ls) m) ≡ figure (account acs m) + sum_by (λ (l : Line). cond (eqb l.member m) (part l) 0) ls
  charges_at acs [] e h m = omega arith
  charges_at acs (l ∷ ls) e h m = omega (
    arith,
    charges_at (charge period acs l) ls (charge_long period acs l ∙ e) h.1 m,
    charge_at acs l (omega (arith, e, h.0)) m,
    sum_by-cons (λ (l : Line). cond (eqb l.member m) (part l) 0) l ls,
  )

  charges_sum : (acs : List Account) (ls : List Line) → length acs ≡ member_places → AllByRecursion (λ (l : Line). l.member ≤ last_member) ls →
      sum_by figure (fold (charge period) acs ls) ≡ sum_by figure acs + sum_by part ls
  charges_sum acs [] e h = omega arith
  charges_sum acs (l ∷ ls) e h = omega (
    arith,
    charges_sum (charge period acs l) ls (charge_long period acs l ∙ e) h.1,
    sum_by-set figure acs l.member (charged period l (account acs l.member)) no_account (omega (arith, e, h.0)),
    adds l (account acs l.member),
    sum_by-cons part l ls,
  )

charges_long : (period : ℕ) (acs : List Account) (ls : List Line) → length (fold (charge period) acs ls) ≡ length acs
charges_long period acs [] = refl
charges_long period acs (l ∷ ls) = charges_long period (charge period acs l) ls ∙ charge_long period acs l

module _ (period : ℕ) (acs : List Account) (ls : List Line) (long : length acs ≡ member_places) (members : AllByRecursion (λ (l : Line). l.member ≤ last_member) ls) where
  -- every account grows by the ranked lines of its member
  pub charges_accounted : Accounted period acs (ranked ls) (fold (charge period) acs ls)
  charges_accounted = record {
    as_many = charges_long period acs ls;
    pays = λ m. omega (
      arith,
      charges_at period (λ a. a.pays) (bill period) (λ _ _. refl) acs ls long members m,
      sum_ranked (pays_of period m) ls,
    );
    gets = λ m. omega (
      arith,
      charges_at period (λ a. a.gets) (credit period) (λ _ _. refl) acs ls long members m,
      sum_ranked (gets_of period m) ls,
    );
  }

  -- where the lines' bills and credits add up alike, so do all accounts, if they did
  pub charges_even : sum_by (bill period) ls ≡ sum_by (credit period) ls → sum_by (λ (a : Account). a.pays) acs ≡ sum_by (λ (a : Account). a.gets) acs →
      sum_by (λ (a : Account). a.pays) (fold (charge period) acs ls) ≡ sum_by (λ (a : Account). a.gets) (fold (charge period) acs ls)
  charges_even e h = omega (
    arith,
    charges_sum period (λ a. a.pays) (bill period) (λ _ _. refl) acs ls long members,
    charges_sum period (λ a. a.gets) (credit period) (λ _ _. refl) acs ls long members,
  )
