-- It holds after every list of calls.
use Rattle.std.proofs.Common.{◌≡◌, ℕ, ltb, List, [], ◌∷◌, replicate, fold, sym, refl, ap, inl, inr, arith}
use Rattle.std.proofs.lemmas.List.{length-replicate, get_or-replicate, get_or_past}
use Rattle.std.proofs.lemmas.Bool.{cases_lt, cond-false, le-ltb, both_ways}
use Rattle.orders.specs.declared.order.Account.{Account}
use Rattle.orders.specs.Settlement.{opening, member_places, no_account, account}
use Rattle.steps.specs.declared.call.Call.{Call}
use Rattle.steps.specs.Ways.{Way, Uniform, Paired, Continuous, Laws}
use Rattle.steps.specs.Calls.{step}
use Rattle.history.specs.Histories.{History, called, opened, Apart, EveryHistory}
use Rattle.history.proofs.Carries.{Sane, Held, fair_next, held_more}
use Rattle.history.proofs.Questions.{stepped, whole_steps}

no_accounts : (m : ℕ) → account (replicate member_places no_account) m ≡ no_account
no_accounts m =
    elim (cases_lt m member_places) [
      | inl l ↦ get_or-replicate member_places m no_account no_account l
      | inr l ↦ get_or_past (replicate member_places no_account) m no_account (omega (arith, length-replicate member_places no_account))
    ]

apart_none : (w : Way) → Apart w []
apart_none (Uniform price share reference) = tt
apart_none (Paired rules) = tt
apart_none (Continuous rules) = λ j k sj sk. absurd (both_ways _ refl sj)

module _ (w : Way) (laws : Laws w) (period : ℕ) where
  held_none : Held w period (opened period)
  held_none =
      let sane : Sane (opening period) = record { good = λ k l. absurd (omega arith); few = omega arith; members = length-replicate member_places no_account } in
      record {
        sane = sane;
        lasts = refl;
        holds = record {
          award = tt;
          asked = tt;
          limits = tt;
          pays = λ m. ap (λ (a : Account). a.pays) (no_accounts m);
          gets = λ m. ap (λ (a : Account). a.gets) (no_accounts m);
          even = refl;
          given = λ k. sym (cond-false {A = ℕ} (ltb k 0) 1 0 (le-ltb k 0 (omega arith)));
          named = λ k. refl;
          balance = λ k. refl;
          uncrossed = apart_none w;
          whole = tt;
          room = tt;
          fair = fair_next w laws (opening period) sane;
        };
      }

  held_called : (h : History) (c : Call) → Held w period h → Held w period (called w h c)
  held_called h c i =
      let s = h.session in
      held_more w laws period h c (step w s c) i (stepped w laws s i.sane c) (whole_steps w laws s i.sane i.holds.uncrossed c)

  held_all : (h : History) → Held w period h → (cs : List Call) → Held w period (fold (called w) h cs)
  held_all h i [] = i
  held_all h i (c ∷ cs) = held_all (called w h c) (held_called h c i) cs

pub every_history : EveryHistory
every_history w laws period cs = (held_all w laws period (opened period) (held_none w laws period) cs).holds
