-- Every round is fair.
use Rattle.std.proofs.Common.{◌≡◌, ℕ, suc, Bool, true, false, List, [], ◌∷◌, length, sum_by, sym, refl, ◌∙◌, subst, arith}
use Rattle.curves.specs.Allotments.{Best}
use Rattle.curves.specs.Sharing.{SharingMeaning, SharingLaw}
use Rattle.curves.specs.Pricing.{PriceMeaning, PriceLaw}
use Rattle.ticks.specs.Ticks.{highest_tick}
use Rattle.orders.specs.declared.order.Order.{Order}
use Rattle.orders.specs.declared.order.Line.{Line}
use Rattle.orders.specs.Orders.{standing}
use Rattle.orders.specs.Settlement.{Session, member_places, bill, credit, ranked, settled}
use Rattle.orders.proofs.Sifts.{sum_ranked, ranked_all}
use Rattle.steps.specs.declared.call.Outcome.{Outcome}
use Rattle.steps.specs.Uniform.{standing_of, standing_bids}
use Rattle.steps.specs.Pairing.{Pairs, pair_lines}
use Rattle.steps.specs.Ways.{Uniform, Paired, Continuous, PairsLaw, round_lines}
use Rattle.steps.specs.Calls.{outcome, round}
use Rattle.history.specs.Fairness.{of_order, on_side, award_of, Kept, Owed, FairUniform, FairPaired, RoundsAreFair}
use Rattle.history.proofs.Orders.{Good, good_sound}
use Rattle.history.proofs.Fills.{Fits, settles}
use Rattle.history.proofs.Charges.{charges_accounted}
use Rattle.history.proofs.PairLines.{in_pairs_sides, in_pairs_even, pair_lines_fit, pair_lines_in_pairs, pair_lines_uncross}
use Rattle.history.proofs.Uniforms.{round_fits, round_priced, round_sums, round_even, round_best}

-- lines that fit, and whose sides add up alike in quantity and in money, are what a round owes
pub owed : (s : Session) (o : Outcome) (ls : List Line) → Good s.orders → length s.accounts ≡ member_places → Fits s.orders ls →
    ((side : Bool) → sum_by (on_side side) ls ≡ o.volume) → sum_by (bill s.period) ls ≡ sum_by (credit s.period) ls →
    Owed s (o, settled ls s)
owed s o ls good long fits sums even =
    let st = settles s.orders ls good fits in
    record {
      kept = ranked_all (Kept s.orders) ls st.kept;
      volume = λ side. sum_ranked (on_side side) ls ∙ sums side;
      even = sum_ranked (bill s.period) ls ∙ even ∙ sym (sum_ranked (credit s.period) ls);
      accounts = charges_accounted s.period s.accounts ls long st.members;
      taken = λ k. omega (arith, st.taken k, sum_ranked (of_order (suc k)) ls);
    }

award_ranked : (os : List Order) (ls : List Line) → award_of os ls ≡ award_of os (ranked ls)
award_ranked [] ls = refl
award_ranked (o ∷ os) ls = let a = sum_ranked (of_order o.number) ls in let b = award_ranked os ls in cc

pub uniform_fair : (price : PriceMeaning) (share : SharingMeaning) (reference : ℕ) → PriceLaw highest_tick price → SharingLaw share →
    (s : Session) → Good s.orders → length s.accounts ≡ member_places →
    FairUniform s (round (Uniform price share reference) s)
uniform_fair price share reference priced shared s good long =
    let w = Uniform price share reference in
    let os = s.orders in
    let ls = round_lines w os in
    record {
      owed = owed s (outcome w s) ls good long (round_fits price share reference priced shared os good)
          (round_sums price share reference priced shared os good) (round_even price share reference priced shared os good s.period);
      price = ranked_all _ ls (round_priced price share reference priced shared os good);
      best = subst (Best (standing_bids os)) (award_ranked (standing_of os) ls) (round_best price share reference priced shared os good);
    }

pub paired_fair : (rules : Pairs) → PairsLaw rules → (s : Session) → Good s.orders → length s.accounts ≡ member_places → FairPaired s (round (Paired rules) s)
paired_fair rules laws s good long =
    let w = Paired rules in
    let os = s.orders in
    let n = sum_by standing os in
    let ls = pair_lines rules os in
    let twos = pair_lines_in_pairs rules laws n 0 os good (omega arith) in
    record {
      owed = owed s (outcome w s) ls good long (pair_lines_fit rules laws n 0 os good (omega arith))
          (sides_alike ls (in_pairs_sides 0 ls twos)) (in_pairs_even s.period 0 ls twos);
      pairs = (ls, refl, twos);
      uncrossed = pair_lines_uncross rules laws n 0 os good (omega arith);
    }
  where
    sides_alike : (ls : List Line) → sum_by (on_side true) ls ≡ sum_by (on_side false) ls → (side : Bool) → sum_by (on_side side) ls ≡ sum_by (on_side true) ls
    sides_alike ls e true = refl
    sides_alike ls e false = sym e

pub rounds_are_fair : RoundsAreFair
rounds_are_fair (Uniform price share reference) laws s sound long =
    uniform_fair price share reference laws.0 laws.1 s (good_sound s.orders sound) long
rounds_are_fair (Paired rules) laws s sound long = paired_fair rules laws s (good_sound s.orders sound) long
rounds_are_fair (Continuous rules) laws s sound long = tt
