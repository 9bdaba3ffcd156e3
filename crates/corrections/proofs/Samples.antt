-- The pairs of books in which one amount is corrected, by computation; and what follows: no ceiling can be lowered, a netted value has none below
-- 601,000, and no other figures are the exact effects of five amounts. Assumes nothing.
use Prim.Native.Nat.{ℕ, ◌+◌, ◌*◌, ◌≤◌, ◌<◌}
use mathlib.Core.Path.{◌≡◌, refl, sym, ap}
use mathlib.Core.List.{List, [], flat_map}
use native.Mathlib.Omega.{arith}
use native.Mathlib.Nat.{le_antisymm, mul-le-mul_right, le_of_mul-le-mul_right}
use lib.IntN.{pos, nat_abs}
use lib.ListN.{length, set, length-set}
use lib.Seq.{get_or-set_other}
use Rattle.rules.specs.Word.{word, kind_of, gain_of, loss_of}
use Rattle.rules.specs.Run.{run_from}
use Rattle.rules.specs.Faults.{cause, asset_fault, derivative_set_fault, trade_fault, basket_fault, written_fault, financing_set_fault, financing_trade_fault, off_balance_fault}
use Rattle.rules.specs.Calendar.{leap_days, days_of, after, date_in, date_of, day_of, later, bands_of}
use Rattle.rules.specs.Read.{head_faulty, date_faulty, reporting_date, head_of, lacks, record_then, asset_at, asset_turn, cover_turn, written_at, written_turn, trade_at, trade_turn, basket_at, basket_turn}
use Rattle.rules.specs.Read.{member_turn, derivative_set_at, derivative_set_turn, financing_trade_at, financing_trade_turn, financing_member_turn, financing_set_at, financing_set_turn, off_balance_at}
use Rattle.rules.specs.Read.{off_balance_turn, item_of, end_fault, item_turn, protections_of, items_of}
use Rattle.rules.specs.Factors.{market_factor, trade_factor, conversion_of}
use Rattle.rules.specs.Weighted.{weighted_of}
use Rattle.rules.specs.Weigh.{trade_add_on, sorted_down, basket_add_on, written_add_on, kept_in, tally_of, replacement_of, weighted_in, sum_below, cash_netted, excess_of}
use Rattle.rules.specs.Rows.{asset_rows, sums_of, rows_of}
use Rattle.rules.specs.Register.{draws_from, draws_of, draws_over, unfit_for, draw_fault, settle}
use Rattle.rules.specs.Filing.{records_outcome, admission, outcome_of, filing}
use Rattle.rules.specs.TwoDesks.{exposure_in}
use Rattle.corrections.specs.Roles.{Role, role_at}
use Rattle.corrections.specs.Claims.{units, NoLower, LowestCeilings}
use Rattle.corrections.specs.Effects.{OnlyFigure, OnlyFigures}
use Rattle.corrections.specs.Pairs.{lent_rows, Pair, PairsMove, Rise, PairsRise}
use Rattle.corrections.proofs.Apart.{gap, whole_apart}

-- a book with another amount at a place is equal to it but for that
made : {xs : List ℕ} {k amount : ℕ} {role : Role} {d before after : ℕ} → k < length xs → kind_of (word xs k) ≡ 0 → kind_of (word (set xs k amount) k) ≡ 0
    → role_at xs k ≡ role → units xs (set xs k amount) k ≡ d → (filing xs (lent_rows 23) []).number ≡ 0 → (filing (set xs k amount) (lent_rows 22) []).number ≡ 0
    → exposure_in (filing xs (lent_rows 23) []) ≡ pos before → exposure_in (filing (set xs k amount) (lent_rows 22) []) ≡ pos after → Pair xs k amount role d before after
made {xs} {k} {amount} l e f r u a b x y = record {
  alike = record { long = sym (length-set xs k amount); there = l; first = e; second = f; others = λ i n. sym (get_or-set_other xs k i amount 0 n) };
  role_is = r;
  units_are = u;
  first_accepted = a;
  second_accepted = b;
  first_row = x;
  second_row = y;
}

computed : PairsMove × PairsRise
unfolding gain_of loss_of run_from cause asset_fault derivative_set_fault trade_fault basket_fault written_fault financing_set_fault financing_trade_fault off_balance_fault leap_days days_of after date_in date_of day_of later bands_of head_faulty date_faulty reporting_date head_of lacks record_then asset_at asset_turn cover_turn written_at written_turn trade_at trade_turn basket_at basket_turn member_turn derivative_set_at derivative_set_turn financing_trade_at financing_trade_turn financing_member_turn financing_set_at financing_set_turn off_balance_at off_balance_turn item_of end_fault item_turn protections_of items_of market_factor trade_factor conversion_of weighted_of trade_add_on sorted_down basket_add_on written_add_on kept_in tally_of replacement_of weighted_in sum_below cash_netted excess_of asset_rows sums_of rows_of draws_from draws_of draws_over unfit_for draw_fault settle records_outcome admission outcome_of filing flat_map
computed = (
  record {
    of_carrying = made (omega arith) refl refl refl refl refl refl refl refl;
    for_off_balance = made (omega arith) refl refl refl refl refl refl refl refl;
    of_trade = made (omega arith) refl refl refl refl refl refl refl refl;
    of_credit = made (omega arith) refl refl refl refl refl refl refl refl;
    of_basket = made (omega arith) refl refl refl refl refl refl refl refl;
    of_lent = made (omega arith) refl refl refl refl refl refl refl refl;
    of_lent_netted = made (omega arith) refl refl refl refl refl refl refl refl;
    of_lent_by_agent = made (omega arith) refl refl refl refl refl refl refl refl;
    of_lent_further = made (omega arith) refl refl refl refl refl refl refl refl;
    across_zero = made (omega arith) refl refl refl refl refl refl refl refl;
    of_netted_value = made (omega arith) refl refl refl refl refl refl refl refl;
  },
  record {
    of_carrying = record { pair = made (omega arith) refl refl refl refl refl refl refl refl; raised = refl };
    for_off_balance = record { pair = made (omega arith) refl refl refl refl refl refl refl refl; raised = refl };
    of_lower_second = record { pair = made (omega arith) refl refl refl refl refl refl refl refl; raised = refl };
    of_higher_second = record { pair = made (omega arith) refl refl refl refl refl refl refl refl; raised = refl };
    of_fiduciary = record { pair = made (omega arith) refl refl refl refl refl refl refl refl; raised = refl };
  },
)

pub pairs_move : PairsMove
pairs_move = computed.0

pub pairs_rise : PairsRise
pairs_rise = computed.1

-- where a pair attains a ceiling, no smaller figure holds
attained : {xs : List ℕ} {k amount : ℕ} {role : Role} {d before after : ℕ} (ceiling : ℕ) → Pair xs k amount role d before after → 0 < d → ceiling * d ≡ gap before after → NoLower role ceiling
attained {xs} {k} {amount} {role} {d} {before} {after} ceiling p some e figure l holds =
    let m = holds xs (set xs k amount) k (lent_rows 23) (lent_rows 22) [] [] p.alike p.role_is p.first_accepted p.second_accepted in
    let n : gap before after ≤ figure * d = rw (p.first_row, p.second_row, p.units_are, whole_apart before after) at m in
    omega (arith, mul-le-mul_right d l)

pub lowest_ceilings : LowestCeilings
lowest_ceilings = record {
  of_carrying = attained _ pairs_move.of_carrying (omega arith) refl;
  for_off_balance = attained _ pairs_move.for_off_balance (omega arith) refl;
  of_value = attained _ pairs_move.of_trade (omega arith) refl;
  of_lent = attained _ pairs_move.of_lent (omega arith) refl;
  of_lent_further = attained _ pairs_move.of_lent_further (omega arith) refl;
  of_netted_value = attained _ pairs_move.of_netted_value (omega arith) refl;
}

-- where a pair rises by a figure, no other holds of all
only : {xs : List ℕ} {k amount : ℕ} {role : Role} {d before after : ℕ} (figure : ℕ) → Rise xs k amount role d before after → 0 < d → after ≡ before + figure * d
    → OnlyFigure role figure
only {xs} {k} {amount} {role} {d} {before} {after} figure r some e other holds =
    let p = r.pair in
    let m = holds xs (set xs k amount) k d (lent_rows 23) (lent_rows 22) [] [] p.alike p.role_is r.raised p.first_accepted p.second_accepted in
    let n : pos after ≡ pos (before + other * d) = rw (p.first_row, p.second_row) at m in
    let same : other * d ≡ figure * d = omega (arith, ap nat_abs n) in
    le_antisymm (le_of_mul-le-mul_right (omega arith) some) (le_of_mul-le-mul_right (omega arith) some)

pub only_figures : OnlyFigures
only_figures = record {
  of_carrying = only _ pairs_rise.of_carrying (omega arith) refl;
  for_off_balance = only _ pairs_rise.for_off_balance (omega arith) refl;
  of_lower_second = only _ pairs_rise.of_lower_second (omega arith) refl;
  of_higher_second = only _ pairs_rise.of_higher_second (omega arith) refl;
  of_fiduciary = only _ pairs_rise.of_fiduciary (omega arith) refl;
}
