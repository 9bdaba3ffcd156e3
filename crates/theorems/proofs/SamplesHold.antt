-- The definitions give every listed figure of the samples, and refuse the heads of request A.2 and the baskets of A.3, by computation. Assumes nothing.
use mathlib.Core.Path.{refl}
use Rattle.rules.specs.Word.{gain_of, loss_of}
use Rattle.rules.specs.Run.{run_from}
use Rattle.rules.specs.Faults.{cause, protection_fault, asset_fault, derivative_set_fault, trade_fault, basket_fault, written_fault, cover_fault, financing_set_fault, financing_trade_fault, off_balance_fault}
use Rattle.rules.specs.Calendar.{leap_days, days_of, after, date_in, date_of, day_of, later, bands_of}
use Rattle.rules.specs.Read.{head_faulty, date_faulty, reporting_date, head_of, lacks, record_then, protection_at, protection_turn, asset_at, asset_turn, cover_at, cover_turn, written_at, written_turn, trade_at, trade_turn, basket_at, basket_turn, member_turn, derivative_set_at, derivative_set_turn, financing_trade_at, financing_trade_turn, financing_member_turn, financing_set_at, financing_set_turn, off_balance_at, off_balance_turn, item_of, end_fault, item_turn, protections_of, items_of}
use Rattle.rules.specs.Factors.{market_factor, trade_factor, conversion_of}
use Rattle.rules.specs.Weighted.{weighted_of}
use Rattle.rules.specs.Weigh.{trade_add_on, sorted_down, basket_add_on, written_add_on, kept_in, tally_of, replacement_of, weighted_in, sum_below, cash_netted, excess_of}
use Rattle.rules.specs.Ratio.{ratio_of, verdict_of}
use Rattle.rules.specs.Rows.{asset_rows, sums_of, rows_of}
use Rattle.rules.specs.Register.{draws_from, draws_of, draws_over, unfit_for, draw_fault, settle}
use Rattle.rules.specs.Filing.{records_outcome, admission, outcome_of, filing}
use Rattle.theorems.specs.Samples.{samples, AllSamples}
use Rattle.theorems.specs.Heads.{heads, HeadCases}
use Rattle.theorems.specs.Baskets.{baskets, refusals, BasketCases}
use Rattle.theorems.specs.Covered.{covered, CoveredCases}

pub all_samples : AllSamples
unfolding samples gain_of loss_of run_from cause protection_fault asset_fault derivative_set_fault trade_fault written_fault cover_fault financing_set_fault financing_trade_fault off_balance_fault leap_days days_of after date_in date_of day_of later bands_of head_faulty date_faulty reporting_date head_of lacks record_then protection_at protection_turn asset_at asset_turn cover_at cover_turn written_at written_turn trade_at trade_turn member_turn derivative_set_at derivative_set_turn financing_trade_at financing_trade_turn financing_member_turn financing_set_at financing_set_turn off_balance_at off_balance_turn item_of end_fault item_turn protections_of items_of market_factor trade_factor conversion_of weighted_of trade_add_on written_add_on kept_in tally_of replacement_of weighted_in sum_below cash_netted excess_of ratio_of verdict_of asset_rows sums_of rows_of draws_from draws_of draws_over unfit_for draw_fault settle records_outcome admission outcome_of filing
all_samples = record { accepted = refl; given_as_listed = refl }

pub head_cases : HeadCases
unfolding heads gain_of loss_of run_from cause leap_days days_of after date_in date_of day_of later bands_of head_faulty date_faulty reporting_date head_of end_fault item_turn protections_of items_of ratio_of verdict_of sums_of rows_of draws_over settle records_outcome admission outcome_of filing
head_cases = record { refusals = (refl, (refl, (refl, (refl, (refl, (refl, (refl, (refl, (refl, (refl, tt)))))))))); first_date = refl; at_last_date = refl }

pub basket_cases : BasketCases
unfolding baskets refusals gain_of loss_of run_from cause protection_fault derivative_set_fault basket_fault written_fault cover_fault financing_set_fault leap_days days_of after date_in date_of day_of later bands_of head_faulty date_faulty reporting_date head_of lacks record_then protection_at protection_turn cover_at cover_turn written_at written_turn basket_at basket_turn member_turn derivative_set_at derivative_set_turn financing_member_turn financing_set_at financing_set_turn item_of end_fault item_turn protections_of items_of weighted_of sorted_down basket_add_on written_add_on kept_in tally_of replacement_of weighted_in sum_below cash_netted excess_of ratio_of verdict_of sums_of rows_of draws_from draws_of draws_over unfit_for draw_fault settle records_outcome admission outcome_of filing
basket_cases = record { accepted = record { accepted = refl; given_as_listed = refl }; refused = refl }

pub covered_cases : CoveredCases
unfolding covered gain_of loss_of run_from cause protection_fault derivative_set_fault trade_fault written_fault cover_fault leap_days days_of after date_in date_of day_of later bands_of head_faulty date_faulty reporting_date head_of lacks record_then protection_at protection_turn cover_at cover_turn written_at written_turn trade_at trade_turn member_turn derivative_set_at derivative_set_turn item_of end_fault item_turn protections_of items_of market_factor trade_factor weighted_of trade_add_on written_add_on kept_in tally_of replacement_of weighted_in sums_of rows_of draws_from draws_of draws_over unfit_for draw_fault settle records_outcome admission outcome_of filing
covered_cases = record { accepted = refl; given_as_listed = refl }
