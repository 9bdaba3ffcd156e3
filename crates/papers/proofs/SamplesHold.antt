-- The counts of the sample books are as listed, by computation. Assumes nothing.
use mathlib.Core.Path.{refl}
use Rattle.rules.specs.Word.{gain_of, loss_of}
use Rattle.rules.specs.Run.{run_from}
use Rattle.rules.specs.Faults.{cause, protection_fault, asset_fault, derivative_set_fault, trade_fault, basket_fault, written_fault, cover_fault, financing_set_fault, financing_trade_fault, off_balance_fault}
use Rattle.rules.specs.Calendar.{leap_days, days_of, after, date_in, date_of, day_of, later, bands_of}
use Rattle.rules.specs.Read.{head_faulty, date_faulty, reporting_date, head_of, lacks, record_then, protection_at, protection_turn, asset_at, asset_turn, cover_at, cover_turn, written_at, written_turn, trade_at, trade_turn, basket_at, basket_turn, member_turn, derivative_set_at, derivative_set_turn, financing_member_turn, financing_set_at, financing_set_turn, item_of, end_fault, item_turn, protections_of, items_of}
use Rattle.rules.specs.Factors.{market_factor, trade_factor}
use Rattle.rules.specs.Weighted.{weighted_of}
use Rattle.rules.specs.Weigh.{trade_add_on, sorted_down, basket_add_on, written_add_on, kept_in, tally_of, replacement_of, weighted_in, sum_below, cash_netted, excess_of}
use Rattle.rules.specs.Ratio.{verdict_of}
use Rattle.rules.specs.Rows.{asset_rows, sums_of}
use Rattle.rules.specs.Register.{draws_from, draws_of, draws_over, unfit_for, draw_fault, settle}
use Rattle.rules.specs.Filing.{records_outcome, admission, outcome_of, filing}
use Rattle.sets.specs.Sets.{sets_of}
use Rattle.settings.specs.Settings.{how_many, counting}
use Rattle.papers.specs.Samples.{cases, CasesHold}

pub cases_hold : CasesHold
unfolding cases gain_of loss_of run_from cause protection_fault asset_fault derivative_set_fault trade_fault basket_fault written_fault cover_fault financing_set_fault financing_trade_fault off_balance_fault leap_days days_of after date_in date_of day_of later bands_of head_faulty date_faulty reporting_date head_of lacks record_then protection_at protection_turn asset_at asset_turn cover_at cover_turn written_at written_turn trade_at trade_turn basket_at basket_turn member_turn derivative_set_at derivative_set_turn financing_member_turn financing_set_at financing_set_turn item_of end_fault item_turn protections_of items_of market_factor trade_factor weighted_of trade_add_on sorted_down basket_add_on written_add_on kept_in tally_of replacement_of weighted_in sum_below cash_netted excess_of verdict_of asset_rows sums_of draws_from draws_of draws_over unfit_for draw_fault settle records_outcome admission outcome_of filing sets_of how_many counting
cases_hold = refl
