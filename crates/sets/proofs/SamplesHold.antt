-- What is shown of the sample books is as listed, by computation. Assumes nothing.
use mathlib.Core.Path.{refl}
use Rattle.rules.specs.Word.{gain_of, loss_of}
use Rattle.rules.specs.Run.{run_from}
use Rattle.rules.specs.Faults.{cause, protection_fault, asset_fault, derivative_set_fault, trade_fault, basket_fault, written_fault, cover_fault, financing_set_fault, financing_trade_fault, off_balance_fault}
use Rattle.rules.specs.Read.{head_faulty, date_faulty, head_of, lacks, record_then, protection_at, protection_turn, asset_at, asset_turn, cover_at, cover_turn, written_at, written_turn, trade_at, trade_turn, basket_at, basket_turn}
use Rattle.rules.specs.Read.{member_turn, derivative_set_at, derivative_set_turn, financing_trade_at, financing_trade_turn, financing_member_turn, financing_set_at, financing_set_turn, off_balance_at, off_balance_turn, item_of, end_fault, item_turn}
use Rattle.rules.specs.Read.{protections_of, items_of}
use Rattle.rules.specs.Register.{draws_from, draws_of, draws_over, unfit_for, draw_fault, settle}
use Rattle.rules.specs.Filing.{records_outcome, admission}
use Rattle.sets.specs.Sets.{sets_of, showing}
use Rattle.sets.specs.Samples.{cases, CasesHold}

pub cases_hold : CasesHold
unfolding cases gain_of loss_of run_from cause protection_fault asset_fault derivative_set_fault trade_fault basket_fault written_fault cover_fault financing_set_fault financing_trade_fault off_balance_fault head_faulty date_faulty head_of lacks record_then protection_at protection_turn asset_at asset_turn cover_at cover_turn written_at written_turn trade_at trade_turn basket_at basket_turn member_turn derivative_set_at derivative_set_turn financing_trade_at financing_trade_turn financing_member_turn financing_set_at financing_set_turn off_balance_at off_balance_turn item_of end_fault item_turn protections_of items_of draws_from draws_of draws_over unfit_for draw_fault settle records_outcome admission sets_of showing
cases_hold = refl
