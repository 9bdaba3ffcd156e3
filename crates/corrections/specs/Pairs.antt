-- Pairs of books in which one amount is corrected, with row 21 of either, in words. Request A.4: each ceiling is attained; and the request's own pair shows
-- that a netted value has none of that kind. Request A.13: each exact effect in one book. Assumes nothing.
use Rattle.std.specs.Prelude.{ℕ, ◌+◌, ◌*◌, ◌^◌, ◌≡◌, true, false, List, [], ◌∷◌, ◌++◌, ℤ, pos, set, replicate}
use Rattle.rules.specs.Filing.{filing}
use Rattle.rules.specs.TwoDesks.{exposure_in}
use Rattle.cuts.specs.Words.{OneAmount}
use Rattle.theorems.specs.Samples.{head_word, minus, book_of, set_of, trade_of, financing_of}
use Rattle.corrections.specs.Roles.{Role, carrying, off_balance_notional, value, lent, role_at}
use Rattle.corrections.specs.Claims.{units}
use Rattle.corrections.specs.Effects.{Raised}

-- ---- items in words

-- a provision of 2 and a deduction of 1
abbrev an_asset : (carried : ℕ) → List ℕ
an_asset carried = head_word 2 0 ∷ carried ∷ 2 ∷ 1 ∷ []

-- the same with the fiduciary mark
abbrev a_fiduciary_asset : (carried : ℕ) → List ℕ
a_fiduciary_asset carried = head_word 2 1 ∷ carried ∷ 2 ∷ 1 ∷ []

-- by its class, and 0 or one more than the class of the item committed to
abbrev an_off_balance_item : (class committed notional : ℕ) → List ℕ
an_off_balance_item class committed notional = head_word 10 (class + committed * 2 ^ 4) ∷ notional ∷ []

-- class 3, which is converted in full
abbrev a_credit_substitute : (notional : ℕ) → List ℕ
a_credit_substitute notional = head_word 10 3 ∷ notional ∷ []

-- by the netting mark alone, with no margin and no collateral
abbrev a_set : (netting : ℕ) → List ℕ
a_set netting = set_of netting 0

-- a currency trade with one payment, at 365 days
abbrev a_trade : (worth notional : ℕ) → List ℕ
a_trade worth notional = trade_of 1 worth notional 365

-- a default swap on entity 1, without close-out
abbrev a_credit : (worth : ℕ) → List ℕ
a_credit worth = head_word 6 1 ∷ worth ∷ 100 ∷ 0 ∷ 50 ∷ 3 ∷ []

-- the first default among two names, whose grades qualify
abbrev a_basket : (worth : ℕ) → List ℕ
a_basket worth = head_word 11 (1 + 2 * 2 ^ 6) ∷ worth ∷ 1000 ∷ 9 ∷ 8 ∷ []

-- a financing set with one trade, by the marks of the set: 1 is netting, 2 an agent, 6 an agent with further exposure
abbrev a_loan : (marks given taken : ℕ) → List ℕ
a_loan marks given taken = financing_of marks ++ (head_word 9 0 ∷ 0 ∷ 0 ∷ 0 ∷ 0 ∷ given ∷ taken ∷ 1 ∷ [])

-- a book of these, without protections; Tier 1 is 50
abbrev book_with : List ℕ → List ℕ
book_with items = book_of 0 50 items

-- ---- pairs

-- rows that hold another bank's data; the first filing gets one more
abbrev pub lent_rows : (count : ℕ) → List ℤ
lent_rows count = replicate count (pos 7)

-- a book, and the same with another amount at a place, which is of this role and is corrected by d units: both are accepted, and row 21 moves from
-- one figure to another
pub record Pair (xs : List ℕ) (k amount : ℕ) (role : Role) (d before after : ℕ) : Type 0 where
  pub alike : OneAmount xs (set xs k amount) k
  pub role_is : role_at xs k ≡ role
  pub units_are : units xs (set xs k amount) k ≡ d
  pub first_accepted : (filing xs (lent_rows 23) []).number ≡ 0
  pub second_accepted : (filing (set xs k amount) (lent_rows 22) []).number ≡ 0
  pub first_row : exposure_in (filing xs (lent_rows 23) []) ≡ pos before
  pub second_row : exposure_in (filing (set xs k amount) (lent_rows 22) []) ≡ pos after

pub record PairsMove : Type 0 where
  -- 10 units move row 21 by 10,000, or by 20,000 with further exposure, so that no ceiling can be lowered
  pub of_carrying : Pair (book_with (an_asset 20)) 4 30 (carrying false) 10 17000 27000
  pub for_off_balance : Pair (book_with (a_credit_substitute 30)) 4 20 (off_balance_notional 3 0) 10 30000 20000
  pub of_trade : Pair (book_with (a_set 0 ++ a_trade 0 1000)) 8 10 (value false) 10 10000 20000
  pub of_credit : Pair (book_with (a_set 0 ++ a_credit 10)) 8 0 (value false) 10 110000 100000
  pub of_basket : Pair (book_with (a_set 0 ++ a_trade 7 0 ++ a_basket 0)) 13 10 (value false) 10 57000 67000
  pub of_lent : Pair (book_with (a_loan 0 20 5)) 9 30 (lent false) 10 15000 25000
  pub of_lent_netted : Pair (book_with (a_loan 1 30 5)) 9 20 (lent false) 10 25000 15000
  pub of_lent_by_agent : Pair (book_with (a_loan 2 20 5)) 9 30 (lent false) 10 15000 25000
  pub of_lent_further : Pair (book_with (a_loan 6 20 5)) 9 30 (lent true) 10 35000 55000
  -- from −5 to 5 it is 10, though the sizes are the same
  pub across_zero : Pair (book_with (a_set 0 ++ a_trade (minus 5) 1000)) 8 5 (value false) 10 10000 15000
  -- THE REQUEST'S OWN: in a netted set, beside a trade of value 1 and notional 100,000, one of notional 0 whose value moves from −1 to 0
  pub of_netted_value : Pair (book_with (a_set 1 ++ a_trade 1 100000 ++ a_trade (minus 1) 0)) 13 0 (value true) 1 400000 1001000

-- ---- exact effects

-- the assets are carried at 20, the items have a notional of 30: a commitment beyond one year, converted at 500; a credit substitute that is converted at
-- the 100 of a cancellable commitment, its second class; and that commitment, which is converted at its own 100 though its second class is the substitute's
abbrev pub five_amounts : List ℕ
five_amounts = book_with (an_asset 20 ++ a_fiduciary_asset 20 ++ an_off_balance_item 1 0 30 ++ an_off_balance_item 3 (1 + 2) 30 ++ an_off_balance_item 2 (1 + 3) 30)

-- a pair in which the amount is raised by d units
pub record Rise (xs : List ℕ) (k amount : ℕ) (role : Role) (d before after : ℕ) : Type 0 where
  pub pair : Pair xs k amount role d before after
  pub raised : Raised xs (set xs k amount) k d

-- each of the five by 7
pub record PairsRise : Type 0 where
  pub of_carrying : Rise five_amounts 4 27 (carrying false) 7 38000 45000
  pub for_off_balance : Rise five_amounts 12 37 (off_balance_notional 1 0) 7 38000 41500
  pub of_lower_second : Rise five_amounts 14 37 (off_balance_notional 3 (1 + 2)) 7 38000 38700
  pub of_higher_second : Rise five_amounts 16 37 (off_balance_notional 2 (1 + 3)) 7 38000 38700
  pub of_fiduciary : Rise five_amounts 8 27 (carrying true) 7 38000 38000
