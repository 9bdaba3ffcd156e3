-- Document 01, "Weighing a set": what the items of a book are worth. Add-ons are in thousandths of the unit, values and cash in
-- units. Assumes nothing.
use Rattle.std.specs.Prelude.{ℕ, zero, suc, ◌+◌, ◌-◌, ◌*◌, min, max, Bool, ◌&&◌, cond, List, [], ◌∷◌, eqb, leb, get_or}
use Rattle.rules.specs.declared.Bands.{Bands}
use Rattle.rules.specs.Factors.{credit_factor, trade_factor}
use Rattle.rules.specs.Weighted.{ceil, weighted_of}
use Rattle.rules.specs.Book.{Trade, Basket, Cover, WrittenCredit, Member, trade, written, basket, DerivativeSet, FinancingTrade, FinancingSet, total}

-- ---- add-ons (annex, paragraphs 1 to 4)

-- "That figure is multiplied by n"
unfoldable pub trade_add_on : Bands → Trade → ℕ
trade_add_on bands t = trade_factor bands t.class t.resets t.qualifying t.days t.reset_days * t.payments * t.notional

-- grades from the worst on, which is the largest; "Equal grades count separately"
abbrev pub insert_down : ℕ → List ℕ → List ℕ
insert_down g [] = g ∷ []
insert_down g (h ∷ hs) = cond (leb h g) (g ∷ h ∷ hs) (h ∷ insert_down g hs)

unfoldable pub sorted_down : List ℕ → List ℕ
sorted_down [] = []
sorted_down (g ∷ gs) = insert_down g (sorted_down gs)

abbrev pub nth_worst : ℕ → List ℕ → ℕ
nth_worst nth grades = get_or (sorted_down grades) (nth - 1) 0

-- "grades 0 to 9 qualify"
abbrev pub last_qualifying : ℕ
last_qualifying = 9

-- "The nth worst grade decides the factor, 50 or 100 per thousand" (annex, paragraph 4; request A.3)
unfoldable pub basket_add_on : Basket → ℕ
basket_add_on b = credit_factor (leb (nth_worst b.nth b.grades) last_qualifying) * b.notional

-- "Written total return swap: factor times notional. Written default swap: 0 without close-out, otherwise the lesser of that product
-- and 1,000 times unpaid premiums."
unfoldable pub written_add_on : WrittenCredit → ℕ
written_add_on w =
    cond w.total_return (credit_factor w.qualifying * w.notional)
    (cond w.close_out (min (credit_factor w.qualifying * w.notional) (1000 * w.premiums)) 0)

-- the sum of a written credit's covers
abbrev pub covered_of : WrittenCredit → ℕ
covered_of w = total (λ (c : Cover). c.amount) w.covers

-- what stays in of a written credit's add-on (paragraph 31; request A.6): "only the add-on times covered amount over effective notional,
-- rounded up for each trade, and nothing at notional 0"
unfoldable pub kept_in : (add_on covered notional : ℕ) → ℕ
kept_in add_on covered notional = cond (eqb notional 0) 0 (ceil (add_on * covered) notional)

-- "U takes the remainder"
abbrev pub uncovered_add_on : WrittenCredit → ℕ
uncovered_add_on w = written_add_on w - kept_in (written_add_on w) (covered_of w) w.notional

-- ---- the tally of a derivative set: "V sum of values, G sum of positive values, A sum of add-ons, U those of written trades
-- without cover", and of the others what does not stay in. V is the gains less the losses, and G the gains.

pub record Tally : Type 0 where
  pub gains : ℕ
  pub losses : ℕ
  pub add_on : ℕ
  pub uncovered : ℕ

abbrev pub gain_in : Member → ℕ
gain_in (trade t) = t.gain
gain_in (written w) = w.gain
gain_in (basket b) = b.gain

abbrev pub loss_in : Member → ℕ
loss_in (trade t) = t.loss
loss_in (written w) = w.loss
loss_in (basket b) = b.loss

abbrev pub add_on_in : Bands → Member → ℕ
add_on_in bands (trade t) = trade_add_on bands t
add_on_in bands (written w) = written_add_on w
add_on_in bands (basket b) = basket_add_on b

abbrev pub uncovered_in : Member → ℕ
uncovered_in (trade t) = 0
uncovered_in (written w) = uncovered_add_on w
uncovered_in (basket b) = 0

unfoldable pub tally_of : Bands → List Member → Tally
tally_of bands members = record {
  gains = total gain_in members;
  losses = total loss_in members;
  add_on = total (add_on_in bands) members;
  uncovered = total uncovered_in members;
}

-- "N is V or 0 if negative"
abbrev pub net_of : Tally → ℕ
net_of t = t.gains - t.losses

-- "if bits 0 to 4 are all 1" (paragraph 25)
abbrev pub margin_offsets : DerivativeSet → Bool
margin_offsets s = s.netting && s.not_segregated && s.daily && s.same_currency && s.full_amount

-- "Netting marked: replacement is N; if bits 0 to 4 are all 1, N less margin received, not below 0. Not marked: replacement G"
unfoldable pub replacement_of : DerivativeSet → Tally → ℕ
replacement_of s t = cond s.netting (cond (margin_offsets s) (net_of t - s.received) (net_of t)) t.gains

-- the weighted add-on of a gross one: "Not marked: ... add-on X"
unfoldable pub weighted_in : DerivativeSet → Tally → ℕ → ℕ
weighted_in s t x = cond s.netting (weighted_of x t.gains (net_of t)) x

-- notional less loss, of the written credits of a set; and their covers (paragraph 30)
abbrev pub written_in : Member → ℕ
written_in (trade t) = 0
written_in (written w) = w.notional - w.loss_taken
written_in (basket b) = 0

abbrev pub covers_in : Member → ℕ
covers_in (trade t) = 0
covers_in (written w) = covered_of w
covers_in (basket b) = 0

-- ---- securities financing (paragraphs 33 to 37)

-- f at each number below n, added
unfoldable pub sum_below : ℕ → (ℕ → ℕ) → ℕ
sum_below zero f = 0
sum_below (suc n) f = f n + sum_below n f

-- of the trades that carry their own mark and settle on a day
abbrev pub on_day : (FinancingTrade → ℕ) → ℕ → FinancingTrade → ℕ
on_day f day t = cond (t.net_settled && eqb t.days day) (f t) 0

-- "the lesser of summed receivables and summed payables"
abbrev pub netted_on : List FinancingTrade → ℕ → ℕ
netted_on trades day = min (total (on_day (λ (t : FinancingTrade). t.receivable) day) trades) (total (on_day (λ (t : FinancingTrade). t.payable) day) trades)

-- the last settlement day of a set
abbrev pub last_day : List FinancingTrade → ℕ
last_day [] = 0
last_day (t ∷ ts) = max t.days (last_day ts)

-- "the days are added"
unfoldable pub cash_netted : List FinancingTrade → ℕ
cash_netted trades = sum_below (suc (last_day trades)) (netted_on trades)

-- "E* is lent minus received, not below 0, over the set if netting is marked, else summed trade by trade"
unfoldable pub excess_of : FinancingSet → ℕ
excess_of s =
    cond s.netting
    (total (λ (t : FinancingTrade). t.lent) s.trades - total (λ (t : FinancingTrade). t.received) s.trades)
    (total (λ (t : FinancingTrade). t.lent - t.received) s.trades)
