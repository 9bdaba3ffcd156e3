-- Cash netted day by day in one pass over the trades of a financing set. Assumes nothing.
use Rattle.std.specs.Prelude.{ℕ, ◌+◌, ◌≤◌, min, cond, List, [], ◌∷◌, eqb}
use Rattle.rules.specs.Book.{FinancingTrade}

-- an amount of a trade, if the trade carries its own mark
abbrev pub own_marked : (FinancingTrade → ℕ) → FinancingTrade → ℕ
own_marked f t = cond t.net_settled (f t) 0

-- with the days before a day closed, and that day's receivables and payables so far: a trade of the same day adds its own, one of
-- another day closes that day and begins its own
unfoldable pub netted_from : (closed day receivable payable : ℕ) → List FinancingTrade → ℕ
netted_from closed day receivable payable [] = closed + min receivable payable
netted_from closed day receivable payable (t ∷ ts) =
    cond (eqb t.days day)
    (netted_from closed day (receivable + own_marked (λ (x : FinancingTrade). x.receivable) t) (payable + own_marked (λ (x : FinancingTrade). x.payable) t) ts)
    (netted_from (closed + min receivable payable) t.days (own_marked (λ (x : FinancingTrade). x.receivable) t) (own_marked (λ (x : FinancingTrade). x.payable) t) ts)

-- "Days never fall within a set", from a day on
abbrev pub NeverFall : ℕ → List FinancingTrade → Type 0
NeverFall day [] = Unit {0}
NeverFall day (t ∷ ts) = (day ≤ t.days) × NeverFall t.days ts
