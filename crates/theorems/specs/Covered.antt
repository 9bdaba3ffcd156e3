-- Request A.6: books with written credits that are covered in part, whole or not at all, with their figures, filed with the samples' buffers,
-- which hold another bank's data. Each figure is worked out by hand. Assumes nothing.
use Rattle.std.specs.Prelude.{ℕ, ◌+◌, ◌^◌, List, [], ◌∷◌, ◌++◌, pos, neg_ℤ}
use Rattle.theorems.specs.Samples.{head_word, minus, book_of, set_of, trade_of, sold_swap, Sample, sample, row, AsListed}

-- behind a protection of 5,000 on entity 1 for 100 days, a set by its marks with these members
abbrev in_set : (marks : ℕ) → List ℕ → List ℕ
in_set marks members = book_of 1 0 ((head_word 3 1 ∷ 5000 ∷ 0 ∷ 100 ∷ []) ++ set_of marks 0 ++ members)

-- a default swap sold, like that of the samples but for notional, loss and premiums
abbrev swap_of : (notional loss premiums : ℕ) → List ℕ
swap_of notional loss premiums = head_word 6 (1 + 2 ^ 20 + 2 ^ 22) ∷ 0 ∷ notional ∷ loss ∷ 100 ∷ premiums ∷ []

-- a cover by the protection
abbrev cover_of : ℕ → List ℕ
cover_of amount = head_word 7 0 ∷ amount ∷ []

unfoldable pub covered : List Sample
covered =
    -- "rounded up for each trade": notional 3,000 and premiums 1 make an add-on of 1,000, of which covers 1 and 1 keep in 1,000 · 2 / 3,000,
    -- rounded up 1, and not 1 for each of them. U is 999, and row 10 −2,000 − 999.
    sample (in_set 0 (swap_of 3000 0 1 ++ cover_of 1 ++ cover_of 1)) (row 5 (pos 1000) ∷ row 10 (neg_ℤ (pos 2999)) ∷ [])
    -- "over effective notional", not notional less loss: of 3,000 a loss of 2,990 leaves 10 to cover, and a cover of 10 keeps in
    -- 1,000 · 10 / 3,000, rounded up 4. Row 9 is 10,000, and row 10 −10,000 − 996.
    ∷ sample (in_set 0 (swap_of 3000 2990 1 ++ cover_of 10)) (row 5 (pos 1000) ∷ row 9 (pos 10000) ∷ row 10 (neg_ℤ (pos 10996)) ∷ [])
    -- "nothing at notional 0": the add-on is the lesser of 0 and 1,000.
    ∷ sample (in_set 0 (swap_of 0 0 1)) (row 5 (pos 0) ∷ row 9 (pos 0) ∷ row 10 (pos 0) ∷ [])
    -- The sold swap of the samples, wholly covered: all of its 3,000 stays in.
    ∷ sample (in_set 0 (sold_swap ++ cover_of 100)) (row 5 (pos 3000) ∷ row 9 (pos 100000) ∷ row 10 (neg_ℤ (pos 100000)) ∷ [])
    -- The same covered by 40, in an exempt set: 3,000 · 40 / 100 = 1,200 stays in, which row 8 takes out, and U is 1,800.
    ∷ sample (in_set (2 ^ 5) (sold_swap ++ cover_of 40)) (row 5 (pos 3000) ∷ row 8 (neg_ℤ (pos 1200)) ∷ row 10 (neg_ℤ (pos 41800)) ∷ [])
    -- Netted, with two currency trades, whose add-ons are 10,000 each and whose values +30 and −10, so that 80% count, and covered by 1: A is 23,000,
    -- 30 of the swap's 3,000 stays in, and U is 2,970. Row 5 is 80% of 23,000, and row 10 −1,000 and 80% of U.
    ∷ sample (in_set 1 (trade_of 1 30 1000 365 ++ trade_of 1 (minus 10) 1000 365 ++ sold_swap ++ cover_of 1)) (row 5 (pos 18400) ∷ row 10 (neg_ℤ (pos 3376)) ∷ [])
    -- A credit covered by 40 before a trade with an add-on of 10,000, and one covered by 10 at the end of the set: 1,200 and 300 stay in, so that U
    -- is 1,800 + 2,700, and A is 16,000.
    ∷ sample (in_set 0 (sold_swap ++ cover_of 40 ++ trade_of 1 0 1000 365 ++ sold_swap ++ cover_of 10)) (row 5 (pos 16000) ∷ row 9 (pos 200000) ∷ row 10 (neg_ℤ (pos 54500)) ∷ [])
    ∷ []

abbrev pub CoveredCases : Type 0
CoveredCases = AsListed covered
