-- Pairs of books, the second with covers put in, by computation: one falls by 900 for each unit and one by 1,000, so that neither bound can be
-- improved, and one whose set is netted lies between. The law holds of each, and is applied to the last: its premises can be met. Assumes nothing.
use Prim.Native.Nat.{ℕ, ◌+◌, ◌-◌, ◌*◌, ◌^◌, ◌≤◌}
use mathlib.Core.Path.{◌≡◌, refl}
use mathlib.Core.List.{List, [], ◌∷◌, ◌++◌}
use native.Mathlib.Omega.{arith}
use lib.Dec.{lit≤}
use lib.IntN.{ℤ, pos}
use lib.ListN.{replicate}
use Rattle.rules.specs.declared.Bands.{Bands}
use Rattle.rules.specs.declared.Entry.{Entry}
use Rattle.rules.specs.Word.{gain_of, loss_of}
use Rattle.rules.specs.Run.{run_from}
use Rattle.rules.specs.Faults.{cause, protection_fault, asset_fault, derivative_set_fault, trade_fault, written_fault, cover_fault}
use Rattle.rules.specs.Calendar.{leap_days, days_of, after, date_in, date_of, day_of, later, bands_of}
use Rattle.rules.specs.Read.{head_faulty, date_faulty, reporting_date, head_of, lacks, record_then, protection_at, protection_turn, asset_at, asset_turn, cover_at, cover_turn}
use Rattle.rules.specs.Read.{written_at, written_turn, trade_at, trade_turn, member_turn, derivative_set_at, derivative_set_turn, item_of, end_fault, item_turn}
use Rattle.rules.specs.Read.{protections_of, items_of}
use Rattle.rules.specs.Factors.{market_factor, trade_factor}
use Rattle.rules.specs.Weighted.{weighted_of}
use Rattle.rules.specs.Book.{written, derivatives, Placed}
use Rattle.rules.specs.Weigh.{trade_add_on, written_add_on, kept_in, tally_of, replacement_of, weighted_in}
use Rattle.rules.specs.Rows.{asset_rows, sum_over, sums_of, rows_of}
use Rattle.rules.specs.Register.{draws_from, draws_of, draws_over, unfit_for, draw_fault, settle}
use Rattle.rules.specs.Filing.{records_outcome, admission, outcome_of, filing}
use Rattle.rules.specs.TwoDesks.{exposure_in}
use Rattle.rules.proofs.Lists.{Pairs}
use Rattle.laws.specs.Exposure.{exposure_of}
use Rattle.cuts.specs.Words.{Inserted}
use Rattle.cuts.specs.Further.{MemberByCredits, ItemByCredits, PlacedByCredits}
use Rattle.cuts.proofs.FurtherCovers.{same_before}
use Rattle.cuts.proofs.SampleBooks.{head_word, sample_front, an_asset, a_trade, a_credit, a_cover, book_with}
use Rattle.further_covers.specs.Claims.{Falls, CoveredNoLess, cover_over, put_in, LessExposed}
use Rattle.further_covers.proofs.Books.{further_falls}

-- ---- the books, behind the samples' head with a protection of 500 on entity 1

-- a derivative set by its marks
abbrev a_set_of : (marks : ℕ) → List ℕ
a_set_of marks = head_word 4 marks ∷ 0 ∷ 0 ∷ 0 ∷ []

-- a written total return swap on entity 1, not qualifying, notional 100: its add-on is 100 · 100 = 10,000
abbrev a_return_swap : List ℕ
a_return_swap = head_word 6 (1 + 2 ^ 21) ∷ 0 ∷ 100 ∷ 0 ∷ 50 ∷ 0 ∷ []

-- a default swap without close-out has no add-on: covered by 10 of 100 it adds 90,000, and by 5 more 85,000
abbrev covered_by10 : List ℕ
covered_by10 = book_with ((a_set_of 0 ++ a_credit ++ a_cover 10) ∷ [])

abbrev covered_by15 : List ℕ
covered_by15 = book_with ((a_set_of 0 ++ a_credit ++ a_cover 10 ++ a_cover 5) ∷ [])

five_put : Inserted covered_by10 covered_by15
five_put = same_before (sample_front ++ a_set_of 0 ++ a_credit ++ a_cover 10) (Inserted.put refl refl (Inserted.ends refl refl))

-- the total return swap adds 100,000 without cover; covered by 7, 93,000 and 10,000 · 7 / 100 = 700 of its add-on
abbrev uncovered : List ℕ
uncovered = book_with ((a_set_of 0 ++ a_return_swap) ∷ [])

abbrev covered_by7 : List ℕ
covered_by7 = book_with ((a_set_of 0 ++ a_return_swap ++ a_cover 7) ∷ [])

seven_put : Inserted uncovered covered_by7
seven_put = same_before (sample_front ++ a_set_of 0 ++ a_return_swap) (Inserted.put refl refl (Inserted.ends refl refl))

-- Netted, with values +30 and −10, so that N is 20 and the share 40% + 60% · 20 / 30 = 80%; behind it an asset of 7. The first of two total
-- return swaps is covered by 5: 20,000 + 80% · 500 + 195,000 + 7,000 = 222,400. With 3 put before that cover and 4 behind the other swap:
-- 20,000 + 80% · (800 + 400) + 188,000 + 7,000 = 215,960, which is 920 less for each of the 7.
abbrev a_netted_set : List ℕ
a_netted_set = a_set_of 1 ++ a_trade 30 ++ a_trade (2 ^ 27 + 10) ++ a_return_swap

abbrev netted : List ℕ
netted = book_with ((a_netted_set ++ a_cover 5 ++ a_return_swap) ∷ an_asset 7 ∷ [])

abbrev netted_more : List ℕ
netted_more = book_with ((a_netted_set ++ a_cover 3 ++ a_cover 5 ++ a_return_swap ++ a_cover 4) ∷ an_asset 7 ∷ [])

both_put : Inserted netted netted_more
both_put =
    same_before (sample_front ++ a_netted_set)
    (Inserted.put refl refl (same_before (a_cover 5 ++ a_return_swap) (Inserted.put refl refl (same_before (an_asset 7) (Inserted.ends refl refl)))))

-- ---- computed

-- buffers that hold another bank's data, of other lengths for the second
abbrev rows : List ℤ
rows = replicate 23 (pos 7)

abbrev rows' : List ℤ
rows' = replicate 22 (pos 8)

abbrev register : ℕ → List Entry
register n = replicate n (record { entity = 9; rank = 9; days = 9; left = 9 })

-- both are accepted, and row 21 falls by so much for each unit put in
record Attains {xs ys : List ℕ} (r : Inserted xs ys) (before after each : ℕ) : Type 0 where
  pub first_accepted : (filing xs rows (register 1)).number ≡ 0
  pub second_accepted : (filing ys rows' (register 3)).number ≡ 0
  pub first_row : exposure_in (filing xs rows (register 1)) ≡ pos before
  pub second_row : exposure_in (filing ys rows' (register 3)) ≡ pos after
  pub exactly : before ≡ after + each * put_in r

-- the three pairs
record Computed : Type 0 where
  pub by_1000 : Attains five_put 90000 85000 1000
  pub by_900 : Attains seven_put 100000 93700 900
  pub between : Attains both_put 222400 215960 920

-- all of it by computation
computed : Computed
unfolding gain_of loss_of run_from cause protection_fault asset_fault derivative_set_fault trade_fault written_fault cover_fault leap_days days_of after date_in date_of day_of later bands_of head_faulty date_faulty reporting_date head_of lacks record_then protection_at protection_turn asset_at asset_turn cover_at cover_turn written_at written_turn trade_at trade_turn member_turn derivative_set_at derivative_set_turn item_of end_fault item_turn protections_of items_of market_factor trade_factor weighted_of trade_add_on written_add_on kept_in tally_of replacement_of weighted_in asset_rows sums_of rows_of draws_from draws_of draws_over unfit_for draw_fault settle records_outcome admission outcome_of filing same_before five_put seven_put both_put
computed = record {
  by_1000 = record { first_accepted = refl; second_accepted = refl; first_row = refl; second_row = refl; exactly = refl };
  by_900 = record { first_accepted = refl; second_accepted = refl; first_row = refl; second_row = refl; exactly = refl };
  between = record { first_accepted = refl; second_accepted = refl; first_row = refl; second_row = refl; exactly = refl };
}

-- the pair that falls by 900 may fall by no thousandth less, and that by 1,000 by none more: so the claim cannot be made weaker either
falls_no_less : Falls 99999 93700 7 → ⊥
falls_no_less f = omega (arith, f.at_least)

falls_no_more : Falls 90001 85000 5 → ⊥
falls_no_more f = omega (arith, f.at_most)

-- the law says so of each
less_exposed : {xs ys : List ℕ} (r : Inserted xs ys) {before after each : ℕ} → Attains r before after each
    → LessExposed xs ys (put_in r) (filing xs rows (register 1)) (filing ys rows' (register 3))
less_exposed {xs} {ys} r a = further_falls xs ys rows rows' (register 1) (register 3) r a.first_accepted a.second_accepted

-- and of the netted one
netted_less : LessExposed netted netted_more (put_in both_put) (filing netted rows (register 1)) (filing netted_more rows' (register 3))
netted_less = less_exposed both_put computed.between

-- ---- items: past the notional less loss no cover counts, so that the claim about items is false without its last premise

-- the total return swap in a set without a mark, covered by so much
abbrev swap_covered : ℕ → Placed
swap_covered amount =
    let swap = written_at a_return_swap 0 (record { at = 10; protection = 0; amount = amount } ∷ []) in
    record { begin = 7; end = 19; item = derivatives (derivative_set_at (a_set_of 0) (written swap ∷ [])) }

-- covered by 100 or by 200 of 100, all of its add-on of 10,000 stays in, and nothing else
past_notional : (bands : Bands)
    → ((ps qs : List Placed) → Pairs (PlacedByCredits CoveredNoLess) ps qs → Falls (sum_over (exposure_of bands) ps) (sum_over (exposure_of bands) qs) (cover_over qs - cover_over ps))
    → ⊥
unfolding gain_of loss_of written_at derivative_set_at written_add_on kept_in tally_of replacement_of weighted_in
past_notional bands f = let z : 10000 + 900 * 100 ≤ 10000 = (f (swap_covered 100 ∷ []) (swap_covered 200 ∷ []) (Pairs.more more Pairs.none)).at_least in omega arith
  where
    more : PlacedByCredits CoveredNoLess (swap_covered 100) (swap_covered 200)
    more = ItemByCredits.for_derivatives (record { alike = refl; members = Pairs.more (MemberByCredits.of_credit (record { alike = refl; covered = lit≤ tt })) Pairs.none })
