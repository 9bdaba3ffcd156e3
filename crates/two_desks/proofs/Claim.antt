-- The two-desk result: THE CLAIM of rules/specs/TwoDesks. Assumes nothing.
use Prim.Native.Nat.{ℕ, ◌*◌, ◌≤◌}
use mathlib.Core.Path.{◌≡◌, refl, ◌∙◌, ap}
use mathlib.Core.Bool.{Bool, true, false, cond}
use mathlib.Core.List.{List, [], ◌∷◌}
use native.Mathlib.Omega.{arith}
use lib.Dec.{le→leb}
use lib.IntN.{ℤ}
use lib.ListN.{length}
use lib.Signed.{◌≤ℤ◌}
use Rattle.rules.specs.declared.Bands.{Bands}
use Rattle.rules.specs.declared.Entry.{Entry}
use Rattle.rules.specs.Weighted.{weighted_of}
use Rattle.rules.specs.Book.{DerivativeSet, Item, asset, derivatives, financing, off_balance, Placed}
use Rattle.rules.specs.Read.{head_of, items_of}
use Rattle.rules.specs.Weigh.{Tally, net_of, weighted_in}
use Rattle.rules.specs.Rows.{tally_in, sums_of, exposure_row, rows_of}
use Rattle.rules.specs.Filing.{Outcome, accepted, outcome_of, filing_of, filing}
use Rattle.rules.specs.TwoDesks.{MoreRecognised, WithinShare, AllWithinShare, NoWorse, SameOrBetter, TwoDesks}
use Rattle.rules.proofs.Lists.{Pairs}
use Rattle.rules.proofs.Weighted.{two_fifths, five_at_most}
use Rattle.rules.proofs.Ratios.{ratio_falls, verdict_kept}
use Rattle.laws.proofs.Accepted.{accepted_is, Numbered, numbered}
use Rattle.laws.proofs.ExposureSum.{exposure_is_sum}
use Rattle.two_desks.proofs.Related.{MorePlaced}
use Rattle.two_desks.proofs.Amounts.{marked}
use Rattle.two_desks.proofs.Plain.{head_same}
use Rattle.two_desks.proofs.Less.{exposure_less}
use Rattle.two_desks.proofs.Outcomes.{Outcomes, outcomes}

-- ---- the share of 40% to 100% is a law of the weighted add-on, of any derivative set

share_of_set : (bands : Bands) (s : DerivativeSet) → WithinShare bands (derivatives s)
unfolding weighted_in
share_of_set bands s = go s.netting
  where
    y : Tally
    y = tally_in bands s

    go : (b : Bool) → (2 * y.add_on ≤ 5 * cond b (weighted_of y.add_on y.gains (net_of y)) y.add_on) × (5 * cond b (weighted_of y.add_on y.gains (net_of y)) y.add_on ≤ 5 * y.add_on)
    go true = (two_fifths y.add_on y.gains (net_of y), five_at_most y.add_on y.gains (net_of y) (omega arith))
    go false = (omega arith, omega arith)

share_of_item : (bands : Bands) (i : Item) → WithinShare bands i
share_of_item bands (asset a) = tt
share_of_item bands (derivatives s) = share_of_set bands s
share_of_item bands (financing s) = tt
share_of_item bands (off_balance o) = tt

shares : (bands : Bands) (ps : List Placed) → AllWithinShare bands ps
shares bands [] = tt
shares bands (p ∷ ps) = (share_of_item bands p.item, shares bands ps)

-- ---- two accepted books

module _ (xs ys : List ℕ) (l : MoreRecognised xs ys) (rows entries : ℕ) (ps qs : List Placed) (left : List Entry)
    (a : outcome_of xs rows entries ≡ accepted ps left) (b : outcome_of ys rows entries ≡ accepted qs left) (r : Pairs MorePlaced ps qs) where
  same_head : head_of xs ≡ head_of ys
  same_head = head_same xs ys (marked l) (accepted_is xs rows entries ps left a).reading.head

  row_less : exposure_row (sums_of (head_of xs).bands qs) ≤ℤ exposure_row (sums_of (head_of xs).bands ps)
  row_less =
      rw (exposure_is_sum xs rows entries ps left a, ap (λ h. exposure_row (sums_of h.bands qs)) same_head ∙ exposure_is_sum ys rows entries qs left b, ← same_head)
      (record { le = le→leb _ _ (exposure_less (head_of xs).bands r) })

  no_worse : (rs rs' : List ℤ) (es es' : List Entry) → NoWorse xs ys (filing_of (head_of xs) (accepted ps left) rs es) (filing_of (head_of ys) (accepted qs left) rs' es')
  unfolding rows_of
  no_worse rs rs' es es' = rw (← same_head) (record {
    exposure = row_less;
    shares_of_first = shares (head_of xs).bands (items_of xs).records;
    shares_of_second = shares (head_of ys).bands (items_of ys).records;
    verdict = λ v. verdict_kept _ _ _ v row_less;
    ratio = λ t e. ratio_falls _ _ _ t e row_less;
  })

pub two_desks : TwoDesks
unfolding filing
two_desks xs ys rows rows' register register' l m n =
    rw (← m, ← n)
    (go (outcome_of xs (length rows) (length register)) (outcome_of ys (length rows) (length register)) refl refl
    (outcomes xs ys l (length rows) (length register)) (numbered xs (length rows) (length register)))
  where
    go : (a b : Outcome) → outcome_of xs (length rows) (length register) ≡ a → outcome_of ys (length rows) (length register) ≡ b → Outcomes a b → Numbered a
        → SameOrBetter xs ys (filing_of (head_of xs) a rows register) (filing_of (head_of ys) b rows' register')
    go a b p q Outcomes.earlies Numbered.earlies = record { number = refl; place = refl; accepted = λ e. let z : ⊥ = omega arith in absurd z }
    go a b p q Outcomes.refusals Numbered.refusals = record { number = refl; place = refl; accepted = λ e. let z : ⊥ = omega arith in absurd z }
    go a b p q (Outcomes.acceptances {ps} {qs} {left} r) Numbered.acceptances =
        record { number = refl; place = refl; accepted = λ _. no_worse xs ys l (length rows) (length register) ps qs left p q r rows rows' register register' }
