-- The verdicts of two books that differ in marks at most. The two-desk result says it of verdict 0; that verdict 2 is kept too follows from the rows,
-- since row 21 never rises. Assumes nothing.
use Prim.Native.Nat.{ℕ, ◌+◌, ◌<◌}
use mathlib.Core.Path.{◌≡◌, refl, sym, ◌∙◌}
use mathlib.Core.Logic.{◌⊎◌}
use mathlib.Core.Bool.{Bool, true, false, cond}
use mathlib.Core.List.{List}
use native.Mathlib.Omega.{arith}
use borrow.Author.Tests.{le-leb}
use lib.Dec.{T}
use lib.IntN.{ℤ, pos, ◌*ℤ◌}
use lib.ListN.{length, replicate}
use lib.Signed.{le_z, ◌≤ℤ◌, le_z_yes}
use Rattle.rules.specs.declared.Entry.{Entry}
use Rattle.rules.specs.Book.{Head}
use Rattle.rules.specs.Read.{head_of}
use Rattle.rules.specs.Rows.{rows_of}
use Rattle.rules.specs.Ratio.{verdict_of}
use Rattle.rules.specs.Filing.{Outcome, outcome_of, Filing, filing_of, filing}
use Rattle.rules.specs.TwoDesks.{MoreRecognised, tier1_row, exposure_in, SameOrBetter}
use Rattle.rules.proofs.Differences.{of_any, of_pos, in_order, test_is}
use Rattle.laws.proofs.Accepted.{Numbered, numbered}
use Rattle.two_desks.proofs.Claim.{two_desks}
use Rattle.settings.specs.Settings.{verdict_with}
use Rattle.papers.proofs.Settings.{set_alike}

-- no verdict of the second is worse
pub record NotWorse (v w : ℕ) : Type 0 where
  pub met : v ≡ 0 → (w ≡ 0) ⊎ (w ≡ 2)
  pub none : v ≡ 2 → w ≡ 2

-- ---- one filing: refused, or accepted with the verdict of its own rows

data Answered (f : Filing) : Type 0 where
  turned : 0 < f.number → f.verdict ≡ 3 → Answered f
  judged : f.number ≡ 0 → f.verdict ≡ verdict_of (tier1_row f) (exposure_in f) → Answered f

answered : (ws : List ℕ) (rows : List ℤ) (register : List Entry) → Answered (filing ws rows register)
unfolding filing rows_of
answered ws rows register = go (head_of ws) (outcome_of ws (length rows) (length register)) (numbered ws (length rows) (length register))
  where
    go : (head : Head) (o : Outcome) → Numbered o → Answered (filing_of head o rows register)
    go head o Numbered.earlies = turned (omega arith) refl
    go head o Numbered.refusals = turned (omega arith) refl
    go head o Numbered.acceptances = judged refl refl

-- ---- no exposure stays none, whatever the capital

-- the verdict is 2 only by the first of its tests
none_is : (t d : ℤ) → verdict_of t d ≡ 2 → d ≤ℤ pos 0
unfolding verdict_of
none_is t d v = le_z_yes (go (le_z d (pos 0)) (le_z (pos 3 *ℤ d) (pos 100 *ℤ t)) v)
  where
    go : (none met : Bool) → ◌≡◌ {A = ℕ} (cond none 2 (cond met 0 1)) 2 → T none
    go true met e = tt
    go false true e = absurd (omega arith)
    go false false e = absurd (omega arith)

none_kept : (t t' d e : ℤ) → verdict_of t d ≡ 2 → e ≤ℤ d → verdict_of t' e ≡ 2
unfolding verdict_of
none_kept t t' d e v r =
    let (a, b, is) = of_any e in
    let before = in_order (of_any d).2 (of_pos 0) (none_is t d v) in
    rw (test_is is (of_pos 0), le-leb (a + 0) (0 + b) (omega (arith, before, in_order is (of_any d).2 r)))

-- ---- two filings

module _ (a b : Filing) where
  by_answers : {xs ys : List ℕ} → SameOrBetter xs ys a b → Answered a → Answered b → NotWorse a.verdict b.verdict
  by_answers s (turned n v) y = record { met = λ e. absurd (omega arith); none = λ e. absurd (omega arith) }
  by_answers s (judged n v) (turned o w) = absurd (omega (arith, s.number))
  by_answers s (judged n v) (judged o w) = record {
    met = (s.accepted n).verdict;
    none = λ e. w ∙ none_kept (tier1_row a) (tier1_row b) (exposure_in a) (exposure_in b) (sym v ∙ e) (s.accepted n).exposure;
  }

-- with one setting of the marks that stand at a place
pub not_worse : (xs ys : List ℕ) (register register' : List Entry) → MoreRecognised xs ys → length register ≡ length register'
    → (head m : ℕ) → NotWorse (verdict_with xs register head m) (verdict_with ys register' head m)
not_worse xs ys register register' l n head m =
    by_answers _ _ (two_desks _ _ rows rows register register' (set_alike xs ys l head m) refl n) (answered _ rows register) (answered _ rows register')
  where
    rows : List ℤ
    rows = replicate 22 (pos 0)
