-- The filing as a whole: the rows test, the admission, the template. Assumes nothing.
use Prim.Native.Nat.{ℕ, ◌≤◌, ◌<◌}
use mathlib.Core.Path.{◌≡◌, refl}
use mathlib.Core.List.{List, ◌++◌}
use native.Mathlib.Omega.{arith}
use borrow.Author.Tests.{lt-ltb, le-ltb}
use lib.IntN.{ℤ}
use lib.ListN.{length}
use Rattle.rules.specs.declared.Entry.{Entry}
use Rattle.rules.specs.Book.{Placed}
use Rattle.rules.specs.Read.{head_of}
use Rattle.rules.specs.declared.Sums.{Sums}
use Rattle.rules.specs.declared.causes.Cause.TheVariants.{RowsShort}
use Rattle.rules.specs.declared.causes.Refusal.{Refusal}
use Rattle.rules.specs.declared.verdicts.Verdict.{Verdict}
use Rattle.rules.specs.Numbers.{cause_number, verdict_number}
use Rattle.rules.specs.Ratio.{tier1_of, verdict_of}
use Rattle.rules.specs.Rows.{sums_of, exposure_row, rows_of}
use Rattle.std.specs.Prelude.{Ok, Err, drop}
use Rattle.rules.specs.Filing.{Outcome, early, refused, accepted, admission, outcome_of, register_after, filing_of, filing}
use Rattle.rules.proofs.Lists.{total_le_all}
use Rattle.laws.proofs.GoodHead.{good_head}
use Rattle.laws.proofs.Accepted.{accepted_is}
use Rattle.laws.proofs.ExposureSum.{accepted_balance, ups_are, downs_are}
use Rattle.laws.proofs.ItemBounds.{item_weight, items_small}
use Rattle.laws.proofs.ItemRows.{all_rows, rows_at_most, sums_total}
use Rattle.template.specs.Sections.{SumsFit}
use Rattle.reading.specs.Admission.{Admission}
use Rattle.reading.specs.Admission.{Admitted, Refused}
use Rattle.filing.specs.Answers.{admission_of, AdmissionFits, filed}

-- ---- the sums of an accepted book fit the rows

small : (ws : List ℕ) (rows entries : ℕ) (items : List Placed) (left : List Entry) → outcome_of ws rows entries ≡ accepted items left → SumsFit (sums_of (head_of ws).bands items)
unfolding sums_of
small ws rows entries items left e =
    let a = accepted_is ws rows entries items left e in
    let bands = (head_of ws).bands in
    let l = rw a.reading.read at (items_small bands ws (good_head ws a.reading.head).long) in
    let m = total_le_all (λ (p : Placed). all_rows bands p.item) (λ (p : Placed). item_weight bands p.item) (λ p. rows_at_most bands p.item) items in
    let t = sums_total bands items in
    let short = a.reading.short in
    record {
      up = omega arith;
      down = omega arith;
      within = omega (arith, ups_are bands items, downs_are bands items, accepted_balance ws rows entries items left e);
    }

-- what is admitted can be published
pub admission_fits : (ws : List ℕ) (rows entries : ℕ) → 22 ≤ rows → (a : Admission) → a ≡ admission_of (head_of ws).bands (admission ws entries) → AdmissionFits a
unfolding outcome_of
admission_fits ws rows entries h a q = rw q (go (admission ws entries) refl)
  where
    whole : (o : Outcome) → admission ws entries ≡ o → outcome_of ws rows entries ≡ o
    whole o e = simp (le-ltb rows 22 h) e

    go : (o : Outcome) → admission ws entries ≡ o → AdmissionFits (admission_of (head_of ws).bands o)
    go (early number) e = tt
    go (refused number place) e = tt
    go (accepted items left) e = small ws rows entries items left (whole (accepted items left) e)

-- ---- the filing

pub filed_short : (ws : List ℕ) (rows : List ℤ) (register : List Entry) → length rows < 22 → filed (Err (record { cause = RowsShort; place = 0 })) rows register ≡ filing ws rows register
unfolding filing outcome_of
filed_short ws rows register h = simp (lt-ltb (length rows) 22 h)

module _ (ws : List ℕ) (rows : List ℤ) (register after : List Entry) (h : 22 ≤ length rows) (gq : after ≡ register_after (head_of ws) (admission ws (length register)) register) where
  pub filed_refused : (r : Refusal) → Refused (cause_number r.cause) r.place ≡ admission_of (head_of ws).bands (admission ws (length register)) → filed (Err r) rows after ≡ filing ws rows register
  unfolding filing outcome_of
  filed_refused r q = simp (le-ltb (length rows) 22 h) (rw gq (go (admission ws (length register)) q))
    where
      go : (o : Outcome) → ◌≡◌ {A = Admission} (Refused (cause_number r.cause) r.place) (admission_of (head_of ws).bands o) → filed (Err r) rows (register_after (head_of ws) o register) ≡ filing_of (head_of ws) o rows register
      go (early number) e = let x : cause_number r.cause ≡ number = cc in let y : r.place ≡ 0 = cc in rw (x, y) refl
      go (refused number place) e = let x : cause_number r.cause ≡ number = cc in let y : r.place ≡ place = cc in rw (x, y) refl
      go (accepted items left) e = cc

  pub filed_accepted : (s : Sums) → Admitted s ≡ admission_of (head_of ws).bands (admission ws (length register)) → (v : Verdict) (rows' : List ℤ)
      → verdict_number v ≡ verdict_of (tier1_of (head_of ws).gain (head_of ws).loss) (exposure_row s) → rows' ≡ rows_of s (head_of ws).gain (head_of ws).loss ++ drop 22 rows → filed (Ok v) rows' after ≡ filing ws rows register
  unfolding filing outcome_of
  filed_accepted s q v rows' vq wq = simp (le-ltb (length rows) 22 h) (rw (gq, wq, vq) (go (admission ws (length register)) q))
    where
      go : (o : Outcome) → ◌≡◌ {A = Admission} (Admitted s) (admission_of (head_of ws).bands o)
          → record { number = 0; place = 0; verdict = verdict_of (tier1_of (head_of ws).gain (head_of ws).loss) (exposure_row s); rows = rows_of s (head_of ws).gain (head_of ws).loss ++ drop 22 rows; register = register_after (head_of ws) o register } ≡ filing_of (head_of ws) o rows register
      go (early number) e = cc
      go (refused number place) e = cc
      go (accepted items left) e = let x : s ≡ sums_of (head_of ws).bands items = cc in rw x refl
