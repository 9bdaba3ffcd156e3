-- How large the sums are with a derivative set. Assumes nothing.
use Prim.Native.Nat.{ℕ, ◌+◌, ◌-◌, ◌*◌, ◌^◌, ◌≤◌}
use mathlib.Core.List.{List}
use native.Mathlib.Omega.{arith}
use lib.ListN.{length}
use Rattle.rules.specs.declared.Sums.{Sums}
use Rattle.rules.specs.Read.{derivative_set_at}
use Rattle.rules.specs.Weigh.{margin_offsets, replacement_of, weighted_in}
use Rattle.laws.proofs.ItemRows.{marked, replacement_at_most, weighted_at_most}
use Rattle.records.specs.Sums.{plus}
use Rattle.weighing.specs.declared.read.SetWords.{SetWords}
use Rattle.weighing.specs.declared.tally.Tally.{Tally}
use Rattle.weighing.specs.Words.{set_of}
use Rattle.weighing.specs.Gathered.{TallyFits, set_sums, tally_by}
use Rattle.derivatives.specs.Ahead.{TallyUpTo}
use Rattle.reading.specs.Steps.{all_sums, SumsUpTo}

-- a tally of so many words is not too large
pub tally_fits : {t : Tally} {place : ℕ} → TallyUpTo t place → place ≤ 2 ^ 20 → TallyFits t
tally_fits l h = record { weight = omega (arith, l.weight); losses = omega (arith, l.losses); uncovered = l.uncovered }

-- the head of the set makes up for its margin and collateral
pub sums_with_set : {ws : List ℕ} {s : Sums} {at : ℕ} → SumsUpTo ws s at → (x : SetWords) (t : Tally) (place : ℕ) → TallyUpTo t place → at + place ≤ length ws
    → SumsUpTo ws (plus s (set_sums (set_of x) t)) (at + place)
unfolding all_sums derivative_set_at
sums_with_set {s = s} f x t place l h =
    let d = set_of x in
    let small = f.small in
    let weight = l.weight in
    record {
      readable = record { within = h; short = f.readable.short };
      small = omega (
        arith,
        replacement_at_most d (tally_by t),
        weighted_at_most d (tally_by t) t.gross,
        weighted_at_most d (tally_by t) (t.gross - t.uncovered),
        marked (margin_offsets d) (1000 * d.paid),
        marked d.exempt (1000 * replacement_of d (tally_by t) + weighted_in d (tally_by t) (t.gross - t.uncovered)),
      );
    }
