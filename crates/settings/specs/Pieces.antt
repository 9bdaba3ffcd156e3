-- What a derivative set adds to row 21 under each setting, by what the code weighs of it once. Assumes nothing.
use Rattle.std.specs.Prelude.{ℕ, ◌+◌, ◌-◌, ◌*◌, ◌^◌, ◌≤◌, ◌<◌, Bool, cond, ◌&&◌, pos}
use Rattle.rules.specs.Word.{bit_of}
use Rattle.rules.specs.Book.{DerivativeSet}
use Rattle.rules.specs.Weighted.{weighted_of}
use Rattle.rules.specs.Ratio.{tier1_of, verdict_of}
use Rattle.other_marks.specs.Marked.{settings}
use Rattle.weighing.specs.declared.tally.Tally.{Tally}
use Rattle.settings.specs.declared.exposure.Pieces.{Pieces}

-- the net of a tally, and the weighted add-on that is kept in where netting is marked
abbrev pub net_in : Tally → ℕ
net_in t = t.gains - t.losses

abbrev pub kept_netted : Tally → ℕ
kept_netted t = weighted_of (t.gross - t.uncovered) t.gains (net_in t)

unfoldable pub pieces_of : DerivativeSet → Tally → Pieces
pieces_of s t = record {
  gross = 1000 * t.gains + (t.gross - t.uncovered);
  netted = 1000 * net_in t + kept_netted t;
  margined = 1000 * (net_in t - s.received) + kept_netted t;
  paid = 1000 * s.paid;
  fixed = 1000 * s.posted + 1000 * (t.written - t.covered);
}

-- bits 0 to 4 are all 1
abbrev pub offsets_in : ℕ → Bool
offsets_in m = bit_of 0 m && bit_of 1 m && bit_of 2 m && bit_of 3 m && bit_of 4 m

-- under the marks m
unfoldable pub exposed_by : Pieces → (m : ℕ) → ℕ
exposed_by p m =
    p.fixed
    + cond (bit_of 5 m) 0 (cond (bit_of 0 m) (cond (offsets_in m) p.margined p.netted) p.gross)
    + cond (offsets_in m) 0 p.paid

-- with what the other items add, and this Tier 1
abbrev pub verdict_by : Pieces → (others gain loss m : ℕ) → ℕ
verdict_by p others gain loss m = verdict_of (tier1_of gain loss) (pos (others + exposed_by p m))

pub record PiecesFit (p : Pieces) : Type 0 where
  pub weighed : p.gross + p.netted + p.margined ≤ 2 ^ 63
  pub others : p.paid + p.fixed ≤ 2 ^ 61

-- under every setting
pub record AllFit (p : Pieces) (others : ℕ) : Type 0 where
  pub pieces : PiecesFit p
  pub exposure : (m : ℕ) → m < settings → others + exposed_by p m ≤ 2 ^ 62
