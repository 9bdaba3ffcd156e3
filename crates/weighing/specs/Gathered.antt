-- What the reading gathers of a derivative set, as the code's tally has it, and what it brings to the sums of the book.
-- Assumes nothing.
use Rattle.std.specs.Prelude.{ℕ, ◌+◌, ◌-◌, ◌*◌, ◌^◌, ◌≤◌, Bool, cond, List}
use Rattle.rules.specs.declared.Bands.{Bands}
use Rattle.rules.specs.declared.Sums.{Sums}
use Rattle.rules.specs.Word.{gain_of, loss_of}
use Rattle.rules.specs.Book.{WrittenCredit, Member, DerivativeSet, total}
use Rattle.rules.specs.Weighted.{weighted_of}
use Rattle.rules.specs.Weigh.{written_add_on, kept_in, gain_in, loss_in, add_on_in, uncovered_in, written_in, covers_in, margin_offsets, replacement_of, weighted_in}
use Rattle.rules.specs.Weigh as weigh
use Rattle.weighing.specs.declared.tally.Tally.{Tally}

-- ---- the tally

-- nothing gathered yet
abbrev pub no_tally : Tally
no_tally = record { gains = 0; losses = 0; gross = 0; uncovered = 0; written = 0; covered = 0 }

-- with a member
abbrev pub plus_member : Bands → Tally → Member → Tally
plus_member bands t m = record {
  gains = t.gains + gain_in m;
  losses = t.losses + loss_in m;
  gross = t.gross + add_on_in bands m;
  uncovered = t.uncovered + uncovered_in m;
  written = t.written + written_in m;
  covered = t.covered + covers_in m;
}

-- with a written credit of which so much is covered
abbrev pub plus_written : Tally → WrittenCredit → ℕ → Tally
plus_written t w covered = record {
  gains = t.gains + w.gain;
  losses = t.losses + w.loss;
  gross = t.gross + written_add_on w;
  uncovered = t.uncovered + (written_add_on w - kept_in (written_add_on w) covered w.notional);
  written = t.written + (w.notional - w.loss_taken);
  covered = t.covered + covered;
}

-- with a basket of such a value and gross add-on
abbrev pub plus_basket : Tally → (value gross : ℕ) → Tally
plus_basket t value gross = record {
  gains = t.gains + gain_of value;
  losses = t.losses + loss_of value;
  gross = t.gross + gross;
  uncovered = t.uncovered;
  written = t.written;
  covered = t.covered;
}

-- with all of these members
abbrev pub plus_members : Bands → Tally → List Member → Tally
plus_members bands t members = record {
  gains = t.gains + total gain_in members;
  losses = t.losses + total loss_in members;
  gross = t.gross + total (add_on_in bands) members;
  uncovered = t.uncovered + total uncovered_in members;
  written = t.written + total written_in members;
  covered = t.covered + total covers_in members;
}

-- the tally leaves room for one member more
pub record TallyRoomy (t : Tally) : Type 0 where
  pub gains : t.gains ≤ 2 ^ 62
  pub losses : t.losses ≤ 2 ^ 62
  pub gross : t.gross ≤ 2 ^ 62
  pub uncovered : t.uncovered ≤ 2 ^ 62
  pub written : t.written ≤ 2 ^ 62
  pub covered : t.covered ≤ 2 ^ 62

-- ---- the rows of a set

-- the four sums that replacement and weighted add-on go by
abbrev pub tally_by : Tally → weigh.Tally
tally_by t = record { gains = t.gains; losses = t.losses; add_on = t.gross; uncovered = t.uncovered }

-- replacement, by the netting mark, the gains and what is taken off them
unfoldable pub replaced_by : (netting : Bool) (gains off : ℕ) → ℕ
replaced_by netting gains off = cond netting (gains - off) gains

-- the weighted add-on of x, by the netting mark, the gains and the losses
unfoldable pub weighted_by : (netting : Bool) (gains losses x : ℕ) → ℕ
weighted_by netting gains losses x = cond netting (weighted_of x gains (gains - losses)) x

-- what a set brings that has gathered this: rows 1 and 4 to 10
abbrev pub set_sums : DerivativeSet → Tally → Sums
set_sums d t = record {
  assets = 1000 * d.paid;
  deducted = 0;
  replacement = 1000 * replacement_of d (tally_by t);
  weighted = weighted_in d (tally_by t) t.gross;
  posted = 1000 * d.posted;
  offset = cond (margin_offsets d) (1000 * d.paid) 0;
  exempt = cond d.exempt (1000 * replacement_of d (tally_by t) + weighted_in d (tally_by t) (t.gross - t.uncovered)) 0;
  written = 1000 * t.written;
  covered = 1000 * t.covered + (weighted_in d (tally_by t) t.gross - weighted_in d (tally_by t) (t.gross - t.uncovered));
  financed = 0;
  netted = 0;
  principal = 0;
  agent = 0;
  committed = 0;
  unconverted = 0;
}

-- so much as a set of a book can come to at most
pub record TallyFits (t : Tally) : Type 0 where
  pub weight : 2000 * t.gains + 2 * t.gross + 1000 * t.written + 1000 * t.covered ≤ 2 ^ 61
  pub losses : t.losses ≤ 2 ^ 61
  pub uncovered : t.uncovered ≤ t.gross
