-- Sums that are added, and what an item brings. Assumes nothing.
use Rattle.std.specs.Prelude.{◌+◌, ◌^◌, ◌≤◌}
use Rattle.rules.specs.declared.Bands.{Bands}
use Rattle.rules.specs.declared.Sums.{Sums}
use Rattle.rules.specs.Book.{Item}
use Rattle.rules.specs.Rows.{row1, row2, row4, row5, row6, row7, row8, row9, row10, row12, row13, row14, row15, row17, row18}

abbrev pub no_sums : Sums
no_sums = record {
  assets = 0;
  deducted = 0;
  replacement = 0;
  weighted = 0;
  posted = 0;
  offset = 0;
  exempt = 0;
  written = 0;
  covered = 0;
  financed = 0;
  netted = 0;
  principal = 0;
  agent = 0;
  committed = 0;
  unconverted = 0;
}

abbrev pub plus : Sums → Sums → Sums
plus s t = record {
  assets = s.assets + t.assets;
  deducted = s.deducted + t.deducted;
  replacement = s.replacement + t.replacement;
  weighted = s.weighted + t.weighted;
  posted = s.posted + t.posted;
  offset = s.offset + t.offset;
  exempt = s.exempt + t.exempt;
  written = s.written + t.written;
  covered = s.covered + t.covered;
  financed = s.financed + t.financed;
  netted = s.netted + t.netted;
  principal = s.principal + t.principal;
  agent = s.agent + t.agent;
  committed = s.committed + t.committed;
  unconverted = s.unconverted + t.unconverted;
}

-- each row of an item
abbrev pub item_sums : Bands → Item → Sums
item_sums bands i = record {
  assets = row1 bands i;
  deducted = row2 bands i;
  replacement = row4 bands i;
  weighted = row5 bands i;
  posted = row6 bands i;
  offset = row7 bands i;
  exempt = row8 bands i;
  written = row9 bands i;
  covered = row10 bands i;
  financed = row12 i;
  netted = row13 i;
  principal = row14 i;
  agent = row15 i;
  committed = row17 i;
  unconverted = row18 i;
}

-- sums of which two can be added
pub record SumsRoomy (s : Sums) : Type 0 where
  pub assets : s.assets ≤ 2 ^ 61
  pub deducted : s.deducted ≤ 2 ^ 61
  pub replacement : s.replacement ≤ 2 ^ 61
  pub weighted : s.weighted ≤ 2 ^ 61
  pub posted : s.posted ≤ 2 ^ 61
  pub offset : s.offset ≤ 2 ^ 61
  pub exempt : s.exempt ≤ 2 ^ 61
  pub written : s.written ≤ 2 ^ 61
  pub covered : s.covered ≤ 2 ^ 61
  pub financed : s.financed ≤ 2 ^ 61
  pub netted : s.netted ≤ 2 ^ 61
  pub principal : s.principal ≤ 2 ^ 61
  pub agent : s.agent ≤ 2 ^ 61
  pub committed : s.committed ≤ 2 ^ 61
  pub unconverted : s.unconverted ≤ 2 ^ 61
