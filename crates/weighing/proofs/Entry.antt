-- What a derivative set brings, by its head and by what its members were found to be. Assumes nothing.
use Prim.Native.Nat.{ℕ}
use mathlib.Core.Path.{◌≡◌}
use mathlib.Core.List.{List}
use native.Mathlib.Nat.{zero-add}
use Rattle.rules.specs.declared.Bands.{Bands}
use Rattle.rules.specs.Book.{Member, derivatives}
use Rattle.rules.specs.Read.{derivative_set_at}
use Rattle.rules.specs.Weigh.{tally_of, replacement_of, weighted_in}
use Rattle.records.specs.Sums.{item_sums}
use Rattle.weighing.specs.Words.{set_words, set_of}
use Rattle.weighing.specs.Gathered.{no_tally, plus_members, set_sums}

-- the item, by its tally
pub item_is : (bands : Bands) (ws : List ℕ) (members : List Member)
    → item_sums bands (derivatives (derivative_set_at ws members)) ≡ set_sums (set_of (set_words ws)) (plus_members bands no_tally members)
unfolding derivative_set_at tally_of replacement_of weighted_in
item_is bands ws members = simp zero-add
