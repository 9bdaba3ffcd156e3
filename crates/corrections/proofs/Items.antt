-- Two items that are equal but for one amount, as they are read, of whatever kind they are. Assumes nothing.
use Prim.Native.Nat.{ℕ}
use mathlib.Core.Path.{◌≡◌}
use mathlib.Core.Bool.{true}
use mathlib.Core.List.{List}
use Rattle.rules.specs.Word.{word}
use Rattle.rules.specs.Book.{Item}
use Rattle.cuts.specs.Words.{OneAmount}
use Rattle.cuts.proofs.OneAmount.{ItemOther}
use Rattle.corrections.specs.Roles.{item_roles}
use Rattle.corrections.proofs.Corrected.{Corrected}
use Rattle.corrections.proofs.Allowed.{Allowed}
use Rattle.corrections.proofs.Places.{role_in, spoken_of}
use Rattle.corrections.proofs.Assets.{asset_corrected, off_balance_corrected}
use Rattle.corrections.proofs.Members.{set_none, members_corrected}
use Rattle.corrections.proofs.FinancingTrades.{trades_corrected}

pub item_corrected : {xs ys : List ℕ} {k : ℕ} (o : OneAmount xs ys k) (i j : Item) (n : ℕ) → ItemOther xs ys k i j n → Allowed xs i → Allowed ys j
    → spoken_of (role_in (item_roles i) k) ≡ true → Corrected (word xs k) (word ys k) (role_in (item_roles i) k) i j
item_corrected o i j n ItemOther.assets v w h = asset_corrected o v w h
item_corrected o i j n (ItemOther.sets l b) v w h = absurd (set_none o l b h)
item_corrected o i j n (ItemOther.members {l} {m} c) v w h = members_corrected o l m c h
item_corrected o i j n (ItemOther.financings {l} {m} c) v w h = trades_corrected o l m c h
item_corrected o i j n ItemOther.commitments v w h = off_balance_corrected o v w h
