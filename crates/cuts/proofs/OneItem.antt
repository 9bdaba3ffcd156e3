-- The words that read as one item and no more. Assumes nothing.
use Prim.Native.Nat.{ℕ, ◌≤◌}
use mathlib.Core.Path.{◌≡◌, sym, ◌∙◌, ap}
use mathlib.Core.List.{List, ◌++◌}
use native.Mathlib.Omega.{arith}
use native.Mathlib.Nat.{add-zero}
use lib.ListN.{length, take, get_or-eq_default}
use lib.Seq.{length-take-le, take-take, take-length, take-append_seam, get_or-append-add}
use Rattle.rules.specs.Word.{word}
use Rattle.rules.specs.Book.{Item}
use Rattle.cuts.proofs.Records.{NoneOf, runs_on, ItemRead, item_onward}
use Rattle.cuts.proofs.Local.{item_local}

-- all of them, and nothing is left
abbrev pub OneItem : List ℕ → Item → Type 0
OneItem ws i = ItemRead ws i (length ws)

-- an item's words alone read as that item
pub item_alone : (n : ℕ) (i : Item) (ws : List ℕ) → ItemRead ws i n → OneItem (take n ws) i
item_alone n i ws r =
    let k = length-take-le n ws (item_onward ws i n r).1 in
    rw k (item_local n ws (take n ws) i r (sym (take-take n n ws (omega arith))) (none_behind (take n ws) n (omega arith)))
  where
    none_behind : (zs : List ℕ) (m : ℕ) → length zs ≤ m → NoneOf runs_on zs m
    none_behind zs m h = rw (get_or-eq_default zs 0 {n = m} h)

-- and before any other words, unless these go on with it
pub item_before : (i : Item) (ws rest : List ℕ) → OneItem ws i → NoneOf runs_on rest 0 → ItemRead (ws ++ rest) i (length ws)
item_before i ws rest r e = item_local (length ws) ws (ws ++ rest) i r (take-length ws ∙ sym (take-append_seam ws rest)) (rw behind e)
  where
    behind : word (ws ++ rest) (length ws) ≡ word rest 0
    behind = ap (λ (i : ℕ). word (ws ++ rest) i) (sym (add-zero (length ws))) ∙ get_or-append-add ws rest 0 0
