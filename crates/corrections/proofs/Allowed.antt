-- What an item that is read is known to have, since no cause refused it: of an asset, provision and deduction are within the carrying amount; and neither
-- that nor an off-balance notional has a sign. Assumes nothing.
use Prim.Native.Nat.{ℕ, ◌/◌, ◌%◌, ◌^◌}
use mathlib.Core.Path.{◌≡◌}
use mathlib.Core.Bool.{Bool, false, ◌||◌}
use mathlib.Core.List.{List}
use native.Mathlib.Omega.{arith}
use borrow.Author.Tests.{leb-false, ne_eqb}
use lib.IntN.{pos}
use lib.ListN.{drop}
use Rattle.rules.specs.Word.{word, payload_of, bit_of, size_of, gain_of, loss_of, faulty_amount}
use Rattle.rules.specs.Book.{Item, asset, derivatives, financing, off_balance, Placed}
use Rattle.rules.specs.Faults.{cause, asset_fault, off_balance_fault}
use Rattle.rules.proofs.Lists.{or_left}
use Rattle.rules.proofs.Differences.{of_pos, of_sub, same}
use Rattle.laws.proofs.Valid.{ValidItem, ValidPlaced, cause_none}
use Rattle.cuts.proofs.Records.{ItemRead}
use Rattle.cuts.proofs.Cutting.{ItemHere}
use Rattle.corrections.specs.Claims.{signed_of}

-- an amount that is its size
abbrev Signless : ℕ → Type 0
Signless w = signed_of w ≡ pos (size_of w)

-- as it is where no negative is allowed
no_sign : (w : ℕ) → faulty_amount w ≡ false → Signless w
unfolding gain_of loss_of
no_sign w e =
    let s : bit_of 27 w ≡ false = ne_eqb (w / 2 ^ 27 % 2) 1 (λ z. omega (arith, leb-false (2 ^ 27) (payload_of w) e)) in
    rw s (same (of_sub (size_of w) 0) (of_pos (size_of w)))

-- the first amount of an item, in words of its own
abbrev SignlessItem : List ℕ → Item → Type 0
SignlessItem ws (asset a) = Signless (word ws 1)
SignlessItem ws (derivatives s) = Unit {0}
SignlessItem ws (financing s) = Unit {0}
SignlessItem ws (off_balance o) = Signless (word ws 1)

-- cause 8 does not hold, if no cause does
no_cause_8 : (bits amounts : Bool) (next : ℕ) → cause 7 bits (cause 8 amounts next) ≡ 0 → amounts ≡ false
no_cause_8 bits amounts next e = (cause_none 7 amounts next (cause_none 6 bits (cause 8 amounts next) e).1).0

item_signless : (ws : List ℕ) (i : Item) (n : ℕ) → ItemRead ws i n → SignlessItem ws i
unfolding asset_fault off_balance_fault
item_signless ws i n (ItemRead.of_asset w) =
    let first_two = or_left (faulty_amount (word ws 1) || faulty_amount (word ws 2)) _ (no_cause_8 _ _ _ w.fine) in
    no_sign (word ws 1) (or_left (faulty_amount (word ws 1)) _ first_two)
item_signless ws i n (ItemRead.for_derivatives w c) = tt
item_signless ws i n (ItemRead.for_financing w c) = tt
item_signless ws i n (ItemRead.for_off_balance w) = no_sign (word ws 1) (no_cause_8 _ _ _ w.fine)

abbrev pub Allowed : List ℕ → Item → Type 0
Allowed ws i = ValidItem i × SignlessItem ws i

-- where it stands in a book
pub here_allowed : (ws : List ℕ) (at : ℕ) (p : Placed) (next : ℕ) → ItemHere ws at p next → ValidPlaced p → Allowed (drop at ws) p.item
here_allowed ws at p next (ItemHere.here {i} {n} r) v = (v, item_signless (drop at ws) i n r)
