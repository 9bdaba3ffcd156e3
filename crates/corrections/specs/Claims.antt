-- Request A.4: how far row 21 can move where one amount of an accepted book is corrected. Assumes nothing.
use Rattle.std.specs.Prelude.{ℕ, suc, ◌*◌, ◌≤◌, ◌<◌, ◌≡◌, Bool, true, false, List, ℤ, nat_abs, ◌-ℤ◌, length}
use Rattle.std.proofs.Math.IntN.{sub_ℕ}
use Rattle.rules.specs.declared.Entry.{Entry}
use Rattle.rules.specs.Word.{word, gain_of, loss_of}
use Rattle.rules.specs.Read.{items_of}
use Rattle.rules.specs.Filing.{filing}
use Rattle.rules.specs.TwoDesks.{exposure_in}
use Rattle.cuts.specs.Words.{OneAmount}
use Rattle.corrections.specs.Roles.{Role, carrying, off_balance_notional, value, lent, roles_of, role_at}

-- ---- the roles

-- where a book is read without a fault, there is one for each word but the last, which is the end
abbrev pub OneRoleEach : Type 0
OneRoleEach = (ws : List ℕ) → (items_of ws).number ≡ 0 → length ws ≡ suc (length (roles_of ws))

-- two accepted books that are equal but for an amount, whichever it is, are cut alike: each word has the same role in both
abbrev pub SameRoles : Type 0
SameRoles =
    (xs ys : List ℕ) (k : ℕ) (rows rows' : List ℤ) (register register' : List Entry)
    → OneAmount xs ys k
    → (filing xs rows register).number ≡ 0
    → (filing ys rows' register').number ≡ 0
    → roles_of xs ≡ roles_of ys

-- ---- the ceilings

-- thousandths of row 21 for each unit of a correction, by what the amount is. Of a netted value there is none.
pub data Ceiling : Role → ℕ → Type 0 where
  of_carrying : {fiduciary : Bool} → Ceiling (carrying fiduciary) 1000
  for_off_balance : {class committed : ℕ} → Ceiling (off_balance_notional class committed) 1000
  of_value : Ceiling (value false) 1000
  of_lent : Ceiling (lent false) 1000
  of_lent_further : Ceiling (lent true) 2000

-- ---- two books

-- how far two rows, or two amounts, are apart
abbrev pub apart : ℤ → ℤ → ℕ
apart a b = nat_abs (a -ℤ b)

-- an amount with its sign
abbrev pub signed_of : ℕ → ℤ
signed_of w = sub_ℕ (gain_of w) (loss_of w)

-- by how many units the amount at a place is corrected: from −5 to 5 it is 10
abbrev pub units : (xs ys : List ℕ) (k : ℕ) → ℕ
units xs ys k = apart (signed_of (word xs k)) (signed_of (word ys k))

-- for every two accepted books that are equal but for an amount, which is of this role: row 21 moves, up or down, by at most so many thousandths for each
-- unit; whatever their rows and registers hold and however long they are
abbrev pub MovesAtMost : Role → ℕ → Type 0
MovesAtMost role ceiling =
    (xs ys : List ℕ) (k : ℕ) (rows rows' : List ℤ) (register register' : List Entry)
    → OneAmount xs ys k
    → role_at xs k ≡ role
    → (filing xs rows register).number ≡ 0
    → (filing ys rows' register').number ≡ 0
    → apart (exposure_in (filing xs rows register)) (exposure_in (filing ys rows' register')) ≤ ceiling * units xs ys k

-- THE CLAIM
abbrev pub CeilingsHold : Type 0
CeilingsHold = (role : Role) (ceiling : ℕ) → Ceiling role ceiling → MovesAtMost role ceiling

-- ---- none can be lowered

-- a smaller figure does not hold
abbrev pub NoLower : Role → ℕ → Type 0
NoLower role ceiling = (figure : ℕ) → figure < ceiling → MovesAtMost role figure → ⊥

-- of an asset without the mark, and of an off-balance item that is converted in full; and of a netted value no figure below 601,000 does
pub record LowestCeilings : Type 0 where
  pub of_carrying : NoLower (carrying false) 1000
  pub for_off_balance : NoLower (off_balance_notional 3 0) 1000
  pub of_value : NoLower (value false) 1000
  pub of_lent : NoLower (lent false) 1000
  pub of_lent_further : NoLower (lent true) 2000
  pub of_netted_value : NoLower (value true) 601000
