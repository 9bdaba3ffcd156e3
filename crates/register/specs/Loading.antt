-- The protections of a book as entries of the register. Assumes nothing.
use Rattle.std.specs.Prelude.{ℕ, zero, suc, ◌+◌, ◌*◌, List, [], ◌∷◌}
use Rattle.rules.specs.declared.Entry.{Entry}
use Rattle.rules.specs.Read.{first_record, protection_at}
use Rattle.rules.specs.Register.{entry_of}

-- where protection i stands: a protection has a head word and three amounts
abbrev pub protection_place : ℕ → ℕ
protection_place i = first_record + 4 * i

-- the entries of n protections from the i-th on
unfoldable pub loaded_from : List ℕ → (n i : ℕ) → List Entry
loaded_from ws zero i = []
loaded_from ws (suc n) i = entry_of (protection_at ws (protection_place i)) ∷ loaded_from ws n (suc i)
