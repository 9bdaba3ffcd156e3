-- Where the items of a book begin: the definition. Assumes nothing.
use Prim.Native.Nat.{ℕ, ◌+◌, ◌*◌}
use mathlib.Core.List.{List}
use Rattle.rules.specs.Read.{first_record, head_of}

-- where the protections end
abbrev pub items_begin : List ℕ → ℕ
items_begin ws = first_record + 4 * (head_of ws).protections
