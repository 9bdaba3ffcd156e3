-- A derivative set with other marks: its head word, its book, and the set itself. Assumes nothing.
use Rattle.std.specs.Prelude.{ℕ, ◌+◌, ◌*◌, ◌/◌, ◌^◌, List, set}
use Rattle.rules.specs.Word.{word, bit_of, marks_of_kind}
use Rattle.rules.specs.Book.{DerivativeSet, Item, Placed}

-- "the set's six marks": the lowest bits of its head word
abbrev pub mark_bits : ℕ
mark_bits = marks_of_kind 4

-- "all 64 settings"
abbrev pub settings : ℕ
settings = 2 ^ mark_bits

-- the head word with the marks m, all else as it is
abbrev pub with_marks : (w m : ℕ) → ℕ
with_marks w m = w / settings * settings + m

-- the book in which the set whose head stands at a place has the marks m
abbrev pub book_with : List ℕ → (head m : ℕ) → List ℕ
book_with ws head m = set ws head (with_marks (word ws head) m)

-- ---- as it is read

-- "an otherwise equal set"
abbrev pub set_with : ℕ → DerivativeSet → DerivativeSet
set_with m s = record {
  netting = bit_of 0 m;
  not_segregated = bit_of 1 m;
  daily = bit_of 2 m;
  same_currency = bit_of 3 m;
  full_amount = bit_of 4 m;
  exempt = bit_of 5 m;
  received = s.received;
  paid = s.paid;
  posted = s.posted;
  members = s.members;
}

-- another item at the same place
abbrev pub placed_with : Item → Placed → Placed
placed_with i p = record { begin = p.begin; end = p.end; item = i }
