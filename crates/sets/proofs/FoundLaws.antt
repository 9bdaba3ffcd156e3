-- What a search finds as the code hands it on: a span of the book, for every book. Assumes nothing.
use Prim.Native.Nat.{ℕ, ◌+◌}
use mathlib.Core.Path.{◌≡◌, refl, sym}
use mathlib.Core.List.{List}
use native.Mathlib.Omega.{arith}
use borrow.Author.Tests.{lt-ltb, le-ltb}
use lib.ListN.{length}
use denote.Ref.{Bor}
use Rattle.std.proofs.Common.{Option, Some, None}
use Rattle.std.specs.Option.{unwrap_or}
use Rattle.rules.specs.Word.{word, kind_of}
use Rattle.sets.specs.Sets.{Shown, turned_away, VeryStretch}
use Rattle.sets.specs.Search.{ends, place_from, found_at, IsPlace}

-- where a place is answered, the set there is what is shown
pub found_there : (ws : List ℕ) (place begin : ℕ) → IsPlace (length ws) place (Some begin) → (end : ℕ) → end ≡ place_from (ends (kind_of (word ws begin))) ws (begin + 1) 0
    → record { number = 0; place = 0; begin = begin; end = end } ≡ found_at ws place
found_there ws place begin p end f = rw (← p.0, lt-ltb begin (length ws) p.1, f) refl

-- none is
pub found_none : (ws : List ℕ) (place : ℕ) → IsPlace (length ws) place None → turned_away 15 0 ≡ found_at ws place
found_none ws place p = rw (p, le-ltb (length ws) (length ws) (omega arith)) refl

-- a place that is answered, and the length where none is
pub place_or_end : (length place : ℕ) (at : Option ℕ) → IsPlace length place at → unwrap_or at length ≡ place
place_or_end length place (Some i) p = p.0
place_or_end length place None p = sym p

-- the very stretch of what is equal
pub very_same : (book r : Bor (List ℕ)) (s t : Shown) → s ≡ t → VeryStretch book s r → VeryStretch book t r
very_same book r s t e v = rw e at v
