-- The covers of a written credit, one after the other: how many are left at a place, and what they come to. Assumes nothing.
use Prim.Native.Nat.{ℕ, ◌+◌}
use mathlib.Core.Path.{◌≡◌, refl, sym, ◌∙◌, ap}
use mathlib.Core.Bool.{Bool, true, false}
use mathlib.Core.List.{List}
use native.Mathlib.Omega.{arith}
use lib.ListN.{length}
use Rattle.rules.specs.Word.{word, size_of}
use Rattle.rules.specs.Book.{Cover, total}
use Rattle.rules.specs.Read.{cover_at, stands}
use Rattle.records.specs.Readable.{Readable}
use Rattle.cuts.proofs.Grammar.{stands_by_kind}
use Rattle.cuts.proofs.Records.{NoneOf, is_cover, CoverRead}
use Rattle.settings.specs.Members.{covers_from, covered_from, SureCovers}
use Rattle.settings.proofs.Ahead.{Ahead, covers_ahead_lem}

-- a test that holds and does not
pub clash : {X : Type 0} → true ≡ false → X
clash e = let z : ◌≡◌ {A = ℕ} 0 1 = cc in absurd (omega arith)

-- so much is added up at a place, and the covers from there on add the rest
pub record CoversLeft (ws : List ℕ) (from amount at : ℕ) : Type 0 where
  pub readable : Readable at ws
  pub number : (covers_from ws at).number ≡ 0
  pub sum : amount + covered_from ws at ≡ covered_from ws from
  pub stop : (covers_from ws at).place ≡ (covers_from ws from).place

pub covers_begin : (ws : List ℕ) (from : ℕ) → SureCovers ws from → CoversLeft ws from 0 from
covers_begin ws from s = record { readable = s.readable; number = s.number; sum = omega arith; stop = refl }

module _ (ws : List ℕ) (from amount at : ℕ) (c : CoversLeft ws from amount at) where
  ahead : Ahead (CoverRead ws at) (NoneOf is_cover ws at) (covers_from ws) (length ws) at (covers_from ws at)
  ahead = covers_ahead_lem ws at c.readable.within c.number

  -- a cover stands there
  module _ {b : Bool} (q : b ≡ stands 7 ws at) (e : b ≡ true) where
    taken : Readable (at + 2) ws × CoversLeft ws from (amount + size_of (word ws (at + 1))) (at + 2)
    unfolding cover_at
    taken = go ahead
      where
        go : Ahead (CoverRead ws at) (NoneOf is_cover ws at) (covers_from ws) (length ws) at (covers_from ws at) → Readable (at + 2) ws × CoversLeft ws from (amount + size_of (word ws (at + 1))) (at + 2)
        go (Ahead.ends o r p) = clash (sym e ∙ q ∙ stands_by_kind ws at 6 ∙ o)
        go (Ahead.goes a next (CoverRead.one w) l h n r p) =
            let readable : Readable (at + 2) ws = record { within = h; short = c.readable.short } in (
              readable,
              record { readable = readable; number = n; sum = omega (arith, c.sum, ap (total (λ (x : Cover). x.amount)) r); stop = sym p ∙ c.stop },
            )

    pub cover_there : Readable (at + 2) ws
    cover_there = taken.0

    pub cover_taken : {x : ℕ} → x ≡ size_of (word ws (at + 1)) → CoversLeft ws from (amount + x) (at + 2)
    cover_taken is = rw is taken.1

  -- none does
  pub covers_over : {b : Bool} → b ≡ stands 7 ws at → b ≡ false → (amount ≡ covered_from ws from) × (at ≡ (covers_from ws from).place)
  covers_over q e = go ahead
    where
      go : Ahead (CoverRead ws at) (NoneOf is_cover ws at) (covers_from ws) (length ws) at (covers_from ws at) → (amount ≡ covered_from ws from) × (at ≡ (covers_from ws from).place)
      go (Ahead.ends o r p) = (omega (arith, c.sum, ap (total (λ (x : Cover). x.amount)) r), sym p ∙ c.stop)
      go (Ahead.goes a next (CoverRead.one w) l h n r p) = clash (sym (stands_by_kind ws at 6 ∙ rw w.of) ∙ sym q ∙ e)
