-- A run that ends without a fault, one record on: nothing stands there, or a record does and the run goes on behind it. Once for covers and members.
-- Assumes nothing.
use Prim.Native.Nat.{ℕ, ◌≤◌, ◌<◌}
use mathlib.Core.Path.{◌≡◌, refl}
use mathlib.Core.List.{List, [], ◌∷◌}
use native.Mathlib.Omega.{arith}
use lib.ListN.{length}
use Rattle.rules.specs.declared.Bands.{Bands}
use Rattle.rules.specs.Run.{Turn, Run, then_run}
use Rattle.rules.specs.Read.{cover_turn, member_turn}
use Rattle.rules.proofs.Runs.{run_on}
use Rattle.laws.proofs.MemberBounds.{per_word, cover_weight, fine_cover, member_weight, fine_member}
use Rattle.cuts.proofs.Chains.{View}
use Rattle.cuts.proofs.Records.{NoneOf, is_cover, CoverRead, cover_view, is_member, MemberRead, member_view}
use Rattle.settings.specs.Members.{covers_from, members_from}

-- what stands at a place, and what it leaves of a run from there on
pub data Ahead {A : Type 0} (R : A → ℕ → Type 0) (Over : Type 0) (rest : ℕ → Run A) (n at : ℕ) (r : Run A) : Type 0 where
  ends : Over → r.records ≡ [] → r.place ≡ at → Ahead R Over rest n at r
  goes : (a : A) (next : ℕ) → R a next → at < next → next ≤ n → (rest next).number ≡ 0 → r.records ≡ a ∷ (rest next).records → r.place ≡ (rest next).place → Ahead R Over rest n at r

module _ {A : Type 0} {R : A → ℕ → Type 0} {Over : Type 0} (rest : ℕ → Run A) (n at : ℕ) where
  by_view : (t : Turn A) → View n at R Over t → (then_run t at rest).number ≡ 0 → Ahead R Over rest n at (then_run t at rest)
  by_view t (View.ends o) e = Ahead.ends o refl refl
  by_view t View.faulty e = let z : ⊥ = omega arith in absurd z
  by_view t View.broken e = let z : ⊥ = omega arith in absurd z
  by_view t (View.one {a = a} {next = next} r l h) e = Ahead.goes a next r l h e refl refl

module _ (ws : List ℕ) (at : ℕ) (h : at ≤ length ws) where
  pub covers_ahead_lem : (covers_from ws at).number ≡ 0 → Ahead (CoverRead ws at) (NoneOf is_cover ws at) (covers_from ws) (length ws) at (covers_from ws at)
  covers_ahead_lem e =
      let one = run_on (length ws) per_word cover_weight (cover_turn ws) (fine_cover ws) at h in
      rw one (by_view (covers_from ws) (length ws) at (cover_turn ws at) (cover_view ws at) (rw one at e))

  pub members_ahead_lem : Bands → (members_from ws at).number ≡ 0 → Ahead (MemberRead ws at) (NoneOf is_member ws at) (members_from ws) (length ws) at (members_from ws at)
  members_ahead_lem bands e =
      let one = run_on (length ws) per_word (member_weight bands) (member_turn ws) (fine_member bands ws) at h in
      rw one (by_view (members_from ws) (length ws) at (member_turn ws at) (member_view ws at) (rw one at e))
