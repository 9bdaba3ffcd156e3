-- A loop along a run: a turn at each place, a state that each record is added to, and what the whole run comes to. Once for every
-- loop over records. Assumes nothing.
use Prim.Native.Nat.{ℕ, zero, suc, ◌+◌, ◌≤◌, ◌<◌}
use mathlib.Core.Path.{◌≡◌, sym, ◌∙◌, ap}
use native.Mathlib.Omega.{arith}
use Rattle.rules.specs.Run.{Turn, over, bad, some, Run, ended, with_one, then_run, run_from}

module _ {A S R : Type 0} (n : ℕ) (turn : ℕ → Turn A) (finish : S → Run A → R) (whole : R) where
  -- with the state s at a place, the turn there and at most `spare` more finish to the whole; that is enough for every place up to n
  pub record Along (s : S) (at : ℕ) : Type 0 where
    pub within : at ≤ n
    pub spare : ℕ
    pub enough : n ≤ at + spare
    pub rest : whole ≡ finish s (run_from turn (suc spare) at)

  pub along_start : (s : S) (at : ℕ) → at ≤ n → whole ≡ finish s (run_from turn (suc n) at) → Along s at
  along_start s at h e = record { within = h; spare = n; enough = omega arith; rest = e }

  module _ (s : S) (at : ℕ) (i : Along s at) where
    -- by what stands here
    taken : (t : Turn A) → turn at ≡ t → whole ≡ finish s (then_run t at (run_from turn i.spare))
    unfolding run_from
    taken t e = i.rest ∙ ap (λ (x : Turn A). finish s (then_run x at (run_from turn i.spare))) e

    -- the run ends here, without a fault or with one
    pub along_over : turn at ≡ over → finish s (ended 0 at) ≡ whole
    along_over e = sym (taken over e)

    pub along_bad : (f p : ℕ) → turn at ≡ bad f p → finish s (ended f p) ≡ whole
    along_bad f p e = sym (taken (bad f p) e)

    -- a record more
    pub along_one : (a : A) (next : ℕ) (s' : S) → turn at ≡ some a 0 next → at < next → next ≤ n → ((r : Run A) → finish s (with_one a r) ≡ finish s' r) → Along s' next
    along_one a next s' e h l add = go i.spare i.enough (taken (some a 0 next) e)
      where
        go : (k : ℕ) → n ≤ at + k → whole ≡ finish s (with_one a (run_from turn k next)) → Along s' next
        go zero m w = let z : ⊥ = omega arith in absurd z
        go (suc k) m w = record { within = l; spare = k; enough = omega arith; rest = w ∙ add (run_from turn (suc k) next) }
