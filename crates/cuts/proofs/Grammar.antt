-- A record alone and a record with a run behind it, once for every kind: it is read just where its words all stand there, none of its own
-- causes holds, and the run behind it is cut. Assumes nothing.
use Prim.Native.Nat.{ℕ, zero, suc, ◌+◌, ◌≤◌, ◌<◌}
use mathlib.Core.Path.{◌≡◌, refl, sym, ◌∙◌, ap}
use mathlib.Core.Bool.{Bool, true, false, ◌&&◌, cond, and-false}
use mathlib.Core.List.{List}
use native.Mathlib.Omega.{arith}
use native.Mathlib.Decide.{dec_lt}
use borrow.Author.Tests.{eqb-true, lt-ltb}
use lib.Dec.{eqb, ltb}
use lib.ListN.{length, get_or-eq_default}
use Rattle.rules.specs.Word.{word, kind_of, amounts_of_kind}
use Rattle.rules.specs.Run.{Turn, over, bad, some, run_from, sound}
use Rattle.rules.specs.Read.{lacks, record_then, stands}
use Rattle.laws.proofs.Records.{amounts_at_lem, lacks_room}
use Rattle.cuts.proofs.Chains.{Chain, Cut, View, chain_onward, chain_run, run_cut, run_within, seen_onward}

-- ---- which kind stands at a place

-- a word of a kind other than 0 stands there
pub kind_there : (ws : List ℕ) (at kind : ℕ) → kind_of (word ws at) ≡ suc kind → at < length ws
kind_there ws at kind e = go (dec_lt at (length ws))
  where
    go : Dec (at < length ws) → at < length ws
    go (yes p) = p
    go (no p) =
        let d = get_or-eq_default ws 0 {n = at} (omega arith) in
        let z : suc kind ≡ 0 = sym e ∙ ap kind_of d in
        let y : ⊥ = omega arith in absurd y

-- so which record stands at a place is told by the kind of the word there, which is 0 where there is none
pub stands_by_kind : (ws : List ℕ) (at kind : ℕ) → stands (suc kind) ws at ≡ eqb (kind_of (word ws at)) (suc kind)
stands_by_kind ws at kind = go (eqb (kind_of (word ws at)) (suc kind)) refl
  where
    go : (b : Bool) → eqb (kind_of (word ws at)) (suc kind) ≡ b → ltb at (length ws) && b ≡ b
    go true e = rw (lt-ltb at (length ws) (kind_there ws at kind (eqb-true _ _ e)))
    go false e = and-false (ltb at (length ws))

-- ---- a record that is whole: its amounts, as many as its kind asks for, are there, and none of its own causes holds

-- how many amounts a record of some kind at a place asks for
abbrev pub amounts_at : ℕ → List ℕ → ℕ → ℕ
amounts_at kind ws at = amounts_of_kind kind (word ws at)

pub record Whole (kind fault : ℕ) (ws : List ℕ) (at : ℕ) : Type 0 where
  pub of : kind_of (word ws at) ≡ kind
  pub amounts : lacks (amounts_at kind ws at) ws at ≡ false
  pub fine : fault ≡ 0

-- it ends within the words
pub whole_within : (kind fault : ℕ) (ws : List ℕ) (at : ℕ) → Whole (suc kind) fault ws at → at + suc (amounts_at (suc kind) ws at) ≤ length ws
whole_within kind fault ws at w = omega (arith, lacks_room (amounts_at (suc kind) ws at) ws at w.amounts (kind_there ws at kind w.of))

-- and what is read at it is what is read behind it
pub record_made : {A : Type 0} (kind fault : ℕ) (ws : List ℕ) (at : ℕ) (next : ℕ → Turn A) → Whole kind fault ws at
    → record_then ws at fault next ≡ next (at + suc (amounts_at kind ws at))
unfolding record_then
record_made kind fault ws at next w = rw (amounts_at_lem (word ws at) w.of, w.amounts, w.fine)

-- ---- what a turn is

module _ {A : Type 0} (ws : List ℕ) (at : ℕ) (R : A → ℕ → Type 0) (Over : Type 0) where
  -- what a turn at this place is
  abbrev pub Seen : Turn A → Type 0
  Seen = View (length ws) at R Over

  -- either of two turns
  pub seen_if : (b : Bool) (t u : Turn A) → (b ≡ true → Seen t) → (b ≡ false → Seen u) → Seen (cond b t u)
  seen_if true t u g h = g refl
  seen_if false t u g h = h refl

  -- a record of some kind: what is to be shown of what follows, where it is whole
  seen_record : (kind fault : ℕ) (next : ℕ → Turn A) → kind_of (word ws at) ≡ kind
      → (Whole kind fault ws at → Seen (next (at + suc (amounts_at kind ws at)))) → Seen (record_then ws at fault next)
  unfolding record_then
  seen_record kind fault next k h = rw (amounts_at_lem (word ws at) k) (go (lacks (amounts_at kind ws at) ws at) refl fault refl)
    where
      go : (b : Bool) → lacks (amounts_at kind ws at) ws at ≡ b → (f : ℕ) → fault ≡ f → Seen (cond b (bad 6 at) (sound f at (next (at + suc (amounts_at kind ws at)))))
      go true l f g = View.faulty
      go false l zero g = h (record { of = k; amounts = l; fine = g })
      go false l (suc f) g = View.faulty

  -- alone
  pub seen_single : (kind fault : ℕ) (a : A) → kind_of (word ws at) ≡ suc kind
      → (Whole (suc kind) fault ws at → R a (at + suc (amounts_at (suc kind) ws at))) → Seen (record_then ws at fault (some a 0))
  seen_single kind fault a k h =
      seen_record (suc kind) fault (some a 0) k (λ w. View.one (h w) (omega arith) (whole_within kind fault ws at w))

-- with a run behind it
module _ {A B : Type 0} {In : ℕ → B → ℕ → Type 0} {Out : ℕ → Type 0} (ws : List ℕ) (turn : ℕ → Turn B)
    (view : (at : ℕ) → View (length ws) at (In at) (Out at) (turn at)) (wrap : List B → A) where
  -- what begins behind its head
  abbrev pub behind : ℕ → Turn A
  behind next = some (wrap (run_from turn (suc (length ws)) next).records) (run_from turn (suc (length ws)) next).number (run_from turn (suc (length ws)) next).place

  -- where it is whole and the run behind it is cut, it is read so
  pub seen_set : (at : ℕ) (R : A → ℕ → Type 0) (Over : Type 0) (kind fault : ℕ) → kind_of (word ws at) ≡ suc kind
      → (Whole (suc kind) fault ws at → (l : List B) (stop : ℕ) → Cut In Out (at + suc (amounts_at (suc kind) ws at)) l stop → R (wrap l) stop)
      → Seen ws at R Over (record_then ws at fault behind)
  seen_set at R Over kind fault k h = seen_record ws at R Over (suc kind) fault behind k (λ w. go w (run_from turn (suc (length ws)) from).number refl)
    where
      from : ℕ
      from = at + suc (amounts_at (suc kind) ws at)

      go : Whole (suc kind) fault ws at → (n : ℕ) → (run_from turn (suc (length ws)) from).number ≡ n
          → Seen ws at R Over (some (wrap (run_from turn (suc (length ws)) from).records) n (run_from turn (suc (length ws)) from).place)
      go w zero e =
          let i = run_within (length ws) turn view (suc (length ws)) from (whole_within kind fault ws at w) e in
          View.one (h w _ _ (run_cut (length ws) turn view from e)) (omega (arith, i.0)) i.1
      go w (suc n) e = View.broken

  -- and back
  pub set_made : (made : (i : ℕ) (b : B) (next : ℕ) → In i b next → turn i ≡ some b 0 next) (ended : (i : ℕ) → Out i → turn i ≡ over)
      → (at kind fault : ℕ) (l : List B) (stop : ℕ) → Whole (suc kind) fault ws at → Cut In Out (at + suc (amounts_at (suc kind) ws at)) l stop
      → record_then ws at fault behind ≡ some (wrap l) 0 stop
  set_made made ended at kind fault l stop w c =
      let onward : (i : ℕ) (b : B) (next : ℕ) → In i b next → (i < next) × (next ≤ length ws) = seen_onward (length ws) turn view made in
      let o = chain_onward (λ i b next r. (onward i b next r).0) c.chain in
      let m = chain_within (length ws) (λ i b next r. (onward i b next r).1) (whole_within kind fault ws at w) c.chain in
      record_made (suc kind) fault ws at behind w ∙ rw (chain_run turn made c.chain (ended stop c.last) (suc (length ws)) (omega arith))
    where
      chain_within : (n : ℕ) → ((i : ℕ) (b : B) (next : ℕ) → In i b next → next ≤ n) → {i stop : ℕ} {l : List B} → i ≤ n → Chain In i l stop → stop ≤ n
      chain_within n f h Chain.done = h
      chain_within n f h (Chain.then {at = i} {next} {a = b} r c) = chain_within n f (f i b next r) c
