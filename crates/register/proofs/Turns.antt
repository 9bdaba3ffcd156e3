-- The loop of the settling: what it keeps from turn to turn, and what is answered where it is left. Assumes nothing.
use Prim.Native.Nat.{ℕ, ◌<◌}
use mathlib.Core.Path.{◌≡◌, refl, sym, ◌∙◌, ap}
use mathlib.Core.List.{List, [], ◌∷◌, ◌++◌}
use native.Mathlib.Omega.{arith}
use lib.ListN.{length, drop, length-set}
use Rattle.rules.specs.declared.Entry.{Entry}
use Rattle.rules.specs.declared.Draw.{Draw}
use Rattle.rules.specs.declared.Sums.{Sums}
use Rattle.rules.specs.declared.causes.Refusal.{Refusal}
use Rattle.rules.specs.Numbers.{cause_number}
use Rattle.rules.proofs.Numbers.{cause_some}
use Rattle.std.specs.Prelude.{Result, Err}
use Rattle.rules.specs.Read.{first_record}
use Rattle.rules.specs.Register.{draw_fault, drawn}
use Rattle.records.specs.Readable.{Readable}
use Rattle.reading.specs.Admission.{Admission}
use Rattle.reading.specs.Admission.{Refused}
use Rattle.reading.specs.declared.cursor.Cursor.{Cursor}
use Rattle.reading.specs.Ahead.{records_ahead, ahead, ends_at, after, new_cursor, Sound}
use Rattle.register.specs.Loading.{loaded_from}
use Rattle.register.specs.Draws.{admission_in, fault_in, drawn_in, reading_after, left_after}
use Rattle.register.proofs.Loaded.{loaded_length}
use Rattle.register.proofs.Settling.{Ends, comes_to, ends, refuses, goes_on, same_fault, same_entries, unfit_stays}
use Rattle.register.proofs.Start.{start_ahead, start_sound}

-- what the whole book comes to
abbrev pub all_of : List ℕ → ℕ → Ends
all_of ws k = comes_to (loaded_from ws k 0) (records_ahead ws)

-- the first k entries are es, and with them what lies ahead of the cursor comes to the same as the whole book
pub record Turning (ws : List ℕ) (k : ℕ) (ys zs : List Entry) (c : Cursor) : Type 0 where
  pub es : List Entry
  pub held : zs ≡ es ++ drop k ys
  pub len : length es ≡ k
  pub sound : Sound ws c
  pub same : comes_to es (ahead ws c) ≡ all_of ws k

-- what the contract says of the answer and of the register
abbrev pub Says : List ℕ → ℕ → List Entry → Result Sums Refusal → List Entry → Type 0
Says ws k ys r zs = (admission_in r ≡ reading_after ws k) × (zs ≡ left_after ws k ++ drop k ys)

says : (ws : List ℕ) (k : ℕ) (ys : List Entry) (r : Result Sums Refusal) (es : List Entry) → ◌≡◌ {A = Ends} (admission_in r, es) (all_of ws k) → Says ws k ys r (es ++ drop k ys)
unfolding comes_to reading_after left_after
says ws k ys r es e = (ap (λ (x : Ends). x.0) e, ap (λ (x : Ends). x.1 ++ drop k ys) e)

pub turning_starts : (ws : List ℕ) (k : ℕ) (ys zs : List Entry) (c : Cursor) → Readable first_record ws → zs ≡ loaded_from ws k 0 ++ drop k ys → c ≡ new_cursor ws → Turning ws k ys zs c
turning_starts ws k ys zs c r held e = record {
  es = loaded_from ws k 0;
  held = held;
  len = loaded_length ws k 0;
  sound = rw e (start_sound ws r);
  same = rw (e, start_ahead ws) refl;
}

module _ {ws : List ℕ} {k : ℕ} {ys zs : List Entry} {c : Cursor} (t : Turning ws k ys zs c) where
  -- where no cover is left the reading ends
  pub turn_ends : (r : Result Sums Refusal) → ahead ws c ≡ ends_at (admission_in r) → Says ws k ys r zs
  turn_ends r e = rw t.held (says ws k ys r t.es (sym (ends t.es (admission_in r)) ∙ ap (comes_to t.es) (sym e) ∙ t.same))

  module _ (d : Draw) (on : Cursor) (q : (ahead ws c ≡ after (d ∷ []) (ahead ws on)) × Sound ws on) where
    pub turn_less : length (ahead ws on).draws < length (ahead ws c).draws
    turn_less = rw q.0 (omega arith)

    module _ (number : ℕ) (drawn_from : List Entry) (nq : number ≡ fault_in k zs d) (aq : drawn_from ≡ drawn_in k zs d) where
      number_is : number ≡ draw_fault t.es d
      number_is = nq ∙ ap (λ (l : List Entry). fault_in k l d) t.held ∙ same_fault k t.es (drop k ys) t.len d

      held_now : drawn_from ≡ drawn_in k (t.es ++ drop k ys) d
      held_now = aq ∙ ap (λ (l : List Entry). drawn_in k l d) t.held

      -- where the draw does not fit the reading ends too, and the entries stay
      pub turn_refuses : (r : Refusal) → cause_number r.cause ≡ number → r.place ≡ d.at → Says ws k ys (Err r) drawn_from
      turn_refuses r e p =
          let z : (number ≡ 0 → ⊥) = λ n. cause_some r.cause (e ∙ n) in
          let first_unfit = sym (refuses t.es d (ahead ws on) (λ n. z (number_is ∙ n))) ∙ ap (comes_to t.es) (sym q.0) ∙ t.same in
          let is : admission_in (Err r) ≡ Refused (draw_fault t.es d) d.at = rw (e, p, number_is) refl in
          let said = says ws k ys (Err r) t.es (ap (λ (a : Admission). (a, t.es)) is ∙ first_unfit) in
          let stays = unfit_stays k t.es (drop k ys) t.len d (λ n. z (nq ∙ ap (λ (l : List Entry). fault_in k l d) t.held ∙ n)) in
          (said.0, held_now ∙ stays ∙ said.1)

      -- where it fits the next turn follows
      pub turn_goes_on : number ≡ 0 → Turning ws k ys drawn_from on
      turn_goes_on z = record {
        es = drawn t.es d;
        held = held_now ∙ same_entries k t.es (drop k ys) t.len d (sym (nq ∙ ap (λ (l : List Entry). fault_in k l d) t.held) ∙ z);
        len = length-set t.es _ _ ∙ t.len;
        sound = q.1;
        same = sym (goes_on t.es d (ahead ws on) (sym number_is ∙ z)) ∙ ap (comes_to t.es) (sym q.0) ∙ t.same;
      }
