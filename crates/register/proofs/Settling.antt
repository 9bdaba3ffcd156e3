-- The draws of a book one after the other: one draw from a register whose first entries are those of the definition, and what the
-- entries and what lies ahead come to. Assumes nothing.
use Prim.Native.Nat.{ℕ, zero, suc, ◌<◌}
use mathlib.Core.Path.{◌≡◌, refl, sym, ap}
use mathlib.Core.Bool.{Bool, true, false, cond}
use mathlib.Core.List.{List, [], ◌∷◌, ◌++◌}
use native.Mathlib.Nat.{lt_irrefl}
use borrow.Author.Tests.{leb-false, eq-eqb, ne_eqb}
use lib.Dec.{lit<, leb}
use lib.ListN.{length, set, get_or, get_or-append}
use lib.Seq.{set-append_left, set-get_or}
use Rattle.rules.specs.declared.Draw.{Draw}
use Rattle.rules.specs.declared.Entry.{Entry}
use Rattle.rules.specs.Faults.{cause}
use Rattle.rules.specs.Register.{blank, unfit_for, draw_fault, drawn, if_fit, settle}
use Rattle.reading.specs.Admission.{Admission}
use Rattle.reading.specs.Admission.{Refused}
use Rattle.reading.specs.Ahead.{Ahead, ends_at, after}
use Rattle.register.specs.Draws.{drawn_down, fault_in, drawn_in, first_fault, left_by}

-- ---- one draw

module _ (b : ℕ) (es rest : List Entry) (len : length es ≡ b) (d : Draw) where
  -- the entry that is drawn from
  at_front : d.protection < b → get_or (es ++ rest) d.protection blank ≡ get_or es d.protection blank
  at_front h = get_or-append es rest blank d.protection (rw len h)

  pub same_fault : fault_in b (es ++ rest) d ≡ draw_fault es d
  unfolding fault_in draw_fault cause
  same_fault = rw len (by_place (leb b d.protection) refl)
    where
      by_place : (p : Bool) → leb b d.protection ≡ p → cond p 11 (unfit_for (get_or (es ++ rest) d.protection blank) d) ≡ cond p 11 (unfit_for (get_or es d.protection blank) d)
      by_place true e = refl
      by_place false e = ap (λ (x : Entry). unfit_for x d) (at_front (leb-false b d.protection e))

  -- where the draw fits
  pub same_entries : fault_in b (es ++ rest) d ≡ 0 → drawn_in b (es ++ rest) d ≡ drawn es d ++ rest
  unfolding fault_in drawn_in drawn_down cause
  same_entries = by_place (leb b d.protection) refl
    where
      by_place : (p : Bool) → leb b d.protection ≡ p → cond p 11 (unfit_for (get_or (es ++ rest) d.protection blank) d) ≡ 0
          → cond p (es ++ rest) (set (es ++ rest) d.protection (drawn_down (get_or (es ++ rest) d.protection blank) d)) ≡ drawn es d ++ rest
      by_place true e f = absurd (lt_irrefl 0 (rw (sym f) (lit< tt)))
      by_place false e f =
          let inside = leb-false b d.protection e in
          rw (eq-eqb _ 0 f, at_front inside) (set-append_left es rest d.protection _ (rw len inside))

  -- where it does not fit
  pub unfit_stays : (fault_in b (es ++ rest) d ≡ 0 → ⊥) → drawn_in b (es ++ rest) d ≡ es ++ rest
  unfolding fault_in drawn_in drawn_down cause
  unfit_stays = by_place (leb b d.protection)
    where
      by_place : (p : Bool) → (cond p 11 (unfit_for (get_or (es ++ rest) d.protection blank) d) ≡ 0 → ⊥)
          → cond p (es ++ rest) (set (es ++ rest) d.protection (drawn_down (get_or (es ++ rest) d.protection blank) d)) ≡ es ++ rest
      by_place true f = refl
      by_place false f = rw (ne_eqb _ 0 f) (set-get_or (es ++ rest) d.protection blank)

-- ---- all draws: what is answered and what is left, from some entries on

abbrev pub Ends : Type 0
Ends = Admission × List Entry

unfoldable pub comes_to : List Entry → Ahead → Ends
comes_to es a = (first_fault a.reading (settle es a.draws), left_by es a.draws)

pub ends : (es : List Entry) (r : Admission) → comes_to es (ends_at r) ≡ (r, es)
unfolding comes_to settle left_by
ends es r = refl

module _ (es : List Entry) (d : Draw) (a : Ahead) where
  pub refuses : (draw_fault es d ≡ 0 → ⊥) → comes_to es (after (d ∷ []) a) ≡ (Refused (draw_fault es d) d.at, es)
  unfolding comes_to settle left_by
  refuses f = rw (ne_eqb (draw_fault es d) 0 f) (by_number (draw_fault es d) f)
    where
      by_number : (n : ℕ) → (n ≡ 0 → ⊥) → ◌≡◌ {A = Ends} (first_fault a.reading (if_fit n d.at (settle (drawn es d) a.draws)), es) (Refused n d.at, es)
      by_number zero f = absurd (f refl)
      by_number (suc n) f = refl

  pub goes_on : draw_fault es d ≡ 0 → comes_to es (after (d ∷ []) a) ≡ comes_to (drawn es d) a
  unfolding comes_to settle left_by
  goes_on e = simp e
