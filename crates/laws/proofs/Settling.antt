-- Covers that all fit: each is within what is left, so that a written credit's covers are within its notional minus loss. Assumes nothing.
use Prim.Native.Nat.{ℕ, zero, suc, ◌-◌, ◌≤◌, ◌<◌}
use mathlib.Core.Path.{◌≡◌, refl}
use mathlib.Core.List.{List, [], ◌∷◌}
use mathlib.Core.Logic.{◌↔◌}
use native.Mathlib.Omega.{arith}
use borrow.Author.Tests.{ltb-false, leb-false}
use lib.Dec.{ltb}
use lib.ListN.{length, get_or}
use Rattle.rules.specs.declared.Draw.{Draw}
use Rattle.rules.specs.declared.Entry.{Entry}
use Rattle.rules.specs.Book.{Cover, WrittenCredit, Member, trade, written, basket, Item, asset, derivatives, financing, off_balance, Placed, total}
use Rattle.rules.specs.Weigh.{written_in, covers_in}
use Rattle.rules.specs.Register.{blank, draws_from, draws_of, draws_in, draws_over, unfit_for, draw_fault, drawn, settled, if_fit, settle}
use Rattle.rules.proofs.Lists.{Every, or_left, or_right}
use Rattle.laws.specs.Exposure.{CoversWithin, AllWithin}
use Rattle.laws.proofs.Valid.{cause_none}
use Rattle.laws.proofs.Each.{every_first, every_append}

-- ---- one draw, and all

pub record Fit (entries : List Entry) (d : Draw) : Type 0 where
  pub below : d.protection < length entries
  pub enough : d.amount ≤ (get_or entries d.protection blank).left
  pub within : d.amount ≤ d.room

pub draw_fits : (entries : List Entry) (d : Draw) → draw_fault entries d ≡ 0 → Fit entries d
unfolding draw_fault unfit_for
draw_fits entries d e =
    let a = cause_none 10 _ _ e in
    let b = cause_none 11 _ _ a.1 in
    let c = cause_none 12 _ _ b.1 in
    record {
      below = leb-false _ _ a.0;
      enough = ltb-false _ _ (or_left (ltb (get_or entries d.protection blank).left d.amount) (ltb d.room d.amount) c.0);
      within = ltb-false _ _ (or_right (ltb (get_or entries d.protection blank).left d.amount) (ltb d.room d.amount) c.0);
    }

-- a first draw that fits, and the others after it
pub settle_one : (entries : List Entry) (d : Draw) (ds : List Draw) (left : List Entry) → settle entries (d ∷ ds) ≡ settled left
    → (draw_fault entries d ≡ 0) × (settle (drawn entries d) ds ≡ settled left)
unfolding settle
settle_one entries d ds left e = go (draw_fault entries d) refl e
  where
    go : (f : ℕ) → draw_fault entries d ≡ f → if_fit f d.at (settle (drawn entries d) ds) ≡ settled left → (draw_fault entries d ≡ 0) × (settle (drawn entries d) ds ≡ settled left)
    go zero q h = (q, h)
    go (suc f) q h = let z : ◌≡◌ {A = ℕ} 0 1 = cc in absurd (omega arith)

pub settle_none : (entries left : List Entry) → settle entries [] ≡ settled left → entries ≡ left
unfolding settle
settle_none entries left e = cc

abbrev pub Within : Draw → Type 0
Within d = d.amount ≤ d.room

pub all_within : (entries : List Entry) (ds : List Draw) (left : List Entry) → settle entries ds ≡ settled left → Every Within ds
all_within entries [] left e = Every.none
all_within entries (d ∷ ds) left e =
    let s = settle_one entries d ds left e in
    Every.more (draw_fits entries d s.0).within (all_within (drawn entries d) ds left s.1)

-- ---- a written credit, a set, a book

-- each cover is within what those before it leave of its credit, exactly where their sum is within it; also where an amount is 0
pub rooms : (begin room : ℕ) (w : WrittenCredit) (cs : List Cover) → Every Within (draws_from begin room w cs) ↔ (total (λ (c : Cover). c.amount) cs ≤ room)
unfolding draws_from
rooms begin room w [] = (λ e. omega arith, λ h. Every.none)
rooms begin room w (c ∷ cs) =
    let r = rooms begin (room - c.amount) w cs in (
      λ e. let p = (every_first _ (draws_from begin (room - c.amount) w cs)).0 e in omega (arith, p.0, r.0 p.1),
      λ h. let a : c.amount ≤ room = omega arith in Every.more a (r.1 (omega arith)),
    )

members_within : (begin : ℕ) (ms : List Member) → Every Within (draws_of begin ms) → total covers_in ms ≤ total written_in ms
unfolding draws_of
members_within begin [] e = omega arith
members_within begin (trade t ∷ ms) e = omega (arith, members_within begin ms e)
members_within begin (written w ∷ ms) e =
    let room = w.notional - w.loss_taken in
    let parts = (every_append (draws_from begin room w w.covers) (draws_of begin ms)).0 e in
    omega (arith, (rooms begin room w w.covers).0 parts.0, members_within begin ms parts.1)
members_within begin (basket b ∷ ms) e = omega (arith, members_within begin ms e)

item_within : (begin : ℕ) (i : Item) → Every Within (draws_in begin i) → CoversWithin i
item_within begin (asset a) e = tt
item_within begin (derivatives s) e = members_within begin s.members e
item_within begin (financing s) e = tt
item_within begin (off_balance o) e = tt

pub book_within : (ps : List Placed) → Every Within (draws_over ps) → AllWithin ps
unfolding draws_over
book_within [] e = Every.none
book_within (p ∷ ps) e =
    let parts = (every_append (draws_in p.begin p.item) (draws_over ps)).0 e in
    Every.more (item_within p.begin p.item parts.0) (book_within ps parts.1)
