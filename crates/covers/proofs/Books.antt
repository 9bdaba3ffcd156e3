-- The law of covers: those of a book settle exactly where each suits the protection that it names, for each written credit their sum is
-- within notional minus loss, and for each protection within its available amount. Assumes nothing.
use Prim.Native.Nat.{ℕ, ◌+◌, ◌-◌, ◌≤◌}
use mathlib.Core.Path.{◌≡◌, refl, ap}
use mathlib.Core.List.{List, [], ◌∷◌, ◌++◌}
use mathlib.Core.Logic.Iff
use mathlib.Core.Logic.{◌↔◌}
use native.Mathlib.Omega.{arith}
use Rattle.rules.specs.declared.Entry.{Entry}
use Rattle.rules.specs.Book.{Cover, WrittenCredit, Member, trade, written, basket, Item, asset, derivatives, financing, off_balance, Placed, total}
use Rattle.rules.specs.Register.{draws_from, draws_of, draws_in, draws_over}
use Rattle.rules.specs.Rows.{sum_over}
use Rattle.rules.proofs.Lists.{Every, total_append}
use Rattle.laws.proofs.Each.{every_first, every_append}
use Rattle.laws.proofs.Settling.{Within, rooms}
use Rattle.covers.specs.Claims.{drawn_by, drawn_in, drawn_of, FitsIn, drawn_at, drawn_over, AllFit, CoverSuits, MemberCoversFit, ItemCoversFit, PlacedCoversFit, AllCoversFit, CoversBySums}
use Rattle.covers.proofs.Less.{less_same}
use Rattle.covers.proofs.Draws.{settle_iff}

-- ---- draws that fit are covers that suit, within their credits

-- a first that has Q exactly where its parts have P, before others of which the same holds
every_joined : {A B : Type 0} {P : A → Type 0} {Q : B → Type 0} (xs ys : List A) (b : B) (bs : List B)
    → (Every P xs ↔ Q b) → (Every P ys ↔ Every Q bs) → (Every P (xs ++ ys) ↔ Every Q (b ∷ bs))
every_joined xs ys b bs h t = Iff.trans (every_append xs ys) (Iff.trans (Iff.and h t) (Iff.symm (every_first b bs)))

module _ (entries : List Entry) where
  -- each draw by what it asks of the protection, and by its room
  suits : (begin room : ℕ) (w : WrittenCredit) (cs : List Cover)
      → Every (FitsIn entries) (draws_from begin room w cs) ↔ (Every (CoverSuits entries w) cs × Every Within (draws_from begin room w cs))
  unfolding draws_from
  suits begin room w [] = (λ e. (Every.none, Every.none), λ p. Every.none)
  suits begin room w (c ∷ cs) =
      let rest = draws_from begin (room - c.amount) w cs in
      let r = suits begin (room - c.amount) w cs in (
        λ e. let p = (every_first _ rest).0 e in let t = r.0 p.1 in (Every.more p.0.0 t.0, Every.more p.0.1 t.1),
        λ p. let q = (every_first c cs).0 p.0 in let t = (every_first _ rest).0 p.1 in Every.more (q.0, t.0) (r.1 (q.1, t.1)),
      )

  -- the covers of a written credit: each suits, and their sum is within the room
  credit_fits : (begin room : ℕ) (w : WrittenCredit) (cs : List Cover)
      → Every (FitsIn entries) (draws_from begin room w cs) ↔ (Every (CoverSuits entries w) cs × (total (λ (c : Cover). c.amount) cs ≤ room))
  credit_fits begin room w cs = Iff.trans (suits begin room w cs) (Iff.and Iff.rfl (rooms begin room w cs))

  -- the members of a set
  members_fit : (begin : ℕ) (ms : List Member) → Every (FitsIn entries) (draws_of begin ms) ↔ Every (MemberCoversFit entries) ms
  unfolding draws_of
  members_fit begin [] = (λ e. Every.none, λ e. Every.none)
  members_fit begin (trade t ∷ ms) = every_joined [] (draws_of begin ms) (trade t) ms (λ e. tt, λ u. Every.none) (members_fit begin ms)
  members_fit begin (written w ∷ ms) =
      let room = w.notional - w.loss_taken in
      let r = credit_fits begin room w w.covers in
      every_joined (draws_from begin room w w.covers) (draws_of begin ms) (written w) ms
      (λ e. record { each = (r.0 e).0; within = omega (arith, (r.0 e).1) }, λ c. r.1 (c.each, omega (arith, c.within))) (members_fit begin ms)
  members_fit begin (basket b ∷ ms) = every_joined [] (draws_of begin ms) (basket b) ms (λ e. tt, λ u. Every.none) (members_fit begin ms)

  item_fits : (begin : ℕ) (x : Item) → Every (FitsIn entries) (draws_in begin x) ↔ ItemCoversFit entries x
  item_fits begin (asset a) = (λ e. tt, λ u. Every.none)
  item_fits begin (derivatives s) = members_fit begin s.members
  item_fits begin (financing s) = (λ e. tt, λ u. Every.none)
  item_fits begin (off_balance o) = (λ e. tt, λ u. Every.none)

  -- the items of a book
  items_fit : (ps : List Placed) → Every (FitsIn entries) (draws_over ps) ↔ Every (PlacedCoversFit entries) ps
  unfolding draws_over
  items_fit [] = (λ e. Every.none, λ e. Every.none)
  items_fit (p ∷ ps) = every_joined (draws_in p.begin p.item) (draws_over ps) p ps (item_fits p.begin p.item) (items_fit ps)

-- ---- the draws from a protection are the covers that name it

module _ (i : ℕ) where
  of_credit : (begin room : ℕ) (w : WrittenCredit) (cs : List Cover) → total (drawn_at i) (draws_from begin room w cs) ≡ total (drawn_by i) cs
  unfolding draws_from
  of_credit begin room w [] = refl
  of_credit begin room w (c ∷ cs) = ap (λ (n : ℕ). drawn_by i c + n) (of_credit begin (room - c.amount) w cs)

  of_members : (begin : ℕ) (ms : List Member) → total (drawn_at i) (draws_of begin ms) ≡ total (drawn_in i) ms
  unfolding draws_of
  of_members begin [] = refl
  of_members begin (trade t ∷ ms) = omega (arith, of_members begin ms)
  of_members begin (written w ∷ ms) =
      let here = draws_from begin (w.notional - w.loss_taken) w w.covers in
      omega (arith, total_append (drawn_at i) here (draws_of begin ms), of_credit begin (w.notional - w.loss_taken) w w.covers, of_members begin ms)
  of_members begin (basket b ∷ ms) = omega (arith, of_members begin ms)

  of_item : (begin : ℕ) (x : Item) → total (drawn_at i) (draws_in begin x) ≡ drawn_of i x
  of_item begin (asset a) = refl
  of_item begin (derivatives s) = of_members begin s.members
  of_item begin (financing s) = refl
  of_item begin (off_balance o) = refl

  -- over a book
  of_book : (ps : List Placed) → drawn_over (draws_over ps) i ≡ sum_over (drawn_of i) ps
  unfolding draws_over
  of_book [] = refl
  of_book (p ∷ ps) = omega (arith, total_append (drawn_at i) (draws_in p.begin p.item) (draws_over ps), of_item p.begin p.item, of_book ps)

-- ---- THE LAW OF COVERS

draws_fit_covers : (entries : List Entry) (items : List Placed) → AllFit entries (draws_over items) ↔ AllCoversFit entries items
draws_fit_covers entries items = (
  λ s. record { each = (items_fit entries items).0 s.each; enough = λ i h. omega (arith, of_book i items, s.enough i h) },
  λ c. record { each = (items_fit entries items).1 c.each; enough = λ i h. omega (arith, of_book i items, c.enough i h) },
)

-- they settle exactly where they all fit, and leave each entry less its sum
pub covers_iff : CoversBySums
covers_iff entries items left =
    Iff.trans (settle_iff entries (draws_over items) left)
    (Iff.and (draws_fit_covers entries items) (rw (less_same entries _ _ (λ i. of_book i items)) (λ e. e, λ e. e)))
