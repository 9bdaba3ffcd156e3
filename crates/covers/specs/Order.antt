-- What is claimed of the order of covers: neither acceptance nor the register hangs on it. Assumes nothing.
use Rattle.std.specs.Prelude.{ℕ, ◌-◌, ◌≡◌, List, [], ◌∷◌, map, ◌↔◌, ℤ, length}
use Rattle.rules.specs.declared.Draw.{Draw}
use Rattle.rules.specs.declared.Entry.{Entry}
use Rattle.rules.specs.Book.{Cover, WrittenCredit, Member, written, DerivativeSet, Item, derivatives, Placed}
use Rattle.rules.specs.Read.{head_of, protections_of}
use Rattle.rules.specs.Register.{entry_of, draws_over, settled, settle}
use Rattle.rules.specs.Filing.{accepted, outcome_of, filing}
use Rattle.laws.specs.ReadAs.{ReadAs}
use Rattle.covers.specs.Claims.{AllCoversFit, left_by}

-- two lists of the same elements in another order, each up to a relation; where that is equality, the permutations. The relations below are
-- equivalences; of another, `trans` would make chains.
pub data Permuted {A : Type 0} (Rel : A → A → Type 0) : List A → List A → Type 0 where
  none : Permuted Rel [] []
  more : {a b : A} {xs ys : List A} → Rel a b → Permuted Rel xs ys → Permuted Rel (a ∷ xs) (b ∷ ys)
  swap : {a b : A} {xs : List A} → Permuted Rel (a ∷ b ∷ xs) (b ∷ a ∷ xs)
  trans : {xs ys zs : List A} → Permuted Rel xs ys → Permuted Rel ys zs → Permuted Rel xs zs

-- ---- draws

-- the same draw, wherever it stands in the book
pub record DrawAlike (d e : Draw) : Type 0 where
  pub entity : d.entity ≡ e.entity
  pub rank : d.rank ≡ e.rank
  pub days : d.days ≡ e.days
  pub room : d.room ≡ e.room
  pub protection : d.protection ≡ e.protection
  pub amount : d.amount ≡ e.amount

-- draws alike settle alike in any order, and leave the same. Where they do not settle, the number and place of the refusal go by the order.
abbrev pub DrawsInAnyOrder : Type 0
DrawsInAnyOrder =
    (entries : List Entry) (ds es : List Draw) (left : List Entry)
    → Permuted DrawAlike ds es
    → (settle entries ds ≡ settled left) ↔ (settle entries es ≡ settled left)

-- ---- covers

-- the same cover, wherever it stands in its set
pub record CoverAlike (c d : Cover) : Type 0 where
  pub protection : c.protection ≡ d.protection
  pub amount : c.amount ≡ d.amount

-- credits alike in what covers ask of them, and in their covers up to the order
pub record CreditAlike (v w : WrittenCredit) : Type 0 where
  pub entity : v.entity ≡ w.entity
  pub rank : v.rank ≡ w.rank
  pub days : v.days ≡ w.days
  pub room : v.notional - v.loss_taken ≡ w.notional - w.loss_taken
  pub covers : Permuted CoverAlike v.covers w.covers

-- the same member, or credits alike
pub data MemberAlike : Member → Member → Type 0 where
  same : {m : Member} → MemberAlike m m
  credits : {v w : WrittenCredit} → CreditAlike v w → MemberAlike (written v) (written w)

-- the same item, or sets alike in their members up to the order, whatever their marks and margins
pub data ItemAlike : Item → Item → Type 0 where
  same : {x : Item} → ItemAlike x x
  sets : {s t : DerivativeSet} → Permuted MemberAlike s.members t.members → ItemAlike (derivatives s) (derivatives t)

-- items alike, wherever they stand in the book
abbrev pub PlacedAlike : Placed → Placed → Type 0
PlacedAlike p q = ItemAlike p.item q.item

-- the covers of items alike, in any order, settle alike and leave the same
abbrev pub CoversInAnyOrder : Type 0
CoversInAnyOrder =
    (entries : List Entry) (ps qs : List Placed) (left : List Entry)
    → Permuted PlacedAlike ps qs
    → (settle entries (draws_over ps) ≡ settled left) ↔ (settle entries (draws_over qs) ≡ settled left)

-- the same item at another place
abbrev pub SameItem : Placed → Placed → Type 0
SameItem p q = p.item ≡ q.item

-- ---- acceptance

-- the protections of a book as entries, of which nothing is drawn yet
abbrev pub bought_in : List ℕ → List Entry
bought_in ws = map entry_of (protections_of ws).records

-- of two books with the same protections and items alike up to the order, one is accepted exactly where the other is, and leaves the same. Of an
-- accepted one `ReadAs` follows; it is asked of both so that this holds both ways.
abbrev pub AcceptedInAnyOrder : Type 0
AcceptedInAnyOrder =
    (vs ws : List ℕ) (rows entries : ℕ) (ps qs : List Placed) (left : List Entry)
    → bought_in vs ≡ bought_in ws
    → ReadAs vs rows entries ps
    → ReadAs ws rows entries qs
    → Permuted PlacedAlike ps qs
    → (outcome_of vs rows entries ≡ accepted ps left) ↔ (outcome_of ws rows entries ≡ accepted qs left)

-- a book is accepted exactly where it is read without a fault and its covers fit by their sums, and the register is what these leave
abbrev pub AcceptedBySums : Type 0
AcceptedBySums =
    (ws : List ℕ) (rows entries : ℕ) (items : List Placed) (left : List Entry)
    → (outcome_of ws rows entries ≡ accepted items left) ↔ (ReadAs ws rows entries items × (AllCoversFit (bought_in ws) items × (left ≡ left_by (bought_in ws) items)))

-- of two books with the same head and protections and the same items in another order, of which the first is accepted and the second is read, the
-- filings are the same: number, place, verdict, rows and register
abbrev pub FiledInAnyOrder : Type 0
FiledInAnyOrder =
    (vs ws : List ℕ) (rows : List ℤ) (register : List Entry) (ps qs : List Placed) (left : List Entry)
    → head_of vs ≡ head_of ws
    → bought_in vs ≡ bought_in ws
    → outcome_of vs (length rows) (length register) ≡ accepted ps left
    → ReadAs ws (length rows) (length register) qs
    → Permuted SameItem ps qs
    → filing vs rows register ≡ filing ws rows register
