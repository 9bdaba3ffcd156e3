-- What is claimed of covers: protection is conserved, and sums decide which draws settle and which covers of a book do. Assumes nothing.
use Rattle.std.specs.Prelude.{ℕ, suc, ◌+◌, ◌-◌, ◌≤◌, ◌<◌, ◌≡◌, cond, List, [], ◌∷◌, ◌↔◌, eqb, length, get_or}
use Rattle.rules.specs.declared.Draw.{Draw}
use Rattle.rules.specs.declared.Entry.{Entry}
use Rattle.rules.specs.Book.{Protection, Cover, WrittenCredit, Member, trade, written, basket, Item, asset, derivatives, financing, off_balance, Placed, total}
use Rattle.rules.specs.Read.{head_of, protections_of}
use Rattle.rules.specs.Weigh.{covered_of}
use Rattle.rules.specs.Rows.{sum_over}
use Rattle.rules.specs.Register.{blank, available, draws_over, drawn_from, settled, settle}
use Rattle.rules.specs.Filing.{outcome_of, accepted}
use Rattle.rules.proofs.Lists.{Every}

-- ---- conservation

-- the amount drawn from a protection by a cover, a member and an item
abbrev pub drawn_by : ℕ → Cover → ℕ
drawn_by protection c = cond (eqb c.protection protection) c.amount 0

abbrev pub drawn_in : ℕ → Member → ℕ
drawn_in protection (trade t) = 0
drawn_in protection (written w) = total (drawn_by protection) w.covers
drawn_in protection (basket b) = 0

abbrev pub drawn_of : ℕ → Item → ℕ
drawn_of protection (asset a) = 0
drawn_of protection (derivatives s) = total (drawn_in protection) s.members
drawn_of protection (financing s) = 0
drawn_of protection (off_balance o) = 0

-- "entry i below b holds protection i and what is left"; "the covers naming it in the book plus what is left equal its available
-- amount"
pub record Conserved (p : Protection) (e : Entry) (drawnFromIt : ℕ) : Type 0 where
  pub entity : e.entity ≡ p.entity
  pub rank : e.rank ≡ p.rank
  pub days : e.days ≡ p.days
  pub amount : drawnFromIt + e.left ≡ available p

-- there are b entries, and each holds its protection
pub record AllConserved (ws : List ℕ) (items : List Placed) (left : List Entry) : Type 0 where
  pub count : length left ≡ (head_of ws).protections
  pub each : (p₀ : Protection) (i : ℕ) → i < (head_of ws).protections → Conserved (get_or (protections_of ws).records i p₀) (get_or left i blank) (sum_over (drawn_of i) items)

abbrev pub Conservation : Type 0
Conservation =
    (ws : List ℕ) (rows entries : ℕ) (items : List Placed) (left : List Entry)
    → outcome_of ws rows entries ≡ accepted items left
    → AllConserved ws items left

-- ---- draws by their sums

-- the entry e, one of b, at the place named, suits: "same entity, rank at least the written one's, days at least its days"
pub record Suits (b : ℕ) (e : Entry) (place entity rank days : ℕ) : Type 0 where
  pub below : place < b
  pub same : e.entity ≡ entity
  pub junior : rank ≤ e.rank
  pub long : days ≤ e.days

abbrev pub SuitsIn : List Entry → (place entity rank days : ℕ) → Type 0
SuitsIn entries place entity rank days = Suits (length entries) (get_or entries place blank) place entity rank days

-- a draw that suits the entry that it names, and is within its room
abbrev pub FitsIn : List Entry → Draw → Type 0
FitsIn entries d = SuitsIn entries d.protection d.entity d.rank d.days × (d.amount ≤ d.room)

-- what a draw takes at a place, and what all of them take there
abbrev pub drawn_at : ℕ → Draw → ℕ
drawn_at i d = cond (eqb d.protection i) d.amount 0

abbrev pub drawn_over : List Draw → ℕ → ℕ
drawn_over ds i = total (drawn_at i) ds

-- each draw fits, and for each entry the sum of those that name it is within what is left of it
pub record AllFit (entries : List Entry) (ds : List Draw) : Type 0 where
  pub each : Every (FitsIn entries) ds
  pub enough : (i : ℕ) → i < length entries → drawn_over ds i ≤ (get_or entries i blank).left

-- entries, each less an amount that goes by its place
abbrev pub less : List Entry → (ℕ → ℕ) → List Entry
less [] amount = []
less (e ∷ es) amount = drawn_from e (amount 0) ∷ less es (λ i. amount (suc i))

-- draws settle exactly where they all fit, and then each entry is less its sum
abbrev pub SettlesBySums : Type 0
SettlesBySums =
    (entries : List Entry) (ds : List Draw) (left : List Entry)
    → (settle entries ds ≡ settled left) ↔ (AllFit entries ds × (left ≡ less entries (drawn_over ds)))

-- ---- covers by their sums

-- a cover of a written credit that suits the entry that it names
abbrev pub CoverSuits : List Entry → WrittenCredit → Cover → Type 0
CoverSuits entries w c = SuitsIn entries c.protection w.entity w.rank w.days

-- each of a credit's covers suits, and their sum is within its notional minus loss
pub record CoversFit (entries : List Entry) (w : WrittenCredit) : Type 0 where
  pub each : Every (CoverSuits entries w) w.covers
  pub within : covered_of w ≤ w.notional - w.loss_taken

-- nothing is asked of what has no covers
abbrev pub MemberCoversFit : List Entry → Member → Type 0
MemberCoversFit entries (trade t) = Unit {0}
MemberCoversFit entries (written w) = CoversFit entries w
MemberCoversFit entries (basket b) = Unit {0}

abbrev pub ItemCoversFit : List Entry → Item → Type 0
ItemCoversFit entries (asset a) = Unit {0}
ItemCoversFit entries (derivatives s) = Every (MemberCoversFit entries) s.members
ItemCoversFit entries (financing s) = Unit {0}
ItemCoversFit entries (off_balance o) = Unit {0}

abbrev pub PlacedCoversFit : List Entry → Placed → Type 0
PlacedCoversFit entries p = ItemCoversFit entries p.item

-- the covers of every written credit fit, and for each entry the sum of those that name it is within what is left of it
pub record AllCoversFit (entries : List Entry) (items : List Placed) : Type 0 where
  pub each : Every (PlacedCoversFit entries) items
  pub enough : (i : ℕ) → i < length entries → sum_over (drawn_of i) items ≤ (get_or entries i blank).left

-- the register that the covers of the items leave
abbrev pub left_by : List Entry → List Placed → List Entry
left_by entries items = less entries (λ i. sum_over (drawn_of i) items)

-- the covers of items settle exactly where they all fit, and then each entry is less its sum. For the protections of a book, of which nothing
-- is drawn yet, what is left is the available amount (`entry_of`).
abbrev pub CoversBySums : Type 0
CoversBySums =
    (entries : List Entry) (items : List Placed) (left : List Entry)
    → (settle entries (draws_over items) ≡ settled left) ↔ (AllCoversFit entries items × (left ≡ left_by entries items))
