-- What it is for each kind of record to stand at a place: without a bound on the records and without tests. Each is the same as its turn in
-- Read. Assumes nothing.
use Prim.Native.Nat.{ℕ, suc, ◌+◌, ◌≤◌, ◌<◌}
use mathlib.Core.Path.{◌≡◌, refl, ◌∙◌}
use mathlib.Core.Bool.{Bool, false, not, ◌||◌, cond}
use mathlib.Core.List.{List}
use borrow.Author.Tests.{eqb-true, lt-leb, not-false}
use lib.Dec.{eqb, leb}
use lib.ListN.{length}
use Rattle.rules.specs.Word.{word, kind_of, bit_of, names_in}
use Rattle.rules.specs.Book.{Protection, Cover, Member, trade, written, basket, FinancingTrade, Item, asset, derivatives, financing, off_balance}
use Rattle.rules.specs.Run.{Turn, over, bad, some}
use Rattle.rules.specs.Faults.{protection_fault, asset_fault, derivative_set_fault, trade_fault, written_fault, basket_fault, cover_fault, financing_set_fault, financing_trade_fault, off_balance_fault}
use Rattle.rules.specs.Read.{record_then, protection_at, protection_turn, asset_at, asset_turn, cover_at, cover_turn, written_at, written_turn, trade_at, trade_turn, grades_at, basket_at, basket_turn, member_turn, derivative_set_at, derivative_set_turn, financing_trade_at, last_days_at, financing_trade_turn, financing_member_turn, financing_set_at, financing_set_turn, off_balance_at, off_balance_turn, item_of}
use Rattle.rules.proofs.Lists.{or_left, or_right}
use Rattle.cuts.proofs.Chains.{Cut, View, view_one, seen_onward}
use Rattle.cuts.proofs.Grammar.{Whole, kind_there, stands_by_kind, record_made, seen_if, seen_single, behind, seen_set, set_made}

-- ---- covers

-- the kind that goes on with a run of covers
abbrev pub is_cover : ℕ → Bool
is_cover kind = eqb kind 7

-- the causes of the record at a place
abbrev pub cover_fault_at : List ℕ → ℕ → ℕ
cover_fault_at ws at = cover_fault (word ws at) (word ws (at + 1))

pub data CoverRead (ws : List ℕ) (at : ℕ) : Cover → ℕ → Type 0 where
  one : Whole 7 (cover_fault_at ws at) ws at → CoverRead ws at (cover_at ws at) (at + 2)

-- nothing that passes stands there
abbrev pub NoneOf : (ℕ → Bool) → List ℕ → ℕ → Type 0
NoneOf test ws at = test (kind_of (word ws at)) ≡ false

module _ (ws : List ℕ) (at : ℕ) where
  cover_turn_lem : cover_turn ws at ≡ cond (is_cover (kind_of (word ws at))) (record_then ws at (cover_fault_at ws at) (some (cover_at ws at) 0)) over
  unfolding cover_turn
  cover_turn_lem = rw (stands_by_kind ws at 6)

  pub cover_view : View (length ws) at (CoverRead ws at) (NoneOf is_cover ws at) (cover_turn ws at)
  cover_view =
      rw cover_turn_lem
      (seen_if ws at _ _ (is_cover (kind_of (word ws at))) _ _
      (λ e. seen_single ws at _ _ 6 _ _ (eqb-true _ 7 e) CoverRead.one)
      View.ends)

  -- what stands there is what is read,
  pub cover_made : (c : Cover) (next : ℕ) → CoverRead ws at c next → cover_turn ws at ≡ some c 0 next
  cover_made c next (CoverRead.one w) = cover_turn_lem ∙ rw w.of (record_made 7 (cover_fault_at ws at) ws at (some (cover_at ws at) 0) w)

  -- and where none does, nothing more is
  pub cover_over_lem : NoneOf is_cover ws at → cover_turn ws at ≡ over
  cover_over_lem e = cover_turn_lem ∙ rw e

-- ---- members of a derivative set

-- the kinds that go on with a derivative set
abbrev pub is_member : ℕ → Bool
is_member kind = eqb kind 5 || eqb kind 6 || eqb kind 11

abbrev pub trade_fault_at : List ℕ → ℕ → ℕ
trade_fault_at ws at = trade_fault (word ws at) (word ws (at + 1)) (word ws (at + 2)) (word ws (at + 3)) (word ws (at + 4))

abbrev pub written_fault_at : List ℕ → ℕ → ℕ
written_fault_at ws at = written_fault (word ws at) (word ws (at + 1)) (word ws (at + 2)) (word ws (at + 3)) (word ws (at + 4)) (word ws (at + 5))

abbrev pub basket_fault_at : List ℕ → ℕ → ℕ
basket_fault_at ws at = basket_fault (word ws at) (word ws (at + 1)) (word ws (at + 2)) (grades_at ws at)

pub data MemberRead (ws : List ℕ) (at : ℕ) : Member → ℕ → Type 0 where
  of_trade : Whole 5 (trade_fault_at ws at) ws at → MemberRead ws at (trade (trade_at ws at)) (at + 5)
  of_credit : {covers : List Cover} {stop : ℕ} → Whole 6 (written_fault_at ws at) ws at → Cut (CoverRead ws) (NoneOf is_cover ws) (at + 6) covers stop
      → MemberRead ws at (written (written_at ws at covers)) stop
  of_basket : Whole 11 (basket_fault_at ws at) ws at → MemberRead ws at (basket (basket_at ws at)) (at + suc (names_in (word ws at) + 2))

module _ (ws : List ℕ) (at : ℕ) where
  abbrev wrap_covers : List Cover → Member
  wrap_covers covers = written (written_at ws at covers)

  abbrev member_tests : (trades credits baskets : Bool) → Turn Member
  member_tests trades credits baskets =
      cond trades (record_then ws at (trade_fault_at ws at) (some (trade (trade_at ws at)) 0))
      (cond credits (record_then ws at (written_fault_at ws at) (behind ws (cover_turn ws) (cover_view ws) wrap_covers))
      (cond baskets (record_then ws at (basket_fault_at ws at) (some (basket (basket_at ws at)) 0)) over))

  member_turn_lem : member_turn ws at ≡ member_tests (eqb (kind_of (word ws at)) 5) (eqb (kind_of (word ws at)) 6) (eqb (kind_of (word ws at)) 11)
  unfolding member_turn trade_turn written_turn basket_turn
  member_turn_lem = rw (stands_by_kind ws at 4, stands_by_kind ws at 5, stands_by_kind ws at 10)

  pub member_view : View (length ws) at (MemberRead ws at) (NoneOf is_member ws at) (member_turn ws at)
  member_view =
      rw member_turn_lem
      (seen_if ws at _ _ (eqb (kind_of (word ws at)) 5) _ _
      (λ e. seen_single ws at _ _ 4 _ _ (eqb-true _ 5 e) MemberRead.of_trade)
      (λ t. seen_if ws at _ _ (eqb (kind_of (word ws at)) 6) _ _
      (λ e. seen_set ws (cover_turn ws) (cover_view ws) wrap_covers at _ _ 5 _ (eqb-true _ 6 e) (λ w l stop c. MemberRead.of_credit w c))
      (λ c. seen_if ws at _ _ (eqb (kind_of (word ws at)) 11) _ _
      (λ e. seen_single ws at _ _ 10 _ _ (eqb-true _ 11 e) MemberRead.of_basket)
      (λ b. View.ends (rw (t, c, b))))))

  -- what stands there is what is read,
  pub member_made : (m : Member) (next : ℕ) → MemberRead ws at m next → member_turn ws at ≡ some m 0 next
  member_made m next (MemberRead.of_trade w) = member_turn_lem ∙ rw w.of (record_made 5 (trade_fault_at ws at) ws at (some (trade (trade_at ws at)) 0) w)
  member_made m next (MemberRead.of_credit {covers} {stop} w c) =
      member_turn_lem ∙ rw w.of (set_made ws (cover_turn ws) (cover_view ws) wrap_covers (cover_made ws) (cover_over_lem ws) at 5 (written_fault_at ws at) covers stop w c)
  member_made m next (MemberRead.of_basket w) = member_turn_lem ∙ rw w.of (record_made 11 (basket_fault_at ws at) ws at (some (basket (basket_at ws at)) 0) w)

  -- and where none does, nothing more is
  pub member_over : NoneOf is_member ws at → member_turn ws at ≡ over
  member_over e =
      let b = or_right (eqb (kind_of (word ws at)) 5 || eqb (kind_of (word ws at)) 6) _ e in
      let tc = or_left (eqb (kind_of (word ws at)) 5 || eqb (kind_of (word ws at)) 6) _ e in
      member_turn_lem ∙ rw (or_left (eqb (kind_of (word ws at)) 5) _ tc, or_right (eqb (kind_of (word ws at)) 5) _ tc, b)

-- ---- trades of a financing set

-- the kind that goes on with a financing set
abbrev pub is_financing_trade : ℕ → Bool
is_financing_trade kind = eqb kind 9

abbrev pub financing_trade_fault_at : List ℕ → ℕ → ℕ
financing_trade_fault_at ws at =
    financing_trade_fault (bit_of 1 (word ws 0)) (last_days_at ws at)
    (word ws at) (word ws (at + 1)) (word ws (at + 2)) (word ws (at + 3)) (word ws (at + 4)) (word ws (at + 5)) (word ws (at + 6)) (word ws (at + 7))

pub data FinancingTradeRead (ws : List ℕ) (at : ℕ) : FinancingTrade → ℕ → Type 0 where
  one : Whole 9 (financing_trade_fault_at ws at) ws at → FinancingTradeRead ws at (financing_trade_at ws at) (at + 8)

module _ (ws : List ℕ) (at : ℕ) where
  financing_trade_turn_lem : financing_member_turn ws at ≡ cond (is_financing_trade (kind_of (word ws at))) (record_then ws at (financing_trade_fault_at ws at) (some (financing_trade_at ws at) 0)) over
  unfolding financing_member_turn financing_trade_turn
  financing_trade_turn_lem = rw (stands_by_kind ws at 8)

  pub financing_trade_view : View (length ws) at (FinancingTradeRead ws at) (NoneOf is_financing_trade ws at) (financing_member_turn ws at)
  financing_trade_view =
      rw financing_trade_turn_lem
      (seen_if ws at _ _ (is_financing_trade (kind_of (word ws at))) _ _
      (λ e. seen_single ws at _ _ 8 _ _ (eqb-true _ 9 e) FinancingTradeRead.one)
      View.ends)

  -- what stands there is what is read,
  pub financing_trade_made : (t : FinancingTrade) (next : ℕ) → FinancingTradeRead ws at t next → financing_member_turn ws at ≡ some t 0 next
  financing_trade_made t next (FinancingTradeRead.one w) =
      financing_trade_turn_lem ∙ rw w.of (record_made 9 (financing_trade_fault_at ws at) ws at (some (financing_trade_at ws at) 0) w)

  -- and where none does, nothing more is
  pub financing_trade_over : NoneOf is_financing_trade ws at → financing_member_turn ws at ≡ over
  financing_trade_over e = financing_trade_turn_lem ∙ rw e

-- a cover, a member or a financing trade goes on with the item before it
abbrev pub runs_on : ℕ → Bool
runs_on kind = is_cover kind || is_member kind || is_financing_trade kind

-- ---- items, in words of their own

abbrev pub asset_fault_at : List ℕ → ℕ
asset_fault_at ws = asset_fault (word ws 0) (word ws 1) (word ws 2) (word ws 3)

abbrev pub derivative_set_fault_at : List ℕ → ℕ
derivative_set_fault_at ws = derivative_set_fault (word ws 0) (word ws 1) (word ws 2) (word ws 3)

abbrev pub financing_set_fault_at : List ℕ → ℕ
financing_set_fault_at ws = financing_set_fault (word ws 0)

abbrev pub off_balance_fault_at : List ℕ → ℕ
off_balance_fault_at ws = off_balance_fault (word ws 0) (word ws 1)

pub data ItemRead (ws : List ℕ) : Item → ℕ → Type 0 where
  of_asset : Whole 2 (asset_fault_at ws) ws 0 → ItemRead ws (asset (asset_at ws)) 4
  for_derivatives : {members : List Member} {stop : ℕ} → Whole 4 (derivative_set_fault_at ws) ws 0 → Cut (MemberRead ws) (NoneOf is_member ws) 4 members stop
      → ItemRead ws (derivatives (derivative_set_at ws members)) stop
  for_financing : {trades : List FinancingTrade} {stop : ℕ} → Whole 8 (financing_set_fault_at ws) ws 0 → Cut (FinancingTradeRead ws) (NoneOf is_financing_trade ws) 1 trades stop
      → ItemRead ws (financing (financing_set_at ws trades)) stop
  for_off_balance : Whole 10 (off_balance_fault_at ws) ws 0 → ItemRead ws (off_balance (off_balance_at ws)) 2

module _ (ws : List ℕ) where
  abbrev wrap_members : List Member → Item
  wrap_members members = derivatives (derivative_set_at ws members)

  abbrev wrap_trades : List FinancingTrade → Item
  wrap_trades trades = financing (financing_set_at ws trades)

  abbrev item_tests : (assets sets financings commitments : Bool) → Turn Item
  item_tests assets sets financings commitments =
      cond assets (record_then ws 0 (asset_fault_at ws) (some (asset (asset_at ws)) 0))
      (cond sets (record_then ws 0 (derivative_set_fault_at ws) (behind ws (member_turn ws) (member_view ws) wrap_members))
      (cond financings (record_then ws 0 (financing_set_fault_at ws) (behind ws (financing_member_turn ws) (financing_trade_view ws) wrap_trades))
      (cond commitments (record_then ws 0 (off_balance_fault_at ws) (some (off_balance (off_balance_at ws)) 0))
      (bad 5 0))))

  item_turn_lem : item_of ws ≡ item_tests (eqb (kind_of (word ws 0)) 2) (eqb (kind_of (word ws 0)) 4) (eqb (kind_of (word ws 0)) 8) (eqb (kind_of (word ws 0)) 10)
  unfolding item_of asset_turn derivative_set_turn financing_set_turn off_balance_turn
  item_turn_lem = refl

  -- an item is never over: what is no item is a fault
  pub item_view : View (length ws) 0 (ItemRead ws) ⊥ (item_of ws)
  item_view =
      rw item_turn_lem
      (seen_if ws 0 _ _ (eqb (kind_of (word ws 0)) 2) _ _
      (λ e. seen_single ws 0 _ _ 1 _ _ (eqb-true _ 2 e) ItemRead.of_asset)
      (λ _. seen_if ws 0 _ _ (eqb (kind_of (word ws 0)) 4) _ _
      (λ e. seen_set ws (member_turn ws) (member_view ws) wrap_members 0 _ _ 3 _ (eqb-true _ 4 e) (λ w l stop c. ItemRead.for_derivatives w c))
      (λ _. seen_if ws 0 _ _ (eqb (kind_of (word ws 0)) 8) _ _
      (λ e. seen_set ws (financing_member_turn ws) (financing_trade_view ws) wrap_trades 0 _ _ 7 _ (eqb-true _ 8 e) (λ w l stop c. ItemRead.for_financing w c))
      (λ _. seen_if ws 0 _ _ (eqb (kind_of (word ws 0)) 10) _ _
      (λ e. seen_single ws 0 _ _ 9 _ _ (eqb-true _ 10 e) ItemRead.for_off_balance)
      (λ _. View.faulty)))))

  -- an item that stands there is what is read
  pub item_made : (i : Item) (n : ℕ) → ItemRead ws i n → item_of ws ≡ some i 0 n
  item_made i n (ItemRead.of_asset w) = item_turn_lem ∙ rw w.of (record_made 2 (asset_fault_at ws) ws 0 (some (asset (asset_at ws)) 0) w)
  item_made i n (ItemRead.for_derivatives {members} {stop} w c) =
      item_turn_lem ∙ rw w.of (set_made ws (member_turn ws) (member_view ws) wrap_members (member_made ws) (member_over ws) 0 3 (derivative_set_fault_at ws) members stop w c)
  item_made i n (ItemRead.for_financing {trades} {stop} w c) =
      item_turn_lem
      ∙ rw w.of (set_made ws (financing_member_turn ws) (financing_trade_view ws) wrap_trades (financing_trade_made ws) (financing_trade_over ws) 0 7 (financing_set_fault_at ws) trades stop w c)
  item_made i n (ItemRead.for_off_balance w) = item_turn_lem ∙ rw w.of (record_made 10 (off_balance_fault_at ws) ws 0 (some (off_balance (off_balance_at ws)) 0) w)

-- ---- protections

abbrev pub protection_fault_at : List ℕ → ℕ → ℕ
protection_fault_at ws at = protection_fault (word ws at) (word ws (at + 1)) (word ws (at + 2)) (word ws (at + 3))

pub data ProtectionRead (ws : List ℕ) (at : ℕ) : Protection → ℕ → Type 0 where
  one : Whole 3 (protection_fault_at ws at) ws at → ProtectionRead ws at (protection_at ws at) (at + 4)

module _ (ws : List ℕ) (at : ℕ) where
  abbrev protection_tests : (missing others : Bool) → Turn Protection
  protection_tests missing others = cond missing (bad 14 (length ws)) (cond others (bad 5 at) (record_then ws at (protection_fault_at ws at) (some (protection_at ws at) 0)))

  protection_turn_lem : protection_turn ws at ≡ protection_tests (leb (length ws) at) (not (eqb (kind_of (word ws at)) 3))
  unfolding protection_turn
  protection_turn_lem = refl

  pub protection_view : View (length ws) at (ProtectionRead ws at) ⊥ (protection_turn ws at)
  protection_view =
      rw protection_turn_lem
      (seen_if ws at _ _ (leb (length ws) at) _ _ (λ _. View.faulty)
      (λ _. seen_if ws at _ _ (not (eqb (kind_of (word ws at)) 3)) _ _ (λ _. View.faulty)
      (λ e. seen_single ws at _ _ 2 _ _ (eqb-true _ 3 (not-false _ e)) ProtectionRead.one)))

  -- a protection that stands there is what is read
  pub protection_made : (p : Protection) (next : ℕ) → ProtectionRead ws at p next → protection_turn ws at ≡ some p 0 next
  protection_made p next (ProtectionRead.one w) =
      protection_turn_lem ∙ rw (lt-leb (length ws) at (kind_there ws at 2 w.of), w.of) (record_made 3 (protection_fault_at ws at) ws at (some (protection_at ws at) 0) w)

-- ---- each goes on, and stays within the words

pub item_onward : (ws : List ℕ) (i : Item) (n : ℕ) → ItemRead ws i n → (0 < n) × (n ≤ length ws)
item_onward ws i n r = let o = view_one (item_view ws) i n (item_made ws i n r) in (o.1, o.2)

module _ (ws : List ℕ) where
  pub cover_onward : (at : ℕ) (c : Cover) (next : ℕ) → CoverRead ws at c next → (at < next) × (next ≤ length ws)
  cover_onward = seen_onward (length ws) (cover_turn ws) (cover_view ws) (cover_made ws)

  pub member_onward : (at : ℕ) (m : Member) (next : ℕ) → MemberRead ws at m next → (at < next) × (next ≤ length ws)
  member_onward = seen_onward (length ws) (member_turn ws) (member_view ws) (member_made ws)

  pub financing_trade_onward : (at : ℕ) (t : FinancingTrade) (next : ℕ) → FinancingTradeRead ws at t next → (at < next) × (next ≤ length ws)
  financing_trade_onward = seen_onward (length ws) (financing_member_turn ws) (financing_trade_view ws) (financing_trade_made ws)

  pub protection_onward : (at : ℕ) (p : Protection) (next : ℕ) → ProtectionRead ws at p next → (at < next) × (next ≤ length ws)
  protection_onward = seen_onward (length ws) (protection_turn ws) (protection_view ws) (protection_made ws)
