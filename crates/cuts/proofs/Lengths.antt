-- That each reading ends so many words behind its place as its record is long. Assumes nothing.
use Prim.Native.Nat.{ℕ, ◌+◌}
use mathlib.Core.Path.{◌≡◌, refl}
use mathlib.Core.List.{List}
use native.Mathlib.Omega.{arith}
use lib.ListN.{length, length-map, length-drop}
use lib.Seq.{length-take-le}
use Rattle.rules.specs.Word.{word, size_of, names_in}
use Rattle.rules.specs.Book.{Protection, Cover, Member, FinancingTrade, Item, Placed, total}
use Rattle.rules.specs.Read.{grades_at, basket_at, written_at, derivative_set_at, financing_set_at}
use Rattle.cuts.proofs.Chains.{Chain}
use Rattle.cuts.proofs.Grammar.{Whole, whole_within}
use Rattle.cuts.proofs.Records.{basket_fault_at, CoverRead, MemberRead, FinancingTradeRead, ItemRead, ProtectionRead}
use Rattle.cuts.proofs.Cutting.{ItemHere}
pub use Rattle.cuts.proofs.RecordLengths.{cover_length, member_length, financing_trade_length, protection_length, item_length, placed_length}

-- ---- a chain is as long as its records together

-- if each of them is as long as what is read of it
pub chain_length : {A : Type 0} {R : ℕ → A → ℕ → Type 0} (size : A → ℕ) → ((at : ℕ) (a : A) (next : ℕ) → R at a next → next ≡ at + size a)
    → {at stop : ℕ} {l : List A} → Chain R at l stop → stop ≡ at + total size l
chain_length size f Chain.done = omega arith
chain_length size f (Chain.then {at} {next} {stop} {a} {l} r c) = omega (arith, f at a next r, chain_length size f c)

-- ---- each record

-- the grades of a basket that is whole are all there
grades_there : (ws : List ℕ) (at : ℕ) → Whole 11 (basket_fault_at ws at) ws at → length (basket_at ws at).grades ≡ names_in (word ws at)
unfolding basket_at
grades_there ws at w =
    rw (length-map (grades_at ws at) size_of)
    (length-take-le (names_in (word ws at)) _ (omega (arith, whole_within 10 _ ws at w, length-drop (at + 3) ws)))

module _ (ws : List ℕ) where
  -- each ends so many words behind its place: a cover,
  pub cover_length_lem : (at : ℕ) (c : Cover) (next : ℕ) → CoverRead ws at c next → next ≡ at + cover_length c
  cover_length_lem at c next (CoverRead.one w) = refl

  -- a member, with its covers,
  pub member_length_lem : (at : ℕ) (m : Member) (next : ℕ) → MemberRead ws at m next → next ≡ at + member_length m
  unfolding written_at
  member_length_lem at m next (MemberRead.of_trade w) = refl
  member_length_lem at m next (MemberRead.of_credit {covers} {stop} w c) = omega (arith, chain_length cover_length cover_length_lem c.chain)
  member_length_lem at m next (MemberRead.of_basket w) = omega (arith, grades_there ws at w)

  -- a financing trade,
  pub financing_trade_length_lem : (at : ℕ) (t : FinancingTrade) (next : ℕ) → FinancingTradeRead ws at t next → next ≡ at + financing_trade_length t
  financing_trade_length_lem at t next (FinancingTradeRead.one w) = refl

  -- a protection,
  pub protection_length_lem : (at : ℕ) (p : Protection) (next : ℕ) → ProtectionRead ws at p next → next ≡ at + protection_length p
  protection_length_lem at p next (ProtectionRead.one w) = refl

  -- and an item, with all that is in it
  pub item_length_lem : (i : Item) (n : ℕ) → ItemRead ws i n → n ≡ item_length i
  unfolding derivative_set_at financing_set_at
  item_length_lem i n (ItemRead.of_asset w) = refl
  item_length_lem i n (ItemRead.for_derivatives w c) = chain_length member_length member_length_lem c.chain
  item_length_lem i n (ItemRead.for_financing w c) = chain_length financing_trade_length financing_trade_length_lem c.chain
  item_length_lem i n (ItemRead.for_off_balance w) = refl

-- an item in the book: its places are as far apart as it is long
pub here_length : (ws : List ℕ) (at : ℕ) (p : Placed) (next : ℕ) → ItemHere ws at p next → next ≡ at + placed_length p
here_length ws at p next (ItemHere.here {i} {n} r) = omega (arith, item_length_lem _ i n r)
