-- What the laws say of sample books, by computation; and the laws applied to them, which shows that their premises can be met. Assumes nothing.
use Prim.Native.Nat.{ℕ, suc, ◌+◌, ◌-◌, ◌≤◌, ◌<◌}
use mathlib.Core.Path.{◌≡◌, refl, sym, ◌∙◌, ap}
use mathlib.Core.Bool.{false}
use mathlib.Core.List.{List, [], ◌∷◌, ◌++◌, map}
use native.Mathlib.Omega.{arith}
use lib.Dec.{eqb}
use lib.ListN.{length, take, drop, get_or}
use lib.Seq.{get_or-set_other, get_or-take, get_or-drop}
use Rattle.rules.specs.Word.{word, gain_of, loss_of}
use Rattle.rules.specs.Book.{Cover, written, asset, financing, Placed}
use Rattle.rules.specs.Run.{some, run_from}
use Rattle.rules.specs.Faults.{cause, protection_fault, asset_fault, derivative_set_fault, trade_fault, basket_fault, written_fault, cover_fault, financing_set_fault}
use Rattle.rules.specs.Faults.{financing_trade_fault, off_balance_fault}
use Rattle.rules.specs.Read.{head_faulty, date_faulty, head_of, lacks, record_then, protection_at, protection_turn, asset_at, asset_turn, cover_at, cover_turn, written_at, written_turn}
use Rattle.rules.specs.Read.{trade_at, trade_turn, basket_at, basket_turn, member_turn, derivative_set_at, derivative_set_turn, financing_trade_at, financing_trade_turn}
use Rattle.rules.specs.Read.{financing_member_turn, financing_set_at, financing_set_turn, off_balance_at, off_balance_turn, item_of, end_fault, item_turn, protections_of, items_of}
use Rattle.cuts.proofs.Chains.{Chain, view_one}
use Rattle.cuts.proofs.Records.{MemberRead, member_view, item_view}
use Rattle.cuts.proofs.Cutting.{ItemHere, items_begin}
use Rattle.cuts.proofs.Lengths.{placed_length}
use Rattle.cuts.proofs.Scan.{scan, along}
use Rattle.cuts.proofs.Places.{book_places}
use Rattle.cuts.proofs.ByKind.{begins, picked, opens, is_set, items_by_kind, items_same_places}
use Rattle.cuts.proofs.EachWord.{heads}
use Rattle.cuts.proofs.Local.{stay, first_words}
use Rattle.cuts.proofs.Moved.{moved_member}
use Rattle.cuts.proofs.Changed.{moved_placed, changed_members, Changed, changed_book}
use Rattle.cuts.proofs.Written.{book_of}
use Rattle.cuts.proofs.Parts.{front_of, parts_of, end_of, book_written}
use Rattle.cuts.proofs.Steps.{OneOther}
use Rattle.cuts.specs.Words.{OneAmount, Inserted}
use Rattle.cuts.specs.Further.{MoreCovers, FurtherBook}
use Rattle.cuts.proofs.OneAmount.{PlacedOther, amount_shape, items_other}
use Rattle.cuts.proofs.FurtherCovers.{same_before}
use Rattle.cuts.proofs.Further.{further_covers}
use Rattle.cuts.proofs.SampleBooks.{sample_front, empty_financing, an_asset, empty_set, a_trade, a_basket, a_credit, a_cover, a_set, a_commitment, book_with, sample_items, sample}

-- the same book with another carrying amount, and with another value of a trade
abbrev pub carried : List ℕ
carried = book_with (sample_items 8 0)

abbrev valued : List ℕ
valued = book_with (sample_items 7 5)

abbrev lengths_of : List ℕ → List ℕ
lengths_of ws = map placed_length (items_of ws).records

-- two sets, and the same with a cover put in at the end of the first and one between the two covers of the second
abbrev up_to_covers : List ℕ
up_to_covers = empty_set ++ a_trade 0 ++ a_basket ++ a_credit ++ a_cover 10

abbrev less_covered : List ℕ
less_covered = book_with (an_asset 7 ∷ a_set 0 ∷ (up_to_covers ++ a_cover 20) ∷ a_commitment ∷ [])

abbrev more_covered : List ℕ
more_covered = book_with (an_asset 7 ∷ (a_set 0 ++ a_cover 5) ∷ (up_to_covers ++ a_cover 6 ++ a_cover 20) ∷ a_commitment ∷ [])

-- the first asset of either, where it stands
abbrev pub asset_with : (carrying : ℕ) → Placed
asset_with carrying = record { begin = 11; end = 15; item = asset (record { fiduciary = false; carrying = carrying; provision = 0; deducted = 0 }) }

-- an asset, and in its place an empty financing set, three words shorter
abbrev longer : List ℕ
longer = book_with (empty_set ∷ an_asset 7 ∷ a_set 0 ∷ a_commitment ∷ [])

abbrev shorter : List ℕ
shorter = book_with (empty_set ∷ empty_financing ∷ a_set 0 ∷ a_commitment ∷ [])

abbrev no_trades : Placed
no_trades = record { begin = 11; end = 12; item = financing (record { netting = false; agent = false; further = false; trades = [] }) }

-- the fourth item of the sample book
abbrev pub the_set : Placed
the_set = get_or (items_of sample).records 3 (asset_with 7)

pub record Computed : Type 0 where
  -- ---- the cut: where the items begin and how long they are, the sets among them, the end, and all records
  pub read : (items_of sample).number ≡ 0
  pub items : begins (items_of sample).records ≡ 7 ∷ 11 ∷ 15 ∷ 19 ∷ 43 ∷ 44 ∷ 53 ∷ []
  pub lengths : lengths_of sample ≡ 4 ∷ 4 ∷ 4 ∷ 24 ∷ 1 ∷ 9 ∷ 2 ∷ []
  pub sets : begins (picked is_set (items_of sample).records) ≡ 7 ∷ 19 ∷ 43 ∷ 44 ∷ []
  pub end : (items_of sample).place ≡ 55
  pub records : book_places heads sample ≡ 3 ∷ 7 ∷ 11 ∷ 15 ∷ 19 ∷ 23 ∷ 28 ∷ 33 ∷ 39 ∷ 41 ∷ 43 ∷ 44 ∷ 45 ∷ 53 ∷ 55 ∷ []
  -- ---- the same, word by word
  pub begin : items_begin sample ≡ 7
  pub all : scan heads sample 3 53 ≡ 3 ∷ 7 ∷ 11 ∷ 15 ∷ 19 ∷ 23 ∷ 28 ∷ 33 ∷ 39 ∷ 41 ∷ 43 ∷ 44 ∷ 45 ∷ 53 ∷ 55 ∷ []
  pub opening : scan opens sample 7 49 ≡ 7 ∷ 11 ∷ 15 ∷ 19 ∷ 43 ∷ 44 ∷ 53 ∷ 55 ∷ []
  pub of_sets : scan is_set sample 7 49 ≡ 7 ∷ 19 ∷ 43 ∷ 44 ∷ []
  pub covers : scan (λ kind. eqb kind 7) sample 7 49 ≡ 39 ∷ 41 ∷ []
  -- ---- the set with one of each kind of member, where it stands
  pub set_begins : the_set.begin ≡ 19
  pub set_ends : the_set.end ≡ 43
  pub around_it : (items_of sample).records ≡ take 3 (items_of sample).records ++ the_set ∷ drop 4 (items_of sample).records
  -- ---- an item is its own words: but a trade behind an empty set is taken into it, and a set behind it is not
  pub alone : lengths_of (book_with (empty_set ∷ an_asset 7 ∷ [])) ≡ 4 ∷ 4 ∷ []
  pub taken : lengths_of (book_with (empty_set ∷ a_trade 0 ∷ [])) ≡ 9 ∷ []
  pub followed : lengths_of (book_with (a_set 0 ∷ a_set 0 ∷ [])) ≡ 24 ∷ 24 ∷ []
  -- ---- written anew: the parts are what it was written of, the equal assets too, and in another order it is cut into the same
  pub front : front_of sample ≡ sample_front
  pub parts : parts_of sample ≡ sample_items 7 0
  pub turned : parts_of (book_with (a_commitment ∷ a_set 0 ∷ an_asset 7 ∷ [])) ≡ a_commitment ∷ a_set 0 ∷ an_asset 7 ∷ []
  -- ---- one amount other: cut alike; of an item more, those behind stand elsewhere
  pub carried_read : (items_of carried).number ≡ 0
  pub carried_parts : parts_of carried ≡ sample_items 8 0
  pub valued_read : (items_of valued).number ≡ 0
  pub carried_at_lem : begins (items_of carried).records ≡ 7 ∷ 11 ∷ 15 ∷ 19 ∷ 43 ∷ 44 ∷ 53 ∷ []
  pub valued_at : begins (items_of valued).records ≡ 7 ∷ 11 ∷ 15 ∷ 19 ∷ 43 ∷ 44 ∷ 53 ∷ []
  pub grown : begins (items_of (book_with (empty_set ∷ a_set 0 ∷ an_asset 7 ∷ a_set 0 ∷ a_commitment ∷ []))).records ≡ 7 ∷ 11 ∷ 35 ∷ 39 ∷ 63 ∷ []
  pub shrunk : begins (items_of (book_with (empty_set ∷ an_asset 7 ∷ a_set 0 ∷ a_commitment ∷ []))).records ≡ 7 ∷ 11 ∷ 15 ∷ 39 ∷ []
  -- ---- further covers: both books are read without a fault
  pub first_read : (items_of less_covered).number ≡ 0
  pub second_read : (items_of more_covered).number ≡ 0
  pub second_head : head_faulty more_covered ≡ false
  pub second_date : date_faulty more_covered ≡ false
  -- ---- the first of the two assets, alone and in the other book
  pub before_it : (items_of sample).records ≡ take 1 (items_of sample).records ++ asset_with 7 ∷ drop 2 (items_of sample).records
  pub other : item_of (drop 11 carried) ≡ some (asset_with 8).item 0 4
  -- ---- the asset and the set in its place
  pub longer_read : (items_of longer).number ≡ 0
  pub longer_end : (items_of longer).place ≡ 41
  pub longer_items : (items_of longer).records ≡ take 1 (items_of longer).records ++ asset_with 7 ∷ drop 2 (items_of longer).records
  pub no_trades_lem : item_of (drop 11 shorter) ≡ some no_trades.item 0 1
  pub shorter_at : begins (items_of shorter).records ≡ 7 ∷ 11 ∷ 12 ∷ 36 ∷ []

-- all of it by computation
pub computed : Computed
unfolding gain_of loss_of run_from cause protection_fault asset_fault derivative_set_fault trade_fault basket_fault written_fault cover_fault financing_set_fault financing_trade_fault off_balance_fault head_faulty date_faulty head_of lacks record_then protection_at protection_turn asset_at asset_turn cover_at cover_turn written_at written_turn trade_at trade_turn basket_at basket_turn member_turn derivative_set_at derivative_set_turn financing_trade_at financing_trade_turn financing_member_turn financing_set_at financing_set_turn off_balance_at off_balance_turn item_of end_fault item_turn protections_of items_of scan along picked
computed = record {
  read = refl;
  items = refl;
  lengths = refl;
  sets = refl;
  end = refl;
  records = refl;
  begin = refl;
  all = refl;
  opening = refl;
  of_sets = refl;
  covers = refl;
  set_begins = refl;
  set_ends = refl;
  around_it = refl;
  alone = refl;
  taken = refl;
  followed = refl;
  front = refl;
  parts = refl;
  turned = refl;
  carried_read = refl;
  carried_parts = refl;
  valued_read = refl;
  carried_at_lem = refl;
  valued_at = refl;
  grown = refl;
  shrunk = refl;
  first_read = refl;
  second_read = refl;
  second_head = refl;
  second_date = refl;
  before_it = refl;
  other = refl;
  longer_read = refl;
  longer_end = refl;
  longer_items = refl;
  no_trades_lem = refl;
  shorter_at = refl;
}

-- ---- the laws say so of them

-- the items by their kinds
pub by_kind : scan opens sample (items_begin sample) (length sample - items_begin sample) ≡ begins (items_of sample).records ++ ((items_of sample).place ∷ [])
by_kind = items_by_kind sample computed.read

-- a book of its parts
pub of_parts : sample ≡ book_of (front_of sample) (parts_of sample) (end_of sample)
of_parts = book_written sample computed.read

-- word 24 is the value of the trade in the set at 19
pub one_amount : OneAmount sample valued 24
one_amount = record { long = refl; there = omega arith; first = refl; second = refl; others = λ i n. sym (get_or-set_other sample 24 i 5 0 n) }

-- so only that set changes
pub one_other : OneOther (ItemHere sample) (ItemHere valued) (PlacedOther sample valued 24) 24 (items_begin sample) (items_of sample).records (items_of valued).records
one_other = (items_other one_amount computed.read computed.valued_read (rw computed.begin (omega arith))).2

-- and word 12 the carrying amount of the asset at 11, so that only that asset changes
same_but_one : (i : ℕ) → (i ≡ 12 → ⊥) → word sample i ≡ word carried i
same_but_one i n = sym (get_or-set_other sample 12 i 8 0 n)

pub one_changed : Changed stay sample carried (asset_with 7) (asset_with 8)
one_changed = record {
  front = record { within = omega arith; there = omega arith; even = λ i k h. refl; words = λ i h l. same_but_one i (λ z. omega arith) };
  other = ItemHere.here (view_one (item_view (drop 11 carried)) _ 4 computed.other).0;
  back = rw computed.end (record { within = omega arith; there = omega arith; even = λ i k h. refl; words = λ i h l. same_but_one i (λ z. omega arith) });
  end = rw computed.end (record { of = refl; counts = refl; last = refl });
}

pub carried_items : (items_of carried).records ≡ take 1 (items_of sample).records ++ asset_with 8 ∷ map (moved_placed stay) (drop 2 (items_of sample).records)
carried_items =
    let items = (items_of sample).records in
    ap (λ r. r.records) (changed_book sample carried (take 1 items) (asset_with 7) (asset_with 8) (drop 2 items) computed.read computed.before_it one_changed).2

two_put : Inserted less_covered more_covered
two_put =
    same_before (sample_front ++ an_asset 7 ++ a_set 0)
    (Inserted.put refl refl (same_before up_to_covers (Inserted.put refl refl (same_before (a_cover 20 ++ a_commitment) (Inserted.ends refl refl)))))

pub more_covered_lem : FurtherBook less_covered more_covered
more_covered_lem = further_covers less_covered more_covered two_put computed.second_head computed.second_date computed.first_read computed.second_read

-- in two books of one shape the items stand at the same places
pub same_places : (begins (items_of sample).records ≡ begins (items_of valued).records) × ((items_of sample).place ≡ (items_of valued).place)
same_places = items_same_places (amount_shape one_amount) computed.read computed.valued_read

-- behind an item that is three words shorter all stand three words before
abbrev nearer : ℕ → ℕ
nearer at = at - 3

shortened : Changed nearer longer shorter (asset_with 7) no_trades
shortened = record {
  front = first_words 11 longer shorter (omega arith) refl;
  other = ItemHere.here (view_one (item_view (drop 11 shorter)) _ 1 computed.no_trades_lem).0;
  back = rw computed.longer_end (record { within = omega arith; there = omega arith; even = λ i k h. omega arith; words = back });
  end = rw computed.longer_end (record { of = refl; counts = refl; last = refl });
}
  where
    back : (i : ℕ) → 15 ≤ i → i < 41 → word longer i ≡ word shorter (nearer i)
    back i h l =
        let a : 15 + (i - 15) ≡ i = omega arith in
        let b : 12 + (i - 15) ≡ i - 3 = omega arith in
        ap (word longer) (sym a) ∙ sym (get_or-drop 15 longer (i - 15) 0) ∙ sym (get_or-take 26 (drop 15 longer) (i - 15) 0 (omega arith))
        ∙ get_or-take 26 (drop 12 shorter) (i - 15) 0 (omega arith) ∙ get_or-drop 12 shorter (i - 15) 0 ∙ ap (word shorter) b

-- the law says so
pub shortened_items : (items_of shorter).records ≡ take 1 (items_of longer).records ++ no_trades ∷ map (moved_placed nearer) (drop 2 (items_of longer).records)
shortened_items =
    let items = (items_of longer).records in
    ap (λ r. r.records) (changed_book longer shorter (take 1 items) (asset_with 7) no_trades (drop 2 items) computed.longer_read computed.longer_items shortened).2

-- a set whose first member is a word longer: the credit behind it stands a word later, and so does its cover
abbrev trade_first : List ℕ
trade_first = empty_set ++ a_trade 0 ++ a_credit ++ a_cover 10

abbrev credit_first : List ℕ
credit_first = empty_set ++ a_credit ++ a_credit ++ a_cover 10

pub record Members : Type 0 where
  pub first : member_turn credit_first 4 ≡ some (written (written_at credit_first 4 [])) 0 10
  pub second : member_turn trade_first 9 ≡ some (written (written_at trade_first 9 (cover_at trade_first 15 ∷ []))) 0 17
  pub later : moved_member suc (written (written_at trade_first 9 (cover_at trade_first 15 ∷ []))) ≡ written (written_at credit_first 10 (cover_at credit_first 16 ∷ []))

members : Members
unfolding gain_of loss_of run_from cause written_fault cover_fault lacks record_then cover_at cover_turn written_at written_turn trade_turn basket_turn member_turn
members = record { first = refl; second = refl; later = refl }

-- so they are read
pub members_later : Chain (MemberRead credit_first) 4 (written (written_at credit_first 4 []) ∷ written (written_at credit_first 10 (cover_at credit_first 16 ∷ [])) ∷ []) 18
members_later =
    rw members.later at
    (changed_members {move = suc} trade_first credit_first 4 4 9 17 [] _ _ Chain.done
    (record { within = omega arith; there = omega arith; even = λ i k h. refl; words = λ i h l. let z : ⊥ = omega arith in absurd z })
    (view_one (member_view credit_first 4) _ 10 members.first).0
    (Chain.then (view_one (member_view trade_first 9) _ 17 members.second).0 Chain.done)
    (record { within = omega arith; there = omega arith; even = λ i k h. omega arith; words = behind })
    refl)
  where
    behind : (i : ℕ) → 9 ≤ i → i < 17 → word trade_first i ≡ word credit_first (suc i)
    behind i h l =
        let a : 9 + (i - 9) ≡ i = omega arith in
        let b : 10 + (i - 9) ≡ suc i = omega arith in
        ap (word trade_first) (sym a) ∙ sym (get_or-drop 9 trade_first (i - 9) 0) ∙ get_or-drop 10 credit_first (i - 9) 0 ∙ ap (word credit_first) b

-- fewer covers are no further covers, nor are those of another amount or of another protection
abbrev cover_of : ℕ → Cover
cover_of amount = record { at = 0; protection = 0; amount = amount }

pub not_fewer : MoreCovers (cover_of 10 ∷ cover_of 20 ∷ []) (cover_of 20 ∷ []) → ⊥
not_fewer (MoreCovers.both p a r) = omega arith
not_fewer (MoreCovers.further x4) = elim x4 [ ]

pub not_others : MoreCovers (cover_of 10 ∷ []) (cover_of 20 ∷ []) → ⊥
not_others (MoreCovers.both p a r) = omega arith
not_others (MoreCovers.further x4) = elim x4 [ ]

pub not_by_another : MoreCovers (cover_of 10 ∷ []) (record { at = 0; protection = 1; amount = 10 } ∷ []) → ⊥
not_by_another (MoreCovers.both p a r) = omega arith
not_by_another (MoreCovers.further x4) = elim x4 [ ]
