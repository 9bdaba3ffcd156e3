-- Where the records stand whose kinds pass a test, by what is read; and that a search word by word finds just these places: in a record, an
-- item, the protections, all that is behind them, and the book. Assumes nothing.
use Prim.Native.Nat.{ℕ, zero, suc, ◌+◌, ◌*◌, ◌-◌}
use mathlib.Core.Path.{◌≡◌, refl, sym, ◌∙◌, ap}
use mathlib.Core.Bool.{Bool, false}
use mathlib.Core.List.{List, [], ◌++◌, append-nil}
use native.Mathlib.Omega.{arith}
use native.Mathlib.Nat.{zero-add}
use lib.ListN.{length, drop}
use Rattle.rules.specs.Book.{Protection, Cover, Member, trade, written, basket, FinancingTrade, Item, asset, derivatives, financing, off_balance, Placed, total}
use Rattle.rules.specs.Read.{first_record, head_of, written_at, derivative_set_at, financing_set_at, protections_of, items_of}
use Rattle.cuts.specs.Words.{Shape, Wordwise}
use Rattle.cuts.proofs.Records.{CoverRead, MemberRead, FinancingTradeRead, ItemRead, ProtectionRead}
use Rattle.cuts.proofs.Cutting.{ItemHere, kind_of_item, items_begin, book_cut}
use Rattle.cuts.proofs.Lengths.{cover_length, member_length, financing_trade_length, protection_length, item_length, placed_length}
use Rattle.cuts.proofs.Lengths.{cover_length_lem, member_length_lem, financing_trade_length_lem, protection_length_lem, here_length, chain_length}
use Rattle.cuts.proofs.Scan.{marked, scan, along, scan_add, whole_scan, head_scan, chain_scan}

-- ---- where records of passing kinds stand, if what is read begins at a place

module _ (test : ℕ → Bool) where
  -- a cover is a record of its own
  abbrev pub cover_places : ℕ → Cover → List ℕ
  cover_places at c = marked (test 7) at

  -- a written credit has its covers behind it
  abbrev pub member_places : ℕ → Member → List ℕ
  member_places at (trade t) = marked (test 5) at
  member_places at (written w) = marked (test 6) at ++ along cover_length cover_places (at + 6) w.covers
  member_places at (basket b) = marked (test 11) at

  -- so is a financing trade
  abbrev pub financing_trade_places : ℕ → FinancingTrade → List ℕ
  financing_trade_places at t = marked (test 9) at

  -- inside an item, behind its first word
  abbrev pub inner_places : ℕ → Item → List ℕ
  inner_places at (asset a) = []
  inner_places at (derivatives s) = along member_length member_places (at + 4) s.members
  inner_places at (financing s) = along financing_trade_length financing_trade_places (at + 1) s.trades
  inner_places at (off_balance o) = []

  -- with its first word
  abbrev pub item_places : ℕ → Item → List ℕ
  item_places at i = marked (test (kind_of_item i)) at ++ inner_places at i

  abbrev pub placed_places : ℕ → Placed → List ℕ
  placed_places at p = item_places at p.item

  -- a protection
  abbrev pub protection_places : ℕ → Protection → List ℕ
  protection_places at p = marked (test 3) at

  -- behind the protections: in the items, and the end
  abbrev pub items_places : List ℕ → List ℕ
  items_places ws = along placed_length placed_places (items_begin ws) (items_of ws).records ++ marked (test 15) (items_of ws).place

  -- from the first record on
  abbrev pub book_places : List ℕ → List ℕ
  book_places ws = along protection_length protection_places first_record (protections_of ws).records ++ items_places ws

-- ---- a search finds just these, for any test that no amount passes

module _ (test : ℕ → Bool) (none : test 0 ≡ false) (ws : List ℕ) where
  -- records read in the words from b on: place `at` there is place x of the book
  module _ (b : ℕ) where
    -- a search finds what is in the record there
    abbrev Scans : {A : Type 0} → (A → ℕ) → (ℕ → A → List ℕ) → (ℕ → A → ℕ → Type 0) → Type 0
    Scans {A} size places R = (at : ℕ) (a : A) (next : ℕ) → R at a next → (x : ℕ) → x ≡ b + at → scan test ws x (size a) ≡ places x a

    cover_scan : Scans cover_length (cover_places test) (CoverRead (drop b ws))
    cover_scan at c next (CoverRead.one w) x e = whole_scan test none ws b 7 _ at x e w

    member_scan : Scans member_length (member_places test) (MemberRead (drop b ws))
    unfolding written_at
    member_scan at m next (MemberRead.of_trade w) x e = whole_scan test none ws b 5 _ at x e w
    member_scan at m next (MemberRead.of_credit {covers} w c) x e =
        head_scan test none ws b 6 _ at x (total cover_length covers) _ e w
        (chain_scan test none ws b cover_length (cover_places test) (cover_length_lem (drop b ws)) cover_scan c.chain (x + 6) (omega arith))
    member_scan at m next (MemberRead.of_basket w) x e =
        ap (scan test ws x) (omega (arith, member_length_lem (drop b ws) at m next (MemberRead.of_basket w))) ∙ whole_scan test none ws b 11 _ at x e w

    financing_trade_scan : Scans financing_trade_length (financing_trade_places test) (FinancingTradeRead (drop b ws))
    financing_trade_scan at t next (FinancingTradeRead.one w) x e = whole_scan test none ws b 9 _ at x e w

    protection_scan : Scans protection_length (protection_places test) (ProtectionRead (drop b ws))
    protection_scan at p next (ProtectionRead.one w) x e = whole_scan test none ws b 3 _ at x e w

    item_scan : (i : Item) (n : ℕ) → ItemRead (drop b ws) i n → scan test ws b (item_length i) ≡ item_places test b i
    unfolding scan derivative_set_at financing_set_at
    item_scan i n (ItemRead.of_asset w) = head_scan test none ws b 2 _ 0 b 0 [] (omega arith) w refl
    item_scan i n (ItemRead.for_derivatives {members} w c) =
        head_scan test none ws b 4 _ 0 b (total member_length members) _ (omega arith) w
        (chain_scan test none ws b member_length (member_places test) (member_length_lem (drop b ws)) member_scan c.chain (b + 4) refl)
    item_scan i n (ItemRead.for_financing {trades} w c) =
        head_scan test none ws b 8 _ 0 b (total financing_trade_length trades) _ (omega arith) w
        (chain_scan test none ws b financing_trade_length (financing_trade_places test) (financing_trade_length_lem (drop b ws)) financing_trade_scan c.chain (b + 1) refl)
    item_scan i n (ItemRead.for_off_balance w) = head_scan test none ws b 10 _ 0 b 0 [] (omega arith) w refl

  -- AN ITEM of the book
  pub here_scan : (at : ℕ) (p : Placed) (next : ℕ) → ItemHere ws at p next → scan test ws at (placed_length p) ≡ placed_places test at p
  here_scan at p next (ItemHere.here {i} {n} r) = item_scan at i n r

  module _ (e : (items_of ws).number ≡ 0) where
    -- BEHIND THE PROTECTIONS
    pub behind_scan : scan test ws (items_begin ws) (length ws - items_begin ws) ≡ items_places test ws
    unfolding scan
    behind_scan =
        let c = book_cut ws e in
        let n = total placed_length (items_of ws).records in
        let stop = chain_length placed_length (here_length ws) c.items in
        let long : length ws - items_begin ws ≡ n + 1 = omega (arith, c.end.last) in
        let one : Scans 0 placed_length (placed_places test) (ItemHere ws) = λ at p next h x q. rw (q ∙ zero-add at) (here_scan at p next h) in
        let s = chain_scan test none ws 0 placed_length (placed_places test) (here_length ws) one c.items (items_begin ws) (omega arith) in
        rw (long, scan_add test ws n 1 (items_begin ws), s, ← stop, c.end.of, append-nil (marked (test 15) (items_of ws).place))

    -- IN THE PROTECTIONS
    protections_scan : scan test ws first_record (4 * (head_of ws).protections) ≡ along protection_length (protection_places test) first_record (protections_of ws).records
    protections_scan =
        let c = book_cut ws e in
        let stop = chain_length protection_length (protection_length_lem ws) c.protections in
        let long : 4 * (head_of ws).protections ≡ total protection_length (protections_of ws).records = omega arith in
        rw long (chain_scan test none ws 0 protection_length (protection_places test) (protection_length_lem ws) (protection_scan 0) c.protections first_record refl)

    -- FROM THE FIRST RECORD ON
    pub book_scan : scan test ws first_record (length ws - first_record) ≡ book_places test ws
    book_scan =
        let c = book_cut ws e in
        let stop = chain_length placed_length (here_length ws) c.items in
        let long : length ws - first_record ≡ 4 * (head_of ws).protections + (length ws - items_begin ws) = omega (arith, c.end.last) in
        rw (long, scan_add test ws (4 * (head_of ws).protections) (length ws - items_begin ws) first_record, protections_scan, behind_scan)

-- ---- TWO BOOKS OF ONE SHAPE have records of the same kinds at the same places

scan_same : (test : ℕ → Bool) {xs ys : List ℕ} → Wordwise Shape xs ys → (n at : ℕ) → scan test xs at n ≡ scan test ys at n
unfolding scan
scan_same test l zero at = refl
scan_same test l (suc n) at = rw ((l.at at).kind, scan_same test l n (suc at))

-- for any test that no amount passes, so for every kind
pub places_same : (test : ℕ → Bool) → test 0 ≡ false → {xs ys : List ℕ} → Wordwise Shape xs ys → (items_of xs).number ≡ 0 → (items_of ys).number ≡ 0
    → book_places test xs ≡ book_places test ys
places_same test none {xs} {ys} l e f =
    sym (book_scan test none xs e) ∙ ap (λ (n : ℕ). scan test xs first_record (n - first_record)) l.long ∙ scan_same test l (length ys - first_record) first_record ∙ book_scan test none ys f
