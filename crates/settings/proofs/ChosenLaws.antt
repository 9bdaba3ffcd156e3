-- A derivative set of an accepted book: how large it is, what it adds to row 21 under each setting, and the verdicts. Assumes nothing.
use Prim.Native.Nat.{ℕ, zero, suc, ◌+◌, ◌-◌, ◌*◌, ◌≤◌, ◌<◌, ◌^◌}
use mathlib.Core.Path.{◌≡◌, refl, ◌∙◌, ap}
use mathlib.Core.Bool.{Bool, true, false, cond}
use mathlib.Core.List.{List, ◌∷◌, ◌++◌}
use native.Mathlib.Omega.{arith}
use native.Mathlib.Nat.{zero-add}
use lib.IntN.{pos}
use lib.ListN.{length, drop, length-drop}
use Rattle.rules.specs.declared.Bands.{Bands}
use Rattle.rules.specs.declared.Entry.{Entry}
use Rattle.rules.specs.declared.Sums.{Sums}
use Rattle.rules.specs.Word.{word, bit_of}
use Rattle.rules.specs.Book.{DerivativeSet, Item, derivatives, Placed, total}
use Rattle.rules.specs.Read.{head_of}
use Rattle.rules.specs.Weigh.{sum_below, gain_in, loss_in, add_on_in, uncovered_in, written_in, covers_in, tally_of, replacement_of, weighted_in}
use Rattle.rules.specs.Rows.{sum_over, exposure_row}
use Rattle.rules.specs.Filing.{outcome_of, verdict_in, filing}
use Rattle.rules.proofs.Lists.{total_le_all}
use Rattle.laws.specs.Exposure.{exposure_of}
use Rattle.laws.proofs.Accepted.{Accepted, accepted_is}
use Rattle.laws.proofs.Each.{every_first, every_append}
use Rattle.laws.proofs.GoodHead.{good_head}
use Rattle.laws.proofs.Settling.{all_within, book_within}
use Rattle.laws.proofs.ExposureSum.{exposure_is_sum}
use Rattle.laws.proofs.MemberBounds.{members_total}
use Rattle.laws.proofs.ItemBounds.{item_weight, items_small}
use Rattle.laws.proofs.ItemRows.{exposure_at_most}
use Rattle.rules.proofs.Weighted.{at_most}
use Rattle.cuts.proofs.Cutting.{ItemHere}
use Rattle.other_marks.specs.Marked.{settings, book_with, set_with}
use Rattle.other_marks.specs.Claims.{LikeFiled}
use Rattle.other_marks.proofs.Books.{sum_among, stands, begins_within, accepted_alike}
use Rattle.weighing.specs.declared.tally.Tally.{Tally}
use Rattle.weighing.specs.Gathered.{no_tally, plus_members, TallyRoomy, TallyFits}
use Rattle.settings.specs.declared.exposure.Pieces.{Pieces}
use Rattle.settings.specs.Settings.{Counted, leading, how_many, counts_of, verdict_with}
use Rattle.settings.specs.Members.{from_head, tally_from, SureMembers}
use Rattle.settings.specs.Pieces.{net_in, kept_netted, pieces_of, offsets_in, exposed_by, verdict_by, PiecesFit, AllFit}
use Rattle.settings.specs.Chosen.{ChosenSet}
use Rattle.settings.proofs.SetHere.{SetHere, set_here, uncovered_within}

-- equal verdicts are counted alike
leading_same : {f g : ℕ → ℕ} → ((m : ℕ) → m < settings → f m ≡ g m) → (verdict n : ℕ) → n ≤ settings → leading f verdict n ≡ leading g verdict n
unfolding sum_below
leading_same same verdict zero h = refl
leading_same same verdict (suc n) h = rw (same n (omega arith), leading_same same verdict n (omega arith)) refl

-- ---- what its pieces come to is what it adds to row 21

module _ (bands : Bands) (s : DerivativeSet) where
  abbrev pub tallied : Tally
  tallied = plus_members bands no_tally s.members

  -- from nothing on
  abbrev all : Tally
  all = record {
    gains = total gain_in s.members;
    losses = total loss_in s.members;
    gross = total (add_on_in bands) s.members;
    uncovered = total uncovered_in s.members;
    written = total written_in s.members;
    covered = total covers_in s.members;
  }

  tallied_is : tallied ≡ all
  tallied_is = simp zero-add

  by_marks : (n o e : Bool)
      → 1000 * s.posted + 1000 * (all.written - all.covered)
      + cond e 0 (cond n (cond o (1000 * (net_in all - s.received) + kept_netted all) (1000 * net_in all + kept_netted all)) (1000 * all.gains + (all.gross - all.uncovered)))
      + cond o 0 (1000 * s.paid)
      ≡ cond e 0 (1000 * cond n (cond o (net_in all - s.received) (net_in all)) all.gains + cond n (kept_netted all) (all.gross - all.uncovered))
      + 1000 * s.posted + cond o 0 (1000 * s.paid) + 1000 * (all.written - all.covered)
  by_marks n o true = omega arith
  by_marks true true false = omega arith
  by_marks true false false = omega arith
  by_marks false o false = omega arith

  pub exposed_as : (m : ℕ) → exposed_by (pieces_of s tallied) m ≡ exposure_of bands (derivatives (set_with m s))
  unfolding exposed_by pieces_of tally_of replacement_of weighted_in
  exposed_as m = ap (λ (t : Tally). exposed_by (pieces_of s t) m) tallied_is ∙ by_marks (bit_of 0 m) (offsets_in m) (bit_of 5 m)

-- ---- how large it is

module _ (ws : List ℕ) (register : List Entry) (sums : Sums) (head : ℕ) (c : ChosenSet ws register sums head) where
  abbrev bands : Bands
  bands = (head_of ws).bands

  abbrev items : List Placed
  items = c.front ++ c.placed ∷ c.back

  read : Accepted ws 22 (length register) items c.left
  read = accepted_is ws 22 (length register) items c.left c.among.accepts

  -- what the others add
  abbrev pub others_add : ℕ
  others_add = sum_over (exposure_of bands) c.front + sum_over (exposure_of bands) c.back

  weights : sum_over (item_weight bands) c.front + sum_over (item_weight bands) c.back + item_weight bands (derivatives c.set) ≤ 2 ^ 61
  weights =
      let w = rw read.reading.read at (items_small bands ws (good_head ws read.reading.head).long) in
      omega (arith, w, sum_among (item_weight bands) c.front c.placed c.back, ap (item_weight bands) c.among.set, read.reading.short)

  pub short : length ws ≤ 2 ^ 20
  short = read.reading.short

  pub head_there : head < length ws
  head_there = omega (arith, begins_within ws 22 (length register) c.left c.front c.placed c.set c.back c.among, c.begins)

  pub here : SetHere (drop head ws) c.set
  here = go c.placed c.among.set c.begins (stands ws 22 (length register) c.left c.front c.placed c.set c.back c.among).here
    where
      go : (p : Placed) {at next : ℕ} → p.item ≡ derivatives c.set → at ≡ head → ItemHere ws at p next → SetHere (drop head ws) c.set
      go p {at} e q (ItemHere.here {n = n} r) = rw (← q) (set_here (drop at ws) c.set n (rw e at r))

  -- its covers are within what it has written
  within : total covers_in c.set.members ≤ total written_in c.set.members
  within =
      let w = book_within items (all_within _ _ c.left read.fits) in
      let p = ((every_first c.placed c.back).0 ((every_append c.front (c.placed ∷ c.back)).0 w).1).0 in
      rw c.among.set at p

  pub tally_fits : TallyFits (tallied bands c.set) × ((tallied bands c.set).covered ≤ (tallied bands c.set).written)
  tally_fits = (
    record {
      weight = omega (arith, weights, members_total bands c.set.members);
      losses = omega (arith, here.losses, length-drop head ws, short);
      uncovered = omega (arith, uncovered_within bands c.set.members);
    },
    omega (arith, within),
  )

  pub tally_room : TallyRoomy (tallied bands c.set)
  tally_room =
      let f = tally_fits.0 in
      record {
        gains = omega (arith, f.weight);
        losses = omega (arith, f.losses);
        gross = omega (arith, f.weight);
        uncovered = omega (arith, f.weight, f.uncovered);
        written = omega (arith, f.weight);
        covered = omega (arith, f.weight);
      }

  pub sure_members : SureMembers bands (drop head ws) from_head
  sure_members = record {
    readable = record { within = here.four; short = omega (arith, length-drop head ws, short) };
    number = rw here.members;
    roomy = rw here.members tally_room;
  }

  pub tally_is : {t : Tally} → t ≡ tally_from bands (drop head ws) from_head → t ≡ tallied bands c.set
  tally_is q = q ∙ rw here.members refl

  -- ---- what it adds, and what the others do

  abbrev pub pieces : Pieces
  pieces = pieces_of c.set (tallied bands c.set)

  pub pieces_fit : PiecesFit pieces
  unfolding pieces_of
  pieces_fit =
      let t = tallied bands c.set in
      let f = tally_fits.0 in
      let kept = at_most (t.gross - t.uncovered) t.gains (net_in t) (omega arith) in
      record { weighed = omega (arith, f.weight, kept); others = omega (arith, weights, members_total bands c.set.members) }

  -- row 21 of the book as it stands
  pub row_is : exposure_row sums ≡ pos (others_add + exposure_of bands (derivatives c.set))
  row_is =
      ap exposure_row c.sums_are ∙ exposure_is_sum ws 22 (length register) items c.left c.among.accepts
      ∙ ap pos (sum_among (exposure_of bands) c.front c.placed c.back ∙ ap (λ (i : Item). others_add + exposure_of bands i) c.among.set)

  -- as it is filed, by its head word
  pub filed_adds : exposed_by pieces (word (drop head ws) 0) ≡ exposure_of bands (derivatives c.set)
  filed_adds = exposed_as bands c.set (word (drop head ws) 0) ∙ ap (λ (s : DerivativeSet). exposure_of bands (derivatives s)) here.marks

  -- and under each setting it fits
  pub all_fit : {others : ℕ} → others ≡ others_add → AllFit pieces others
  all_fit q = record {
    pieces = pieces_fit;
    exposure = λ m l. omega (
      arith,
      q,
      exposed_as bands c.set m,
      weights,
      exposure_at_most bands (derivatives (set_with m c.set)),
      total_le_all (λ (p : Placed). exposure_of bands p.item) (λ (p : Placed). item_weight bands p.item) (λ p. exposure_at_most bands p.item) c.front,
      total_le_all (λ (p : Placed). exposure_of bands p.item) (λ (p : Placed). item_weight bands p.item) (λ p. exposure_at_most bands p.item) c.back,
    );
  }

  -- ---- the verdicts

  pub verdict_with_lem : (m : ℕ) → m < settings → verdict_by pieces others_add (head_of ws).gain (head_of ws).loss m ≡ verdict_with ws register head m
  unfolding filing
  verdict_with_lem m l = go head c.begins
    where
      f : LikeFiled ws 22 (length register) c.left c.front c.placed c.set c.back m
      f = accepted_alike ws 22 (length register) c.left c.front c.placed c.set c.back c.among m l

      go : (h : ℕ) → c.placed.begin ≡ h → verdict_by pieces others_add (head_of ws).gain (head_of ws).loss m ≡ verdict_in (head_of (book_with ws h m)) (outcome_of (book_with ws h m) 22 (length register))
      go h q = rw (← q, f.accepts, f.head, f.exposure, exposed_as bands c.set m) refl

  -- so the counts are those of the definition
  pub counts_are : {others : ℕ} → others ≡ others_add → {r : Counted} → r ≡ counts_of (verdict_by pieces others (head_of ws).gain (head_of ws).loss) → r ≡ counts_of (verdict_with ws register head)
  unfolding how_many
  counts_are q e =
      e ∙ rw (q, leading_same verdict_with_lem 0 settings (omega arith), leading_same verdict_with_lem 1 settings (omega arith), leading_same verdict_with_lem 2 settings (omega arith)) refl
