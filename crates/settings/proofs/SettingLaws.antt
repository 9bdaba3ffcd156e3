-- The settings of a chosen set, by what the calls gave, one after the other. Assumes nothing.
use Prim.Native.Nat.{ℕ, ◌+◌, ◌-◌, ◌≤◌, ◌^◌}
use mathlib.Core.Path.{◌≡◌, refl, ◌∙◌, ap}
use mathlib.Core.Bool.{not}
use mathlib.Core.List.{List}
use native.Mathlib.Omega.{arith}
use borrow.Author.Tests.{ltb-false, eqb-true, not-false}
use lib.Dec.{eqb}
use lib.IntN.{pos}
use lib.ListN.{length, take, drop, length-drop}
use lib.Seq.{take-length}
use Rattle.rules.specs.declared.Bands.{Bands}
use Rattle.rules.specs.declared.Entry.{Entry}
use Rattle.rules.specs.declared.Sums.{Sums}
use Rattle.rules.specs.Word.{word, kind_of, payload_of, size_of}
use Rattle.rules.specs.Book.{derivatives}
use Rattle.rules.specs.Calendar.{last_date, bands_of}
use Rattle.rules.specs.Read.{head_of, date_faulty, reporting_date}
use Rattle.rules.specs.Rows.{exposure_row}
use Rattle.rules.proofs.Lists.{or_left, or_right}
use Rattle.laws.specs.Exposure.{exposure_of}
use Rattle.laws.proofs.Accepted.{accepted_is}
use Rattle.records.specs.Readable.{Readable}
use Rattle.weighing.specs.declared.tally.Tally.{Tally}
use Rattle.weighing.specs.declared.read.SetWords.{SetWords}
use Rattle.weighing.specs.Words.{set_words, set_of}
use Rattle.weighing.specs.Gathered.{TallyFits}
use Rattle.settings.specs.declared.exposure.Pieces.{Pieces}
use Rattle.settings.specs.Settings.{Counted, counts_of, verdict_with}
use Rattle.settings.specs.Members.{from_head, tally_from, SureMembers}
use Rattle.settings.specs.Pieces.{pieces_of, exposed_by, verdict_by, PiecesFit, AllFit}
use Rattle.settings.specs.Chosen.{ChosenSet}
use Rattle.settings.proofs.SetHere.{SetHere}
use Rattle.settings.proofs.ChosenLaws.{tallied, others_add, short, head_there, here, tally_fits, sure_members, tally_is, pieces, pieces_fit, row_is, filed_adds, all_fit, counts_are}

-- the rest of a book, as a part of it
abbrev pub part_from : List ℕ → ℕ → List ℕ
part_from ws head = take (length ws - head) (drop head ws)

part_is : (ws : List ℕ) (head : ℕ) → part_from ws head ≡ drop head ws
part_is ws head = rw (← length-drop head ws) (take-length (drop head ws))

module _ (ws : List ℕ) (register : List Entry) (sums : Sums) (head : ℕ) (c : ChosenSet ws register sums head) where
  pub head_within : (head ≤ length ws) × (length ws ≤ 2 ^ 20)
  head_within = (omega (arith, head_there ws register sums head c), short ws register sums head c)

  set : SetHere (drop head ws) c.set
  set = here ws register sums head c

  pub set_readable : Readable 4 (part_from ws head)
  set_readable = rw (part_is ws head) (record { within = set.four; short = omega (arith, length-drop head ws, head_within.1) })

  -- ---- the date and its bands

  module _ {date : ℕ} (dq : date ≡ word ws 2) where
    good_date : (kind_of (word ws 2) ≡ 0) × (payload_of (word ws 2) ≤ last_date)
    unfolding date_faulty
    good_date =
        let d = (accepted_is ws 22 (length register) _ c.left c.among.accepts).reading.date in
        (eqb-true _ 0 (not-false _ (or_left (not (eqb (kind_of (word ws 2)) 0)) _ d)), ltb-false _ _ (or_right (not (eqb (kind_of (word ws 2)) 0)) _ d))

    pub date_within : date ≤ last_date
    date_within = omega (arith, dq, good_date.0, good_date.1)

    module _ {b : Bands} (bq : b ≡ bands_of date) where
      bands_are : b ≡ (head_of ws).bands
      unfolding head_of reporting_date
      bands_are =
          let d = (accepted_is ws 22 (length register) _ c.left c.among.accepts).reading.date in
          let size : date ≡ size_of (word ws 2) = omega (arith, dq, good_date.0, good_date.1) in
          bq ∙ ap bands_of size ∙ rw d refl

      pub members_sure : SureMembers b (part_from ws head) from_head
      members_sure = rw (bands_are, part_is ws head) (sure_members ws register sums head c)

      -- ---- the tally

      module _ {t : Tally} (tq : t ≡ tally_from b (part_from ws head) from_head) where
        tally_known : t ≡ tallied (head_of ws).bands c.set
        tally_known = tally_is ws register sums head c (rw (← bands_are, ← part_is ws head) tq)

        pub tally_fit : TallyFits t × (t.covered ≤ t.written)
        tally_fit = rw tally_known (tally_fits ws register sums head c)

        -- ---- the pieces

        module _ {w : SetWords} (wq : w ≡ set_words (part_from ws head)) {p : Pieces} (pq : p ≡ pieces_of (set_of w) t) where
          pieces_known : p ≡ pieces ws register sums head c
          unfolding pieces_of
          pieces_known = pq ∙ rw (wq, part_is ws head, tally_known, set.received, set.paid, set.posted) refl

          pub pieces_known_fit : PiecesFit p
          pieces_known_fit = rw pieces_known (pieces_fit ws register sums head c)

          -- ---- what the other items add

          module _ {row filed : ℕ} (rq : pos row ≡ exposure_row sums) (fq : filed ≡ exposed_by p w.head) where
            row_known : row ≡ others_add ws register sums head c + filed
            row_known =
                let e : pos row ≡ pos (others_add ws register sums head c + exposure_of (head_of ws).bands (derivatives c.set)) = rq ∙ row_is ws register sums head c in
                let n : row ≡ others_add ws register sums head c + exposure_of (head_of ws).bands (derivatives c.set) = cc in
                let f : filed ≡ exposure_of (head_of ws).bands (derivatives c.set) = fq ∙ rw (pieces_known, wq, part_is ws head) (filed_adds ws register sums head c) in
                omega arith

            pub filed_within : filed ≤ row
            filed_within = omega (arith, row_known)

            others_known : row - filed ≡ others_add ws register sums head c
            others_known = omega (arith, row_known)

            pub each_fits : AllFit p (row - filed)
            each_fits = rw (pieces_known) (all_fit ws register sums head c others_known)

            pub settings_counted : {gain loss : ℕ} → gain ≡ (head_of ws).gain → loss ≡ (head_of ws).loss → {r : Counted} → r ≡ counts_of (verdict_by p (row - filed) gain loss)
                → r ≡ counts_of (verdict_with ws register head)
            settings_counted gq lq e = counts_are ws register sums head c others_known (e ∙ rw (gq, lq, pieces_known) refl)
