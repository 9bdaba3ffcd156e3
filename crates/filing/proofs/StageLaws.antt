-- The stages of a filing, from what each part of the code answers to the definitions. Assumes nothing.
use Prim.Native.Nat.{ℕ, ◌^◌, ◌≤◌}
use mathlib.Core.Path.{◌≡◌, refl, sym, ◌∙◌, ap}
use mathlib.Core.Bool.{Bool, true, false, cond, true≢false}
use mathlib.Core.List.{List, [], ◌∷◌, ◌++◌}
use native.Mathlib.Omega.{arith}
use borrow.Author.Tests.{ltb-false}
use lib.Dec.{eqb, ltb}
use lib.ListN.{length, drop, replicate, length-set}
use lib.Seq.{drop_at}
use Rattle.rules.specs.declared.Draw.{Draw}
use Rattle.rules.specs.declared.Entry.{Entry}
use Rattle.rules.specs.declared.causes.Cause.{Cause}
use Rattle.rules.specs.declared.causes.Refusal.{Refusal}
use Rattle.rules.specs.Numbers.{cause_number}
use Rattle.rules.proofs.Numbers.{cause_some}
use Rattle.rules.specs.Book.{Head, Placed}
use Rattle.rules.specs.Run.{Run}
use Rattle.rules.specs.Read.{first_record, head_faulty, date_faulty, head_of, items_of}
use Rattle.rules.specs.Register.{blank, draw_fault, drawn, draws_over, Settled, unfit, settled, settle}
use Rattle.rules.specs.Rows.{sums_of}
use Rattle.rules.specs.Filing.{Outcome, early, refused, accepted, judged, records_outcome, admission, register_after}
use Rattle.laws.proofs.GoodHead.{good_head}
use Rattle.laws.proofs.Settling.{settle_one, settle_none}
use Rattle.records.specs.Readable.{Readable}
use Rattle.reading.specs.Admission.{Admission}
use Rattle.reading.specs.Admission.{Admitted, Refused}
use Rattle.reading.specs.Steps.{reading_of, refused_by}
use Rattle.reading.specs.Ahead.{Ahead, records_ahead}
use Rattle.register.specs.Loading.{loaded_from}
use Rattle.register.specs.Draws.{first_fault, left_by, reading_after, left_after}
use Rattle.register.proofs.Loaded.{loaded_length}
use Rattle.filing.specs.Answers.{early_number, refused_in, admission_of}
use Rattle.filing.proofs.Loads.{records_are}

-- ---- before the records

pub refused_early : (ws : List ℕ) (entries : ℕ) (cause : Cause) → cause_number cause ≡ early_number ws entries → admission ws entries ≡ early (cause_number cause)
unfolding early_number admission
refused_early ws entries cause q = rw q (go (ltb (2 ^ 20) (length ws)) (head_faulty ws) (date_faulty ws) (ltb entries (head_of ws).protections) (λ z. cause_some cause (q ∙ z)))
  where
    go : (a b d c : Bool) → (◌≡◌ {A = ℕ} (cond a 2 (cond b 3 (cond d 16 (cond c 4 0)))) 0 → ⊥)
        → cond a (early 2) (cond b (early 3) (cond d (early 16) (cond c (early 4) (records_outcome ws)))) ≡ early (cond a 2 (cond b 3 (cond d 16 (cond c 4 0))))
    go true b d c h = refl
    go false true d c h = refl
    go false false true c h = refl
    go false false false true h = refl
    go false false false false h = absurd (h refl)

-- such a refusal, at place 0
pub refused_first : (ws : List ℕ) (ys : List Entry) (r : Refusal) → cause_number r.cause ≡ early_number ws (length ys) → r.place ≡ 0
    → (refused_by r ≡ admission_of (head_of ws).bands (admission ws (length ys))) × (ys ≡ register_after (head_of ws) (admission ws (length ys)) ys)
refused_first ws ys r q z = rw (refused_early ws (length ys) r.cause q, z) (refl, refl)

-- what is known where the records are looked at
pub record Looked (ws : List ℕ) (entries : ℕ) : Type 0 where
  pub readable : Readable first_record ws
  pub count : (head_of ws).protections ≤ 4096
  pub room : (head_of ws).protections ≤ entries
  pub outcome : admission ws entries ≡ records_outcome ws

pub looked_at_lem : (ws : List ℕ) (entries : ℕ) → 0 ≡ early_number ws entries → Looked ws entries
unfolding early_number admission
looked_at_lem ws entries q = go (ltb (2 ^ 20) (length ws)) refl (head_faulty ws) refl (date_faulty ws) refl (ltb entries (head_of ws).protections) refl (sym q)
  where
    go : (a : Bool) → ltb (2 ^ 20) (length ws) ≡ a → (b : Bool) → head_faulty ws ≡ b → (d : Bool) → date_faulty ws ≡ d → (c : Bool) → ltb entries (head_of ws).protections ≡ c
        → ◌≡◌ {A = ℕ} (cond a 2 (cond b 3 (cond d 16 (cond c 4 0)))) 0 → Looked ws entries
    go true e b f d i c g h = let o : ⊥ = omega arith in absurd o
    go false e true f d i c g h = let o : ⊥ = omega arith in absurd o
    go false e false f true i c g h = let o : ⊥ = omega arith in absurd o
    go false e false f false i true g h = let o : ⊥ = omega arith in absurd o
    go false e false f false i false g h =
        record { readable = record { within = (good_head ws f).long; short = ltb-false _ _ e }; count = (good_head ws f).few; room = ltb-false _ _ g; outcome = simp (e, f, i, g) }

-- ---- what the draws leave

left_length : (es : List Entry) (ds : List Draw) → length (left_by es ds) ≡ length es
unfolding left_by
left_length es [] = refl
left_length es (d ∷ ds) = go (eqb (draw_fault es d) 0) (left_length (drawn es d) ds ∙ length-set es _ _)
  where
    go : (x : Bool) → length (left_by (drawn es d) ds) ≡ length es → length (cond x (left_by (drawn es d) ds) es) ≡ length es
    go true h = h
    go false h = refl

-- where all fit, all of them count
left_settled : (es : List Entry) (ds : List Draw) (left : List Entry) → settle es ds ≡ settled left → left_by es ds ≡ left
unfolding left_by
left_settled es [] left e = settle_none es left e
left_settled es (d ∷ ds) left e = let s = settle_one es d ds left e in simp s.0 (left_settled (drawn es d) ds left s.1)

-- ---- the first of the two faults: that of the reading r and that of the covers s

module _ (head : Head) (r : Run Placed) where
  abbrev comes : Settled → Admission
  comes s = first_fault (reading_of head.bands r) s

  judged_is : (s : Settled) → comes s ≡ admission_of head.bands (judged r s)
  unfolding reading_of
  judged_is (unfit number place) = refl
  judged_is (settled left) = go (eqb r.number 0)
    where
      go : (x : Bool) → (cond x (Admitted (sums_of head.bands r.records)) (Refused r.number r.place))
          ≡ admission_of head.bands (cond x (accepted r.records left) (refused r.number r.place))
      go true = refl
      go false = refl

  -- the register with `es` for its first entries; and after the clearing
  module _ (es before : List Entry) where
    kept : (s : Settled) → ((left : List Entry) → s ≡ settled left → es ≡ left) → refused_in (comes s) ≡ false → es ++ drop head.protections before ≡ register_after head (judged r s) before
    unfolding reading_of
    kept (unfit number place) q e = absurd (true≢false e)
    kept (settled left) q e = rw (q left refl) (go (eqb r.number 0) e)
      where
        go : (x : Bool) → refused_in (cond x (Admitted (sums_of head.bands r.records)) (Refused r.number r.place)) ≡ false
            → left ++ drop head.protections before ≡ register_after head (cond x (accepted r.records left) (refused r.number r.place)) before
        go true e = refl
        go false e = absurd (true≢false e)

    cleared : length es ≡ head.protections → (s : Settled) → refused_in (comes s) ≡ true
        → replicate head.protections blank ++ drop head.protections (es ++ drop head.protections before) ≡ register_after head (judged r s) before
    unfolding reading_of
    cleared len s e = ap (λ (l : List Entry). replicate head.protections blank ++ l) (drop_at es (drop head.protections before) head.protections len) ∙ by_fault s e
      where
        by_fault : (s : Settled) → refused_in (comes s) ≡ true → replicate head.protections blank ++ drop head.protections before ≡ register_after head (judged r s) before
        by_fault (unfit number place) e = refl
        by_fault (settled left) e = go (eqb r.number 0) e
          where
            go : (x : Bool) → refused_in (cond x (Admitted (sums_of head.bands r.records)) (Refused r.number r.place)) ≡ true
                → replicate head.protections blank ++ drop head.protections before ≡ register_after head (cond x (accepted r.records left) (refused r.number r.place)) before
            go true e = absurd (true≢false (sym e))
            go false e = refl

-- ---- a book whose records are looked at

records_ahead_lem : (ws : List ℕ) → records_ahead ws ≡ record { reading = reading_of (head_of ws).bands (items_of ws); draws = draws_over (items_of ws).records }
unfolding records_ahead
records_ahead_lem ws = refl

module _ (ws : List ℕ) (entries : ℕ) (k : Looked ws entries) where
  abbrev b : ℕ
  b = (head_of ws).protections

  abbrev ds : List Draw
  ds = draws_over (items_of ws).records

  abbrev s : Settled
  s = settle (loaded_from ws b 0) ds

  the_outcome : admission ws entries ≡ judged (items_of ws) s
  the_outcome = k.outcome ∙ records_are ws

  the_reading : reading_after ws b ≡ comes (head_of ws) (items_of ws) s
  unfolding reading_after
  the_reading = ap (λ (a : Ahead). first_fault a.reading (settle (loaded_from ws b 0) a.draws)) (records_ahead_lem ws)

  the_entries : left_after ws b ≡ left_by (loaded_from ws b 0) ds
  unfolding left_after
  the_entries = ap (λ (a : Ahead). left_by (loaded_from ws b 0) a.draws) (records_ahead_lem ws)

  module _ (r : Admission) (rq : r ≡ reading_after ws b) where
    pub admitted : r ≡ admission_of (head_of ws).bands (admission ws entries)
    admitted = rq ∙ the_reading ∙ judged_is (head_of ws) (items_of ws) s ∙ ap (admission_of (head_of ws).bands) (sym the_outcome)

    module _ (before after : List Entry) (aq : after ≡ left_after ws b ++ drop b before) where
      after_is : after ≡ left_by (loaded_from ws b 0) ds ++ drop b before
      after_is = aq ∙ ap (λ (es : List Entry). es ++ drop b before) the_entries

      to_outcome : register_after (head_of ws) (judged (items_of ws) s) before ≡ register_after (head_of ws) (admission ws entries) before
      to_outcome = ap (λ (o : Outcome). register_after (head_of ws) o before) (sym the_outcome)

      pub register_left : refused_in r ≡ false → after ≡ register_after (head_of ws) (admission ws entries) before
      register_left e =
          after_is ∙ kept (head_of ws) (items_of ws) (left_by (loaded_from ws b 0) ds) before s (left_settled (loaded_from ws b 0) ds) (sym (ap refused_in (rq ∙ the_reading)) ∙ e) ∙ to_outcome

      pub register_cleared : refused_in r ≡ true → replicate b blank ++ drop b after ≡ register_after (head_of ws) (admission ws entries) before
      register_cleared e =
          ap (λ (l : List Entry). replicate b blank ++ drop b l) after_is
          ∙ cleared (head_of ws) (items_of ws) (left_by (loaded_from ws b 0) ds) before (left_length (loaded_from ws b 0) ds ∙ loaded_length ws b 0) s (sym (ap refused_in (rq ∙ the_reading)) ∙ e) ∙ to_outcome
