-- The claims about counts: beside a set that is shown, beside filings, and their sum. Assumes nothing.
use Prim.Native.Nat.{ℕ, zero, suc, ◌+◌, ◌≤◌, ◌<◌}
use mathlib.Core.Path.{◌≡◌, refl, sym, ◌∙◌, ap}
use mathlib.Core.Logic.{◌⊎◌, inl, inr}
use mathlib.Core.Bool.{Bool, true, false, cond}
use mathlib.Core.List.{List}
use mathlib.Core.Option.{Option, none, some}
use native.Mathlib.Omega.{arith}
use native.Mathlib.Decide.{ℕ_discrete}
use borrow.Author.Tests.{le-ltb, eq-eqb}
use lib.Dec.{eqb}
use lib.IntN.{ℤ, pos, ◌*ℤ◌}
use lib.ListN.{length, replicate, get_elem?}
use lib.Signed.{le_z}
use Rattle.rules.specs.declared.Entry.{Entry}
use Rattle.rules.specs.Word.{word, kind_of}
use Rattle.rules.specs.Book.{Item, asset, derivatives, financing, off_balance, Placed}
use Rattle.rules.specs.Weigh.{sum_below}
use Rattle.rules.specs.Ratio.{verdict_of}
use Rattle.rules.specs.Filing.{Outcome, early, refused, accepted, admission, outcome_of, filing}
use Rattle.laws.proofs.Accepted.{accepted_is, Numbered}
use Rattle.cuts.proofs.Cutting.{kind_of_item, here_kind, item_stands}
use Rattle.other_marks.specs.Marked.{settings, book_with}
use Rattle.other_marks.proofs.Books.{accepted_alike, filed_is_one}
use Rattle.sets.specs.Sets.{sets_of, showing}
use Rattle.sets.proofs.SetLaws.{nth_among}
use Rattle.sets.proofs.ClaimsHold.{told}
use Rattle.settings.specs.Settings.{verdict_with, leading, how_many, counts_of, turned_away, counted_item, counting}
use Rattle.settings.proofs.ChosenLaws.{verdict_with_lem}
use Rattle.papers.specs.Claims.{LikeShown, AsShown, count_for, EverySetting, FiledCounted, SameVerdict, SumTo64}
use Rattle.papers.proofs.Counted.{OneCounted, one_counted}

-- ---- beside a set that is shown

module _ (ws : List ℕ) (ordinal : ℕ) (register : List Entry) where
  -- a set of the items, by the kind of its first word
  derivative_there : (p : Placed) (i : Item) → p.item ≡ i → kind_of (word ws p.begin) ≡ kind_of_item i → kind_of (word ws p.begin) ≡ 4
      → counted_item ws register p.begin p.item ≡ counts_of (verdict_with ws register p.begin)
  derivative_there p (asset x) q k e = absurd (omega arith)
  derivative_there p (derivatives s) q k e = rw q refl
  derivative_there p (financing x) q k e = absurd (omega arith)
  derivative_there p (off_balance x) q k e = absurd (omega arith)

  financing_there : (p : Placed) (i : Item) → p.item ≡ i → kind_of (word ws p.begin) ≡ kind_of_item i → kind_of (word ws p.begin) ≡ 8
      → counted_item ws register p.begin p.item ≡ turned_away 15 0
  financing_there p (asset x) q k e = absurd (omega arith)
  financing_there p (derivatives s) q k e = absurd (omega arith)
  financing_there p (financing x) q k e = rw q refl
  financing_there p (off_balance x) q k e = absurd (omega arith)

  as_shown : LikeShown ws ordinal register
  unfolding counting showing outcome_of
  as_shown = go (admission ws (length register)) refl (told ws (length register))
    where
      go : (o : Outcome) → admission ws (length register) ≡ o → Numbered o → LikeShown ws ordinal register
      go (early _) e (Numbered.earlies {number}) = record {
        refusal = λ z. rw e refl;
        derivative = λ z k. absurd (omega (arith, rw e at z));
        financing = λ z k. absurd (omega (arith, rw e at z));
      }
      go (refused _ place) e (Numbered.refusals {number}) = record {
        refusal = λ z. rw e refl;
        derivative = λ z k. absurd (omega (arith, rw e at z));
        financing = λ z k. absurd (omega (arith, rw e at z));
      }
      go (accepted items left) e n = set (get_elem? (sets_of items) ordinal) refl
        where
          set : (o : Option Placed) → get_elem? (sets_of items) ordinal ≡ o → LikeShown ws ordinal register
          set none q = record {
            refusal = λ z. rw (e, q) refl;
            derivative = λ z k. absurd (omega (arith, rw (e, q) at z));
            financing = λ z k. absurd (omega (arith, rw (e, q) at z));
          }
          set (some p) q =
              let a = (accepted_is ws 22 (length register) items left e).reading in
              let m = nth_among items ordinal p q in
              let k = here_kind ws p.begin p p.end (item_stands ws a.number m.0.front p m.0.back (a.read ∙ m.0.are)).here in
              record {
                refusal = λ z. absurd (z (rw (e, q) refl));
                derivative = λ z f. rw (e, q) (derivative_there p p.item refl k (rw (e, q) at f));
                financing = λ z f. rw (e, q) (financing_there p p.item refl k (rw (e, q) at f));
              }

pub as_shown_holds : AsShown
as_shown_holds = as_shown

-- ---- a verdict

pub same_verdict : SameVerdict
unfolding filing outcome_of
same_verdict ws rows rows' register register' h h' l = rw (le-ltb (length rows) 22 h, le-ltb (length rows') 22 h', l) refl

-- ---- every setting

pub every_setting : EverySetting
unfolding filing outcome_of
every_setting ws ordinal register z rows h m l =
    let o = one_counted ws ordinal register z in
    let c = o.chosen in
    let f = accepted_alike ws 22 (length register) c.left c.front c.placed c.set c.back c.among m l in
    rw (o.begins, ← c.begins, le-ltb (length rows) 22 h, f.accepts, c.among.accepts, f.head) (refl, refl)

-- ---- the counts

-- a verdict of an accepted book
abbrev OneOfThree : ℕ → Type 0
OneOfThree v = (v ≡ 0) ⊎ (v ≡ 1) ⊎ (v ≡ 2)

three_verdicts : (tier1 exposure : ℤ) → OneOfThree (verdict_of tier1 exposure)
unfolding verdict_of
three_verdicts tier1 exposure = go (le_z exposure (pos 0)) (le_z (pos 3 *ℤ exposure) (pos 100 *ℤ tier1))
  where
    go : (a b : Bool) → OneOfThree (cond a 2 (cond b 0 1))
    go true b = inr (inr refl)
    go false true = inl refl
    go false false = inr (inl refl)

module _ (verdicts : ℕ → ℕ) where
  -- each setting is counted once
  all_counted : ((m : ℕ) → m < settings → OneOfThree (verdicts m)) → (n : ℕ) → n ≤ settings → leading verdicts 0 n + leading verdicts 1 n + leading verdicts 2 n ≡ n
  unfolding sum_below
  all_counted h zero l = refl
  all_counted h (suc n) l = go (verdicts n) (h n (omega arith)) (all_counted h n (omega arith))
    where
      go : (v : ℕ) → OneOfThree v → leading verdicts 0 n + leading verdicts 1 n + leading verdicts 2 n ≡ n
          → cond (eqb v 0) 1 0 + leading verdicts 0 n + (cond (eqb v 1) 1 0 + leading verdicts 1 n) + (cond (eqb v 2) 1 0 + leading verdicts 2 n) ≡ suc n
      go v (inl e) r = rw e (omega arith)
      go v (inr (inl e)) r = rw e (omega arith)
      go v (inr (inr e)) r = rw e (omega arith)

  -- and no setting is left out
  one_counts : (m n : ℕ) → m < n → 1 ≤ leading verdicts (verdicts m) n
  unfolding sum_below
  one_counts m zero l = absurd (omega arith)
  one_counts m (suc n) l = go (ℕ_discrete m n) (λ k. one_counts m n k)
    where
      go : Dec (m ≡ n) → (m < n → 1 ≤ leading verdicts (verdicts m) n) → 1 ≤ cond (eqb (verdicts n) (verdicts m)) 1 0 + leading verdicts (verdicts m) n
      go (yes e) r = rw (e, eq-eqb (verdicts n) (verdicts n) refl) (omega arith)
      go (no e) r = omega (arith, r (omega arith))

module _ (ws : List ℕ) (ordinal : ℕ) (register : List Entry) (z : (counting ws ordinal register).number ≡ 0) where
  o : OneCounted ws ordinal register
  o = one_counted ws ordinal register z

  verdicts_three : (m : ℕ) → m < settings → OneOfThree (verdict_with ws register o.head m)
  verdicts_three m l = rw (← verdict_with_lem ws register o.sums o.head o.chosen m l) (three_verdicts _ _)

  pub sum_to_64 : (counting ws ordinal register).met + (counting ws ordinal register).missed + (counting ws ordinal register).no_exposure ≡ 64
  unfolding how_many
  sum_to_64 = rw o.counts (all_counted (verdict_with ws register o.head) verdicts_three settings (omega arith))

  pub filed_counted : (rows : List ℤ) → 22 ≤ length rows → 1 ≤ count_for ws ordinal register (filing ws rows register).verdict
  unfolding how_many
  filed_counted rows h =
      let c = o.chosen in
      let f = filed_is_one ws 22 (length register) c.left c.front c.placed c.set c.back c.among in
      let same : book_with ws o.head f.0 ≡ ws = rw (← c.begins) f.1.1 in
      let v = verdict_with ws register o.head in
      let is : (filing ws rows register).verdict ≡ v f.0 = same_verdict ws rows (replicate 22 (pos 0)) register register h (omega arith) refl ∙ ap (λ (b : List ℕ). (filing b (replicate 22 (pos 0)) register).verdict) (sym same) in
      rw (is, o.counts) (go (v f.0) refl (verdicts_three f.0 f.1.0) (one_counts v f.0 settings f.1.0))
    where
      go : (w : ℕ) → verdict_with ws register o.head (filed_is_one ws 22 (length register) o.chosen.left o.chosen.front o.chosen.placed o.chosen.set o.chosen.back o.chosen.among).0 ≡ w → OneOfThree w
          → 1 ≤ leading (verdict_with ws register o.head) w settings
          → 1 ≤ cond (eqb w 0) (leading (verdict_with ws register o.head) 0 settings) (cond (eqb w 1) (leading (verdict_with ws register o.head) 1 settings) (leading (verdict_with ws register o.head) 2 settings))
      go w q (inl e) r = rw e (rw e at r)
      go w q (inr (inl e)) r = rw e (rw e at r)
      go w q (inr (inr e)) r = rw e (rw e at r)

pub sum_to_64_holds : SumTo64
sum_to_64_holds = sum_to_64

pub filed_counted_holds : FiledCounted
filed_counted_holds = filed_counted
