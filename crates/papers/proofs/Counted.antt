-- A call that counts settings: the set that it goes through, and its place. Assumes nothing.
use Prim.Native.Nat.{ℕ}
use mathlib.Core.Path.{◌≡◌, refl, sym, ◌∙◌, ap}
use mathlib.Core.Bool.{true}
use mathlib.Core.List.{List}
use native.Mathlib.Omega.{arith}
use borrow.Author.Tests.{lt-ltb}
use lib.ListN.{length}
use Rattle.rules.specs.declared.Entry.{Entry}
use Rattle.rules.specs.declared.Sums.{Sums}
use Rattle.rules.specs.Read.{head_of, stands}
use Rattle.rules.specs.Rows.{sums_of}
use Rattle.rules.specs.Filing.{Outcome, early, refused, accepted, admission}
use Rattle.laws.proofs.Accepted.{Numbered}
use Rattle.laws.proofs.Records.{stands_is}
use Rattle.reading.specs.Admission.{Admitted}
use Rattle.cuts.proofs.Cutting.{items_begin}
use Rattle.cuts.proofs.ByKind as by_kind
use Rattle.sets.specs.Sets.{Shown, showing}
use Rattle.sets.specs.Search.{place_from, found_at}
use Rattle.sets.proofs.SetLaws.{found_showing}
use Rattle.sets.proofs.ClaimsHold.{told}
use Rattle.settings.specs.Settings.{Counted, verdict_with, counts_of, counting}
use Rattle.settings.specs.Chosen.{IsAdmission, ChosenSet}
use Rattle.settings.proofs.AnswerLaws.{Found, found}

pub record OneCounted (ws : List ℕ) (ordinal : ℕ) (register : List Entry) : Type 0 where
  pub sums : Sums
  pub head : ℕ
  pub chosen : ChosenSet ws register sums head
  pub counts : counting ws ordinal register ≡ counts_of (verdict_with ws register head)
  pub begins : (showing ws ordinal (length register)).begin ≡ head

module _ (ws : List ℕ) (ordinal : ℕ) (register : List Entry) where
  -- what is found is what is shown
  shown_there : (sums : Sums) → IsAdmission ws register (Admitted sums) → (head : ℕ) → head ≡ place_from by_kind.is_set ws (items_begin ws) ordinal → stands 4 ws head ≡ true
      → (showing ws ordinal (length register)).begin ≡ head
  shown_there sums a head h s =
      let f = found_showing ws ordinal (length register) (head_of ws).bands (Admitted sums) a in
      ap (λ (x : Shown). x.begin) (sym f) ∙ ap (λ (i : ℕ). (found_at ws i).begin) (sym h) ∙ rw (lt-ltb head (length ws) (stands_is 4 ws head s).0) refl

  pub one_counted : (counting ws ordinal register).number ≡ 0 → OneCounted ws ordinal register
  unfolding counting
  one_counted z = go (admission ws (length register)) refl (told ws (length register))
    where
      by_found : (sums : Sums) → IsAdmission ws register (Admitted sums) → Found ws ordinal register sums (place_from by_kind.is_set ws (items_begin ws) ordinal) → OneCounted ws ordinal register
      by_found sums a (Found.set c e s) = record { sums = sums; head = _; chosen = c; counts = e; begins = shown_there sums a _ refl s }
      by_found sums a (Found.nothing e s) = let y : ◌≡◌ {A = ℕ} 15 0 = sym (ap (λ (x : Counted). x.number) e) ∙ z in absurd (omega arith)

      go : (o : Outcome) → admission ws (length register) ≡ o → Numbered o → OneCounted ws ordinal register
      go (early _) e (Numbered.earlies {number}) = absurd (omega (arith, rw e at z))
      go (refused _ place) e (Numbered.refusals {number}) = absurd (omega (arith, rw e at z))
      go (accepted items left) e n =
          let sums = sums_of (head_of ws).bands items in
          let a : IsAdmission ws register (Admitted sums) = rw e refl in
          by_found sums a (found ws ordinal register sums a refl refl)
