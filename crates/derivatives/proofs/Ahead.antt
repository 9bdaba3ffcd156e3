-- What lies ahead in a set, by what stands where a member or a cover is due. Assumes nothing.
use Prim.Native.Nat.{ℕ, zero, suc, ◌+◌, ◌-◌, ◌≤◌}
use mathlib.Core.Path.{◌≡◌, refl, ◌∙◌, ap}
use mathlib.Core.List.{List, [], ◌∷◌}
use native.Mathlib.Nat.{add-zero, zero-add, add_assoc}
use lib.ListN.{length}
use Rattle.rules.specs.declared.Bands.{Bands}
use Rattle.rules.specs.Word.{word, size_of}
use Rattle.rules.specs.Book.{Cover, Member, written}
use Rattle.rules.specs.Run.{Turn, over, bad, some, Run, then_run, run_from}
use Rattle.rules.specs.Read.{cover_at, cover_turn, written_at, with_covers, member_turn}
use Rattle.rules.specs.Register.{draws_from, draws_of}
use Rattle.rules.specs.Weigh.{written_add_on}
use Rattle.rules.proofs.Runs.{run_on}
use Rattle.laws.proofs.MemberBounds.{per_word, cover_weight, fine_cover, member_weight, fine_member}
use Rattle.weighing.specs.declared.tally.Tally.{Tally}
use Rattle.derivatives.specs.declared.covers.OpenCredit.{OpenCredit}
use Rattle.weighing.specs.Gathered.{plus_member}
use Rattle.derivatives.specs.Ahead.{gathered, refused, ends_with, after, members_ahead, from_member, tally_with, covers_by, covers_ahead, from_cover, draw_here, plus_cover}

module _ (bands : Bands) (ws : List ℕ) (begin : ℕ) where
  abbrev member_run : ℕ → Run Member
  member_run = run_from (member_turn ws) (suc (length ws))

  abbrev cover_run : ℕ → Run Cover
  cover_run = run_from (cover_turn ws) (suc (length ws))

  -- ---- where a member is due

  module _ (t : Tally) (at : ℕ) (h : at ≤ length ws) where
    by_member : (x : Turn Member) → member_turn ws at ≡ x → from_member bands ws begin t at ≡ members_ahead bands begin t (then_run x at member_run)
    unfolding from_member
    by_member x e =
        ap (members_ahead bands begin t)
        (run_on (length ws) per_word (member_weight bands) (member_turn ws) (fine_member bands ws) at h ∙ ap (λ (y : Turn Member). then_run y at member_run) e)

    pub member_over : member_turn ws at ≡ over → from_member bands ws begin t at ≡ ends_with (gathered t at)
    unfolding draws_of
    member_over e = by_member over e ∙ simp add-zero

    pub member_bad : (number place : ℕ) → member_turn ws at ≡ bad number place → (number ≡ 0 → ⊥) → from_member bands ws begin t at ≡ ends_with (refused number place)
    unfolding draws_of
    member_bad zero place e n = absurd (n refl)
    member_bad (suc number) place e n = by_member (bad (suc number) place) e

    -- a member without covers
    pub member_more : (x : Member) → ((ms : List Member) → draws_of begin (x ∷ ms) ≡ draws_of begin ms) → (next : ℕ) → member_turn ws at ≡ some x 0 next
        → from_member bands ws begin t at ≡ from_member bands ws begin (plus_member bands t x) next
    unfolding from_member
    member_more x plain next e = by_member (some x 0 next) e ∙ rw (plain (member_run next).records) (simp add_assoc)

    -- a written credit opens, and its covers are due
    abbrev pub opening : OpenCredit
    opening = record { place = at; covered = 0; room = size_of (word ws (at + 2)) - size_of (word ws (at + 3)) }

    same_draws : (room : ℕ) (all cs : List Cover) → draws_from begin room (written_at ws at all) cs ≡ draws_from begin room (written_at ws at []) cs
    unfolding draws_from written_at
    same_draws room all [] = refl
    same_draws room all (c ∷ cs) = rw (same_draws (room - c.amount) all cs) refl

    opens : (number : ℕ) (cs : List Cover) (place : ℕ)
        → members_ahead bands begin t (then_run (some (written (written_at ws at cs)) number place) at member_run) ≡ covers_by bands ws begin t opening number cs place
    unfolding draws_of from_member written_at written_add_on
    opens zero cs place = rw (same_draws (size_of (word ws (at + 2)) - size_of (word ws (at + 3))) cs cs) (simp (add_assoc, zero-add))
    opens (suc number) cs place = rw (same_draws (size_of (word ws (at + 2)) - size_of (word ws (at + 3))) cs cs) refl

    pub member_opens : member_turn ws at ≡ with_covers ws at (cover_run (at + 6)) → from_member bands ws begin t at ≡ from_cover bands ws begin t opening (at + 6)
    unfolding from_cover
    member_opens e =
        by_member (with_covers ws at (cover_run (at + 6))) e
        ∙ opens (cover_run (at + 6)).number (cover_run (at + 6)).records (cover_run (at + 6)).place

  -- ---- where a cover is due

  module _ (t : Tally) (c : OpenCredit) (at : ℕ) (h : at ≤ length ws) where
    by_cover : (x : Turn Cover) → cover_turn ws at ≡ x → from_cover bands ws begin t c at ≡ covers_ahead bands ws begin t c (then_run x at cover_run)
    unfolding from_cover
    by_cover x e = ap (covers_ahead bands ws begin t c) (run_on (length ws) per_word cover_weight (cover_turn ws) (fine_cover ws) at h ∙ ap (λ (y : Turn Cover). then_run y at cover_run) e)

    pub cover_over_lem : cover_turn ws at ≡ over → from_cover bands ws begin t c at ≡ from_member bands ws begin (tally_with ws t c 0) at
    unfolding draws_from
    cover_over_lem e = by_cover over e

    pub cover_bad : (number place : ℕ) → cover_turn ws at ≡ bad number place → (number ≡ 0 → ⊥) → from_cover bands ws begin t c at ≡ ends_with (refused number place)
    unfolding draws_from
    cover_bad zero place e n = absurd (n refl)
    cover_bad (suc number) place e n = by_cover (bad (suc number) place) e

    one_more : (number : ℕ) (cs : List Cover) (place : ℕ)
        → covers_by bands ws begin t c number (cover_at ws at ∷ cs) place ≡ after (draw_here ws begin at c ∷ []) (covers_by bands ws begin t (plus_cover c (size_of (word ws (at + 1)))) number cs place)
    unfolding draws_from written_at cover_at
    one_more zero cs place = simp add_assoc
    one_more (suc number) cs place = refl

    pub cover_more : (next : ℕ) → cover_turn ws at ≡ some (cover_at ws at) 0 next
        → from_cover bands ws begin t c at ≡ after (draw_here ws begin at c ∷ []) (from_cover bands ws begin t (plus_cover c (size_of (word ws (at + 1)))) next)
    unfolding from_cover
    cover_more next e = by_cover (some (cover_at ws at) 0 next) e ∙ one_more (cover_run next).number (cover_run next).records (cover_run next).place
