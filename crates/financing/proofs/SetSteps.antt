-- A financing set by its tally: what it brings, that this fits, and what each way out of the set's function returns.
-- Assumes nothing.
use Prim.Native.Nat.{ℕ, zero, suc, ◌-◌, ◌^◌, ◌≤◌}
use mathlib.Core.Path.{◌≡◌, refl, sym, ◌∙◌, ap}
use mathlib.Core.List.{List}
use native.Mathlib.Omega.{arith}
use lib.ListN.{length}
use Rattle.rules.specs.declared.Bands.{Bands}
use Rattle.rules.specs.declared.Sums.{Sums}
use Rattle.rules.specs.Word.{word, kind_of}
use Rattle.rules.specs.Book.{FinancingTrade, Item, financing, total}
use Rattle.rules.specs.Run.{Turn, some, run_from}
use Rattle.rules.specs.Faults.{financing_set_fault}
use Rattle.rules.specs.Read.{lacks, financing_member_turn, financing_set_at, with_trades, financing_set_turn}
use Rattle.rules.specs.Weigh.{excess_of}
use Rattle.rules.proofs.Lists.{total_le_all}
use Rattle.rules.proofs.Runs.{fine_run}
use Rattle.laws.proofs.Records.{amounts_at_lem}
use Rattle.records.specs.Readable.{Readable}
use Rattle.records.specs.Sums.{item_sums}
use Rattle.records.proofs.Words.{turn_fault, turn_on}
use Rattle.laws.proofs.MemberBounds.{per_word, financing_weight, financing_total, fine_financing_member}
use Rattle.laws.proofs.Financing.{netted_at_most}
use Rattle.financing.specs.declared.tally.FinancingTally.{FinancingTally}
use Rattle.financing.specs.Netting.{NeverFall}
use Rattle.records.specs.Step.{ItemStep, item_step}
use Rattle.records.specs.Step as item
use Rattle.financing.specs.Weighing.{Weighed, whole, refused, no_tally, tally_from, weighed_to, weighed_of, trades_of, set_sums, TallyFits}
use Rattle.financing.proofs.Order.{never_fall}
use Rattle.financing.proofs.Tallies.{tally_assets, tally_lent, tally_received, tally_excess, tally_netted}

-- ---- a tally from nothing on

module _ (ts : List FinancingTrade) where
  -- what the set brings, by its tally
  sums_are : (bands : Bands) (ws : List ℕ) → NeverFall 0 ts → set_sums (tally_from no_tally ts) (word ws 0) ≡ item_sums bands (financing (financing_set_at ws ts))
  unfolding set_sums financing_set_at excess_of
  sums_are bands ws h = simp (tally_assets, tally_lent, tally_received, tally_excess, tally_netted ts h)

  light : NeverFall 0 ts → total financing_weight ts ≤ 2 ^ 61 → TallyFits (tally_from no_tally ts)
  light h l = record {
    assets = omega (
      arith,
      tally_assets ts,
      financing_total ts,
      total_le_all (λ (x : FinancingTrade). x.asset - x.securities) (λ (x : FinancingTrade). x.asset) (λ x. omega arith) ts,
    );
    netted = omega (arith, tally_netted ts h, netted_at_most ts, financing_total ts);
    lent = omega (arith, tally_lent ts, financing_total ts);
    excess = omega (
      arith,
      tally_lent ts,
      tally_excess ts,
      total_le_all (λ (x : FinancingTrade). x.lent - x.received) (λ (x : FinancingTrade). x.lent) (λ x. omega arith) ts,
    );
  }

-- ---- the set

-- what is returned, by what the trades come to
abbrev step_by : (w : ℕ) → Weighed → ItemStep
step_by w (whole t place) = item.next (set_sums t w) place
step_by w (refused number place) = item.refused number place

abbrev FitsIn : Weighed → Type 0
FitsIn (whole t place) = TallyFits t
FitsIn (refused number place) = Unit {0}

module _ (ws : List ℕ) (k : kind_of (word ws 0) ≡ 8) where
  fall : NeverFall 0 (trades_of ws).records
  fall = never_fall ws k (suc (length ws))

  module _ (r : Weighed) (rq : r ≡ weighed_of no_tally (trades_of ws)) where
    pub set_fits : Readable 1 ws → (t : FinancingTally) (next : ℕ) → r ≡ whole t next → TallyFits t
    set_fits p t next e =
        let b = fine_run (length ws) per_word financing_weight (financing_member_turn ws) (fine_financing_member ws) (suc (length ws)) 1 p.within in
        let l : total financing_weight (trades_of ws).records ≤ 2 ^ 61 = omega (arith, b.small, b.within, p.short) in
        rw (sym rq ∙ e) at (go (trades_of ws).number (trades_of ws).place (light (trades_of ws).records fall l))
      where
        go : {u : FinancingTally} (n q : ℕ) → TallyFits u → FitsIn (weighed_to u n q)
        go zero q h = h
        go (suc n) q h = tt

    module _ (bands : Bands) (f : ℕ) (fq : f ≡ financing_set_fault (word ws 0)) where
      behind : ℕ → Turn Item
      behind next = with_trades ws (run_from (financing_member_turn ws) (suc (length ws)) next)

      module _ (z : f ≡ 0) where
        step_is : step_by (word ws 0) r ≡ item_step bands (financing_set_turn ws)
        unfolding financing_set_turn lacks behind
        step_is =
            ap (step_by (word ws 0)) rq ∙ go (trades_of ws).number
            ∙ sym (ap (item_step bands) (turn_on ws 0 0 (amounts_at_lem _ k) (financing_set_fault (word ws 0)) behind refl (sym fq ∙ z)))
          where
            go : (n : ℕ) → step_by (word ws 0) (weighed_to (tally_from no_tally (trades_of ws).records) n (trades_of ws).place)
                ≡ item_step bands (some (financing (financing_set_at ws (trades_of ws).records)) n (trades_of ws).place)
            go zero = ap (λ (x : Sums). item.next x (trades_of ws).place) (sums_are (trades_of ws).records bands ws fall)
            go (suc n) = refl

        pub set_refused : (number place : ℕ) → r ≡ refused number place → item.refused number place ≡ item_step bands (financing_set_turn ws)
        set_refused number place e = ap (step_by (word ws 0)) (sym e) ∙ step_is

        pub set_whole : (t : FinancingTally) (next : ℕ) → r ≡ whole t next → (u : Sums) → u ≡ set_sums t (word ws 0) → item.next u next ≡ item_step bands (financing_set_turn ws)
        set_whole t next e u uq = ap (λ (x : Sums). item.next x next) uq ∙ ap (step_by (word ws 0)) (sym e) ∙ step_is

  pub set_faulty : (bands : Bands) (f : ℕ) → f ≡ financing_set_fault (word ws 0) → (f ≡ 0 → ⊥) → item.refused f 0 ≡ item_step bands (financing_set_turn ws)
  unfolding financing_set_turn lacks
  set_faulty bands f fq n =
      ap (λ (x : ℕ). item.refused x 0) fq ∙ sym (ap (item_step bands) (turn_fault ws 0 0 (amounts_at_lem _ k) (financing_set_fault (word ws 0)) _ refl (λ z. n (fq ∙ z))))
