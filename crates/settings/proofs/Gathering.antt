-- What the calls give of each member, of a basket that it has no fault, and the loop over all members: at every turn they come to the same. Assumes nothing.
use Prim.Native.Nat.{ℕ, ◌+◌, ◌-◌, ◌≤◌, ◌<◌, ◌^◌}
use mathlib.Core.Path.{◌≡◌, refl, sym, ◌∙◌}
use mathlib.Core.List.{List}
use native.Mathlib.Omega.{arith}
use lib.ListN.{length}
use Rattle.rules.specs.declared.Bands.{Bands}
use Rattle.rules.specs.Book.{trade}
use Rattle.rules.specs.Read.{basket_at}
use Rattle.laws.proofs.FactorBounds.{basket_add_on_lem}
use Rattle.std.specs.Prelude.{Result, Ok, Err}
use Rattle.rules.specs.declared.causes.Cause.{Cause}
use Rattle.rules.proofs.Numbers.{cause_some}
use Rattle.baskets.specs.declared.Basket.{Basket}
use Rattle.baskets.specs.Reading.{read_in, basket_cause, basket_read}
use Rattle.baskets.proofs.Reading.{Told, told}
use Rattle.weighing.specs.declared.tally.Tally.{Tally}
use Rattle.weighing.specs.declared.read.TradeWords.{TradeWords}
use Rattle.weighing.specs.declared.read.WrittenWords.{WrittenWords}
use Rattle.weighing.specs.Words.{trade_words, written_words, trade_of, written_of}
use Rattle.weighing.specs.Gathered.{plus_member, plus_written, plus_basket}
use Rattle.weighing.proofs.Layouts.{trade_laid, written_laid}
use Rattle.settings.specs.declared.members.Upto.{Upto}
use Rattle.std.specs.Prelude.{Option, Some, None}
use Rattle.settings.specs.Members.{covers_from, covered_from, from_head, tally_from, after_trade, after_credit, after_basket, SureMembers, Moved}

-- ---- a member that was read and added

module _ (ws : List ℕ) (u : Upto) {more : Tally} where
  pub trade_is : (bands : Bands) {w : TradeWords} → w ≡ trade_words ws u.at → more ≡ plus_member bands u.tally (trade (trade_of w)) → ◌≡◌ {A = Upto} (record { tally = more; at = u.at + 5 }) (after_trade bands ws u)
  trade_is bands q m = rw (m, trade_laid ws u.at q) refl

  pub credit_is : {w : WrittenWords} → w ≡ written_words ws u.at → {amount next : ℕ} → (amount ≡ covered_from ws (u.at + 6)) × (next ≡ (covers_from ws (u.at + 6)).place)
      → more ≡ plus_written u.tally (written_of w) amount → ◌≡◌ {A = Upto} (record { tally = more; at = next }) (after_credit ws u)
  credit_is q c m = rw (m, written_laid ws u.at q, c.0, c.1) refl

-- ---- a basket

module _ (ws : List ℕ) (at : ℕ) {r : Result Basket Cause} (q : read_in r ≡ basket_read ws at) where
  pub not_refused : {X : Type 0} → basket_cause ws at ≡ 0 → (cause : Cause) → r ≡ Err cause → X
  not_refused z cause e = let t : Told ws at (Err cause) = rw e at (told ws at r q) in absurd (cause_some cause (t ∙ z))

  module _ (b : Basket) (e : r ≡ Ok b) where
    is : Told ws at (Ok b)
    is = rw e at (told ws at r q)

    pub basket_small : b.add_on ≤ 2 ^ 62
    unfolding basket_at
    basket_small = omega (arith, is.1.1.0, basket_add_on_lem (basket_at ws at))

    pub basket_is : (t : Tally) {more : Tally} → more ≡ plus_basket t b.value b.add_on → ◌≡◌ {A = Upto} (record { tally = more; at = b.next }) (after_basket ws (record { tally = t; at = at }))
    basket_is t m = rw (m, is.1.0, is.1.1.0, is.1.1.1) refl

-- ---- the loop

pub record Gathering (bands : Bands) (ws : List ℕ) (u : Upto) : Type 0 where
  pub same : tally_from bands ws from_head ≡ tally_from bands ws u
  pub sure : SureMembers bands ws u

pub gathering_begins : (bands : Bands) (ws : List ℕ) → SureMembers bands ws from_head → (u : Upto) → u ≡ from_head → Gathering bands ws u
gathering_begins bands ws s u e = rw e (record { same = refl; sure = s })

module _ (bands : Bands) (ws : List ℕ) (u : Upto) (g : Gathering bands ws u) {r : Option Upto} (m : Moved bands ws u r) where
  module _ (v : Upto) (e : r ≡ Some v) where
    on : Moved bands ws u (Some v)
    on = rw e at m

    pub gathering_on : Gathering bands ws v
    gathering_on = record { same = g.same ∙ on.0; sure = on.1.0 }

    pub gathering_less : length ws - v.at < length ws - u.at
    gathering_less = omega (arith, on.1.1, on.1.0.readable.within)

  pub gathering_over : r ≡ None → u.tally ≡ tally_from bands ws from_head
  gathering_over e = let o : Moved bands ws u None = rw e at m in sym (g.same ∙ o)
