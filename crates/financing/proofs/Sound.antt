-- A financing trade without a fault, told by few tests of its words. Assumes nothing.
use Prim.Native.Nat.{ℕ, ◌+◌, ◌/◌, ◌%◌, ◌^◌, ◌≤◌, ◌<◌}
use mathlib.Core.Path.{◌≡◌, refl, ◌∙◌, ap₂}
use mathlib.Core.Bool.{Bool, true, false, not, ◌&&◌, ◌||◌, cond, and-false}
use mathlib.Core.List.{List}
use native.Mathlib.Omega.{arith}
use borrow.Author.Tests.{eq-eqb, eqb-true, lt-leb, le-leb, leb-true, lt-ltb, le-ltb, ltb-true, ltb-false, not-true, not-false}
use lib.Dec.{eqb, leb, ltb}
use lib.ListN.{length}
use Rattle.rules.specs.Word.{word, kind_of, bit_of, payload_of, size_of, faulty_amount, faulty_days}
use Rattle.rules.specs.Faults.{cause, financing_trade_fault}
use Rattle.rules.specs.Read.{lacks, financing_trade_at}
use Rattle.rules.proofs.Lists.{and_left, and_right, or_left, or_right}
use Rattle.words.proofs.Both.{as_both, plain_is}
use Rattle.records.specs.Step.{plain_amount}
use Rattle.records.proofs.Words.{none_there}
use Rattle.financing.specs.declared.read.FinancingTradeWords.{FinancingTradeWords}
use Rattle.financing.specs.Words.{financing_trade_words, financing_trade_of, odds_in, financing_trade_fault_of}
use Rattle.financing.specs.Good.{own_most, own_within, good_days, good_trade, sound_trade, PlainTrade, plain_trade_of}

-- ---- the tests one by one

days_are : (last d : ℕ) → good_days last d ≡ (eqb (kind_of d) 0 && not (faulty_days d) && not (ltb (size_of d) last))
days_are last d =
    as_both (good_days last d) (eqb (kind_of d) 0 && not (faulty_days d)) (not (ltb (size_of d) last))
    (λ e.
    let most = leb-true d 65535 (and_left (leb d 65535) (leb last d) e) in
    let least = leb-true last d (and_right (leb d 65535) (leb last d) e) in
    (simp (eq-eqb (d / 2 ^ 28) 0 (omega arith), le-ltb 65535 (d % 2 ^ 28) (omega arith)), simp (le-ltb (d % 2 ^ 27) last (omega arith))))
    (λ a b.
    let k = eqb-true (d / 2 ^ 28) 0 (and_left (eqb (kind_of d) 0) (not (faulty_days d)) a) in
    let most = ltb-false 65535 (d % 2 ^ 28) (not-true _ (and_right (eqb (kind_of d) 0) (not (faulty_days d)) a)) in
    let least = ltb-false (d % 2 ^ 27) last (not-true _ b) in
    simp (le-leb d 65535 (omega arith), le-leb last d (omega arith)))

-- the four amounts that the set has a bound for
abbrev own_plain : FinancingTradeWords → Bool
own_plain t = ltb t.asset (2 ^ 27) && ltb t.securities (2 ^ 27) && ltb t.receivable (2 ^ 27) && ltb t.payable (2 ^ 27)

module _ (t : FinancingTradeWords) where
  within_is : (most : ℕ) → own_within most t ≡ true → (t.asset ≤ most) × (t.payable ≤ most) × (t.securities + t.receivable ≤ t.asset)
  within_is most e =
      let b = and_left (leb t.asset most && leb t.payable most) _ e in
      (leb-true _ _ (and_left (leb t.asset most) _ b), leb-true _ _ (and_right (leb t.asset most) _ b), leb-true _ _ (and_right (leb t.asset most && leb t.payable most) _ e))

  is_within : (most : ℕ) → t.asset ≤ most → t.payable ≤ most → t.securities + t.receivable ≤ t.asset → own_within most t ≡ true
  is_within most a p w = simp (le-leb _ _ a, le-leb _ _ p, le-leb _ _ w)

  is_plain : t.asset < 2 ^ 27 → t.securities < 2 ^ 27 → t.receivable < 2 ^ 27 → t.payable < 2 ^ 27 → own_plain t ≡ true
  is_plain a s r p = simp (lt-ltb _ _ a, lt-ltb _ _ s, lt-ltb _ _ r, lt-ltb _ _ p)

  plain_own : own_plain t ≡ true → (t.asset < 2 ^ 27) × (t.securities < 2 ^ 27) × (t.receivable < 2 ^ 27) × (t.payable < 2 ^ 27)
  plain_own e =
      let c = and_left (ltb t.asset (2 ^ 27) && ltb t.securities (2 ^ 27) && ltb t.receivable (2 ^ 27)) _ e in
      let b = and_left (ltb t.asset (2 ^ 27) && ltb t.securities (2 ^ 27)) _ c in (
        ltb-true _ _ (and_left (ltb t.asset (2 ^ 27)) _ b),
        ltb-true _ _ (and_right (ltb t.asset (2 ^ 27)) _ b),
        ltb-true _ _ (and_right (ltb t.asset (2 ^ 27) && ltb t.securities (2 ^ 27)) _ c),
        ltb-true _ _ (and_right (ltb t.asset (2 ^ 27) && ltb t.securities (2 ^ 27) && ltb t.receivable (2 ^ 27)) _ e),
      )

  -- the two tests of cause 9
  abbrev own_sizes : ℕ
  own_sizes = size_of t.asset + size_of t.securities + size_of t.receivable + size_of t.payable

  abbrev beyond : Bool
  beyond = ltb (size_of t.asset) (size_of t.securities + size_of t.receivable)

  not_beyond : (agent : Bool) → not (odds_in agent t) ≡ true → size_of t.securities + size_of t.receivable ≤ size_of t.asset
  not_beyond agent o = ltb-false _ _ (or_left beyond _ (not-true _ o))

  own_are : (agent : Bool) → own_within (own_most agent) t ≡ (own_plain t && not (odds_in agent t))
  own_are agent = as_both (own_within (own_most agent) t) (own_plain t) (not (odds_in agent t)) (one_way agent) (other_way agent)
    where
      one_way : (b : Bool) → own_within (own_most b) t ≡ true → (own_plain t ≡ true) × (not (odds_in b t) ≡ true)
      one_way true e =
          let w = within_is 0 e in
          let none = eq-eqb own_sizes 0 (omega arith) in
          (is_plain (omega arith) (omega arith) (omega arith) (omega arith), simp (le-ltb (size_of t.asset) (size_of t.securities + size_of t.receivable) (omega arith), none))
      one_way false e =
          let w = within_is _ e in
          (is_plain (omega arith) (omega arith) (omega arith) (omega arith), simp (le-ltb (size_of t.asset) (size_of t.securities + size_of t.receivable) (omega arith)))

      other_way : (b : Bool) → own_plain t ≡ true → not (odds_in b t) ≡ true → own_within (own_most b) t ≡ true
      other_way true e o =
          let p = plain_own e in
          let w = not_beyond true o in
          let none = eqb-true own_sizes 0 (not-false _ (or_right beyond _ (not-true _ o))) in
          is_within 0 (omega arith) (omega arith) (omega arith)
      other_way false e o =
          let p = plain_own e in
          let w = not_beyond false o in
          is_within _ (omega arith) (omega arith) (omega arith)

-- ---- the words of one whose words are there

-- of their amounts, from the last on, one is none
abbrev lacking_in : FinancingTradeWords → Bool
lacking_in t =
    not (eqb (kind_of t.days) 0) || (not (eqb (kind_of t.received) 0) || (not (eqb (kind_of t.lent) 0) || (not (eqb (kind_of t.payable) 0)
    || (not (eqb (kind_of t.receivable) 0) || (not (eqb (kind_of t.securities) 0) || (not (eqb (kind_of t.asset) 0) || false))))))

trade_by_words : (agent : Bool) (last : ℕ) (t : FinancingTradeWords) → good_trade (own_most agent) last t
    ≡ (eqb (kind_of t.head) 9 && eqb (cond (lacking_in t) 6 (financing_trade_fault_of agent last t)) 0)
unfolding good_trade financing_trade_fault cause
trade_by_words agent last t =
    ap₂ (λ (d o : Bool). eqb (kind_of t.head) 9 && not (leb 2 (payload_of t.head)) && d && o && (plain_amount t.lent && plain_amount t.received)) (days_are last t.days) (own_are t agent)
    ∙ simp plain_is
    (go (eqb (kind_of t.head) 9) (leb 2 (payload_of t.head)) (eqb (kind_of t.days) 0) (faulty_days t.days) (ltb (size_of t.days) last)
    (eqb (kind_of t.asset) 0) (faulty_amount t.asset) (eqb (kind_of t.securities) 0) (faulty_amount t.securities) (eqb (kind_of t.receivable) 0) (faulty_amount t.receivable)
    (eqb (kind_of t.payable) 0) (faulty_amount t.payable) (odds_in agent t) (eqb (kind_of t.lent) 0) (faulty_amount t.lent) (eqb (kind_of t.received) 0) (faulty_amount t.received))
  where
    go : (kh ph k7 f7 o7 k1 f1 k2 f2 k3 f3 k4 f4 o k5 f5 k6 f6 : Bool)
        → (kh && not ph && (k7 && not f7 && not o7) && (k1 && not f1 && (k2 && not f2) && (k3 && not f3) && (k4 && not f4) && not o) && (k5 && not f5 && (k6 && not f6)))
        ≡ (kh && eqb (cond (not k7 || (not k6 || (not k5 || (not k4 || (not k3 || (not k2 || (not k1 || false))))))) 6
        (cond ph 7 (cond (f1 || f2 || f3 || f4 || f5 || f6 || f7) 8 (cond o 9 (cond o7 10 0))))) 0)
    go false ph k7 f7 o7 k1 f1 k2 f2 k3 f3 k4 f4 o k5 f5 k6 f6 = refl
    go true ph false f7 o7 k1 f1 k2 f2 k3 f3 k4 f4 o k5 f5 k6 f6 = simp and-false
    go true ph true f7 o7 k1 f1 k2 f2 k3 f3 k4 f4 o k5 f5 false f6 = simp and-false
    go true ph true f7 o7 k1 f1 k2 f2 k3 f3 k4 f4 o false f5 true f6 = simp and-false
    go true ph true f7 o7 k1 f1 k2 f2 k3 f3 false f4 o true f5 true f6 = simp and-false
    go true ph true f7 o7 k1 f1 k2 f2 false f3 true f4 o true f5 true f6 = simp and-false
    go true ph true f7 o7 k1 f1 false f2 true f3 true f4 o true f5 true f6 = simp and-false
    go true ph true f7 o7 false f1 true f2 true f3 true f4 o true f5 true f6 = simp and-false
    go true true true f7 o7 true f1 true f2 true f3 true f4 o true f5 true f6 = refl
    go true false true f7 o7 true true true f2 true f3 true f4 o true f5 true f6 = simp and-false
    go true false true f7 o7 true false true true true f3 true f4 o true f5 true f6 = simp and-false
    go true false true f7 o7 true false true false true true true f4 o true f5 true f6 = simp and-false
    go true false true f7 o7 true false true false true false true true o true f5 true f6 = simp and-false
    go true false true f7 o7 true false true false true false true false o true true true f6 = simp and-false
    go true false true f7 o7 true false true false true false true false o true false true true = simp and-false
    go true false true true o7 true false true false true false true false o true false true false = refl
    go true false true false o7 true false true false true false true false true true false true false = simp and-false
    go true false true false true true false true false true false true false false true false true false = refl
    go true false true false false true false true false true false true false false true false true false = refl

-- ---- a trade without a fault, at a place

module _ (ws : List ℕ) (at last : ℕ) where
  pub no_trade : length ws ≤ at + 7 → false ≡ sound_trade last ws at
  no_trade h = none_there 9 7 ws at _ (omega arith) h

  pub trade_is : at + 7 < length ws → good_trade (own_most (bit_of 1 (word ws 0))) last (financing_trade_words ws at) ≡ sound_trade last ws at
  unfolding lacks
  trade_is h =
      trade_by_words (bit_of 1 (word ws 0)) last (financing_trade_words ws at)
      ∙ simp (
        lt-ltb at (length ws) (omega arith),
        lt-leb (length ws) (at + 1) (omega arith),
        lt-leb (length ws) (at + 2) (omega arith),
        lt-leb (length ws) (at + 3) (omega arith),
        lt-leb (length ws) (at + 4) (omega arith),
        lt-leb (length ws) (at + 5) (omega arith),
        lt-leb (length ws) (at + 6) (omega arith),
        lt-leb (length ws) (at + 7) (omega arith),
      )

-- ---- what its words are

most_small : (agent : Bool) → own_most agent < 2 ^ 27
most_small true = omega arith
most_small false = omega arith

good_plain : (agent : Bool) (last : ℕ) (t : FinancingTradeWords) → good_trade (own_most agent) last t ≡ true → PlainTrade t
unfolding good_trade
good_plain agent last t e =
    let head = eqb (kind_of t.head) 9 && not (leb 2 (payload_of t.head)) in
    let three = and_left (head && good_days last t.days && own_within (own_most agent) t) _ e in
    let values = and_right (head && good_days last t.days && own_within (own_most agent) t) _ e in
    let own = within_is t (own_most agent) (and_right (head && good_days last t.days) _ three) in
    let days = leb-true t.days 65535 (and_left (leb t.days 65535) _ (and_right head _ (and_left (head && good_days last t.days) _ three))) in
    record {
      within = own.2;
      asset = omega (arith, most_small agent);
      payable = omega (arith, most_small agent);
      lent = ltb-true _ _ (plain_is t.lent ∙ and_left (plain_amount t.lent) _ values);
      received = ltb-true _ _ (plain_is t.received ∙ and_right (plain_amount t.lent) _ values);
      days = omega arith;
    }

pub sound_plain : (ws : List ℕ) (at last : ℕ) → at + 7 < length ws → sound_trade last ws at ≡ true → PlainTrade (financing_trade_words ws at)
sound_plain ws at last h e = good_plain (bit_of 1 (word ws 0)) last (financing_trade_words ws at) (trade_is ws at last h ∙ e)

own_size : (w : ℕ) → w < 2 ^ 27 → size_of w ≡ w
own_size w h = omega arith

pub plain_read : (t : FinancingTradeWords) → PlainTrade t → financing_trade_of t ≡ plain_trade_of t
unfolding financing_trade_at
plain_read t p =
    simp (
      own_size t.asset p.asset,
      own_size t.securities (omega (arith, p.within, p.asset)),
      own_size t.receivable (omega (arith, p.within, p.asset)),
      own_size t.payable p.payable,
      own_size t.lent p.lent,
      own_size t.received p.received,
      own_size t.days p.days,
    )
