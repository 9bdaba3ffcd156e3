-- The basket at a place: its words, its causes and its add-on are those that Read and Weigh say. Assumes nothing.
use Prim.Native.Nat.{ℕ, zero, suc, ◌+◌, ◌-◌, ◌*◌, ◌≤◌, ◌<◌}
use mathlib.Core.Path.{◌≡◌, refl, sym, ◌∙◌, ap}
use mathlib.Core.Bool.{Bool, ◌||◌, or_assoc, or_comm}
use mathlib.Core.List.{List, [], ◌∷◌, ◌++◌, map}
use Rattle.std.specs.Prelude.{Result, Ok, Err}
use native.Mathlib.Omega.{arith}
use borrow.Author.Tests.{lt-leb, ltb-false}
use lib.ListN.{length, take, drop, get_or, length-drop}
use lib.Seq.{take-suc, take-take, drop-cons, get_or-drop}
use Rattle.rules.specs.Word.{word, size_of, nth_in, names_in}
use Rattle.rules.specs.Faults.{cause, any_of, basket_fault}
use Rattle.rules.specs.Factors.{credit_factor}
use Rattle.rules.specs.Read.{lacks, grades_at, basket_at}
use Rattle.rules.specs.Weigh.{basket_add_on}
use Rattle.rules.proofs.Lists.{or_left}
use Rattle.laws.proofs.Valid.{cause_none}
use Rattle.records.proofs.Words.{lacking_short}
use Rattle.baskets.specs.declared.grades.Grades.{Grades}
use Rattle.baskets.specs.declared.read.BasketWords.{BasketWords}
use Rattle.rules.specs.declared.causes.Cause.{Cause}
use Rattle.rules.specs.Numbers.{cause_number}
use Rattle.rules.proofs.Numbers.{cause_some}
use Rattle.baskets.specs.declared.Basket.{Basket}
use Rattle.baskets.specs.Grades.{no_amount, grades_of}
use Rattle.baskets.specs.Words.{basket_words, cause_of, add_on_of}
use Rattle.baskets.specs.Reading.{Whole, Refused, read_in, basket_fault_at, basket_cause, read_by, basket_read}
use Rattle.baskets.proofs.Worst.{qualifies}
use Rattle.baskets.proofs.Causes.{any_no_amount, any_faulty_amount, any_faulty_grade}

-- ---- its words

-- those looked at behind the amounts begin with the grades
module _ (ws : List ℕ) (at n many : ℕ) where
  pub words_are : n ≡ names_in (word ws at) → n ≤ many → {g : Grades} → g ≡ grades_of (take n (take (at + 3 + many - (at + 3)) (drop (at + 3) ws)))
      → record { head = word ws at; value = word ws (at + 1); notional = word ws (at + 2); all = g.all; failing = g.failing } ≡ basket_words ws at
  words_are q l gq =
      let count : at + 3 + many - (at + 3) ≡ many = omega arith in
      rw (gq, count, take-take n many (drop (at + 3) ws) l, q)

-- ---- the cause 6: what `lacks` looks at from the last word on, the pass over the words sees from the first

any_last : (p : ℕ → Bool) (ws : List ℕ) (w : ℕ) → any_of p (ws ++ (w ∷ [])) ≡ (p w || any_of p ws)
any_last p [] w = refl
any_last p (v ∷ vs) w = ap (λ (b : Bool). p v || b) (any_last p vs w) ∙ swap (p v) (p w) (any_of p vs)
  where
    swap : (a b c : Bool) → (a || (b || c)) ≡ (b || (a || c))
    swap a b c = sym (or_assoc a b c) ∙ ap (λ (x : Bool). x || c) (or_comm a b) ∙ or_assoc b a c

module _ (ws : List ℕ) (at : ℕ) where
  lacks_any : (n : ℕ) → at + n < length ws → lacks n ws at ≡ any_of no_amount (take n (drop (suc at) ws))
  unfolding lacks
  lacks_any zero h = refl
  lacks_any (suc n) h =
      let there : get_or (drop (suc at) ws) n 0 ≡ word ws (at + suc n) = get_or-drop (suc at) ws n 0 ∙ ap (word ws) (omega arith) in
      simp (lt-leb _ _ h)
      (ap (λ (b : Bool). no_amount (word ws (at + suc n)) || b) (lacks_any n (omega arith))
      ∙ ap (λ (w : ℕ). no_amount w || any_of no_amount (take n (drop (suc at) ws))) (sym there)
      ∙ sym (any_last no_amount (take n (drop (suc at) ws)) (get_or (drop (suc at) ws) n 0))
      ∙ ap (any_of no_amount) (sym (take-suc (drop (suc at) ws) n 0 (omega (arith, length-drop (suc at) ws)))))

  behind : at + (names_in (word ws at) + 2) < length ws → take (names_in (word ws at) + 2) (drop (suc at) ws) ≡ word ws (at + 1) ∷ word ws (at + 2) ∷ grades_at ws at
  behind h =
      let two : names_in (word ws at) + 2 ≡ suc (suc (names_in (word ws at))) = omega arith in
      let value : drop (suc at) ws ≡ word ws (at + 1) ∷ drop (at + 2) ws = step 1 (suc at) (at + 2) (omega arith) (omega arith) (omega arith) in
      let notional : drop (at + 2) ws ≡ word ws (at + 2) ∷ drop (at + 3) ws = step 2 (at + 2) (at + 3) (omega arith) (omega arith) (omega arith) in
      rw (two, value, notional)
    where
      step : (k here next : ℕ) → here ≡ at + k → next ≡ suc (at + k) → at + k < length ws → drop here ws ≡ word ws (at + k) ∷ drop next ws
      step k here next p q l = rw (p, q) (drop-cons ws (at + k) 0 l)

  cause_is : at + (names_in (word ws at) + 2) < length ws → cause_of (basket_words ws at) ≡ basket_cause ws at
  unfolding cause_of basket_cause basket_fault cause
  cause_is h =
      rw (lacks_any (names_in (word ws at) + 2) h ∙ ap (any_of no_amount) (behind h), any_no_amount (grades_at ws at), any_faulty_amount (grades_at ws at), any_faulty_grade (grades_at ws at))
      (simp or_assoc)

-- ---- its add-on

least : (ws : List ℕ) (at : ℕ) → basket_fault_at ws at ≡ 0 → 1 ≤ nth_in (word ws at)
unfolding basket_fault
least ws at e =
    let a = (cause_none 6 _ _ e).1 in
    let b = (cause_none 7 _ _ a).1 in
    let names = or_left _ _ (cause_none 16 _ _ b).0 in
    ltb-false _ _ (or_left _ _ (or_left _ _ (or_left _ _ (or_left _ _ names))))

fault_none : (ws : List ℕ) (at : ℕ) → basket_cause ws at ≡ 0 → basket_fault_at ws at ≡ 0
unfolding basket_cause cause
fault_none ws at e = (cause_none 5 (lacks (names_in (word ws at) + 2) ws at) (basket_fault_at ws at) e).1

add_on_is : (ws : List ℕ) (at : ℕ) → basket_fault_at ws at ≡ 0 → add_on_of (basket_words ws at) ≡ basket_add_on (basket_at ws at)
unfolding basket_add_on basket_at
add_on_is ws at e = ap (λ (b : Bool). credit_factor b * size_of (word ws (at + 2))) (qualifies (nth_in (word ws at)) (map size_of (grades_at ws at)) (least ws at e))

-- ---- as its set takes it in

module _ (ws : List ℕ) (at n : ℕ) (q : n ≡ names_in (word ws at)) where
  pub read_short : length ws < at + (n + 3) → Refused 6 ≡ basket_read ws at
  unfolding basket_cause
  read_short h = simp (← lacking_short ws at 0 (names_in (word ws at) + 2) (omega arith) (omega arith))

  module _ (h : at + (n + 3) ≤ length ws) {b : BasketWords} (bq : b ≡ basket_words ws at) where
    here : cause_of b ≡ basket_cause ws at
    here = ap cause_of bq ∙ cause_is ws at (omega arith)

    pub read_refused : (c : Cause) → cause_number c ≡ cause_of b → Refused (cause_number c) ≡ basket_read ws at
    read_refused c fq = go (cause_number c) (cause_some c) ∙ ap (λ (x : ℕ). read_by x ws at) (fq ∙ here)
      where
        go : (g : ℕ) → (g ≡ 0 → ⊥) → Refused g ≡ read_by g ws at
        go zero k = absurd (k refl)
        go (suc g) k = refl

    pub read_whole : 0 ≡ cause_of b → {a : ℕ} → a ≡ add_on_of b → {next : ℕ} → next ≡ at + (n + 3) → Whole b.value a next ≡ basket_read ws at
    unfolding basket_cause
    read_whole z aq nq =
        rw (nq, bq, q)
        (ap (λ (a : ℕ). Whole (word ws (at + 1)) a (at + (names_in (word ws at) + 3))) (aq ∙ ap add_on_of bq ∙ add_on_is ws at (fault_none ws at (sym (z ∙ here))))
        ∙ ap (λ (x : ℕ). read_by x ws at) (z ∙ here))

-- ---- what is told by what was read

abbrev pub Told : List ℕ → ℕ → Result Basket Cause → Type 0
Told ws at (Ok b) = (basket_cause ws at ≡ 0) × ((b.value ≡ word ws (at + 1)) × ((b.add_on ≡ basket_add_on (basket_at ws at)) × (b.next ≡ at + (names_in (word ws at) + 3))))
Told ws at (Err c) = cause_number c ≡ basket_cause ws at

pub told : (ws : List ℕ) (at : ℕ) (r : Result Basket Cause) → read_in r ≡ basket_read ws at → Told ws at r
told ws at r q = go (basket_cause ws at) refl r q
  where
    go : (number : ℕ) → basket_cause ws at ≡ number → (r : Result Basket Cause) → read_in r ≡ read_by number ws at → Told ws at r
    go zero e (Ok b) p = (e, (cc, (cc, cc)))
    go zero e (Err c) p = absurd cc
    go (suc number) e (Ok b) p = absurd cc
    go (suc number) e (Err c) p = cc
