-- Looking at the kinds of words one by one: which of so many words pass a test. Over the words of a record these are the first words of it
-- and of the records in it whose kinds pass, since amounts are of kind 0. Assumes nothing.
use Prim.Native.Nat.{ℕ, zero, suc, ◌+◌, ◌-◌, ◌≤◌, ◌<◌}
use mathlib.Core.Path.{◌≡◌, refl, sym, ◌∙◌, ap}
use mathlib.Core.Logic.{⊎_elim}
use mathlib.Core.Bool.{Bool, true, false}
use mathlib.Core.List.Memᴰ
use mathlib.Core.List.{List, [], ◌∷◌, ◌++◌, append_assoc, append-nil, Memᴰ}
use native.Mathlib.Omega.{arith}
use native.Mathlib.Nat.{add-zero, zero-add, suc-add, add-suc}
use lib.ListN.{drop}
use lib.Seq.{get_or-drop}
use Rattle.rules.specs.Word.{word, kind_of}
use Rattle.rules.specs.Book.{total}
use Rattle.cuts.proofs.Amounts.{amount_kind}
use Rattle.cuts.proofs.Chains.{Chain}
use Rattle.cuts.proofs.Grammar.{Whole, amounts_at}

-- a place, if a test holds
abbrev pub marked : Bool → ℕ → List ℕ
marked true at = at ∷ []
marked false at = []

-- the places of those of the n words from a place on whose kind passes a test
unfoldable pub scan : (ℕ → Bool) → List ℕ → (at n : ℕ) → List ℕ
scan test ws at zero = []
scan test ws at (suc n) = marked (test (kind_of (word ws at))) at ++ scan test ws (suc at) n

-- the places in records one after the other, by how many words each takes up
unfoldable pub along : {A : Type 0} → (A → ℕ) → (ℕ → A → List ℕ) → ℕ → List A → List ℕ
along size places at [] = []
along size places at (a ∷ l) = places at a ++ along size places (at + size a) l

module _ (test : ℕ → Bool) (ws : List ℕ) where
  -- so many words, and so many behind them
  pub scan_add : (m n at : ℕ) → scan test ws at (m + n) ≡ scan test ws at m ++ scan test ws (at + m) n
  unfolding scan
  scan_add zero n at = rw (zero-add n, add-zero at)
  scan_add (suc m) n at = rw (suc-add m n, scan_add m n (suc at), append_assoc, suc-add at m, add-suc at m)

  -- ---- in a scan is just what is scanned

  -- a word that passes is found,
  pub in_scan : (n at i : ℕ) → at ≤ i → i < at + n → test (kind_of (word ws i)) ≡ true → Memᴰ i (scan test ws at n)
  unfolding scan
  in_scan n at i h l e =
      let s : n ≡ (i - at) + suc (at + n - suc i) = omega arith in
      let p : at + (i - at) ≡ i = omega arith in
      rw (s, scan_add (i - at) (suc (at + n - suc i)) at, p, e) (Memᴰ.append_right (scan test ws at (i - at)) (Memᴰ.head refl))

  -- and what is found is a word that passes
  pub scan_in : (n at i : ℕ) → Memᴰ i (scan test ws at n) → (at ≤ i) × (i < at + n) × (test (kind_of (word ws i)) ≡ true)
  unfolding scan
  scan_in zero at i m = absurd (Memᴰ.not-nil m)
  scan_in (suc n) at i m =
      ⊎_elim
      (λ q. let s = only (test (kind_of (word ws at))) q in (omega arith, omega arith, rw s.0 s.1))
      (λ q. let s = scan_in n (suc at) i q in (omega arith, omega arith, s.2))
      (Memᴰ.append_cases (marked (test (kind_of (word ws at))) at) m)
    where
      only : (b : Bool) → Memᴰ i (marked b at) → (i ≡ at) × (b ≡ true)
      only true q = (Memᴰ.eq_of_singleton q, refl)
      only false q = absurd (Memᴰ.not-nil q)

-- ---- a record, and records one after the other, read in the words from b on: place `at` there is place x of the book

module _ (test : ℕ → Bool) (none : test 0 ≡ false) (ws : List ℕ) (b : ℕ) where
  word_at : (at x : ℕ) → x ≡ b + at → word ws x ≡ word (drop b ws) at
  word_at at x e = rw e (sym (get_or-drop b ws at 0))

  -- amounts do not pass
  amounts_scan : (n x : ℕ) → ((k : ℕ) → k < n → kind_of (word ws (x + k)) ≡ 0) → scan test ws x n ≡ []
  unfolding scan
  amounts_scan zero x k = refl
  amounts_scan (suc n) x k =
      let first : kind_of (word ws x) ≡ 0 = ap (λ (i : ℕ). kind_of (word ws i)) (sym (add-zero x)) ∙ k 0 (omega arith) in
      rw (first, none, amounts_scan n (suc x) (λ i l. ap (λ (j : ℕ). kind_of (word ws j)) (omega arith) ∙ k (suc i) (omega arith)))

  -- ONE RECORD: its head word is its only word of another kind than 0
  pub whole_scan : (kind fault at x : ℕ) → x ≡ b + at → Whole kind fault (drop b ws) at
      → scan test ws x (suc (amounts_at kind (drop b ws) at)) ≡ marked (test kind) x
  unfolding scan
  whole_scan kind fault at x e w =
      let n = amounts_at kind (drop b ws) at in
      let amounts = amounts_scan n (suc x) (λ k l. ap kind_of (word_at (at + suc k) (suc x + k) (omega arith)) ∙ amount_kind n (drop b ws) at w.amounts k l) in
      rw (word_at at x e, w.of, amounts) (append-nil (marked (test kind) x))

  -- with records behind it
  pub head_scan : (kind fault at x size : ℕ) (places : List ℕ) → x ≡ b + at → Whole kind fault (drop b ws) at
      → scan test ws (x + suc (amounts_at kind (drop b ws) at)) size ≡ places
      → scan test ws x (suc (amounts_at kind (drop b ws) at) + size) ≡ marked (test kind) x ++ places
  head_scan kind fault at x size places e w s = scan_add test ws (suc (amounts_at kind (drop b ws) at)) size x ∙ rw (whole_scan kind fault at x e w, s)

  -- A CHAIN: what is in each of its records
  pub chain_scan : {A : Type 0} {R : ℕ → A → ℕ → Type 0} (size : A → ℕ) (places : ℕ → A → List ℕ)
      → ((at : ℕ) (a : A) (next : ℕ) → R at a next → next ≡ at + size a)
      → ((at : ℕ) (a : A) (next : ℕ) → R at a next → (x : ℕ) → x ≡ b + at → scan test ws x (size a) ≡ places x a)
      → {at stop : ℕ} {l : List A} → Chain R at l stop → (x : ℕ) → x ≡ b + at → scan test ws x (total size l) ≡ along size places x l
  unfolding scan along
  chain_scan size places f g Chain.done x e = refl
  chain_scan size places f g (Chain.then {at} {next} {stop} {a} {l} r c) x e =
      scan_add test ws (size a) (total size l) x ∙ rw (g at a next r x e, chain_scan size places f g c (x + size a) (omega (arith, f at a next r)))
