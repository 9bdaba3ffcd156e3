-- A search word by word and block by block: what one word, or so many, say of what is found from there on. Assumes nothing.
use Prim.Native.Nat.{ℕ, zero, suc, ◌+◌, ◌-◌, ◌≤◌, ◌<◌, ◌^◌, min}
use mathlib.Core.Path.{◌≡◌, refl, sym, ◌∙◌, ap}
use mathlib.Core.Bool.{Bool, true, false, cond}
use mathlib.Core.List.{List, [], ◌∷◌, ◌++◌, map}
use native.Mathlib.Omega.{arith}
use native.Mathlib.Numerals.{add-one}
use native.Mathlib.Nat.{add-zero, suc-add, add-suc}
use borrow.Author.Tests.{ne_eqb, leb-true, leb-false}
use lib.Dec.{leb}
use lib.Bits.{bit_or, or_add_and, and_le_r, or_comm}
use lib.ListN.{length, get_or, take, drop, get_or-map}
use lib.Seq.{get_or-append-add, drop-cons}
use Rattle.std.specs.List.{count_by, fold}
use Rattle.std.proofs.lemmas.List.{get_or-drop, length-drop, drop-drop, take_all}
use Rattle.std.proofs.lemmas.List.Sums.{sum_by-append, sum_by-cons}
use Rattle.rules.specs.Word.{word, kind_of}
use Rattle.rules.specs.Read.{head_of}
use Rattle.cuts.proofs.Scan.{marked, scan, scan_add}
use Rattle.cuts.proofs.ByKind.{is_set}
use Rattle.sets.specs.Search.{place_from}

-- ---- so many words from a place on

module _ (test : ℕ → Bool) (ws : List ℕ) where
  -- a word that passes is found, another is not
  scan_word : (at to : ℕ) → at < to → scan test ws at (to - at) ≡ marked (test (kind_of (word ws at))) at ++ scan test ws (at + 1) (to - (at + 1))
  unfolding scan
  scan_word at to l =
      let s : to - at ≡ suc (to - suc at) = omega arith in
      rw (s, add-one at)

  pub scan_none : (at to : ℕ) → to ≤ at → scan test ws at (to - at) ≡ []
  unfolding scan
  scan_none at to l = let s : to - at ≡ 0 = omega arith in rw s

  -- where none passes none is found
  pub scan_silent : (n at : ℕ) → ((i : ℕ) → at ≤ i → i < at + n → test (kind_of (word ws i)) ≡ false) → scan test ws at n ≡ []
  unfolding scan
  scan_silent zero at f = refl
  scan_silent (suc n) at f = rw (f at (omega arith) (omega arith)) (scan_silent n (suc at) (λ i l m. f i (omega arith) (omega arith)))

  -- as many are found as pass of those words
  pub scan_counts : (n at : ℕ) → at + n ≤ length ws → length (scan test ws at n) ≡ count_by (λ w. test (kind_of w)) (take n (drop at ws))
  unfolding scan
  scan_counts zero at h = refl
  scan_counts (suc n) at h =
      rw (drop-cons ws at 0 (omega arith), sum_by-cons (λ w. cond (test (kind_of w)) 1 0) (word ws at) (take n (drop (suc at) ws))) (go (test (kind_of (word ws at))) (scan_counts n (suc at) (omega arith)))
    where
      go : (b : Bool) → length (scan test ws (suc at) n) ≡ count_by (λ w. test (kind_of w)) (take n (drop (suc at) ws))
          → length (marked b at ++ scan test ws (suc at) n) ≡ cond b 1 0 + count_by (λ w. test (kind_of w)) (take n (drop (suc at) ws))
      go true h = omega arith
      go false h = omega arith

  -- behind so many words the places count from there
  scan_behind : (k n at : ℕ) → map (λ i. k + i) (scan test (drop k ws) at n) ≡ scan test ws (k + at) n
  unfolding scan
  scan_behind k zero at = refl
  scan_behind k (suc n) at = rw (get_or-drop k ws at 0) (go (test (kind_of (word ws (k + at)))) (rw (add-suc k at) at (scan_behind k n (suc at))))
    where
      go : (b : Bool) → map (λ i. k + i) (scan test (drop k ws) (suc at) n) ≡ scan test ws (suc (k + at)) n
          → map (λ i. k + i) (marked b at ++ scan test (drop k ws) (suc at) n) ≡ marked b (k + at) ++ scan test ws (suc (k + at)) n
      go true h = ap (λ (l : List ℕ). (k + at) ∷ l) h
      go false h = h

-- ---- the place that is looked for

module _ (test : ℕ → Bool) (ws : List ℕ) where
  pub place_over : (at n : ℕ) → length ws ≤ at → place_from test ws at n ≡ length ws
  unfolding place_from
  place_over at n l = rw (scan_none test ws at (length ws) l)

  -- the word at a place passes: it is the one,
  pub place_here : (at : ℕ) → at < length ws → test (kind_of (word ws at)) ≡ true → place_from test ws at 0 ≡ at
  unfolding place_from
  place_here at l e = rw (scan_word test ws at (length ws) l, e)

  -- or one to be left behind
  pub place_passed : (at n : ℕ) → at < length ws → test (kind_of (word ws at)) ≡ true → (n ≡ 0 → ⊥) → place_from test ws at n ≡ place_from test ws (at + 1) (n - 1)
  unfolding place_from
  place_passed at zero l e z = absurd (z refl)
  place_passed at (suc n) l e z = let s : suc n - 1 ≡ n = omega arith in rw (s, scan_word test ws at (length ws) l, e)

  -- it does not pass
  pub place_other : (at n : ℕ) → at < length ws → test (kind_of (word ws at)) ≡ false → place_from test ws at n ≡ place_from test ws (at + 1) n
  unfolding place_from
  place_other at n l e = rw (scan_word test ws at (length ws) l, e)

  -- and so it is where the words behind some are a list of their own
  pub place_behind : (k n : ℕ) → k ≤ length ws → k + place_from test (drop k ws) 0 n ≡ place_from test ws k n
  unfolding place_from
  place_behind k n l =
      let s : k + (length ws - k) ≡ length ws = omega arith in
      let z : length ws - k - 0 ≡ length ws - k = omega arith in
      rw (length-drop k ws, z) (
      sym (get_or-map (λ i. k + i) (scan test (drop k ws) 0 (length ws - k)) n (length ws - k))
      ∙ ap (λ (x : List ℕ). get_or x n (k + (length ws - k))) (scan_behind test ws k (length ws - k) 0 ∙ rw (add-zero k))
      ∙ ap (get_or (scan test ws k (length ws - k)) n) s
      )

  -- A BLOCK with no more that pass than are to be left behind
  place_block : (at k n : ℕ) → at + k ≤ length ws → length (scan test ws at k) ≤ n → place_from test ws at n ≡ place_from test ws (at + k) (n - length (scan test ws at k))
  unfolding place_from
  place_block at k n l few =
      let s : length ws - at ≡ k + (length ws - (at + k)) = omega arith in
      let m : n ≡ length (scan test ws at k) + (n - length (scan test ws at k)) = omega arith in
      rw (s, scan_add test ws k (length ws - (at + k)) at)
      (ap (λ (i : ℕ). get_or (scan test ws at k ++ scan test ws (at + k) (length ws - (at + k))) i (length ws)) m
      ∙ get_or-append-add (scan test ws at k) (scan test ws (at + k) (length ws - (at + k))) (n - length (scan test ws at k)) (length ws))

  pub place_after : (at k n found : ℕ) → at + k ≤ length ws → found ≡ length (scan test ws at k) → found ≤ n → place_from test ws (at + k) (n - found) ≡ place_from test ws at n
  place_after at k n found l e few = rw e (sym (place_block at k n l (omega arith)))

  -- it lies between where the search began and the book's end
  abbrev Between : List ℕ → (n low high : ℕ) → Type 0
  Between l n low high = (low ≤ get_or l n high) × (get_or l n high ≤ high)

  nth_within : (k at n : ℕ) → Between (scan test ws at k) n at (at + k)
  unfolding scan
  nth_within zero at n = (omega arith, omega arith)
  nth_within (suc k) at n = go (test (kind_of (word ws at))) n (λ m. rw (suc-add at k, ← add-suc at k) at (nth_within k (suc at) m))
    where
      go : (b : Bool) (n : ℕ) → ((m : ℕ) → Between (scan test ws (suc at) k) m (suc at) (at + suc k)) → Between (marked b at ++ scan test ws (suc at) k) n at (at + suc k)
      go true zero h = (omega arith, omega arith)
      go true (suc n) h = (omega (arith, (h n).0), (h n).1)
      go false n h = (omega (arith, (h n).0), (h n).1)

  pub place_within : (at n : ℕ) → at ≤ length ws → (at ≤ place_from test ws at n) × (place_from test ws at n ≤ length ws)
  unfolding place_from
  place_within at n l = let s : at + (length ws - at) ≡ length ws = omega arith in rw s at (nth_within (length ws - at) at n)

-- ---- the rest of a book, from a place on

module _ (ws : List ℕ) where
  abbrev pub IsRest : List ℕ → Type 0
  IsRest rest = (length rest ≤ length ws) × (rest ≡ drop (length ws - length rest) ws)

  abbrev pub begin_of : List ℕ → ℕ
  begin_of rest = length ws - length rest

  -- it is what a slice from there on holds
  pub rest_from : (at : ℕ) (rest : List ℕ) → at ≤ length ws → rest ≡ take (length ws - at) (drop at ws) → IsRest rest × (begin_of rest ≡ at)
  rest_from at rest h e =
      let whole : rest ≡ drop at ws = e ∙ take_all (length ws - at) (drop at ws) (omega (arith, length-drop at ws)) in
      let size : length rest ≡ length ws - at = ap length whole ∙ length-drop at ws in
      let begins : length ws - length rest ≡ at = omega arith in
      ((omega arith, rw begins whole), begins)

  -- behind the words up to the end nothing is found, wherever they begin
  pub place_capped : (test : ℕ → Bool) (from at ordinal : ℕ) → at ≡ min from (length ws) → place_from test ws at ordinal ≡ place_from test ws from ordinal
  place_capped test from at ordinal e = go (leb from (length ws)) refl
    where
      go : (b : Bool) → leb from (length ws) ≡ b → place_from test ws at ordinal ≡ place_from test ws from ordinal
      go true h = let same : at ≡ from = omega (arith, leb-true from (length ws) h) in rw same refl
      go false h = let over = leb-false from (length ws) h in place_over test ws at ordinal (omega arith) ∙ sym (place_over test ws from ordinal (omega arith))

  -- and so no place lies beyond the end
  pub place_most : (test : ℕ → Bool) (from ordinal : ℕ) → place_from test ws from ordinal ≤ length ws
  place_most test from ordinal =
      let near : min from (length ws) ≤ length ws = omega arith in
      omega (arith, (place_within test ws (min from (length ws)) ordinal near).1, place_capped test from (min from (length ws)) ordinal refl)

  module _ (rest : List ℕ) (k : ℕ) (r : IsRest rest) (l : k ≤ length rest) (behind : List ℕ) (e : behind ≡ drop k rest) where
    later : length behind ≡ length rest - k
    later = ap length e ∙ length-drop k rest

    begins_later : begin_of behind ≡ begin_of rest + k
    begins_later = omega (arith, later, r.0)

    pub rest_behind : IsRest behind
    rest_behind = (omega (arith, later, r.0), e ∙ ap (drop k) r.1 ∙ drop-drop k (begin_of rest) ws ∙ ap (λ (i : ℕ). drop i ws) (sym begins_later))

    -- where no more of its first words pass than are to be left behind
    pub block_passed : (test : ℕ → Bool) (n found : ℕ) → found ≡ count_by (λ w. test (kind_of w)) (take k rest) → found ≤ n
        → place_from test ws (begin_of behind) (n - found) ≡ place_from test ws (begin_of rest) n
    block_passed test n found f few =
        let same : found ≡ length (scan test ws (begin_of rest) k) =
        f ∙ ap (λ (x : List ℕ). count_by (λ w. test (kind_of w)) (take k x)) r.1 ∙ sym (scan_counts test ws k (begin_of rest) (omega (arith, r.0))) in
        rw begins_later (place_after test ws (begin_of rest) k n found (omega (arith, r.0)) same few)

  -- what is found in it
  pub rest_place : (test : ℕ → Bool) (rest : List ℕ) (n place : ℕ) → IsRest rest → place ≡ place_from test rest 0 n → begin_of rest + place ≡ place_from test ws (begin_of rest) n
  rest_place test rest n place r e =
      rw e (ap (λ (x : List ℕ). begin_of rest + place_from test x 0 n) r.1 ∙ place_behind test ws (begin_of rest) n (omega (arith, r.0)))

-- ---- the bits of so many words

or_least : (a b : ℕ) → a ≤ bit_or a b
or_least a b = omega (arith, or_add_and a b, and_le_r a b)

-- as a number they are no less than those before
bits_least : (bits : ℕ) (ws : List ℕ) → bits ≤ fold bit_or bits ws
bits_least bits [] = omega arith
bits_least bits (w ∷ ws) = omega (arith, or_least bits w, bits_least (bit_or bits w) ws)

-- so where none passes that is no more than they are, none of the words does
pub quiet_counts : (test : ℕ → Bool) (bits : ℕ) (ws : List ℕ) → ((w : ℕ) → w ≤ fold bit_or bits ws → test (kind_of w) ≡ false) → count_by (λ w. test (kind_of w)) ws ≡ 0
quiet_counts test bits [] q = refl
quiet_counts test bits (w ∷ ws) q =
    rw (sum_by-cons (λ w. cond (test (kind_of w)) 1 0) w ws, q w (omega (arith, or_least w bits, or_comm w bits, bits_least (bit_or bits w) ws))) (omega (arith, quiet_counts test (bit_or bits w) ws q))

-- below bit 30 no word is a set's
pub no_set_below : (w bits : ℕ) → w ≤ bits → bits < 2 ^ 30 → is_set (kind_of w) ≡ false
no_set_below w bits h l = let k : kind_of w < 4 = omega arith in rw (ne_eqb (kind_of w) 4 (λ e. omega arith), ne_eqb (kind_of w) 8 (λ e. omega arith))

-- both parts of a block
pub both_quiet : (test : ℕ → Bool) (near far block : List ℕ) → near ++ far ≡ block → ((w : ℕ) → w ≤ fold bit_or 0 near → test (kind_of w) ≡ false) → ((w : ℕ) → w ≤ fold bit_or 0 far → test (kind_of w) ≡ false)
    → 0 ≡ count_by (λ w. test (kind_of w)) block
both_quiet test near far block e p q = rw (← e, sum_by-append (λ w. cond (test (kind_of w)) 1 0) near far, quiet_counts test 0 near p, quiet_counts test 0 far q) refl

-- ---- where the items begin: not far behind the head

pub few_protections : (ws : List ℕ) → (head_of ws).protections < 2 ^ 28
unfolding head_of
few_protections ws = omega arith
