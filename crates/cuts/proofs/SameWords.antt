-- Of two books, the second with covers put in: its words that are no cover's stand in the first as well, in the same order, up to the end word.
-- Assumes nothing.
use Prim.Native.Nat.{ℕ, zero, suc, ◌+◌, ◌-◌, ◌≤◌, ◌<◌}
use mathlib.Core.Path.{◌≡◌, refl, sym, ◌∙◌, ap}
use mathlib.Core.Logic.{◌⊎◌, inl, inr}
use mathlib.Core.Bool.{Bool, false, not, ◌||◌}
use mathlib.Core.List.{List, ◌∷◌}
use native.Mathlib.Omega.{arith}
use native.Mathlib.Decide.{dec_lt}
use borrow.Author.Tests.{eqb-true, not-false}
use lib.Dec.{eqb}
use lib.ListN.{drop, length-drop}
use lib.Seq.{get_or-drop, drop-drop}
use Rattle.rules.specs.Word.{word, kind_of}
use Rattle.rules.specs.Read.{first_record, head_faulty, date_faulty, lacks}
use Rattle.rules.proofs.Lists.{or_left}
use Rattle.laws.proofs.GoodHead.{good_head}
use Rattle.laws.proofs.Records.{head_word_lem}
use Rattle.cuts.proofs.Amounts.{amount_kind}
use Rattle.cuts.proofs.Chains.{Chain}
use Rattle.cuts.proofs.Grammar.{Whole, amounts_at}
use Rattle.cuts.proofs.Records.{NoneOf, is_cover}
use Rattle.cuts.proofs.Moved.{Stretch}
use Rattle.cuts.proofs.Local.{stay}
use Rattle.cuts.specs.Words.{Inserted}

-- ---- words in which the two cannot differ

-- the kinds of word in which the books may differ
abbrev pub may_differ : ℕ → Bool
may_differ kind = eqb kind 7 || eqb kind 15

-- no word of these kinds from a place up to another
abbrev pub Plain : List ℕ → ℕ → ℕ → Type 0
Plain ws from to = (at : ℕ) → from ≤ at → at < to → NoneOf may_differ ws at

-- one word
plain_one : (ws : List ℕ) (at to : ℕ) → to ≤ suc at → NoneOf may_differ ws at → Plain ws at to
plain_one ws at to k e i h l = let z : i ≡ at = omega arith in rw z e

-- words up to a place, and on from there
pub plain_append : (ws : List ℕ) (from mid to : ℕ) → Plain ws from mid → Plain ws mid to → Plain ws from to
plain_append ws from mid to p q i h l = go (dec_lt i mid)
  where
    go : Dec (i < mid) → NoneOf may_differ ws i
    go (yes k) = p i h k
    go (no k) = q i (omega arith) l

-- the amounts of a record are of none of these kinds,
amounts_plain : (n : ℕ) (ws : List ℕ) (at : ℕ) → lacks n ws at ≡ false → Plain ws (suc at) (at + suc n)
amounts_plain n ws at e i h l =
    let z : at + suc (i - suc at) ≡ i = omega arith in
    let k : kind_of (word ws i) ≡ 0 = ap (λ (j : ℕ). kind_of (word ws j)) (sym z) ∙ amount_kind n ws at e (i - suc at) (omega arith) in
    rw k

-- so no word of a whole record of another kind is,
pub whole_plain : (kind fault : ℕ) (ws : List ℕ) (at : ℕ) → Whole kind fault ws at → may_differ kind ≡ false → Plain ws at (at + suc (amounts_at kind ws at))
whole_plain kind fault ws at w d = plain_append ws at (suc at) _ (plain_one ws at _ (omega arith) (rw w.of d)) (amounts_plain (amounts_at kind ws at) ws at w.amounts)

-- nor of such records one after the other,
pub chain_plain : {A : Type 0} {R : ℕ → A → ℕ → Type 0} (ws : List ℕ) → ((at : ℕ) (a : A) (next : ℕ) → R at a next → Plain ws at next)
    → {at stop : ℕ} {l : List A} → Chain R at l stop → Plain ws at stop
chain_plain ws f Chain.done = λ i h l. let z : ⊥ = omega arith in absurd z
chain_plain ws f (Chain.then {at} {next} {stop} {a} r c) = plain_append ws at next stop (f at a next r) (chain_plain ws f c)

-- nor of a good head with a good date
pub head_plain : (ws : List ℕ) → head_faulty ws ≡ false → date_faulty ws ≡ false → Plain ws 0 first_record
unfolding date_faulty
head_plain ws e d =
    let k = good_head ws e in
    let c = eqb-true (kind_of (word ws 2)) 0 (not-false _ (or_left (not (eqb (kind_of (word ws 2)) 0)) _ d)) in
    plain_append ws 0 1 3 (plain_one ws 0 1 (omega arith) (rw k.first)) (plain_append ws 1 2 3 (plain_one ws 1 2 (omega arith) (rw k.second)) (plain_one ws 2 3 (omega arith) (rw c)))

-- ---- they are the same in both

-- so many words are the same, and behind them it goes on so
pub record SameFirst (n : ℕ) (u v : List ℕ) : Type 0 where
  pub words : Stretch stay v u 0 n
  pub rest : Inserted (drop n u) (drop n v)

-- so with the same word before both
first_more : (n a : ℕ) (u v : List ℕ) → SameFirst n u v → SameFirst (suc n) (a ∷ u) (a ∷ v)
first_more n a u v f =
    record { words = record { within = omega (arith, f.words.within); there = omega (arith, f.words.there); even = λ at k l. refl; words = equal }; rest = f.rest }
  where
    equal : (at : ℕ) → 0 ≤ at → at < suc n → word (a ∷ v) at ≡ word (a ∷ u) at
    equal zero h l = refl
    equal (suc at) h l = f.words.words at (omega arith) (omega arith)

-- the words of the second in which the two cannot differ are those of the first
pub same_first : (n : ℕ) {u v : List ℕ} → Inserted u v → Plain v 0 n → SameFirst n u v
same_first zero r p = record { words = record { within = omega arith; there = omega arith; even = λ at k l. refl; words = λ at h l. let z : ⊥ = omega arith in absurd z }; rest = r }
same_first (suc n) (Inserted.same {a} {xs} {ys} r) p = first_more n a xs ys (same_first n r (λ at h l. p (suc at) (omega arith) (omega arith)))
same_first (suc n) (Inserted.put k z r) p = let e = rw k at (p 0 (omega arith) (omega arith)) in let y : ◌≡◌ {A = ℕ} 0 1 = cc in absurd (omega arith)
same_first (suc n) (Inserted.ends k l) p = let e = rw l at (p 0 (omega arith) (omega arith)) in let y : ◌≡◌ {A = ℕ} 0 1 = cc in absurd (omega arith)

-- ---- at places of the two books

-- from i on the first and from j on the second, with covers put in
abbrev pub From : List ℕ → List ℕ → ℕ → ℕ → Type 0
From xs ys i j = Inserted (drop i xs) (drop j ys)

-- where no cover stands in the second, a word of the same kind does in the first
pub kind_beside : (xs ys : List ℕ) (i j : ℕ) → From xs ys i j → NoneOf is_cover ys j → kind_of (word xs i) ≡ kind_of (word ys j)
kind_beside xs ys i j r e = ap kind_of (sym (head_word_lem xs i)) ∙ go r (rw (head_word_lem ys j) e) ∙ ap kind_of (head_word_lem ys j)
  where
    go : {u v : List ℕ} → Inserted u v → NoneOf is_cover v 0 → kind_of (word u 0) ≡ kind_of (word v 0)
    go (Inserted.same r) e = refl
    go (Inserted.put k z r) e = let f = rw k at e in let y : ◌≡◌ {A = ℕ} 0 1 = cc in absurd (omega arith)
    go (Inserted.ends k l) e = k ∙ sym l

-- the place in the first from i on of a place in the second from j on
abbrev pub shift : ℕ → ℕ → ℕ → ℕ
shift i j at = i + (at - j)

-- so many words from j on are those from i on, and behind them it goes on so
pub record Shifted (n : ℕ) (xs ys : List ℕ) (i j : ℕ) : Type 0 where
  pub words : Stretch (shift i j) ys xs j (j + n)
  pub rest : From xs ys (i + n) (j + n)

-- the first words of what is left, as words of the whole books
first_shifted : (n : ℕ) (xs ys : List ℕ) (i j : ℕ) → SameFirst (suc n) (drop i xs) (drop j ys) → Shifted (suc n) xs ys i j
first_shifted n xs ys i j f = record {
  words = record {
    within = omega (arith, f.words.within, length-drop j ys);
    there = omega (arith, f.words.there, length-drop i xs);
    even = λ at k l. omega arith;
    words = λ at l m.
        let z : j + (at - j) ≡ at = omega arith in
        ap (word ys) (sym z) ∙ sym (get_or-drop j ys (at - j) 0) ∙ f.words.words (at - j) (omega arith) (omega arith) ∙ get_or-drop i xs (at - j) 0;
  };
  rest = rw (← drop-drop (suc n) i xs, ← drop-drop (suc n) j ys) f.rest;
}

-- a whole record of the second that is no cover stands in both
pub whole_beside : (kind fault : ℕ) (xs ys : List ℕ) (i j : ℕ) → Whole kind fault ys j → may_differ kind ≡ false → From xs ys i j → Shifted (suc (amounts_at kind ys j)) xs ys i j
whole_beside kind fault xs ys i j w d r =
    first_shifted (amounts_at kind ys j) xs ys i j
    (same_first (suc (amounts_at kind ys j)) r (λ at h l. rw (get_or-drop j ys at 0) (whole_plain kind fault ys j w d (j + at) (omega arith) (omega arith))))

-- a cover of the second stands in both, or was put in
pub cover_beside : (fault : ℕ) (xs ys : List ℕ) (i j : ℕ) → Whole 7 fault ys j → From xs ys i j → Shifted 2 xs ys i j ⊎ From xs ys i (j + 2)
cover_beside fault xs ys i j w r =
    go (cover_first r (ap kind_of (head_word_lem ys j) ∙ w.of) (rw (get_or-drop j ys 1 0) (amounts_plain 1 ys j w.amounts (j + 1) (omega arith) (omega arith))))
  where
    cover_first : {u v : List ℕ} → Inserted u v → kind_of (word v 0) ≡ 7 → NoneOf may_differ v 1 → SameFirst 2 u v ⊎ Inserted u (drop 2 v)
    cover_first (Inserted.same {a} {xs} {ys} r) k z = inl (first_more 1 a xs ys (same_first 1 r (plain_one ys 0 1 (omega arith) z)))
    cover_first (Inserted.put c d r) k z = inr r
    cover_first (Inserted.ends c d) k z = let e = sym d ∙ k in let y : ⊥ = omega arith in absurd y

    go : SameFirst 2 (drop i xs) (drop j ys) ⊎ Inserted (drop i xs) (drop 2 (drop j ys)) → Shifted 2 xs ys i j ⊎ From xs ys i (j + 2)
    go (inl f) = inl (first_shifted 1 xs ys i j f)
    go (inr p) = inr (rw (← drop-drop 2 j ys) p)
