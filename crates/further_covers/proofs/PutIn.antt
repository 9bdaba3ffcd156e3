-- The units of cover put in are those more that are read: the amounts behind words of kind 7, summed word by word. Assumes nothing.
use Prim.Native.Nat.{ℕ, zero, suc, ◌+◌, ◌-◌, ◌≤◌, ◌<◌}
use mathlib.Core.Path.{◌≡◌, refl, sym, ◌∙◌}
use mathlib.Core.Bool.{false}
use mathlib.Core.List.{List, [], ◌∷◌}
use native.Mathlib.Omega.{arith}
use native.Mathlib.Nat.{zero-add, add-zero, add_assoc}
use lib.ListN.{length, drop, drop_of_length-le}
use lib.Seq.{drop-drop}
use Rattle.rules.specs.Word.{word, kind_of, size_of}
use Rattle.rules.specs.Book.{Cover, Item, Placed, total}
use Rattle.rules.specs.Weigh.{covers_in}
use Rattle.rules.specs.Read.{first_record, cover_at, written_at, derivative_set_at, items_of}
use Rattle.rules.proofs.Lists.{or_left}
use Rattle.laws.specs.ReadAs.{ReadAs}
use Rattle.cuts.specs.Words.{Inserted}
use Rattle.cuts.proofs.Amounts.{amount_kind}
use Rattle.cuts.proofs.Chains.{Chain}
use Rattle.cuts.proofs.Grammar.{whole_within}
use Rattle.cuts.proofs.Records.{NoneOf, is_cover, CoverRead, MemberRead, ItemRead}
use Rattle.cuts.proofs.Cutting.{ItemHere, items_begin, book_cut}
use Rattle.cuts.proofs.SameWords.{Plain, plain_append, whole_plain, chain_plain, head_plain}
use Rattle.cuts.proofs.Further.{financing_trade_plain, protection_plain}
use Rattle.further_covers.specs.Claims.{put_in, cover_in, cover_read}

-- ---- word by word

-- words whose covers, each a word of kind 7 with an amount behind it, sum up to so many units
data CoverSum : List ℕ → ℕ → Type 0 where
  none : CoverSum [] 0
  other : {w units : ℕ} {ws : List ℕ} → is_cover (kind_of w) ≡ false → CoverSum ws units → CoverSum (w ∷ ws) units
  cover : {c amount units : ℕ} {ws : List ℕ} → kind_of c ≡ 7 → kind_of amount ≡ 0 → CoverSum ws units → CoverSum (c ∷ amount ∷ ws) (size_of amount + units)

-- a word of kind 7 is not another
not_other : {X : Type 0} (w : ℕ) → is_cover (kind_of w) ≡ false → kind_of w ≡ 7 → X
not_other w e k = let f = rw k at e in let y : ◌≡◌ {A = ℕ} 0 1 = cc in absurd (omega arith)

-- so covers put in add their amounts
sums_put : {xs ys : List ℕ} {c d : ℕ} (r : Inserted xs ys) → CoverSum xs c → CoverSum ys d → d ≡ c + put_in r
sums_put (Inserted.same r) (CoverSum.other p s) (CoverSum.other q t) = sums_put r s t
sums_put (Inserted.same {a} r) (CoverSum.other p s) (CoverSum.cover k z t) = not_other a p k
sums_put (Inserted.same {a} r) (CoverSum.cover k z s) (CoverSum.other q t) = not_other a q k
sums_put (Inserted.same (Inserted.same r)) (CoverSum.cover k z s) (CoverSum.cover l y t) = omega (arith, sums_put r s t)
sums_put (Inserted.same (Inserted.put c a r)) (CoverSum.cover k z s) (CoverSum.cover l y t) = let b = sym c ∙ y in let x : ⊥ = omega arith in absurd x
sums_put (Inserted.same (Inserted.ends c d)) (CoverSum.cover k z s) (CoverSum.cover l y t) = let b = sym d ∙ y in let x : ⊥ = omega arith in absurd x
sums_put (Inserted.put {cover} k a r) s (CoverSum.other q t) = not_other cover q k
sums_put (Inserted.put k a r) s (CoverSum.cover l y t) = omega (arith, sums_put r s t)
sums_put (Inserted.ends k l) (CoverSum.other p CoverSum.none) (CoverSum.other q CoverSum.none) = refl

-- ---- what is read

-- from a place on
abbrev SumFrom : List ℕ → ℕ → ℕ → Type 0
SumFrom ws at = CoverSum (drop at ws)

-- a word that is no cover, before others; past the end there is none
from_other : (ws : List ℕ) (at : ℕ) {units : ℕ} → NoneOf is_cover ws at → SumFrom ws (suc at) units → SumFrom ws at units
from_other [] zero e s = s
from_other [] (suc at) e s = s
from_other (w ∷ ws) zero e s = CoverSum.other e s
from_other (w ∷ ws) (suc at) e s = from_other ws at e s

-- words that are none
from_plain : (ws : List ℕ) (n at to : ℕ) {units : ℕ} → at + n ≡ to → Plain ws at to → SumFrom ws to units → SumFrom ws at units
from_plain ws zero at to e p s = let z : to ≡ at = omega arith in rw z at s
from_plain ws (suc n) at to e p s =
    from_other ws at (or_left (is_cover (kind_of (word ws at))) _ (p at (omega arith) (omega arith)))
    (from_plain ws n (suc at) to (omega arith) (λ i h l. p i (omega arith) l) s)

-- a cover before others
from_cover_lem : (ws : List ℕ) (at : ℕ) {units : ℕ} → suc at < length ws → kind_of (word ws at) ≡ 7 → kind_of (word ws (suc at)) ≡ 0 → SumFrom ws (suc (suc at)) units
    → SumFrom ws at (size_of (word ws (suc at)) + units)
from_cover_lem [] at h k z s = let y : ⊥ = omega arith in absurd y
from_cover_lem (c ∷ []) at h k z s = let y : ⊥ = omega arith in absurd y
from_cover_lem (c ∷ a ∷ ws) zero h k z s = CoverSum.cover k z s
from_cover_lem (c ∷ a ∷ ws) (suc at) h k z s = from_cover_lem (a ∷ ws) at (omega arith) k z s

-- what is read has so many units of cover
abbrev Has : List ℕ → {A : Type 0} → (A → ℕ) → (ℕ → A → ℕ → Type 0) → Type 0
Has ws {A} covers R = (at : ℕ) (a : A) (next : ℕ) → R at a next → (units : ℕ) → SumFrom ws next units → SumFrom ws at (covers a + units)

-- records one after the other
chain_has : (ws : List ℕ) {A : Type 0} (covers : A → ℕ) {R : ℕ → A → ℕ → Type 0} → Has ws covers R → Has ws (total covers) (Chain R)
chain_has ws covers f at l stop Chain.done units s = rw (zero-add units) s
chain_has ws covers f at l stop (Chain.then {next} {a} {l = m} r c) units s = rw (add_assoc (covers a) (total covers m) units) (f at a next r _ (chain_has ws covers f next m stop c units s))

-- what has no words of covers has none
plain_has : (ws : List ℕ) (at to : ℕ) → at ≤ to → Plain ws at to → (units : ℕ) → SumFrom ws to units → SumFrom ws at (0 + units)
plain_has ws at to h p units s = rw (zero-add units) (from_plain ws (to - at) at to (omega arith) p s)

-- a cover
cover_has : (ws : List ℕ) → Has ws (λ (c : Cover). c.amount) (CoverRead ws)
unfolding cover_at
cover_has ws at c next (CoverRead.one w) units s =
    let e : at + 1 ≡ suc at = omega arith in
    let f : at + 2 ≡ suc (suc at) = omega arith in
    rw e (from_cover_lem ws at (omega (arith, whole_within 6 _ ws at w)) w.of (rw e at (amount_kind 1 ws at w.amounts 0 (omega arith))) (rw f at s))

-- a member
member_has : (ws : List ℕ) → Has ws covers_in (MemberRead ws)
unfolding written_at
member_has ws at m next (MemberRead.of_trade w) units s = plain_has ws at next (omega arith) (whole_plain 5 _ ws at w refl) units s
member_has ws at m next (MemberRead.of_basket w) units s = plain_has ws at next (omega arith) (whole_plain 11 _ ws at w refl) units s
member_has ws at m next (MemberRead.of_credit w cut) units s =
    from_plain ws 6 at (at + 6) refl (whole_plain 6 _ ws at w refl) (chain_has ws (λ (c : Cover). c.amount) (cover_has ws) _ _ _ cut.chain units s)

-- an item, in words of its own
item_has : (ws : List ℕ) (i : Item) (n : ℕ) → ItemRead ws i n → (units : ℕ) → SumFrom ws n units → SumFrom ws 0 (cover_in i + units)
unfolding derivative_set_at
item_has ws i n (ItemRead.of_asset w) units s = plain_has ws 0 n (omega arith) (whole_plain 2 _ ws 0 w refl) units s
item_has ws i n (ItemRead.for_off_balance w) units s = plain_has ws 0 n (omega arith) (whole_plain 10 _ ws 0 w refl) units s
item_has ws i n (ItemRead.for_financing w c) units s =
    plain_has ws 0 n (omega arith) (plain_append ws 0 1 n (whole_plain 8 _ ws 0 w refl) (chain_plain ws (financing_trade_plain ws) c.chain)) units s
item_has ws i n (ItemRead.for_derivatives w c) units s = from_plain ws 4 0 4 refl (whole_plain 4 _ ws 0 w refl) (chain_has ws covers_in (member_has ws) _ _ _ c.chain units s)

-- an item where it stands
here_has : (ws : List ℕ) → Has ws (λ (p : Placed). cover_in p.item) (ItemHere ws)
here_has ws at p next (ItemHere.here {i} {n} r) units s = item_has (drop at ws) i n r units (rw (drop-drop n at ws) s)

-- a book that is read without a fault
book_sums : (ws : List ℕ) (rows entries : ℕ) (items : List Placed) → ReadAs ws rows entries items → CoverSum ws (cover_read ws)
book_sums ws rows entries items r =
    let c = book_cut ws r.number in
    let past = drop_of_length-le ws {i = suc (items_of ws).place} (omega (arith, c.end.last)) in
    let end : SumFrom ws (items_of ws).place 0 = from_other ws (items_of ws).place (rw c.end.of) (rw past CoverSum.none) in
    let behind = chain_has ws (λ (p : Placed). cover_in p.item) (here_has ws) _ _ _ c.items 0 end in
    from_plain ws (items_begin ws) 0 (items_begin ws) (zero-add _)
    (plain_append ws 0 first_record (items_begin ws) (head_plain ws r.head r.date) (chain_plain ws (protection_plain ws) c.protections))
    (rw (add-zero (cover_read ws)) at behind)

-- THE UNITS PUT IN: of two books that are read without a fault the second has so many more
pub put_in_read : (xs ys : List ℕ) (rows rows' entries entries' : ℕ) (r : Inserted xs ys)
    → ReadAs xs rows entries (items_of xs).records → ReadAs ys rows' entries' (items_of ys).records → cover_read ys ≡ cover_read xs + put_in r
put_in_read xs ys rows rows' entries entries' r a b = sums_put r (book_sums xs rows entries _ a) (book_sums ys rows' entries' _ b)
