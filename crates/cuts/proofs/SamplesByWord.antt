-- The laws of places word by word, and those of parts, on the sample book: each has a conclusion that a weaker law would not give. Assumes nothing.
use Prim.Native.Nat.{ℕ}
use mathlib.Core.Path.{◌≡◌, refl, sym, ◌∙◌, ap}
use mathlib.Core.Bool.{true}
use mathlib.Core.List.{List, [], ◌∷◌, Memᴰ}
use native.Mathlib.Omega.{arith}
use lib.Dec.{lit<}
use lib.ListN.{take, drop, get_or}
use Rattle.rules.specs.Word.{word, kind_of}
use Rattle.rules.specs.Book.{Placed}
use Rattle.rules.specs.Read.{items_of}
use Rattle.cuts.proofs.Records.{NoneOf}
use Rattle.cuts.proofs.Cutting.{ItemHere, item_stands}
use Rattle.cuts.proofs.Places.{book_places, inner_places}
use Rattle.cuts.proofs.ByKind.{opens}
use Rattle.cuts.proofs.EachWord.{heads, record_there, there_record, item_next, inside_set, place_inner, inside_closed}
use Rattle.cuts.proofs.Parts.{book_parts, book_written, same_parts}
use Rattle.cuts.proofs.SampleBooks.{an_asset, a_commitment, book_with, sample}
use Rattle.cuts.proofs.Samples.{carried, the_set, computed}

-- ---- words 39 and 40 are a cover's: the first is where a record stands, the second is an amount

cover_there : Memᴰ 39 (book_places heads sample)
cover_there = record_there sample computed.read 39 (omega arith) (lit< tt) (λ e. omega arith)

amount_no_record : Memᴰ 40 (book_places heads sample) → ⊥
amount_no_record m = (there_record sample computed.read 40 m).2 refl

-- ---- the set from 19 to 43: its basket is inside at 28, no item begins there, and the next does at 43

abbrev items : List Placed
items = (items_of sample).records

here : ItemHere sample 19 the_set 43
here = rw (computed.set_begins, computed.set_ends) at (item_stands sample computed.read (take 3 items) the_set (drop 4 items) computed.around_it).here

basket_inside : Memᴰ 28 (inner_places heads 19 the_set.item)
basket_inside = inside_set sample 19 the_set 43 here 28 (omega arith) (omega arith) (λ e. omega arith)

value_not_inside : Memᴰ 29 (inner_places heads 19 the_set.item) → ⊥
value_not_inside m = let z = (place_inner sample 19 the_set 43 here heads refl 29 m).2 in let y : ◌≡◌ {A = ℕ} 0 1 = cc in omega arith

basket_opens_not : NoneOf opens sample 28
basket_opens_not = inside_closed sample 19 the_set 43 here 28 (omega arith) (omega arith)

next_opens : opens (kind_of (word sample the_set.end)) ≡ true
next_opens = item_next sample computed.read (take 3 items) the_set (drop 4 items) computed.around_it

-- ---- parts: two books with another asset are told apart by it, and the order of the items is in the words

told_apart : sample ≡ carried → ⊥
told_apart e =
    let same = sym (book_written sample computed.read) ∙ e ∙ book_written carried computed.carried_read in
    let p = (same_parts (book_parts sample computed.read) (book_parts carried computed.carried_read) same).1 in
    let z : ◌≡◌ {A = ℕ} 7 8 = ap (λ (l : List (List ℕ)). word (get_or l 1 []) 1) (sym computed.parts ∙ p ∙ computed.carried_parts) in omega arith

in_order : book_with (a_commitment ∷ an_asset 7 ∷ []) ≡ book_with (an_asset 7 ∷ a_commitment ∷ []) → ⊥
in_order e = let z = ap (λ (ws : List ℕ). kind_of (word ws 7)) e in omega arith
