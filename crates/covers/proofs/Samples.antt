-- Samples of the laws, by computation: a book of two sets whose covers take just what is there, in several orders; the same with one too
-- much; and covers that fit nothing. Assumes nothing.
use Prim.Native.Nat.{ℕ, zero, suc, ◌≤◌, ◌<◌}
use native.Mathlib.Omega.{arith}
use lib.Dec.{lit<, lit≤}
use lib.ListN.{get_or}
use Rattle.rules.specs.declared.Entry.{Entry}
use Rattle.rules.specs.Rows.{sum_over}
use Rattle.rules.proofs.Lists.{Every}
use Rattle.laws.proofs.Each.{every_first}
use Rattle.covers.specs.Order.{Permuted, CreditAlike, MemberAlike, ItemAlike, PlacedAlike}
use mathlib.Core.Path.{◌≡◌, refl}
use mathlib.Core.Bool.{true, false}
use mathlib.Core.List.{List, [], ◌∷◌, map}
use Rattle.rules.specs.Book.{Protection, Cover, WrittenCredit, Member, written, basket, derivatives, Placed}
use Rattle.rules.specs.Faults.{cause}
use Rattle.rules.specs.Register.{blank, entry_of, draws_from, draws_of, draws_over, unfit_for, draw_fault, Settled, unfit, settled, settle}
use Rattle.covers.specs.Claims.{drawn_of, SuitsIn, CoversFit, AllCoversFit, left_by}

-- 90 of the first is available, and 50 of the second
abbrev protections : List Protection
protections = record { entity = 1; rank = 1; notional = 100; gain = 10; days = 365 } ∷ record { entity = 1; rank = 2; notional = 50; gain = 0; days = 100 } ∷ []

abbrev cover : (at protection amount : ℕ) → Cover
cover at protection amount = record { at = at; protection = protection; amount = amount }

-- of entity 1 and rank 1
abbrev credit_of : (notional loss_taken days : ℕ) → List Cover → WrittenCredit
credit_of notional loss_taken days covers = record {
  entity = 1;
  rank = 1;
  qualifying = true;
  total_return = false;
  close_out = true;
  gain = 0;
  loss = 0;
  notional = notional;
  loss_taken = loss_taken;
  days = days;
  premiums = 0;
  covers = covers;
}

abbrev credit : (notional loss_taken days : ℕ) → List Cover → Member
credit notional loss_taken days covers = written (credit_of notional loss_taken days covers)

-- of another entity or rank
abbrev another : (entity rank : ℕ) → List Cover → Member
another entity rank covers = written (record {
  entity = entity;
  rank = rank;
  qualifying = true;
  total_return = false;
  close_out = true;
  gain = 0;
  loss = 0;
  notional = 80;
  loss_taken = 20;
  days = 100;
  premiums = 0;
  covers = covers;
})

abbrev pair : Member
pair = basket (record { nth = 1; gain = 0; loss = 0; notional = 10; grades = 3 ∷ 12 ∷ [] })

abbrev set_of : (begin : ℕ) → List Member → Placed
set_of begin members = record {
  begin = begin;
  end = 0;
  item = derivatives (record {
    netting = true;
    not_segregated = false;
    daily = false;
    same_currency = false;
    full_amount = false;
    exempt = false;
    received = 0;
    paid = 0;
    posted = 0;
    members = members;
  });
}

abbrev settling : List Placed → Settled
settling items = settle (map entry_of protections) (draws_over items)

abbrev leaves : (first second : ℕ) → Settled
leaves first second = settled (record { entity = 1; rank = 1; days = 365; left = first } ∷ record { entity = 1; rank = 2; days = 100; left = second } ∷ [])

-- its covers take all 60 of its notional minus loss
abbrev one : (begin : ℕ) → Placed
one begin = set_of begin (credit 80 20 100 (cover 10 0 40 ∷ cover 12 1 20 ∷ []) ∷ [])

-- with 50, the two together take all of the first protection
abbrev two : (begin amount : ℕ) → Placed
two begin amount = set_of begin (credit 60 0 365 (cover 10 0 amount ∷ []) ∷ [])

-- the sets the other way round, an empty set or a basket between, a credit's covers turned round
in_any_order :
    map settling (
    (one 0 ∷ two 20 50 ∷ [])
    ∷ (two 0 50 ∷ one 20 ∷ [])
    ∷ (two 0 50 ∷ set_of 20 [] ∷ one 30 ∷ [])
    ∷ (set_of 0 (credit 60 0 365 (cover 10 0 50 ∷ []) ∷ pair ∷ credit 80 20 100 (cover 40 0 40 ∷ cover 42 1 20 ∷ []) ∷ []) ∷ [])
    ∷ (set_of 0 (credit 80 20 100 (cover 10 1 20 ∷ cover 12 0 40 ∷ []) ∷ []) ∷ two 20 50 ∷ [])
    ∷ []
    )
    ≡ leaves 0 30 ∷ leaves 0 30 ∷ leaves 0 30 ∷ leaves 0 30 ∷ leaves 0 30 ∷ []
unfolding cause draws_from draws_of draws_over unfit_for draw_fault settle
in_any_order = refl

-- the sums say the same
by_sums : settled (left_by (map entry_of protections) (one 0 ∷ two 20 50 ∷ [])) ≡ leaves 0 30
by_sums = refl

-- one too much of a protection, or of a credit, is refused in either order, the protection at another place
too_much :
    map settling (
    (one 0 ∷ two 20 51 ∷ [])
    ∷ (two 0 51 ∷ one 25 ∷ [])
    ∷ (set_of 0 (credit 80 21 100 (cover 10 0 40 ∷ cover 12 1 20 ∷ []) ∷ []) ∷ [])
    ∷ (set_of 0 (credit 80 21 100 (cover 10 1 20 ∷ cover 12 0 40 ∷ []) ∷ []) ∷ [])
    ∷ []
    )
    ≡ unfit 13 30 ∷ unfit 13 35 ∷ unfit 13 12 ∷ unfit 13 12 ∷ []
unfolding cause draws_from draws_of draws_over unfit_for draw_fault settle
too_much = refl

-- a day too long for the second protection, a rank too junior for the first, another entity, and a place that is not below 2
unsuited :
    map settling (
    (set_of 0 (credit 80 20 101 (cover 10 1 20 ∷ []) ∷ []) ∷ [])
    ∷ (set_of 0 (another 1 2 (cover 10 0 20 ∷ []) ∷ []) ∷ [])
    ∷ (set_of 0 (another 2 1 (cover 10 0 20 ∷ []) ∷ []) ∷ [])
    ∷ (set_of 0 (credit 80 20 100 (cover 10 2 20 ∷ []) ∷ []) ∷ [])
    ∷ []
    )
    ≡ unfit 12 10 ∷ unfit 12 10 ∷ unfit 12 10 ∷ unfit 11 10 ∷ []
unfolding cause draws_from draws_of draws_over unfit_for draw_fault settle
unsuited = refl

-- of two covers that are at fault the first is named, so that the number hangs on the order too
first_named :
    map settling (
    (set_of 0 (credit 80 20 101 (cover 10 1 20 ∷ []) ∷ []) ∷ two 20 61 ∷ [])
    ∷ (two 0 61 ∷ set_of 20 (credit 80 20 101 (cover 10 1 20 ∷ []) ∷ []) ∷ [])
    ∷ []
    )
    ≡ unfit 12 10 ∷ unfit 13 10 ∷ []
unfolding cause draws_from draws_of draws_over unfit_for draw_fault settle
first_named = refl

-- settling asks for no amount: that a cover is at least 1 is for its reading (number 8)
nothing_drawn : settling (set_of 0 (credit 80 20 100 (cover 10 0 0 ∷ []) ∷ []) ∷ []) ≡ leaves 90 50
unfolding cause draws_from draws_of draws_over unfit_for draw_fault settle
nothing_drawn = refl

-- the sums themselves: they hold of the book that settles, and of none that does not
abbrev entries : List Entry
entries = map entry_of protections

all_fit : AllCoversFit entries (one 0 ∷ two 20 50 ∷ [])
all_fit = record { each = Every.more (Every.more first Every.none) (Every.more (Every.more second Every.none) Every.none); enough = go }
  where
    suits : (place days : ℕ) → place < 2 → (get_or entries place blank).entity ≡ 1 → 1 ≤ (get_or entries place blank).rank → days ≤ (get_or entries place blank).days → SuitsIn entries place 1 1 days
    suits place days a b c d = record { below = a; same = b; junior = c; long = d }

    first : CoversFit entries (credit_of 80 20 100 (cover 10 0 40 ∷ cover 12 1 20 ∷ []))
    first = record {
      each = Every.more (suits 0 100 (lit< tt) refl (lit≤ tt) (lit≤ tt)) (Every.more (suits 1 100 (lit< tt) refl (lit≤ tt) (lit≤ tt)) Every.none);
      within = lit≤ tt;
    }

    second : CoversFit entries (credit_of 60 0 365 (cover 10 0 50 ∷ []))
    second = record { each = Every.more (suits 0 365 (lit< tt) refl (lit≤ tt) (lit≤ tt)) Every.none; within = lit≤ tt }

    go : (i : ℕ) → i < 2 → sum_over (drawn_of i) (one 0 ∷ two 20 50 ∷ []) ≤ (get_or entries i blank).left
    go zero h = lit≤ tt
    go (suc zero) h = lit≤ tt
    go (suc (suc i)) h = let z : ⊥ = omega arith in absurd z

-- 91 of 90
protection_short : AllCoversFit entries (one 0 ∷ two 20 51 ∷ []) → ⊥
protection_short c = let z : 91 ≤ 90 = c.enough 0 (lit< tt) in omega arith

-- 60 of 59
credit_short : AllCoversFit entries (set_of 0 (credit 80 21 100 (cover 10 0 40 ∷ cover 12 1 20 ∷ []) ∷ []) ∷ []) → ⊥
credit_short c =
    let m = ((every_first _ _).0 ((every_first _ _).0 c.each).0).0 in
    let z : 60 ≤ 59 = m.within in omega arith

-- a day too long
day_short : AllCoversFit entries (set_of 0 (credit 80 20 101 (cover 10 1 20 ∷ []) ∷ []) ∷ []) → ⊥
day_short c =
    let m = ((every_first _ _).0 ((every_first _ _).0 c.each).0).0 in
    let z : 101 ≤ 100 = ((every_first _ _).0 m.each).0.long in omega arith

-- the sets the other way round and a credit's covers turned round, as the law of order asks
turned : Permuted PlacedAlike (one 0 ∷ two 20 50 ∷ []) (two 0 50 ∷ set_of 20 (credit 80 20 100 (cover 10 1 20 ∷ cover 12 0 40 ∷ []) ∷ []) ∷ [])
turned = Permuted.trans Permuted.swap (Permuted.more ItemAlike.same (Permuted.more (ItemAlike.sets (Permuted.more (MemberAlike.credits covers) Permuted.none)) Permuted.none))
  where
    covers : CreditAlike (credit_of 80 20 100 (cover 10 0 40 ∷ cover 12 1 20 ∷ [])) (credit_of 80 20 100 (cover 10 1 20 ∷ cover 12 0 40 ∷ []))
    covers = record {
      entity = refl;
      rank = refl;
      days = refl;
      room = refl;
      covers = Permuted.trans Permuted.swap (Permuted.more (record { protection = refl; amount = refl }) (Permuted.more (record { protection = refl; amount = refl }) Permuted.none));
    }

-- two equal items
twice : settling (two 0 45 ∷ two 20 45 ∷ []) ≡ leaves 0 50
unfolding cause draws_from draws_of draws_over unfit_for draw_fault settle
twice = refl
