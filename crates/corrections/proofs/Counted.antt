-- One role for each word, record by record. Assumes nothing.
use Prim.Native.Nat.{ℕ, ◌+◌}
use mathlib.Core.Path.{◌≡◌, refl}
use mathlib.Core.Bool.{Bool}
use mathlib.Core.List.{List, [], ◌∷◌, flat_map}
use native.Mathlib.Omega.{arith}
use lib.ListN.{length, replicate, length-append, length-replicate}
use Rattle.rules.specs.Book.{Member, trade, written, basket, FinancingTrade, Item, asset, derivatives, financing, off_balance, Placed, total}
use Rattle.rules.specs.Read.{protections_of, items_of}
use Rattle.cuts.proofs.Records.{MemberRead, FinancingTradeRead}
use Rattle.cuts.proofs.Cutting.{ItemHere, book_cut}
use Rattle.cuts.proofs.Lengths.{cover_length, member_length, financing_trade_length, item_length, placed_length, chain_length, member_length_lem, financing_trade_length_lem, here_length}
use Rattle.corrections.specs.Roles.{grade, outside, Role, other, cover_roles, member_roles, financing_trade_roles, item_roles, placed_roles}
use Rattle.corrections.specs.Claims.{OneRoleEach}

-- if so many of each record, then together
flat_length : {A : Type 0} (roles : A → List Role) (size : A → ℕ) → ((a : A) → length (roles a) ≡ size a) → (l : List A) → length (flat_map roles l) ≡ total size l
unfolding flat_map
flat_length roles size h [] = refl
flat_length roles size h (a ∷ l) = omega (arith, length-append (roles a) (flat_map roles l), h a, flat_length roles size h l)

member_count : (netting : Bool) (m : Member) → length (member_roles netting m) ≡ member_length m
member_count netting (trade t) = refl
member_count netting (written w) = omega (arith, flat_length cover_roles cover_length (λ c. refl) w.covers)
member_count netting (basket b) = omega (arith, length-replicate (length b.grades) (other grade))

item_count : (i : Item) → length (item_roles i) ≡ item_length i
item_count (asset a) = refl
item_count (derivatives s) = omega (arith, flat_length (member_roles s.netting) member_length (member_count s.netting) s.members)
item_count (financing s) = omega (arith, flat_length (financing_trade_roles s.further) financing_trade_length (λ t. refl) s.trades)
item_count (off_balance o) = refl

-- so each is read up to the word behind its last role
module _ (ws : List ℕ) where
  pub member_words : (netting : Bool) (at : ℕ) (m : Member) (next : ℕ) → MemberRead ws at m next → next ≡ at + length (member_roles netting m)
  member_words netting at m next r = omega (arith, member_length_lem ws at m next r, member_count netting m)

  pub financing_trade_words_lem : (further : Bool) (at : ℕ) (t : FinancingTrade) (next : ℕ) → FinancingTradeRead ws at t next → next ≡ at + length (financing_trade_roles further t)
  financing_trade_words_lem further at t next r = financing_trade_length_lem ws at t next r

  pub placed_words : (at : ℕ) (p : Placed) (next : ℕ) → ItemHere ws at p next → next ≡ at + length (item_roles p.item)
  placed_words at p next r = omega (arith, here_length ws at p next r, item_count p.item)

-- ALL WORDS but the end
pub one_role_each : OneRoleEach
one_role_each ws e =
    let c = book_cut ws e in
    let l = flat_length placed_roles placed_length (λ p. item_count p.item) (items_of ws).records in
    let m = chain_length placed_length (here_length ws) c.items in
    omega (arith, c.end.last, c.behind, l, m, length-append (replicate (protections_of ws).place (other outside)) (flat_map placed_roles (items_of ws).records), length-replicate (protections_of ws).place (other outside))
