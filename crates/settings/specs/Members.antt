-- The members of a set from a place of its words on, and the covers of a credit: what they come to. Assumes nothing.
use Rattle.std.specs.Prelude.{ℕ, suc, ◌+◌, ◌≤◌, ◌<◌, ◌^◌, ◌≡◌, List, [], length}
use Rattle.rules.specs.declared.Bands.{Bands}
use Rattle.rules.specs.Word.{word, names_in}
use Rattle.rules.specs.Book.{Member, trade, Cover, total}
use Rattle.rules.specs.Run.{Run, run_from}
use Rattle.rules.specs.Read.{cover_turn, trade_at, written_at, basket_at, member_turn}
use Rattle.rules.specs.Weigh.{basket_add_on}
use Rattle.records.specs.Readable.{Readable}
use Rattle.weighing.specs.declared.tally.Tally.{Tally}
use Rattle.weighing.specs.Gathered.{no_tally, plus_member, plus_written, plus_basket, plus_members, TallyRoomy}
use Rattle.settings.specs.declared.members.Upto.{Upto}
use Rattle.std.specs.Prelude.{Option, Some, None}

-- ---- covers

abbrev pub covers_from : List ℕ → ℕ → Run Cover
covers_from ws at = run_from (cover_turn ws) (suc (length ws)) at

abbrev pub covered_from : List ℕ → ℕ → ℕ
covered_from ws at = total (λ (c : Cover). c.amount) (covers_from ws at).records

-- none of them has a fault, and their sum fits
pub record SureCovers (ws : List ℕ) (at : ℕ) : Type 0 where
  pub readable : Readable at ws
  pub number : (covers_from ws at).number ≡ 0
  pub small : covered_from ws at ≤ 2 ^ 62

-- ---- members

abbrev pub members_from : List ℕ → ℕ → Run Member
members_from ws at = run_from (member_turn ws) (suc (length ws)) at

-- a tally with those from its place on
abbrev pub tally_from : Bands → List ℕ → Upto → Tally
tally_from bands ws u = plus_members bands u.tally (members_from ws u.at).records

-- behind the head and its three amounts, with nothing gathered
abbrev pub from_head : Upto
from_head = record { tally = no_tally; at = 4 }

-- ---- with the member that stands at its place

-- a trade
abbrev pub after_trade : Bands → List ℕ → Upto → Upto
after_trade bands ws u = record { tally = plus_member bands u.tally (trade (trade_at ws u.at)); at = u.at + 5 }

-- a written credit and its covers
abbrev pub after_credit : List ℕ → Upto → Upto
after_credit ws u = record {
  tally = plus_written u.tally (written_at ws u.at []) (covered_from ws (u.at + 6));
  at = (covers_from ws (u.at + 6)).place;
}

-- a basket
abbrev pub after_basket : List ℕ → Upto → Upto
after_basket ws u = record {
  tally = plus_basket u.tally (word ws (u.at + 1)) (basket_add_on (basket_at ws u.at));
  at = u.at + (names_in (word ws u.at) + 3);
}

-- ---- all of them

-- none of them has a fault, and what they come to leaves room
pub record SureMembers (bands : Bands) (ws : List ℕ) (u : Upto) : Type 0 where
  pub readable : Readable u.at ws
  pub number : (members_from ws u.at).number ≡ 0
  pub roomy : TallyRoomy (tally_from bands ws u)

-- a member more, and all of them come to the same; or there is none
abbrev pub Moved : Bands → List ℕ → Upto → Option Upto → Type 0
Moved bands ws u (Some v) = (tally_from bands ws u ≡ tally_from bands ws v) × (SureMembers bands ws v × (u.at < v.at))
Moved bands ws u None = tally_from bands ws u ≡ u.tally
