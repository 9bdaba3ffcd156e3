-- Two accepted books, the second with further covers: row 21 falls. Assumes nothing.
use Prim.Native.Nat.{ℕ, ◌-◌, ◌≤◌}
use mathlib.Core.Path.{◌≡◌}
use mathlib.Core.List.{List}
use native.Mathlib.Omega.{arith}
use lib.Dec.{le→leb}
use lib.ListN.{length}
use Rattle.rules.specs.Book.{Cover, WrittenCredit, total}
use Rattle.rules.specs.Read.{head_of}
use Rattle.laws.proofs.Filed.{filed_as}
use Rattle.cuts.specs.Further.{MoreCovers, FurtherCredit}
use Rattle.cuts.proofs.FurtherCovers.{items_by}
use Rattle.cuts.proofs.Further.{further_covers}
use Rattle.further_covers.specs.Claims.{Falls, CoveredNoLess, put_in, cover_read, FurtherCovers}
use Rattle.further_covers.proofs.Items.{items_fall}
use Rattle.further_covers.proofs.PutIn.{put_in_read}

-- further covers are no less in sum
covers_no_less : {cs ds : List Cover} → MoreCovers cs ds → total (λ (c : Cover). c.amount) cs ≤ total (λ (c : Cover). c.amount) ds
covers_no_less MoreCovers.none = omega arith
covers_no_less (MoreCovers.both p a r) = omega (arith, covers_no_less r)
covers_no_less (MoreCovers.further r) = omega (arith, covers_no_less r)

-- so a credit with further covers is covered by no less
credit_no_less : (w v : WrittenCredit) → FurtherCredit w v → CoveredNoLess w v
credit_no_less w v r = record { alike = r.alike; covered = covers_no_less r.covers }

-- what falls is no larger
no_larger : {before after units : ℕ} → Falls before after units → after ≤ before
no_larger f = omega (arith, f.at_least)

-- FURTHER COVERS: the items of the two books stand side by side, and row 21 is the sum of their exposures
pub further_falls : FurtherCovers
further_falls xs ys rows rows' register register' r e f =
    let a = filed_as xs rows register e in
    let b = filed_as ys rows' register' f in
    let g = further_covers xs ys r b.reading.head b.reading.date a.reading.number b.reading.number in
    let units = put_in_read xs ys (length rows) (length rows') (length register) (length register') r a.reading b.reading in
    let more : cover_read ys - cover_read xs ≡ put_in r = omega arith in
    let d = rw more at (items_fall (head_of ys).bands _ _ (items_by credit_no_less g.items) b.within).falls in
    record {
      no_larger = rw (a.exposure, b.exposure, g.head) (record { le = le→leb _ _ (no_larger d) });
      at_least = rw (a.exposure, b.exposure, g.head) (record { le = le→leb _ _ d.at_least });
      at_most = rw (a.exposure, b.exposure, g.head) (record { le = le→leb _ _ d.at_most });
      covers = units;
    }
