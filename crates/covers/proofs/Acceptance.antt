-- A book is accepted exactly where it is read without a fault and its covers settle, so by sums; and the order of its items is free.
-- Assumes nothing.
use mathlib.Core.Path.{refl}
use lib.ListN.{length}
use Rattle.rules.specs.Read.{head_of}
use Rattle.rules.specs.Filing.{filing}
use Rattle.laws.proofs.Accepted.{accepted_is, is_accepted}
use Rattle.covers.specs.Order.{bought_in, AcceptedInAnyOrder, AcceptedBySums, FiledInAnyOrder}
use Rattle.covers.proofs.Books.{covers_iff}
use Rattle.covers.proofs.Order.{items_any_order, same_alike, rearranged_sums}

-- by sums
pub accepted_iff : AcceptedBySums
accepted_iff ws rows entries items left =
    let c = covers_iff (bought_in ws) items left in (
      λ e. let a = accepted_is ws rows entries items left e in (a.reading, c.0 a.fits),
      λ p. is_accepted ws rows entries items left (record { reading = p.0; fits = c.1 p.1 }),
    )

-- neither acceptance nor the register hangs on the order
pub accepted_any_order : AcceptedInAnyOrder
accepted_any_order vs ws rows entries ps qs left b r s a =
    let o = items_any_order (bought_in vs) ps qs left a in (
      λ e. is_accepted ws rows entries qs left (record { reading = s; fits = rw (← b) (o.0 (accepted_is vs rows entries ps left e).fits) }),
      λ e. is_accepted vs rows entries ps left (record { reading = r; fits = o.1 (rw b (accepted_is ws rows entries qs left e).fits) }),
    )

-- the same items in another order, behind the same head and protections, are filed alike: rows, verdict and register
pub filed_any_order : FiledInAnyOrder
unfolding filing
filed_any_order vs ws rows register ps qs left h b e s p =
    let r = (accepted_is vs (length rows) (length register) ps left e).reading in
    let f = (accepted_any_order vs ws (length rows) (length register) ps qs left b r s (same_alike p)).0 e in
    rw (e, f, ← h, rearranged_sums (head_of vs).bands ps qs p) refl
