-- What the set brings is added, or its fault stands in the book. Assumes nothing.
use native.Mathlib.Omega.{arith}
use Rattle.rules.specs.Read.{head_of}
use Rattle.reading.proofs.AheadLaws.{sums_roomy, more_roomy}
use Rattle.reading.proofs.ItemLaws.{met, financing_next, financing_refused}
use Rattle.reading.proofs.items.financing_at.Goals as goal

pub plus-requires : goal.plus-requires
plus-requires c =
    let o = financing_next (head_of c.args.book.now).bands (met 8 c.requires.0 c.requires.1) c.in-Ok.ensures in
    (sums_roomy c.requires.0, more_roomy c.args.s _ (sums_roomy o.sums_up_to))

pub overflow_add-result : goal.overflow_add-result
overflow_add-result c =
    let o = financing_next (head_of c.args.book.now).bands (met 8 c.requires.0 c.requires.1) c.in-Ok.ensures in
    omega (arith, o.sums_up_to.readable.within, o.sums_up_to.readable.short)

pub overflow_add-result-in-Err : goal.overflow_add-result-in-Err
overflow_add-result-in-Err c = omega (arith, (financing_refused (head_of c.args.book.now).bands (met 8 c.requires.0 c.requires.1) c.in-Err.ensures).0, c.requires.0.readable.short)

pub returns-in-Ok : goal.returns-in-Ok
returns-in-Ok c =
    let m = met 8 c.requires.0 c.requires.1 in
    let o = financing_next (head_of c.args.book.now).bands m c.in-Ok.ensures in
    rw c.plus.ensures ((λ bands. (financing_next bands m c.in-Ok.ensures).same), (o.sums_up_to, o.further))

pub returns-in-Err : goal.returns-in-Err
returns-in-Err c = ((λ bands. (financing_refused bands (met 8 c.requires.0 c.requires.1) c.in-Err.ensures).1), tt)
