-- The stages one after the other, by the laws of StageLaws. Assumes nothing.
use mathlib.Core.Path.{refl, sym, ◌∙◌}
use native.Mathlib.Omega.{arith}
use lib.ListN.{length}
use Rattle.std.proofs.lemmas.Result.{err_from_is_err_and}
use Rattle.filing.proofs.StageLaws.{refused_first, looked_at_lem, admitted, register_left, register_cleared}
use Rattle.filing.proofs.admit.admit.Goals as goal

pub returns-in_err-at_place : goal.returns-in_err-at_place
returns-in_err-at_place c =
    let e = c.in_err-at_place.ensures in
    let p = err_from_is_err_and c.from_residual.result c.from_residual.ensures.1 in
    rw (p.1, p.2) (refused_first c.args.book.now c.args.register.now _ (e.0 ∙ c.early.ensures) e.1)

pub settle-requires : goal.settle-requires
settle-requires c =
    let k = looked_at_lem c.args.book.now (length c.args.register.now) (sym c.in_ok-at_place.ensures ∙ c.early.ensures) in
    rw c.protections_of-protections.ensures (k.readable, (k.count, k.room))

pub clear-requires : goal.clear-requires
clear-requires c =
    let k = looked_at_lem c.args.book.now (length c.args.register.now) (sym c.in_ok-at_place.ensures ∙ c.early.ensures) in
    omega (arith, c.settle.auto.register, c.protections_of-protections.ensures, k.room)

pub returns-in-Ok : goal.returns-in-Ok
returns-in-Ok c =
    let ws = c.args.book.now in
    let ys = c.args.register.now in
    let k = looked_at_lem ws (length ys) (sym c.in_ok-at_place.ensures ∙ c.early.ensures) in
    let s = rw c.protections_of-protections.ensures at c.in-Ok.ensures in
    (admitted ws (length ys) k _ s.0, register_left ws (length ys) k _ s.0 ys _ s.1 refl)

pub returns-in-Err : goal.returns-in-Err
returns-in-Err c =
    let ws = c.args.book.now in
    let ys = c.args.register.now in
    let k = looked_at_lem ws (length ys) (sym c.in_ok-at_place.ensures ∙ c.early.ensures) in
    let s = rw c.protections_of-protections.ensures at c.in-Err.ensures in
    let q = rw c.protections_of-protections.ensures at c.clear.ensures in
    (admitted ws (length ys) k _ s.0, q ∙ register_cleared ws (length ys) k _ s.0 ys _ s.1 refl)
