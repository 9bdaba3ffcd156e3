-- Block by block the rest of the book, then its words one by one. Assumes nothing.
use Prim.Native.Nat.{ℕ, ◌≤◌}
use mathlib.Core.Path.{refl, sym, ◌∙◌, ap}
use native.Mathlib.Omega.{arith}
use lib.ListN.{length}
use Rattle.std.specs.List.{count_by}
use Rattle.rules.specs.Word.{kind_of}
use Rattle.sets.specs.Search.{place_from}
use Rattle.sets.proofs.SearchLaws.{rest_from, place_capped, rest_behind, block_passed, rest_place}
use Rattle.sets.proofs.search.search_by.Goals as goal

pub loop-block-init : goal.loop-block-init
loop-block-init g c =
    let r = rest_from c.args.book.now c.min.result _ (omega (arith, c.min.ensures)) refl in
    record {
      rest = r.0;
      same = λ test t q. ap (λ (at : ℕ). place_from test c.args.book.now at c.args.ordinal) r.1 ∙ place_capped c.args.book.now test c.args.from c.min.result c.args.ordinal c.min.ensures;
    }

pub loop-block-preserved : goal.loop-block-preserved
loop-block-preserved g c =
    let i = c.loop-block.invariant in
    let k = c.in-Some.ensures.cases in
    let long : 64 ≤ length c.loop-block.rest.now = omega (arith, k.2) in
    record {
      rest = rest_behind c.args.book.now _ 64 i.rest long _ k.1;
      same = λ test t q. block_passed c.args.book.now _ 64 i.rest long _ k.1 test c.loop-block.left c.found_in-found.result
          (c.found_in-found.ensures test t q ∙ ap (count_by (λ w. test (kind_of w))) k.0) c.if-found-left.false ∙ i.same test t q;
    }

pub returns : goal.returns
returns g c test t q =
    let i = c.loop-block.invariant in
    let p = c.in_ok-at.ensures.place test t in
    (rest_place c.args.book.now test _ c.loop-block.left _ i.rest p.0 ∙ i.same test t q, omega (arith, i.rest.0, p.1))

pub returns-in_err-at : goal.returns-in_err-at
returns-in_err-at g c test t q =
    let i = c.loop-block.invariant in
    rw c.from_residual.ensures (sym (i.same test t q) ∙ sym (rest_place c.args.book.now test _ c.loop-block.left _ i.rest (sym (c.in_err-at.ensures.place test t))) ∙ omega (arith, i.rest.0))
