use mathlib.Core.Path.{sym}
use native.Mathlib.Omega.{arith}
use Rattle.reading.proofs.HeadLaws.{beyond, none_stands}
use Rattle.reading.proofs.items.item_at.Goals as goal

pub returns-then-book-at : goal.returns-then-book-at
returns-then-book-at c = ((λ bands. beyond bands c.args.book.now c.args.s c.args.at c.requires c.if-book-at.true), tt)

pub returns : goal.returns
returns c = (
  (λ bands.
      none_stands bands c.args.book.now c.args.s c.args.at c.requires (omega arith) (sym c.if-standing.ensures) (sym c.if-standing-2.ensures) (sym c.if-standing-3.ensures) (sym c.if-standing-4.ensures)
      (sym c.if-standing-5.ensures)),
  tt,
)
