-- Each row is a difference that `signed` gave. Assumes nothing.
use Rattle.rules.proofs.Differences.{of_pos, of_minus}
use Rattle.template.proofs.Sections.{row, derivatives_are}
use Rattle.template.proofs.rows.derivative_rows.Goals as goal

pub returns : goal.returns
returns c =
    let s = c.args.s in
    rw (
      row c.signed.type_inv c.signed.ensures (of_pos s.replacement),
      row c.signed-2.type_inv c.signed-2.ensures (of_pos s.weighted),
      row c.signed-3.type_inv c.signed-3.ensures (of_pos s.posted),
      row c.signed-4.type_inv c.signed-4.ensures (of_minus s.offset),
      row c.signed-5.type_inv c.signed-5.ensures (of_minus s.exempt),
      row c.signed-6.type_inv c.signed-6.ensures (of_pos s.written),
      row c.signed-7.type_inv c.signed-7.ensures (of_minus s.covered),
      row c.signed-8.type_inv c.signed-8.ensures (derivatives_are s),
    )
