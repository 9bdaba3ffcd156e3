use mathlib.Core.Path.{refl}
use native.Mathlib.Omega.{arith}
use Rattle.leverage.proofs.export.leverage_show.Goals as goal

pub returns-in-Err : goal.returns-in-Err
returns-in-Err c =
    let e = c.in-Err.ensures in
    rw (e.0, c.without_verdict-in-Err.ensures, c.from.ensures) ((refl, (refl, omega arith)), (refl, e.1))
