-- `changer::write_changed` meets its contract: what is left to show.
-- Assumes nothing.
use Rattle.std.proofs.Common.{refl}
use Rattle.std.proofs.lemmas.Result.{err_from_is_err_and}
use Rattle.changer.proofs.HeldLaws.{plan_given, plan_changed, plan_refused}
use Rattle.changer.proofs.write_changed.Goals as goal

pub rows_said-said-requires : goal.rows_said-said-requires
rows_said-said-requires c = (plan_given _ c.in_ok-given.ensures, refl)

pub returns : goal.returns
returns c =
    plan_changed _ c.in_ok-given.ensures _ _ c.rows_said-said.ensures c.table_in.ensures c.write_by.ensures

pub returns-in_err-given : goal.returns-in_err-given
returns-in_err-given c =
    let p = err_from_is_err_and c.from_residual.result c.from_residual.ensures.1 in
    rw (p.1, p.2) (plan_refused _ c.in_err-given.ensures)
