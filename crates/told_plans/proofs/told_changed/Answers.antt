-- `told_plans::told_changed` meets its contract, case by case. Assumes nothing.
use Rattle.told_plans.proofs.told_changed.Goals as goal

pub returns-in-Ok : goal.returns-in-Ok
returns-in-Ok c = rw c.in-Ok.is c.fields_of.ensures

pub returns-in-Err : goal.returns-in-Err
returns-in-Err c = rw c.in-Err.is c.fields_of-in-Err.ensures
