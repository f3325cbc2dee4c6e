-- `writer::write_plan` meets its contract: the first fault of the table, or its text. Assumes nothing.
use Rattle.std.proofs.Common.{sym, refl}
use Rattle.std.proofs.lemmas.Result.{err_from_is_err_and}
use Rattle.table.proofs.TableLaws.{fine_legal}
use Rattle.writer.proofs.PlanLaws.{wrote_text, wrote_none}
use Rattle.writer.proofs.write_plan.Goals as goal

pub put_text-requires : goal.put_text-requires
put_text-requires c = fine_legal (sym c.in_ok-check_table.ensures)

pub returns-in_err-check_table : goal.returns-in_err-check_table
returns-in_err-check_table c =
    let p = err_from_is_err_and c.from_residual.result c.from_residual.ensures.1 in
    rw (p.1, p.2) (wrote_none c.in_err-check_table.ensures _ _ refl)

pub returns : goal.returns
returns c = wrote_text c.in_ok-check_table.ensures refl c.put_text.ensures
