-- `row_reader::load_tasks` meets its contract. The loop's invariant: the lines passed are right, and loaded.
-- Assumes nothing.
use Rattle.lines.specs.Fields.{empty_table}
use Rattle.row_reader.proofs.RowReadLaws.{RowsRead}
use Rattle.row_reader.proofs.load_tasks.Given as goal

abbrev pub invariant-loop-i : goal.invariant-loop-i
invariant-loop-i l = RowsRead l.form l.text (empty_table l.fn.head) l.given l.rows l.i
