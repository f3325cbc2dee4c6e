-- `front_reader::read_tasks` meets its contract. The loop's invariant: the lines passed are right, and
-- stored.
-- Assumes nothing.
use Rattle.lines.specs.Fields.{empty_table}
use Rattle.lines.proofs.ReadLaws.{Progress}
use Rattle.front_reader.proofs.read_tasks.Given as goal

abbrev pub invariant-loop-i : goal.invariant-loop-i
invariant-loop-i l = Progress l.form l.text (empty_table l.fn.head) l.tasks l.i
