-- `lines_writer::put_tasks` meets its contract: after i turns the lines of the first i tasks are written,
-- each into the rest of the buffer that is lent on. Assumes nothing.
use Rattle.lines_writer.proofs.LoopLaws.{Writing}
use Rattle.lines_writer.proofs.put_tasks.Given as goal

abbrev pub invariant-loop-task : goal.invariant-loop-task
invariant-loop-task l = Writing l.initial.out l.at l.fn.t l.out l.next l.task-index
