-- `task_lines::put_task` meets its contract: the words of a task's line, one after the other.
-- Assumes nothing.
use Rattle.buffer.proofs.PutLaws.{put_then}
use Rattle.task_lines.proofs.TaskLaws.{task_parts}
use Rattle.task_lines.proofs.put_task.Goals as goal

pub returns : goal.returns
returns c =
    rw task_parts
    (put_then c.put_task_start-a.ensures
    (put_then c.put_field-b.ensures
    (put_then c.put_field-c.ensures (put_then c.put_field-d.ensures c.put.ensures))))
