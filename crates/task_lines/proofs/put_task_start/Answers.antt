-- `task_lines::put_task_start` meets its contract: its words, one after the other. Assumes nothing.
use Rattle.buffer.proofs.PutLaws.{put_then}
use Rattle.task_lines.proofs.TaskLaws.{start_parts}
use Rattle.task_lines.proofs.put_task_start.Goals as goal

pub returns : goal.returns
returns c =
    rw start_parts
    (put_then c.put_field-a.ensures (put_then c.put_either-b.ensures c.put_either.ensures))
