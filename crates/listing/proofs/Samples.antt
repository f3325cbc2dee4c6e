-- Document 01's own example, and the empty input (case l): the definitions compute to the text it prints.
-- Assumes nothing.
use Rattle.std.proofs.Common.{◌≡◌, refl, [], ◌++◌}
use Rattle.base.specs.Sums.{sum_to, top_to}
use Rattle.base.specs.Least.{least, first_from}
use Rattle.model.specs.Bound.{
  work_in,
  W,
  E,
  share,
  block,
  from,
  cap,
  share_of,
  block_of,
  B,
  satisfies,
  least_length,
  bound,
}
use Rattle.base.specs.Rows.{list_from, row}
use Rattle.model.specs.Forcing.{test, lowest, lacks, lacking, made, run, force}
use Rattle.table.specs.Table.{flags_of}
use Rattle.table.specs.Checks.{head_fault, task_fault}
use Rattle.frames.specs.Digits.{digit_of, byte_at, word_at, all_digits}
use Rattle.frames.specs.Frames.{frame_fault}
use Rattle.lines.specs.Form.{line_start}
use Rattle.lines.specs.Fields.{head_of, task_of, head_line_fault, task_line_fault}
use Rattle.lines.specs.Reads.{with_tasks, wrong_task, tasks_read, front_by, read_of}
use Rattle.flags.specs.Flags.{changed}
use Rattle.planner.specs.Done.{force_done, legal_done, room_done, plan_done}
use Rattle.page.specs.Decimal.{digits, decimal}
use Rattle.page.specs.Words.{word}
use Rattle.table.specs.Load.{load, total_load}
use Rattle.listing_lines.specs.Lines.{line_one, last_line, of_forcing, refusal_line}
use Rattle.task_lines.specs.TaskLines.{task_start, task_line_text}
use Rattle.listing.specs.Listing.{lines_to, accepted_text, listing_of}

pub example : listing_of
    (word "01010102FB\n"
    ++ (word "02010000000C000000040000000CE1\n" ++ word "0201000000180000000900000012CA\n"))
    ≡ word "plan FP cores 1 tasks 2\n"
    ++ (word "task 1 N forced bound 12 deadline 12 load 334\n"
    ++ (word "task 2 N forced bound 17 deadline 18 load 375\n" ++ word "total load 709 forced 2 passes 3\n"))
unfolding sum_to top_to least first_from work_in W E share block from cap share_of block_of B satisfies
    least_length
    bound list_from test lowest lacks lacking made run force flags_of row head_fault task_fault digit_of
    byte_at
    word_at all_digits frame_fault head_of task_of line_start head_line_fault task_line_fault with_tasks
    wrong_task
    tasks_read front_by read_of changed force_done legal_done room_done plan_done digits decimal load line_one
    task_start task_line_text last_line total_load lines_to accepted_text listing_of
example = refl

pub empty : listing_of [] ≡ word "refused 1 place 1\n"
unfolding listing_of plan_done read_of front_by head_line_fault frame_fault of_forcing refusal_line decimal
    digits
empty = refl
