-- `lines_writer::task_frame` meets its contract: the bytes are those of the definition. Assumes nothing.
use Rattle.std.proofs.Common.{ℕ, ◌≡◌, ◌<◌, ◌^◌, ◌/◌, ◌%◌, arith}
use Rattle.frames.specs.Text.{word_bytes}
use Rattle.lines.specs.Writes.{task_bytes}
use Rattle.lines_writer.proofs.task_frame.Goals as goal

-- the highest of a number's four bytes
top : (w : ℕ) → w < 2 ^ 32 → w / 16777216 % 256 ≡ w / 16777216
top w h = omega arith

pub returns : goal.returns
unfolding task_bytes word_bytes
returns c =
    let t = c.args.t in
    rw (
      c.to_be_bytes.ensures,
      c.to_be_bytes-2.ensures,
      c.to_be_bytes-3.ensures,
      top t.period (omega arith),
      top t.cost (omega arith),
      top t.deadline (omega arith),
    )
