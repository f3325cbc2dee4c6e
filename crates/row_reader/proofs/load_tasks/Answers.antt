-- `row_reader::load_tasks` meets its contract: what is left to show beside the invariant.
-- Assumes nothing.
use Rattle.std.proofs.Common.{arith, refl}
use Rattle.lines.specs.Form.{line_start}
use Rattle.lines.proofs.LineLaws.{tail_part}
use Rattle.row_reader.proofs.RowReadLaws.{front_refused, rows_start, rows_wrong, task_right}
use Rattle.row_reader.proofs.RowReadLaws.{rows_step, rows_more, rows_end}
use Rattle.row_reader.proofs.load_tasks.Goals as goal

pub loop-i-init : goal.loop-i-init
loop-i-init c = rows_start _ _ _ c.requires.1 c.begin.ensures

pub slice_bounds-read_task-count : goal.slice_bounds-read_task-count
unfolding line_start
slice_bounds-read_task-count c = c.loop-i.invariant.lines.inside

pub slice_bounds-read_task-start : goal.slice_bounds-read_task-start
unfolding line_start
slice_bounds-read_task-start c = omega (arith, c.loop-i.invariant.lines.inside)

pub returns-in-Err : goal.returns-in-Err
unfolding line_start
returns-in-Err c =
    front_refused c.args.text.now _
    (rows_wrong _ _ _ c.loop-i.invariant _ _ (tail_part (line_start c.args.form c.loop-i.i) c.args.text.now) _
    (omega arith) c.in-Err.ensures (omega arith) _ refl)

pub push-requires : goal.push-requires
unfolding line_start
push-requires c = (
  task_right _ _ _ c.loop-i.invariant _ _ (tail_part (line_start c.args.form c.loop-i.i) c.args.text.now) _
      (omega arith) c.in-Ok.ensures (omega arith) _ refl,
  omega (arith, c.loop-i.invariant.loads.rows.n, c.loop-i.invariant.lines.range),
)

pub loop-i-preserved : goal.loop-i-preserved
unfolding line_start
loop-i-preserved c =
    rows_step _ _ _ c.loop-i.invariant _ _ (tail_part (line_start c.args.form c.loop-i.i) c.args.text.now) _
    (omega arith) c.in-Ok.ensures (omega arith) _ refl c.push.ensures c.with_flag-given.ensures

pub returns-then-start-line : goal.returns-then-start-line
unfolding line_start
returns-then-start-line c =
    rows_more _ _ _ c.loop-i.invariant (omega arith) (omega (arith, c.if-start-line.true))

pub returns : goal.returns
unfolding line_start
returns c =
    rows_end _ _ _ c.loop-i.invariant (omega arith) (omega (arith, c.if-start-line.false))
