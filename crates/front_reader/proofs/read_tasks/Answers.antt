-- `front_reader::read_tasks` meets its contract: what is left to show beside the invariant.
-- Assumes nothing.
use Rattle.std.proofs.Common.{refl, arith, ◌∙◌}
use Rattle.lines.specs.Form.{line_start}
use Rattle.lines.proofs.LineLaws.{tail_part}
use Rattle.lines.proofs.ReadLaws.{progress_start, progress_wrong, progress_right, progress_end}
use Rattle.front_reader.proofs.read_tasks.Goals as goal

pub loop-i-init : goal.loop-i-init
loop-i-init c = progress_start _ _ _ c.requires.1

pub slice_bounds-read_task-count : goal.slice_bounds-read_task-count
unfolding line_start
slice_bounds-read_task-count c = c.loop-i.invariant.inside

pub slice_bounds-read_task-start : goal.slice_bounds-read_task-start
unfolding line_start
slice_bounds-read_task-start c = omega (arith, c.loop-i.invariant.inside)

pub returns-in-Err : goal.returns-in-Err
unfolding line_start
returns-in-Err c =
    c.stopped.ensures
    ∙ progress_wrong _ _ _ _ _ c.loop-i.invariant _ _
    (tail_part (line_start c.args.form c.loop-i.i) c.args.text.now) _ (omega arith) c.in-Err.ensures
    (omega arith) _ refl

pub loop-i-preserved : goal.loop-i-preserved
unfolding line_start
loop-i-preserved c =
    progress_right _ _ _ _ _ c.loop-i.invariant _ _
    (tail_part (line_start c.args.form c.loop-i.i) c.args.text.now) _ (omega arith) c.in-Ok.ensures
    (omega arith) _ refl

pub returns : goal.returns
unfolding line_start
returns c = progress_end _ _ _ _ _ c.loop-i.invariant (omega arith)
