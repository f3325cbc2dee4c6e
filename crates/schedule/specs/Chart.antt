-- Schedules of finitely many jobs on one core, written out as a row: which job executes in each quantum. The
-- job (i,j) is written j × count + i. Each task has J jobs that count; from the end of the row on nothing
-- runs, and later jobs need nothing.
-- Assumes nothing.
use Rattle.std.specs.Prelude.{ℕ, ◌+◌, ◌*◌, ◌&&◌, List, ltb, eqb, get_or, length}
use Rattle.base.specs.Choice.{pick}
use Rattle.model.specs.Bound.{System}
use Rattle.schedule.specs.Schedule.{Run}

abbrev pub charted : System → ℕ → (ℕ → ℕ → ℕ) → (ℕ → ℕ → ℕ) → List ℕ → Run
charted s J release need row = record {
  release = λ i j. pick (ltb j J) (release i j) (length row + j * s.T i);
  need = λ i j. pick (ltb j J) (need i j) 0;
  runs = λ i j t. pick (ltb j J && ltb t (length row)) (pick (eqb (get_or row t 0) (j * s.count + i)) 1 0) 0;
}
