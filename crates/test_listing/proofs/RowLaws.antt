-- The tasks' lines, written one after the other: the row that is due, with the load that was worked out.
-- Assumes nothing.
use Rattle.std.proofs.Common.{ℕ, ◌+◌, ◌≡◌, List}
use Rattle.table.specs.Table.{task_at}
use Rattle.table.specs.declared.Table.{Table}
use Rattle.table.specs.Load.{load_at}
use Rattle.planner.specs.declared.Record.{Record}
use Rattle.planner.specs.Answers.{record_at}
use Rattle.test_listing.specs.TestListing.{test_task, test_line_at}

pub row_due : (t : Table) (rs : List Record) (i : ℕ) {l : ℕ} → l ≡ load_at t i
    → test_task
    (record {
      number = i + 1;
      flag = (record_at rs i).flag;
      bound = (record_at rs i).bound;
      deadline = (task_at t.tasks i).deadline;
      load = l;
    })
    ≡ test_line_at t rs i
row_due t rs i e = cc
