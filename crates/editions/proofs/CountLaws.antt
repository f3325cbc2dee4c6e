-- How many records an answer under either edition writes: the list has room for them.
-- Assumes nothing.
use Rattle.std.proofs.Common.{ℕ, List}
use Rattle.table.specs.Checks.{check_of}
use Rattle.table.specs.declared.Task.{Task}
use Rattle.table.specs.declared.Table.{Table}
use Rattle.table.proofs.TableLaws.{fine_legal}
use Rattle.lines.specs.Reads.{read_of}
use Rattle.lines.proofs.Theorems.{read_legal}
use Rattle.planner.specs.declared.Job.{Job}
use Rattle.planner.specs.Done.{roomed, table_from}
use Rattle.planner.proofs.CountLaws.{Fits, roomed_fits, Small, checked_small, plan_small, list_small}
use Rattle.edition_2.specs.Second.{done_second}
use Rattle.edition_2.proofs.SecondLaws.{second_counted}
use Rattle.editions.specs.declared.Edition.{Edition}
use Rattle.editions.specs.declared.Edition.TheVariants.{First, Second}
use Rattle.editions.specs.Editions.{plan_second, list_second, plan_in, list_in}

pub second_fits : (t : Table) (job : Job) (room : ℕ) → Fits t.n room (roomed t room (done_second t job))
second_fits t job room = roomed_fits t room (done_second t job) (second_counted t job)

pub plan_in_small : (e : Edition) (text : List ℕ) (job : Job) (room : ℕ)
    → Small room (plan_in e text job room).done
unfolding plan_in plan_second
plan_in_small First text job room = plan_small text job room
plan_in_small Second text job room =
    checked_small _ room _ (second_fits (read_of text).table job room) (read_of text).answer
    (λ e. (read_legal text e).count)

pub list_in_small : (e : Edition) (cores policy n : ℕ) (tasks : List Task) (job : Job) (room : ℕ)
    → Small room (list_in e cores policy n tasks job room).done
unfolding list_in list_second
list_in_small First cores policy n tasks job room = list_small cores policy n tasks job room
list_in_small Second cores policy n tasks job room =
    let t : Table = table_from cores policy n tasks in
    checked_small n room _ (second_fits t job room) (check_of t) (λ e. (fine_legal {t = t} e).count)
