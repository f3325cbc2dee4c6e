-- `asked::tasks_asked` meets its contract: what is loaded is answered, and its records are written.
-- Assumes nothing.
use Rattle.std.proofs.Common.{refl, ◌∙◌}
use Rattle.planner.proofs.CountLaws.{list_small}
use Rattle.flat.proofs.FlatLaws.{flat_fits}
use Rattle.asked.proofs.AskedLaws.{given_lent, list_rows, list_is, few_said, asked_as}
use Rattle.asked.proofs.tasks_asked.Goals as goal

pub load_list-loaded-requires : goal.load_list-loaded-requires
load_list-loaded-requires c = record { inverse = refl; rest = refl; cost = refl; reach = refl }

pub answered-said-requires : goal.answered-said-requires
answered-said-requires c =
    let xs = c.args.tasks.now in
    (list_rows _ _ _ xs c.load_list-loaded.ensures c.lend-lent.ensures, refl)

pub put_said-requires : goal.put_said-requires
put_said-requires c =
    let xs = c.args.tasks.now in
    rw (c.unwrap_or.ensures ∙ given_lent _ _ c.lend-lent.ensures)
    (flat_fits _ _ _
    (list_is _ _ _ xs c.load_list-loaded.ensures c.lend-lent.ensures _ _ c.answered-said.ensures)
    (list_small _ _ _ _ _ _))

pub word_of-requires : goal.word_of-requires
word_of-requires c =
    let xs = c.args.tasks.now in
    few_said _ _ _
    (list_is _ _ _ xs c.load_list-loaded.ensures c.lend-lent.ensures _ _ c.answered-said.ensures)
    (list_small _ _ _ _ _ _)

pub returns : goal.returns
returns c =
    let xs = c.args.tasks.now in
    asked_as _ _ _
    (list_is _ _ _ xs c.load_list-loaded.ensures c.lend-lent.ensures _ _ c.answered-said.ensures)
    (list_small _ _ _ _ _ _) _
    (rw (c.unwrap_or.ensures ∙ given_lent _ _ c.lend-lent.ensures) at c.put_said.ensures)
    c.word_of.ensures
