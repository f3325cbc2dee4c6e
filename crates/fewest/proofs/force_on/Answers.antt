-- `fewest::force_on` meets its contract: forcing of rows that are legal on other cores too.
-- Assumes nothing.
use Rattle.std.proofs.Common.{refl, sym, ap, ◌∙◌}
use Rattle.flags.specs.Flags.{flag_in, held}
use Rattle.planner.specs.declared.Job.TheVariants.{Force}
use Rattle.planner.proofs.StageLaws.{forces_table}
use Rattle.planner.proofs.CountLaws.{said_few}
use Rattle.cores.specs.Cores.{on_cores}
use Rattle.fewest.proofs.StageLaws.{legal_on}
use Rattle.fewest.proofs.RowsLaws.{held_on, sent_on, few_listed}
use Rattle.fewest.proofs.force_on.Goals as goal

pub rows_said-said-requires : goal.rows_said-said-requires
rows_said-said-requires c =
    (c.requires.2 ∙ ap (held (flag_in c.args.given)) (sym c.set_cores.ensures.n), refl)

pub returns : goal.returns
returns c = (
  λ t legal is e.
      let other = legal_on legal c.requires.0 c.requires.1 in
      let said = c.rows_said-said.ensures (on_cores t c.args.m) other (held_on is c.set_cores.ensures)
      (sent_on t c.args.m e)
      in
      few_listed _ _ _ c.min-count.ensures (said_few _ _ _ _ other said) c.records.ensures said
      ∙ sym (forces_table _ Force refl),
  c.set_cores.ensures,
)
