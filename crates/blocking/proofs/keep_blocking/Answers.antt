-- `blocking::keep_blocking` meets its contract: where there is no candidate an empty row keeps all.
-- Assumes nothing.
use Rattle.std.proofs.Common.{sym, ◌∙◌}
use Rattle.base.specs.Rows.{at}
use Rattle.flags.specs.Flags.{flag_in}
use Rattle.rows.specs.Levels.{higher_at}
use Rattle.blocking.proofs.BlockLaws.{empty_size, edf_kept, preemptive_kept, blocking_kept}
use Rattle.blocking.proofs.keep_blocking.Goals as goal

pub returns-then-head-eq0 : goal.returns-then-head-eq0
returns-then-head-eq0 c =
    (empty_size c.requires.3, edf_kept _ _ _ _ _ _ _ _ c.requires.0 c.requires.3 c.if-head-eq0.true)

pub returns-then-flag_at-ne0 : goal.returns-then-flag_at-ne0
returns-then-flag_at-ne0 c =
    let a = c.args in (
      empty_size c.requires.3,
      preemptive_kept a.head.policy (higher_at a.head.levels) (at a.cost.now)
          (flag_in a.flags) a.k _ _ _ c.requires.0 c.requires.3
          (λ z. c.if-flag_at-ne0.true (c.flag_at.ensures ∙ z)),
    )

pub returns : goal.returns
returns c =
    let a = c.args in (
      c.keep_largest.ensures.0,
      blocking_kept a.head.policy (higher_at a.head.levels) (at a.cost.now)
          (flag_in a.flags) a.k _ _ c.if-head-eq0.false (sym c.flag_at.ensures ∙ c.if-flag_at-ne0.false)
          c.candidates.ensures c.keep_largest.ensures.1,
    )
