-- `slack_bound::past_differences` meets its contract: where no task differs the least q stays, else the
-- search goes on from it.
-- Assumes nothing.
use Rattle.std.proofs.Common.{rules}
use Rattle.flags.specs.Flags.{flag_in}
use Rattle.slack_bound.proofs.UnderLaws.{under_differable, past_below, past_plain, past_risen}
use Rattle.slack_bound.proofs.past_differences.Goals as goal

pub differences_of-all-requires : goal.differences_of-all-requires
differences_of-all-requires c =
    let g = c.args in (
      under_differable c.args.rows.now.legal c.requires.1 (flag_in g.flags) g.k c.requires.0,
      c.requires.0,
      search rules,
      search rules,
    )

pub returns-then-all-eq0 : goal.returns-then-all-eq0
returns-then-all-eq0 c =
    let g = c.args in
    past_plain c.args.rows.now.legal c.requires.1 (flag_in g.flags) g.k c.requires.0 _ _ _ c.requires.3
    c.differences_of-all.ensures c.if-all-eq0.true

pub least_risen-requires : goal.least_risen-requires
least_risen-requires c =
    let g = c.args in (
      c.requires.2,
      past_below c.args.rows.now.legal c.requires.1 (flag_in g.flags) g.k c.requires.0 _ _ _ c.requires.3
          c.requires.4,
      c.requires.4,
      c.differences_of-all.ensures.small,
    )

pub returns : goal.returns
returns c =
    let g = c.args in
    past_risen c.args.rows.now.legal c.requires.1 (flag_in g.flags) g.k c.requires.0 _ _ _ c.requires.3
    c.differences_of-all.ensures c.least_risen.ensures
