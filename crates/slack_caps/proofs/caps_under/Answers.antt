-- `slack_caps::caps_under` meets its contract: the candidates kept and the caps added are the caps of task k
-- under its slacks.
-- Assumes nothing.
use Rattle.caps.proofs.MadeLaws.{rows_kept}
use Rattle.slack_caps.proofs.SlackCapLaws.{slack_rows_caps}
use Rattle.slack_caps.proofs.caps_under.Goals as goal

pub keep_blocking-requires : goal.keep_blocking-requires
keep_blocking-requires c = (
  c.args.rows.now.legal.count,
  c.requires.0,
  λ i lt. (c.args.rows.now.legal.each i lt).time,
  c.requires.2,
)

pub add_caps_under-requires : goal.add_caps_under-requires
add_caps_under-requires c = (
  c.requires.0,
  c.requires.1,
  c.keep_blocking.ensures.0,
  rows_kept c.args.rows.now.legal c.args.flags c.args.k c.requires.0 c.keep_blocking.ensures.1,
)

pub returns : goal.returns
returns c =
    slack_rows_caps c.args.rows.now.legal c.args.slacks.now c.requires.1 c.args.flags c.args.k c.requires.0
    c.keep_blocking.ensures.1 _ c.add_caps_under.ensures c.used_of.ensures
