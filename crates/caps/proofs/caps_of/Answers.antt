-- `caps::caps_of` meets its contract: the candidates kept and the caps added are the caps of task k.
-- Assumes nothing.
use Rattle.caps.proofs.MadeLaws.{rows_kept, rows_caps}
use Rattle.caps.proofs.caps_of.Goals as goal

pub keep_blocking-requires : goal.keep_blocking-requires
keep_blocking-requires c =
    let legal = c.args.rows.now.legal in
    (legal.count, c.requires.0, (λ i lt. (legal.each i lt).time), c.requires.1)

pub add_caps-requires : goal.add_caps-requires
add_caps-requires c =
    let kept = c.keep_blocking.ensures in
    (c.requires.0, kept.0, rows_kept c.args.rows.now.legal c.args.flags c.args.k c.requires.0 kept.1)

pub returns : goal.returns
returns c =
    rows_caps c.args.rows.now.legal c.args.flags c.args.k c.requires.0 c.keep_blocking.ensures.1 _
    c.add_caps.ensures c.used_of.ensures
