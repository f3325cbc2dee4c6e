-- `search::least_q` meets its contract: no range, fewer shares than cores, a first q of its own, or a given
-- one.
-- Assumes nothing.
use Rattle.std.proofs.Common.{arith}
use Rattle.search.proofs.StartLaws.{start_none, fewer_shares, no_range}
use Rattle.search.proofs.least_q.Goals as goal

pub returns-then-last-eq0 : goal.returns-then-last-eq0
returns-then-last-eq0 c = no_range c.requires.0 c.if-last-eq0.true

pub returns-then-used-m : goal.returns-then-used-m
returns-then-used-m c =
    fewer_shares c.requires.0 c.if-used-m.true (omega (arith, c.if-last-eq0.false))

pub seek-requires : goal.seek-requires
seek-requires c =
    (c.requires.0, start_none c.start-first.ensures, c.start-first.ensures.up)
