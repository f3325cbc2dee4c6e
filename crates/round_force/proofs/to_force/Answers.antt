-- `round_force::to_force` meets its contract, by whether a preemptive task lacks a bound.
-- Assumes nothing.
use Rattle.round_force.proofs.ChangeLaws.{force_first, force_failing}
use Rattle.round_force.proofs.to_force.Goals as goal

pub returns-then-last_lacking-eq0 : goal.returns-then-last_lacking-eq0
returns-then-last_lacking-eq0 c =
    force_first _ _ _ _ c.last_lacking.ensures c.if-last_lacking-eq0.true c.one_alone.ensures

pub returns-else-last_lacking-eq0 : goal.returns-else-last_lacking-eq0
returns-else-last_lacking-eq0 c =
    force_failing _ _ _ _ c.last_lacking.ensures c.if-last_lacking-eq0.false
