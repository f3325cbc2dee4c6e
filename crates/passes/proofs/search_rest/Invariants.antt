-- `passes::search_rest` meets its contract. The loop's invariant: the first k tasks have bounds.
-- Assumes nothing.
use Rattle.flags.specs.Flags.{flag_in}
use Rattle.rows.specs.Whole.{system_held}
use Rattle.passes.proofs.PassLaws.{Resting}
use Rattle.passes.proofs.search_rest.Given as goal

abbrev pub invariant-loop-k : goal.invariant-loop-k
invariant-loop-k l =
    Resting (system_held l.rows) (flag_in l.flags) l.bounds l.k
