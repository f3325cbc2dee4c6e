-- `loads::task_load` meets its contract: rounded up is T - 1 more, rounded down.
-- Assumes nothing.
use Rattle.std.proofs.Common.{ℕ, ◌+◌, ◌*◌, ◌-◌, ◌/◌, ◌%◌, ◌<◌, min, arith, ◌≡◌, sym, ◌∙◌}
use Rattle.std.proofs.Math.Nat.{div-eq_of_lt-le}
use Rattle.std.proofs.lemmas.Grind.{div_ceil_times}
use Rattle.table.specs.Load.{load}
use Rattle.loads.proofs.task_load.Goals as goal

ceil_is : (a t : ℕ) → 0 < t → a / t + min 1 (a % t) ≡ (a + (t - 1)) / t
ceil_is a t pos =
    let near = div_ceil_times a t pos in
    sym (div-eq_of_lt-le t (omega (arith, near)) (omega (arith, near)))

pub returns : goal.returns
unfolding load
returns c = c.div_ceil.ensures ∙ ceil_is (1000 * c.args.cost) c.args.period c.requires.1
