-- `plan_printer::read_text` is safe and ends, and its count lies within the buffer: each turn reads a byte.
-- Assumes nothing.
use Rattle.std.proofs.Common.{◌≤◌, ◌-◌, ◌≡◌, length}
use Rattle.plan_printer.proofs.read_text.Given as goal

abbrev pub invariant-loop-count : goal.invariant-loop-count
invariant-loop-count g l = (l.count ≤ length l.text) × (length l.text ≡ length l.initial.text)

abbrev pub decreases-loop-count : goal.decreases-loop-count
decreases-loop-count g l = length l.text - l.count
