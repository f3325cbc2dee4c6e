-- `digits::digit_table` meets its contract: the table's rule is one computed test over its 256 entries.
-- Assumes nothing.
use Rattle.std.proofs.Common.{refl}
use Rattle.base.specs.Rows.{list_from}
use Rattle.frames.specs.Digits.{digit_of, digit_table}
use Rattle.digits.proofs.digit_table.Goals as goal

pub returns : goal.returns
unfolding digit_table list_from digit_of
returns c = refl
