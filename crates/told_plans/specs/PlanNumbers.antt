-- The lent answer of a call that writes a plan: the numbers of `fields`, by what is answered.
--
--   yes            1 where the plan is written, 0 in a refusal
--   the end place  in the places 9 and 10, 0 in a refusal
--   passes         those of a forcing that refused; 0 where the plan is written
--
-- Assumes nothing.
use Rattle.std.specs.Prelude.{ℕ, List, Ok, Err}
use Rattle.told.specs.Told.{fields}
use Rattle.writer.specs.Written.{Written}
use Rattle.changer.specs.Changed.{Changed}

abbrev pub written_told : Written → List ℕ
written_told (Ok e) = fields 0 0 1 0 0 0 0 e
written_told (Err why) = fields why.number why.place 0 0 0 0 0 0

abbrev pub changed_told : Changed → List ℕ
changed_told (Ok e) = fields 0 0 1 0 0 0 0 e
changed_told (Err s) = fields s.why.number s.why.place 0 0 s.passes 0 0 0
