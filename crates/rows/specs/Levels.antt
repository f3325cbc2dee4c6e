-- The levels of a table's tasks, by place.
--
--   document 02, wish 8                                     here
--   the level of the task at place i                        level_in ls i
--   the levels with l at place i                            with_level ls i l
--   i counts as higher than k: its level is not greater     higher_at ls k i
--   the levels of the first n tasks of a table              LevelsTo t ls n
--
-- Assumes nothing.
use Rattle.std.specs.Prelude.{ℕ, ◌≡◌, Bool, set, leb}
use Rattle.base.specs.Rows.{at, row}
use Rattle.table.specs.declared.Table.{Table}
use Rattle.table.specs.Table.{level_at}
use Rattle.rows.specs.declared.Levels.{Levels}

abbrev pub level_in : Levels → ℕ → ℕ
level_in ls i = at ls.of i

abbrev pub with_level : Levels → ℕ → ℕ → Levels
with_level ls i l = record { of = set ls.of i l }

abbrev pub higher_at : Levels → ℕ → ℕ → Bool
higher_at ls k i = leb (level_in ls i) (level_in ls k)

pub record LevelsTo (t : Table) (ls : Levels) (n : ℕ) : Type 0 where
  pub of : ls.of ≡ row 0 (level_at t) n
