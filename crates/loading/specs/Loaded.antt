-- A table in rows and flags.
--
--   the flags that were loaded, or the first fault              a Result of Flags
--   the same as what the checks, or a reading, say              said_of r
--   the checks, or a reading, of a table, and what was loaded   LoadedIn found t r h ..
--   the same, with the rows as one value                        LoadedAs found t r x
--
-- Assumes nothing.
use Rattle.std.specs.Prelude.{ℕ, ◌≡◌, List, Result, Ok, Err}
use Rattle.base.specs.Rows.{at}
use Rattle.table.specs.declared.Table.{Table}
use Rattle.table.specs.declared.Refusal.{Refusal}
use Rattle.table.specs.Checks.{Checked}
use Rattle.table.specs.Table.{flags_of}
use Rattle.flags.specs.declared.Flags.{Flags}
use Rattle.flags.specs.Flags.{held}
use Rattle.rows.specs.declared.Head.{Head}
use Rattle.rows.specs.declared.Rows.{Rows}
use Rattle.rows.specs.Held.{RowsOf}

abbrev pub said_of : Result Flags Refusal → Checked
said_of (Ok _) = Ok tt
said_of (Err why) = Err why

-- a table that is fine is in the head, the rows and the flags
pub record LoadedIn (found : Checked) (t : Table) (r : Result Flags Refusal) (h : Head)
    (inverses rests costs reaches : List ℕ) : Type 0 where
  pub answer : said_of r ≡ found
  pub rows : found ≡ Ok tt → RowsOf t inverses rests costs reaches h
  pub given : found ≡ Ok tt → r ≡ Ok (held (at (flags_of t)) t.n)

pub record LoadedAs (found : Checked) (t : Table) (r : Result Flags Refusal) (x : Rows) : Type 0 where
  pub parts : LoadedIn found t r x.head x.times.inverse x.times.rest x.times.cost x.reach
