-- An answer that is made from the rows and the flags of a table.
--
--   the answer f t of each legal table t that has these rows and flags      OfTable f rows given r
--   a refusal, before any record is listed                                  unsaid why passes given
--   an answer with the records of its flags and of bounds                   said_done given s bounds
--
-- Assumes nothing.
use Rattle.std.specs.Prelude.{ℕ, ◌≡◌, List, Err}
use Rattle.base.specs.Rows.{at}
use Rattle.table.specs.declared.Table.{Table}
use Rattle.table.specs.declared.Refusal.{Refusal}
use Rattle.table.specs.Table.{LegalTable}
use Rattle.flags.specs.declared.Flags.{Flags}
use Rattle.flags.specs.Flags.{flag_in, held}
use Rattle.rows.specs.declared.Rows.{Rows}
use Rattle.rows.specs.Whole.{HeldIn}
use Rattle.planner.specs.Answers.{stop, records_of, changes}
use Rattle.planner.specs.declared.Done.{Done}
use Rattle.planner.specs.declared.Said.{Said}
use Rattle.planner.specs.Done.{sent}

abbrev pub OfTable : {A : Type 0} → (Table → A) → Rows → Flags → A → Type 0
OfTable f rows given r =
    (t : Table) → LegalTable t → HeldIn t rows → given ≡ held (sent t) t.n → r ≡ f t

abbrev pub unsaid : Refusal → ℕ → Flags → Said
unsaid why passes given = record { answer = Err (stop why passes); count = 0; flags = given }

unfoldable pub said_done : Flags → Said → List ℕ → Done
said_done given s bounds = record {
  answer = s.answer;
  count = s.count;
  recs = records_of s.count (flag_in s.flags) (changes (flag_in given) (flag_in s.flags)) (at bounds);
}
