-- The test and forcing of the rows and flags of a legal table are those of the table.
-- Assumes nothing.
use Rattle.std.proofs.Common.{ℕ, ◌≡◌, ap, ◌∙◌, List}
use Rattle.base.specs.Rows.{at}
use Rattle.rounds.specs.Rounds.{test2}
use Rattle.rounds.specs.Forcing.{force2}
use Rattle.rounds.proofs.LikeLaws.{test2_like, force2_like}
use Rattle.table.specs.declared.Table.{Table}
use Rattle.table.specs.Table.{system_of, flags_of, LegalTable}
use Rattle.flags.specs.declared.Flags.{Flags}
use Rattle.flags.specs.Flags.{held}
use Rattle.rows.specs.declared.Head.{Head}
use Rattle.rows.specs.Held.{system_in, RowsOf}
use Rattle.rows.proofs.HeldLaws.{rows_time, rows_deadline, rows_under}
use Rattle.forcing.proofs.TableLaws.{given_list_lem}
use Rattle.round_test.specs.Round.{flag_list, test_in}
use Rattle.round_force.specs.Forced2.{final_in}

module _ {t : Table} (legal : LegalTable t) {given : Flags} (sent : given ≡ held (at (flags_of t)) t.n)
    {inverse rest cost reach : List ℕ} {h : Head} (is : RowsOf t inverse rest cost reach h)
  where
    pub rows_test2 : test_in (system_in h rest cost reach) given ≡ test2 (system_of t) (flags_of t)
    rows_test2 =
        test2_like (system_of t) (system_in h rest cost reach) is.n (rows_deadline legal is)
        (rows_time legal is) (rows_under legal is) (flag_list given h.n)
        ∙ ap (test2 (system_of t)) (given_list_lem legal sent is)

    pub rows_force2 : final_in (system_in h rest cost reach) given ≡ force2 (system_of t) (flags_of t)
    rows_force2 =
        force2_like (system_of t) (system_in h rest cost reach) is.n (rows_deadline legal is)
        (rows_time legal is) (rows_under legal is) (flag_list given h.n)
        ∙ ap (force2 (system_of t)) (given_list_lem legal sent is)
