-- Forcing of the rows and flags of a legal table is forcing of the table.
-- Assumes nothing.
use Rattle.std.proofs.Common.{ℕ, ◌<◌, arith, ◌≡◌, sym, ap, ◌∙◌, List}
use Rattle.base.specs.Rows.{at, list_of}
use Rattle.base.proofs.RowLaws.{list_same}
use Rattle.model.specs.Forcing.{force}
use Rattle.model.proofs.PassLaws.{force_by_bounds}
use Rattle.table.specs.declared.Table.{Table}
use Rattle.table.specs.Table.{system_of, flags_of, LegalTable}
use Rattle.table.proofs.TableLaws.{flags_at}
use Rattle.flags.specs.declared.Flags.{Flags}
use Rattle.flags.specs.Flags.{flag_in, held}
use Rattle.flags.proofs.FlagLaws.{held_flag, held_same}
use Rattle.rows.specs.declared.Head.{Head}
use Rattle.rows.specs.Held.{system_in, RowsOf}
use Rattle.rows.proofs.HeldLaws.{rows_bound}
use Rattle.forcing.specs.Forced.{final_of}

module _ {t : Table} (legal : LegalTable t) {given : Flags} (sent : given ≡ held (at (flags_of t)) t.n)
  where
    pub given_at : (k : ℕ) → k < t.n → flag_in given k ≡ at (flags_of t) k
    given_at k lt =
        ap (λ f. flag_in f k) sent
        ∙ held_flag (at (flags_of t)) t.n legal.count k lt
        (omega (arith, flags_at t k lt, (legal.each k lt).flag))

    -- the flags are held as they are read
    pub given_held : {n : ℕ} → n ≡ t.n → given ≡ held (flag_in given) n
    given_held e =
        sent
        ∙ held_same _ _ t.n legal.count (λ k lt. sym (given_at k lt))
        ∙ ap (held (flag_in given)) (sym e)

    module _ {inverse rest cost reach : List ℕ} {h : Head} (is : RowsOf t inverse rest cost reach h) where
      pub given_list_lem : list_of (flag_in given) h.n ≡ flags_of t
      unfolding flags_of
      given_list_lem =
          ap (list_of (flag_in given)) is.n
          ∙ list_same _ _ t.n (λ k lt. given_at k lt ∙ flags_at t k lt)

      pub rows_force : final_of (system_in h rest cost reach) given ≡ force (system_of t) (flags_of t)
      rows_force =
          force_by_bounds (system_of t) (system_in h rest cost reach) is.n (rows_bound legal is)
          (list_of (flag_in given) h.n)
          ∙ ap (force (system_of t)) given_list_lem
