-- Document 01's sentence about lower-priority preemptive tasks, of tables, with levels: a bound depends on
-- the task itself and on what it sees, the higher tasks and the lower non-preemptive ones. Assumes nothing.
use Rattle.std.proofs.Common.{ℕ, ◌<◌, arith, ◌≡◌, sym, ap, ◌∙◌}
use Rattle.base.specs.Rows.{at}
use Rattle.model.specs.Bound.{bound}
use Rattle.model.proofs.BoundLaws.{bound_same}
use Rattle.model.proofs.SeenLaws.{fp_independent}
use Rattle.table.specs.declared.Task.{Task}
use Rattle.table.specs.declared.Table.{Table}
use Rattle.table.specs.Table.{policy_of, system_of, flag_at, flags_of, LegalTable}
use Rattle.table.proofs.TableLaws.{flags_at}
use Rattle.claims.specs.Below.{DifferBelow}

module _ {t u : Table} {k j : ℕ} (d : DifferBelow t u k j) where
  same_cost : (system_of u).C j ≡ (system_of t).C k
  same_cost = ap (λ (x : Task). x.cost) d.own

  pub same_bound : LegalTable t
      → bound (system_of t) (at (flags_of t)) k ≡ bound (system_of u) (at (flags_of u)) j
  same_bound legal =
      let some : 0 < (system_of t).C k = (legal.each k d.inside.0).some in
      bound_same (system_of t) (at (flags_of t)) (flag_at t) k some d.inside.0 (λ i l. sym (flags_at t i l))
      ∙ fp_independent (system_of t) (system_of u) (flag_at t) (flag_at u) k j (ap policy_of d.policies.0)
      (ap policy_of d.policies.1) d.cores same_cost (ap (λ (x : Task). x.deadline) d.own)
      (ap (λ (x : Task). x.flag) d.own) d.others some
      ∙ sym (bound_same (system_of u) (at (flags_of u)) (flag_at u) j (omega (arith, same_cost, some))
      d.inside.1 (λ i l. sym (flags_at u i l)))
