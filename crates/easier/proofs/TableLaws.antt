-- The promises over tables: a legal table is a legal system without slack, its priorities are those of its
-- levels, and so each promise of `NeverHurts` is one of tables.
-- Assumes nothing.
use Rattle.std.proofs.Common.{ℕ, ◌<◌, arith, le_refl, refl, sym, ap, ◌∙◌, inl, inr, ⊎_elim}
use Rattle.base.specs.Rows.{at}
use Rattle.model.specs.Demands.{Flags}
use Rattle.table.specs.declared.Table.{Table}
use Rattle.table.specs.Table.{policy_of, system_of, flags_of, LegalTable}
use Rattle.table.proofs.TableLaws.{flags_at, legal_system}
use Rattle.easier.specs.Eased.{Eased}
use Rattle.easier.specs.TableWords.{EasedTable, TableEased, TableShortened, TableEdf}
use Rattle.easier.proofs.NeverHurts.{eased_never_hurts}
use Rattle.easier.proofs.ShorterLaws.{deadlines_shorter}
use Rattle.easier.proofs.EdfLaws.{edf_exactly}

legal_flags : {t : Table} → LegalTable t → Flags (system_of t) (at (flags_of t))
legal_flags {t} h i lt = omega (arith, flags_at t i lt, (h.each i lt).flag)

eased_system : (t u : Table) (e : ℕ → ℕ) → LegalTable u → EasedTable t u e
    → Eased (system_of t) (system_of u) e
eased_system t u e h a = record {
  policy = ap policy_of a.policy;
  cores = a.cores;
  inside = a.inside;
  apart = a.apart;
  T = λ i lt. (a.tasks i lt).period;
  C = λ i lt. (a.tasks i lt).cost;
  some = λ i lt. (h.each i lt).some;
  D = λ i lt. (a.tasks i lt).deadline;
  S = λ i _. le_refl 0;
  higher = ⊎_elim (λ edf. inl (ap policy_of edf)) (λ same. inr same) a.order;
}

pub table_eased : TableEased
table_eased t u e before after a =
    eased_never_hurts (system_of t) (system_of u) e (flags_of t) (flags_of u) (legal_system before)
    (legal_flags before) (eased_system t u e after a)
    (λ i lt. flags_at u i lt ∙ (a.tasks i lt).flag ∙ sym (flags_at t (e i) (a.inside i lt)))

pub table_shortened : TableShortened
table_shortened t u before r less given ok =
    deadlines_shorter (system_of t) (system_of u) (flags_of t) (flags_of u) (legal_system before)
    (λ i _. refl)
    (legal_flags before)
    (record {
      policy = ap policy_of r.policy;
      cores = r.cores;
      count = r.count;
      T = λ i lt. ap (λ a. a.period) (r.tasks i lt);
      C = λ i lt. ap (λ a. a.cost) (r.tasks i lt);
      D = less;
      S = λ i _. refl;
      higher = λ k i lk li.
          cc (ap (λ a. a.level) (r.tasks i li), ap (λ a. a.level) (r.tasks k lk));
    })
    (λ i lt.
    let in' : i < t.n = omega (arith, r.count) in
    flags_at u i lt ∙ ap (λ a. a.flag) (r.tasks i in') ∙ sym (flags_at t i in'))
    given ok

pub table_edf : TableEdf
table_edf t before edf =
    edf_exactly (system_of t) (flags_of t) (legal_system before) (λ i _. refl) (legal_flags before)
    (ap policy_of edf)
