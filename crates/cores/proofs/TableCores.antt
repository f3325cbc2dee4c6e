-- More cores, and the fewest, of document 01's tables: what forcing says of a table is the model's, and the
-- number that is the fewest is so in words: forcing accepts with it, with every larger number, and with none
-- that is smaller. Assumes nothing.
use Rattle.std.proofs.Common.{ℕ, zero, suc, ◌≤◌, ◌<◌, arith, ◌≡◌, refl, ◌∙◌, sym, Bool, true, false, Ok}
use Rattle.base.specs.Choice.{or_else}
use Rattle.base.specs.Least.{NoWorse}
use Rattle.base.proofs.FirstLaws.{first_is, first_none}
use Rattle.model.specs.Bound.{bound}
use Rattle.model.specs.Demands.{Holds}
use Rattle.table.specs.declared.Table.{Table}
use Rattle.table.specs.Table.{system_of, flags_of, LegalTable}
use Rattle.table.specs.Checks.{refusal}
use Rattle.planner.specs.declared.Done.{Done}
use Rattle.planner.specs.declared.Verdict.{Verdict}
use Rattle.planner.specs.Done.{refuse, final, ended, failing, force_done}
use Rattle.planner.proofs.StageLaws.{timed, flagged}
use Rattle.cores.specs.Cores.{on_cores, says_yes, accepts_on, fewest_cores}
use Rattle.cores.proofs.MoreCores as more

-- forcing says yes exactly where no task is without a bound in the end
force_yes : (t : Table) → failing t (final t).bounds ≡ 0 → says_yes (force_done t) ≡ true
unfolding force_done
force_yes t e = rw e

yes_force : (t : Table) → says_yes (force_done t) ≡ true → failing t (final t).bounds ≡ 0
unfolding force_done
yes_force t = go (failing t (final t).bounds) _
  where
    go : (x : ℕ) (d : Done) → says_yes (or_else x d (λ k. refuse (refusal 14 (suc k)) (final t).passes))
        ≡ true
        → x ≡ 0
    go zero d h = refl
    go (suc k) d h = cc

-- forcing's answer is a yes, or a refusal
pub given_yes : (t : Table) {v : Verdict} → (force_done t).answer ≡ Ok v → says_yes (force_done t) ≡ true
unfolding force_done
given_yes t = go (failing t (final t).bounds) _ refl
  where
    go : (x : ℕ) (d : Done) → says_yes d ≡ true → {v : Verdict}
        → (or_else x d (λ k. refuse (refusal 14 (suc k)) (final t).passes)).answer ≡ Ok v
        → says_yes (or_else x d (λ k. refuse (refusal 14 (suc k)) (final t).passes)) ≡ true
    go zero d y h = y
    go (suc k) d y h = absurd (let z : ◌≡◌ {A = ℕ} 0 1 = cc in omega arith)

module _ {t : Table} (legal : LegalTable t) where
  -- Under fixed flags more cores never raise a bound nor take one away.
  pub bound_more : (fl : ℕ → ℕ) (k m m' : ℕ) → k < t.n → 0 < m → m ≤ m'
      → NoWorse (bound (system_of (on_cores t m')) fl k) (bound (system_of (on_cores t m)) fl k)
  bound_more fl k m m' lt = more.bound_more (system_of t) fl k m m' (timed legal k lt)

  module _ {m m' : ℕ} (some : 0 < m) (h : m ≤ m') where
    -- With more cores forcing ends with no task non-preemptive beyond those with fewer.
    pub forces_less : Holds (system_of t) (ended (on_cores t m)) (ended (on_cores t m'))
    unfolding flags_of
    forces_less = more.forces_less (system_of t) (timed legal) (flags_of t) (flagged legal) some h

    -- Where forcing accepts with m cores it accepts with every larger number.
    pub accepts_more : accepts_on t m ≡ true → accepts_on t m' ≡ true
    unfolding flags_of
    accepts_more ok =
        force_yes (on_cores t m')
        (more.accepts_more (system_of t) (timed legal) (flags_of t) (flagged legal) some h
        (yes_force (on_cores t m) ok))

    -- Where forcing refuses with more cores it refuses with fewer.
    pub refuses_less : accepts_on t m' ≡ false → accepts_on t m ≡ false
    refuses_less bad = go (accepts_on t m) refl
      where
        go : (b : Bool) → accepts_on t m ≡ b → b ≡ false
        go true e = sym (accepts_more e) ∙ bad
        go false e = refl

  -- The fewest: forcing accepts with j + 1 cores, and with j it refuses or there are none.
  pub fewest_is : {j : ℕ} → j < 16 → accepts_on t (suc j) ≡ true → (0 < j → accepts_on t j ≡ false)
      → fewest_cores t ≡ suc j
  unfolding fewest_cores
  fewest_is {j} small ok bad =
      first_is (λ i. accepts_on t (suc i))
      (record {
        inside = small;
        holds = ok;
        before = λ i lt. refuses_less (omega arith) lt (bad (omega arith));
      })

  pub fewest_none : accepts_on t 16 ≡ false → fewest_cores t ≡ 0
  unfolding fewest_cores
  fewest_none bad =
      first_none (λ i. accepts_on t (suc i)) (λ i lt. refuses_less (omega arith) (omega arith) bad)
