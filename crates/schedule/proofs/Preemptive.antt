-- The line of a preemptive task: a job that is not finished within its bound l executes in fewer than C
-- quanta of the window, so it waits in l - C + 1 of them at least. The first l - C + 1 of these are covered
-- by the shares: against the line of l.
-- Assumes nothing.
use Rattle.std.proofs.Common.{ℕ, ◌+◌, ◌-◌, ◌≤◌, ◌<◌, arith, ◌≡◌, ap, ⊎_elim}
use Rattle.base.specs.Sums.{sum_to}
use Rattle.model.specs.Bound.{System, W, E, cap, share_of, B}
use Rattle.schedule.specs.Schedule.{Run}
use Rattle.counting.proofs.Counts.{eq_or, reach, rest}
use Rattle.schedule.proofs.Facts.{Base}
use Rattle.schedule.proofs.Window.{used, spent_done}
use Rattle.counting.proofs.Cover.{from_pre, cap_pre, share_of_lem, covered_by_shares, share_pre}
use Rattle.schedule.proofs.Waiting.{
  Suspect,
  Quanta,
  used_own,
  used_many,
  used_at_most,
  used_at_work,
  clean_edf,
  clean_fp,
  clean_pre,
}

module _ {s : System} {fl : ℕ → ℕ} {x : Run} {k a r l : ℕ} (f : Base s fl x) (u : Suspect s fl x k a r l)
    (pre : fl k ≡ 0 → ⊥) where
  module _ {wt : ℕ → ℕ} {b : ℕ} (c : Quanta x k a r l wt b) (many : sum_to wt b ≡ l - s.C k + 1) where
    each : (i : ℕ) → i < s.count → used x r l wt b i ≤ share_of s fl k l i
    each i lt =
        ⊎_elim (λ (e : i ≡ k). omega (arith, ap (used x r l wt b) e, used_own f u c))
        (λ (ne : i ≡ k → ⊥).
        rw (share_of_lem s fl k l i ne)
        (share_pre s.policy (fl k) (fl i) (s.higher k i) (W s i l) (E s k i) (cap s fl k l)
        (used x r l wt b i) pre (used_at_work f u c i lt)
        (omega (arith, many, used_at_most f u c i lt, cap_pre s fl k l pre))
        (λ e p. clean_edf f u c i lt (clean_pre f u c i lt ne p) e)
        (λ e p low. clean_fp f u c i (clean_pre f u c i lt ne p) e low)))
        (eq_or i k)

    too_many : s.C k ≤ l → ⊥
    too_many room =
        let most : l - s.C k + 1 ≤ B s fl k l =
        covered_by_shares s fl k l (l - s.C k + 1) (used x r l wt b) f.table.cores
        (rw (← many) (used_many f u c)) each in
        omega (arith, u.length.line, from_pre s fl k l pre)

  pub no_suspect_pre : ⊥
  no_suspect_pre =
      let wt : ℕ → ℕ = λ t. 1 - x.runs k a (r + t) in
      let room : s.C k ≤ l = omega (arith, u.length.start, from_pre s fl k l pre) in
      let found : (b : ℕ) × (b ≤ l) × (sum_to wt b ≡ l - s.C k + 1) =
      reach wt l (l - s.C k + 1) (λ t _. omega arith)
      (omega (
        arith,
        u.unfinished,
        rest (λ t. x.runs k a (r + t)) l (λ t _. f.rules.once k a (r + t) u.place),
        spent_done f u.past k a,
        f.rules.within k a u.place,
      )) in
      too_many {wt = wt} {b = found.0}
      (record { inside = found.1; bit = λ t _. omega arith; idle = λ t _ p. omega arith })
      found.2 room
