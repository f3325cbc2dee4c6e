-- One job (k,a), released at r, that is not finished at the end of the window [r, r + l) of its bound: the
-- quanta in which it does not execute. There every core is busy with other tasks, and what a task uses of
-- these quanta is at most its share, unless jobs that are lower than (k,a) execute.
-- Assumes nothing.
use Rattle.std.proofs.Common.{ℕ, zero, suc, ◌+◌, ◌*◌, ◌≤◌, ◌<◌, arith, eq-or-lt_of_le, le_refl, ◌≡◌, refl}
use Rattle.std.proofs.Common.{sym, ap, ◌∙◌, Bool, true, false, not, ⊎_elim, ltb}
use Rattle.base.specs.Sums.{sum_to}
use Rattle.model.specs.Bound.{EDF, FP, System, W, E, share_of}
use Rattle.base.proofs.OrderLaws.{le_or_lt}
use Rattle.schedule.specs.Schedule.{Run, done, Pending, Waits, lower, lower_by}
use Rattle.counting.proofs.Counts.{zero_unless, eq_or}
use Rattle.schedule.proofs.Facts.{Base, done_long}
use Rattle.schedule.proofs.Window.{
  Past,
  alone,
  spent,
  used,
  used_few,
  used_work,
  used_due,
  used_none,
  used_one,
  counting,
}
use Rattle.counting.proofs.Cover.{Length, share_of_non, share_non}

pub true_not_false : {b : Bool} → b ≡ true → b ≡ false → ⊥
true_not_false e e' = let z : ◌≡◌ {A = ℕ} 0 1 = cc in omega arith

pub false_unless : (b : Bool) → (b ≡ true → ⊥) → b ≡ false
false_unless true h = absurd (h refl)
false_unless false h = refl

pub lower_edf : (s : System) (x : Run) (k a i j : ℕ) → s.policy ≡ EDF
    → lower s x k a i j ≡ ltb (x.release k a + s.D k) (x.release i j + s.D i)
unfolding lower lower_by
lower_edf s x k a i j e = rw e

pub lower_fp : (s : System) (x : Run) (k a i j : ℕ) → s.policy ≡ FP → lower s x k a i j ≡ not (s.higher k i)
unfolding lower lower_by
lower_fp s x k a i j e = rw e

-- The job under suspicion. The theorem's induction gives `past`; `short` follows from the bound being at most
-- D.
pub record Suspect (s : System) (fl : ℕ → ℕ) (x : Run) (k a r l : ℕ) : Type 0 where
  pub place : k < s.count
  pub released : x.release k a ≡ r
  pub past : Past s x r l
  pub length : Length s fl k l
  pub unfinished : done x k a (r + l) < x.need k a
  pub short : l ≤ s.D k

-- Some quanta of the window in which (k,a) does not execute: those t < b with wt t = 1.
pub record Quanta (x : Run) (k a r l : ℕ) (wt : ℕ → ℕ) (b : ℕ) : Type 0 where
  pub inside : b ≤ l
  pub bit : (t : ℕ) → t < b → wt t ≤ 1
  pub idle : (t : ℕ) → t < b → 0 < wt t → x.runs k a (r + t) ≡ 0

-- (k,a) does not execute in the window at all
abbrev pub Idle : Run → ℕ → ℕ → ℕ → ℕ → Type 0
Idle x k a r l = (t : ℕ) → t < l → x.runs k a (r + t) ≡ 0

-- then the whole window serves
abbrev pub ones : ℕ → ℕ
ones t = 1

pub ones_sum : (n : ℕ) → sum_to ones n ≡ n
unfolding sum_to
ones_sum zero = refl
ones_sum (suc n) = omega (arith, ones_sum n)

pub whole : {x : Run} {k a r l : ℕ} → Idle x k a r l → Quanta x k a r l ones l
whole idle = record { inside = le_refl _; bit = λ t _. le_refl 1; idle = λ t h _. idle t h }

-- No job of i that is lower than (k,a) executes in these quanta.
abbrev pub Clean : System → Run → ℕ → ℕ → ℕ → (ℕ → ℕ) → ℕ → ℕ → Type 0
Clean s x k a r wt b i =
    (j t : ℕ) → t < b → 0 < wt t → 0 < x.runs i j (r + t) → lower s x k a i j ≡ false

module _ {s : System} {fl : ℕ → ℕ} {x : Run} {k a r l : ℕ} (f : Base s fl x)
    (u : Suspect s fl x k a r l) where
  pending : (t : ℕ) → t ≤ l → Pending x k a (r + t)
  pending t h = record {
    released = omega (arith, u.released);
    unfinished = omega (arith, u.unfinished, done_long f k a (r + t) (r + l) (omega arith));
  }

  pub waits : (t : ℕ) → t ≤ l → x.runs k a (r + t) ≡ 0 → Waits x k a (r + t)
  waits t h e = record { pending = pending t h; idle = e }

  -- no other job of k executes while (k,a) waits
  own : (j t : ℕ) → t < l → x.runs k a (r + t) ≡ 0 → x.runs k j (r + t) ≡ 0
  own j t h e = zero_unless (x.runs k j (r + t)) (λ p. ⊎_elim (same p) (other p) (eq_or j a))
    where
      same : 0 < x.runs k j (r + t) → j ≡ a → ⊥
      same p q = omega (arith, ap (λ n. x.runs k n (r + t)) q)

      other : 0 < x.runs k j (r + t) → (j ≡ a → ⊥) → ⊥
      other p q =
          let pj : Pending x k j (r + t) = f.rules.only k j (r + t) u.place p in
          let pa : Pending x k a (r + t) = pending t (omega arith) in
          ⊎_elim
          (λ (g : j ≤ a).
          ⊎_elim q (λ (g' : j < a). alone f u.past k j a (r + t) u.place (omega arith) g' pj pa)
          (eq-or-lt_of_le g))
          (λ (g : a < j). alone f u.past k a j (r + t) u.place (omega arith) g pa pj) (le_or_lt j a)

  module _ {wt : ℕ → ℕ} {b : ℕ} (c : Quanta x k a r l wt b) where
    -- its own task uses none of these quanta,
    pub used_own : used x r l wt b k ≡ 0
    used_own =
        used_none f u.past c.inside c.bit k
        (λ j t h p. own j t (omega (arith, c.inside)) (c.idle t h p))

    -- and all tasks together use cores times as many
    pub used_many : s.cores * sum_to wt b ≤ sum_to (used x r l wt b) s.count
    used_many =
        counting f u.past c.inside c.bit s.cores
        (λ t h p.
        omega (
          arith,
          f.rules.full k a (r + t) u.place (waits t (omega (arith, c.inside)) (c.idle t h p)),
        ))

    pub used_at_most : (i : ℕ) → i < s.count → used x r l wt b i ≤ sum_to wt b
    used_at_most i lt = used_few f u.past c.inside c.bit i lt

    pub used_at_work : (i : ℕ) → i < s.count → used x r l wt b i ≤ W s i l
    used_at_work i lt = used_work f u.past c.inside c.bit i lt

    -- at most what one job executes in the window, where no other job of i executes in them
    pub used_by_one : (i j : ℕ) → ((j' t : ℕ) → t < b → (j' ≡ j → ⊥) → x.runs i j' (r + t) ≡ 0)
        → used x r l wt b i ≤ spent x r l i j
    used_by_one i j others = used_one f u.past c.inside c.bit i j others

    pub clean_edf : (i : ℕ) → i < s.count → Clean s x k a r wt b i → s.policy ≡ EDF
        → used x r l wt b i ≤ E s k i
    clean_edf i lt clean e =
        used_due f u.past c.inside c.bit k i lt
        (λ j t h p q.
        ap (λ n. ltb (n + s.D k) (x.release i j + s.D i)) (sym u.released)
        ∙ sym (lower_edf s x k a i j e)
        ∙ clean j t h p q)

    pub clean_fp : (i : ℕ) → Clean s x k a r wt b i → s.policy ≡ FP → s.higher k i ≡ false
        → used x r l wt b i ≡ 0
    clean_fp i clean e low =
        used_none f u.past c.inside c.bit i
        (λ j t h p.
        zero_unless (x.runs i j (r + t))
        (λ q. true_not_false (lower_fp s x k a i j e ∙ ap not low) (clean j t h p q)))

    -- A5: a preemptive i is clean
    pub clean_pre : (i : ℕ) → i < s.count → (i ≡ k → ⊥) → (fl i ≡ 0 → ⊥) → Clean s x k a r wt b i
    clean_pre i lt ne pre j t h p q =
        false_unless (lower s x k a i j)
        (λ low.
        pre
        (f.kind k a i j (r + t) u.place lt ne (waits t (omega (arith, c.inside)) (c.idle t h p)) q low))

  -- for a non-preemptive k that does not execute in the window, the share of a clean i covers what i uses
  pub clean_share : Idle x k a r l → fl k ≡ 0 → (i : ℕ) → i < s.count → (i ≡ k → ⊥)
      → Clean s x k a r ones l i → used x r l ones l i ≤ share_of s fl k l i
  clean_share idle non i lt ne clean =
      rw (share_of_non s fl k l i ne non)
      (share_non s.policy (fl i) (s.higher k i) (W s i l) (E s k i) l (used x r l ones l i)
      (used_at_work (whole idle) i lt) (omega (arith, used_at_most (whole idle) i lt, ones_sum l))
      (clean_edf (whole idle) i lt clean) (clean_fp (whole idle) i clean))
