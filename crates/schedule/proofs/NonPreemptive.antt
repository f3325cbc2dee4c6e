-- The line of a non-preemptive task: a job that started within the first l quanta would be finished within
-- its bound l + C - 1, since it is not preempted. So it waits through the whole window, and what the other
-- tasks use of it is covered by their shares and, for at most cores of them, their blocking: against the line
-- of l.
-- Assumes nothing.
use Rattle.std.proofs.Common.{ℕ, zero, suc, ◌+◌, ◌*◌, ◌-◌, ◌≤◌, ◌<◌, arith, eq-zero-or-pos, le_trans, ◌≡◌}
use Rattle.std.proofs.Common.{refl, ap, ◌⊎◌, inl, inr, ⊎_elim, ltb}
use Rattle.base.specs.Sums.{sum_to}
use Rattle.model.specs.Bound.{System, W, E, share_of, block_of, B}
use Rattle.base.proofs.OrderLaws.{le_or_lt}
use Rattle.schedule.specs.Schedule.{Run, done, lower}
use Rattle.counting.proofs.Counts.{zero_unless, eq_or}
use Rattle.schedule.proofs.Facts.{Base, done_long, done_suc, numbered}
use Rattle.schedule.proofs.Window.{used}
use Rattle.counting.proofs.Cover.{from_non, share_of_non, block_of_non, covered, share_block}
use Rattle.schedule.proofs.Waiting.{
  false_unless,
  Suspect,
  Idle,
  ones,
  ones_sum,
  whole,
  used_own,
  used_many,
  used_at_most,
  used_at_work,
  used_by_one,
  clean_pre,
  clean_share,
}
use Rattle.schedule.proofs.Blocking.{
  blockers,
  Blocker,
  blocker_of,
  blockers_count,
  Begun,
  blocks,
  blockers_few,
  others_idle,
  blocker_due_later,
  blocker_not_higher,
  blocker_short,
}

module _ {s : System} {fl : ℕ → ℕ} {x : Run} {k a r l : ℕ} (f : Base s fl x) (u : Suspect s fl x k a r l)
    (non : fl k ≡ 0) where
  -- the job does not start in the window
  module _ (late : done x k a (r + (l + (s.C k - 1))) < x.need k a) where
    goes_on : (t d : ℕ) → r ≤ t → 0 < x.runs k a t
        → (suc d ≤ done x k a (t + suc d)) ⊎ (x.need k a ≤ done x k a (t + suc d))
    goes_on t zero h p =
        inl (rw (let e : t + suc zero ≡ suc t = omega arith in e) (omega (arith, done_suc f k a t)))
    goes_on t (suc d) h p =
        rw (let e : t + suc (suc d) ≡ suc (t + suc d) = omega arith in e) (go (goes_on t d h p))
      where
        go : (suc d ≤ done x k a (t + suc d)) ⊎ (x.need k a ≤ done x k a (t + suc d))
            → (suc (suc d) ≤ done x k a (suc (t + suc d))) ⊎ (x.need k a ≤ done x k a (suc (t + suc d)))
        go (inr g) = inr (omega (arith, done_suc f k a (t + suc d)))
        go (inl g) =
            ⊎_elim
            (λ (g' : x.need k a ≤ done x k a (t + suc d)). inr (omega (arith, done_suc f k a (t + suc d))))
            (λ (g' : done x k a (t + suc d) < x.need k a).
            inl
            (omega (
              arith,
              done_suc f k a (t + suc d),
              f.rules.stays k a (t + suc d) u.place non (omega arith)
                  (record { released = omega (arith, u.released); unfinished = g' }),
            )))
            (le_or_lt (x.need k a) (done x k a (t + suc d)))

    not_started : (t : ℕ) → t < l → 0 < x.runs k a (r + t) → ⊥
    not_started t h p =
        let d : ℕ = x.need k a - 1 in
        let far : done x k a (r + t + suc d) ≤ done x k a (r + (l + (s.C k - 1))) =
        done_long f k a (r + t + suc d) (r + (l + (s.C k - 1)))
        (omega (arith, f.rules.within k a u.place)) in
        ⊎_elim (λ g. omega (arith, far)) (λ g. omega (arith, far)) (goes_on (r + t) d (omega arith) p)

    pub waits_throughout : Idle x k a r l
    waits_throughout t h = zero_unless (x.runs k a (r + t)) (not_started t h)

  -- the sum
  module _ (idle : Idle x k a r l) (begun : Begun s x k a r l) where
    blocked : (i : ℕ) → i < s.count → (i ≡ k → ⊥) → fl i ≡ 0 → Blocker s x k a r i
        → used x r l ones l i ≤ share_of s fl k l i + block_of s fl k l i
    blocked i lt ne fi v =
        rw (share_of_non s fl k l i ne non, block_of_non s fl k l i ne non, fi)
        (share_block s.policy (s.higher k i) (ltb (s.D k) (s.D i)) (W s i l) (E s k i) (s.C i) l
        (used x r l ones l i) (used_at_work f u (whole idle) i lt)
        (omega (arith, used_at_most f u (whole idle) i lt, ones_sum l))
        (le_trans
        (used_by_one f u (whole idle) i v.job
        (others_idle f u idle begun lt ne v s.policy refl))
        (blocker_short f u idle begun lt ne v))
        (blocker_due_later f u idle begun lt ne v) (blocker_not_higher f u idle begun lt ne v))

    -- no lower job executes in the window where none does in the quantum before
    unblocked : (i : ℕ) → i < s.count → (i ≡ k → ⊥) → blockers s x k a r i ≡ 0
        → used x r l ones l i ≤ share_of s fl k l i
    unblocked i lt ne z =
        clean_share f u idle non i lt ne
        (λ j t h _ q.
        false_unless (lower s x k a i j)
        (λ low.
        let b : (p : ℕ) × (r ≡ suc p) × (0 < x.runs i j p) = blocks f u idle begun i j t lt ne low h q in
        omega (
          arith,
          blockers_count s x k a r b.0 i j b.1 low b.2
              (omega (arith, numbered f i j lt, (f.rules.only i j b.0 lt b.2).released)),
        )))

    each : 0 < l → (i : ℕ) → i < s.count
        → used x r l ones l i ≤ share_of s fl k l i + blockers s x k a r i * block_of s fl k l i
    each pos i lt = ⊎_elim own other (eq_or i k)
      where
        own : i ≡ k → used x r l ones l i ≤ share_of s fl k l i + blockers s x k a r i * block_of s fl k l i
        own e = omega (arith, ap (used x r l ones l) e, used_own f u (whole idle))

        other : (i ≡ k → ⊥)
            → used x r l ones l i ≤ share_of s fl k l i + blockers s x k a r i * block_of s fl k l i
        other ne =
            ⊎_elim
            (λ (fi : fl i ≡ 0).
            ⊎_elim (λ (z : blockers s x k a r i ≡ 0). omega (arith, unblocked i lt ne z))
            (λ (z : 0 < blockers s x k a r i).
            let one : blockers s x k a r i ≡ 1 =
            omega (arith, (blockers_few f u idle begun r refl pos).flags i lt) in
            rw one (omega (arith, blocked i lt ne fi (blocker_of s x k a r i z))))
            (eq-zero-or-pos (blockers s x k a r i)))
            (λ (fi : 0 < fl i).
            omega (
              arith,
              clean_share f u idle non i lt ne
                  (clean_pre f u (whole idle) i lt ne (λ (z : fl i ≡ 0). omega arith)),
            ))
            (eq-zero-or-pos (fl i))

    pub no_suspect_non : ⊥
    no_suspect_non =
        let pos : 0 < l = omega (arith, u.length.line, from_non s fl k l non) in
        let many : s.cores * l ≤ sum_to (used x r l ones l) s.count =
        omega (arith, ap (λ n. s.cores * n) (ones_sum l), used_many f u (whole idle)) in
        let most : l ≤ B s fl k l =
        covered s fl k l l (used x r l ones l) (blockers s x k a r) f.table.cores many
        (blockers_few f u idle begun r refl pos) (each pos) in
        omega (arith, u.length.line, from_non s fl k l non)
