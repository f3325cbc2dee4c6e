-- Blocking: which tasks have jobs lower than (k,a) that execute while (k,a) waits through the window of its
-- bound. Such a job was started before r, and being non-preemptive executes in the quantum before r; so there
-- are at most cores of them, each has C - 1 quanta left at most, and no other job of its task executes in the
-- window.
-- Assumes nothing.
use Rattle.std.proofs.Common.{ℕ, zero, suc, ◌+◌, ◌*◌, ◌-◌, ◌≤◌, ◌<◌, arith, eq-or-lt_of_le, eq-zero-or-pos}
use Rattle.std.proofs.Common.{le_trans, ◌≡◌, refl, sym, ap, ◌∙◌, Bool, true, false, ⊎_elim, ltb, ltb-true}
use Rattle.std.proofs.Common.{lt-ltb}
use borrow.Author.Tests.{not-true}
use Rattle.base.specs.Sums.{sum_to}
use Rattle.base.specs.Choice.{pick}
use Rattle.model.specs.Bound.{Policy, EDF, FP, System}
use Rattle.base.proofs.SumLaws.{sum_mono, sum_part}
use Rattle.base.proofs.OrderLaws.{le_or_lt}
use Rattle.base.proofs.TopLaws.{Choice}
use Rattle.schedule.specs.Schedule.{Run, done, busy, Pending, lower}
use Rattle.counting.proofs.Counts.{zero_unless, pos_unless, sum_zero, some_place, one_at_most}
use Rattle.schedule.proofs.Facts.{Base, done_long, done_suc, started, no_more, spaced}
use Rattle.schedule.proofs.Window.{alone, spent, spent_done}
use Rattle.schedule.proofs.Waiting.{lower_edf, lower_fp, Suspect, Idle, waits}

-- how many jobs of i that are lower than (k,a) execute in the quantum before r
pub blockers : System → Run → ℕ → ℕ → ℕ → ℕ → ℕ
blockers s x k a zero i = 0
blockers s x k a (suc p) i = sum_to (λ j. pick (lower s x k a i j) 1 0 * x.runs i j p) (suc p)

pick_one : (b : Bool) (y : ℕ) → pick b 1 0 * y ≤ y
pick_one true y = omega arith
pick_one false y = omega arith

pub pick_pos : (b : Bool) (y : ℕ) → 0 < pick b 1 0 * y → (b ≡ true) × (0 < y)
pick_pos true y h = (refl, omega arith)
pick_pos false y h = absurd (let z : ⊥ = omega arith in z)

-- a lower job (i,j) executes in the quantum before r
pub record Blocker (s : System) (x : Run) (k a r i : ℕ) : Type 0 where
  pub job : ℕ
  pub quantum : ℕ
  pub before : r ≡ suc quantum
  pub low : lower s x k a i job ≡ true
  pub on : 0 < x.runs i job quantum

module _ (s : System) (x : Run) (k a : ℕ) where
  pub blocker_of : (r i : ℕ) → 0 < blockers s x k a r i → Blocker s x k a r i
  unfolding blockers
  blocker_of zero i h = absurd (let z : ⊥ = omega arith in z)
  blocker_of (suc p) i h =
      ⊎_elim (λ z. absurd (let y : ⊥ = omega arith in y))
      (λ (q : (j : ℕ) × (j < suc p) × (0 < pick (lower s x k a i j) 1 0 * x.runs i j p)).
      let w : (lower s x k a i q.0 ≡ true) × (0 < x.runs i q.0 p) =
      pick_pos (lower s x k a i q.0) (x.runs i q.0 p) q.2 in
      record { job = q.0; quantum = p; before = refl; low = w.0; on = w.1 })
      (some_place (λ j. pick (lower s x k a i j) 1 0 * x.runs i j p) (suc p))

  pub blockers_count : (r p i j : ℕ) → r ≡ suc p → lower s x k a i j ≡ true → 0 < x.runs i j p → j ≤ p
      → 0 < blockers s x k a r i
  unfolding blockers
  blockers_count r p i j e low h le =
      rw e
      (omega (
        arith,
        ap (λ b. pick b 1 0 * x.runs i j p) low,
        sum_part (λ j. pick (lower s x k a i j) 1 0 * x.runs i j p) (suc p) j (omega arith),
      ))

-- A5's second half, along the window: a lower job that executes was started before.
abbrev pub Begun : System → Run → ℕ → ℕ → ℕ → ℕ → Type 0
Begun s x k a r l = (i j t : ℕ) → i < s.count → (i ≡ k → ⊥) → t < l → 0 < x.runs i j (r + t)
    → lower s x k a i j ≡ true → 0 < done x i j (r + t)

module _ {s : System} {fl : ℕ → ℕ} {x : Run} {k a r l : ℕ} (f : Base s fl x) (u : Suspect s fl x k a r l)
    (idle : Idle x k a r l) (begun : Begun s x k a r l) where
  -- no lower job is started in the window
  unstarted : (i j : ℕ) → i < s.count → (i ≡ k → ⊥) → lower s x k a i j ≡ true → done x i j r ≡ 0
      → (d : ℕ) → d ≤ l → done x i j (r + d) ≡ 0
  unstarted i j lt ne low z zero h = rw (let e : r + zero ≡ r = omega arith in e) z
  unstarted i j lt ne low z (suc d) h =
      let ih : done x i j (r + d) ≡ 0 = unstarted i j lt ne low z d (omega arith) in
      rw (let e : r + suc d ≡ suc (r + d) = omega arith in e)
      (omega (
        arith,
        done_suc f i j (r + d),
        zero_unless (x.runs i j (r + d)) (λ p. omega (arith, begun i j d lt ne h p low)),
      ))

  -- so one that executes there executes in the quantum before r
  pub blocks : (i j t : ℕ) → i < s.count → (i ≡ k → ⊥) → lower s x k a i j ≡ true → t < l
      → 0 < x.runs i j (r + t) → (p : ℕ) × (r ≡ suc p) × (0 < x.runs i j p)
  blocks i j t lt ne low h q = go r refl
    where
      non : fl i ≡ 0
      non = f.kind k a i j (r + t) u.place lt ne (waits f u t (omega arith) (idle t h)) q low

      early : 0 < done x i j r
      early =
          pos_unless (done x i j r)
          (λ z. omega (arith, begun i j t lt ne h q low, unstarted i j lt ne low z t (omega arith)))

      goes_on : (p : ℕ) → r ≡ suc p → x.runs i j p ≡ 0 → 0 < x.runs i j p
      goes_on p e z =
          let b : 0 < done x i j p = omega (arith, early, ap (done x i j) e, done_suc f i j p) in
          let pending : Pending x i j p = record {
            released = omega (arith, started f i j p lt b);
            unfinished =
                omega (
                  arith,
                  done_long f i j p (r + t) (omega arith),
                  (f.rules.only i j (r + t) lt q).unfinished,
                );
          } in
          omega (arith, f.rules.stays i j p lt non b pending)

      go : (n : ℕ) → r ≡ n → (p : ℕ) × (r ≡ suc p) × (0 < x.runs i j p)
      go zero e = absurd (let y : ⊥ = omega (arith, started f i j r lt early) in y)
      go (suc p) e = (p, e, ⊎_elim (goes_on p e) (λ z. z) (eq-zero-or-pos (x.runs i j p)))

  -- at most cores tasks have such a job, each of them one
  pub blockers_few : (n : ℕ) → r ≡ n → 0 < l → Choice s.cores s.count (blockers s x k a n)
  unfolding blockers busy
  blockers_few zero e h = record {
    flags = λ i _. omega arith;
    few = omega (arith, sum_zero (λ i. 0) s.count (λ i _. refl));
  }
  blockers_few (suc p) e h = record {
    flags = λ i lt.
        le_trans (less i)
        (one_at_most (λ j. x.runs i j p) (suc p) (λ j _. f.rules.once i j p lt)
        (λ j j' g _ v w.
        alone f u.past i j j' p lt (omega arith) g (f.rules.only i j p lt v)
        (f.rules.only i j' p lt w)));
    few =
        le_trans
        (sum_mono (λ i. sum_to (λ j. pick (lower s x k a i j) 1 0 * x.runs i j p) (suc p))
        (λ i. sum_to (λ j. x.runs i j p) (suc p)) s.count (λ i _. less i))
        (omega (arith, f.rules.fits p));
  }
    where
      less : (i : ℕ) → sum_to (λ j. pick (lower s x k a i j) 1 0 * x.runs i j p) (suc p)
          ≤ sum_to (λ j. x.runs i j p) (suc p)
      less i =
          sum_mono (λ j. pick (lower s x k a i j) 1 0 * x.runs i j p) (λ j. x.runs i j p) (suc p)
          (λ j _. pick_one (lower s x k a i j) (x.runs i j p))

  -- Below: i has such a job, (i,c), which executes in the quantum p before r.
  module _ {i : ℕ} (lt : i < s.count) (ne : i ≡ k → ⊥) (v : Blocker s x k a r i) where
    abbrev c : ℕ
    c = v.job

    abbrev p : ℕ
    p = v.quantum

    two_before : (j : ℕ) → (j ≡ c → ⊥) → 0 < x.runs i j p → ⊥
    two_before j nj h =
        ⊎_elim
        (λ (g : j ≤ c).
        ⊎_elim nj
        (λ (g' : j < c).
        alone f u.past i j c p lt (omega (arith, v.before)) g' (f.rules.only i j p lt h)
        (f.rules.only i c p lt v.on))
        (eq-or-lt_of_le g))
        (λ (g : c < j).
        alone f u.past i c j p lt (omega (arith, v.before)) g (f.rules.only i c p lt v.on)
        (f.rules.only i j p lt h))
        (le_or_lt j c)

    -- FP: another job of i would be lower too, and execute in p as well
    others_fp : s.policy ≡ FP → (j t : ℕ) → t < l → (j ≡ c → ⊥) → 0 < x.runs i j (r + t) → ⊥
    others_fp e j t h nj q =
        let b : (n : ℕ) × (r ≡ suc n) × (0 < x.runs i j n) =
        blocks i j t lt ne (lower_fp s x k a i j e ∙ sym (lower_fp s x k a i c e) ∙ v.low) h q in
        two_before j nj (rw (let y : p ≡ b.0 = omega (arith, b.1, v.before) in y) b.2)

    after : s.policy ≡ EDF → r + s.D k < x.release i c + s.D i
    after e =
        omega (
          arith,
          u.released,
          ltb-true (x.release k a + s.D k) (x.release i c + s.D i)
              (sym (lower_edf s x k a i c e) ∙ v.low),
        )

    -- EDF: an earlier job of i is finished by r, a later one is not released by r + l
    others_edf : s.policy ≡ EDF → (j t : ℕ) → t < l → (j ≡ c → ⊥) → 0 < x.runs i j (r + t) → ⊥
    others_edf e j t h nj q = ⊎_elim (λ g. ⊎_elim nj earlier (eq-or-lt_of_le g)) later (le_or_lt j c)
      where
        earlier : j < c → ⊥
        earlier g =
            let d : x.need i j ≤ done x i j (r + t) =
            u.past.ended i j (r + t) lt (omega arith)
            (omega (
              arith,
              v.before,
              spaced f i j c lt g,
              (f.rules.only i c p lt v.on).released,
              f.table.period i lt,
            )) in
            omega (arith, (f.rules.only i j (r + t) lt q).unfinished)

        later : c < j → ⊥
        later g =
            omega (
              arith,
              u.short,
              spaced f i c j lt g,
              after e,
              f.table.period i lt,
              (f.rules.only i j (r + t) lt q).released,
            )

    pub others_idle : (q : Policy) → s.policy ≡ q → (j t : ℕ) → t < l → (j ≡ c → ⊥) → x.runs i j (r + t) ≡ 0
    others_idle EDF e j t h nj = zero_unless (x.runs i j (r + t)) (others_edf e j t h nj)
    others_idle FP e j t h nj = zero_unless (x.runs i j (r + t)) (others_fp e j t h nj)

    pub blocker_due_later : s.policy ≡ EDF → ltb (s.D k) (s.D i) ≡ true
    blocker_due_later e =
        lt-ltb (s.D k) (s.D i)
        (omega (arith, v.before, after e, (f.rules.only i c p lt v.on).released))

    pub blocker_not_higher : s.policy ≡ FP → s.higher k i ≡ false
    blocker_not_higher e = not-true (s.higher k i) (sym (lower_fp s x k a i c e) ∙ v.low)

    -- it has executed in p, so C - 1 quanta are left
    pub blocker_short : spent x r l i c ≤ s.C i - 1
    blocker_short =
        omega (
          arith,
          v.on,
          spent_done f u.past i c,
          ap (done x i c) v.before,
          done_suc f i c p,
          no_more f i c (r + l) lt,
          f.rules.within i c lt,
        )
