-- The weaker rule, under which a non-preemptive job may be started in the quantum of a higher one's release.
-- The line of a preemptive task never used more of A5. The line of a non-preemptive task still holds where
-- the shares alone cover: under FP if no non-preemptive task stands lower; under EDF without slacks, since
-- only one job of a task with a lower job executes in the window, and E(k,i) is at least min(C_i, D_k).
-- Assumes nothing.
use Rattle.std.proofs.Common.{ℕ, zero, suc, ◌+◌, ◌*◌, ◌≤◌, ◌<◌, min, arith, eq-or-lt_of_le, eq-zero-or-pos}
use Rattle.std.proofs.Common.{◌≡◌, sym, ap, ◌∙◌, true, ◌⊎◌, inl, inr, ⊎_elim, ltb-true}
use Rattle.base.specs.Sums.{sum_to}
use Rattle.base.specs.Choice.{pick}
use Rattle.model.specs.Bound.{Policy, EDF, FP, System, W, E, share_of, B}
use Rattle.model.specs.Demands.{Slackless}
use Rattle.base.proofs.SumLaws.{sum_part}
use Rattle.base.proofs.OrderLaws.{le_or_lt}
use Rattle.model.proofs.TermLaws.{E-least}
use Rattle.schedule.specs.Schedule.{Run, done, lower}
use Rattle.schedule.specs.Promise.{Bounded}
use Rattle.schedule.specs.OneByOne.{FollowsOneByOne, SoundOneByOneEDF, SoundOneByOneFP}
use Rattle.counting.proofs.Counts.{zero_unless, eq_or, some_place}
use Rattle.schedule.proofs.Facts.{
  Fit,
  Base,
  done_suc,
  idle_before,
  none_before,
  no_more,
  numbered,
  spaced,
}
use Rattle.schedule.proofs.Window.{spent, spent_done, used}
use Rattle.counting.proofs.Cover.{from_non, share_of_non, covered_by_shares, share_non}
use Rattle.schedule.proofs.Waiting.{
  true_not_false,
  false_unless,
  lower_edf,
  Suspect,
  Idle,
  ones,
  ones_sum,
  whole,
  waits,
  used_own,
  used_many,
  used_at_most,
  used_at_work,
  used_by_one,
  clean_pre,
  clean_share,
}
use Rattle.schedule.proofs.Blocking.{pick_pos}
use Rattle.schedule.proofs.Sound.{fit, keeps_all, passing_bounded}

edf_not_fp : {q : Policy} → q ≡ EDF → q ≡ FP → ⊥
edf_not_fp e e' = let z : ◌≡◌ {A = ℕ} 0 1 = cc in omega arith

-- a lower job that executes was started before, or this is the quantum r
abbrev BegunOrNow : System → Run → ℕ → ℕ → ℕ → ℕ → Type 0
BegunOrNow s x k a r l = (i j t : ℕ) → i < s.count → (i ≡ k → ⊥) → t < l → 0 < x.runs i j (r + t)
    → lower s x k a i j ≡ true → (0 < done x i j (r + t)) ⊎ (t ≡ 0)

module _ {s : System} {fl : ℕ → ℕ} {x : Run} {k a r l : ℕ} (f : Base s fl x) (u : Suspect s fl x k a r l)
    (non : fl k ≡ 0) (idle : Idle x k a r l) where
  -- where the shares cover what the other tasks use, there is no suspect
  shares_cover : ((i : ℕ) → i < s.count → (i ≡ k → ⊥) → used x r l ones l i ≤ share_of s fl k l i) → ⊥
  shares_cover each =
      let many : s.cores * l ≤ sum_to (used x r l ones l) s.count =
      omega (arith, ap (λ n. s.cores * n) (ones_sum l), used_many f u (whole idle)) in
      let most : l ≤ B s fl k l =
      covered_by_shares s fl k l l (used x r l ones l) f.table.cores many
      (λ i lt.
      ⊎_elim (λ (e : i ≡ k). omega (arith, ap (used x r l ones l) e, used_own f u (whole idle))) (each i lt)
      (eq_or i k)) in
      omega (arith, u.length.line, from_non s fl k l non)

  pre_covered : (i : ℕ) → i < s.count → (i ≡ k → ⊥) → 0 < fl i → used x r l ones l i ≤ share_of s fl k l i
  pre_covered i lt ne fi =
      clean_share f u idle non i lt ne (clean_pre f u (whole idle) i lt ne (λ (z : fl i ≡ 0). omega arith))

  used_at_length : (i : ℕ) → i < s.count → used x r l ones l i ≤ l
  used_at_length i lt = omega (arith, used_at_most f u (whole idle) i lt, ones_sum l)

  pub no_suspect_fp : s.policy ≡ FP
      → ((i : ℕ) → i < s.count → (i ≡ k → ⊥) → fl i ≡ 0 → s.higher k i ≡ true) → ⊥
  no_suspect_fp fp up =
      shares_cover (λ i lt ne.
      ⊎_elim
      (λ (fi : fl i ≡ 0).
      rw (share_of_non s fl k l i ne non)
      (share_non s.policy (fl i) (s.higher k i) (W s i l) (E s k i) l (used x r l ones l i)
      (used_at_work f u (whole idle) i lt) (used_at_length i lt) (λ e. absurd (edf_not_fp e fp))
      (λ _ low. absurd (true_not_false (up i lt ne fi) low))))
      (λ (fi : 0 < fl i). pre_covered i lt ne fi) (eq-zero-or-pos (fl i)))

  module _ (edf : s.policy ≡ EDF) (none : Slackless s) (begun : BegunOrNow s x k a r l) where
    -- Below: a lower job (i,c).
    module _ {i : ℕ} (c : ℕ) (lt : i < s.count) (ne : i ≡ k → ⊥) (low : lower s x k a i c ≡ true) where
      -- released after r, it does not start in the window
      unstarted : r < x.release i c → (d : ℕ) → d ≤ l → done x i c (r + d) ≡ 0
      unstarted g zero h = none_before f i c (r + zero) lt (omega arith)
      unstarted g (suc d) h =
          let ih : done x i c (r + d) ≡ 0 = unstarted g d (omega arith) in
          rw (let e : r + suc d ≡ suc (r + d) = omega arith in e)
          (omega (
            arith,
            done_suc f i c (r + d),
            zero_unless (x.runs i c (r + d))
                (λ p.
                ⊎_elim (λ (b : 0 < done x i c (r + d)). omega arith)
                (λ (b : d ≡ 0). omega (arith, idle_before f i c (r + d) lt (omega arith)))
                (begun i c d lt ne h p low)),
          ))

      -- so if it executes there, it is released by r,
      released_by : (t : ℕ) → t < l → 0 < x.runs i c (r + t) → x.release i c ≤ r
      released_by t h p =
          ⊎_elim (λ g. g)
          (λ g.
          absurd
          (let z : ⊥ =
          omega (
            arith,
            unstarted g (suc t) h,
            ap (done x i c) (let e : r + suc t ≡ suc (r + t) = omega arith in e),
            done_suc f i c (r + t),
          ) in z))
          (le_or_lt (x.release i c) r)

      -- and no other job of i executes there
      no_other : x.release i c ≤ r → (j t : ℕ) → t < l → (j ≡ c → ⊥) → 0 < x.runs i j (r + t) → ⊥
      no_other rc j t h nj q =
          let far : r + s.D k < x.release i c + s.D i =
          omega (
            arith,
            u.released,
            ltb-true (x.release k a + s.D k) (x.release i c + s.D i)
                (sym (lower_edf s x k a i c edf) ∙ low),
          ) in
          ⊎_elim
          (λ (g : j ≤ c).
          ⊎_elim nj
          (λ (g' : j < c).
          let d : x.need i j ≤ done x i j (r + t) =
          u.past.ended i j (r + t) lt (omega arith)
          (omega (arith, spaced f i j c lt g', f.table.period i lt)) in
          omega (arith, (f.rules.only i j (r + t) lt q).unfinished))
          (eq-or-lt_of_le g))
          (λ (g : c < j).
          omega (
            arith,
            u.short,
            spaced f i c j lt g,
            f.table.period i lt,
            (f.rules.only i j (r + t) lt q).released,
          ))
          (le_or_lt j c)

      E-big : min (s.C i) (s.D k) ≤ E s k i
      unfolding E
      E-big = rw (none i lt) (E-least (s.D k) (s.T i) (s.C i))

      lower_covered : (t : ℕ) → t < l → 0 < x.runs i c (r + t) → used x r l ones l i ≤ share_of s fl k l i
      lower_covered t h p =
          let rc : x.release i c ≤ r = released_by t h p in
          let one : used x r l ones l i ≤ spent x r l i c =
          used_by_one f u (whole idle) i c
          (λ j t g nj. zero_unless (x.runs i j (r + t)) (no_other rc j t g nj)) in
          let all : used x r l ones l i ≤ s.C i =
          omega (arith, one, spent_done f u.past i c, no_more f i c (r + l) lt, f.rules.within i c lt) in
          rw (share_of_non s fl k l i ne non)
          (share_non s.policy (fl i) (s.higher k i) (W s i l) (E s k i) l (used x r l ones l i)
          (used_at_work f u (whole idle) i lt) (used_at_length i lt)
          (λ _. omega (arith, u.short, E-big, used_at_length i lt, all)) (λ e. absurd (edf_not_fp edf e)))

    -- what the lower job (i,j) executes in the window, 0 for one that is not lower
    low_spent : ℕ → ℕ → ℕ
    low_spent i j = pick (lower s x k a i j) 1 0 * spent x r l i j

    covered_edf : (i : ℕ) → i < s.count → (i ≡ k → ⊥) → used x r l ones l i ≤ share_of s fl k l i
    unfolding low_spent
    covered_edf i lt ne = ⊎_elim clean some (some_place (low_spent i) (r + l))
      where
        clean : sum_to (low_spent i) (r + l) ≡ 0 → used x r l ones l i ≤ share_of s fl k l i
        clean z =
            clean_share f u idle non i lt ne
            (λ j t h _ q.
            false_unless (lower s x k a i j)
            (λ low.
            omega (
              arith,
              ap (λ b. pick b 1 0 * spent x r l i j) low,
              sum_part (low_spent i) (r + l) j
                  (omega (arith, numbered f i j lt, (f.rules.only i j (r + t) lt q).released)),
              sum_part (λ t. x.runs i j (r + t)) l t h,
            )))

        some : (j : ℕ) × (j < r + l) × (0 < low_spent i j) → used x r l ones l i ≤ share_of s fl k l i
        some p =
            let w : (lower s x k a i p.0 ≡ true) × (0 < spent x r l i p.0) =
            pick_pos (lower s x k a i p.0) (spent x r l i p.0) p.2 in
            ⊎_elim (λ (z : spent x r l i p.0 ≡ 0). absurd (let y : ⊥ = omega (arith, w.1) in y))
            (λ (v : (t : ℕ) × (t < l) × (0 < x.runs i p.0 (r + t))).
            lower_covered p.0 lt ne w.0 v.0 v.1 v.2)
            (some_place (λ t. x.runs i p.0 (r + t)) l)

    no_suspect_edf : ⊥
    no_suspect_edf = shares_cover covered_edf

base : (s : System) (fl : ℕ → ℕ) (x : Run) → Fit s → FollowsOneByOne s fl x → Base s fl x
base s fl x ok f = record {
  table = ok;
  rules = f.basic;
  kind = λ k a i j t kn lt ne w h low. (f.order k a i j t kn lt ne w h low).0;
}

pub sound_one_by_one_edf : SoundOneByOneEDF
sound_one_by_one_edf s fl ok edf none pass x f =
    let bd : Bounded s fl = passing_bounded s fl ok none pass in
    let g : Base s fl x = base s fl x (fit s fl ok bd) f in
    keeps_all s fl bd x g
    (λ k a l u non idle.
    no_suspect_edf g u non idle edf none
    (λ i j t lt ne h q low.
    ⊎_elim (λ b. inl b) (λ b. inr (omega arith))
    (f.order k a i j (x.release k a + t) u.place lt ne (waits g u t (omega arith) (idle t h)) q low).1))

pub sound_one_by_one_fp : SoundOneByOneFP
sound_one_by_one_fp s fl ok fp up bd x f =
    let g : Base s fl x = base s fl x (fit s fl ok bd) f in
    keeps_all s fl bd x g
    (λ k a l u non idle. no_suspect_fp g u non idle fp (λ i lt ne fi. up k i u.place lt ne non fi))
