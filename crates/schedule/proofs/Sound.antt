-- The theorem: where every task of a legal table has a bound, every job of every schedule that follows the
-- rules has had all that it needs within its task's bound, hence by its deadline. Then the same for a table
-- that passes (no slacks) and for what forcing accepts.
-- Assumes nothing.
use Rattle.std.proofs.Common.{ℕ, zero, suc, ◌+◌, ◌≤◌, ◌<◌, arith, ◌≡◌, sym, ap, ◌∙◌, inl}
use Rattle.model.specs.Bound.{System, Legal, bound}
use Rattle.model.specs.Demands.{Slackless, Passes}
use Rattle.base.specs.Rows.{at}
use Rattle.model.specs.Forcing.{force}
use Rattle.model.proofs.ForcingLaws.{run_bounds, test_at}
use Rattle.model.proofs.BoundLaws.{bound_range}
use Rattle.model.proofs.LowestLaws.{lowest_none_lem}
use Rattle.schedule.specs.Schedule.{Run, done, Follows}
use Rattle.schedule.specs.Promise.{Bounded, Kept, Sound, SoundPassing, SoundForced}
use Rattle.counting.proofs.Counts.{zero_unless}
use Rattle.schedule.proofs.Facts.{Fit, Base}
use Rattle.schedule.proofs.Waiting.{waits}
use Rattle.schedule.proofs.NonPreemptive.{no_suspect_non}
use Rattle.schedule.proofs.Induction.{NoSuspect, Within, keeps}

-- a bound is at least C, so C fits under the slack where the bound does
pub fit : (s : System) (fl : ℕ → ℕ) → Legal s → Bounded s fl → Fit s
fit s fl ok bd = record {
  cores = ok.cores;
  time = ok.time;
  slack = λ i lt.
      omega (
        arith,
        bd.fits i lt,
        (bound_range s fl i (ok.time i lt) (ok.short i lt)).0 (bd.some i lt),
      );
  period = ok.period;
}

pub base : (s : System) (fl : ℕ → ℕ) (x : Run) → Fit s → Follows s fl x → Base s fl x
base s fl x ok f = record {
  table = ok;
  rules = f.basic;
  kind = λ k a i j t kn lt ne w h low. omega (arith, (f.order k a i j t kn lt ne w h low).0);
}

-- A5 in full: a lower job that executes while (k,a) waits was started before
pub no_suspect : (s : System) (fl : ℕ → ℕ) (x : Run) → Fit s → Follows s fl x → NoSuspect s fl x
no_suspect s fl x ok f k a l u non idle =
    no_suspect_non (base s fl x ok f) u non idle
    (λ i j t lt ne h q low.
    omega (
      arith,
      (f.order k a i j (x.release k a + t) u.place lt ne
          (waits (base s fl x ok f) u t (omega arith) (idle t h)) q low
          ).1,
    ))

-- where every task has a bound, and whatever the rules, no suspect is enough
pub keeps_all : (s : System) (fl : ℕ → ℕ) → Bounded s fl → (x : Run) → Base s fl x → NoSuspect s fl x
    → (k a : ℕ) → k < s.count → Kept s x k a (bound s fl k)
keeps_all s fl bd x f none k a kn =
    let w : (i : ℕ) → i < s.count → Within s fl i =
    λ i lt. record { some = bd.some i lt; fits = bd.fits i lt } in
    keeps f none (λ i lt. inl (w i lt)) k a kn (w k kn)

pub sound : Sound
sound s fl ok bd x f =
    keeps_all s fl bd x (base s fl x (fit s fl ok bd) f) (no_suspect s fl x (fit s fl ok bd) f)

-- `busy` leaves no job out: a job with a number above t does not execute at t
pub all_counted : (s : System) (fl : ℕ → ℕ) → Legal s → (x : Run) → Follows s fl x
    → (i j t : ℕ) → i < s.count → t < j → x.runs i j t ≡ 0
all_counted s fl ok x f i j t lt h =
    zero_unless (x.runs i j t) (λ p. omega (arith, (f.basic.only i j t lt p).released, at_least j))
  where
    at_least : (j : ℕ) → j ≤ x.release i j
    at_least zero = omega arith
    at_least (suc j) =
        omega (arith, f.basic.apart i j lt, at_least j, ok.time i lt, ok.short i lt, ok.period i lt)

-- Edition 1: every bound is at most D, so it fits
pub passing_bounded : (s : System) (fl : ℕ → ℕ) → Legal s → Slackless s → Passes s fl → Bounded s fl
passing_bounded s fl ok none pass = record {
  some = pass;
  fits = λ k kn. omega (arith, none k kn, (bound_range s fl k (ok.time k kn) (ok.short k kn)).1);
}

pub sound_passing : SoundPassing
sound_passing s fl ok none pass = sound s fl ok (passing_bounded s fl ok none pass)

-- another name for the number of quanta
renamed : {s : System} {x : Run} {k a R R' : ℕ} → R ≡ R' → Kept s x k a R → Kept s x k a R'
renamed {x = x} {k = k} {a = a} e h = record {
  bound = ap (λ n. done x k a (x.release k a + n)) (sym e) ∙ h.bound;
  deadline = h.deadline;
}

-- Forcing: its bounds are those of its flags, and where it names no task every bound is above 0
pub sound_forced : SoundForced
unfolding force
sound_forced s fs ok none pass x f k a kn =
    let fl : ℕ → ℕ = at (force s fs).flags in
    let e : (i : ℕ) → i < s.count → at (force s fs).bounds i ≡ bound s fl i =
    λ i lt. ap (λ bs. at bs i) (run_bounds s s.count fs 0) ∙ test_at s (force s fs).flags i lt in
    renamed (sym (e k kn))
    (sound_passing s fl ok none (λ i lt. omega
    (arith, e i lt, lowest_none_lem s (force s fs).bounds pass i lt))
    x f k a kn)
