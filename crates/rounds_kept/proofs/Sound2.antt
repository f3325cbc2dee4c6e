-- Edition 2 is sound: where every task has a bound in the last round, each job of each schedule that
-- follows the rules has had all that it needs within it, and by its deadline. It is `sound` of the crate
-- schedule under the slacks at the start of that round; the bounds fit under them, because they were
-- earned.
-- Assumes nothing.
use Rattle.std.proofs.Common.{ℕ, ◌<◌, arith, eq-zero-or-pos, sym, subst, ⊎_elim, List}
use Rattle.base.specs.Rows.{at}
use Rattle.model.specs.Bound.{System, Legal, under}
use Rattle.model.proofs.BoundLaws.{bound_range}
use Rattle.schedule.specs.Schedule.{Run, busy, lower, Follows}
use Rattle.schedule.specs.Promise.{Bounded, Kept}
use Rattle.schedule.proofs.Sound.{sound}
use Rattle.rounds.specs.Rounds.{test2}
use Rattle.rounds.specs.Forcing.{force2}
use Rattle.rounds.specs.Words.{bound_in, Earned}
use Rattle.rounds.proofs.TestLaws.{ended, last_at}
use Rattle.rounds.proofs.ForcingLaws.{ended2, force2_accepted}
use Rattle.rounds_kept.specs.Promise2.{SoundRound, SoundPassing2, SoundForced2}

legal_under : (s : System) (S : ℕ → ℕ) → Legal s → Legal (under s S)
legal_under s S ok = record { cores = ok.cores; time = ok.time; short = ok.short; period = ok.period }

-- a schedule knows nothing of slacks
follows_under : (s : System) (S fl : ℕ → ℕ) (x : Run) → Follows s fl x → Follows (under s S) fl x
unfolding busy lower
follows_under s S fl x f = record {
  basic = record {
    apart = f.basic.apart;
    within = f.basic.within;
    once = f.basic.once;
    only = f.basic.only;
    fits = f.basic.fits;
    full = f.basic.full;
    stays = f.basic.stays;
  };
  order = f.order;
}

kept_under : (s : System) (S : ℕ → ℕ) (x : Run) (k a R : ℕ) → Kept (under s S) x k a R → Kept s x k a R
kept_under s S x k a R h = record { bound = h.bound; deadline = h.deadline }

-- under earned slacks bounds fit
bounded_round : (s : System) (fs ss : List ℕ) → Legal s → Earned s fs ss
    → ((k : ℕ) → k < s.count → 0 < bound_in s fs ss k) → Bounded (under s (at ss)) (at fs)
bounded_round s fs ss ok e all = record {
  some = all;
  fits =
      λ k l.
      ⊎_elim
      (λ z.
      omega (arith, z, (bound_range (under s (at ss)) (at fs) k (ok.time k l) (ok.short k l)).1))
      (λ p. (e k l p).1) (eq-zero-or-pos (at ss k));
}

pub sound_round : SoundRound
sound_round s fs ss ok e all x f k a l =
    kept_under s (at ss) x k a (bound_in s fs ss k)
    (sound (under s (at ss)) (at fs) (legal_under s (at ss) ok) (bounded_round s fs ss ok e all) x
    (follows_under s (at ss) (at fs) x f) k a l)

pub sound_passing_2 : SoundPassing2
sound_passing_2 s fs ok pass x f k a l =
    subst (Kept s x k a) (sym (last_at s ok fs k l))
    (sound_round s fs (test2 s fs).slacks ok (ended s ok fs).earned
    (λ i h. omega (arith, pass i h, last_at s ok fs i h)) x f k a l)

pub sound_forced_2 : SoundForced2
sound_forced_2 s fs ok legal z x f k a l =
    subst (λ t. Kept s x k a (at t.bounds k)) (sym (ended2 s fs legal).last)
    (sound_passing_2 s (force2 s fs).flags ok (force2_accepted s fs legal z) x f k a l)
