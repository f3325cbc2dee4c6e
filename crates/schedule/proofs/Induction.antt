-- The induction of the theorem, over the end of a job's bound: every job whose bound ends earlier is finished
-- within it. So before the end of its own bound an unfinished job would be a suspect, and the line of its
-- task shows that there is none. Tasks without a bound may stand in the table if their jobs need nothing.
-- Assumes nothing.
use Rattle.std.proofs.Common.{ℕ, zero, suc, ◌+◌, ◌-◌, ◌≤◌, ◌<◌, arith, le_trans, ◌≡◌, refl, ap, ◌⊎◌, ⊎_elim}
use Rattle.model.specs.Bound.{System, least_length, bound}
use Rattle.base.proofs.OrderLaws.{le_or_lt}
use Rattle.schedule.specs.Schedule.{Run, done}
use Rattle.schedule.specs.Promise.{Kept}
use Rattle.schedule.proofs.Facts.{Base, done_long, no_more}
use Rattle.counting.proofs.Cover.{Length, length_of}
use Rattle.schedule.proofs.Waiting.{Suspect, Idle}
use Rattle.schedule.proofs.Preemptive.{no_suspect_pre}
use Rattle.schedule.proofs.NonPreemptive.{waits_throughout}

-- a non-preemptive task has no suspect that waits through its window: the only step in which the rules differ
abbrev pub NoSuspect : System → (ℕ → ℕ) → Run → Type 0
NoSuspect s fl x = (k a l : ℕ) → Suspect s fl x k a (x.release k a) l → fl k ≡ 0
    → Idle x k a (x.release k a) l → ⊥

-- a task with a bound that fits under its slack
pub record Within (s : System) (fl : ℕ → ℕ) (k : ℕ) : Type 0 where
  pub some : 0 < bound s fl k
  pub fits : bound s fl k + s.S k ≤ s.D k

module _ {s : System} {fl : ℕ → ℕ} {x : Run} (f : Base s fl x) (none : NoSuspect s fl x)
    (bounded : (k : ℕ) → k < s.count → (Within s fl k) ⊎ ((j : ℕ) → x.need k j ≡ 0)) where
  finished : (e k a : ℕ) → k < s.count → x.release k a + bound s fl k < e
      → x.need k a ≤ done x k a (x.release k a + bound s fl k)
  finished zero k a kn h = absurd (let z : ⊥ = omega arith in z)
  finished (suc e) k a kn h =
      ⊎_elim (λ w. go w (finished e) (fl k) refl) (λ (z : (j : ℕ) → x.need k j ≡ 0). omega (arith, z a))
      (bounded k kn)
    where
      l : ℕ
      l = least_length s fl k

      r : ℕ
      r = x.release k a

      Earlier : Type 0
      Earlier = (i j : ℕ) → i < s.count → x.release i j + bound s fl i < e
          → x.need i j ≤ done x i j (x.release i j + bound s fl i)

      ended : l ≤ bound s fl k → Earlier → (i j t : ℕ) → i < s.count → t < r + l
          → x.release i j + (s.D i - s.S i) ≤ t → x.need i j ≤ done x i j t
      ended le ih i j t lt th g =
          ⊎_elim
          (λ (w : Within s fl i).
          le_trans (ih i j lt (omega (arith, w.fits)))
          (done_long f i j (x.release i j + bound s fl i) t (omega (arith, w.fits))))
          (λ (z : (j : ℕ) → x.need i j ≡ 0). omega (arith, z j)) (bounded i lt)

      suspect : l ≤ bound s fl k → Within s fl k → Earlier → Length s fl k l
          → done x k a (r + bound s fl k) < x.need k a → Suspect s fl x k a r l
      suspect le w ih length late = record {
        place = kn;
        released = refl;
        past = record { ended = ended le ih };
        length = length;
        unfinished = omega (arith, done_long f k a (r + l) (r + bound s fl k) (omega arith));
        short = omega (arith, w.fits);
      }

      go : Within s fl k → Earlier → (n : ℕ) → fl k ≡ n → x.need k a ≤ done x k a (r + bound s fl k)
      go w ih zero non =
          let length : Length s fl k l = length_of s fl k w.some in
          let e : bound s fl k ≡ l + (s.C k - 1) = length.non non in
          ⊎_elim (λ g. g)
          (λ (g : done x k a (r + bound s fl k) < x.need k a).
          let u : Suspect s fl x k a r l = suspect (omega arith) w ih length g in
          absurd (none k a l u non
          (waits_throughout f u non (omega (arith, ap (λ n. done x k a (r + n)) e)))))
          (le_or_lt (x.need k a) (done x k a (r + bound s fl k)))
      go w ih (suc n) some =
          let length : Length s fl k l = length_of s fl k w.some in
          let pre : fl k ≡ 0 → ⊥ = λ (z : fl k ≡ 0). omega arith in
          let e : bound s fl k ≡ l = length.pre pre in
          ⊎_elim (λ g. g)
          (λ (g : done x k a (r + bound s fl k) < x.need k a).
          absurd (no_suspect_pre f (suspect (omega arith) w ih length g) pre))
          (le_or_lt (x.need k a) (done x k a (r + bound s fl k)))

  pub keeps : (k a : ℕ) → k < s.count → Within s fl k → Kept s x k a (bound s fl k)
  keeps k a kn w =
      let r : ℕ = x.release k a in
      let all : x.need k a ≤ done x k a (r + bound s fl k) =
      finished (suc (r + bound s fl k)) k a kn (omega arith) in
      record {
        bound = omega (arith, no_more f k a (r + bound s fl k) kn);
        deadline =
            omega (
              arith,
              no_more f k a (r + s.D k) kn,
              done_long f k a (r + bound s fl k) (r + s.D k) (omega (arith, w.fits)),
            );
      }
