-- Under FP the bounds of some tasks A hold whatever the others do, where the others are preemptive and lower.
-- While a job of A waits no other task executes, so the same schedule with the jobs of the others left out
-- follows the rules; there the others need nothing, and need no bound.
-- Assumes nothing.
use Rattle.std.proofs.Common.{ℕ, suc, ◌+◌, ◌≤◌, ◌<◌, arith, le_refl, le_trans, le_of_eq, ◌≡◌, refl, sym, ap}
use Rattle.std.proofs.Common.{◌∙◌, Bool, true, false, not, ◌⊎◌, inl, inr, ⊎_elim}
use Rattle.base.specs.Sums.{sum_to}
use Rattle.base.specs.Choice.{pick}
use Rattle.model.specs.Bound.{System, bound}
use Rattle.base.proofs.SumLaws.{sum_mono, sum_same}
use Rattle.schedule.specs.Schedule.{Run, done, busy, Pending, Waits, lower, Basic, Follows}
use Rattle.schedule.specs.Promise.{Kept}
use Rattle.schedule.specs.Limits.{Upper, SoundPart}
use Rattle.counting.proofs.Counts.{zero_unless}
use Rattle.schedule.proofs.Facts.{Fit}
use Rattle.schedule.proofs.Waiting.{true_not_false, lower_fp}
use Rattle.schedule.proofs.Induction.{keeps}
use Rattle.schedule.proofs.Sound.{base, no_suspect}

either : (b : Bool) → (b ≡ true) ⊎ (b ≡ false)
either true = inl refl
either false = inr refl

true_unless : (b : Bool) → (b ≡ false → ⊥) → b ≡ true
true_unless true h = refl
true_unless false h = absurd (h refl)

pick_le : (b : Bool) (y : ℕ) → pick b y 0 ≤ y
pick_le true y = le_refl y
pick_le false y = omega arith

-- the schedule x with the jobs of the tasks outside A left out
abbrev only : (ℕ → Bool) → Run → Run
only A x = record {
  release = x.release;
  need = λ i j. pick (A i) (x.need i j) 0;
  runs = λ i j t. pick (A i) (x.runs i j t) 0;
}

module _ (A : ℕ → Bool) (x : Run) where
  runs_in : (i j t : ℕ) → A i ≡ true → (only A x).runs i j t ≡ x.runs i j t
  runs_in i j t e = rw e

  need_in : (i j : ℕ) → A i ≡ true → (only A x).need i j ≡ x.need i j
  need_in i j e = rw e

  need_out : (i j : ℕ) → A i ≡ false → (only A x).need i j ≡ 0
  need_out i j e = rw e

  done_in : (i j t : ℕ) → A i ≡ true → done (only A x) i j t ≡ done x i j t
  unfolding done
  done_in i j t e = sum_same (λ v. pick (A i) (x.runs i j v) 0) (x.runs i j) t (λ v _. runs_in i j v e)

  runs_a : (i j t : ℕ) → 0 < (only A x).runs i j t → A i ≡ true
  runs_a i j t h = true_unless (A i) (λ e. omega (arith, ap (λ b. pick b (x.runs i j t) 0) e))

  pending_a : (i j t : ℕ) → Pending (only A x) i j t → A i ≡ true
  pending_a i j t p = true_unless (A i) (λ e. omega (arith, need_out i j e, p.unfinished))

  pending_in_x : (i j t : ℕ) → Pending (only A x) i j t → Pending x i j t
  pending_in_x i j t p =
      let e : A i ≡ true = pending_a i j t p in
      record {
        released = p.released;
        unfinished = omega (arith, p.unfinished, need_in i j e, done_in i j t e);
      }

  waits_in_x : (i j t : ℕ) → Waits (only A x) i j t → Waits x i j t
  waits_in_x i j t w = record {
    pending = pending_in_x i j t w.pending;
    idle = omega (arith, w.idle, runs_in i j t (pending_a i j t w.pending));
  }

module _ {s : System} {fl : ℕ → ℕ} {A : ℕ → Bool} {x : Run} (up : Upper s fl A) (f : Follows s fl x) where
  -- while a job of A waits, no task outside A executes
  others_idle : (k a i j t : ℕ) → k < s.count → i < s.count → A k ≡ true → A i ≡ false → Waits x k a t
      → x.runs i j t ≡ 0
  others_idle k a i j t kn lt ek ei w =
      zero_unless (x.runs i j t)
      (λ h.
      up.others i lt ei
      (f.order k a i j t kn lt (λ (q : i ≡ k). true_not_false (ap A q ∙ ek) ei) w h
      (lower_fp s x k a i j up.policy ∙ ap not (up.lower k i kn lt ek ei))
      ).0)

  runs_same : (k a i j t : ℕ) → k < s.count → i < s.count → A k ≡ true → Waits x k a t
      → x.runs i j t ≡ (only A x).runs i j t
  runs_same k a i j t kn lt ek w =
      ⊎_elim (λ ei. sym (runs_in A x i j t ei))
      (λ ei. others_idle k a i j t kn lt ek ei w ∙ ap (λ b. pick b (x.runs i j t) 0) (sym ei)) (either (A i))

  basic : Basic s fl (only A x)
  unfolding busy
  basic = record {
    apart = f.basic.apart;
    within = λ i j lt. le_trans (pick_le (A i) (x.need i j)) (f.basic.within i j lt);
    once = λ i j t lt. le_trans (pick_le (A i) (x.runs i j t)) (f.basic.once i j t lt);
    only = λ i j t lt h.
        let e : A i ≡ true = runs_a A x i j t h in
        let p : Pending x i j t = f.basic.only i j t lt (omega (arith, runs_in A x i j t e)) in
        record {
          released = p.released;
          unfinished = omega (arith, p.unfinished, need_in A x i j e, done_in A x i j t e);
        };
    fits = λ t.
        le_trans
        (sum_mono (λ i. sum_to (λ j. (only A x).runs i j t) (suc t)) (λ i. sum_to (λ j. x.runs i j t) (suc t))
        s.count
        (λ i _.
        sum_mono (λ j. (only A x).runs i j t) (λ j. x.runs i j t) (suc t)
        (λ j _. pick_le (A i) (x.runs i j t))))
        (f.basic.fits t);
    full = λ k a t kn w.
        le_trans (f.basic.full k a t kn (waits_in_x A x k a t w))
        (le_of_eq
        (sum_same (λ i. sum_to (λ j. x.runs i j t) (suc t)) (λ i. sum_to (λ j. (only A x).runs i j t) (suc t))
        s.count
        (λ i lt.
        sum_same (λ j. x.runs i j t) (λ j. (only A x).runs i j t) (suc t)
        (λ j _. runs_same k a i j t kn lt (pending_a A x k a t w.pending) (waits_in_x A x k a t w)))));
    stays = λ i j t lt non b p.
        let e : A i ≡ true = pending_a A x i j t p in
        omega (
          arith,
          runs_in A x i j t e,
          f.basic.stays i j t lt non (omega (arith, done_in A x i j t e)) (pending_in_x A x i j t p),
        );
  }

  follows : Follows s fl (only A x)
  unfolding lower
  follows = record {
    basic = basic;
    order = λ k a i j t kn lt ne w h low.
        let e : A i ≡ true = runs_a A x i j t h in
        let o : (fl i ≡ 0) × (0 < done x i j t) =
        f.order k a i j t kn lt ne (waits_in_x A x k a t w) (omega (arith, runs_in A x i j t e)) low in
        (o.0, omega (arith, o.1, done_in A x i j t e));
  }

pub sound_part : SoundPart
sound_part s fl A up ok slack pos fits x f k a kn ek =
    let h : Fit s = record { cores = ok.cores; time = ok.time; slack = slack; period = ok.period } in
    let g : Follows s fl (only A x) = follows up f in
    let kept : Kept s (only A x) k a (bound s fl k) =
    keeps (base s fl (only A x) h g) (no_suspect s fl (only A x) h g)
    (λ i lt.
    ⊎_elim (λ e. inl (record { some = pos i lt e; fits = fits i lt e })) (λ e. inr (λ j. need_out A x i j e))
    (either (A i)))
    k a kn (record { some = pos k kn ek; fits = fits k kn ek }) in
    record {
      bound = sym (done_in A x k a (x.release k a + bound s fl k) ek) ∙ kept.bound ∙ need_in A x k a ek;
      deadline = sym (done_in A x k a (x.release k a + s.D k) ek) ∙ kept.deadline ∙ need_in A x k a ek;
    }
