-- A schedule that follows the rules exists for every legal table, flags, policy, levels, releases and needs:
-- the greedy one, each rule being one law of its quantum.
-- Assumes nothing.
use Rattle.std.proofs.Common.{ℕ, zero, suc, ◌+◌, ◌*◌, ◌/◌, ◌%◌, ◌≤◌, ◌<◌, arith, eq-or-lt_of_le}
use Rattle.std.proofs.Common.{mod-eq_of_lt, ◌≡◌, sym, ap, ap₂, ◌∙◌, Bool, true, false, ⊎_elim, ltb, leb}
use Rattle.std.proofs.Common.{ltb-true, ltb-false, leb-false}
use Rattle.std.proofs.Math.Nat.{mul-add-mod_self_right, add-mul-div_right, div-eq_of_lt}
use borrow.Author.Tests.{not-true}
use Rattle.base.specs.Sums.{sum_to}
use Rattle.model.specs.Bound.{Policy, EDF, FP, System, Legal}
use Rattle.schedule.specs.Schedule.{Run, done, busy, Pending, lower, lower_by, Basic, Follows}
use Rattle.schedule.specs.Promise.{Asked, Levels, Schedules}
use Rattle.counting.proofs.Counts.{flat}
use Rattle.schedule.proofs.Greedy.{
  prio_by,
  release_at,
  need_at,
  prio,
  size,
  had,
  goes,
  had_none,
  had_suc,
  goes_few,
  goes_one,
  goes_says,
  goes_all,
  goes_order,
  place_small,
  goes_stays,
}

lower_prio : (q : Policy) (h : Bool) (u u' d d' : ℕ) → (h ≡ false → u < u') → lower_by q h d d' ≡ true
    → prio_by q u d < prio_by q u' d'
unfolding prio_by lower_by
lower_prio FP h u u' d d' f low = f (not-true h low)
lower_prio EDF h u u' d d' f low = ltb-true d d' low

-- the place of a job in the row, and back
abbrev place : System → ℕ → ℕ → ℕ
place s i j = j * s.count + i

task_of_lem : (s : System) (i j : ℕ) → i < s.count → place s i j % s.count ≡ i
task_of_lem s i j lt = mul-add-mod_self_right j s.count i ∙ mod-eq_of_lt lt

number_of : (s : System) (i j : ℕ) → i < s.count → place s i j / s.count ≡ j
number_of s i j lt =
    ap (λ z. z / s.count) (let e : j * s.count + i ≡ i + j * s.count = omega arith in e)
    ∙ add-mul-div_right i j (let h : 0 < s.count = omega arith in h)
    ∙ ap (λ z. z + j) (div-eq_of_lt lt)
    ∙ (let e : 0 + j ≡ j = omega arith in e)

module _ (s : System) (fl level : ℕ → ℕ) (release need : ℕ → ℕ → ℕ) where
  abbrev greedy : Run
  greedy = record {
    release = release;
    need = need;
    runs = λ i j t. goes s fl level release need t (place s i j);
  }

  abbrev had_by : ℕ → ℕ → ℕ
  had_by t p = had s fl level release need t p

  done_is : (i j t : ℕ) → done greedy i j t ≡ had_by t (place s i j)
  unfolding done sum_to
  done_is i j zero = sym (had_none s fl level release need (place s i j))
  done_is i j (suc t) = omega (arith, done_is i j t, had_suc s fl level release need t (place s i j))

  busy_is : (t : ℕ)
      → busy s greedy t ≡ sum_to (goes s fl level release need t) (size s fl level release need t)
  unfolding busy size
  busy_is t = flat (goes s fl level release need t) s.count (suc t)

  release_is : (i j : ℕ) → i < s.count → release_at s fl level release need (place s i j) ≡ release i j
  unfolding release_at
  release_is i j lt = ap₂ release (task_of_lem s i j lt) (number_of s i j lt)

  need_is : (i j : ℕ) → i < s.count → need_at s fl level release need (place s i j) ≡ need i j
  unfolding need_at
  need_is i j lt = ap₂ need (task_of_lem s i j lt) (number_of s i j lt)

  prio_is : (i j : ℕ) → i < s.count
      → prio s fl level release need (place s i j) ≡ prio_by s.policy (level i) (release i j + s.D i)
  unfolding prio
  prio_is i j lt = rw (task_of_lem s i j lt, release_is i j lt)

  -- a pending job, in the row
  record Inside (i j t : ℕ) : Type 0 where
    small : place s i j < size s fl level release need t
    released : release_at s fl level release need (place s i j) ≤ t
    unfinished : had_by t (place s i j) < need_at s fl level release need (place s i j)

  module _ (ok : Legal s) (lv : Levels s level) (ask : Asked s release need) where
    inside : (i j t : ℕ) → i < s.count → Pending greedy i j t → Inside i j t
    inside i j t lt p =
        let r : release_at s fl level release need (place s i j) ≤ t =
        omega (arith, release_is i j lt, p.released) in
        record {
          small = place_small s fl level release need ok ask (omega arith) t (place s i j) r;
          released = r;
          unfinished = omega (arith, need_is i j lt, done_is i j t, p.unfinished);
        }

    basic : Basic s fl greedy
    basic = record {
      apart = ask.apart;
      within = ask.within;
      once = λ i j t lt. goes_one s fl level release need t (place s i j);
      only = λ i j t lt h. record {
        released = omega (arith, release_is i j lt, goes_says s fl level release need t (place s i j) h);
        unfinished =
            omega (arith, need_is i j lt, done_is i j t, goes_says s fl level release need t (place s i j) h);
      };
      fits = λ t. omega (arith, busy_is t, goes_few s fl level release need t);
      full = λ k a t kn w.
          let u : Inside k a t = inside k a t kn w.pending in
          omega (
            arith,
            busy_is t,
            goes_all s fl level release need t (place s k a) u.small u.released u.unfinished
                w.idle,
          );
      stays = λ i j t lt non b p.
          let u : Inside i j t = inside i j t lt p in
          goes_stays s fl level release need ok ask (omega arith) t (place s i j)
          (ap fl (task_of_lem s i j lt) ∙ non) (omega (arith, done_is i j t)) u.released u.unfinished;
    }

    greedy_follows : Follows s fl greedy
    unfolding lower
    greedy_follows = record {
      basic = basic;
      order = λ k a i j t kn lt ne w h low.
          let u : Inside k a t = inside k a t kn w.pending in
          let less : prio s fl level release need (place s k a) < prio s fl level release need (place s i j) =
          omega (
            arith,
            prio_is k a kn,
            prio_is i j lt,
            lower_prio s.policy (s.higher k i) (level k) (level i) (release k a + s.D k)
                (release i j + s.D i) (lv k i ne) low,
          ) in
          let o : (fl (place s i j % s.count) ≡ 0) × (0 < had_by t (place s i j)) =
          goes_order s fl level release need t (place s k a) (place s i j) u.small u.released
          u.unfinished w.idle h less in
          (ap fl (sym (task_of_lem s i j lt)) ∙ o.0, omega (arith, done_is i j t, o.1));
    }

pub schedules : Schedules
schedules s fl level release need ok lv ask = (
  λ i j t. goes s fl level release need t (place s i j),
  greedy_follows s fl level release need ok lv ask,
)

-- document 01's order goes by levels, and so does any order by shared levels
pub by_place : (s : System) → ((k i : ℕ) → s.higher k i ≡ ltb i k) → Levels s (λ i. i)
by_place s h k i ne e =
    ⊎_elim (λ (y : k ≡ i). absurd (ne (sym y))) (λ (y : k < i). y)
    (eq-or-lt_of_le (ltb-false i k (sym (h k i) ∙ e)))

pub by_level : (s : System) (level : ℕ → ℕ) → ((k i : ℕ) → s.higher k i ≡ leb (level i) (level k))
    → Levels s level
by_level s level h k i ne e = leb-false (level i) (level k) (sym (h k i) ∙ e)
