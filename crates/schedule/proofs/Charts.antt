-- A schedule written out as a row follows the rules where the tests of `Fine` come out true: they look at
-- every job that counts, in every quantum of the row, and outside of these nothing is asked and nothing
-- executes. So the rules for a concrete schedule are shown by computing.
-- Assumes nothing.
use Rattle.std.proofs.Common.{ℕ, zero, suc, ◌+◌, ◌*◌, ◌≤◌, ◌<◌, arith, le_refl, ◌≡◌, refl, ap, Bool, true}
use Rattle.std.proofs.Common.{false, not, ◌&&◌, ◌||◌, List, ◌⊎◌, inl, inr, ⊎_elim, leb, ltb, eqb, get_or}
use Rattle.std.proofs.Common.{length, leb-true, ltb-true, eqb-true, le-leb, lt-ltb, le-ltb, eq-eqb, ne_eqb}
use Rattle.base.specs.Sums.{sum_to}
use Rattle.base.specs.Choice.{pick}
use Rattle.model.specs.Bound.{System}
use Rattle.base.proofs.OrderLaws.{le_or_lt}
use Rattle.schedule.specs.Schedule.{Run, done, busy, Pending, Waits, lower, Basic, Follows}
use Rattle.schedule.specs.OneByOne.{FollowsOneByOne}
use Rattle.schedule.specs.Chart.{charted}
use Rattle.counting.proofs.Counts.{sum_zero, sum_long}
use Rattle.schedule.proofs.Waiting.{true_not_false}

-- tests
abbrev pub imp : Bool → Bool → Bool
imp true b = b
imp false b = true

imp_says : (a b : Bool) → imp a b ≡ true → a ≡ true → b ≡ true
imp_says true b e h = e
imp_says false b e h = absurd (true_not_false h refl)

and_left : (a b : Bool) → (a && b) ≡ true → a ≡ true
and_left true b e = refl
and_left false b e = e

and_right : (a b : Bool) → (a && b) ≡ true → b ≡ true
and_right true b e = e
and_right false b e = absurd (true_not_false e refl)

and_both : {a b : Bool} → a ≡ true → b ≡ true → (a && b) ≡ true
and_both e h = rw e h

or_says : (a b : Bool) → (a || b) ≡ true → (a ≡ true) ⊎ (b ≡ true)
or_says true b e = inl refl
or_says false b e = inr e

unfoldable pub all : (ℕ → Bool) → ℕ → Bool
all p zero = true
all p (suc n) = all p n && p n

all_says : (p : ℕ → Bool) (n : ℕ) → all p n ≡ true → (i : ℕ) → i < n → p i ≡ true
unfolding all
all_says p zero e i h = absurd (let z : ⊥ = omega arith in z)
all_says p (suc n) e i h =
    ⊎_elim (λ (g : n ≤ i). rw (let y : i ≡ n = omega arith in y) (and_right (all p n) (p n) e))
    (λ (g : i < n). all_says p n (and_left (all p n) (p n) e) i g) (le_or_lt n i)

-- the tests of a job, of a job in a quantum, and of two jobs in a quantum
abbrev pub pends : Run → ℕ → ℕ → ℕ → Bool
pends x i j t = leb (x.release i j) t && ltb (done x i j t) (x.need i j)

abbrev pub waiting : Run → ℕ → ℕ → ℕ → Bool
waiting x i j t = pends x i j t && eqb (x.runs i j t) 0

abbrev pub job_fine : System → ℕ → Run → ℕ → ℕ → Bool
job_fine s H x i j =
    leb (x.need i j) (s.C i)
    && (leb (x.release i j + s.T i) (x.release i (suc j)) && leb (x.need i j) (done x i j H))

abbrev pub full_fine : System → Run → ℕ → ℕ → ℕ → Bool
full_fine s x i j t = imp (waiting x i j t) (leb s.cores (busy s x t))

abbrev pub stays_fine : (ℕ → ℕ) → Run → ℕ → ℕ → ℕ → Bool
stays_fine fl x i j t =
    imp (eqb (fl i) 0 && (ltb 0 (done x i j t) && pends x i j t)) (ltb 0 (x.runs i j t))

abbrev pub quantum_fine : System → (ℕ → ℕ) → Run → ℕ → ℕ → ℕ → Bool
quantum_fine s fl x i j t =
    imp (ltb 0 (x.runs i j t)) (pends x i j t) && (full_fine s x i j t && stays_fine fl x i j t)

-- (i,j) executes while the higher (k,a) of another task waits
abbrev pub overtakes : System → Run → ℕ → ℕ → ℕ → ℕ → ℕ → Bool
overtakes s x k a i j t =
    not (eqb i k) && (waiting x k a t && (ltb 0 (x.runs i j t) && lower s x k a i j))

-- and may do so; `now` for the weaker rule
abbrev pub excused : (ℕ → ℕ) → Run → Bool → ℕ → ℕ → ℕ → ℕ → ℕ → Bool
excused fl x now k a i j t =
    eqb (fl i) 0 && (ltb 0 (done x i j t) || (now && eqb t (x.release k a)))

abbrev pub order_fine : System → (ℕ → ℕ) → Run → Bool → ℕ → ℕ → ℕ → ℕ → ℕ → Bool
order_fine s fl x now k a i j t = imp (overtakes s x k a i j t) (excused fl x now k a i j t)

-- for J jobs of each task and H quanta
pub record Fine (s : System) (fl : ℕ → ℕ) (J H : ℕ) (x : Run) (now : Bool) : Type 0 where
  pub jobs : all (λ i. all (λ j. job_fine s H x i j) J) s.count ≡ true
  pub quanta : all (λ i. all (λ j. all (λ t. quantum_fine s fl x i j t) H) J) s.count ≡ true
  pub cores : all (λ t. leb (busy s x t) s.cores) H ≡ true
  pub order :
      all (λ k. all (λ a. all (λ i. all (λ j. all (λ t. order_fine s fl x now k a i j t) H) J) s.count) J)
      s.count
      ≡ true

-- pick of 0 and 1
bit_one : (b c : Bool) → pick b (pick c 1 0) 0 ≤ 1
bit_one true true = le_refl 1
bit_one true false = omega arith
bit_one false c = omega arith

off_right : (a b : Bool) (y : ℕ) → b ≡ false → pick (a && b) y 0 ≡ 0
off_right true b y e = rw e
off_right false b y e = refl

module _ (s : System) (fl : ℕ → ℕ) (J : ℕ) (release need : ℕ → ℕ → ℕ) (row : List ℕ) (now : Bool)
    (fine : Fine s fl J (length row) (charted s J release need row) now) where
  abbrev H : ℕ
  H = length row

  abbrev x : Run
  x = charted s J release need row

  -- nothing is needed by a job that does not count, and it does not execute; nothing executes after the row
  need_off : (i j : ℕ) → J ≤ j → x.need i j ≡ 0
  need_off i j h = rw (le-ltb j J h)

  runs_off_job : (i j t : ℕ) → J ≤ j → x.runs i j t ≡ 0
  runs_off_job i j t h = rw (le-ltb j J h)

  runs_off_row : (i j t : ℕ) → H ≤ t → x.runs i j t ≡ 0
  runs_off_row i j t h =
      off_right (ltb j J) (ltb t H) (pick (eqb (get_or row t 0) (j * s.count + i)) 1 0) (le-ltb t H h)

  job : (i j : ℕ) → i < s.count → j < J
      → ((x.need i j ≤ s.C i) × (x.release i j + s.T i ≤ x.release i (suc j))
      × (x.need i j ≤ done x i j H))
  job i j lt h =
      let e : job_fine s H x i j ≡ true =
      all_says (λ j. job_fine s H x i j) J
      (all_says (λ i. all (λ j. job_fine s H x i j) J) s.count fine.jobs i lt) j h in
      let e' : (leb (x.release i j + s.T i) (x.release i (suc j)) && leb (x.need i j) (done x i j H))
      ≡ true =
      and_right (leb (x.need i j) (s.C i)) _ e in (
        leb-true (x.need i j) (s.C i) (and_left _ _ e),
        leb-true (x.release i j + s.T i) (x.release i (suc j)) (and_left _ _ e'),
        leb-true (x.need i j) (done x i j H)
            (and_right (leb (x.release i j + s.T i) (x.release i (suc j))) _ e'),
      )

  runs_inside : (i j t : ℕ) → 0 < x.runs i j t → (j < J) × (t < H)
  runs_inside i j t h = (
    ⊎_elim (λ g. absurd (let z : ⊥ = omega (arith, runs_off_job i j t g) in z)) (λ g. g) (le_or_lt J j),
    ⊎_elim (λ g. absurd (let z : ⊥ = omega (arith, runs_off_row i j t g) in z)) (λ g. g) (le_or_lt H t),
  )

  -- a pending job counts, and its quantum is in the row: at the end of the row every job is finished
  pending_inside : (i j t : ℕ) → i < s.count → Pending x i j t → (j < J) × (t < H)
  unfolding done
  pending_inside i j t lt p =
      let h : j < J =
      ⊎_elim (λ g. absurd (let z : ⊥ = omega (arith, need_off i j g, p.unfinished) in z)) (λ g. g)
      (le_or_lt J j) in (
        h,
        ⊎_elim
            (λ g.
            absurd
            (let z : ⊥ = omega (arith, p.unfinished, (job i j lt h).2, sum_long (x.runs i j) H t g) in z))
            (λ g. g) (le_or_lt H t),
      )

  from_pends : (i j t : ℕ) → pends x i j t ≡ true → Pending x i j t
  from_pends i j t e = record {
    released = leb-true (x.release i j) t (and_left _ _ e);
    unfinished = ltb-true (done x i j t) (x.need i j) (and_right (leb (x.release i j) t) _ e);
  }

  to_pends : (i j t : ℕ) → Pending x i j t → pends x i j t ≡ true
  to_pends i j t p =
      and_both (le-leb (x.release i j) t p.released) (lt-ltb (done x i j t) (x.need i j) p.unfinished)

  to_waiting : (i j t : ℕ) → Waits x i j t → waiting x i j t ≡ true
  to_waiting i j t w = and_both (to_pends i j t w.pending) (eq-eqb (x.runs i j t) 0 w.idle)

  quantum : (i j t : ℕ) → i < s.count → j < J → t < H → quantum_fine s fl x i j t ≡ true
  quantum i j t lt h g =
      all_says (λ t. quantum_fine s fl x i j t) H
      (all_says (λ j. all (λ t. quantum_fine s fl x i j t) H) J
      (all_says (λ i. all (λ j. all (λ t. quantum_fine s fl x i j t) H) J) s.count fine.quanta i lt) j h)
      t g

  later : (i j t : ℕ) → i < s.count → j < J → t < H → (full_fine s x i j t && stays_fine fl x i j t) ≡ true
  later i j t lt h g = and_right (imp (ltb 0 (x.runs i j t)) (pends x i j t)) _ (quantum i j t lt h g)

  only : (i j t : ℕ) → i < s.count → 0 < x.runs i j t → Pending x i j t
  only i j t lt p =
      from_pends i j t
      (imp_says (ltb 0 (x.runs i j t)) (pends x i j t)
      (and_left _ _ (quantum i j t lt (runs_inside i j t p).0 (runs_inside i j t p).1))
      (lt-ltb 0 (x.runs i j t) p))

  full : (k a t : ℕ) → k < s.count → Waits x k a t → s.cores ≤ busy s x t
  full k a t kn w =
      let v : (a < J) × (t < H) = pending_inside k a t kn w.pending in
      leb-true s.cores (busy s x t)
      (imp_says (waiting x k a t) (leb s.cores (busy s x t)) (and_left _ _ (later k a t kn v.0 v.1))
      (to_waiting k a t w))

  stays : (i j t : ℕ) → i < s.count → fl i ≡ 0 → 0 < done x i j t → Pending x i j t → 0 < x.runs i j t
  stays i j t lt non b p =
      let v : (j < J) × (t < H) = pending_inside i j t lt p in
      ltb-true 0 (x.runs i j t)
      (imp_says (eqb (fl i) 0 && (ltb 0 (done x i j t) && pends x i j t)) (ltb 0 (x.runs i j t))
      (and_right (full_fine s x i j t) _ (later i j t lt v.0 v.1))
      (and_both (eq-eqb (fl i) 0 non) (and_both (lt-ltb 0 (done x i j t) b) (to_pends i j t p))))

  basic : Basic s fl x
  unfolding busy
  basic = record {
    apart = λ i j lt.
        ⊎_elim
        (λ (g : J ≤ j).
        rw (le-ltb j J g, le-ltb (suc j) J (let h : J ≤ suc j = omega arith in h)) (omega arith))
        (λ g. (job i j lt g).1) (le_or_lt J j);
    within = λ i j lt. ⊎_elim (λ g. omega (arith, need_off i j g)) (λ g. (job i j lt g).0) (le_or_lt J j);
    once = λ i j t lt. bit_one (ltb j J && ltb t H) (eqb (get_or row t 0) (j * s.count + i));
    only = only;
    fits = λ t.
        ⊎_elim
        (λ (g : H ≤ t).
        omega (
          arith,
          sum_zero (λ i. sum_to (λ j. x.runs i j t) (suc t)) s.count
              (λ i _. sum_zero (λ j. x.runs i j t) (suc t) (λ j _. runs_off_row i j t g)),
        ))
        (λ (g : t < H).
        leb-true (busy s x t) s.cores (all_says (λ t. leb (busy s x t) s.cores) H fine.cores t g))
        (le_or_lt H t);
    full = full;
    stays = stays;
  }

  order_at : (k a i j t : ℕ) → k < s.count → a < J → i < s.count → j < J → t < H
      → order_fine s fl x now k a i j t ≡ true
  order_at k a i j t kn ha lt hj ht =
      all_says (λ t. order_fine s fl x now k a i j t) H
      (all_says (λ j. all (λ t. order_fine s fl x now k a i j t) H) J
      (all_says (λ i. all (λ j. all (λ t. order_fine s fl x now k a i j t) H) J) s.count
      (all_says (λ a. all (λ i. all (λ j. all (λ t. order_fine s fl x now k a i j t) H) J) s.count) J
      (all_says
      (λ k. all (λ a. all (λ i. all (λ j. all (λ t. order_fine s fl x now k a i j t) H) J) s.count) J)
      s.count fine.order k kn)
      a ha) i lt) j hj) t ht

  order : (k a i j t : ℕ) → k < s.count → i < s.count → (i ≡ k → ⊥) → Waits x k a t → 0 < x.runs i j t
      → lower s x k a i j ≡ true
      → (fl i ≡ 0) × ((0 < done x i j t) ⊎ ((now ≡ true) × (t ≡ x.release k a)))
  order k a i j t kn lt ne w h low =
      let v : (a < J) × (t < H) = pending_inside k a t kn w.pending in
      let less : overtakes s x k a i j t ≡ true =
      and_both (ap not (ne_eqb i k ne))
      (and_both (to_waiting k a t w) (and_both (lt-ltb 0 (x.runs i j t) h) low)) in
      let e : excused fl x now k a i j t ≡ true =
      imp_says (overtakes s x k a i j t) (excused fl x now k a i j t)
      (order_at k a i j t kn v.0 lt (runs_inside i j t h).0 v.1) less in (
        eqb-true (fl i) 0 (and_left _ _ e),
        ⊎_elim (λ b. inl (ltb-true 0 (done x i j t) b))
            (λ b. inr (and_left now _ b, eqb-true t (x.release k a) (and_right now _ b)))
            (or_says (ltb 0 (done x i j t)) (now && eqb t (x.release k a)) (and_right (eqb (fl i) 0) _ e)),
      )

  pub chart_follows : now ≡ false → Follows s fl x
  chart_follows strict = record {
    basic = basic;
    order = λ k a i j t kn lt ne w h low.
        let o : (fl i ≡ 0) × ((0 < done x i j t) ⊎ ((now ≡ true) × (t ≡ x.release k a))) =
        order k a i j t kn lt ne w h low in (
          o.0,
          ⊎_elim (λ b. b)
              (λ (b : (now ≡ true) × (t ≡ x.release k a)). absurd (true_not_false b.0 strict)) o.1,
        );
  }

  pub chart_follows_one_by_one : FollowsOneByOne s fl x
  chart_follows_one_by_one = record {
    basic = basic;
    order = λ k a i j t kn lt ne w h low.
        let o : (fl i ≡ 0) × ((0 < done x i j t) ⊎ ((now ≡ true) × (t ≡ x.release k a))) =
        order k a i j t kn lt ne w h low in
        (o.0, ⊎_elim (λ b. inl b) (λ b. inr b.1) o.1);
  }
