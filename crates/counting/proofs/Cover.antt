-- The formulas' side of the theorem: what a bound says of its length, and that the shares and the blocking
-- cover the quanta that each task uses. If at least cores × q quanta are used and all are covered, then q is
-- at most B, and that is what the line of the length denies.
-- Assumes nothing.
use Rattle.std.proofs.Common.{ℕ, zero, suc, ◌+◌, ◌*◌, ◌-◌, ◌≤◌, ◌<◌, arith, le-div_iff_mul-le, ◌≡◌, refl}
use Rattle.std.proofs.Common.{sym, Bool, true, false, ⊎_elim, ltb, leb-true, ne_eqb}
use Rattle.base.specs.Sums.{sum_to}
use Rattle.model.specs.Bound.{
  Policy,
  EDF,
  FP,
  System,
  W,
  E,
  cap,
  share,
  block,
  from,
  share_of,
  block_of,
  B,
  satisfies,
  least_length,
  by_flag,
  bound,
}
use Rattle.base.proofs.SumLaws.{sum_mono, sum_add}
use Rattle.base.proofs.LeastLaws.{least_says}
use Rattle.base.proofs.TopLaws.{Choice, top_bounds}
use Rattle.model.proofs.BoundLaws.{bound_none, bound_non, bound_pre}
use Rattle.counting.proofs.Counts.{sum_zero}

-- the length of which a bound is made
pub record Length (s : System) (fl : ℕ → ℕ) (k l : ℕ) : Type 0 where
  pub start : from s fl k ≤ l
  pub line : from s fl k + B s fl k l ≤ l
  pub pre : (fl k ≡ 0 → ⊥) → bound s fl k ≡ l
  pub non : fl k ≡ 0 → bound s fl k ≡ l + (s.C k - 1)

pub length_of : (s : System) (fl : ℕ → ℕ) (k : ℕ) → 0 < bound s fl k → Length s fl k (least_length s fl k)
unfolding least_length satisfies
length_of s fl k pos =
    ⊎_elim
    (λ found. record {
      start = found.low;
      line = leb-true (from s fl k + B s fl k (least_length s fl k)) (least_length s fl k) found.holds;
      pre = λ p. sym (bound_pre s fl k (least_length s fl k) refl some p);
      non = λ n. sym (bound_non s fl k (least_length s fl k) refl some n);
    })
    (λ none. absurd (some none.0))
    (least_says (satisfies s fl k) (s.D k - s.C k + 1) (from s fl k))
  where
    some : least_length s fl k ≡ 0 → ⊥
    some z = omega (arith, bound_none s fl k (least_length s fl k) refl z)

by_pre : (f a b : ℕ) → (f ≡ 0 → ⊥) → by_flag f a b ≡ b
by_pre zero a b h = absurd (h refl)
by_pre (suc f) a b h = refl

module _ (s : System) (fl : ℕ → ℕ) (k l : ℕ) where
  pub from_pre : (fl k ≡ 0 → ⊥) → from s fl k ≡ s.C k
  unfolding from
  from_pre h = by_pre (fl k) 1 (s.C k) h

  pub from_non : fl k ≡ 0 → from s fl k ≡ 1
  unfolding from
  from_non e = rw e

  pub cap_pre : (fl k ≡ 0 → ⊥) → cap s fl k l ≡ l - s.C k + 1
  unfolding cap
  cap_pre h = by_pre (fl k) l (l - s.C k + 1) h

  pub share_of_lem : (i : ℕ) → (i ≡ k → ⊥)
      → share_of s fl k l i
      ≡ share s.policy (fl k) (fl i) (s.higher k i) (W s i l) (E s k i) (cap s fl k l)
  unfolding share_of
  share_of_lem i ne = rw (ne_eqb i k ne)

  pub share_of_non : (i : ℕ) → (i ≡ k → ⊥) → fl k ≡ 0
      → share_of s fl k l i ≡ share s.policy 0 (fl i) (s.higher k i) (W s i l) (E s k i) l
  unfolding share_of cap
  share_of_non i ne e = rw (ne_eqb i k ne, e)

  pub block_of_non : (i : ℕ) → (i ≡ k → ⊥) → fl k ≡ 0
      → block_of s fl k l i
      ≡ block s.policy 0 (fl i) (s.higher k i) (ltb (s.D k) (s.D i)) (W s i l) (E s k i) (s.C i) l
  unfolding block_of cap
  block_of_non i ne e = rw (ne_eqb i k ne, e)

-- What is used is covered, with blocking from at most cores places: then q is at most B.
pub covered : (s : System) (fl : ℕ → ℕ) (k l q : ℕ) (used sel : ℕ → ℕ) → 0 < s.cores
    → s.cores * q ≤ sum_to used s.count → Choice s.cores s.count sel
    → ((i : ℕ) → i < s.count → used i ≤ share_of s fl k l i + sel i * block_of s fl k l i) → q ≤ B s fl k l
unfolding B
covered s fl k l q used sel pos many choice each =
    (le-div_iff_mul-le pos).1
    (omega (
      arith,
      sum_mono used (λ i. share_of s fl k l i + sel i * block_of s fl k l i) s.count each,
      sum_add (share_of s fl k l) (λ i. sel i * block_of s fl k l i) s.count,
      top_bounds (block_of s fl k l) sel s.cores s.count choice,
    ))

-- the same where the shares alone cover
pub covered_by_shares : (s : System) (fl : ℕ → ℕ) (k l q : ℕ) (used : ℕ → ℕ) → 0 < s.cores
    → s.cores * q ≤ sum_to used s.count
    → ((i : ℕ) → i < s.count → used i ≤ share_of s fl k l i) → q ≤ B s fl k l
covered_by_shares s fl k l q used pos many each =
    covered s fl k l q used (λ i. 0) pos many
    (record { flags = λ i _. omega arith; few = omega (arith, sum_zero (λ i. 0) s.count (λ i _. refl)) })
    (λ i lt. omega (arith, each i lt))

-- When a share covers u quanta: for a preemptive k,
pub share_pre : (p : Policy) (fk fi : ℕ) (h : Bool) (w e q u : ℕ) → (fk ≡ 0 → ⊥) → u ≤ w → u ≤ q
    → (p ≡ EDF → (fi ≡ 0 → ⊥) → u ≤ e) → (p ≡ FP → (fi ≡ 0 → ⊥) → h ≡ false → u ≡ 0)
    → u ≤ share p fk fi h w e q
unfolding share
share_pre p zero fi h w e q u k a b edf fp = absurd (k refl)
share_pre EDF (suc _) zero h w e q u k a b edf fp = omega arith
share_pre EDF (suc _) (suc _) h w e q u k a b edf fp = omega (arith, edf refl (λ z. omega arith))
share_pre FP (suc _) fi true w e q u k a b edf fp = omega arith
share_pre FP (suc _) zero false w e q u k a b edf fp = omega arith
share_pre FP (suc _) (suc _) false w e q u k a b edf fp = omega (arith, fp refl (λ z. omega arith) refl)

-- for a non-preemptive k, and an i of which no lower job executes,
pub share_non : (p : Policy) (fi : ℕ) (h : Bool) (w e q u : ℕ) → u ≤ w → u ≤ q → (p ≡ EDF → u ≤ e)
    → (p ≡ FP → h ≡ false → u ≡ 0) → u ≤ share p 0 fi h w e q
unfolding share
share_non EDF fi h w e q u a b edf fp = omega (arith, edf refl)
share_non FP fi true w e q u a b edf fp = omega arith
share_non FP fi false w e q u a b edf fp = omega (arith, fp refl refl)

-- and, with the blocking, for an i whose lower job was started before k's release.
pub share_block : (p : Policy) (h later : Bool) (w e c q u : ℕ) → u ≤ w → u ≤ q → u ≤ c - 1
    → (p ≡ EDF → later ≡ true) → (p ≡ FP → h ≡ false)
    → u ≤ share p 0 0 h w e q + block p 0 0 h later w e c q
unfolding share block
share_block EDF h later w e c q u a b d edf fp = rw (edf refl) (omega arith)
share_block FP h later w e c q u a b d edf fp = rw (fp refl) (omega arith)
