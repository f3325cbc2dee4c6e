-- The bounds of an eased table under fixed flags: none is lost, and each falls by at least as much as its
-- task's own C. The table is reached in five steps, of which each has its law: tasks left out, the other
-- tasks' T and C, the own C, cores one by one, and slacks.
-- Assumes nothing.
use Rattle.std.proofs.Common.{ℕ, zero, suc, ◌-◌, ◌≤◌, ◌<◌, arith, eq-or-lt_of_le, le_refl, ◌≡◌, refl, sym}
use Rattle.std.proofs.Common.{ap, subst, inr, ⊎_elim, Bool, true, false, eqb, eqb-true, eq-eqb, ne_eqb}
use Rattle.base.specs.Choice.{pick}
use Rattle.base.specs.Least.{NoWorse}
use Rattle.model.specs.Bound.{System, Legal, under, bound}
use Rattle.model.proofs.BoundLaws.{bound_order}
use Rattle.model.proofs.EasierLaws.{easier}
use Rattle.model.proofs.PlaceLaws.{Places, Within, left_out}
use Rattle.model.proofs.CoreLaws.{bound_cores}
use Rattle.easier.specs.Eased.{Falls, Eased}
use Rattle.easier.specs.NeverHurts.{EasedBounds, with, part}
use Rattle.easier.proofs.OwnLaws.{own_falls}

falls_after : (a b c d : ℕ) → Falls a b d → NoWorse b c → Falls a c d
falls_after a b c d x y = record {
  some = λ h. x.some (y.some h);
  less = λ h. omega (arith, x.less (y.some h), y.less h);
}

falls_before : (a b c d : ℕ) → NoWorse a b → Falls b c d → Falls a c d
falls_before a b c d x y = record {
  some = λ h. x.some (y.some h);
  less = λ h. omega (arith, x.less (y.some h), y.less h);
}

pub same_places : {n n' : ℕ} → n' ≡ n → Places (λ i. i) n' n
same_places same = record { inside = λ i l. omega arith; apart = λ i j _ _ x. x }

-- T and C, the own C among them
module _ (s : System) (T' C' fl : ℕ → ℕ) (k : ℕ) (legal : Legal s)
    (long : (i : ℕ) → i < s.count → s.T i ≤ T' i) (less : (i : ℕ) → i < s.count → C' i ≤ s.C i)
    (some : 0 < C' k) (in' : k < s.count) where
  -- all but the own C
  abbrev others : ℕ → ℕ
  others i = pick (eqb i k) (s.C k) (C' i)

  others_less : (i : ℕ) → i < s.count → others i ≤ s.C i
  others_less i lt = go (eqb i k) refl
    where
      go : (b : Bool) → eqb i k ≡ b → pick b (s.C k) (C' i) ≤ s.C i
      go true x = omega (arith, ap s.C (eqb-true i k x))
      go false x = less i lt

  others_own : others k ≡ s.C k
  others_own = rw (eq-eqb k k refl)

  times_fall : Falls (bound (with s s.cores T' C') fl k) (bound s fl k) (s.C k - C' k)
  times_fall =
      let mid : ℕ = bound (with s s.cores T' others) fl k in
      falls_after _ mid _ _
      (subst (λ c. Falls (bound (with s s.cores T' C') fl k) mid (c - C' k)) others_own
      (own_falls (with s s.cores T' others) C' fl k (λ i ne. sym (rw (ne_eqb i k ne) refl)) some
      (omega (arith, others_own, less k in'))))
      (easier s T' others fl k legal long others_less others_own in')

-- cores, one by one
cores_fall : (s : System) (fl : ℕ → ℕ) (k m m' d : ℕ) → 0 < s.C k → 0 < m → m ≤ m'
    → (r : ℕ) → Falls (bound (with s m s.T s.C) fl k) r d
    → Falls (bound (with s m' s.T s.C) fl k) r d
cores_fall s fl k m zero d pos one h r x = absurd (let z : ⊥ = omega arith in z)
cores_fall s fl k m (suc m') d pos one h r x =
    ⊎_elim (λ (e : m ≡ suc m'). rw (← e) x)
    (λ (l : suc m ≤ suc m').
    falls_before _ (bound (with s m' s.T s.C) fl k) _ _ (bound_cores s fl k m' pos (omega arith))
    (cores_fall s fl k m m' d pos one (omega arith) r x))
    (eq-or-lt_of_le h)

module _ (s s' : System) (e : ℕ → ℕ) (legal : Legal s) (a : Eased s s' e) where
  pub eased_places : Places e s'.count s.count
  eased_places = record { inside = a.inside; apart = a.apart }

  abbrev left : System
  left = part s e s'.count

  abbrev timed : System
  timed = with left s.cores s'.T s'.C

  abbrev cored : System
  cored = with left s'.cores s'.T s'.C

  abbrev slack : ℕ → ℕ
  slack i = s.S (e i)

  left_legal : Legal left
  left_legal = record {
    cores = legal.cores;
    time = λ i lt. legal.time (e i) (a.inside i lt);
    short = λ i lt. legal.short (e i) (a.inside i lt);
    period = λ i lt. legal.period (e i) (a.inside i lt);
  }

  left_within : (fl : ℕ → ℕ) → Within s left fl (λ i. fl (e i)) e
  left_within fl = record {
    policy = refl;
    cores = refl;
    places = eased_places;
    T = λ i _. refl;
    C = λ i _. refl;
    D = λ i _. refl;
    S = λ i _. refl;
    flag = λ i _. refl;
    higher = inr (λ k i _ _. refl);
  }

  -- the rest is the same but for slacks
  cored_within : (fl : ℕ → ℕ) → Within cored (under s' slack) fl fl (λ i. i)
  cored_within fl = record {
    policy = a.policy;
    cores = refl;
    places = same_places refl;
    T = λ i _. refl;
    C = λ i _. refl;
    D = a.D;
    S = λ i _. refl;
    flag = λ i _. refl;
    higher = a.higher;
  }

  -- the five steps, the last one first
  bounds_fall : (fl : ℕ → ℕ) (k : ℕ) → k < s'.count
      → Falls (bound s' (λ i. fl (e i)) k) (bound s fl (e k)) (s.C (e k) - s'.C k)
  bounds_fall fl k lt =
      let f : ℕ → ℕ = λ i. fl (e i) in
      falls_before _ (bound (under s' slack) f k) _ _
      (bound_order s' s'.S slack f f k (a.some k lt) a.S (λ i _. le_refl _) refl)
      (falls_before _ (bound cored f k) _ _
      (left_out cored (under s' slack) f f (λ i. i) (cored_within f) k lt (a.some k lt))
      (cores_fall timed f k s.cores s'.cores _ (a.some k lt) legal.cores a.cores _
      (falls_after _ (bound left f k) _ _
      (times_fall left s'.T s'.C f k left_legal a.T a.C (a.some k lt) lt)
      (left_out s left fl f e (left_within fl) k lt (legal.time (e k) (a.inside k lt))))))

pub eased_bounds : EasedBounds
eased_bounds s s' e fl legal a = bounds_fall s s' e legal a fl
