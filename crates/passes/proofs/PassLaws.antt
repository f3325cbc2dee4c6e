-- The loops over tasks that search on, and that search the rest: at the start, after one task more, at the
-- end.
-- Assumes nothing.
use Rattle.std.proofs.Common.{ℕ, zero, suc, ◌+◌, ◌≤◌, ◌<◌, arith, ◌≡◌, refl, sym, ap, ◌∙◌, subst, Bool}
use Rattle.std.proofs.Common.{true, false, List, length, set, length-set, get_or-set_same, get_or-set_other}
use Rattle.std.proofs.Common.{eqb, ltb, eq-eqb, ne_eqb, ltb-true, ltb-false}
use Rattle.base.specs.Choice.{pick}
use Rattle.base.specs.Rows.{at}
use Rattle.base.proofs.OrderLaws.{below_none, below_next}
use Rattle.base.proofs.FirstLaws.{NoneTo, find_start, find_step, find_here, first_same}
use Rattle.model.specs.Bound.{System, bound}
use Rattle.bound.specs.Ahead.{NoneSooner}
use Rattle.passes.specs.Passes.{q_of, sought_by, Floors, Onward, Preempted, lowest_none, Last}

-- who is searched
pub sought_not : {f g : ℕ} (level below : ℕ) → f ≡ g → f ≡ 0 → false ≡ sought_by g level below
unfolding sought_by
sought_not level below e z = rw (sym e ∙ z) refl

pub sought_level : {f g : ℕ} (level below : ℕ) {l : ℕ} → f ≡ g → (f ≡ 0 → ⊥) → l ≡ level
    → ltb l below ≡ sought_by g level below
unfolding sought_by
sought_level {f} {g = zero} level below e some is = absurd (some e)
sought_level {f} {g = suc g} level below e some is = ap (λ x. ltb x below) is

pub sought_yes : (f level below : ℕ) {r : Bool} → r ≡ sought_by f level below → r ≡ true
    → (0 < f) × (level < below)
unfolding sought_by
sought_yes zero level below e t =
    absurd (let z : ◌≡◌ {A = ℕ} 0 1 = ap (λ b. pick b 1 0) (sym e ∙ t) in omega arith)
sought_yes (suc f) level below e t = (omega arith, ltb-true level below (sym e ∙ t))

pub sought_no : (f level below : ℕ) {r : Bool} → r ≡ sought_by f level below → r ≡ false → level < below
    → 0 < f → ⊥
unfolding sought_by
sought_no zero level below e t low pre = omega arith
sought_no (suc f) level below e t low pre = omega (arith, ltb-false level below (sym e ∙ t))

-- searching on: what is done of the first k tasks
pub onward_start : {s : System} {fl : ℕ → ℕ} (level : ℕ → ℕ) (below : ℕ) {xs : List ℕ} → Floors s fl xs
    → Onward s fl level below 0 xs xs
onward_start level below a = record {
  size = a.size;
  found = λ j lt. absurd (let z : ⊥ = omega arith in z);
  kept = λ j le. refl;
  later = λ j le. refl;
}

module _ {s : System} {fl level : ℕ → ℕ} {below k : ℕ} {old xs : List ℕ}
    (a : Onward s fl level below k old xs)
  where
    -- from where the next is searched
    pub onward_from : {q c : ℕ} → Floors s fl old → k < s.count → 0 < fl k → c ≡ s.C k
        → q ≡ q_of (at xs k) c → NoneSooner s fl k q
    onward_from {q} {c} floors lt pre same e =
        subst (NoneSooner s fl k)
        (sym (e ∙ (ap (λ x. q_of x c) (a.later k (omega arith)) ∙ ap (q_of (at old k)) same)))
        (floors.floor k lt pre)

    pub onward_step : {v : ℕ} → k < 32 → level k < below → v ≡ bound s fl k
        → Onward s fl level below (k + 1) old (set xs k v)
    onward_step {v} small low e = record {
      size = length-set xs k v ∙ a.size;
      found =
          below_next (λ j. level j < below → 0 < fl j → at (set xs k v) j ≡ bound s fl j) k
          (λ j lt l pre. get_or-set_other xs k j v 0 (λ z. omega arith) ∙ a.found j lt l pre)
          (λ l pre. get_or-set_same xs k v 0 (omega (arith, a.size)) ∙ e);
      kept = λ j le.
          get_or-set_other xs k j v 0 (λ (z : j ≡ k). omega (arith, ap level z)) ∙ a.kept j le;
      later = λ j le. get_or-set_other xs k j v 0 (λ z. omega arith) ∙ a.later j (omega arith);
    }

    pub onward_skip : (level k < below → 0 < fl k → ⊥) → Onward s fl level below (k + 1) old xs
    onward_skip none = record {
      size = a.size;
      found =
          below_next (λ j. level j < below → 0 < fl j → at xs j ≡ bound s fl j) k a.found
          (λ low pre. absurd (none low pre));
      kept = a.kept;
      later = λ j le. a.later j (omega arith);
    }

    pub onward_end : {n : ℕ} → k ≡ n → Onward s fl level below n old xs
    onward_end e = subst (λ n. Onward s fl level below n old xs) e a

-- the rest: what is known where the first k tasks have bounds
pub record Resting (s : System) (fl : ℕ → ℕ) (xs : List ℕ) (k : ℕ) : Type 0 where
  pub size : length xs ≡ 32
  pub known : (j : ℕ) → j < k → at xs j ≡ bound s fl j
  pub later : (j : ℕ) → k ≤ j → j < s.count → 0 < fl j → at xs j ≡ bound s fl j
  pub none : NoneTo (λ j. eqb (bound s fl j) 0) k

pub rest_start : {s : System} {fl : ℕ → ℕ} {xs : List ℕ} → Preempted s fl xs → Resting s fl xs 0
rest_start {s} {fl} {xs} a = record {
  size = a.size;
  known = below_none (λ j. at xs j ≡ bound s fl j);
  later = λ j le lt pre. a.known j lt pre;
  none = find_start _;
}

module _ {s : System} {fl : ℕ → ℕ} {xs : List ℕ} {k : ℕ} (a : Resting s fl xs k) where
  pub rest_found : {v : ℕ} → k < 32 → v ≡ bound s fl k → (v ≡ 0 → ⊥) → Resting s fl (set xs k v) (k + 1)
  rest_found {v} small e some = record {
    size = length-set xs k v ∙ a.size;
    known =
        below_next (λ j. at (set xs k v) j ≡ bound s fl j) k
        (λ j lt. get_or-set_other xs k j v 0 (λ z. omega arith) ∙ a.known j lt)
        (get_or-set_same xs k v 0 (omega (arith, a.size)) ∙ e);
    later =
        λ j le lt pre. get_or-set_other xs k j v 0 (λ z. omega arith) ∙ a.later j (omega arith) lt pre;
    none = find_step _ a.none (ne_eqb _ 0 (λ z. some (e ∙ z)));
  }

  pub rest_skip : {old : List ℕ} → Preempted s fl old → k < s.count → (fl k ≡ 0 → ⊥)
      → Resting s fl xs (k + 1)
  rest_skip p lt pre = record {
    size = a.size;
    known =
        below_next (λ j. at xs j ≡ bound s fl j) k a.known (a.later k (omega arith) lt (omega arith));
    later = λ j le less some. a.later j (omega arith) less some;
    none = find_step _ a.none (ne_eqb (bound s fl k) 0 (λ z. omega (arith, p.some k lt (omega arith))));
  }

  pub rest_here : {v : ℕ} → k < 32 → k < s.count → v ≡ bound s fl k → v ≡ 0 → Last s fl (set xs k v)
  rest_here {v} small lt e none = record {
    lowest = sym (find_here _ before lt here) ∙ first;
    each = λ z. absurd (let y : ⊥ = omega (arith, first) in y);
  }
    where
      first : k + 1 ≡ lowest_none s fl
      first = find_here _ a.none lt (eq-eqb _ 0 (sym e ∙ none))

      before : NoneTo (λ j. eqb (at (set xs k v) j) 0) k
      before j less =
          ap (λ x. eqb x 0) (get_or-set_other xs k j v 0 (λ z. omega arith) ∙ a.known j less) ∙ a.none j less

      here : eqb (at (set xs k v) k) 0 ≡ true
      here = eq-eqb _ 0 (get_or-set_same xs k v 0 (omega (arith, a.size)) ∙ none)

  pub rest_end : k ≤ s.count → s.count ≤ k → Last s fl xs
  rest_end low high = record {
    lowest = first_same _ _ s.count (λ j lt. ap (λ x. eqb x 0) (a.known j (omega arith)));
    each = λ z j lt. a.known j (omega arith);
  }
