-- Laws of `least`: what its answer is, how it moves with the test, and that the iteration of Theorem 1
-- reaches it where g never falls. By induction over the range.
-- Assumes nothing.
use Rattle.std.proofs.Common.{ℕ, zero, suc, ◌+◌, ◌-◌, ◌≤◌, ◌<◌, arith, eq-or-lt_of_le, le_refl, ◌≡◌, refl}
use Rattle.std.proofs.Common.{sym, ap, ap₂, ◌∙◌, subst, ◌⊎◌, inl, inr, ⊎_elim, Bool, true, false, leb}
use Rattle.std.proofs.Common.{leb-true, leb-false}
use borrow.Author.Tests.{lt-leb}
use Rattle.base.specs.Choice.{pick}
use Rattle.base.specs.Least.{NoWorse, least, iterate}
use Rattle.base.proofs.OrderLaws.{le_or_lt}

pub no_worse_both : (a b : ℕ) → NoWorse a b → NoWorse b a → a ≡ b
no_worse_both zero zero u v = refl
no_worse_both zero (suc b) u v = omega (arith, u.some (omega arith))
no_worse_both (suc a) zero u v = omega (arith, v.some (omega arith))
no_worse_both (suc a) (suc b) u v = omega (arith, u.less (omega arith), v.less (omega arith))

-- the answer is found: it lies in the range, satisfies the test, and none before it does
pub least_is : (p : ℕ → Bool) (c l r : ℕ) → l ≤ r → r < l + c → p r ≡ true
    → ((j : ℕ) → l ≤ j → j < r → p j ≡ false) → least p c l ≡ r
unfolding least
least_is p zero l r lo hi yes' before = absurd (let z : ⊥ = omega arith in z)
least_is p (suc c) l r lo hi yes' before =
    ⊎_elim
    (λ (e : l ≡ r). rw (ap p e ∙ yes') e)
    (λ (lt : l < r). rw (before l (le_refl l) lt)
    (least_is p c (suc l) r lt (omega arith) yes' (λ j a b. before j (omega arith) b)))
    (eq-or-lt_of_le lo)

-- none of the c lengths from l on satisfies the test
abbrev pub NoneOf : (ℕ → Bool) → ℕ → ℕ → Type 0
NoneOf p c l = (j : ℕ) → l ≤ j → j < l + c → p j ≡ false

pub least_none : (p : ℕ → Bool) (c l : ℕ) → NoneOf p c l → least p c l ≡ 0
unfolding least
least_none p zero l h = refl
least_none p (suc c) l h =
    rw (h l (le_refl l) (omega arith)) (least_none p c (suc l) (λ j a b. h j (omega arith) (omega arith)))

-- tests that agree on the lengths have the same least one
pub least_same : (p q : ℕ → Bool) (c l : ℕ) → ((j : ℕ) → l ≤ j → j < l + c → p j ≡ q j)
    → least p c l ≡ least q c l
unfolding least
least_same p q zero l same = refl
least_same p q (suc c) l same =
    rw (same l (le_refl l) (omega arith))
    (ap (pick (q l) l) (least_same p q c (suc l) (λ j a b. same j (omega arith) (omega arith))))

-- r is the least of the c lengths from l on that satisfies the test
pub record Found (p : ℕ → Bool) (c l r : ℕ) : Type 0 where
  pub low : l ≤ r
  pub high : r < l + c
  pub holds : p r ≡ true
  pub before : (j : ℕ) → l ≤ j → j < r → p j ≡ false

-- what an answer says
abbrev pub Answer : (ℕ → Bool) → ℕ → ℕ → ℕ → Type 0
Answer p c l r = (Found p c l r) ⊎ ((r ≡ 0) × (NoneOf p c l))

pub least_says : (p : ℕ → Bool) (c l : ℕ) → Answer p c l (least p c l)
unfolding least
least_says p zero l = inr (refl, λ j a b. absurd (let z : ⊥ = omega arith in z))
least_says p (suc c) l = go (p l) refl (least_says p c (suc l))
  where
    later : (j : ℕ) → p l ≡ false → l ≤ j → (suc l ≤ j → p j ≡ false) → p j ≡ false
    later j e a rest = ⊎_elim (λ x. subst (λ y. p y ≡ false) x e) rest (eq-or-lt_of_le a)

    go : (b : Bool) → p l ≡ b → Answer p c (suc l) (least p c (suc l))
        → Answer p (suc c) l (pick b l (least p c (suc l)))
    go true e _ =
        let before : (j : ℕ) → l ≤ j → j < l → p j ≡ false = λ j a b. absurd (let z : ⊥ = omega arith in z) in
        inl (record { low = le_refl l; high = omega arith; holds = e; before = before })
    go false e (inl f) =
        let before : (j : ℕ) → l ≤ j → j < least p c (suc l) → p j ≡ false =
        λ j a b. later j e a (λ x. f.before j x b)
        in
        inl (record { low = omega arith; high = omega arith; holds = f.holds; before = before })
    go false e (inr n) = inr (n.0, λ j a b. later j e a (λ x. n.1 j x (omega arith)))

-- a weaker test, over the same range, gives an answer that is no worse
pub least_order : (p p' : ℕ → Bool) (c l : ℕ) → 0 < l → ((j : ℕ) → l ≤ j → p' j ≡ true → p j ≡ true)
    → NoWorse (least p c l) (least p' c l)
least_order p p' c l pos weak = go (least_says p c l) (least_says p' c l)
  where
    clash : {b : Bool} → b ≡ true → b ≡ false → ⊥
    clash x y = let z : ◌≡◌ {A = ℕ} 0 1 = ap (λ b. pick b 0 1) (sym x ∙ y) in omega arith

    go : Answer p c l (least p c l) → Answer p' c l (least p' c l) → NoWorse (least p c l) (least p' c l)
    go x (inr n) = record {
      some = λ h. absurd (let z : ⊥ = omega (arith, n.0) in z);
      less = λ h. absurd (let z : ⊥ = omega (arith, n.0) in z);
    }
    go (inr n) (inl f) = absurd (clash (weak _ f.low f.holds) (n.1 _ f.low f.high))
    go (inl g) (inl f) = record {
      some = λ h. omega arith;
      less =
          λ h. ⊎_elim (λ x. x) (λ lt. absurd (clash (weak _ f.low f.holds) (g.before _ f.low lt)))
          (le_or_lt (least p c l) (least p' c l));
    }

-- one length that fails is left out
least_next : (p : ℕ → Bool) (c l : ℕ) → p l ≡ false → least p (suc c) l ≡ least p c (suc l)
unfolding least
least_next p c l e = rw e

-- lengths that fail may be left out at the front
pub least_skip : (p : ℕ → Bool) (a c l : ℕ) → ((j : ℕ) → l ≤ j → j < l + a → p j ≡ false)
    → least p (a + c) l ≡ least p c (l + a)
least_skip p zero c l h =
    ap₂ (least p) (let e : zero + c ≡ c = omega arith in e) (let e : l ≡ l + zero = omega arith in e)
least_skip p (suc a) c l h =
    ap (λ n. least p n l) (let e : suc a + c ≡ suc (a + c) = omega arith in e)
    ∙ least_next p (a + c) l (h l (le_refl l) (omega arith))
    ∙ least_skip p a c (suc l) (λ j x y. h j (omega arith) (omega arith))
    ∙ ap (least p c) (let e : suc l + a ≡ l + suc a = omega arith in e)

-- The jump: where g never falls and g l is above l, no length from l up to g l passes.
pub jump : (g : ℕ → ℕ) → ((a b : ℕ) → a ≤ b → g a ≤ g b) → (l j : ℕ) → l ≤ j → j < g l → leb (g j) j ≡ false
jump g mono l j lo hi = lt-leb (g j) j (omega (arith, mono l j lo))

-- The iteration of Theorem 1 reaches the least length.
pub iterate_least : (g : ℕ → ℕ) → ((a b : ℕ) → a ≤ b → g a ≤ g b) → (f c l : ℕ) → 0 < c → c ≤ f
    → iterate g (l + c) f l ≡ least (λ j. leb (g j) j) c l
unfolding iterate
iterate_least g mono zero c l pos fuel = absurd (let z : ⊥ = omega arith in z)
iterate_least g mono (suc f) c l pos fuel =
    go (leb (g l) l) refl (leb (l + c) (g l)) refl (λ b. iterate_least g mono f b (g l))
  where
    p : ℕ → Bool
    p j = leb (g j) j

    Rest : Type 0
    Rest = (b : ℕ) → 0 < b → b ≤ f → iterate g (g l + b) f (g l) ≡ least p b (g l)

    rest : Rest → l < g l → g l < l + c → iterate g (l + c) f (g l) ≡ least p c l
    rest ih up in' =
        let a : ℕ = g l - l in
        let b : ℕ = l + c - g l in
        let e1 : l + a ≡ g l = omega arith in
        let e2 : a + b ≡ c = omega arith in
        let e3 : g l + b ≡ l + c = omega arith in
        ap (λ n. iterate g n f (g l)) (sym e3)
        ∙ ih b (omega arith) (omega arith)
        ∙ ap (least p b) (sym e1)
        ∙ sym (least_skip p a b l (λ j x y. jump g mono l j x (omega arith)))
        ∙ ap (λ n. least p n l) e2

    go : (x : Bool) → leb (g l) l ≡ x → (y : Bool) → leb (l + c) (g l) ≡ y → Rest
        → pick x l (pick y 0 (iterate g (l + c) f (g l))) ≡ least p c l
    go true e y e' ih =
        sym (least_is p c l l (le_refl l) (omega arith) e (λ j a b. absurd (let z : ⊥ = omega arith in z)))
    go false e true e' ih =
        sym (least_none p c l (λ j a b. jump g mono l j a (omega (arith, leb-true (l + c) (g l) e'))))
    go false e false e' ih = rest ih (leb-false (g l) l e) (leb-false (l + c) (g l) e')
