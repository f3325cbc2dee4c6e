-- What is held is read again: 0 exactly where 0 was held, and 1 past the last place. So counts and the
-- first failing place over all 32 places are those over the first n, and one pass of forcing over what is
-- held is one pass over what it was made from.
-- Assumes nothing.
use Rattle.std.proofs.Common.{ℕ, zero, suc, ◌+◌, ◌-◌, ◌≤◌, ◌<◌, min, arith, ◌≡◌, refl, sym, ap, ap₂, ◌∙◌}
use Rattle.std.proofs.Common.{Bool, true, false, ⊎_elim, eqb, eq-eqb, ne_eqb, eqb-true}
use borrow.Author.Tests.{eqb-false}
use Rattle.base.specs.Choice.{pick}
use Rattle.base.specs.Sums.{sum_to}
use Rattle.base.specs.Least.{first_of}
use Rattle.base.proofs.OrderLaws.{le_or_lt}
use Rattle.base.proofs.SumLaws.{sum_same}
use Rattle.base.proofs.FirstLaws.{First, first_is, first_none, first_cases, first_same}
use Rattle.model.specs.Forcing.{lacks}
use Rattle.flags.specs.declared.Flags.{Flags}
use Rattle.flags.specs.Flags.{as_flag, flag_in, held, changed}
use Rattle.flags.specs.Words.{is_zero, bits_to, word_of}
use Rattle.flags.proofs.WordLaws.{clear_small, word_clear, word_past, word_same}

-- a number as a flag
pub zero_flag : (x : ℕ) → x ≡ 0 → 0 ≡ as_flag x
unfolding as_flag
zero_flag x e = rw e

as_small : (x : ℕ) → as_flag x ≤ 1
unfolding as_flag
as_small zero = omega arith
as_small (suc x) = omega arith

-- a flag is itself
as_is : (x : ℕ) → x ≤ 1 → as_flag x ≡ x
unfolding as_flag
as_is zero h = refl
as_is (suc zero) h = refl
as_is (suc (suc x)) h = absurd (let z : ⊥ = omega arith in z)

as_zero : (x : ℕ) → eqb (as_flag x) 0 ≡ eqb x 0
unfolding as_flag
as_zero zero = refl
as_zero (suc x) = ne_eqb 1 0 (λ e. omega arith) ∙ sym (ne_eqb (suc x) 0 (λ e. omega arith))

-- what a word reads, and which places it marks
zero_as : (x : ℕ) → 1 - is_zero x ≡ as_flag x
unfolding is_zero as_flag
zero_as zero = refl
zero_as (suc x) = refl

as_same : (x y : ℕ) → as_flag x ≡ as_flag y → is_zero x ≡ is_zero y
unfolding is_zero as_flag
as_same zero zero e = refl
as_same zero (suc y) e = absurd (let z : ⊥ = omega arith in z)
as_same (suc x) zero e = absurd (let z : ⊥ = omega arith in z)
as_same (suc x) (suc y) e = refl

as_some : (x : ℕ) → as_flag x ≡ 1 → 0 < x
unfolding as_flag
as_some zero e = absurd (let z : ⊥ = omega arith in z)
as_some (suc x) e = omega arith

as_least : (x : ℕ) → as_flag (min x 1) ≡ as_flag x
unfolding as_flag
as_least zero = ap as_flag (let e : min zero 1 ≡ 0 = omega arith in e)
as_least (suc x) = ap as_flag (let e : min (suc x) 1 ≡ 1 = omega arith in e)

as_lacks : (x y : ℕ) → lacks (as_flag x) (as_flag y) ≡ lacks x y
unfolding as_flag lacks
as_lacks zero y = refl
as_lacks (suc x) zero = refl
as_lacks (suc x) (suc y) = refl

pub flag_small : (f : Flags) (i : ℕ) → flag_in f i ≤ 1
unfolding flag_in
flag_small f i = clear_small f.word i

pub none_lacks : (f b : ℕ) → (f ≡ 0 → ⊥) → b ≡ 0 → 1 ≡ lacks f b
unfolding lacks
none_lacks zero b x y = absurd (x refl)
none_lacks (suc f) b x y = rw y

pub same_unchanged : (a b : ℕ) → a ≡ b → 0 ≡ changed a b
unfolding changed
same_unchanged a b e = rw (eq-eqb a b e)

pub changed_small : (a b : ℕ) {x : ℕ} → x ≡ changed a b → x ≤ 1
unfolding changed
changed_small a b e = rw e (go (eqb a b))
  where
    go : (t : Bool) → pick t 0 1 ≤ 1
    go true = omega arith
    go false = omega arith

-- what is held, read again
module _ (f : ℕ → ℕ) (n : ℕ) where
  pub held_at : n ≤ 32 → (i : ℕ) → i < n → flag_in (held f n) i ≡ as_flag (f i)
  unfolding flag_in held
  held_at small i lt = word_clear f n i lt ∙ zero_as (f i)

  pub held_past : (i : ℕ) → n ≤ i → i < 32 → flag_in (held f n) i ≡ 1
  unfolding flag_in held
  held_past i le h = word_past f n i le

  -- where f is a flag it is f
  pub held_flag : n ≤ 32 → (i : ℕ) → i < n → f i ≤ 1 → flag_in (held f n) i ≡ f i
  held_flag small i lt one = held_at small i lt ∙ as_is (f i) one

-- functions that are 0 at the same places are held as one, and what is not 0 past n need not be held there
held_first : (f g : ℕ → ℕ) (n m : ℕ) → n ≤ m → ((i : ℕ) → i < n → as_flag (f i) ≡ as_flag (g i))
    → ((i : ℕ) → n ≤ i → i < m → as_flag (f i) ≡ 1) → held f m ≡ held g n
unfolding held
held_first f g n m le same past =
    ap (λ (w : ℕ). record { word = w })
    (word_same f g n m le (λ i lt. as_same (f i) (g i) (same i lt)) (λ i a b. as_some (f i) (past i a b)))

pub held_same : (f g : ℕ → ℕ) (n : ℕ) → n ≤ 32 → ((i : ℕ) → i < n → f i ≡ g i) → held f n ≡ held g n
held_same f g n small e =
    held_first f g n n (omega arith) (λ i lt. ap as_flag (e i lt))
    (λ i le lt. absurd (let z : ⊥ = omega arith in z))

-- a loop that holds place after place
pub held_start : (f : ℕ → ℕ) → record { word = 0 } ≡ held f 0
unfolding held word_of bits_to sum_to
held_start f = refl

pub held_step : (f : ℕ → ℕ) {flags r : Flags} {i x : ℕ} → i < 32 → flags ≡ held f i → x ≡ f i
    → r ≡ held (λ j. pick (eqb j i) (min x (flag_in flags j)) (flag_in flags j)) 32 → r ≡ held f (i + 1)
held_step f {flags} {r} {i} {x} lt before e is =
    is
    ∙ held_first _ f (i + 1) 32 (omega arith) (λ j l. same j (omega arith) (eqb j i) refl)
    (λ j le l. past j (omega arith) l (eqb j i) refl)
  where
    outside : (j : ℕ) → i ≤ j → j < 32 → flag_in flags j ≡ 1
    outside j le l = ap (λ g. flag_in g j) before ∙ held_past f i j le l

    same : (j : ℕ) → j ≤ i → (b : Bool) → eqb j i ≡ b
        → as_flag (pick b (min x (flag_in flags j)) (flag_in flags j)) ≡ as_flag (f j)
    same j le true t =
        ap (λ v. as_flag (min x v)) (outside j (omega (arith, eqb-true j i t)) (omega arith))
        ∙ as_least x
        ∙ ap as_flag (e ∙ ap f (sym (eqb-true j i t)))
    same j le false t =
        ap as_flag
        (ap (λ g. flag_in g j) before ∙ held_at f i (omega arith) j (omega (arith, eqb-false j i t)))
        ∙ as_is (as_flag (f j)) (as_small (f j))

    past : (j : ℕ) → i < j → j < 32 → (b : Bool) → eqb j i ≡ b
        → as_flag (pick b (min x (flag_in flags j)) (flag_in flags j)) ≡ 1
    past j less l true t = absurd (let z : ⊥ = omega (arith, eqb-true j i t) in z)
    past j less l false t = ap as_flag (outside j (omega arith) l) ∙ as_is 1 (omega arith)

pub held_end : (f : ℕ → ℕ) {flags : Flags} {i n : ℕ} → flags ≡ held f i → i ≡ n → flags ≡ held f n
held_end f e all = e ∙ ap (held f) all

-- a sum whose terms past n are 0, and a first place where none past n passes
sum_first : (f : ℕ → ℕ) (n m : ℕ) → ((i : ℕ) → n ≤ i → i < n + m → f i ≡ 0) → sum_to f (n + m) ≡ sum_to f n
unfolding sum_to
sum_first f n zero past = ap (sum_to f) (let e : n + zero ≡ n = omega arith in e)
sum_first f n (suc m) past =
    ap (sum_to f) (let e : n + suc m ≡ suc (n + m) = omega arith in e)
    ∙ (let z : sum_to f (n + m) + f (n + m) ≡ sum_to f n =
    omega (arith, sum_first f n m (λ i a b. past i a (omega arith)), past (n + m) (omega arith) (omega arith))
    in z)

sum_to_last : (f : ℕ → ℕ) (n : ℕ) → n ≤ 32 → ((i : ℕ) → n ≤ i → i < 32 → f i ≡ 0)
    → sum_to f 32 ≡ sum_to f n
sum_to_last f n small past =
    ap (sum_to f) (let e : 32 ≡ n + (32 - n) = omega arith in e)
    ∙ sum_first f n (32 - n) (λ i a b. past i a (omega arith))

first_to_last : (p : ℕ → Bool) (n : ℕ) → n ≤ 32 → ((i : ℕ) → n ≤ i → i < 32 → p i ≡ false)
    → first_of p 32 ≡ first_of p n
first_to_last p n small past =
    ⊎_elim
    (λ none.
    first_none p (λ j lt. ⊎_elim (λ a. past j a lt) (λ b. none j b) (le_or_lt n j)) ∙ sym (first_none p none))
    (λ (f : (k : ℕ) × First p n k).
    first_is p (record {
      inside = omega (arith, f.1.inside);
      holds = f.1.holds;
      before = f.1.before;
    })
    ∙ sym (first_is p f.1))
    (first_cases p n)

-- flags f with failing tasks b, both held
module _ (f b : ℕ → ℕ) (n : ℕ) (small : n ≤ 32) where
  lacks_at : (i : ℕ) → i < n → lacks (flag_in (held f n) i) (flag_in (held b n) i) ≡ lacks (f i) (b i)
  lacks_at i lt = ap₂ lacks (held_at f n small i lt) (held_at b n small i lt) ∙ as_lacks (f i) (b i)

  lacks_past : (i : ℕ) → n ≤ i → i < 32 → lacks (flag_in (held f n) i) (flag_in (held b n) i) ≡ 0
  unfolding lacks
  lacks_past i le h = ap₂ lacks (held_past f n i le h) (held_past b n i le h)

  -- how many lack a bound
  pub lacking_held : sum_to (λ i. lacks (flag_in (held f n) i) (flag_in (held b n) i)) 32
      ≡ sum_to (λ i. lacks (f i) (b i)) n
  lacking_held = sum_to_last _ n small lacks_past ∙ sum_same _ _ n lacks_at

  -- the flags after a pass
  pub made_held : ((i : ℕ) → i < n → f i ≤ 1)
      → held (λ i. flag_in (held f n) i - lacks (flag_in (held f n) i) (flag_in (held b n) i)) 32
      ≡ held (λ i. f i - lacks (f i) (b i)) n
  made_held flag =
      held_first _ (λ i. f i - lacks (f i) (b i)) n 32 small
      (λ i lt.
      ap as_flag (ap₂ (λ x y. x - y) (held_flag f n small i lt (flag i lt)) (lacks_at i lt)))
      (λ i le h.
      ap₂ (λ x y. as_flag (x - y)) (held_past f n i le h) (lacks_past i le h) ∙ (unfold as_flag in refl))

-- two tables of flags, both held
pub changed_held : (f g : ℕ → ℕ) (n : ℕ) → n ≤ 32 → ((i : ℕ) → i < n → f i ≤ 1)
    → ((i : ℕ) → i < n → g i ≤ 1)
    → sum_to (λ i. changed (flag_in (held f n) i) (flag_in (held g n) i)) 32
    ≡ sum_to (λ i. changed (f i) (g i)) n
changed_held f g n small one also =
    sum_to_last _ n small
    (λ i le h. ap₂ changed (held_past f n i le h) (held_past g n i le h) ∙ sym (same_unchanged 1 1 refl))
    ∙ sum_same _ _ n
    (λ i lt. ap₂ changed (held_flag f n small i lt (one i lt)) (held_flag g n small i lt (also i lt)))

-- the lowest failing task
pub lowest_held : (b : ℕ → ℕ) (n : ℕ) → n ≤ 32
    → first_of (λ i. eqb (flag_in (held b n) i) 0) 32 ≡ first_of (λ i. eqb (b i) 0) n
lowest_held b n small =
    first_to_last _ n small
    (λ i le h. ap (λ x. eqb x 0) (held_past b n i le h) ∙ ne_eqb 1 0 (λ e. omega arith))
    ∙ first_same _ _ n (λ i lt. ap (λ x. eqb x 0) (held_at b n small i lt) ∙ as_zero (b i))
