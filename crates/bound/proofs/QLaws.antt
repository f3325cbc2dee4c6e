-- The bound of a task is q + C - 1, with the least q from 1 to D - C + 1 at which the whole sum is less than
-- m × q; over any legal system. Without slack that is the sum of the shares under the caps, over any rows
-- that hold the system's numbers.
-- Assumes nothing.
use Rattle.std.proofs.Common.{ℕ, zero, suc, ◌+◌, ◌*◌, ◌-◌, ◌/◌, ◌≤◌, ◌<◌, min, arith, div-lt_iff_lt-mul}
use Rattle.std.proofs.Common.{le-div_iff_mul-le, ◌≡◌, refl, sym, ap, ◌∙◌, Bool, true, false, List, ltb, leb}
use Rattle.std.proofs.Common.{ltb-true, ltb-false, le-leb}
use borrow.Author.Tests.{lt-leb}
use Rattle.base.specs.Choice.{pick}
use Rattle.base.specs.Rows.{at}
use Rattle.base.specs.Sums.{sum_to, top_to}
use Rattle.base.specs.Least.{least}
use Rattle.base.proofs.SumLaws.{sum_same}
use Rattle.model.specs.Bound.{System, Legal, W, by_flag, from, cap, share_of, block_of, B}
use Rattle.model.specs.Bound.{satisfies, least_length, plus, bound}
use Rattle.shares.specs.Shares.{share_at}
use Rattle.search.specs.Search.{least_q}
use Rattle.caps.specs.Caps.{Caps}
use Rattle.bound.specs.Ahead.{ahead}

-- the least of lengths that are d more, and of the numbers themselves
least_shift : (p p' : ℕ → Bool) (c a d : ℕ) → 0 < a
    → ((q : ℕ) → a ≤ q → q < a + c → p (q + d) ≡ p' q)
    → least p c (a + d) ≡ plus d (least p' c a)
unfolding least
least_shift p p' zero a d pos same = refl
least_shift p p' (suc c) a d pos same =
    rw (same a (omega arith) (omega arith))
    (go (p' a) _ _
    (ap (least p c) (let e : suc (a + d) ≡ suc a + d = omega arith in e)
    ∙ least_shift p p' c (suc a) d (omega arith) (λ q low high. same q (omega arith) (omega arith))))
  where
    some : (a : ℕ) → 0 < a → a + d ≡ plus d a
    some zero pos = absurd (let z : ⊥ = omega arith in z)
    some (suc a) pos = refl

    go : (b : Bool) (x y : ℕ) → x ≡ plus d y → pick b (a + d) x ≡ plus d (pick b a y)
    go true x y e = some a pos
    go false x y e = e

pub flag_pre : (f a b : ℕ) → (f ≡ 0 → ⊥) → b ≡ by_flag f a b
flag_pre zero a b some = absurd (some refl)
flag_pre (suc f) a b some = refl

plus_none : (x : ℕ) → plus 0 x ≡ x
plus_none zero = refl
plus_none (suc x) = omega arith

-- the line, with no division
line_by_q : (m q sum first l : ℕ) → 0 < m → l + 1 ≡ first + q → leb (first + sum / m) l ≡ ltb sum (m * q)
line_by_q m q sum first l pos e = go (ltb sum (m * q)) refl
  where
    go : (b : Bool) → ltb sum (m * q) ≡ b → leb (first + sum / m) l ≡ b
    go true t =
        let lt : sum / m < q = (div-lt_iff_lt-mul pos).1 (omega (arith, ltb-true sum (m * q) t)) in
        le-leb (first + sum / m) l (omega arith)
    go false t =
        let le : q ≤ sum / m = (le-div_iff_mul-le pos).1 (omega (arith, ltb-false sum (m * q) t)) in
        lt-leb (first + sum / m) l (omega arith)

-- rows that hold the numbers of a system
pub record Holds (s : System) (rest cost reach : List ℕ) : Type 0 where
  pub period : (i : ℕ) → i < s.count → at rest i + at cost i ≡ s.T i
  pub time : (i : ℕ) → i < s.count → at cost i ≡ s.C i
  pub window : (i : ℕ) → i < s.count → at reach i ≡ s.D i - s.S i - s.C i

module _ (s : System) (fl : ℕ → ℕ) (k : ℕ) (legal : Legal s) (inside : k < s.count) where
  -- the first length is that of q = 1
  pub from_ahead : from s fl k ≡ 1 + ahead s fl k
  unfolding from ahead
  from_ahead = go (fl k)
    where
      go : (f : ℕ) → by_flag f 1 (s.C k) ≡ 1 + by_flag f 0 (s.C k - 1)
      go zero = refl
      go (suc f) = omega (arith, legal.time k inside)

  pub cap_ahead : (q : ℕ) → 1 ≤ q → cap s fl k (q + ahead s fl k) ≡ q
  unfolding cap ahead
  cap_ahead q pos = go (fl k)
    where
      go : (f : ℕ)
          → by_flag f (q + by_flag f 0 (s.C k - 1)) (q + by_flag f 0 (s.C k - 1) - s.C k + 1) ≡ q
      go zero = omega arith
      go (suc f) = omega (arith, legal.time k inside)

  plus_ahead : (x : ℕ) → plus (by_flag (fl k) (s.C k - 1) 0) (plus (ahead s fl k) x) ≡ plus (s.C k - 1) x
  unfolding ahead
  plus_ahead x = go (fl k)
    where
      go : (f : ℕ)
          → plus (by_flag f (s.C k - 1) 0) (plus (by_flag f 0 (s.C k - 1)) x) ≡ plus (s.C k - 1) x
      go zero = ap (plus (s.C k - 1)) (plus_none x)
      go (suc f) = plus_none (plus (s.C k - 1) x)

  -- the whole sum, however it is worked out
  module _ (whole : ℕ → ℕ)
      (is : (q : ℕ) → 1 ≤ q → q ≤ s.D k - s.C k + 1
      → whole q ≡ sum_to (share_of s fl k (q + ahead s fl k)) s.count
      + top_to (block_of s fl k (q + ahead s fl k)) s.cores s.count)
    where
      -- k's line at a length is the line of its q
      pub line_at : (q : ℕ) → 1 ≤ q → q ≤ s.D k - s.C k + 1
          → satisfies s fl k (q + ahead s fl k) ≡ ltb (whole q) (s.cores * q)
      unfolding satisfies B
      line_at q pos high =
          ap (λ x. leb (from s fl k + x / s.cores) (q + ahead s fl k)) (sym (is q pos high))
          ∙ line_by_q s.cores q _ (from s fl k) (q + ahead s fl k) legal.cores
          (omega (arith, from_ahead))

      -- The bound is that of the least q.
      pub bound_by_whole : bound s fl k
          ≡ plus (s.C k - 1) (least (λ q. ltb (whole q) (s.cores * q)) (s.D k - s.C k + 1) 1)
      unfolding bound least_length
      bound_by_whole =
          ap (plus (by_flag (fl k) (s.C k - 1) 0))
          (ap (least (satisfies s fl k) (s.D k - s.C k + 1)) from_ahead
          ∙ least_shift (satisfies s fl k) (λ q. ltb (whole q) (s.cores * q)) (s.D k - s.C k + 1) 1
          (ahead s fl k) (omega arith) (λ q low high. line_at q low (omega arith)))
          ∙ plus_ahead (least (λ q. ltb (whole q) (s.cores * q)) (s.D k - s.C k + 1) 1)

  module _ {rest cost reach : List ℕ} (rows : Holds s rest cost reach) where
    share_is : (caps : List ℕ) (q i : ℕ) → 1 ≤ q → i < s.count
        → share_at rest cost reach caps (ahead s fl k) q i
        ≡ min (min (W s i (q + ahead s fl k)) (at caps i)) (cap s fl k (q + ahead s fl k))
    unfolding share_at W
    share_is caps q i pos lt =
        rw (rows.period i lt, rows.time i lt, rows.window i lt, cap_ahead q pos) refl

    pub shares_are : (caps : List ℕ) (q n : ℕ) → 1 ≤ q → n ≤ s.count
        → sum_to (share_at rest cost reach caps (ahead s fl k) q) n
        ≡ sum_to (λ i. min (min (W s i (q + ahead s fl k)) (at caps i)) (cap s fl k (q + ahead s fl k))) n
    shares_are caps q n pos few = sum_same _ _ n (λ i lt. share_is caps q i pos (omega arith))

    module _ {caps : List ℕ} {used : ℕ} (are : Caps s fl k caps used) where
      sum_is : (q : ℕ) → 1 ≤ q → q ≤ s.D k - s.C k + 1
          → sum_to (share_at rest cost reach caps (ahead s fl k) q) used
          ≡ sum_to (share_of s fl k (q + ahead s fl k)) s.count
          + top_to (block_of s fl k (q + ahead s fl k)) s.cores s.count
      sum_is q pos high =
          shares_are caps q used pos are.within
          ∙ are.sums (q + ahead s fl k) (omega (arith, from_ahead)) (omega (arith, from_ahead))

      pub line_is : (q : ℕ) → 1 ≤ q → q ≤ s.D k - s.C k + 1
          → satisfies s fl k (q + ahead s fl k)
          ≡ ltb (sum_to (share_at rest cost reach caps (ahead s fl k) q) used) (s.cores * q)
      line_is q pos high = line_at (λ q. sum_to (share_at rest cost reach caps (ahead s fl k) q) used) sum_is
          q
          pos high

      pub bound_by_q : bound s fl k
          ≡ plus (s.C k - 1)
          (least_q rest cost reach caps used s.cores (ahead s fl k) (s.D k - s.C k + 1))
      unfolding least_q
      bound_by_q = bound_by_whole (λ q. sum_to (share_at rest cost reach caps (ahead s fl k) q) used) sum_is
