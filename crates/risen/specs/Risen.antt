-- Numbers that rise with q, and the m largest of them beside the shares of a search.
--
--   what place i puts up at q                             risen_at most wait q i
--   what a kept number raises the growth at its place by  more_of kept most growth
--   the sum and the growths with what is kept             Added
--   the sum with the m largest, and its growth            Risen
--
-- Assumes nothing.
use Rattle.std.specs.Prelude.{ℕ, zero, suc, ◌+◌, ◌-◌, ◌≤◌, ◌<◌, min, ◌≡◌, List, length}
use Rattle.base.specs.Rows.{at}
use Rattle.base.specs.Sums.{sum_to, top_to}
use Rattle.chord.specs.Jump.{grown}
use Rattle.shares.specs.declared.Whole.{Whole}

unfoldable pub risen_at : List ℕ → List ℕ → ℕ → ℕ → ℕ
risen_at most wait q i = min (at most i) (q - at wait i)

-- nothing where no number is kept
unfoldable pub more_of : ℕ → ℕ → ℕ → ℕ
more_of zero most growth = 0
more_of (suc v) most growth = most - suc v - growth

-- a sum, and the growths in a row, which are all small
pub record Risable (most : List ℕ) (n : ℕ) (before : Whole) (row : List ℕ) : Type 0 where
  pub few : n ≤ 32
  pub mosts : (i : ℕ) → i < n → at most i ≤ 1000000
  pub size : length row ≡ 32
  pub growths : (i : ℕ) → i < n → at row i ≤ 1000000
  pub all : before.all ≡ sum_to (at row) n
  pub sum : before.sum ≤ 32000000

-- the same beside the numbers that are kept
pub record Addable (most kept : List ℕ) (n : ℕ) (before : Whole) (row : List ℕ) : Type 0 where
  pub ok : Risable most n before row
  pub kept_small : (i : ℕ) → i < n → at kept i ≤ 1000000

pub record Added (most kept : List ℕ) (n : ℕ) (before : Whole) (row : List ℕ) (r : Whole) (next : List ℕ)
    : Type 0
  where
    pub size : length next ≡ 32
    pub sum : r.sum ≡ before.sum + sum_to (at kept) n
    pub all : r.all ≡ sum_to (at next) n
    pub growth : (i : ℕ) → i < n → at next i ≡ more_of (at kept i) (at most i) (at row i) + at row i

-- d lengths on, the shares and the m largest have grown by all that the new row says
pub record Risen (most wait : List ℕ) (n m q : ℕ) (before : Whole) (row : List ℕ) (r : Whole)
    (next : List ℕ) : Type 0
  where
    pub size : length next ≡ 32
    pub sum : r.sum ≡ before.sum + top_to (risen_at most wait q) m n
    pub all : r.all ≡ sum_to (at next) n
    pub growths : (i : ℕ) → i < n → at next i ≤ 1000000
    pub grows : (d : ℕ) → top_to (risen_at most wait q) m n + grown (at next) n d
        ≤ grown (at row) n d + top_to (risen_at most wait (q + d)) m n
