-- What the two loops of an evaluation ask of their rows, and what they leave in them.
-- Assumes nothing.
use Rattle.std.specs.Prelude.{ℕ, ◌+◌, ◌-◌, ◌≤◌, ◌<◌, min, ◌≡◌, List, length}
use Rattle.base.specs.Rows.{at}
use Rattle.base.specs.Sums.{sum_to}
use Rattle.shares.specs.declared.Whole.{Whole}
use Rattle.shares.specs.Shares.{share_at, full_at, line_at, growth_at, SoundPlace}

pub record Workable (inverse rest cost reach : List ℕ) (n l : ℕ) (full line : List ℕ) : Type 0 where
  pub used : n ≤ 32
  pub window : l ≤ 1000000
  pub each : (i : ℕ) → i < n → SoundPlace (at inverse i) (at rest i) (at cost i) (at reach i)
  pub full_size : length full ≡ 32
  pub line_size : length line ≡ 32

pub record WorkRows (rest cost reach : List ℕ) (n l : ℕ) (full line : List ℕ) : Type 0 where
  pub full_size : length full ≡ 32
  pub line_size : length line ≡ 32
  pub full_is : (i : ℕ) → i < n → at full i ≡ full_at rest cost reach l i
  pub line_is : (i : ℕ) → i < n → at line i ≡ line_at rest cost reach l i

-- a share, and its growth, from rows of works
unfoldable pub row_share : List ℕ → List ℕ → List ℕ → ℕ → ℕ → ℕ
row_share full line cap q i = min (min (min (at full i) (at cap i)) (at line i)) q

unfoldable pub row_growth : List ℕ → List ℕ → List ℕ → ℕ → ℕ → ℕ
row_growth full line cap q i = min (at full i) (at cap i) - row_share full line cap q i

pub record Sharable (cap : List ℕ) (n q : ℕ) (row : List ℕ) : Type 0 where
  pub used : n ≤ 32
  pub span : q ≤ 1000000
  pub caps : (i : ℕ) → i < n → at cap i ≤ 1000000
  pub size : length row ≡ 32

pub record Shared (line cap : List ℕ) (n q : ℕ) (row : List ℕ) (r : Whole) (next : List ℕ) : Type 0 where
  pub size : length next ≡ 32
  pub sum : r.sum ≡ sum_to (row_share row line cap q) n
  pub all : r.all ≡ sum_to (row_growth row line cap q) n
  pub growth : (i : ℕ) → i < n → at next i ≡ row_growth row line cap q i

pub record Evaluable (inverse rest cost reach cap : List ℕ) (n ahead q : ℕ) (row line : List ℕ) : Type 0
  where
    pub used : n ≤ 32
    pub range : q + ahead ≤ 1000000
    pub each : (i : ℕ) → i < n → SoundPlace (at inverse i) (at rest i) (at cost i) (at reach i)
    pub caps : (i : ℕ) → i < n → at cap i ≤ 1000000
    pub row_size : length row ≡ 32
    pub line_size : length line ≡ 32

pub record Evaluated (rest cost reach cap : List ℕ) (n ahead q : ℕ) (r : Whole) (row line : List ℕ) : Type 0
  where
    pub row_size : length row ≡ 32
    pub line_size : length line ≡ 32
    pub sum : r.sum ≡ sum_to (share_at rest cost reach cap ahead q) n
    pub all : r.all ≡ sum_to (growth_at rest cost reach cap ahead q) n
    pub growth : (i : ℕ) → i < n → at row i ≡ growth_at rest cost reach cap ahead q i
