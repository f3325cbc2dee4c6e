-- The two loops together are an evaluation: what the rows give is the share of the place, and its growth.
-- Assumes nothing.
use Rattle.std.proofs.Common.{ℕ, ◌+◌, ◌-◌, ◌<◌, min, ◌≡◌, ap₂, ◌∙◌, List}
use Rattle.base.specs.Rows.{at}
use Rattle.base.proofs.SumLaws.{sum_same}
use Rattle.shares.specs.declared.Whole.{Whole}
use Rattle.shares.specs.Shares.{share_at, growth_at}
use Rattle.shares.specs.Rows.{WorkRows, row_share, row_growth, Shared, Evaluable, Evaluated}
use Rattle.shares.proofs.ShareLaws.{share_is}

module _ {inverse rest cost reach cap : List ℕ} {n ahead q : ℕ} {row line : List ℕ}
    (ok : Evaluable inverse rest cost reach cap n ahead q row line) {full left : List ℕ}
    (works : WorkRows rest cost reach n (q + ahead) full left) where
  row_share_lem : (i : ℕ) → i < n → row_share full left cap q i ≡ share_at rest cost reach cap ahead q i
  unfolding row_share
  row_share_lem i lt =
      rw (works.full_is i lt, works.line_is i lt)
      (share_is rest cost reach cap ahead q i (ok.each i lt) ok.range)

  row_growth_lem : (i : ℕ) → i < n → row_growth full left cap q i ≡ growth_at rest cost reach cap ahead q i
  unfolding row_growth growth_at
  row_growth_lem i lt = ap₂ (λ f s. min f (at cap i) - s) (works.full_is i lt) (row_share_lem i lt)

  pub evaluated : {r : Whole} {next : List ℕ} → Shared left cap n q full r next
      → Evaluated rest cost reach cap n ahead q r next left
  evaluated a = record {
    row_size = a.size;
    line_size = works.line_size;
    sum = a.sum ∙ sum_same (row_share full left cap q) (share_at rest cost reach cap ahead q) n row_share_lem;
    all = a.all ∙ sum_same (row_growth full left cap q) (growth_at rest cost reach cap ahead q) n
        row_growth_lem;
    growth = λ i lt. a.growth i lt ∙ row_growth_lem i lt;
  }
