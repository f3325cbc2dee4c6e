-- Each line as the words that are written one after the other, its length by theirs, and that it is short.
-- Assumes nothing.
use Rattle.std.proofs.Common.{ℕ, zero, suc, ◌+◌, ◌≤◌, ◌<◌, arith, ◌≡◌, ap, ◌∙◌, ◌++◌, append_assoc}
use Rattle.std.proofs.Common.{append-nil, length, length-append}
use Rattle.page.specs.Decimal.{decimal}
use Rattle.page.specs.Words.{word, either}
use Rattle.page.proofs.WordLaws.{either_zero, either_other, either_after}
use Rattle.listing.proofs.FitLaws.{seven}
use Rattle.test_listing.specs.declared.TestRow.{TestRow}
use Rattle.test_listing.specs.TestListing.{bound_part, test_task, test_last}

pub bound_none : (b : ℕ) → b ≡ 0 → word " none" ≡ bound_part b
unfolding bound_part
bound_none b e = either_zero b _ _ e

pub bound_some : (b : ℕ) → (b ≡ 0 → ⊥) → word " bound " ++ decimal b ≡ bound_part b
unfolding bound_part
bound_some b h = either_other b _ _ h

pub bound_short : (b : ℕ) → b < 10000000 → length (bound_part b) ≤ 14
unfolding bound_part
bound_short zero h = omega arith
bound_short (suc b) h = omega (arith, seven (suc b) h, length-append (word " bound ") (decimal (suc b)))

module _ (r : TestRow) where
  pub task_parts : test_task r
      ≡ (word "task " ++ decimal r.number)
      ++ (either r.flag (word " N") (word " P")
      ++ (bound_part r.bound
      ++ ((word " deadline " ++ decimal r.deadline)
      ++ ((word " load " ++ decimal r.load) ++ word "\n"))))
  unfolding test_task
  task_parts = simp (append_assoc, append-nil)

  pub task_length : length (test_task r)
      ≡ length (decimal r.number)
      + length (either r.flag (word " N") (word " P"))
      + length (bound_part r.bound)
      + length (decimal r.deadline)
      + length (decimal r.load)
      + 22
  task_length = ap length task_parts ∙ simp length-append (omega arith)

module _ (total says : ℕ) where
  pub last_parts : test_last total says
      ≡ (word "total load " ++ decimal total)
      ++ (either says (word " answer no") (word " answer yes") ++ word "\n")
  unfolding test_last
  last_parts =
      simp (append_assoc, append-nil, either_after says (word " answer ") (word "no") (word "yes"))

  pub last_length : length (test_last total says)
      ≡ length (decimal total) + length (either says (word " answer no") (word " answer yes")) + 12
  last_length = ap length last_parts ∙ simp length-append (omega arith)
