-- What the listing of a plan as sent is, over its definition.
--
--   any two results that the promise of `write_test` allows are equal       test_only
--   a text's listing is that of its first 1,004 bytes                       test_settled
--   a raised text has the text's listing                                    test_raised
--   document 01's case a: bounds 4 and none                                 example
--
-- Assumes nothing.
use Rattle.std.proofs.Common.{ℕ, ◌≡◌, refl, List, ◌++◌, take}
use Rattle.base.specs.Sums.{sum_to, top_to}
use Rattle.base.specs.Least.{least, first_from}
use Rattle.base.specs.Rows.{list_from, row}
use Rattle.model.specs.Bound.{work_in, W, E, share, block, from, cap, share_of, block_of, B, satisfies}
use Rattle.model.specs.Bound.{least_length, bound}
use Rattle.model.specs.Forcing.{test, lowest}
use Rattle.table.specs.Table.{flags_of}
use Rattle.table.specs.Checks.{head_fault, task_fault}
use Rattle.table.specs.Load.{load, total_load}
use Rattle.frames.specs.Digits.{digit_of, raised, byte_at, word_at, all_digits}
use Rattle.frames.specs.Frames.{frame_fault}
use Rattle.lines.specs.Form.{line_start}
use Rattle.lines.specs.Fields.{head_of, task_of, head_line_fault, task_line_fault}
use Rattle.lines.specs.Reads.{with_tasks, wrong_task, tasks_read, front_by, read_of}
use Rattle.lines.proofs.Theorems.{reading_settled}
use Rattle.lines.proofs.Letters.{raised_read}
use Rattle.planner.specs.Done.{test_done, legal_done, room_done, plan_done}
use Rattle.page.specs.Decimal.{digits, decimal}
use Rattle.page.specs.Words.{word}
use Rattle.listing_lines.specs.Lines.{line_one}
use Rattle.listing.specs.Listing.{lines_to}
use Rattle.listing.proofs.ListedLaws.{listed_only}
use Rattle.test_listing.specs.TestListing.{bound_part, test_task, test_last, test_text, test_of, TestListed}
use Rattle.test_listing.proofs.put_done.Kinds as put-done
use Rattle.test_listing.proofs.put_done.Reads as put-done-reads
use Rattle.buffer.proofs.PutLaws.{put_only}
use Rattle.base.proofs.Unique.{OnlyWith}

pub test_only : (text : List ℕ) {old a b : List ℕ} {r r' : ℕ} → TestListed text old r a
    → TestListed text old r' b
    → (r ≡ r') × (a ≡ b)
test_only text p q = listed_only p q

pub test_settled : (text : List ℕ) → test_of (take 1004 text) ≡ test_of text
unfolding test_of plan_done
test_settled text = rw (reading_settled text)

pub test_raised : (text : List ℕ) → test_of (raised text) ≡ test_of text
unfolding test_of plan_done
test_raised text = rw (raised_read text)

pub example : test_of
    (word "01010102FB\n"
    ++ (word "02010000000C000000040000000CE1\n" ++ word "0201000000180000000900000012CA\n"))
    ≡ word "plan FP cores 1 tasks 2\n"
    ++ (word "task 1 P bound 4 deadline 12 load 334\n"
    ++ (word "task 2 P none deadline 18 load 375\n" ++ word "total load 709 answer no\n"))
unfolding sum_to top_to least first_from work_in W E share block from cap share_of block_of B satisfies
    least_length
    bound list_from test lowest flags_of row head_fault task_fault digit_of byte_at word_at all_digits
    frame_fault
    head_of task_of line_start head_line_fault task_line_fault with_tasks wrong_task tasks_read front_by
    read_of test_done
    legal_done room_done plan_done digits decimal load line_one bound_part test_task test_last total_load
    lines_to
    test_text test_of
example = refl

pub put_done_only : OnlyWith 1 put-done.ps put-done.r put-done-reads.Post (λ κs s. s.0.now)
put_done_only κs a x y s s' p q = put_only p q
