-- What the listing is, over its definition: each theorem states one sentence and cites its law.
--
--   two results that the promise of a public function allows are equal    listing_only, put_accepted_only,
--                                                                         put_done_only
--   every listing fits in 2,048 bytes                                     listing_room_lem
--   a text's listing is that of its first 1,004 bytes                     listing_settled
--   a raised text has the text's listing                                  listing_raised
--   document 01's own example, and the empty input (case l)               example, empty
--
-- Assumes nothing.
use Rattle.std.proofs.Common.{ℕ, ◌≤◌, ◌≡◌, List, [], ◌++◌, length, take}
use Rattle.page.specs.Words.{word}
use Rattle.base.proofs.Unique.{only, Only, OnlyWith}
use Rattle.buffer.proofs.PutLaws.{put_only}
use Rattle.listing.proofs.write_listing.Kinds as listing
use Rattle.listing.proofs.write_listing.Reads as listing-reads
use Rattle.listing.proofs.put_accepted.Kinds as accepted
use Rattle.listing.proofs.put_accepted.Reads as accepted-reads
use Rattle.listing.specs.Listing.{listing_of}
use Rattle.listing.proofs.ListedLaws.{listed_only}
use Rattle.listing.proofs.AllFit.{listing_fits}
use Rattle.frames.specs.Digits.{raised}
use Rattle.lines.proofs.Theorems.{reading_settled}
use Rattle.lines.proofs.Letters.{raised_read}
use Rattle.planner.specs.Done.{plan_done}
use Rattle.listing.proofs.Samples as samples
use Rattle.listing.proofs.put_done.Kinds as put-done
use Rattle.listing.proofs.put_done.Reads as put-done-reads
use Rattle.listing.proofs.force_text.Kinds as force-text
use Rattle.listing.proofs.force_text.Reads as force-text-reads

pub listing_only : OnlyWith 2 listing.ps listing.r listing-reads.Post (λ κs s. s.1.0.now)
listing_only κs a x y s s' p q = listed_only p q

pub put_accepted_only : OnlyWith 1 accepted.ps accepted.r accepted-reads.Post (λ κs s. s.0.now)
put_accepted_only κs a x y s s' p q = put_only p q

pub put_done_only : OnlyWith 1 put-done.ps put-done.r put-done-reads.Post (λ κs s. s.0.now)
put_done_only κs a x y s s' p q = put_only p q

pub force_text_only : Only 1 force-text.ps force-text.r force-text-reads.Post
force_text_only κs a x y s s' p q = only p q

pub listing_room_lem : (text : List ℕ) → length (listing_of text) ≤ 2048
listing_room_lem = listing_fits

pub listing_settled : (text : List ℕ) → listing_of (take 1004 text) ≡ listing_of text
unfolding listing_of plan_done
listing_settled text = rw (reading_settled text)

pub listing_raised : (text : List ℕ) → listing_of (raised text) ≡ listing_of text
unfolding listing_of plan_done
listing_raised text = rw (raised_read text)

pub example : listing_of
    (word "01010102FB\n"
    ++ (word "02010000000C000000040000000CE1\n" ++ word "0201000000180000000900000012CA\n"))
    ≡ word "plan FP cores 1 tasks 2\n"
    ++ (word "task 1 N forced bound 12 deadline 12 load 334\n"
    ++ (word "task 2 N forced bound 17 deadline 18 load 375\n" ++ word "total load 709 forced 2 passes 3\n"))
example = samples.example

pub empty : listing_of [] ≡ word "refused 1 place 1\n"
empty = samples.empty
