-- What the listings under edition 2 are, over their definitions.
--
--   any two results that a promise of this crate allows are equal        listing_2_only, test_2_only
--   a text's listings are those of its first 1,004 bytes                 listing_2_settled, test_2_settled
--   a raised text has the text's listings (Wish 6)                       listing_2_raised, test_2_raised
--
-- Assumes nothing.
use Rattle.std.proofs.Common.{ℕ, ◌≡◌, List, take}
use Rattle.base.proofs.Unique.{OnlyWith}
use Rattle.frames.specs.Digits.{raised}
use Rattle.lines.proofs.Theorems.{reading_settled}
use Rattle.lines.proofs.Letters.{raised_read}
use Rattle.editions.specs.Editions.{plan_second}
use Rattle.listing.proofs.ListedLaws.{listed_only}
use Rattle.round_listing.specs.RoundListing.{listing_of2, test_of2}
use Rattle.round_listing.proofs.write_listing_2.Kinds as listing
use Rattle.round_listing.proofs.write_listing_2.Reads as listing-reads
use Rattle.round_listing.proofs.write_test_2.Kinds as test
use Rattle.round_listing.proofs.write_test_2.Reads as test-reads

pub listing_2_only : OnlyWith 2 listing.ps listing.r listing-reads.Post (λ κs s. s.1.0.now)
listing_2_only κs a x y s s' p q = listed_only p q

pub test_2_only : OnlyWith 2 test.ps test.r test-reads.Post (λ κs s. s.1.0.now)
test_2_only κs a x y s s' p q = listed_only p q

pub listing_2_settled : (text : List ℕ) → listing_of2 (take 1004 text) ≡ listing_of2 text
unfolding listing_of2 plan_second
listing_2_settled text = rw (reading_settled text)

pub test_2_settled : (text : List ℕ) → test_of2 (take 1004 text) ≡ test_of2 text
unfolding test_of2 plan_second
test_2_settled text = rw (reading_settled text)

pub listing_2_raised : (text : List ℕ) → listing_of2 (raised text) ≡ listing_of2 text
unfolding listing_of2 plan_second
listing_2_raised text = rw (raised_read text)

pub test_2_raised : (text : List ℕ) → test_of2 (raised text) ≡ test_of2 text
unfolding test_of2 plan_second
test_2_raised text = rw (raised_read text)
