-- Two results which a promise of `levels` allows are equal: the yes, and both of the caller's lists
-- afterwards. The statements are over the promises as a caller reads them. Assumes nothing.
use Rattle.std.proofs.Common.{◌≡◌}
use borrow.Fn.Kinds.{Dens, res_t, ended_of}
use contract.Lifetimes.{Lfts}
use denote.Triple.Clauses.{AtExit}
use Rattle.wrote.proofs.Unique.{wrote_only}
use Rattle.jobs.proofs.Unique.{told_only}
use Rattle.edition_jobs.proofs.Unique.{told_only as told-in-only}
use Rattle.fewest_jobs.proofs.Unique.{fewest_told_only}
use Rattle.eskihrum.proofs.levels.eskihrum_flat_test_levels.Kinds as test-levels
use Rattle.eskihrum.proofs.levels.eskihrum_flat_test_levels.Reads as test-levels-reads
use Rattle.eskihrum.proofs.levels.eskihrum_flat_force_levels.Kinds as force-levels
use Rattle.eskihrum.proofs.levels.eskihrum_flat_force_levels.Reads as force-levels-reads
use Rattle.eskihrum.proofs.levels.eskihrum_flat_test_levels_2.Kinds as test-levels-2
use Rattle.eskihrum.proofs.levels.eskihrum_flat_test_levels_2.Reads as test-levels-2-reads
use Rattle.eskihrum.proofs.levels.eskihrum_flat_force_levels_2.Kinds as force-levels-2
use Rattle.eskihrum.proofs.levels.eskihrum_flat_force_levels_2.Reads as force-levels-2-reads
use Rattle.eskihrum.proofs.levels.eskihrum_flat_fewest_levels.Kinds as fewest-levels
use Rattle.eskihrum.proofs.levels.eskihrum_flat_fewest_levels.Reads as fewest-levels-reads
use Rattle.eskihrum.proofs.levels.eskihrum_flat_write_levels.Kinds as write-levels
use Rattle.eskihrum.proofs.levels.eskihrum_flat_write_levels.Reads as write-levels-reads

pub eskihrum_flat_test_levels_only : (κs : Lfts 3) (a : Dens κs test-levels.ps)
    (x y : (res_t test-levels.r κs).Denot) (s s' : AtExit (ended_of 3 test-levels.ps test-levels.r) κs)
    → test-levels-reads.Post κs a x s → test-levels-reads.Post κs a y s'
    → (x ≡ y) × (s.1.1.1.0.now ≡ s'.1.1.1.0.now)
    × (s.1.1.1.1.0.now ≡ s'.1.1.1.1.0.now)
eskihrum_flat_test_levels_only κs a x y s s' p q = told_only _ _ _ p q

pub eskihrum_flat_force_levels_only : (κs : Lfts 3) (a : Dens κs force-levels.ps)
    (x y : (res_t force-levels.r κs).Denot) (s s' : AtExit (ended_of 3 force-levels.ps force-levels.r) κs)
    → force-levels-reads.Post κs a x s → force-levels-reads.Post κs a y s'
    → (x ≡ y) × (s.1.1.1.0.now ≡ s'.1.1.1.0.now)
    × (s.1.1.1.1.0.now ≡ s'.1.1.1.1.0.now)
eskihrum_flat_force_levels_only κs a x y s s' p q = told_only _ _ _ p q

pub eskihrum_flat_test_levels_2_only : (κs : Lfts 3) (a : Dens κs test-levels-2.ps)
    (x y : (res_t test-levels-2.r κs).Denot) (s s' : AtExit (ended_of 3 test-levels-2.ps test-levels-2.r) κs)
    → test-levels-2-reads.Post κs a x s → test-levels-2-reads.Post κs a y s'
    → (x ≡ y) × (s.1.1.1.0.now ≡ s'.1.1.1.0.now)
    × (s.1.1.1.1.0.now ≡ s'.1.1.1.1.0.now)
eskihrum_flat_test_levels_2_only κs a x y s s' p q = told-in-only _ _ _ p q

pub eskihrum_flat_force_levels_2_only : (κs : Lfts 3) (a : Dens κs force-levels-2.ps)
    (x y : (res_t force-levels-2.r κs).Denot)
    (s s' : AtExit (ended_of 3 force-levels-2.ps force-levels-2.r) κs)
    → force-levels-2-reads.Post κs a x s → force-levels-2-reads.Post κs a y s'
    → (x ≡ y) × (s.1.1.1.0.now ≡ s'.1.1.1.0.now)
    × (s.1.1.1.1.0.now ≡ s'.1.1.1.1.0.now)
eskihrum_flat_force_levels_2_only κs a x y s s' p q = told-in-only _ _ _ p q

pub eskihrum_flat_fewest_levels_only : (κs : Lfts 3) (a : Dens κs fewest-levels.ps)
    (x y : (res_t fewest-levels.r κs).Denot) (s s' : AtExit (ended_of 3 fewest-levels.ps fewest-levels.r) κs)
    → fewest-levels-reads.Post κs a x s → fewest-levels-reads.Post κs a y s'
    → (x ≡ y) × (s.1.1.1.0.now ≡ s'.1.1.1.0.now)
    × (s.1.1.1.1.0.now ≡ s'.1.1.1.1.0.now)
eskihrum_flat_fewest_levels_only κs a x y s s' p q = fewest_told_only _ _ _ p q

pub eskihrum_flat_write_levels_only : (κs : Lfts 3) (a : Dens κs write-levels.ps)
    (x y : (res_t write-levels.r κs).Denot) (s s' : AtExit (ended_of 3 write-levels.ps write-levels.r) κs)
    → write-levels-reads.Post κs a x s → write-levels-reads.Post κs a y s'
    → (x ≡ y) × (s.1.1.1.0.now ≡ s'.1.1.1.0.now)
    × (s.1.1.1.1.1.0.now ≡ s'.1.1.1.1.1.0.now)
eskihrum_flat_write_levels_only κs a x y s s' p q = wrote_only p q
