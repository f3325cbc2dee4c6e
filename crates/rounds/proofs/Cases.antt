-- Every case of specs/Cases: antt computes both answers.
-- Assumes nothing.
use Rattle.std.proofs.Common.{T}
use Rattle.base.specs.Sums.{sum_to, top_to}
use Rattle.base.specs.Least.{least, first_from}
use Rattle.base.specs.Rows.{list_from}
use Rattle.model.specs.Bound.{work_in, W, E, share, block, from, cap, share_of, block_of}
use Rattle.model.specs.Bound.{B, satisfies, least_length, bound}
use Rattle.model.specs.Forcing.{test, lowest, lacks, lacking, made}
use Rattle.rounds.specs.Rounds.{no_slack, bounds_in, slack_after, slacks_after, changes, rounds_from, room}
use Rattle.rounds.specs.Rounds.{test2}
use Rattle.rounds.specs.Forcing.{lowest_preemptive, made_lowest, made2, run2, force2}
use Rattle.rounds.specs.Cases.{cases, every, right, same_numbers, same_test}

pub marked : T (every cases)
unfolding
    sum_to top_to least first_from list_from work_in W E share block from cap share_of block_of B satisfies
    least_length bound test lowest lacks lacking made no_slack bounds_in slack_after slacks_after changes
    rounds_from room test2 lowest_preemptive made_lowest made2 run2 force2 cases every right same_numbers
    same_test
marked = tt
