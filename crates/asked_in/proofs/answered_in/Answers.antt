-- `asked_in::answered_in` meets its contract, by the edition.
-- Assumes nothing.
use Rattle.asked_in.proofs.InLaws.{first_of, second_of}
use Rattle.asked_in.proofs.answered_in.Goals as goal

pub returns-in-First : goal.returns-in-First
returns-in-First c = first_of _ _ _ _ c.in-First.is c.answered.ensures

pub returns-in-Second : goal.returns-in-Second
returns-in-Second c = second_of _ _ _ _ c.in-Second.is c.answered_second.ensures

pub answered-requires : goal.answered-requires
answered-requires c = c.requires

pub answered_second-requires : goal.answered_second-requires
answered_second-requires c = c.requires
