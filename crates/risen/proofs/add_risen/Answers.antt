-- `risen::add_risen` meets its contract: what is kept of the numbers at q is what the m largest come to.
-- Assumes nothing.
use Rattle.risen.proofs.RisenLaws.{risen_addable, risen_added}
use Rattle.risen.proofs.add_risen.Goals as goal

pub add_kept-requires : goal.add_kept-requires
add_kept-requires c =
    risen_addable c.args.most.now c.args.wait.now _ c.args.q c.requires c.risen_row.ensures
    c.keep_largest.ensures.1

pub returns : goal.returns
returns c =
    risen_added c.args.most.now c.args.wait.now _ c.args.q c.requires c.risen_row.ensures
    c.keep_largest.ensures.1 c.add_kept.ensures
