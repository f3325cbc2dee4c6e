-- `risen::more_of` meets its contract: the test on the way picks the line of `more_of`.
-- Assumes nothing.
use Rattle.std.proofs.Common.{refl}
use Rattle.risen.specs.Risen.{more_of}
use Rattle.risen.proofs.AddLaws.{more_some}
use Rattle.risen.proofs.more_of.Goals as goal

pub returns-then-kept-eq0 : goal.returns-then-kept-eq0
unfolding more_of
returns-then-kept-eq0 c = rw (c.if-kept-eq0.true, more_of) refl

pub returns : goal.returns
returns c = cc (more_some c.args.kept c.args.most c.args.growth c.if-kept-eq0.false)
