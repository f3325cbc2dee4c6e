-- `test_listing::put_bound` meets its contract: none for 0, else the bound. Assumes nothing.
use Rattle.std.proofs.Common.{arith, ap, length}
use Rattle.test_listing.proofs.LineLaws.{bound_none, bound_some}
use Rattle.test_listing.proofs.put_bound.Goals as goal

pub put-requires : goal.put-requires
put-requires c = omega (arith, ap length (bound_none c.args.bound c.if-bound-eq0.true))

pub put_field-requires : goal.put_field-requires
put_field-requires c = omega (arith, ap length (bound_some c.args.bound c.if-bound-eq0.false))

pub returns-then-bound-eq0 : goal.returns-then-bound-eq0
returns-then-bound-eq0 c = rw (bound_none _ c.if-bound-eq0.true) at c.put.ensures

pub returns-else-bound-eq0 : goal.returns-else-bound-eq0
returns-else-bound-eq0 c = rw (bound_some _ c.if-bound-eq0.false) at c.put_field.ensures
