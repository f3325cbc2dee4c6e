-- `desk::refuse` is safe: the refusal's line fits into the buffer. Assumes nothing.
use Rattle.std.proofs.Common.{arith, rules}
use Rattle.listing.proofs.FitLaws.{refusal_fits}
use Rattle.desk.proofs.refuse.Goals as goal

pub put_refusal-n-requires : goal.put_refusal-n-requires
put_refusal-n-requires c =
    let a = c.args in
    omega (
      arith,
      refusal_fits a.number a.place a.passes (search rules) (search rules) (search rules),
    )
