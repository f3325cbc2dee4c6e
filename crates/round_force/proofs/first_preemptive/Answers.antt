-- `round_force::first_preemptive` meets its contract: no place before the one that is found is preemptive.
-- Assumes nothing.
use Rattle.std.proofs.Common.{◌≡◌, true, false, ltb, rules}
use Rattle.std.proofs.lemmas.Iterator.{first_from_Range}
use Rattle.flags.specs.Flags.{flag_in}
use Rattle.round_force.proofs.ChangeLaws.{first_found}
use Rattle.round_force.proofs.first_preemptive.Goals as goal

pub returns : goal.returns
returns c =
    first_found c.args.n c.args.flags _
    (first_from_Range _ _ _ _ (λ k. ltb 0 (flag_in c.args.flags k) ≡ true)
    (λ k. ltb 0 (flag_in c.args.flags k) ≡ false) c.find.ensures.ran
    (λ x q k. search rules) (λ x q k. search rules))
