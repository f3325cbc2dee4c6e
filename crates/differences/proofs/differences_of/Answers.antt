-- `differences::differences_of` meets its contract: empty rows where there are no differences, else those
-- that are listed.
-- Assumes nothing.
use Rattle.std.proofs.Common.{sym, ◌∙◌}
use Rattle.flags.specs.Flags.{flag_in}
use Rattle.blocking.proofs.BlockLaws.{empty_size}
use Rattle.differences.proofs.DifferenceLaws.{fp_differs, preemptive_differs, edf_lists, edf_differs}
use Rattle.differences.proofs.differences_of.Goals as goal

pub returns-then-head-ne0 : goal.returns-then-head-ne0
returns-then-head-ne0 c =
    let g = c.args in
    fp_differs c.requires.0 (flag_in g.flags) g.k g.head.policy _ _ c.requires.2 c.if-head-ne0.true

pub returns-then-flag_at-ne0 : goal.returns-then-flag_at-ne0
returns-then-flag_at-ne0 c =
    let g = c.args in
    preemptive_differs c.requires.0 (flag_in g.flags) g.k g.head.policy _ _ c.requires.2
    (λ z. c.if-flag_at-ne0.true (c.flag_at.ensures ∙ z))

pub list_all-requires : goal.list_all-requires
list_all-requires c =
    let g = c.args in
    edf_lists c.requires.0 (flag_in g.flags) g.k g.head.policy _ _ (empty_size c.requires.2) c.requires.3

pub returns : goal.returns
returns c =
    let g = c.args in
    edf_differs c.requires.0 (flag_in g.flags) g.k g.head.policy c.if-head-ne0.false
    (sym c.flag_at.ensures ∙ c.if-flag_at-ne0.false) c.requires.1 c.list_all.ensures
