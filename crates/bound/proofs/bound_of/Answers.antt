-- `bound::bound_of` meets its contract: the least q under the caps gives the bound.
-- Assumes nothing.
use Rattle.std.proofs.Common.{arith}
use Rattle.flags.specs.Flags.{flag_in}
use Rattle.bound.proofs.SearchLaws.{rows_searchable, rows_sooner, search_none, search_found}
use Rattle.bound.proofs.SearchLaws.{search_small}
use Rattle.bound.proofs.bound_of.Goals as goal

pub ahead_of-ahead-requires : goal.ahead_of-ahead-requires
ahead_of-ahead-requires c = (c.args.rows.now.legal.each c.args.k c.requires.0).time

pub overflow_add-last : goal.overflow_add-last
overflow_add-last c = omega (arith, c.args.rows.now.legal.each c.args.k c.requires.0)

pub least_q-q-requires : goal.least_q-q-requires
least_q-q-requires c =
    let fl = flag_in c.args.flags in (
      rows_searchable c.args.rows.now.legal fl c.args.k c.requires.0 c.caps_of-used.ensures
          c.flag_at.ensures c.ahead_of-ahead.ensures,
      rows_sooner c.args.rows.now.legal fl c.args.k c.requires.0 c.caps_of-used.ensures c.flag_at.ensures
          c.ahead_of-ahead.ensures c.requires.1,
    )

pub returns-then-q-eq0 : goal.returns-then-q-eq0
returns-then-q-eq0 c =
    search_none c.args.rows.now.legal (flag_in c.args.flags) c.args.k c.requires.0 c.caps_of-used.ensures
    c.flag_at.ensures c.ahead_of-ahead.ensures c.least_q-q.ensures c.if-q-eq0.true

pub overflow_sub-result : goal.overflow_sub-result
overflow_sub-result c = (c.args.rows.now.legal.each c.args.k c.requires.0).time

pub overflow_add-result : goal.overflow_add-result
overflow_add-result c =
    omega (
      arith,
      search_small c.args.rows.now.legal (flag_in c.args.flags) c.args.k c.requires.0 c.caps_of-used.ensures
          c.flag_at.ensures c.ahead_of-ahead.ensures c.least_q-q.ensures c.if-q-eq0.false,
    )

pub returns : goal.returns
returns c =
    search_found c.args.rows.now.legal (flag_in c.args.flags) c.args.k c.requires.0 c.caps_of-used.ensures
    c.flag_at.ensures c.ahead_of-ahead.ensures c.least_q-q.ensures c.if-q-eq0.false
