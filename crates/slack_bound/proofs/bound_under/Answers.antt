-- `slack_bound::bound_under` meets its contract: the least q under the caps, past the differences, gives the
-- bound.
-- Assumes nothing.
use Rattle.std.proofs.Common.{arith, refl, sym}
use Rattle.flags.specs.Flags.{flag_in}
use Rattle.slack_bound.proofs.UnderLaws.{nothing_below, under_none, under_searchable, all_least}
use Rattle.slack_bound.proofs.UnderLaws.{bound_none, bound_found, bound_small}
use Rattle.slack_bound.proofs.bound_under.Goals as goal

pub least_q-first-requires : goal.least_q-first-requires
least_q-first-requires c =
    let fl = flag_in c.args.flags in (
      under_searchable c.args.rows.now.legal c.requires.1 fl c.args.k c.requires.0 c.caps_under-used.ensures
          c.flag_at.ensures c.ahead_of-ahead.ensures c.caps_under-used.ensures.counted.within,
      nothing_below c.args.rows.now.legal c.requires.1 fl c.args.k c.requires.0 _ _ _ _,
    )

pub returns-then-first-eq0 : goal.returns-then-first-eq0
returns-then-first-eq0 c =
    let fl = flag_in c.args.flags in
    let is = c.caps_under-used.ensures in
    bound_none c.args.rows.now.legal c.requires.1 fl c.args.k c.requires.0 is c.flag_at.ensures
    c.ahead_of-ahead.ensures
    (sym
    (under_none c.args.rows.now.legal c.requires.1 fl c.args.k c.requires.0 _ _ _
    (all_least c.args.rows.now.legal c.requires.1 fl c.args.k c.requires.0 is c.flag_at.ensures
    c.ahead_of-ahead.ensures c.least_q-first.ensures)
    c.if-first-eq0.true))
    refl

pub past_differences-q-requires : goal.past_differences-q-requires
past_differences-q-requires c =
    let fl = flag_in c.args.flags in
    let is = c.caps_under-used.ensures in (
      c.requires.0,
      c.requires.1,
      under_searchable c.args.rows.now.legal c.requires.1 fl c.args.k c.requires.0 is c.flag_at.ensures
          c.ahead_of-ahead.ensures (omega arith),
      all_least c.args.rows.now.legal c.requires.1 fl c.args.k c.requires.0 is c.flag_at.ensures
          c.ahead_of-ahead.ensures c.least_q-first.ensures,
      omega (arith, c.if-first-eq0.false),
    )

pub returns-then-q-eq0 : goal.returns-then-q-eq0
returns-then-q-eq0 c =
    bound_none c.args.rows.now.legal c.requires.1 (flag_in c.args.flags) c.args.k c.requires.0
    c.caps_under-used.ensures c.flag_at.ensures c.ahead_of-ahead.ensures
    c.past_differences-q.ensures c.if-q-eq0.true

pub overflow_add-result : goal.overflow_add-result
overflow_add-result c =
    omega (
      arith,
      bound_small c.args.rows.now.legal c.requires.1 (flag_in c.args.flags) c.args.k c.requires.0
          c.caps_under-used.ensures c.flag_at.ensures c.ahead_of-ahead.ensures
          c.past_differences-q.ensures c.if-q-eq0.false,
    )

pub returns : goal.returns
returns c =
    bound_found c.args.rows.now.legal c.requires.1 (flag_in c.args.flags) c.args.k c.requires.0
    c.caps_under-used.ensures c.flag_at.ensures c.ahead_of-ahead.ensures
    c.past_differences-q.ensures c.if-q-eq0.false
