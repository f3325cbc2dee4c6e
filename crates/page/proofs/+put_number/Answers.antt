-- `page::put_number` meets its contract: one digit, or the digits of n / 10 and then the last one; n falls.
-- Assumes nothing.
use Rattle.std.proofs.Common.{◌/◌, ◌<◌, arith, rules}
use Rattle.buffer.proofs.PutLaws.{put_length}
use Rattle.page.proofs.NumberLaws.{room_small, room_more, number_small, number_more}
use Rattle.page.proofs.+put_number.Goals as goal

pub put_digit-requires : goal.put_digit-requires
put_digit-requires t c = (search rules, room_small _ _ _ c.requires c.if-n-lt10.true)

pub returns-then-n-lt10 : goal.returns-then-n-lt10
returns-then-n-lt10 t c = number_small c.if-n-lt10.true c.put_digit.ensures

pub put_number-last-requires : goal.put_number-last-requires
put_number-last-requires t c = (
  (let h : c.args.n / 10 < c.args.n = omega arith in omega (arith, c.decreases)),
  omega (arith, room_more _ _ _ c.requires (omega arith)),
)

pub put_digit-requires-2 : goal.put_digit-requires-2
put_digit-requires-2 t c =
    let p = c.put_number-last.ensures in
    (omega arith, omega (arith, p.next, put_length p, room_more _ _ _ c.requires (omega arith)))

pub returns : goal.returns
returns t c = number_more c.if-n-lt10.false c.put_number-last.ensures c.put_digit-2.ensures
