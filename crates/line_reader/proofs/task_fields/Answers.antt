-- `line_reader::task_fields` meets its contract: a byte and three words.
-- Assumes nothing.
use Rattle.std.proofs.Common.{arith, rules}
use Rattle.lines.specs.Fields.{task_of}
use Rattle.line_reader.proofs.task_fields.Goals as goal

pub word-requires : goal.word-requires
word-requires c =
    let start = c in
    (search rules, (omega arith, λ i l. start.requires.1.1 i (omega arith)))

pub word-requires-2 : goal.word-requires-2
word-requires-2 c =
    let start = c in
    (search rules, (omega arith, λ i l. start.requires.1.1 i (omega arith)))

pub word-requires-3 : goal.word-requires-3
word-requires-3 c =
    let start = c in
    (search rules, (omega arith, λ i l. start.requires.1.1 i (omega arith)))

pub returns : goal.returns
unfolding task_of
returns c = cc
