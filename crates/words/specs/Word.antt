-- The flags of an answer in one word.
--
--   document 02, wish 7                                     here
--   the flag of task i + 1, in record i of an answer        flag_at d i
--   the word that goes out: bit i is set exactly if         word_of_done d
--   record i has flag 0 and is one of those that are
--   written; zeros above, and 0 in every refusal
--
-- Assumes nothing.
use Rattle.std.specs.Prelude.{ℕ, min}
use Rattle.flags.specs.Words.{word_of}
use Rattle.planner.specs.declared.Done.{Done}
use Rattle.planner.specs.Answers.{record_at}

abbrev pub flag_at : Done → ℕ → ℕ
flag_at d i = (record_at d.recs i).flag

-- a list has 32 records
unfoldable pub word_of_done : Done → ℕ
word_of_done d = word_of (flag_at d) (min d.count 32)
