-- The word of an answer is the one that ties to the flags in its records, and 0 where there are none. From
-- flags by place, and from the flags that an answer holds before its records are listed.
-- Assumes nothing.
use Rattle.std.proofs.Common.{ℕ, ◌≤◌, min, arith, ◌≡◌, refl, sym, ap, ◌∙◌, List}
use Rattle.base.proofs.RowLaws.{row_at}
use Rattle.base.specs.Sums.{sum_to}
use Rattle.table.specs.declared.Refusal.{Refusal}
use Rattle.flags.specs.declared.Flags.{Flags}
use Rattle.flags.specs.Words.{bits_to, word_of, WordFor}
use Rattle.flags.specs.Flags.{flag_in, held}
use Rattle.flags.proofs.WordLaws.{word_alike}
use Rattle.flags.proofs.WordForLaws.{is_word_for, held_word}
use Rattle.planner.specs.declared.Done.{Done}
use Rattle.planner.specs.declared.Said.{Said}
use Rattle.planner.specs.declared.Record.{Record}
use Rattle.planner.specs.Answers.{no_record}
use Rattle.planner.specs.Done.{refuse}
use Rattle.planner.specs.Rows.{said_done}
use Rattle.words.specs.Word.{flag_at, word_of_done}

few_written : (n : ℕ) → n ≤ 32 → min n 32 ≡ n
few_written n few = omega arith

pub done_word_for : (d : Done) → d.count ≤ 32 → WordFor (flag_at d) d.count (word_of_done d)
unfolding word_of_done
done_word_for d few =
    is_word_for (flag_at d) d.count (ap (word_of (flag_at d)) (few_written d.count few))

-- a refusal writes no record
pub none_word : (d : Done) → d.count ≡ 0 → word_of_done d ≡ 0
unfolding word_of_done word_of bits_to sum_to
none_word d none = ap (λ n. word_of (flag_at d) (min n 32)) none

pub refused_word : (why : Refusal) (passes : ℕ) → word_of_done (refuse why passes) ≡ 0
refused_word why passes = none_word (refuse why passes) refl

-- the end of a loop that holds the flags of the records
pub done_word_end : (d : Done) {flags : Flags} {i n r : ℕ} → flags ≡ held (flag_at d) i → i ≡ n
    → n ≡ min d.count 32 → r ≡ word_of (flag_in flags) n → r ≡ word_of_done d
unfolding word_of_done
done_word_end d {flags} {i} {n} e all few is =
    is
    ∙ ap (λ (f : Flags). word_of (flag_in f) n) (e ∙ ap (held (flag_at d)) all)
    ∙ held_word (flag_at d) n
    ∙ ap (word_of (flag_at d)) few

-- the flags of an answer whose records are not listed yet
pub said_word : (given : Flags) (s : Said) (bounds : List ℕ) → s.count ≤ 32
    → word_of (flag_in s.flags) s.count ≡ word_of_done (said_done given s bounds)
unfolding said_done word_of_done
said_word given s bounds few =
    word_alike _ _ s.count
    (λ i l. sym (ap (λ (r : Record). r.flag) (row_at no_record _ s.count i l few)))
    ∙ ap (word_of (flag_at (said_done given s bounds))) (sym (few_written s.count few))
