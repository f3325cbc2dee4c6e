-- What is told of an answer, and from the answer by value to the promises. Assumes nothing.
use Rattle.std.proofs.Common.{ℕ, ◌≤◌, arith, ◌≡◌, ap, ap₂, ◌∙◌, List, get_or}
use Rattle.planner.specs.Answers.{Answer}
use Rattle.planner.specs.declared.Done.{Done}
use Rattle.planner.proofs.CountLaws.{Small}
use Rattle.asked.specs.declared.Asked.{Asked}
use Rattle.asked.specs.Asked.{AskedAs}
use Rattle.told.specs.Told.{yes_of, told_of, told_after}
use Rattle.told.proofs.ToldLaws.{yes_third}
use Rattle.jobs.specs.Jobs.{Heard, Told}

-- the numbers of an answer are what is heard of it
pub heard_whole : (a : Asked) (ans told ans' : List ℕ) → told ≡ told_of a.answer a.count a.word
    → ans' ≡ told_after told ans → Heard a ans (get_or told 2 0) ans'
heard_whole a ans told ans' e written = record {
  yes = ap (λ l. get_or l 2 0) e ∙ yes_third a.answer a.count a.word;
  answer = written ∙ ap (λ l. told_after l ans) e;
}

-- few enough records to be counted in a number of 32 bits
pub few_asked : {d : Done} {old : List ℕ} {a : Asked} {new : List ℕ} {room : ℕ} → AskedAs d old a new
    → Small room d → a.count ≤ 32
few_asked asked small = omega (arith, asked.count, small.few)

-- with the records that are written, it is what is told of the answer by value
pub told_whole : {d : Done} {old ans : List ℕ} {a : Asked} {r : ℕ} {new ans' : List ℕ} → AskedAs d old a new
    → Heard a ans r ans' → Told d old ans r new ans'
told_whole {d = d} {ans = ans} {a = a} asked heard = record {
  yes = heard.yes ∙ ap (λ (x : Answer). yes_of x) asked.answer;
  records = asked.records;
  answer =
      heard.answer
      ∙ ap₂ (λ (x : Answer) n. told_after (told_of x n a.word) ans) asked.answer asked.count
      ∙ ap (λ w. told_after (told_of d.answer d.count w) ans) asked.word;
}
