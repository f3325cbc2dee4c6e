-- What is told of an answer with its rounds, and from the answer in parts to the promises.
-- Assumes nothing.
use Rattle.std.proofs.Common.{ℕ, ◌≤◌, arith, ◌≡◌, refl, ap, ap₂, ◌∙◌, List, get_or, set}
use Rattle.planner.specs.Answers.{Answer}
use Rattle.planner.proofs.CountLaws.{Small}
use Rattle.edition_2.specs.declared.Rounded.{Rounded}
use Rattle.asked_in.specs.declared.AskedIn.{AskedIn}
use Rattle.asked_in.specs.AskedIn.{AskedAsIn}
use Rattle.told.specs.Told.{fields, yes_of, told_of, told_after}
use Rattle.edition_jobs.specs.Jobs.{numbers_in, ToldIn, HeardIn}

-- the third number is the yes, with the round count too
yes_third : (a : Answer) (n w r : ℕ) → get_or (numbers_in a n w r) 2 0 ≡ yes_of a
unfolding fields
yes_third a n w r = refl

-- the numbers of an answer are what is heard of it
pub heard_whole : (x : AskedIn) (ans told ans' : List ℕ)
    → told ≡ told_of x.asked.answer x.asked.count x.asked.word
    → ans' ≡ told_after (set told 6 x.rounds) ans
    → HeardIn x ans (get_or (set told 6 x.rounds) 2 0) ans'
heard_whole x ans told ans' e written = record {
  yes =
      ap (λ l. get_or (set l 6 x.rounds) 2 0) e
      ∙ yes_third x.asked.answer x.asked.count x.asked.word x.rounds;
  answer = written ∙ ap (λ l. told_after (set l 6 x.rounds) ans) e;
}

-- few enough records to be counted in a number of 32 bits
pub few_asked : {r : Rounded} {old : List ℕ} {x : AskedIn} {new : List ℕ} {room : ℕ} → AskedAsIn r old x new
    → Small room r.done → x.asked.count ≤ 32
few_asked asked small = omega (arith, asked.asked.count, small.few)

-- with the records that are written, it is what is told of the answer by value
pub told_whole : {r : Rounded} {old ans : List ℕ} {x : AskedIn} {y : ℕ} {new ans' : List ℕ}
    → AskedAsIn r old x new → HeardIn x ans y ans' → ToldIn r old ans y new ans'
told_whole {r} {ans = ans} {x = x} asked heard = record {
  yes = heard.yes ∙ ap (λ (a : Answer). yes_of a) asked.asked.answer;
  records = asked.asked.records;
  answer =
      heard.answer
      ∙ ap₂ (λ (a : Answer) n. told_after (numbers_in a n x.asked.word x.rounds) ans)
      asked.asked.answer asked.asked.count
      ∙ ap₂ (λ w k. told_after (numbers_in r.done.answer r.done.count w k) ans) asked.asked.word
      asked.rounds;
}
