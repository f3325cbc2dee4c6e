-- Document 01, "Testing and forcing": the values of an answer, and its records.
--
--   document 01                                         here
--   yes or no, forced count, passes                     given says forced passes
--   a refusal, with number, place and passes            refused number place passes
--   its values, 0 for none                              values_of n a, for each case a of Answer
--   the records that are written                        (values_of n a).written: one for each task, or none
--   a record: flag, forced mark, bound or 0             entry flag mark bound
--   n records, zeros past them                          records_of n flags marks bounds, by place
--   the forced marks: 1 for each changed task           changes given flags
--
-- Assumes nothing.
use Rattle.std.specs.Prelude.{ℕ, Bool, false, List, get_or, Ok, Err, Result}
use Rattle.base.specs.Rows.{row}
use Rattle.table.specs.declared.Refusal.{Refusal}
use Rattle.table.specs.Checks.{refusal}
use Rattle.flags.specs.Flags.{changed}
use Rattle.planner.specs.declared.Verdict.{Verdict}
use Rattle.planner.specs.declared.Stop.{Stop}
use Rattle.planner.specs.declared.Record.{Record}

-- a verdict, or a refusal with the passes that were made
abbrev pub Answer : Type 0
Answer = Result Verdict Stop

abbrev pub stop : Refusal → ℕ → Stop
stop why passes = record { why = why; passes = passes }

abbrev pub given : Bool → ℕ → ℕ → Answer
given says forced passes = Ok (record { yes = says; forced = forced; passes = passes })

abbrev pub refused : ℕ → ℕ → ℕ → Answer
refused number place passes = Err (stop (refusal number place) passes)

pub record Values : Type 0 where
  pub number : ℕ
  pub place : ℕ
  pub yes : Bool
  pub forced : ℕ
  pub passes : ℕ
  pub written : ℕ

-- the answer to a table of n tasks: a no is no refusal, and only a refusal writes no record
abbrev pub values_of : ℕ → Answer → Values
values_of n (Ok v) = record {
  number = 0;
  place = 0;
  yes = v.yes;
  forced = v.forced;
  passes = v.passes;
  written = n;
}
values_of n (Err s) = record {
  number = s.why.number;
  place = s.why.place;
  yes = false;
  forced = 0;
  passes = s.passes;
  written = 0;
}

abbrev pub entry : ℕ → ℕ → ℕ → Record
entry flag mark bound = record { flag = flag; forced = mark; bound = bound }

-- what stands past the last record
abbrev pub no_record : Record
no_record = entry 0 0 0

abbrev pub record_at : List Record → ℕ → Record
record_at rs i = get_or rs i no_record

abbrev pub records_of : ℕ → (ℕ → ℕ) → (ℕ → ℕ) → (ℕ → ℕ) → List Record
records_of n flags marks bounds = row no_record (λ i. entry (flags i) (marks i) (bounds i)) n

abbrev pub changes : (ℕ → ℕ) → (ℕ → ℕ) → ℕ → ℕ
changes given flags i = changed (given i) (flags i)
