-- Document 02, Wishes 1 and 4: the table as changed by forcing under edition 2.
--
--   the order                                                     here
--   what forcing the sent text gives                              forced2 text
--   the sent table with the flags at the end of forcing           with_flags (sent_table text) of its records
--   it refuses as forcing does, then 16; a refusal writes nothing ChangedAs2
--
-- Assumes nothing.
use Rattle.std.specs.Prelude.{ℕ, List}
use Rattle.planner.specs.declared.Done.{Done}
use Rattle.planner.specs.declared.Job.TheVariants.{Force}
use Rattle.editions.specs.Editions.{plan_second}
use Rattle.changer.specs.Changed.{Changed, Changes, with_flags, sent_table, flags_in}

-- 32 records are room for every table
abbrev pub forced2 : List ℕ → Done
forced2 text = (plan_second text Force 32).done

abbrev pub ChangedAs2 : List ℕ → List ℕ → ℕ → Changed → List ℕ → Type 0
ChangedAs2 text old at r new =
    Changes (forced2 text).answer (with_flags (sent_table text) (flags_in (forced2 text))) old at r new
