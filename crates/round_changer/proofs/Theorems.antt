-- The table as changed under edition 2, over its promise: a text and the text raised have one answer, and one
-- buffer then (document 02, Wish 6). Assumes nothing.
use Rattle.std.proofs.Common.{ℕ, ◌≡◌, sym, subst, ◌↔◌, List}
use Rattle.frames.specs.Digits.{raised}
use Rattle.lines.specs.declared.Reading.{Reading}
use Rattle.lines.specs.Reads.{read_of}
use Rattle.lines.proofs.Letters.{raised_read}
use Rattle.planner.specs.declared.Job.TheVariants.{Force}
use Rattle.planner.specs.Done.{roomed, unless_faulty}
use Rattle.edition_2.specs.Second.{done_second, last_rounds, rounded}
use Rattle.editions.specs.Editions.{plan_second}
use Rattle.changer.specs.Changed.{Changed, Changes, with_flags, flags_in}
use Rattle.round_changer.specs.RoundChanged.{ChangedAs2}

pub changed_2_raised : (text old : List ℕ) (at : ℕ) (r : Changed) (new : List ℕ)
    → ChangedAs2 (raised text) old at r new ↔ ChangedAs2 text old at r new
unfolding plan_second
changed_2_raised text old at r new = (subst by_reading same, subst by_reading (sym same))
  where
    -- what a text's reading says of its change
    by_reading : Reading → Type 0
    by_reading x =
        let t = x.table in
        let d =
        (rounded (unless_faulty x.answer (roomed t 32 (done_second t Force))) (last_rounds t Force)).done
        in
        Changes d.answer (with_flags t (flags_in d)) old at r new

    same : read_of (raised text) ≡ read_of text
    same = raised_read text
