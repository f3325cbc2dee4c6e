-- The second front page: document 02's Wish 1, with Wish 6's upper case and Wish 8's refusals, each sentence
-- beside its theorem.
-- What is proved here is proved of every result that the promises of the writers allow: `WroteAs` of a table,
-- `ChangedAs` of a plan text as changed; and of the numbers that C and Rust are told. Assumes nothing.
use Rattle.std.proofs.Common.{ℕ, ◌+◌, ◌*◌, ◌≤◌, ◌≡◌, true, ◌↔◌, List, length, take, drop, Ok, Err}
use Rattle.base.specs.Rows.{at}
use Rattle.table.specs.declared.Table.{Table}
use Rattle.table.specs.declared.Refusal.{Refusal}
use Rattle.table.specs.Table.{LegalTable}
use Rattle.table.specs.Checks.{refusal}
use Rattle.frames.specs.Digits.{raised}
use Rattle.lines.specs.Reads.{accepted, read_of}
use Rattle.lines.specs.Writes.{plan_text, PlaceLevels}
use Rattle.planner.specs.Answers.{stop, given, records_of}
use Rattle.planner.specs.declared.Verdict.{Verdict}
use Rattle.planner.specs.declared.Job.TheVariants.{Test, Force}
use Rattle.planner.specs.Done.{finish, plan_done}
use Rattle.writer.specs.Written.{Written, full, levelled, WroteAs}
use Rattle.writer.specs.Ways.{TooFull, Way, between, cleared}
use Rattle.writer.proofs.Theorems as writer
use Rattle.changer.specs.Changed.{Changed, with_flags, changed_table, ChangedAs, sent_table, forced, flags_in}
use Rattle.changer.specs.Changed.{bounds_in}
use Rattle.changer.proofs.Theorems as changer
use Rattle.changer.proofs.Eighteen.{never_eighteen}
use Rattle.told_plans.specs.PlanNumbers.{written_told, changed_told}
use Rattle.told_plans.proofs.EndLaws as told
use Rattle.wrote.proofs.WroteLaws as wrote

-- WISH 1. Refusals: 5 to 11, and 17, as for a list, then 16, then 18; otherwise the answer is the end place.
-- Each exactly when.
pub answer_exactly : (t : Table) (old : List ℕ) (start : ℕ) (r : Written) (new : List ℕ)
    → WroteAs t old start r new → Way t (length old) start r
answer_exactly t old start r new w = (writer.way_exact t (length old) start r).0 w.answer

-- 16, place 0, exactly if the table is legal and the buffer has too little room from the start place, or the
-- start lies past its end.
pub sixteen_exactly : (t : Table) (old : List ℕ) (start : ℕ) (r : Written) (new : List ℕ)
    → WroteAs t old start r new → (r ≡ full) ↔ (LegalTable t × TooFull (plan_text t) (length old) start)
sixteen_exactly = wrote.sixteen_exactly

-- 18 (Wish 8), place 0, after all others: exactly if the table is legal, its text has room, and its levels
-- are not 1, 2, .. n in table order.
pub eighteen_exactly : (t : Table) (old : List ℕ) (start : ℕ) (r : Written) (new : List ℕ)
    → WroteAs t old start r new
    → (r ≡ levelled)
    ↔ (LegalTable t × (start + length (plan_text t) ≤ length old) × (PlaceLevels t → ⊥))
eighteen_exactly = wrote.eighteen_exactly

-- Nothing is written then, nor under any other refusal.
pub refusal_keeps : (t : Table) (old : List ℕ) (start : ℕ) (why : Refusal) (new : List ℕ)
    → WroteAs t old start (Err why) new → new ≡ old
refusal_keeps t old start why new = writer.refused_stays

-- Bytes before the start and after the end stay; the end lies within the buffer, and it is as long as it was.
pub others_stay : (t : Table) (old : List ℕ) (start end : ℕ) (new : List ℕ)
    → WroteAs t old start (Ok end) new
    → (take start new ≡ take start old) × (drop end new ≡ drop end old) × (end ≤ length new)
    × (length new ≡ length old)
others_stay t old start end new w =
    (writer.before_stays w, writer.after_stays w, writer.end_within w, writer.same_length w)

-- Reading what was written gives the same table, with zeros in all places past the n-th.
pub written_read : (t : Table) (old : List ℕ) (start end : ℕ) (new : List ℕ)
    → WroteAs t old start (Ok end) new → read_of (between start end new) ≡ accepted (cleared t)
written_read t old start end new = writer.read_back_lem

-- Writing what was read gives the raised text (Wish 6): the same bytes, once letters are raised.
pub read_written : (text : List ℕ) (t : Table) (old : List ℕ) (start end : ℕ) (new : List ℕ)
    → read_of text ≡ accepted t → WroteAs t old start (Ok end) new → between start end new ≡ raised text
read_written text t old start end new q w = writer.write_back w text q

-- The writer stays with upper case (Wish 6): no letter of what it writes is there to be raised.
pub written_upper : (t : Table) (old : List ℕ) (start end : ℕ) (new : List ℕ)
    → WroteAs t old start (Ok end) new → raised (between start end new) ≡ between start end new
written_upper t old start end new = writer.written_raised

-- THE TABLE AS CHANGED. Reading what it wrote gives the sent table with the flags in the records.
pub changed_read : (text old : List ℕ) (start end : ℕ) (new : List ℕ)
    → ChangedAs text old start (Ok end) new
    → read_of (between start end new) ≡ accepted (with_flags (sent_table text) (flags_in (forced text)))
changed_read = changer.read_back_lem

-- Testing that answers yes with the same bounds.
pub changed_tested : (text old : List ℕ) (start end : ℕ) (new : List ℕ)
    → ChangedAs text old start (Ok end) new
    → plan_done (between start end new) Test 32
    ≡ finish (sent_table text).n (given true 0 0)
    (records_of (sent_table text).n (flags_in (forced text)) (λ _. 0) (bounds_in (forced text)))
changed_tested = changer.test_back

-- Forcing it forces nothing, in one pass, with the same bounds.
pub changed_forced : (text old : List ℕ) (start end : ℕ) (new : List ℕ)
    → ChangedAs text old start (Ok end) new
    → plan_done (between start end new) Force 32
    ≡ finish (sent_table text).n (given true 0 1)
    (records_of (sent_table text).n (flags_in (forced text)) (λ _. 0) (bounds_in (forced text)))
changed_forced = changer.force_back

-- Doing it again gives the same bytes.
pub changed_again : (text old : List ℕ) (start end : ℕ) (new : List ℕ)
    → ChangedAs text old start (Ok end) new → (old' : List ℕ) (start' : ℕ) (r : Changed) (new' : List ℕ)
    → ChangedAs (between start end new) old' start' r new'
    → start' + length (between start end new) ≤ length old'
    → (r ≡ Ok (start' + length (between start end new)))
    × (between start' (start' + length (between start end new)) new' ≡ between start end new)
changed_again = changer.again_same

-- A raised text is changed as the text is, refusals included; what is written stays upper case (Wish 6).
pub changed_raised : (text old : List ℕ) (start : ℕ) (r : Changed) (new : List ℕ)
    → ChangedAs (raised text) old start r new ↔ ChangedAs text old start r new
changed_raised = changer.changed_raised

pub changed_upper : (text old : List ℕ) (start end : ℕ) (new : List ℕ)
    → ChangedAs text old start (Ok end) new → raised (between start end new) ≡ between start end new
changed_upper = changer.written_raised

-- It refuses as forcing does, with its passes, and writes nothing.
pub changed_refused : (text old : List ℕ) (start : ℕ) (r : Changed) (new : List ℕ)
    → ChangedAs text old start r new → (why : Refusal) (passes : ℕ)
    → (forced text).answer ≡ Err (stop why passes)
    → (r ≡ Err (stop why passes)) × (new ≡ old)
changed_refused text old start r new w why passes = changer.refused_forcing text old start r new w

-- Where forcing accepts it refuses with 16 exactly if the plan as changed does not fit.
pub changed_sixteen : (text old : List ℕ) (start : ℕ) (r : Changed) (new : List ℕ)
    → ChangedAs text old start r new → (v : Verdict) → (forced text).answer ≡ Ok v
    → (r ≡ Err (stop (refusal 16 0) 0))
    ↔ TooFull (plan_text (changed_table (sent_table text))) (length old) start
changed_sixteen text old start r new w v = changer.refused_full text old start r new w

-- Never with 18 (Wish 8): a plan that is read has its places as levels, and forcing changes flags only.
pub changed_never_eighteen : (text old : List ℕ) (start : ℕ) (r : Changed) (new : List ℕ)
    → ChangedAs text old start r new → (passes : ℕ) → r ≡ Err (stop (refusal 18 0) passes) → ⊥
changed_never_eighteen text old start r new w passes = never_eighteen text old start r new w

-- FOR C AND RUST. The two halves that are told make the end place.
pub end_told : (end : ℕ) → at (written_told (Ok end)) 9 + 4294967296 * at (written_told (Ok end)) 10 ≡ end
end_told = told.end_told

pub changed_end_told : (end : ℕ)
    → at (changed_told (Ok end)) 9 + 4294967296 * at (changed_told (Ok end)) 10 ≡ end
changed_end_told = told.changed_end_told
