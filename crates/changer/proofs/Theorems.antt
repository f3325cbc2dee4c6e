-- The table as changed, over the promise: each theorem states one sentence of the orders of Wishes 1 and 6.
--
--   the order                                                             theorem
--   reading what it wrote gives the sent table with the flags in the
--   records                                                               read-back
--   testing that answers yes with the same bounds                         test_back
--   forcing it forces nothing, in one pass, with the same bounds          force_back
--   doing it again gives the same bytes                                   again_same
--   it refuses as forcing does, then 16                                   refused_forcing, refused_full
--   never 18 (Wish 8): a plan that is read has its places as levels       never_eighteen, in Eighteen
--   a refusal writes nothing                                              refused_stays
--   the end lies within the buffer                                        end_within
--
--   a text and the text raised have one answer, and one buffer then       changed_raised
--   what is written stays upper case                                      written_raised
--
-- The last two are of Wish 6. The records are those that forcing the sent text gives. Assumes nothing.
use Rattle.std.proofs.Common.{ℕ, ◌+◌, ◌≤◌, arith, ◌≡◌, refl, sym, ap, ap₂, subst, ◌∙◌, ◌↔◌, true, List}
use Rattle.std.proofs.Common.{length, Ok, Err}
use Rattle.base.specs.Rows.{at}
use Rattle.base.proofs.RowLaws.{row_at, row_same}
use Rattle.table.specs.declared.Table.{Table}
use Rattle.table.specs.declared.Refusal.{Refusal}
use Rattle.table.specs.Checks.{Checked, refusal}
use Rattle.planner.specs.declared.Stop.{Stop}
use Rattle.planner.specs.Answers.{stop, Answer, given, no_record, entry, record_at, records_of, changes}
use Rattle.table.specs.Table.{LegalTable}
use Rattle.frames.specs.Digits.{raised}
use Rattle.lines.specs.declared.Reading.{Reading}
use Rattle.lines.specs.Reads.{accepted, read_of}
use Rattle.lines.specs.Writes.{plan_text, WrittenAs}
use Rattle.lines.proofs.Theorems.{reading_exact}
use Rattle.lines.proofs.Letters.{raised_read}
use Rattle.planner.specs.declared.Done.{Done}
use Rattle.planner.specs.declared.Verdict.{Verdict}
use Rattle.planner.specs.declared.Record.{Record}
use Rattle.planner.specs.declared.Job.{Job}
use Rattle.planner.specs.declared.Job.TheVariants.{Test, Force}
use Rattle.planner.specs.Done.{finish, sent, final, ended, legal_done, room_done, unless_faulty, plan_done}
use Rattle.planner.proofs.StageLaws.{tests_table, forces_table, room_enough, plan_fine, plan_faulty}
use Rattle.writer.specs.Written.{Written, written_answer, buffer_after, WroteAs}
use Rattle.writer.specs.Ways.{TooFull, between}
use Rattle.writer.proofs.Theorems as writer
use Rattle.changer.specs.Changed.{Changed, with_flags, changed_table, by_written, change_by, after_by}
use Rattle.changer.specs.Changed.{Changes, ChangedAs, values_of, sent_table, forced, flags_in, bounds_in}
use Rattle.changer.proofs.ChangeLaws.{flags_same, Accepts, accepts, record_flags}
use Rattle.changer.proofs.SettledLaws.{flags_zeros, changed_legal, changed_test, changed_force}
use Rattle.changer.proofs.SettledLaws.{changed_again}

not_end : {e : ℕ} {why : Refusal} {passes : ℕ} → Err (stop why passes) ≡ Ok e → ⊥
not_end q = let z : ◌≡◌ {A = ℕ} 0 1 = cc in omega arith

by_written_lem : (w : Written) {e : ℕ} → Ok e ≡ by_written w → Ok e ≡ w
by_written_lem (Ok x) q = ap Ok (ap (λ w. (values_of w).end) q)
by_written_lem (Err why) q = absurd (not_end (sym q))

-- An end place: forcing accepted, and the writer wrote the table as changed.
record Ended (a : Answer) (t : Table) (old : List ℕ) (at e : ℕ) (new : List ℕ) : Type 0 where
  verdict : Verdict
  says : a ≡ Ok verdict
  wrote : WroteAs t old at (Ok e) new

ended_by : (a : Answer) (t : Table) (old : List ℕ) (at e : ℕ) (new : List ℕ)
    → Ok e ≡ change_by a (written_answer t (length old) at) → new ≡ after_by a old (buffer_after t old at)
    → Ended a t old at e new
ended_by (Ok v) t old at e new q b =
    record { verdict = v; says = refl; wrote = record { answer = by_written_lem _ q; bytes = b } }
ended_by (Err s) t old at e new q b = absurd (not_end (sym q))

-- it lies within the buffer
pub end_within : {a : Answer} {t : Table} {old : List ℕ} {at e : ℕ} {r : Changed} {new : List ℕ}
    → Changes a t old at r new → r ≡ Ok e → e ≤ length new
end_within {a} {t} {old} {at} {e} {r} {new} p q =
    writer.end_within (ended_by a t old at e new (sym q ∙ p.answer) p.bytes).wrote

-- A raised text is changed as the text is.
pub changed_raised : (text old : List ℕ) (at : ℕ) (r : Changed) (new : List ℕ)
    → ChangedAs (raised text) old at r new ↔ ChangedAs text old at r new
unfolding plan_done
changed_raised text old at r new = (subst by_reading same, subst by_reading (sym same))
  where
    -- what a text's reading says of its change
    by_reading : Reading → Type 0
    by_reading x =
        let d = unless_faulty x.answer (room_done x.table Force 32) in
        Changes d.answer (changed_table x.table) old at r new

    same : read_of (raised text) ≡ read_of text
    same = raised_read text

-- A text that forcing accepts: its table, and what forcing says of it.
pub record Sent (text : List ℕ) : Type 0 where
  pub read : WrittenAs text (read_of text).table
  pub done : plan_done text Force 32 ≡ legal_done (read_of text).table Force
  pub forces : Accepts (read_of text).table (plan_done text Force 32)

read_fine : (text : List ℕ) {v : Verdict} → (forced text).answer ≡ Ok v → (read_of text).answer ≡ Ok tt
read_fine text {v} says = go (read_of text).answer refl
  where
    go : (c : Checked) → (read_of text).answer ≡ c → (read_of text).answer ≡ Ok tt
    go (Ok _) e = e
    go (Err why) e =
        absurd
        (let q : Err (stop why 0) ≡ Ok v =
        ap (λ (d : Done). d.answer) (plan_faulty text refl Force 32 e) ∙ says
        in
        let z : ◌≡◌ {A = ℕ} 0 1 = cc in omega arith)

pub sent_by_lem : (text : List ℕ) {v : Verdict} → (plan_done text Force 32).answer ≡ Ok v → Sent text
sent_by_lem text says =
    let fine = read_fine text says in
    let t : Table = (read_of text).table in
    let whole : read_of text ≡ accepted t = ap (λ a. record { answer = a; table = t }) fine in
    let w = (reading_exact text t).0 whole in
    let d : plan_done text Force 32 ≡ legal_done t Force =
    sym (room_enough t Force 32 w.legal.count ∙ plan_fine text refl Force 32 fine)
    in
    record { read = w; done = d; forces = accepts d says }

-- the records of forcing that accepts, by place
accepted_records : {text : List ℕ} (s : Sent text) (mark : ℕ → ℕ)
    → records_of (sent_table text).n (ended (sent_table text)) mark (at (final (sent_table text)).bounds)
    ≡ records_of (sent_table text).n (flags_in (forced text)) mark (bounds_in (forced text))
accepted_records {text} s mark =
    let t : Table = (read_of text).table in
    row_same no_record _ _ t.n s.read.legal.count
    (λ j l.
    let r : record_at (forced text).recs j ≡ forced_row t j =
    ap (λ rs. record_at rs j) s.forces.records
    ∙ row_at no_record (forced_row t) t.n j l s.read.legal.count
    in
    sym (ap (λ (x : Record). entry x.flag (mark j) x.bound) r))
  where
    forced_row : Table → ℕ → Record
    forced_row t j = entry (ended t j) (changes (sent t) (ended t) j) (at (final t).bounds j)

-- What stands in the buffer from the start place to the end place.
module _ (text old : List ℕ) (at e : ℕ) (new : List ℕ) (p : ChangedAs text old at (Ok e) new) where
  there : Ended (forced text).answer (changed_table (sent_table text)) old at e new
  there = ended_by _ _ _ _ _ _ p.answer p.bytes

  came : Sent text
  came = sent_by_lem text there.says

  legal : LegalTable (changed_table (sent_table text))
  legal = changed_legal (sent_table text) came.read.legal came.read.zeros

  read_changed : read_of (between at e new) ≡ accepted (changed_table (sent_table text))
  read_changed =
      writer.read_back_lem there.wrote
      ∙ ap accepted
      (writer.cleared_same (changed_table (sent_table text)) legal.count
      (flags_zeros (sent_table text) (ended (sent_table text)) came.read.legal.count))

  pub read_back_lem : read_of (between at e new)
      ≡ accepted (with_flags (sent_table text) (flags_in (forced text)))
  read_back_lem =
      read_changed
      ∙ ap accepted
      (flags_same (sent_table text) (ended (sent_table text)) (flags_in (forced text)) came.read.legal.count
      (λ i l. sym (record_flags came.read.legal.count came.forces i l)))

  -- what was written is in upper case
  pub written_raised : raised (between at e new) ≡ between at e new
  written_raised = writer.written_raised there.wrote

  -- a legal table that was written is answered as a table is
  answered : (job : Job) → plan_done (between at e new) job 32
      ≡ legal_done (changed_table (sent_table text)) job
  answered job =
      sym (room_enough (changed_table (sent_table text)) job 32 legal.count
      ∙ ap (λ r. room_done r.table job 32) (sym read_changed)
      ∙ plan_fine (between at e new) refl job 32 (ap (λ (r : Reading). r.answer) read_changed))

  pub test_back : plan_done (between at e new) Test 32
      ≡ finish (sent_table text).n (given true 0 0)
      (records_of (sent_table text).n (flags_in (forced text)) (λ _. 0) (bounds_in (forced text)))
  test_back =
      answered Test
      ∙ sym (tests_table (changed_table (sent_table text)) Test refl)
      ∙ changed_test (sent_table text) came.read.legal came.read.zeros came.forces.passing
      ∙ ap (finish (sent_table text).n (given true 0 0)) (accepted_records came (λ _. 0))

  pub force_back : plan_done (between at e new) Force 32
      ≡ finish (sent_table text).n (given true 0 1)
      (records_of (sent_table text).n (flags_in (forced text)) (λ _. 0) (bounds_in (forced text)))
  force_back =
      answered Force
      ∙ sym (forces_table (changed_table (sent_table text)) Force refl)
      ∙ changed_force (sent_table text) came.read.legal came.read.zeros came.forces.passing
      ∙ ap (finish (sent_table text).n (given true 0 1)) (accepted_records came (λ _. 0))

  -- doing it again, wherever what was written has room
  pub again_same : (old' : List ℕ) (at' : ℕ) (r : Changed) (new' : List ℕ)
      → ChangedAs (between at e new) old' at' r new' → at' + length (between at e new) ≤ length old'
      → (r ≡ Ok (at' + length (between at e new)))
      × (between at' (at' + length (between at e new)) new' ≡ between at e new)
  again_same old' at' r new' q room = (ends, bytes)
    where
      same : changed_table (read_of (between at e new)).table ≡ changed_table (sent_table text)
      same =
          ap (λ (x : Reading). changed_table x.table) read_changed
          ∙ changed_again (sent_table text) came.read.legal came.read.zeros came.forces.passing

      ends : r ≡ Ok (at' + length (between at e new))
      ends =
          q.answer
          ∙ ap₂ (λ a x. change_by a (written_answer x (length old') at'))
          (ap (λ (d : Done). d.answer) force_back) same
          ∙ ap by_written
          (writer.read_fits (between at e new) (changed_table (sent_table text)) (length old') at'
          read_changed
          room)

      bytes : between at' (at' + length (between at e new)) new' ≡ between at e new
      bytes =
          let second : Ended (forced (between at e new)).answer
          (changed_table (sent_table (between at e new)))
          old' at' (at' + length (between at e new)) new' =
          ended_by (forced (between at e new)).answer _ _ _ _ _ (sym ends ∙ q.answer) q.bytes
          in
          writer.written_text second.wrote
          ∙ ap plan_text same
          ∙ sym (writer.written_text there.wrote)

-- Refusals.

pub by_full : (w : Written) {why : Refusal} {passes : ℕ} → Err (stop why passes) ≡ by_written w → Err why ≡ w
by_full (Ok x) q = absurd (not_end q)
by_full (Err y) {why} {passes} q =
    let same : stop why passes ≡ stop y 0 = cc in ap (λ (s : Stop). Err s.why) same

module _ (text old : List ℕ) (at : ℕ) (r : Changed) (new : List ℕ) (p : ChangedAs text old at r new) where
  -- as forcing does, with its passes, and nothing is written
  pub refused_forcing : {why : Refusal} {passes : ℕ} → (forced text).answer ≡ Err (stop why passes)
      → (r ≡ Err (stop why passes)) × (new ≡ old)
  refused_forcing says = (
    p.answer ∙ ap (λ a. change_by a (written_answer (changed_table (sent_table text)) (length old) at)) says,
    p.bytes ∙ ap (λ a. after_by a old (buffer_after (changed_table (sent_table text)) old at)) says,
  )

  -- then 16, exactly where the text of the table as changed has no room
  pub refused_full : {v : Verdict} → (forced text).answer ≡ Ok v
      → (r ≡ Err (stop (refusal 16 0) 0))
      ↔ TooFull (plan_text (changed_table (sent_table text))) (length old) at
  refused_full {v} says = (
    λ q. ((writer.sixteen_exact t (length old) at).0 (sym (by_full _ (sym q ∙ answer)))).1,
    λ f. answer ∙ ap by_written ((writer.sixteen_exact t (length old) at).1 (legal, f)),
  )
    where
      t : Table
      t = changed_table (sent_table text)

      answer : r ≡ by_written (written_answer (changed_table (sent_table text)) (length old) at)
      answer =
          p.answer
          ∙ ap (λ a. change_by a (written_answer (changed_table (sent_table text)) (length old) at)) says

      legal : LegalTable (changed_table (sent_table text))
      legal =
          let s = sent_by_lem text says in
          changed_legal (sent_table text) s.read.legal s.read.zeros

stays_by : (a : Answer) (t : Table) (old : List ℕ) (at : ℕ) (new : List ℕ) {why : Refusal} {passes : ℕ}
    → Err (stop why passes) ≡ change_by a (written_answer t (length old) at)
    → new ≡ after_by a old (buffer_after t old at) → new ≡ old
stays_by (Ok v) t old at new q b =
    writer.refused_stays {t = t} (record { answer = by_full _ q; bytes = b })
stays_by (Err s) t old at new q b = b

pub refused_stays : (text old : List ℕ) (at : ℕ) (new : List ℕ) {why : Refusal} {passes : ℕ}
    → ChangedAs text old at (Err (stop why passes)) new → new ≡ old
refused_stays text old at new p =
    stays_by (forced text).answer (changed_table (sent_table text)) old at new p.answer p.bytes
