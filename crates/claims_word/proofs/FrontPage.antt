-- The front page of document 02's Wish 7, flags in one word: each sentence beside its theorem. All of it is
-- proved once, over both policies, for every legal table, and of every result that a promise allows: those of
-- flags_of and failing_of (crate flags), of force_rows (crate forcing), of rows_said (crate planner), and
-- `Answered` of run_plan and run_tasks. `WordFor f n w`: bit i of w is set exactly if f i is 0 (task i + 1
-- is non-preemptive, or has no bound), for i below n, and no bit at n or above is. Assumes nothing.
use Rattle.std.proofs.Common.{ℕ, ◌+◌, ◌-◌, ◌^◌, ◌≡◌, refl, Bool, ◌↔◌, List, length}
use lib.Bits.{bit_and, bit_or, bit_xor}
use lib.Count.{ones, count_trailing_zeros}
use Rattle.base.specs.Rows.{at}
use Rattle.model.specs.Forcing.{lacking, made, lowest}
use Rattle.model.specs.Demands.{Flags as FlagsOf}
use Rattle.table.specs.declared.Table.{Table}
use Rattle.table.specs.Table.{LegalTable, system_of, flags_of}
use Rattle.flags.specs.declared.Flags.{Flags}
use Rattle.flags.specs.Words.{WordFor, OneWord}
use Rattle.flags.specs.Flags.{held}
use Rattle.flags.proofs.WordForLaws as words
use Rattle.rows.specs.declared.Head.{Head}
use Rattle.rows.specs.declared.Rows.{Rows}
use Rattle.rows.specs.Whole.{HeldIn, rows_in}
use Rattle.rows.specs.Held.{system_in, RowsOf}
use Rattle.rows.proofs.HeldLaws.{table_rows}
use Rattle.forcing.specs.declared.Forced.{Forced}
use Rattle.forcing.specs.Forced.{Ended}
use Rattle.planner.specs.declared.Job.{Job}
use Rattle.planner.specs.declared.Record.{Record}
use Rattle.planner.specs.declared.Said.{Said}
use Rattle.planner.specs.Answers.{given, refused}
use Rattle.planner.specs.Done.{sent, final, ended, count_forced, legal_done}
use Rattle.planner.specs.Rows.{said_done, OfTable}
use Rattle.planner.specs.Calls.{Call, Answered, done_of}
use Rattle.planner.proofs.StageLaws.{flagged}
use Rattle.words.specs.Word.{word_of_done}
use Rattle.claims.specs.Words.{Asks, flags_in}
use Rattle.claims_word.proofs.WordOut as out

-- Each table's flags have exactly one word; it has no more than n bits.
pub one_word : (t : Table) → OneWord (at (flags_of t)) t.n
one_word t = words.one_word (at (flags_of t)) t.n

-- What flags_of gives, and forcing takes, is that word; what failing_of gives is the word of failing tasks.
pub flags_are_the_word : (t : Table) (r : Flags)
    → (r ≡ held (at (flags_of t)) t.n) ↔ WordFor (at (flags_of t)) t.n r.word
flags_are_the_word t = out.held_exactly (at (flags_of t)) t.n

pub failing_are_a_word : (n : ℕ) (bounds : List ℕ) (r : Flags)
    → (r ≡ held (at bounds) n) ↔ WordFor (at bounds) n r.word
failing_are_a_word n bounds = out.held_exactly (at bounds) n

-- A pass of forcing makes flags | failing ..
pub pass_is_or : (t : Table) → LegalTable t → (fs bs : List ℕ) → FlagsOf (system_of t) (at fs)
    → (flags failing : ℕ) → WordFor (at fs) t.n flags → WordFor (at bs) t.n failing
    → WordFor (at (made (system_of t) fs bs)) t.n (bit_or flags failing)
pass_is_or t legal fs bs one flags failing = words.pass_word (system_of t) legal.count fs bs one

-- .. and it has ended exactly if failing & !flags is 0.
pub end_is_none_left : (t : Table) → LegalTable t → (fs bs : List ℕ) → FlagsOf (system_of t) (at fs)
    → (flags failing : ℕ) → WordFor (at fs) t.n flags → WordFor (at bs) t.n failing
    → (bit_and failing ((2 ^ 32 - 1) - flags) ≡ 0) ↔ (lacking (system_of t) fs bs ≡ 0)
end_is_none_left t legal fs bs one flags failing = words.end_word (system_of t) legal.count fs bs one

-- Forcing takes the table's word and gives the word of its final flags.
pub forcing_gives_the_word : (t : Table) → LegalTable t → (head : Head) (inverse rest cost reach : List ℕ)
    → RowsOf t inverse rest cost reach head → (taken : Flags) → WordFor (sent t) t.n taken.word
    → (bounds : List ℕ) (r : Forced) → Ended (system_in head rest cost reach) taken bounds r
    → WordFor (ended t) t.n r.flags.word
forcing_gives_the_word t legal head inverse rest cost reach rows taken w bounds r =
    out.forcing_word legal rows ((flags_are_the_word t taken).1 w)

-- The number of forced tasks is the count of ones in the changed bits.
pub forced_are_the_ones : (t : Table) → LegalTable t → (before after : ℕ) → WordFor (sent t) t.n before
    → WordFor (ended t) t.n after → ones (bit_xor before after) ≡ count_forced t
forced_are_the_ones t legal before after =
    words.count_word (system_of t) legal.count (flags_of t) (final t).flags (flagged legal)
    (out.ended_flagged legal)

-- The lowest task without a bound is found from the lowest one set in the word of failing tasks; there is
-- none where the word is 0.
pub place_is_the_lowest_one : (t : Table) → LegalTable t → (bs : List ℕ) (failing : ℕ)
    → WordFor (at bs) t.n failing → (failing ≡ 0 → ⊥)
    → count_trailing_zeros 32 failing + 1 ≡ lowest (system_of t) bs
place_is_the_lowest_one t legal bs failing w = words.place_word (system_of t) legal.count bs w

pub no_place_for_zero : (t : Table) → LegalTable t → (bs : List ℕ) (failing : ℕ)
    → WordFor (at bs) t.n failing → failing ≡ 0 → 0 ≡ lowest (system_of t) bs
no_place_for_zero t legal bs failing w = words.place_none (system_of t) legal.count bs w

-- Test and forcing, over the rows and the word of a legal table, answer as they did with a flag in each task:
-- what rows_said leaves, with its records listed, is the answer by places.
pub answers_held : (t : Table) → LegalTable t → (job : Job) (rows : Rows) → HeldIn t rows → (taken : Flags)
    → WordFor (sent t) t.n taken.word → (r : Said) (bounds : List ℕ)
    → OfTable (λ u. legal_done u job) rows taken (said_done taken r bounds)
    → said_done taken r bounds ≡ legal_done t job
answers_held t legal job rows held taken w r bounds promise =
    promise t legal held ((flags_are_the_word t taken).1 w)

-- A head and lists that hold a legal table are legal (`table_rows`), and so are such rows.
pub answers_stay : (t : Table) (legal : LegalTable t) (job : Job) (head : Head)
    (inverse rest cost reach : List ℕ) (is : RowsOf t inverse rest cost reach head) (taken : Flags)
    → WordFor (sent t) t.n taken.word → (r : Said) (bounds : List ℕ)
    → OfTable (λ u. legal_done u job) (rows_in (table_rows legal is)) taken (said_done taken r bounds)
    → said_done taken r bounds ≡ legal_done t job
answers_stay t legal job head inverse rest cost reach is taken w r bounds promise =
    answers_held t legal job (rows_in (table_rows legal is)) is taken w r bounds promise

-- The word that goes out is that of the flags in the caller's list; in every refusal it is 0.
pub word_given_out : (c : Call) (t : Table) (old : List Record) → Asks c t old → (job : Job) (y : Bool)
    (f p : ℕ) (new : List Record) → Answered c job old (given y f p) new
    → WordFor (flags_in new) t.n (word_of_done (done_of c job (length old)))
word_given_out c t old s job y f p new h = out.given_word s job h refl

pub no_word_refused : (c : Call) (job : Job) (old : List Record) (number place passes : ℕ) (new : List Record)
    → Answered c job old (refused number place passes) new → word_of_done (done_of c job (length old)) ≡ 0
no_word_refused c job old number place passes new = out.refused_word c job old
