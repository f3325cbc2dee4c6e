-- The fourth front page: document 02's Wish 5, each sentence beside its theorem. What is proved here is
-- proved of every result that the promise `Replied` of fewest_plan and fewest_tasks allows. Assumes nothing.
use Rattle.std.proofs.Common.{ℕ, suc, ◌≤◌, ◌<◌, ◌≡◌, refl, true, ◌↔◌, List, ◌++◌, length}
use Rattle.base.specs.Least.{NoWorse}
use Rattle.model.specs.Bound.{bound}
use Rattle.model.specs.Demands.{Holds}
use Rattle.table.specs.declared.Table.{Table}
use Rattle.table.specs.Table.{LegalTable, system_of}
use Rattle.frames.specs.Digits.{raised}
use Rattle.lines.specs.Reads.{accepted, read_of}
use Rattle.lines.specs.Writes.{plan_text}
use Rattle.planner.specs.Answers.{Answer, refused}
use Rattle.planner.specs.declared.Record.{Record}
use Rattle.planner.specs.declared.Job.TheVariants.{Force}
use Rattle.planner.specs.Done.{ended}
use Rattle.planner.specs.Calls.{Call, plan, Answered, Sends}
use Rattle.cores.specs.Cores.{on_cores, accepts_on, fewest_cores}
use Rattle.cores.proofs.TableCores as cores
use Rattle.fewest.specs.declared.Fewest.{Fewest}
use Rattle.fewest.specs.Ways.{FewestWay, fewest_of}
use Rattle.fewest.proofs.WayLaws as ways
use Rattle.fewest_entries.specs.declared.Reply.{Reply}
use Rattle.fewest_entries.specs.Calls.{RepliesAs, Replied}
use Rattle.fewest_entries.proofs.Unique as unique
use Rattle.listing.specs.Listing.{listing_of}
use Rattle.fewest_listing.specs.FewestListing.{fewest_line, fewest_listing}
use Rattle.fewest_listing.proofs.Theorems as listings
use Rattle.claims.specs.Words.{Asks}
use Rattle.claims.specs.Results.{Accepts, Refuses14}
use Rattle.claims_cores.proofs.Replies as replies

-- WISH 5. Every call gets a reply, and one list afterwards; no two of them differ.
pub some_reply : (c : Call) (old : List Record) → (r : Reply) × ((new : List Record) × Replied c old r new)
some_reply c old = (_, (_, (refl, refl)))

pub one_reply : (c : Call) (old : List Record) (r r' : Reply) (new new' : List Record)
    → Replied c old r new → Replied c old r' new' → (r ≡ r') × (new ≡ new')
one_reply = unique.replied_only

-- A text and the text with its letters raised get the same reply (Wish 6).
pub raised_replied : (text : List ℕ) (old : List Record) (r : Reply) (new : List Record)
    → Replied (plan (raised text)) old r new ↔ Replied (plan text) old r new
raised_replied = replies.raised_replied

-- Reading's own refusals first; 5, 6, 7, 8 to 11 and 17, 13, then 14; each exactly when.
pub reply_exactly : (c : Call) (old : List Record) (r : Reply) (new : List Record) → Replied c old r new
    → (f : Fewest) × (FewestWay c (length old) f × RepliesAs f old r new)
reply_exactly c old r new h = (fewest_of c (length old), (ways.call_way c (length old), h))

-- The number of cores is 1 to 16, and forcing with it accepts; records, forced count and passes are those
-- that forcing gives to any call with that number of cores.
pub cores_accept : (c : Call) (t : Table) (old : List Record) → Asks c t old → (r : Reply)
    (new : List Record) → Replied c old r new → 0 < r.cores → (r.cores ≤ 16) × Accepts r.answer
cores_accept c t old s r new = replies.fewest_range s

pub as_forcing : (c : Call) (t : Table) (old : List Record) → Asks c t old → (r : Reply) (new : List Record)
    → Replied c old r new → 0 < r.cores → (c' : Call) → Sends c' (on_cores t r.cores)
    → Answered c' Force old r.answer new
as_forcing c t old s r new h pos c' = replies.as_forcing s h pos

-- It is the fewest: with one core fewer, or any smaller number, forcing refuses with 14.
pub fewer_refused : (c : Call) (t : Table) (old : List Record) → Asks c t old → (r : Reply)
    (new : List Record) → Replied c old r new → (m : ℕ) → 1 ≤ m → m < r.cores → (c' : Call)
    → Sends c' (on_cores t m) → (a : Answer) (new' : List Record) → Answered c' Force old a new' → Refuses14 a
fewer_refused c t old s r new h m one less c' on a new' = replies.fewer_refused s h one less on

-- Forcing accepts with every larger number as well.
pub larger_accept : (c : Call) (t : Table) (old : List Record) → Asks c t old → (r : Reply)
    (new : List Record) → Replied c old r new → 0 < r.cores → (m : ℕ) → r.cores ≤ m → (c' : Call)
    → Sends c' (on_cores t m) → (a : Answer) (new' : List Record) → Answered c' Force old a new' → Accepts a
larger_accept c t old s r new h pos m more c' on a new' = replies.larger_accept s h pos more on

-- No cores: 14, with place and passes as found at 16 cores, and with every number up to 16 forcing refuses.
pub none_fourteen : (c : Call) (t : Table) (old : List Record) → Asks c t old → (r : Reply)
    (new : List Record) → Replied c old r new → r.cores ≡ 0 → Refuses14 r.answer
none_fourteen c t old s r new = replies.none_fourteen s

pub as_sixteen : (c : Call) (t : Table) (old : List Record) → Asks c t old → (r : Reply) (new : List Record)
    → Replied c old r new → r.cores ≡ 0 → (c' : Call) → Sends c' (on_cores t 16)
    → Answered c' Force old r.answer new
as_sixteen c t old s r new h none c' = replies.as_sixteen s h none

pub none_accepts : (c : Call) (t : Table) (old : List Record) → Asks c t old → (r : Reply)
    (new : List Record) → Replied c old r new → r.cores ≡ 0 → (m : ℕ) → 1 ≤ m → m ≤ 16 → (c' : Call)
    → Sends c' (on_cores t m) → (a : Answer) (new' : List Record) → Answered c' Force old a new' → Refuses14 a
none_accepts c t old s r new h none m one most c' on a new' = replies.none_refused s h none one most on

-- In a refusal the core count is 0, the passes are 0 except under 14, and the caller's list stays.
pub refusal_zeros : (c : Call) (old : List Record) (number place passes cores : ℕ) (new : List Record)
    → Replied c old (record { answer = refused number place passes; cores = cores }) new
    → (cores ≡ 0) × ((number ≡ 14 → ⊥) → passes ≡ 0) × (new ≡ old)
refusal_zeros = replies.refusal_zeros

-- The head's own core number is not used.
pub cores_unused : (c c' : Call) (t : Table) (m : ℕ) (old : List Record) → Asks c t old
    → Asks c' (on_cores t m) old → (r r' : Reply) (new new' : List Record) → Replied c old r new
    → Replied c' old r' new' → (r ≡ r') × (new ≡ new')
cores_unused c c' t m old s s' r r' new new' = replies.cores_unused s s'

-- PROVED FOR IT. Under fixed flags more cores never raise a bound nor take one away.
pub bound_no_worse : (t : Table) → LegalTable t → (fl : ℕ → ℕ) (k m m' : ℕ) → k < t.n → 0 < m → m ≤ m'
    → NoWorse (bound (system_of (on_cores t m')) fl k) (bound (system_of (on_cores t m)) fl k)
bound_no_worse t legal = cores.bound_more legal

-- The flags in which forcing ends with more cores hold no task beyond those with fewer.
pub forces_less : (t : Table) → LegalTable t → (m m' : ℕ) → 0 < m → m ≤ m'
    → Holds (system_of t) (ended (on_cores t m)) (ended (on_cores t m'))
forces_less t legal m m' = cores.forces_less legal

-- Where forcing accepts with m cores it accepts with every larger number at all.
pub accepts_more : (t : Table) → LegalTable t → (m m' : ℕ) → 0 < m → m ≤ m' → accepts_on t m ≡ true
    → accepts_on t m' ≡ true
accepts_more t legal m m' = cores.accepts_more legal

-- AT THE DESK. Below the line `fewest M` stands the listing of the plan with M in its head.
pub listing_with_cores : (text : List ℕ) (t : Table) (j : ℕ) → read_of text ≡ accepted t
    → fewest_cores t ≡ suc j
    → fewest_listing text ≡ fewest_line (suc j) ++ listing_of (plan_text (on_cores t (suc j)))
listing_with_cores = listings.listing_with_cores
