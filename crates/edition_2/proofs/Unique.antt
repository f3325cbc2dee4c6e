-- Any two results that the promise of a public function of this crate allows are equal.
-- Assumes nothing.
use Rattle.base.proofs.Unique.{only, Only}
use Rattle.edition_2.proofs.without_rounds.Kinds as without-rounds
use Rattle.edition_2.proofs.without_rounds.Reads as without-rounds-reads
use Rattle.edition_2.proofs.legal_second.Kinds as legal-second
use Rattle.edition_2.proofs.legal_second.Reads as legal-second-reads

pub without_rounds_only : Only 0 without-rounds.ps without-rounds.r without-rounds-reads.Post
without_rounds_only κs a x y s s' p q = only p q

pub legal_second_only : Only 0 legal-second.ps legal-second.r legal-second-reads.Post
legal_second_only κs a x y s s' p q = only p q
