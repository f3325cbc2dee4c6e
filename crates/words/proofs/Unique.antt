-- Any two results that the promise of the public function of this crate allows are equal.
-- Assumes nothing.
use Rattle.base.proofs.Unique.{only, Only}
use Rattle.words.proofs.done_word.Kinds as done-word
use Rattle.words.proofs.done_word.Reads as done-word-reads

pub done_word_only : Only 0 done-word.ps done-word.r done-word-reads.Post
done_word_only κs a x y s s' p q = only p q
