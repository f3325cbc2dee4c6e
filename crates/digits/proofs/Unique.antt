-- Any two results that the promise of a public function of this crate allows are equal.
-- Assumes nothing.
use Rattle.base.proofs.Unique.{only, Only}
use Rattle.digits.proofs.digit_table.Kinds as digit-table
use Rattle.digits.proofs.digit_table.Reads as digit-table-reads
use Rattle.digits.proofs.byte.Kinds as byte
use Rattle.digits.proofs.byte.Reads as byte-Reads
use Rattle.digits.proofs.word.Kinds as word
use Rattle.digits.proofs.word.Reads as word-reads

pub digit_table_only : Only 0 digit-table.ps digit-table.r digit-table-reads.Post
digit_table_only κs a x y s s' p q = only p q

pub byte_only : Only 2 byte.ps byte.r byte-Reads.Post
byte_only κs a x y s s' p q = only p q

pub word_only : Only 2 word.ps word.r word-reads.Post
word_only κs a x y s s' p q = only p q
