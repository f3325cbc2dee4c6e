-- `page::put_number` calls itself with the tenth part of n, which is less.
-- Assumes nothing.
use Rattle.page.proofs.+put_number.Given as goal

abbrev pub decreases-put_number : goal.decreases-put_number
decreases-put_number l = l.n
