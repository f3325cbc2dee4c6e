-- A number is written as its digits: those of its tenth part, and then the last one.
-- Each law is on plain lists and numbers. Assumes nothing.
use Rattle.std.proofs.Common.{ℕ, ◌+◌, ◌/◌, ◌%◌, ◌≤◌, ◌<◌, arith, ap, List, [], ◌∷◌, length, length-append}
use Rattle.buffer.specs.Put.{Put}
use Rattle.page.specs.Decimal.{decimal}
use Rattle.buffer.proofs.PutLaws.{put_then}
use Rattle.page.proofs.DecimalLaws.{decimal_small, decimal_more}

-- how far the digits reach, up to an end L of the room
module _ (at n L : ℕ) (room : at + length (decimal n) ≤ L) where
  pub room_small : n < 10 → at < L
  room_small h = omega (arith, ap length (decimal_small n h))

  pub room_more : 10 ≤ n → at + length (decimal (n / 10)) + 1 ≤ L
  room_more h = omega (arith, simp length-append at (ap length (decimal_more n h)))

module _ {s : List ℕ} {at n r : ℕ} {s' : List ℕ} where
  pub number_small : n < 10 → Put s at ((48 + n) ∷ []) r s' → Put s at (decimal n) r s'
  number_small h p = rw (decimal_small n h) p

  pub number_more : {r' : ℕ} {s'' : List ℕ} → 10 ≤ n → Put s at (decimal (n / 10)) r s'
      → Put s' r ((48 + n % 10) ∷ []) r' s'' → Put s at (decimal n) r' s''
  number_more h p q = rw (decimal_more n h) (put_then p q)
