-- Choices, by a test or by a number that is 0 for "none".
--
--   a if the test holds, else b                        pick t a b
--   a for 0, else what the number before it gives      or_else x a f: f i for x = i + 1
--   that number, or none                               some_of x
--   both tests                                         both a b
--
-- Assumes nothing.
use Rattle.std.specs.Prelude.{ℕ, zero, suc, Bool, true, false, Option, Some, None}

abbrev pub pick : {A : Type 0} → Bool → A → A → A
pick true a b = a
pick false a b = b

abbrev pub or_else : {A : Type 0} → ℕ → A → (ℕ → A) → A
or_else zero a f = a
or_else (suc i) a f = f i

abbrev pub some_of : ℕ → Option ℕ
some_of x = or_else x None (λ i. Some (suc i))

abbrev pub both : Bool → Bool → Bool
both true b = b
both false b = false
