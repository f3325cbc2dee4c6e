-- Lists by place, and the rows of 32 places in which the code holds tasks, numbers and records.
--
--   the number at a place, 0 past the end      at xs i
--   f i, f (i + 1), ..: n of them              list_from f i n
--   n of them, from place 0                    list_of f n
--   32 places: n of them, z at the others      row z f n
--
-- Assumes nothing.
use Rattle.std.specs.Prelude.{ℕ, zero, suc, List, [], ◌∷◌, get_or, ltb}
use Rattle.base.specs.Choice.{pick}

abbrev pub at : List ℕ → ℕ → ℕ
at xs i = get_or xs i 0

unfoldable pub list_from : {A : Type 0} → (ℕ → A) → ℕ → ℕ → List A
list_from f i zero = []
list_from f i (suc n) = f i ∷ list_from f (suc i) n

abbrev pub list_of : {A : Type 0} → (ℕ → A) → ℕ → List A
list_of f n = list_from f 0 n

unfoldable pub row : {A : Type 0} → A → (ℕ → A) → ℕ → List A
row z f n = list_of (λ i. pick (ltb i n) (f i) z) 32
