-- Decimal numbers: one more digit, their lengths, and that the digits give the number back.
-- Assumes nothing.
use Rattle.std.proofs.Common.{ℕ, zero, suc, ◌+◌, ◌*◌, ◌-◌, ◌/◌, ◌%◌, ◌≤◌, ◌<◌, arith, div-add-mod', ◌≡◌}
use Rattle.std.proofs.Common.{refl, sym, ap, ◌∙◌, ⊎_elim, List, [], ◌∷◌, ◌++◌, length, get_or}
use Rattle.std.proofs.Common.{length-append, lt-ltb, le-ltb}
use Rattle.std.proofs.Math.ListN.{get_or-append}
use Rattle.base.proofs.OrderLaws.{le_or_lt}
use Rattle.page.specs.Decimal.{digits, decimal, value_from, value_of}

-- the last digit, after others
abbrev lastly : List ℕ → ℕ → List ℕ
lastly l n = l ++ ((48 + n % 10) ∷ [])

digits_small : (f n : ℕ) → n < 10 → digits (suc f) n ≡ (48 + n) ∷ []
unfolding digits
digits_small f n h = rw (lt-ltb n 10 h)

digits_more : (f n : ℕ) → 10 ≤ n → digits (suc f) n ≡ lastly (digits f (n / 10)) n
unfolding digits
digits_more f n h = rw (le-ltb n 10 h)

-- any number of turns above n gives the same digits
digits_enough : (f g n : ℕ) → n < f → n < g → digits f n ≡ digits g n
digits_enough zero g n a b = absurd (let z : ⊥ = omega arith in z)
digits_enough (suc f) zero n a b = absurd (let z : ⊥ = omega arith in z)
digits_enough (suc f) (suc g) n a b =
    ⊎_elim
    (λ (h : 10 ≤ n).
    digits_more f n h
    ∙ ap (λ l. lastly l n) (digits_enough f g (n / 10) (omega arith) (omega arith))
    ∙ sym (digits_more g n h))
    (λ (h : n < 10). digits_small f n h ∙ sym (digits_small g n h))
    (le_or_lt 10 n)

pub decimal_small : (n : ℕ) → n < 10 → decimal n ≡ (48 + n) ∷ []
unfolding decimal
decimal_small n h = digits_small n n h

pub decimal_more : (n : ℕ) → 10 ≤ n → decimal n ≡ decimal (n / 10) ++ ((48 + n % 10) ∷ [])
unfolding decimal
decimal_more n h =
    digits_more n n h
    ∙ ap (λ l. lastly l n) (digits_enough n (suc (n / 10)) (n / 10) (omega arith) (omega arith))

-- what holds of the digits below 10 and goes from n / 10 to n holds of every number
by_digits : (P : ℕ → Type 0) → ((n : ℕ) → n < 10 → P n) → ((n : ℕ) → 10 ≤ n → P (n / 10) → P n) → (n : ℕ)
    → P n
by_digits P small more n = go (suc n) n (omega arith)
  where
    turn : (n : ℕ) → (10 ≤ n → P (n / 10)) → P n
    turn n h = ⊎_elim (λ (m : 10 ≤ n). more n m (h m)) (λ (m : n < 10). small n m) (le_or_lt 10 n)

    go : (f n : ℕ) → n < f → P n
    go zero n lt = absurd (let z : ⊥ = omega arith in z)
    go (suc f) n lt = turn n (λ m. go f (n / 10) (omega arith))

-- 10, 100, 1000, ..: the numbers below tens d have at most d + 1 digits
unfoldable pub tens : ℕ → ℕ
tens zero = 10
tens (suc d) = 10 * tens d

pub decimal_short : (n d : ℕ) → n < tens d → length (decimal n) ≤ suc d
unfolding tens
decimal_short =
    by_digits (λ n. (d : ℕ) → n < tens d → length (decimal n) ≤ suc d)
    (λ n m d h. omega (arith, ap length (decimal_small n m)))
    (λ n m rec d h. more n m rec d h)
  where
    more : (n : ℕ) → 10 ≤ n → ((d : ℕ) → n / 10 < tens d → length (decimal (n / 10)) ≤ suc d) → (d : ℕ)
        → n < tens d → length (decimal n) ≤ suc d
    more n m rec zero h = absurd (let z : ⊥ = omega arith in z)
    more n m rec (suc d) h =
        let q : n / 10 < tens d = omega arith in
        omega (arith, simp length-append at (ap length (decimal_more n m)), rec d q)

value_last : (a : ℕ) (ds : List ℕ) (d : ℕ) → value_from a (ds ++ (d ∷ [])) ≡ value_from a ds * 10 + (d - 48)
unfolding value_from
value_last a [] d = refl
value_last a (x ∷ ds) d = value_last (a * 10 + (x - 48)) ds d

-- reading the digits gives the number
pub decimal_back : (n : ℕ) → value_of (decimal n) ≡ n
unfolding value_from
decimal_back =
    by_digits (λ n. value_of (decimal n) ≡ n)
    (λ n m. ap value_of (decimal_small n m) ∙ one n)
    (λ n m e.
    ap value_of (decimal_more n m)
    ∙ value_last 0 (decimal (n / 10)) (48 + n % 10)
    ∙ omega (arith, e, div-add-mod' n 10))
  where
    one : (n : ℕ) → value_of ((48 + n) ∷ []) ≡ n
    one n = omega arith

-- two numbers with the same digits are the same number
pub decimal_only : (a b : ℕ) → decimal a ≡ decimal b → a ≡ b
decimal_only a b e = sym (decimal_back a) ∙ ap value_of e ∙ decimal_back b

decimal_some : (n : ℕ) → 0 < length (decimal n)
decimal_some =
    by_digits (λ n. 0 < length (decimal n)) (λ n m. omega (arith, ap length (decimal_small n m)))
    (λ n m h. omega (arith, simp length-append at (ap length (decimal_more n m))))

-- no leading zeros: the first digit of a number above 0 is above the digit 0
pub decimal_first : (n : ℕ) → 0 < n → 48 < get_or (decimal n) 0 0
decimal_first =
    by_digits (λ n. 0 < n → 48 < get_or (decimal n) 0 0)
    (λ n m some. omega (arith, ap (λ l. get_or l 0 0) (decimal_small n m)))
    (λ n m h some.
    let tail = (48 + n % 10) ∷ [] in
    omega (
      arith,
      ap (λ l. get_or l 0 0) (decimal_more n m)
          ∙ get_or-append (decimal (n / 10)) tail 0 0 (decimal_some (n / 10)),
      h (omega arith),
    ))
