-- Lists by place, and rows of 32 places, filled from the front by a loop: at the start, after one store more,
-- and at the end. Over any element. Assumes nothing.
use Rattle.std.proofs.Common.{ℕ, zero, suc, ◌+◌, ◌≤◌, ◌<◌, arith, eq-or-lt_of_le, ◌≡◌, refl, sym, ap, ap₂}
use Rattle.std.proofs.Common.{◌∙◌, Bool, true, false, List, ◌∷◌, ⊎_elim, get_or, length, set}
use Rattle.std.proofs.Common.{replicate, length-set, get_or-set_same, get_or-set_other, ext_get_or, ltb}
use Rattle.std.proofs.Common.{lt-ltb, le-ltb, ltb-true, ltb-false}
use Rattle.std.proofs.Math.ListN.{get_or-replicate, length-replicate}
use Rattle.base.specs.Choice.{pick}
use Rattle.base.specs.Rows.{list_from, list_of, row}

module _ {A : Type 0} where
  pub list_length : (f : ℕ → A) (i n : ℕ) → length (list_from f i n) ≡ n
  unfolding list_from
  list_length f i zero = refl
  list_length f i (suc n) = ap suc (list_length f (suc i) n)

  from_at : (z : A) (f : ℕ → A) (i n j : ℕ) → j < n → get_or (list_from f i n) j z ≡ f (i + j)
  unfolding list_from
  from_at z f i zero j h = absurd (let y : ⊥ = omega arith in y)
  from_at z f i (suc n) zero h = ap f (let e : i ≡ i + 0 = omega arith in e)
  from_at z f i (suc n) (suc j) h =
      from_at z f (suc i) n j (omega arith) ∙ ap f (let e : suc i + j ≡ i + suc j = omega arith in e)

  pub list_at : (z : A) (f : ℕ → A) (n j : ℕ) → j < n → get_or (list_of f n) j z ≡ f j
  list_at z f n j h = from_at z f 0 n j h ∙ ap f (let e : 0 + j ≡ j = omega arith in e)

  from_same : (f g : ℕ → A) (i n : ℕ) → ((k : ℕ) → k < i + n → f k ≡ g k) → list_from f i n ≡ list_from g i n
  unfolding list_from
  from_same f g i zero h = refl
  from_same f g i (suc n) h =
      ap₂ ◌∷◌ (h i (omega arith)) (from_same f g (suc i) n (λ k l. h k (omega arith)))

  pub list_same : (f g : ℕ → A) (n : ℕ) → ((k : ℕ) → k < n → f k ≡ g k) → list_of f n ≡ list_of g n
  list_same f g n h = from_same f g 0 n (λ k l. h k (omega arith))

module _ {A : Type 0} (z : A) (f : ℕ → A) where
  pub row_length : (n : ℕ) → length (row z f n) ≡ 32
  unfolding row
  row_length n = list_length (λ i. pick (ltb i n) (f i) z) 0 32

  place : (n j : ℕ) → j < 32 → get_or (row z f n) j z ≡ pick (ltb j n) (f j) z
  unfolding row
  place n j h = list_at z (λ i. pick (ltb i n) (f i) z) 32 j h

  -- the first n places
  pub row_at : (n j : ℕ) → j < n → n ≤ 32 → get_or (row z f n) j z ≡ f j
  row_at n j h small = rw (place n j (omega arith), lt-ltb j n h)

  -- and the others
  pub row_past : (n j : ℕ) → n ≤ j → j < 32 → get_or (row z f n) j z ≡ z
  row_past n j h small = rw (place n j small, le-ltb j n h)

  -- a list of 32 that agrees with f at the first n places and holds z at the others
  pub row_is : (n : ℕ) (xs : List A) → length xs ≡ 32 → ((j : ℕ) → j < n → j < 32 → get_or xs j z ≡ f j)
      → ((j : ℕ) → n ≤ j → j < 32 → get_or xs j z ≡ z) → xs ≡ row z f n
  row_is n xs long first rest =
      ext_get_or z xs (row z f n) (long ∙ sym (row_length n))
      (λ j h. go j (omega arith) (ltb j n) refl ∙ sym (place n j (omega arith)))
    where
      go : (j : ℕ) → j < 32 → (t : Bool) → ltb j n ≡ t → get_or xs j z ≡ pick (ltb j n) (f j) z
      go j h true e = rw e (first j (ltb-true j n e) h)
      go j h false e = rw e (rest j (ltb-false j n e) h)

  -- the loop that fills it: nothing is stored yet
  pub fill_start : replicate 32 z ≡ row z f 0
  fill_start =
      row_is 0 (replicate 32 z) (length-replicate 32 z) (λ j h _. absurd (let y : ⊥ = omega arith in y))
      (λ j _ h. get_or-replicate 32 j z z h)

  stored : (i : ℕ) → i < 32 → set (row z f i) i (f i) ≡ row z f (i + 1)
  stored i small =
      row_is (i + 1) (set (row z f i) i (f i)) (length-set (row z f i) i (f i) ∙ row_length i)
      (λ j h s.
      ⊎_elim (here j) (λ less. other j (λ e. omega arith) ∙ row_at i j less (omega arith))
      (eq-or-lt_of_le (let y : j ≤ i = omega arith in y)))
      (λ j h s. other j (λ e. omega arith) ∙ row_past i j (omega arith) s)
    where
      other : (j : ℕ) → (j ≡ i → ⊥) → get_or (set (row z f i) i (f i)) j z ≡ get_or (row z f i) j z
      other j ne = get_or-set_other (row z f i) i j (f i) z ne

      here : (j : ℕ) → j ≡ i → get_or (set (row z f i) i (f i)) j z ≡ f j
      here j e =
          ap (λ k. get_or (set (row z f i) i (f i)) k z) e
          ∙ get_or-set_same (row z f i) i (f i) z (omega (arith, row_length i))
          ∙ ap f (sym e)

  -- one store more
  pub fill_step : {xs : List A} {i : ℕ} {x : A} → i < 32 → xs ≡ row z f i → x ≡ f i
      → set xs i x ≡ row z f (i + 1)
  fill_step {xs} {i} {x} small e is =
      ap (λ l. set l i x) e ∙ ap (λ y. set (row z f i) i y) is ∙ stored i small

  -- the store to the last place was made
  pub fill_end : {xs : List A} {i n : ℕ} → xs ≡ row z f i → i ≡ n → xs ≡ row z f n
  fill_end e all = e ∙ ap (row z f) all

module _ {A : Type 0} (z : A) where
  -- rows of functions that agree
  pub row_same : (f g : ℕ → A) (n : ℕ) → n ≤ 32 → ((j : ℕ) → j < n → f j ≡ g j) → row z f n ≡ row z g n
  row_same f g n small e =
      row_is z g n (row z f n) (row_length z f n) (λ j h s. row_at z f n j h small ∙ e j h)
      (λ j h s. row_past z f n j h s)
