-- `frame_reader::all_digits` meets its contract: the test of each byte, by the table, is that of the digits.
-- Assumes nothing.
use Rattle.std.proofs.Common.{ℕ, ◌≡◌, ◌≤◌, ◌<◌, arith, sym, refl, ◌∙◌, rules, tests, Bool, true, false, List}
use Rattle.std.proofs.Common.{length, get_or, take, ltb, lt-ltb, ltb-true, get_or-take, length-take}
use Rattle.std.specs.List.{list_all}
use Rattle.std.proofs.lemmas.Grind.{get_or_default_zero}
use Rattle.std.proofs.lemmas.List.Sums.{AllPass-from_list_all, list_all-from_AllPass}
use Rattle.std.proofs.lemmas.Iterator.{YieldsList-from_slice}
use Rattle.std.proofs.lemmas.Iterator.Search.{all_from_yields_List}
use Rattle.frames.specs.Digits.{digit_table, all_digits}
use Rattle.frames.proofs.DigitLaws.{table_digit, digits_right, right_digits}
use Rattle.frame_reader.proofs.all_digits.Goals as goal

abbrev digit_by : List ℕ → ℕ → Bool
digit_by d b = ltb (get_or d b 0) 16

module _ {d : List ℕ} (s : List ℕ) (n : ℕ) (e : d ≡ digit_table) (h : n ≤ length s)
    (bytes : (i : ℕ) → get_or s i 0 < 256)
  where
    each : list_all (digit_by d) (take n s) ≡ all_digits s n
    each = same _ _ right all
      where
        same : (x y : Bool) → (x ≡ true → y ≡ true) → (y ≡ true → x ≡ true) → x ≡ y
        same true y f g = sym (f refl)
        same false true f g = g refl
        same false false f g = refl

        right : list_all (digit_by d) (take n s) ≡ true → all_digits s n ≡ true
        right t =
            right_digits s n (λ i l.
            let small =
            AllPass-from_list_all (digit_by d) (take n s) t i 0 (omega (arith, length-take n s))
            in
            rw (← table_digit e (bytes i)) (rw (get_or-take n s i 0 l) at (ltb-true _ 16 small)))

        all : all_digits s n ≡ true → list_all (digit_by d) (take n s) ≡ true
        all t =
            list_all-from_AllPass (digit_by d) (take n s) (λ i z l.
            let lt : i < n = omega (arith, length-take n s) in
            rw (get_or_default_zero (take n s) i z l, get_or-take n s i 0 lt)
            (lt-ltb _ 16 (rw (table_digit e (bytes i)) (digits_right s n t i lt))))

pub returns : goal.returns
returns c =
    all_from_yields_List (digit_by c.args.digits.now) _ _ c.all.result c.all.ensures.ran
    (YieldsList-from_slice (take c.args.n c.args.s.now) (cc)) (λ x b q k. search (rules, tests))
    ∙ each c.args.s.now c.args.n c.requires.0 c.requires.1 (λ i. omega (arith, c.type_inv.s i))
