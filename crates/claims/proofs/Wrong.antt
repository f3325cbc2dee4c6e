-- None of the six wrong forcers meets the promise: at case b, at b and c, or at b and d it answers otherwise.
-- Assumes nothing.
use Rattle.std.proofs.Common.{ℕ, arith, ◌≡◌, refl, sym, ap, ◌∙◌, true, List, [], ◌∷◌, Ok}
use Rattle.base.specs.Sums.{sum_to, top_to}
use Rattle.base.specs.Least.{least, first_from}
use Rattle.base.specs.Rows.{list_from, row}
use Rattle.model.specs.Bound.{work_in, W, E, share, block, from, cap, share_of, block_of}
use Rattle.model.specs.Bound.{B, satisfies, least_length, bound}
use Rattle.model.specs.Forcing.{test, lowest, lacks, lacking, made, run, force}
use Rattle.table.specs.Table.{system_of, flags_of}
use Rattle.table.specs.Checks.{head_fault, task_fault, faulty_task, check_of}
use Rattle.table.proofs.TableLaws.{fine_legal}
use Rattle.flags.specs.Flags.{changed}
use Rattle.planner.specs.declared.Job.TheVariants.{Force}
use Rattle.planner.specs.declared.Record.{Record}
use Rattle.planner.specs.Answers.{given, refused, values_of, no_record}
use Rattle.planner.specs.Done.{sent, force_done, legal_done, room_done, list_done, loaded, list_after}
use Rattle.planner.specs.Calls.{done_of, by_list}
use Rattle.claims.specs.Words.{Asks, flags_in, bounds_in}
use Rattle.claims.specs.Cases.{pair}
use Rattle.claims.specs.Meaning.{pair_table}
use Rattle.claims.specs.Wrong.{Forcer, MeetsPromise, AlwaysRefuses, OneAnswer, WritesNothing}
use Rattle.claims.specs.Wrong.{CopiesBounds, ForcesAll, MadeUpPasses}

-- room for two records
abbrev two : List Record
two = no_record ∷ no_record ∷ []

-- the tables of the cases b, c and d are legal
fine_b : check_of (pair_table 12 1) ≡ Ok tt
unfolding first_from head_fault task_fault faulty_task check_of loaded
fine_b = refl

fine_c : check_of (pair_table 11 1) ≡ Ok tt
unfolding first_from head_fault task_fault faulty_task check_of loaded
fine_c = refl

fine_d : check_of (pair_table 11 0) ≡ Ok tt
unfolding first_from head_fault task_fault faulty_task check_of loaded
fine_d = refl

asks : (d f : ℕ) → check_of (pair_table d f) ≡ Ok tt → Asks (pair 1 d f) (pair_table d f) two
asks d f fine = record { sends = by_list 1 1 _ (fine_legal {t = pair_table d f} fine); room = omega arith }

-- what is promised of them
record Says : Type 0 where
  answer_b : (done_of (pair 1 12 1) Force 2).answer ≡ given true 2 3
  bound_b : bounds_in (list_after (done_of (pair 1 12 1) Force 2) two) 0 ≡ 12
  sent_b : bound (system_of (pair_table 12 1)) (sent (pair_table 12 1)) 0 ≡ 4
  answer_c : (done_of (pair 1 11 1) Force 2).answer ≡ given true 0 1
  flag_c : flags_in (list_after (done_of (pair 1 11 1) Force 2) two) 0 ≡ 1
  answer_d : (done_of (pair 1 11 0) Force 2).answer ≡ refused 14 1 2

says : Says
unfolding
    sum_to top_to least first_from work_in W E share block from cap share_of block_of B satisfies least_length
    bound
    list_from test lowest lacks lacking made run force flags_of row head_fault task_fault faulty_task check_of
    changed force_done legal_done room_done list_done loaded
says = record {
  answer_b = refl;
  bound_b = refl;
  sent_b = refl;
  answer_c = refl;
  flag_c = refl;
  answer_d = refl;
}

module _ (f : Forcer) (meets : MeetsPromise f) where
  answers_b : (f (pair 1 12 1) two).answer ≡ given true 2 3
  answers_b = (meets (pair 1 12 1) two).0 ∙ says.answer_b

  answers_c : (f (pair 1 11 1) two).answer ≡ given true 0 1
  answers_c = (meets (pair 1 11 1) two).0 ∙ says.answer_c

  answers_d : (f (pair 1 11 0) two).answer ≡ refused 14 1 2
  answers_d = (meets (pair 1 11 0) two).0 ∙ says.answer_d

  bounds_b : bounds_in (f (pair 1 12 1) two).list 0 ≡ 12
  bounds_b = ap (λ rs. bounds_in rs 0) (meets (pair 1 12 1) two).1 ∙ says.bound_b

  pub not_always_refuses : AlwaysRefuses f → ⊥
  not_always_refuses w =
      let r : _ = w (pair 1 12 1) (pair_table 12 1) two (asks 12 1 fine_b) in
      clash r.0 r.1.0 r.1.1.0 (sym answers_b ∙ r.1.1.1)
    where
      clash : (n l p : ℕ) → given true 2 3 ≡ refused n l p → ⊥
      clash n l p e = let z : ◌≡◌ {A = ℕ} 0 1 = cc in omega arith

  pub not_one_answer : OneAnswer f → ⊥
  not_one_answer w =
      clash (sym answers_b ∙ w _ _ _ _ two two (asks 12 1 fine_b) (asks 11 1 fine_c) ∙ answers_c)
    where
      clash : given true 2 3 ≡ given true 0 1 → ⊥
      clash e = let z : ◌≡◌ {A = ℕ} 3 1 = ap (λ a. (values_of 2 a).passes) e in omega arith

  pub not_writes_nothing : WritesNothing f → ⊥
  not_writes_nothing w =
      let z : ◌≡◌ {A = ℕ} 12 0 =
      sym bounds_b ∙ ap (λ rs. bounds_in rs 0) (w _ _ two (asks 12 1 fine_b)) in
      omega arith

  pub not_copies_bounds : CopiesBounds f → ⊥
  not_copies_bounds w =
      let z : ◌≡◌ {A = ℕ} 12 4 =
      sym bounds_b
      ∙ w _ _ two (asks 12 1 fine_b) 2 3 answers_b 0 (omega arith) (omega (arith, says.sent_b))
      ∙ says.sent_b in
      omega arith

  pub not_forces_all : ForcesAll f → ⊥
  not_forces_all w =
      let z : ◌≡◌ {A = ℕ} 1 0 =
      sym says.flag_c ∙ sym (ap (λ rs. flags_in rs 0) (meets (pair 1 11 1) two).1)
      ∙ w _ _ two (asks 11 1 fine_c) 0 1 answers_c 0 (omega arith) in
      omega arith

  pub not_made_up_passes : MadeUpPasses f → ⊥
  not_made_up_passes w =
      let z : ◌≡◌ {A = ℕ} 3 2 =
      sym (ap (λ a. (values_of 2 a).passes) answers_b) ∙ w.1 _ _ two (asks 12 1 fine_b)
      ∙ sym (w.1 _ _ two (asks 11 0 fine_d)) ∙ ap (λ a. (values_of 2 a).passes) answers_d in
      omega arith
