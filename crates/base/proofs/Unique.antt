-- Any two results that a promise allows are equal. `Only` says it of a promise as a caller reads it; each
-- public function of each crate has its theorem, by `only`. Assumes nothing.
use Rattle.std.proofs.Common.{ℕ, ◌≡◌, sym, ◌∙◌, List}
use borrow.Fn.Kinds.{ParamKind, ResultKind, Out, Dens, res_t, ended_of}
use contract.Lifetimes.{Lfts}
use denote.Triple.Clauses.{AtExit}

-- the law behind each: what equals the same is equal
pub only : {A : Type 0} {x r r' : A} → r ≡ x → r' ≡ x → r ≡ r'
only p q = p ∙ sym q

-- at the same arguments, what the promise allows is one result
abbrev pub Only : (n : ℕ) (ps : List (ParamKind n)) (r : ResultKind n) → Out n ps r → Type 0
Only n ps r Post =
    (κs : Lfts n) (a : Dens κs ps) (x y : (res_t r κs).Denot) (s s' : AtExit (ended_of n ps r) κs)
    → Post κs a x s → Post κs a y s' → x ≡ y

-- at the same arguments, what the promise allows is one result, and one list in the end
abbrev pub OnlyWith : (n : ℕ) (ps : List (ParamKind n)) (r : ResultKind n) → Out n ps r
    → ((κs : Lfts n) → AtExit (ended_of n ps r) κs → List ℕ) → Type 0
OnlyWith n ps r Post later =
    (κs : Lfts n) (a : Dens κs ps) (x y : (res_t r κs).Denot) (s s' : AtExit (ended_of n ps r) κs)
    → Post κs a x s → Post κs a y s' → (x ≡ y) × (later κs s ≡ later κs s')
