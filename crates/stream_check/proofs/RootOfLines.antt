-- The root of lines that lead on from the start is the object of the first label that is not local.
use Rattle.std.proofs.Common.{◌≡◌, refl, sym, ap, subst, ◌∙◌, ℕ, zero, suc, ◌<◌, List, [], ◌∷◌, ◌++◌, replicate, Some, false, arith}
use Rattle.run_types.specs.declared.types.Label.{Label}
use Rattle.run_types.specs.declared.types.Label.TheVariants as L
use Rattle.run_types.specs.declared.types.What.TheVariants as W
use Rattle.run_types.specs.declared.types.Event.{Event}
use Rattle.run_types.specs.declared.types.Line.{Line}
use Rattle.run_types.specs.declared.types.Line.TheVariants as R
use Rattle.run_types.proofs.Laws.{given_by, same_some}
use Rattle.pool_syntax.specs.Terms.{ProgramTree}
use Rattle.pool_relation.specs.Action.{Object}
use Rattle.pool_relation.specs.Alone.{alone}
use Rattle.pool_relation.specs.Configuration.{Configuration}
use Rattle.pool_relation.specs.Progress.{agent}
use Rattle.pool_relation.specs.Transition.{last_class, new_object, run, start, transition}
use Rattle.pool_relation.proofs.Laws.{not_there, runs, there}
use Rattle.mesh_semantics.specs.Record.{labels}
use Rattle.reachability.specs.Search.{IsInOrder}
use Rattle.record_check.specs.RecordJudgement.{first_agent, root}
use Rattle.stream_check.specs.Filled.{is_local, shows_local, without_local, without_local_of}
use Rattle.stream_check.proofs.KeptLines.{own_kept}

begins : (p : ProgramTree) (n : ℕ) (c : Configuration) → start p n ≡ Some c → (x : Object) × (c ≡ alone n x)
begins p n c e = let k = given_by (last_class p) (λ k. Some (alone n (new_object k))) c e in (new_object k.0, sym (same_some k.2))

-- only the object that is there has a local transition
its_local : (p : ProgramTree) (n o : ℕ) (x : Object) (d : Configuration) → transition p (alone n x) (L.Local o) ≡ Some d → o ≡ n
its_local p n o x d h = elim (runs n o x) as (λ r. o ≡ n) [ not_there e ↦ absurd (let q = rw e at h in cc) | there s f e ↦ s ]

-- If the first lines lead on from the object, and the others have the same first agent without local transitions, the root
-- of all is that without local transitions.
rooted_alone : (p : ProgramTree) (r : ℕ) (x : Object) (d : Configuration) (xs ys : List Line) → run p (alone r x) (labels xs) ≡ Some d → r ≡ root (without_local (xs ++ ys))
    → root (without_local ys) ≡ root ys → root (xs ++ ys) ≡ r
rooted_alone p r x d [] ys h is same = sym (is ∙ same)
rooted_alone p r x d (R.Event n e (W.Step (L.Local o) zero) ∷ xs) ys h is same = rooted_alone p r x d xs ys h is same
rooted_alone p r x d (R.Event n e (W.Step (L.Local o) (suc k)) ∷ xs) ys h is same =
    let a = given_by (transition p (alone r x) (L.Local o)) (λ c. run p c (replicate k (L.Local o) ++ labels xs)) d h in
    its_local p r o x a.0 a.1
rooted_alone p r x d (R.Event n e (W.Step lab zero) ∷ xs) ys h is same = rooted_alone p r x d xs ys h is same
rooted_alone p r x d (R.Event n e (W.Step lab (suc k)) ∷ xs) ys h is same = sym is
rooted_alone p r x d (R.Event n e what ∷ xs) ys h is same = rooted_alone p r x d xs ys h is same
rooted_alone p r x d (R.End end ∷ xs) ys h is same = rooted_alone p r x d xs ys h is same

pub rooted : (p : ProgramTree) (r : ℕ) (c d : Configuration) (xs ys : List Line) → start p r ≡ Some c → run p c (labels xs) ≡ Some d → r ≡ root (without_local (xs ++ ys))
    → root (without_local ys) ≡ root ys → root (xs ++ ys) ≡ r
rooted p r c d xs ys s h is same =
    let b = begins p r c s in
    rooted_alone p r b.0 d xs ys (ap (λ z. run p z (labels xs)) (sym b.1) ∙ h) is same

first_step : (n : ℕ) (event : Event) (lab : Label) (times : ℕ) (rest : List Line) → 0 < times → root (R.Event n event (W.Step lab times) ∷ rest) ≡ agent lab
first_step n event lab zero rest h = absurd (omega (arith, h))
first_step n event lab (suc k) rest h = refl

pub root_of_step : (n : ℕ) (event : Event) (lab : Label) (times : ℕ) (rest : List Line) → is_local lab ≡ false → 0 < times
    → root (without_local (R.Event n event (W.Step lab times) ∷ rest)) ≡ root (R.Event n event (W.Step lab times) ∷ rest)
root_of_step n event lab times rest own some =
    ap (λ ls. root (ls ++ without_local rest)) (own_kept n event lab times own)
    ∙ first_step 0 event lab times (without_local rest) some
    ∙ sym (first_step n event lab times rest some)

pub first_own : (l : Line) (n : ℕ) (event : Event) (lab : Label) (times : ℕ) → l ≡ R.Event n event (W.Step lab times) → shows_local l ≡ false → (times ≡ 0 → ⊥) → (rest : List Label)
    → first_agent (labels (without_local_of l) ++ rest) ≡ agent lab
first_own l n event lab times is own some rest =
    ap (λ x. first_agent (labels (without_local_of x) ++ rest)) is
    ∙ ap (λ ls. first_agent (labels ls ++ rest)) (own_kept n event lab times (sym (ap shows_local is) ∙ own))
    ∙ by times some
  where
    by : (t : ℕ) → (t ≡ 0 → ⊥) → first_agent ((replicate t lab ++ []) ++ rest) ≡ agent lab
    by zero h = absurd (h refl)
    by (suc k) h = refl

-- the start has its maps in order
pub started_in_order : (p : ProgramTree) (n : ℕ) (c : Configuration) → start p n ≡ Some c → IsInOrder c
started_in_order p n c e = let b = begins p n c e in subst IsInOrder (sym b.1) (refl, refl)
