-- The sorts that an expression can come to have: its own, an open one, or any if it had none.
use Rattle.std.proofs.Common.{◌≡◌, refl, ap, IsTrue, ℕ, ◌+◌, List, [], ◌∷◌, Option, Some, None, Bool, true, false, not, ◌&&◌, arith, eqb→eq}
use Rattle.run_types.specs.declared.types.Op.{Op}
use Rattle.run_types.specs.declared.types.Op.TheVariants as O
use Rattle.run_types.specs.declared.types.Kind.{Kind}
use Rattle.pool_syntax.specs.declared.tree.Var.{Var}
use Rattle.pool_syntax.specs.Terms.{Expressions, NoArgs, Arg, MethodTree, ProgramTree}
use Rattle.run_types.specs.Sorts.{Sort, IntSort, BoolSort, ClassSort, NilSort, NoSort, BrokenSort, operand_sort}
use Rattle.pool_syntax.specs.Typing.{Scope, kind_sort, send_sort, is_open, is_comparable, sort_of, params_of, sent_method}
use Rattle.pool_relation.specs.Reducible.{is_value}
use Rattle.pool_relation.proofs.typing.TypedTerm.{Holds, past, has_no_sort, is_broken, fits_need, fit_operands, is_destination, gives, fits_outcome, TypedArguments}

-- an expression of sort s may come to have the sort s'
pub data MayBecome (s s' : Sort) : Type 0 where
  Stays : s' ≡ s → MayBecome s s'
  Opens : is_open s' ≡ true → MayBecome s s'
  HadNone : s ≡ NoSort → MayBecome s s'

pub need_kept : (s s' need : Sort) → MayBecome s s' → IsTrue (fits_need s need) → IsTrue (fits_need s' need)
unfolding fits_need has_no_sort
need_kept s s' need (Stays e) h = rw e h
need_kept s NilSort need (Opens o) h = refl
need_kept s BrokenSort need (Opens o) h = refl
need_kept s _ need (Opens o) h = absurd (grind (arith, o))
need_kept s s' need (HadNone e) h = absurd (grind (arith, rw e at h))

pub sort_kept : (s s' : Sort) → MayBecome s s' → has_no_sort s ≡ false → has_no_sort s' ≡ false
unfolding has_no_sort
sort_kept s s' (Stays e) h = rw e h
sort_kept s NilSort (Opens o) h = refl
sort_kept s BrokenSort (Opens o) h = refl
sort_kept s _ (Opens o) h = absurd (grind (arith, o))
sort_kept s s' (HadNone e) h = absurd (grind (arith, rw e at h))

alike : Sort → Sort → Bool
unfolding has_no_sort
alike s t = not (has_no_sort s) && not (has_no_sort t) && is_comparable s t

alike_left : (s s' t : Sort) → MayBecome s s' → IsTrue (alike s t) → IsTrue (alike s' t)
unfolding alike has_no_sort
alike_left s s' t (Stays e) h = rw e h
alike_left s NilSort t (Opens o) h = grind arith
alike_left s BrokenSort t (Opens o) h = grind arith
alike_left s _ t (Opens o) h = absurd (grind (arith, o))
alike_left s s' t (HadNone e) h = absurd (grind (arith, rw e at h))

alike_right : (s t t' : Sort) → MayBecome t t' → IsTrue (alike s t) → IsTrue (alike s t')
unfolding alike has_no_sort
alike_right s t t' (Stays e) h = rw e h
alike_right s t NilSort (Opens o) h = grind arith
alike_right s t BrokenSort (Opens o) h = grind arith
alike_right s t _ (Opens o) h = absurd (grind (arith, o))
alike_right s t t' (HadNone e) h = absurd (grind (arith, rw e at h))

pub operands_left : (op : Op) (s s' t : Sort) → MayBecome s s' → IsTrue (fit_operands op s t) → IsTrue (fit_operands op s' t)
unfolding fit_operands alike
operands_left O.Same s s' t b h = alike_left s s' t b h
operands_left O.Differs s s' t b h = alike_left s s' t b h
operands_left op s s' t b h = grind (arith, need_kept s s' (operand_sort op) b)

pub operands_right : (op : Op) (s t t' : Sort) → MayBecome t t' → IsTrue (fit_operands op s t) → IsTrue (fit_operands op s t')
unfolding fit_operands alike
operands_right O.Same s t t' b h = alike_right s t t' b h
operands_right O.Differs s t t' b h = alike_right s t t' b h
operands_right op s t t' b h = grind (arith, need_kept t t' (operand_sort op) b)

-- in a term under way a destination may become nil
pub destination_kept : (g : Scope) (s s' : Sort) (m n : ℕ) → IsTrue g.under_way → MayBecome s s'
    → IsTrue (is_destination g s m n) → IsTrue (is_destination g s' m n)
unfolding is_destination
destination_kept g s s' m n u (Stays e) h = rw e h
destination_kept g s NilSort m n u (Opens o) h = u
destination_kept g s BrokenSort m n u (Opens o) h = refl
destination_kept g s _ m n u (Opens o) h = absurd (grind (arith, o))
destination_kept g s s' m n u (HadNone e) h = absurd (grind (arith, rw e at h))

-- then the send's sort fits every kind
pub send_kept : (g : Scope) (s s' : Sort) (m n : ℕ) → MayBecome s s' → IsTrue (is_destination g s m n)
    → MayBecome (send_sort g.program s m) (send_sort g.program s' m)
unfolding is_destination
send_kept g s s' m n (Stays e) h = Stays (ap (λ x. send_sort g.program x m) e)
send_kept g s NilSort m n (Opens o) h = Opens refl
send_kept g s BrokenSort m n (Opens o) h = Opens refl
send_kept g s _ m n (Opens o) h = absurd (grind (arith, o))
send_kept g s s' m n (HadNone e) h = absurd (grind (arith, rw e at h))

-- what fits a kind has a sort
has_sort : (s need : Sort) → IsTrue (fits_need s need) → has_no_sort s ≡ false
unfolding fits_need has_no_sort
has_sort s need h = grind arith

-- arguments that fit parameters fit where there are none
any_arguments : (k : Holds) (g : Scope) (h : ℕ) (vs : List Var) (es : Expressions) → TypedArguments k g h vs es
    → TypedArguments k g h [] es
any_arguments k g h vs NoArgs t = tt
any_arguments k g h [] (Arg e es) t = t
any_arguments k g h (v ∷ vs) (Arg e es) t =
    (t.0, has_sort (sort_of g e) (kind_sort g.program v.kind) t.1, any_arguments (past (is_value e) k) g (h + 1) vs es t.2)

pub arguments_kept : (k : Holds) (g : Scope) (h : ℕ) (s s' : Sort) (m n : ℕ) (es : Expressions) → MayBecome s s'
    → IsTrue (is_destination g s m n)
    → TypedArguments k g h (params_of (sent_method g s m)) es → TypedArguments k g h (params_of (sent_method g s' m)) es
unfolding is_destination
arguments_kept k g h s s' m n es (Stays e) d t = rw e t
arguments_kept k g h s NilSort m n es (Opens o) d t = any_arguments k g h _ es t
arguments_kept k g h s BrokenSort m n es (Opens o) d t = any_arguments k g h _ es t
arguments_kept k g h s _ m n es (Opens o) d t = absurd (grind (arith, o))
arguments_kept k g h s s' m n es (HadNone e) d t = absurd (grind (arith, rw e at d))

pub gives_kept : (p : ProgramTree) (m : Option MethodTree) (s s' : Sort) → MayBecome s s' → IsTrue (gives p m s) → IsTrue (gives p m s')
unfolding gives fits_outcome
gives_kept p None s s' b h = h
gives_kept p (Some m) s s' b h = outcome_kept m.outcome h
  where
    outcome_kept : (k : Option Kind) → IsTrue (fits_outcome p k s) → IsTrue (fits_outcome p k s')
    outcome_kept None i = i
    outcome_kept (Some k) i = need_kept s s' (kind_sort p k) b i

-- the kind is Int, Bool or a class of the program
abbrev pub is_known : ProgramTree → Kind → Bool
is_known p k = not (is_broken (kind_sort p k))

-- a value that fits a known kind may stand for it
pub fits_known : (s need : Sort) → is_broken need ≡ false → IsTrue (fits_need s need) → MayBecome need s
unfolding fits_need has_no_sort
fits_known IntSort IntSort k h = Stays refl
fits_known BoolSort BoolSort k h = Stays refl
fits_known (ClassSort c) (ClassSort d) k h = Stays (ap ClassSort (eqb→eq c d (grind (arith, h))))
fits_known NilSort need k h = Opens refl
fits_known BrokenSort need k h = Opens refl
fits_known NoSort need k h = absurd (grind (arith, h))
fits_known s BrokenSort k h = absurd (grind (arith, k))
fits_known s need k h = absurd (grind (arith, h))
