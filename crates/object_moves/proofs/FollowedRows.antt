-- Local transitions of one object are followed, in any configuration.
use Rattle.std.proofs.Common.{◌≡◌, refl, ap, subst, ◌∙◌, ℕ, zero, suc, List, [], ◌∷◌, ◌++◌, Some, Bool, true, false, arith}
use Rattle.std.specs.Ordering.{nat_cmp}
use Rattle.std.specs.declared.cmp.Ordering.{Ordering}
use Rattle.std.specs.declared.cmp.Ordering.TheVariants.{Less, Equal, Greater}
use Rattle.std.specs.FinMap.{put}
use Rattle.run_types.specs.declared.types.Label.{Label}
use Rattle.run_types.specs.declared.types.Label.TheVariants as L
use Rattle.run_types.specs.declared.types.Value.{Value}
use Rattle.run_types.specs.Partial.{◌>>=◌}
use Rattle.run_types.proofs.Laws.{given_by, same_some, find_put_same}
use Rattle.pool_syntax.specs.Terms.{ProgramTree}
use Rattle.pool_relation.specs.Action.{Object}
use Rattle.pool_relation.specs.Configuration.{Configuration, object_of, put_object}
use Rattle.pool_relation.specs.Transition.{transition}
use Rattle.search_laws.specs.Tried.{Course, Follows, Stays, GoesBy}
use Rattle.object_moves.specs.Roles.{after_local, does}
use Rattle.object_moves.specs.declared.parts.Role.TheVariants as R
use Rattle.object_moves.specs.Followed.{course, passes}
use Rattle.object_moves.specs.Known.{duo_label, labelled, moved_by, parcel_label}
use Rattle.object_moves.specs.declared.known.Duo.{Duo}
use Rattle.object_moves.specs.declared.known.Parcel.{Parcel}
use Rattle.object_moves.proofs.OneEffect.{local_here}

put_twice : (o : ℕ) (y z : Object) (es : List (ℕ × Object)) → put nat_cmp o z (put nat_cmp o y es) ≡ put nat_cmp o z es
put_twice o y z [] = by (nat_cmp o o) refl
  where
    by : (r : Ordering) → nat_cmp o o ≡ r → put nat_cmp o z ((o, y) ∷ []) ≡ (o, z) ∷ []
    by Less h = absurd (grind (arith, h))
    by Equal h = rw h refl
    by Greater h = absurd (grind (arith, h))
put_twice o y z (e ∷ es) = by (nat_cmp o e.0) refl (nat_cmp o o) refl (put_twice o y z es)
  where
    by : (r : Ordering) → nat_cmp o e.0 ≡ r → (s : Ordering) → nat_cmp o o ≡ s → put nat_cmp o z (put nat_cmp o y es) ≡ put nat_cmp o z es → put nat_cmp o z (put nat_cmp o y (e ∷ es)) ≡ put nat_cmp o z (e ∷ es)
    by r h Less k rest = absurd (grind (arith, k))
    by r h Greater k rest = absurd (grind (arith, k))
    by Less h Equal k rest = rw (h, k) refl
    by Equal h Equal k rest = rw h (rw h refl)
    by Greater h Equal k rest = rw h (rw h (ap (λ l. e ∷ l) rest))

local_followed : (s : Bool) (o : ℕ) → (course s).follows (L.Local o) ≡ true
local_followed true o = refl
local_followed false o = refl

pub return_followed : (s : Bool) (b o : ℕ) (a : Duo) (v : Value) → a.returned ≡ Some v → (course s).follows (duo_label b o a) ≡ true
return_followed s b o a v e = ap (λ r. (course s).follows (labelled b o a r)) e ∙ by s
  where
    by : (s : Bool) → (course s).follows (L.Return b o v) ≡ true
    by true = refl
    by false = refl

pub send_followed : (s : Bool) (o : ℕ) (a : Parcel) → a.takes ≡ false → (course s).follows (parcel_label o a) ≡ true
send_followed s o a e = ap (λ t. (course s).follows (moved_by o a t)) e ∙ by s
  where
    by : (s : Bool) → (course s).follows (L.Send o a.other a.method a.args) ≡ true
    by true = refl
    by false = refl

module _ (p : ProgramTree) (k : Course) where
  pub follows_more : (c d e : Configuration) (l : Label) → Follows p k c d → k.follows l ≡ true → transition p d l ≡ Some e → Follows p k c e
  follows_more c d e l Stays kind step = GoesBy l kind step Stays
  follows_more c d e l (GoesBy {d = b} m m_kind m_step rest) kind step = GoesBy m m_kind m_step (follows_more b d e l rest kind step)

  pub follows_both : (c d e : Configuration) → Follows p k c d → Follows p k d e → Follows p k c e
  follows_both c d e Stays next = next
  follows_both c d e (GoesBy {d = b} m m_kind m_step rest) next = GoesBy m m_kind m_step (follows_both b d e rest next)

  -- the labels of both
  pub passes_both : (c d e : Configuration) (f : Follows p k c d) (g : Follows p k d e) → passes (follows_both c d e f g) ≡ passes f ++ passes g
  unfolding follows_both
  passes_both c d e Stays g = refl
  passes_both c d e (GoesBy {d = b} m m_kind m_step rest) g = ap (λ ls. m ∷ ls) (passes_both b d e rest g)

  pub passes_more : (c d e : Configuration) (l : Label) (f : Follows p k c d) (kind : k.follows l ≡ true) (step : transition p d l ≡ Some e) → passes (follows_more c d e l f kind step) ≡ passes f ++ l ∷ []
  unfolding follows_more
  passes_more c d e l Stays kind step = refl
  passes_more c d e l (GoesBy {d = b} m m_kind m_step rest) kind step = ap (λ ls. m ∷ ls) (passes_more b d e l rest kind step)

module _ (p : ProgramTree) (s : Bool) (o : ℕ) (c : Configuration) where
  pub followed : (n : ℕ) (x z : Object) → after_local p o n x ≡ Some z → Follows p (course s) (put_object c o x) (put_object c o z)
  followed zero x z e = subst (λ (w : Object). Follows p (course s) (put_object c o x) (put_object c o w)) (same_some e) Stays
  followed (suc n) x z e =
      let g = given_by (after_local p o n x) (does p o R.Goes []) z e in
      let here : object_of (put_object c o g.0) o ≡ Some g.0 = find_put_same o g.0 c.objects in
      let made : transition p (put_object c o g.0) (L.Local o) ≡ Some (put_object (put_object c o g.0) o z) =
      local_here p (put_object c o g.0) o g.0 here ∙ ap (λ r. r >>= λ y. Some (put_object (put_object c o g.0) o y)) g.2
      in
      let twice : put_object (put_object c o g.0) o z ≡ put_object c o z = ap (λ os. the_one os) (put_twice o g.0 z c.objects) in
      follows_more p (course s) (put_object c o x) (put_object c o g.0) (put_object c o z) (L.Local o) (followed n x g.0 g.1) (local_followed s o) (made ∙ ap Some twice)
    where
      the_one : List (ℕ × Object) → Configuration
      the_one os = record { objects = os; messages = c.messages }
