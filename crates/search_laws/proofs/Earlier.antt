-- What is possible after a local transition of another object was possible before it.
use Rattle.std.proofs.Common.{◌≡◌, ◌≢◌, refl, sym, ap, ◌∙◌, subst, ℕ, Option, Some, Bool, true, false, ◌==◌}
use Rattle.std.specs.Ordering.{nat_cmp}
use Rattle.std.specs.Cmp.{nat_cmp_total}
use Rattle.std.specs.FinMap.{nat_cmp-IsAntisymmetric}
use Rattle.std.specs.FinMap.Entries.{put, same_entries}
use Rattle.run_types.specs.declared.types.Label.{Label}
use Rattle.run_types.specs.declared.types.Label.TheVariants as L
use Rattle.run_types.proofs.Laws.{equal, given_by, same_some, true_T}
use Rattle.pool_syntax.specs.Terms.{ProgramTree}
use Rattle.pool_relation.specs.Action.{Object, action}
use Rattle.pool_relation.specs.Configuration.{Configuration, object_of, put_object}
use Rattle.pool_relation.specs.Progress.{agent}
use Rattle.pool_relation.specs.Transition.{local_step, running, transition}
use Rattle.pool_relation.proofs.Laws.{running_is, Put, New, Old, put_cases, objects_in_order}
use Rattle.reachability.specs.Search.{IsInOrder}
use Rattle.search_laws.proofs.OneLabel.{partner}
use Rattle.search_laws.proofs.PutsCommute.{at_itself, sorted_put}
use Rattle.search_laws.proofs.Independence.{Apart, Follows, Nothing, Beside, beside}
use Rattle.search_laws.proofs.Commutation.{OneKeeps, one_inside, one_change, one_apart}

-- an object put back
put_back : (c : Configuration) (o : ℕ) (x y : Object) → IsInOrder c → object_of c o ≡ Some x → put_object (put_object c o y) o x ≡ c
put_back c o x y s e =
    ap (λ es. record c { objects = es })
    (same_entries nat_cmp nat_cmp_total (λ a b e. nat_cmp-IsAntisymmetric a b e) (put nat_cmp o x (put nat_cmp o y c.objects)) c.objects
    (true_T _ (objects_in_order (put_object c o y) o x (objects_in_order c o y s.0))) (true_T _ s.0)
    (λ r. by r (put_cases (put_object c o y) o x r) (put_cases c o y r)))
  where
    by : (r : ℕ) → Put (put_object c o y) o x r → Put c o y r → object_of (put_object (put_object c o y) o x) r ≡ object_of c r
    by r (New g i) b = i ∙ sym (ap (object_of c) g ∙ e)
    by r (Old m i) (New g j) = absurd (m g)
    by r (Old m i) (Old l j) = i ∙ j

outside : (q o : ℕ) → q ≢ o → (q == o) ≡ false
outside q o n = by (q == o) refl
  where
    by : (b : Bool) → (q == o) ≡ b → (q == o) ≡ false
    by true i = absurd (n (equal q o i))
    by false i = i

goes_on : (p : ProgramTree) (Keeps : Configuration → Type 0) (inside free : ℕ → Bool) (change : Configuration → Configuration) (a : Apart Keeps inside free change) (u v : Option Configuration) (e : Configuration)
    → u ≡ Some e → Follows p Keeps inside free change a u v → (f : Configuration) × (v ≡ Some f)
goes_on p Keeps inside free change a u v e g Nothing = absurd (cc)
goes_on p Keeps inside free change a u v e g (Beside {d = b} k) = (change b, refl)

pub earlier : (p : ProgramTree) (c d e : Configuration) (o : ℕ) (l : Label) → IsInOrder c → transition p c (L.Local o) ≡ Some d → transition p d l ≡ Some e → agent l ≢ o → partner l ≢ o
    → (f : Configuration) × (transition p c l ≡ Some f)
earlier p c d e o l s i j n m =
    let r = given_by (running c o) _ d i in
    let x = running_is c o r.0 r.1 in
    let y = given_by (local_step r.0 (action p o r.0)) _ d r.2 in
    let changed : put_object c o y.0 ≡ d = same_some y.2 in
    let back : put_object d o r.0 ≡ c = ap (λ z. put_object z o r.0) (sym changed) ∙ put_back c o r.0 y.0 s x.0 in
    let keeps : OneKeeps o y.0 r.0 d = (ap (λ z. object_of z o) (sym changed) ∙ at_itself c o y.0, subst IsInOrder changed (sorted_put c o y.0 s)) in
    let f = goes_on p (OneKeeps o y.0 r.0) (one_inside o y.0 r.0) (λ q. true) (one_change o y.0 r.0) (one_apart o y.0 r.0) (transition p d l) (transition p (put_object d o r.0) l) e j
    (beside p (OneKeeps o y.0 r.0) (one_inside o y.0 r.0) (λ q. true) (one_change o y.0 r.0) (one_apart o y.0 r.0) d keeps l (outside (agent l) o n) (outside (partner l) o m) refl) in
    (f.0, ap (λ z. transition p z l) (sym back) ∙ f.1)
