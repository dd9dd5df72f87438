-- If no label is possible that gives a new object one unused name, no label is possible.
use Rattle.std.proofs.Common.{◌≡◌, refl, sym, ap, ◌∙◌, ℕ, Option, Some, None, is_none, Bool, true, false, ◌&&◌}
use Rattle.run_types.specs.declared.types.NameId.{NameId}
use Rattle.run_types.specs.declared.types.Value.TheVariants as V
use Rattle.run_types.specs.declared.types.Label.{Label}
use Rattle.run_types.specs.declared.types.Label.TheVariants as L
use Rattle.pool_syntax.specs.Terms.{ProgramTree, ClassTree}
use Rattle.pool_syntax.specs.Classes.{class_of}
use Rattle.run_types.specs.Partial.{◌>>=◌, ◌>>◌, require}
use Rattle.run_types.proofs.Laws.{equals}
use Rattle.pool_relation.specs.Action.{Object, action}
use Rattle.pool_relation.specs.Configuration.{Configuration, object_of, put_object}
use Rattle.pool_relation.specs.Transition.{running, makes, given, new_object, transition}
use Rattle.reachability.specs.Search.{IsAtEnd, names_next}

module _ (p : ProgramTree) (c : Configuration) (n : ℕ) (unused : object_of c n ≡ None) where
  new_under_any : (o m : ℕ) (k : NameId) → transition p c (L.New o n k) ≡ None → transition p c (L.New o m k) ≡ None
  new_under_any o m k h = by (running c o) h
    where
      made : (x : Object) → (z : Option ClassTree) → (z >>= λ class. Some (put_object (put_object c o (given x (V.Ref n))) n (new_object class))) ≡ None
          → (z >>= λ class. Some (put_object (put_object c o (given x (V.Ref m))) m (new_object class))) ≡ None
      made x None e = refl
      made x (Some class) e = absurd (cc)

      tested : (a : Bool) (x : Object) → (require (a && is_none (object_of c n)) >> (class_of p k.0 >>= λ class. Some (put_object (put_object c o (given x (V.Ref n))) n (new_object class)))) ≡ None
          → (require (a && is_none (object_of c m)) >> (class_of p k.0 >>= λ class. Some (put_object (put_object c o (given x (V.Ref m))) m (new_object class)))) ≡ None
      tested false x e = refl
      tested true x e =
          let free : is_none (object_of c n) ≡ true = ap is_none unused in
          let none = made x (class_of p k.0) (sym (ap (λ b. require b >> (class_of p k.0 >>= λ class. Some (put_object (put_object c o (given x (V.Ref n))) n (new_object class)))) free) ∙ e) in
          other (is_none (object_of c m)) none
        where
          other : (b : Bool) → (class_of p k.0 >>= λ class. Some (put_object (put_object c o (given x (V.Ref m))) m (new_object class))) ≡ None
              → (require b >> (class_of p k.0 >>= λ class. Some (put_object (put_object c o (given x (V.Ref m))) m (new_object class)))) ≡ None
          other true i = i
          other false i = refl

      by : (r : Option Object)
          → (r >>= λ x. require (makes (action p o x) k.0 && is_none (object_of c n)) >> (class_of p k.0 >>= λ class. Some (put_object (put_object c o (given x (V.Ref n))) n (new_object class)))) ≡ None
          → (r >>= λ x. require (makes (action p o x) k.0 && is_none (object_of c m)) >> (class_of p k.0 >>= λ class. Some (put_object (put_object c o (given x (V.Ref m))) m (new_object class)))) ≡ None
      by None e = refl
      by (Some x) e = tested (makes (action p o x) k.0) x e

  pub at_end_by_next : ((l : Label) → names_next n l ≡ true → transition p c l ≡ None) → IsAtEnd p c
  at_end_by_next h (L.New o m k) = new_under_any o m k (h (L.New o n k) (equals n))
  at_end_by_next h (L.Local o) = h (L.Local o) refl
  at_end_by_next h (L.Answer b o m args) = h (L.Answer b o m args) refl
  at_end_by_next h (L.Return b o v) = h (L.Return b o v) refl
  at_end_by_next h (L.Send o b m args) = h (L.Send o b m args) refl
  at_end_by_next h (L.Take b s m args) = h (L.Take b s m args) refl
  at_end_by_next h (L.Write o item) = h (L.Write o item) refl
  at_end_by_next h (L.Pick o i) = h (L.Pick o i) refl
  at_end_by_next h (L.Fault o e) = h (L.Fault o e) refl
