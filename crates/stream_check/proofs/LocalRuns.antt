-- Local transitions of one object, which give no other object one.
use Rattle.std.proofs.Common.{◌≡◌, ◌≢◌, ◌⊎◌, inl, inr, refl, sym, ap, ap₂, subst, ◌∙◌, ℕ, zero, suc, ◌+◌, List, [], ◌∷◌, map, replicate, Option, Some, None}
use Rattle.std.specs.Ordering.{nat_cmp}
use Rattle.std.specs.declared.cmp.Ordering.{Ordering}
use Rattle.std.specs.declared.cmp.Ordering.TheVariants.{Less, Equal, Greater}
use Rattle.std.specs.FinMap.{find, nat_cmp-IsAntisymmetric}
use Rattle.std.proofs.lemmas.List.{replicate_more}
use Rattle.run_types.specs.declared.types.Label.{Label}
use Rattle.run_types.specs.declared.types.Label.TheVariants as L
use Rattle.run_types.specs.Partial.{◌>>=◌}
use Rattle.run_types.proofs.Laws.{decide, find_put_other, given_by, same_some}
use Rattle.pool_syntax.specs.Terms.{ProgramTree}
use Rattle.pool_relation.specs.Action.{Object, action}
use Rattle.pool_relation.specs.Configuration.{Configuration, object_of, put_object}
use Rattle.pool_relation.specs.Transition.{local_step, run, running, transition, without_fault}
use Rattle.pool_relation.proofs.Laws.{joined}
use Rattle.stream_check.specs.FillProgress.{IsAmong}

-- the same object has no local transition in another configuration
still_none : (p : ProgramTree) (c d : Configuration) (q : ℕ) → running d q ≡ running c q → transition p c (L.Local q) ≡ None → transition p d (L.Local q) ≡ None
still_none p c d q e h = subst (λ (r : Option Object). (r >>= λ x. local_step x (action p q x) >>= λ y. Some (put_object d q y)) ≡ None) (sym e) (by (running c q) h)
  where
    on : (s : Option Object) → (s >>= λ y. Some (put_object c q y)) ≡ None → (s >>= λ y. Some (put_object d q y)) ≡ None
    on None i = refl
    on (Some y) i = absurd (cc)

    by : (r : Option Object) → (r >>= λ x. local_step x (action p q x) >>= λ y. Some (put_object c q y)) ≡ None → (r >>= λ x. local_step x (action p q x) >>= λ y. Some (put_object d q y)) ≡ None
    by None i = refl
    by (Some x) i = on (local_step x (action p q x)) i

pub kept_once : (p : ProgramTree) (c d : Configuration) (o q : ℕ) → transition p c (L.Local o) ≡ Some d → transition p c (L.Local q) ≡ None → transition p d (L.Local q) ≡ None
kept_once p c d o q h n = by (decide q o)
  where
    by : (q ≡ o) ⊎ (q ≢ o) → transition p d (L.Local q) ≡ None
    by (inl i) = absurd (let z : None ≡ Some d = sym n ∙ (ap (λ (k : ℕ). transition p c (L.Local k)) i ∙ h) in cc)
    by (inr i) =
        let a = given_by (running c o) (λ x. local_step x (action p o x) >>= λ y. Some (put_object c o y)) d h in
        let b = given_by (local_step a.0 (action p o a.0)) (λ y. Some (put_object c o y)) d a.2 in
        let same : object_of d q ≡ object_of c q = ap (λ z. object_of z q) (sym (same_some b.2)) ∙ find_put_other q o b.0 c.objects i in
        still_none p c d q (ap (λ r. r >>= λ z. without_fault z z.fault) same) n

pub kept_local : (p : ProgramTree) (o k : ℕ) (c d : Configuration) (q : ℕ) → run p c (replicate k (L.Local o)) ≡ Some d → transition p c (L.Local q) ≡ None → transition p d (L.Local q) ≡ None
kept_local p o zero c d q h n = subst (λ (z : Configuration). transition p z (L.Local q) ≡ None) (same_some h) n
kept_local p o (suc k) c d q h n =
    let a = given_by (transition p c (L.Local o)) (λ e. run p e (replicate k (L.Local o))) d h in
    kept_local p o k a.0 d q a.2 (kept_once p c a.0 o q a.1 n)

-- so many transitions, and one more
pub one_more : (p : ProgramTree) (lab : Label) (k : ℕ) (c d e : Configuration) → run p c (replicate k lab) ≡ Some d → transition p d lab ≡ Some e → run p c (replicate (k + 1) lab) ≡ Some e
one_more p lab k c d e h i = ap (run p c) (sym (replicate_more k lab)) ∙ (joined p c d (replicate k lab) (lab ∷ []) h ∙ ap (λ o. o >>= λ z. run p z []) i)

-- the names of objects in another form
pub names_kept : {A B : Type 0} (f : A → ℕ × B) (k : A → ℕ) → ((x : A) → (f x).0 ≡ k x) → (es : List A) → map k es ≡ map (λ e. e.0) (map f es)
names_kept f k h [] = refl
names_kept f k h (e ∷ es) = ap₂ (λ n ns. n ∷ ns) (sym (h e)) (names_kept f k h es)

-- an object that is not there has none
absent : (p : ProgramTree) (c : Configuration) (q : ℕ) → object_of c q ≡ None → transition p c (L.Local q) ≡ None
absent p c q e = rw e refl

found_among : (es : List (ℕ × Object)) (q : ℕ) → (find nat_cmp q es ≡ None) ⊎ IsAmong q (map (λ e. e.0) es)
found_among [] q = inl refl
found_among (e ∷ es) q = by (nat_cmp q e.0) refl (found_among es q)
  where
    by : (r : Ordering) → nat_cmp q e.0 ≡ r → (find nat_cmp q es ≡ None) ⊎ IsAmong q (map (λ e. e.0) es) → (find nat_cmp q (e ∷ es) ≡ None) ⊎ IsAmong q (map (λ e. e.0) (e ∷ es))
    by Equal i s = inr (inl (nat_cmp-IsAntisymmetric q e.0 i))
    by Less i (inl n) = inl (rw i n)
    by Less i (inr a) = inr (inr a)
    by Greater i (inl n) = inl (rw i n)
    by Greater i (inr a) = inr (inr a)

pub among_all : (p : ProgramTree) (c : Configuration) (q : ℕ) → (transition p c (L.Local q) ≡ None) ⊎ IsAmong q (map (λ e. e.0) c.objects)
among_all p c q = by (found_among c.objects q)
  where
    by : (find nat_cmp q c.objects ≡ None) ⊎ IsAmong q (map (λ e. e.0) c.objects) → (transition p c (L.Local q) ≡ None) ⊎ IsAmong q (map (λ e. e.0) c.objects)
    by (inl n) = inl (absent p c q n)
    by (inr a) = inr a
