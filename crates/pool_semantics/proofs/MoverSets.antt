-- The set of the names that the entries of a map give, one for each key, and of all objects that move.
use Rattle.std.proofs.Common.{◌≡◌, ◌⊎◌, inl, inr, refl, sym, ap, subst, ◌∙◌, ℕ, List, [], ◌∷◌, Option, Some, None, is_some, true, false}
use Rattle.std.specs.Prelude.{IfSome, cond}
use Rattle.std.specs.declared.cmp.Ordering.{Ordering}
use Rattle.std.specs.declared.cmp.Ordering.TheVariants.{Less, Equal, Greater}
use Rattle.std.specs.Ordering.{nat_cmp}
use Rattle.std.specs.FinMap.{nat_cmp-IsAntisymmetric}
use Rattle.std.specs.Map.{lookup}
use Rattle.std.specs.BTreeMap.{is_at}
use Rattle.std.specs.BTreeSet.{BTreeSet, IsEmpty, Updates, contains}
use Rattle.pool_syntax.specs.Terms.{ProgramTree}
use Rattle.pool_relation.specs.Configuration.{Configuration, messages_of}
use Rattle.pool_relation.specs.Progress.{HasOwnTransition}
use Rattle.pool_semantics.specs.Sound.{Sound}
use Rattle.pool_semantics.specs.Moving.{Adds, IsTheOne, MovesBy, Takes}
use Rattle.pool_semantics.proofs.MovingObjects.{Moves, by_object, by_message}
use Rattle.pool_semantics.proofs.CanMove.{moves_of, possible_of}

-- one name, or none

pub adds_none : (s : BTreeSet ℕ) → Adds (λ b. None ≡ Some b) s s
adds_none s = record { kept = λ b h. h; added = λ b e. absurd (cc); only = λ b h. inl h }

pub adds_one : (s t : BTreeSet ℕ) (k : ℕ) → Updates nat_cmp s t k true → Adds (λ b. Some k ≡ Some b) s t
adds_one s t k u = record { kept = λ b h. kept b h (nat_cmp k b) refl (u.0 b); added = λ b e. added b (cc); only = λ b h. only b h (nat_cmp k b) refl (u.0 b) }
  where
    kept : (b : ℕ) → contains nat_cmp s b ≡ true → (o : Ordering) → nat_cmp k b ≡ o → contains nat_cmp t b ≡ cond (is_at (nat_cmp k) b) true (contains nat_cmp s b) → contains nat_cmp t b ≡ true
    kept b h Less i e = rw i at e ∙ h
    kept b h Equal i e = rw i at e
    kept b h Greater i e = rw i at e ∙ h

    added : (b : ℕ) → k ≡ b → contains nat_cmp t b ≡ true
    added b e = subst (λ (n : ℕ). contains nat_cmp t n ≡ true) e u.1

    only : (b : ℕ) → contains nat_cmp t b ≡ true → (o : Ordering) → nat_cmp k b ≡ o → contains nat_cmp t b ≡ cond (is_at (nat_cmp k) b) true (contains nat_cmp s b)
        → (contains nat_cmp s b ≡ true) ⊎ (Some k ≡ Some b)
    only b h Less i e = inl (sym (rw i at e) ∙ h)
    only b h Equal i e = inr (ap Some (nat_cmp-IsAntisymmetric k b i))
    only b h Greater i e = inl (sym (rw i at e) ∙ h)

-- a pass through the entries: each name that a key gives is still to come, or is in the set
pub record Collected {K X : Type 0} (cmp : K → K → Ordering) (R : K → ℕ → Type 0) (s t : BTreeSet ℕ) (es : List (K × X)) : Type 0 where
  pub kept : (b : ℕ) → contains nat_cmp s b ≡ true → contains nat_cmp t b ≡ true
  pub only : (b : ℕ) → contains nat_cmp t b ≡ true → (contains nat_cmp s b ≡ true) ⊎ ((k : K) × R k b)
  pub left : (k : K) (b : ℕ) → R k b → (is_some (lookup (is_at (cmp k)) es) ≡ true) ⊎ (contains nat_cmp t b ≡ true)

pub collects : {K X : Type 0} (cmp : K → K → Ordering) (R : K → ℕ → Type 0) (s : BTreeSet ℕ) (es : List (K × X)) → ((k : K) (b : ℕ) → R k b → is_some (lookup (is_at (cmp k)) es) ≡ true) → Collected cmp R s s es
collects cmp R s es f = record { kept = λ b h. h; only = λ b h. inl h; left = λ k b h. inl (f k b h) }

pub collects_more : {K X : Type 0} (cmp : K → K → Ordering) (R : K → ℕ → Type 0) (s t u : BTreeSet ℕ) (r : Option ℕ) (e : K × X) (es : List (K × X)) → ((k : K) → cmp k e.0 ≡ Equal → k ≡ e.0) → IsTheOne (R e.0) r
    → Adds (λ b. r ≡ Some b) t u → Collected cmp R s t (e ∷ es) → Collected cmp R s u es
collects_more {K = K} {X = X} cmp R s t u r e es same one a c =
    record { kept = λ b h. a.kept b (c.kept b h); only = λ b h. only b (a.only b h); left = λ k b h. by k b h (cmp k e.0) refl (c.left k b h) }
  where
    only : (b : ℕ) → (contains nat_cmp t b ≡ true) ⊎ (r ≡ Some b) → (contains nat_cmp s b ≡ true) ⊎ ((k : K) × R k b)
    only b (inl h) = c.only b h
    only b (inr i) = inr (e.0, subst (λ o. IfSome o (R e.0)) i one.holds)

    by : (k : K) (b : ℕ) → R k b → (o : Ordering) → cmp k e.0 ≡ o → (is_some (lookup (is_at (cmp k)) (e ∷ es)) ≡ true) ⊎ (contains nat_cmp t b ≡ true)
        → (is_some (lookup (is_at (cmp k)) es) ≡ true) ⊎ (contains nat_cmp u b ≡ true)
    by k b h Equal i z = inr (a.added b (one.only b (subst (λ q. R q b) (same k i) h)))
    by k b h Less i (inl z) = inl (rw i at z)
    by k b h Greater i (inl z) = inl (rw i at z)
    by k b h Less i (inr z) = inr (a.kept b z)
    by k b h Greater i (inr z) = inr (a.kept b z)

pub collected : {K X : Type 0} (cmp : K → K → Ordering) (R : K → ℕ → Type 0) (s t : BTreeSet ℕ) (es : List (K × X)) → es ≡ [] → Collected cmp R s t es → Adds (λ b. (k : K) × R k b) s t
collected {K = K} cmp R s t es e c = record { kept = c.kept; added = λ b h. by h.0 b (c.left h.0 b h.1); only = c.only }
  where
    by : (k : K) (b : ℕ) → (is_some (lookup (is_at (cmp k)) es) ≡ true) ⊎ (contains nat_cmp t b ≡ true) → contains nat_cmp t b ≡ true
    by k b (inl z) = absurd (let y : false ≡ true = rw e at z in cc)
    by k b (inr z) = z

pub adds_same : (P Q : ℕ → Type 0) (s t : BTreeSet ℕ) → ((b : ℕ) → P b → Q b) → ((b : ℕ) → Q b → P b) → Adds P s t → Adds Q s t
adds_same P Q s t f g a = record { kept = a.kept; added = λ b h. a.added b (g b h); only = λ b h. by b (a.only b h) }
  where
    by : (b : ℕ) → (contains nat_cmp s b ≡ true) ⊎ P b → (contains nat_cmp s b ≡ true) ⊎ Q b
    by b (inl h) = inl h
    by b (inr h) = inr (f b h)

-- those that move by next actions, and those that take messages

module _ (p : ProgramTree) (c : Configuration) (s t u : BTreeSet ℕ) where
  pub all_movers : Adds (λ b. (o : ℕ) × MovesBy p c o b) s t → Adds (λ b. (q : ℕ) × Takes p c b (messages_of c q b)) t u → (o : ℕ) → HasOwnTransition p c o → contains nat_cmp u o ≡ true
  all_movers a m o h = by o (subst (Moves p c) h.1 (moves_of p c h.0 h.2 h.3))
    where
      by : (o : ℕ) → Moves p c o → contains nat_cmp u o ≡ true
      by o (by_object q x) = m.kept o (a.added o (q, x))
      by o (by_message q x) = m.added o (q, x)

  pub only_movers : Sound p c → IsEmpty s → Adds (λ b. (o : ℕ) × MovesBy p c o b) s t → Adds (λ b. (q : ℕ) × Takes p c b (messages_of c q b)) t u
      → (o : ℕ) → contains nat_cmp u o ≡ true → HasOwnTransition p c o
  only_movers sound e a m o h = taken (m.only o h)
    where
      moved : (contains nat_cmp s o ≡ true) ⊎ ((q : ℕ) × MovesBy p c q o) → HasOwnTransition p c o
      moved (inl z) = absurd (let y : false ≡ true = rw e at z in cc)
      moved (inr x) = possible_of p c sound o (by_object x.0 x.1)

      taken : (contains nat_cmp t o ≡ true) ⊎ ((q : ℕ) × Takes p c o (messages_of c q o)) → HasOwnTransition p c o
      taken (inl z) = moved (a.only o z)
      taken (inr x) = possible_of p c sound o (by_message x.0 x.1)
