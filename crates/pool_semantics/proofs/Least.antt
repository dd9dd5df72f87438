-- The least number among those that the entries of a map give, one for each key.
use Rattle.std.proofs.Common.{◌≡◌, ◌⊎◌, inl, inr, refl, sym, subst, ℕ, zero, suc, ◌≤◌, List, [], ◌∷◌, Option, Some, None, is_some, true, false, arith}
use Rattle.std.specs.Prelude.{IfSome, IsSomeAnd, min}
use Rattle.std.specs.declared.cmp.Ordering.{Ordering}
use Rattle.std.specs.declared.cmp.Ordering.TheVariants.{Less, Equal, Greater}
use Rattle.std.specs.Map.{lookup}
use Rattle.std.specs.BTreeMap.{is_at}
use Rattle.pool_semantics.specs.Moving.{IsTheOne, IsLeast, lesser}

-- the lesser of two

one_of : (P : ℕ → Type 0) (a b : ℕ) → P a → P b → P (min a b)
one_of P a b x y = by (min_is a b)
  where
    min_is : (a b : ℕ) → (min a b ≡ a) ⊎ (min a b ≡ b)
    min_is zero b = inl (omega arith)
    min_is (suc a) zero = inr (omega arith)
    min_is (suc a) (suc b) = on (min_is a b)
      where
        on : (min a b ≡ a) ⊎ (min a b ≡ b) → (min (suc a) (suc b) ≡ suc a) ⊎ (min (suc a) (suc b) ≡ suc b)
        on (inl e) = inl (omega (arith, e))
        on (inr e) = inr (omega (arith, e))

    by : (min a b ≡ a) ⊎ (min a b ≡ b) → P (min a b)
    by (inl e) = subst P (sym e) x
    by (inr e) = subst P (sym e) y

pub lesser_holds : (P : ℕ → Type 0) (l r : Option ℕ) → IfSome l P → IfSome r P → IfSome (lesser l r) P
lesser_holds P None r x y = y
lesser_holds P (Some a) None x y = x
lesser_holds P (Some a) (Some b) x y = one_of P a b x y

pub lesser_left : (l r : Option ℕ) (b : ℕ) → IsSomeAnd l (λ a. a ≤ b) → IsSomeAnd (lesser l r) (λ a. a ≤ b)
lesser_left None r b h = absurd h
lesser_left (Some a) None b h = h
lesser_left (Some a) (Some c) b h = let g : a ≤ b = h in let k : min a c ≤ b = omega (arith, g) in k

pub lesser_right : (l r : Option ℕ) (b : ℕ) → IsSomeAnd r (λ a. a ≤ b) → IsSomeAnd (lesser l r) (λ a. a ≤ b)
lesser_right None r b h = h
lesser_right (Some a) None b h = absurd h
lesser_right (Some a) (Some c) b h = let g : c ≤ b = h in let k : min a c ≤ b = omega (arith, g) in k

-- a search through the entries that are left: each number that a key gives is still to come, or is not below the best
pub record Searched {K X : Type 0} (cmp : K → K → Ordering) (R : K → ℕ → Type 0) (best : Option ℕ) (es : List (K × X)) : Type 0 where
  pub holds : IfSome best (λ b. (k : K) × R k b)
  pub left : (k : K) (b : ℕ) → R k b → (is_some (lookup (is_at (cmp k)) es) ≡ true) ⊎ IsSomeAnd best (λ a. a ≤ b)

pub begun : {K X : Type 0} (cmp : K → K → Ordering) (R : K → ℕ → Type 0) (es : List (K × X)) → ((k : K) (b : ℕ) → R k b → is_some (lookup (is_at (cmp k)) es) ≡ true) → Searched cmp R None es
begun cmp R es f = record { holds = tt; left = λ k b h. inl (f k b h) }

pub one_less : {K X : Type 0} (cmp : K → K → Ordering) (R : K → ℕ → Type 0) (best r : Option ℕ) (e : K × X) (es : List (K × X)) → ((k : K) → cmp k e.0 ≡ Equal → k ≡ e.0) → IsTheOne (R e.0) r
    → Searched cmp R best (e ∷ es) → Searched cmp R (lesser best r) es
one_less {K = K} {X = X} cmp R best r e es same t s = record { holds = lesser_holds (λ b. (k : K) × R k b) best r s.holds (given r t.holds); left = λ k b h. by k b h (cmp k e.0) refl (s.left k b h) }
  where
    given : (r : Option ℕ) → IfSome r (R e.0) → IfSome r (λ b. (k : K) × R k b)
    given None x = tt
    given (Some a) x = (e.0, x)

    here : (b : ℕ) → R e.0 b → IsSomeAnd (lesser best r) (λ a. a ≤ b)
    here b h = let i : b ≤ b = omega arith in lesser_right best r b (subst (λ (o : Option ℕ). IsSomeAnd o (λ a. a ≤ b)) (sym (t.only b h)) i)

    by : (k : K) (b : ℕ) → R k b → (o : Ordering) → cmp k e.0 ≡ o → (is_some (lookup (is_at (cmp k)) (e ∷ es)) ≡ true) ⊎ IsSomeAnd best (λ a. a ≤ b)
        → (is_some (lookup (is_at (cmp k)) es) ≡ true) ⊎ IsSomeAnd (lesser best r) (λ a. a ≤ b)
    by k b h Equal i z = inr (here b (subst (λ q. R q b) (same k i) h))
    by k b h Less i (inl z) = inl (rw i at z)
    by k b h Greater i (inl z) = inl (rw i at z)
    by k b h Less i (inr z) = inr (lesser_left best r b z)
    by k b h Greater i (inr z) = inr (lesser_left best r b z)

pub ended : {K X : Type 0} (cmp : K → K → Ordering) (R : K → ℕ → Type 0) (best : Option ℕ) (es : List (K × X)) → es ≡ [] → Searched cmp R best es → IsLeast (λ b. (k : K) × R k b) best
ended {K = K} cmp R best es e s = record { holds = s.holds; least = λ b t. by t.0 b (s.left t.0 b t.1) }
  where
    by : (k : K) (b : ℕ) → (is_some (lookup (is_at (cmp k)) es) ≡ true) ⊎ IsSomeAnd best (λ a. a ≤ b) → IsSomeAnd best (λ a. a ≤ b)
    by k b (inl z) = absurd (let y : false ≡ true = rw e at z in cc)
    by k b (inr z) = z

pub same_kind : (P Q : ℕ → Type 0) (r : Option ℕ) → ((b : ℕ) → P b → Q b) → ((b : ℕ) → Q b → P b) → IsLeast P r → IsLeast Q r
same_kind P Q None f g l = record { holds = tt; least = λ b q. l.least b (g b q) }
same_kind P Q (Some a) f g l = record { holds = f a l.holds; least = λ b q. l.least b (g b q) }

-- the least of two kinds is the lesser of their least
pub either_kind : (P Q R : ℕ → Type 0) (l r : Option ℕ) → ((b : ℕ) → P b → R b) → ((b : ℕ) → Q b → R b) → ((b : ℕ) → R b → P b ⊎ Q b) → IsLeast P l → IsLeast Q r → IsLeast R (lesser l r)
either_kind P Q R l r f g h m n = record { holds = lesser_holds R l r (weaker P l f m.holds) (weaker Q r g n.holds); least = λ b x. by b (h b x) }
  where
    weaker : (S : ℕ → Type 0) (o : Option ℕ) → ((b : ℕ) → S b → R b) → IfSome o S → IfSome o R
    weaker S None k x = tt
    weaker S (Some a) k x = k a x

    by : (b : ℕ) → P b ⊎ Q b → IsSomeAnd (lesser l r) (λ a. a ≤ b)
    by b (inl x) = lesser_left l r b (m.least b x)
    by b (inr x) = lesser_right l r b (n.least b x)
