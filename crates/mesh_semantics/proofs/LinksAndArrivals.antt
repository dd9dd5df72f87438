-- The packets on links and the arrived messages, after one was put or taken.
use Rattle.std.proofs.Common.{◌≡◌, ◌≢◌, refl, sym, ap, subst, ◌∙◌, ◌==◌, List, [], ◌∷◌, ◌++◌, append-nil, Some, Bool, true, false, ◌&&◌, arith}
use Rattle.run_types.specs.Tables.{Pair, Each}
use Rattle.run_types.proofs.Laws.{first, second, both, equal, equals, same_some}
use Rattle.run_types.specs.Paths.{is_link, under, without_first, on_link, put_last, move_head}
use Rattle.mesh_semantics.specs.Act.{first_of}

-- two links are the same, or not
pub data Same (j k : Pair) : Type 0 where
  Is : j ≡ k → is_link j.0 j.1 k ≡ true → Same j k
  Not : j ≢ k → is_link j.0 j.1 k ≡ false → Same j k

pub same : (j k : Pair) → Same j k
same j k = by (is_link j.0 j.1 k) refl
  where
    is : (k.0 == j.0 && k.1 == j.1) ≡ true → j ≡ k
    is e = let a = equal k.0 j.0 (first (k.0 == j.0) (k.1 == j.1) e) in let b = equal k.1 j.1 (second (k.0 == j.0) (k.1 == j.1) e) in λ i. (sym a i, sym b i)

    itself : is_link k.0 k.1 k ≡ true
    itself = both (k.0 == k.0) (k.1 == k.1) (equals k.0) (equals k.1)

    by : (b : Bool) → is_link j.0 j.1 k ≡ b → Same j k
    by true e = Is (is e) e
    by false e = Not (λ s. absurd (let q : is_link j.0 j.1 k ≡ true = subst (λ (p : Pair). is_link p.0 p.1 k ≡ true) (sym s) itself in grind (arith, e, q))) e

pub itself : (k : Pair) → is_link k.0 k.1 k ≡ true
itself k = both (k.0 == k.0) (k.1 == k.1) (equals k.0) (equals k.1)

-- a list splits at its first entry of a kind
pub data Split {E : Type 0} (t : E → Bool) (es : List E) : Type 0 where
  None_there : without_first t es ≡ es → Split t es
  At : (before : List E) (e : E) (behind : List E) → es ≡ before ++ e ∷ behind → without_first t es ≡ before ++ behind
      → Each (λ f. t f ≡ false) before → t e ≡ true → Split t es

module _ {K X : Type 0} (t : K → Bool) where
  -- under one key, after one was put last
  pub under-append : (es fs : List (K × X)) → under t (es ++ fs) ≡ under t es ++ under t fs
  under-append [] fs = refl
  under-append (e ∷ es) fs = by (t e.0) refl (under-append es fs)
    where
      by : (b : Bool) → t e.0 ≡ b → under t (es ++ fs) ≡ under t es ++ under t fs → under t ((e ∷ es) ++ fs) ≡ under t (e ∷ es) ++ under t fs
      by true i r = rw i (ap (λ xs. e.1 ∷ xs) r)
      by false i r = rw i r

-- what is the head of a link stands in the list of all, behind none of the same link
pub record Heads {X : Type 0} (k : Pair) (ls : List (Pair × X)) (x : X) : Type 0 where
  pub before : List (Pair × X)
  pub behind : List (Pair × X)
  pub whole : ls ≡ before ++ (k, x) ∷ behind
  pub moved : move_head k ls ≡ before ++ behind
  pub none : on_link before k ≡ []

pub heads : {X : Type 0} (k : Pair) (ls : List (Pair × X)) (x : X) → first_of (on_link ls k) ≡ Some x → Heads k ls x
heads k [] x h = absurd (cc)
heads {X} k (e ∷ ls) x h = by (same k e.0) (heads k ls x)
  where
    by : Same k e.0 → (first_of (on_link ls k) ≡ Some x → Heads k ls x) → Heads k (e ∷ ls) x
    by (Is i j) rest =
        let is : e.1 ≡ x = same_some (rw j at h) in
        record {
          before = [];
          behind = ls;
          whole = ap (λ (f : Pair × X). f ∷ ls) (λ n. (sym i n, is n));
          moved = rw j refl;
          none = refl;
        }
    by (Not i j) rest =
        let r = rest (rw j at h) in
        record {
          before = e ∷ r.before;
          behind = r.behind;
          whole = ap (λ (es : List (Pair × X)). e ∷ es) r.whole;
          moved = rw j (ap (λ (es : List (Pair × X)). e ∷ es) r.moved);
          none = rw j r.none;
        }

module _ {X : Type 0} where
  -- one link, after a value was put last on one
  pub on_put_same : (k : Pair) (x : X) (ls : List (Pair × X)) → on_link (put_last k x ls) k ≡ on_link ls k ++ x ∷ []
  on_put_same k x ls = under-append (is_link k.0 k.1) ls ((k, x) ∷ []) ∙ rw (itself k) refl

  pub on_put_other : (j k : Pair) (x : X) (ls : List (Pair × X)) → j ≢ k → on_link (put_last k x ls) j ≡ on_link ls j
  on_put_other j k x ls n = under-append (is_link j.0 j.1) ls ((k, x) ∷ []) ∙ by (same j k)
    where
      by : Same j k → on_link ls j ++ on_link ((k, x) ∷ []) j ≡ on_link ls j
      by (Is i e) = absurd (n i)
      by (Not i e) = rw e (append-nil (on_link ls j))

  -- one link, after the head of one left it
  pub on_moved_same : (k : Pair) (x : X) (ls : List (Pair × X)) → first_of (on_link ls k) ≡ Some x → on_link ls k ≡ x ∷ on_link (move_head k ls) k
  on_moved_same k x [] h = absurd (cc)
  on_moved_same k x (e ∷ ls) h = by (same k e.0) (on_moved_same k x ls)
    where
      by : Same k e.0 → (first_of (on_link ls k) ≡ Some x → on_link ls k ≡ x ∷ on_link (move_head k ls) k) → on_link (e ∷ ls) k ≡ x ∷ on_link (move_head k (e ∷ ls)) k
      by (Is i j) rest = let is : e.1 ≡ x = same_some (rw j at h) in rw (j, is) refl
      by (Not i j) rest = rw (j, j) (rest (rw j at h))

  pub on_moved_other : (j k : Pair) (ls : List (Pair × X)) → j ≢ k → on_link (move_head k ls) j ≡ on_link ls j
  on_moved_other j k [] n = refl
  on_moved_other j k (e ∷ ls) n = by (same k e.0) (on_moved_other j k ls n)
    where
      by : Same k e.0 → on_link (move_head k ls) j ≡ on_link ls j → on_link (move_head k (e ∷ ls)) j ≡ on_link (e ∷ ls) j
      by (Is i m) rest = rw m (other (same j e.0))
        where
          other : Same j e.0 → on_link ls j ≡ on_link (e ∷ ls) j
          other (Is a b) = absurd (n (a ∙ sym i))
          other (Not a b) = rw b refl
      by (Not i m) rest = rw m (under_both (is_link j.0 j.1 e.0) refl)
        where
          under_both : (b : Bool) → is_link j.0 j.1 e.0 ≡ b → on_link (e ∷ move_head k ls) j ≡ on_link (e ∷ ls) j
          under_both true q = rw q (ap (λ xs. e.1 ∷ xs) rest)
          under_both false q = rw q rest
