-- Updates of objects and of messages commute.
use Rattle.std.proofs.Common.{◌≡◌, ◌≢◌, refl, sym, ap, ◌∙◌, subst, ℕ, List, [], ◌∷◌, Option, Some, None, is_some, true, false, not, cond}
use Rattle.std.specs.Ordering.{nat_cmp, eq_by_cmp, is_eq}
use Rattle.std.specs.declared.cmp.Ordering.TheVariants.{Less, Equal, Greater}
use Rattle.std.specs.declared.cmp.Ordering.{Ordering}
use Rattle.std.specs.Cmp.{nat_cmp_total, tied_itself, alike_right}
use Rattle.std.specs.FinMap.{nat_cmp-IsAntisymmetric}
use Rattle.std.specs.FinMap.Entries.{find, put, same_entries, find-put, find-where_key}
use Rattle.run_types.specs.Message.{Message}
use Rattle.run_types.specs.Tables.{Pair, pair_cmp, put_list}
use Rattle.run_types.proofs.Laws.{true_T, pair_total, one_pair}
use Rattle.pool_relation.specs.Action.{Object}
use Rattle.pool_relation.specs.Configuration.{Configuration, object_of, put_object, put_messages}
use Rattle.reachability.specs.Search.{IsInOrder}
use Rattle.pool_relation.proofs.Laws.{Put, New, Old, put_cases, objects_in_order, messages_in_order}

pub sorted_put : (c : Configuration) (o : ℕ) (y : Object) → IsInOrder c → IsInOrder (put_object c o y)
sorted_put c o y s = (objects_in_order c o y s.0, s.1)

pub sorted_messages : (c : Configuration) (s r : ℕ) (ms : List Message) → IsInOrder c → IsInOrder (put_messages c s r ms)
sorted_messages c s r ms i = (i.0, messages_in_order c s r ms i.1)

pub at_another : (c : Configuration) (o q : ℕ) (y : Object) → q ≢ o → object_of (put_object c o y) q ≡ object_of c q
at_another c o q y n = by (put_cases c o y q)
  where
    by : Put c o y q → object_of (put_object c o y) q ≡ object_of c q
    by (New e i) = absurd (n e)
    by (Old m i) = i

pub at_itself : (c : Configuration) (o : ℕ) (y : Object) → object_of (put_object c o y) o ≡ Some y
at_itself c o y = by (put_cases c o y o)
  where
    by : Put c o y o → object_of (put_object c o y) o ≡ Some y
    by (New e i) = i
    by (Old m i) = absurd (m refl)

-- the same objects are there where one that is there changes
pub still_there : (c : Configuration) (o : ℕ) (y : Object) → is_some (object_of c o) ≡ true → (q : ℕ) → is_some (object_of (put_object c o y) q) ≡ is_some (object_of c q)
still_there c o y t q = by (put_cases c o y q)
  where
    by : Put c o y q → is_some (object_of (put_object c o y) q) ≡ is_some (object_of c q)
    by (New e i) = ap is_some i ∙ sym (ap (λ r. is_some (object_of c r)) e ∙ t)
    by (Old n i) = ap is_some i

-- two objects put in either order
pub either_order : (c : Configuration) (o q : ℕ) (y z : Object) → IsInOrder c → q ≢ o → put_object (put_object c o y) q z ≡ put_object (put_object c q z) o y
either_order c o q y z s n =
    ap (λ es. record c { objects = es })
    (same_entries nat_cmp nat_cmp_total (λ a b e. nat_cmp-IsAntisymmetric a b e) (put nat_cmp q z (put nat_cmp o y c.objects)) (put nat_cmp o y (put nat_cmp q z c.objects))
    (true_T _ (objects_in_order (put_object c o y) q z (objects_in_order c o y s.0))) (true_T _ (objects_in_order (put_object c q z) o y (objects_in_order c q z s.0)))
    (λ r. by r (put_cases (put_object c o y) q z r) (put_cases c o y r) (put_cases (put_object c q z) o y r) (put_cases c q z r)))
  where
    by : (r : ℕ) → Put (put_object c o y) q z r → Put c o y r → Put (put_object c q z) o y r → Put c q z r
        → object_of (put_object (put_object c o y) q z) r ≡ object_of (put_object (put_object c q z) o y) r
    by r (New e i) b (New g j) d = absurd (n (sym e ∙ g))
    by r (New e i) b (Old m j) (New f k) = i ∙ sym (j ∙ k)
    by r (New e i) b (Old m j) (Old l k) = absurd (l e)
    by r (Old m i) (New e k) (New g j) d = i ∙ k ∙ sym j
    by r (Old m i) (Old l k) (New g j) d = absurd (l g)
    by r (Old m i) (New e k) (Old l j) d = absurd (l e)
    by r (Old m i) (Old l k) (Old h j) (New g f) = absurd (m g)
    by r (Old m i) (Old l k) (Old h j) (Old g f) = i ∙ k ∙ sym (j ∙ f)

-- the entry of a pair: none where it has no messages
abbrev pub entry : List Message → Option (List Message)
entry [] = None
entry (m ∷ ms) = Some (m ∷ ms)

apart : (a b : Pair) → a ≢ b → eq_by_cmp pair_cmp a b ≡ false
apart a b n = by (pair_cmp a b) refl
  where
    by : (r : Ordering) → pair_cmp a b ≡ r → is_eq (pair_cmp a b) ≡ false
    by Less e = ap is_eq e
    by Equal e = absurd (n (one_pair a b e))
    by Greater e = ap is_eq e

tied : (a : Pair) → eq_by_cmp pair_cmp a a ≡ true
tied a = ap is_eq (tied_itself pair_total a)

-- what is found after the messages of a pair were put
data PutAt (k : Pair) (ys : List Message) (es : List (Pair × List Message)) (q : Pair) : Type 0 where
  Here : q ≡ k → find pair_cmp q (put_list pair_cmp k ys es) ≡ entry ys → PutAt k ys es q
  There : q ≢ k → find pair_cmp q (put_list pair_cmp k ys es) ≡ find pair_cmp q es → PutAt k ys es q

put_same : (k : Pair) (ys : List Message) (es : List (Pair × List Message)) → find pair_cmp k (put_list pair_cmp k ys es) ≡ entry ys
put_same k [] es =
    find-where_key pair_cmp (λ x. not (eq_by_cmp pair_cmp k x)) k (λ x e. ap (λ o. not (is_eq o)) (sym (alike_right pair_total k x k e))) es
    ∙ ap (λ b. cond (not b) (find pair_cmp k es) None) (tied k)
put_same k (y ∷ ys) es = find-put pair_cmp pair_total k k (y ∷ ys) es ∙ ap (λ b. cond b (Some (y ∷ ys)) (find pair_cmp k es)) (tied k)

put_other : (q k : Pair) (ys : List Message) (es : List (Pair × List Message)) → q ≢ k → find pair_cmp q (put_list pair_cmp k ys es) ≡ find pair_cmp q es
put_other q k [] es n =
    find-where_key pair_cmp (λ x. not (eq_by_cmp pair_cmp k x)) q (λ x e. ap (λ o. not (is_eq o)) (sym (alike_right pair_total q x k e))) es
    ∙ ap (λ b. cond (not b) (find pair_cmp q es) None) (apart k q (λ e. n (sym e)))
put_other q k (y ∷ ys) es n = find-put pair_cmp pair_total q k (y ∷ ys) es ∙ ap (λ b. cond b (Some (y ∷ ys)) (find pair_cmp q es)) (apart q k n)

put_at : (k : Pair) (ys : List Message) (es : List (Pair × List Message)) (q : Pair) → PutAt k ys es q
put_at k ys es q = by (pair_cmp q k) refl
  where
    differs : (r : Ordering) → pair_cmp q k ≡ r → ¬ (r ≡ Equal) → q ≢ k
    differs r e n i = n (sym e ∙ subst (λ (z : Pair). pair_cmp z k ≡ Equal) (sym i) (tied_itself pair_total k))

    by : (r : Ordering) → pair_cmp q k ≡ r → PutAt k ys es q
    by Equal e = let i = one_pair q k e in Here i (ap (λ z. find pair_cmp z (put_list pair_cmp k ys es)) i ∙ put_same k ys es)
    by Less e = let n = differs Less e (λ h. absurd (cc)) in There n (put_other q k ys es n)
    by Greater e = let n = differs Greater e (λ h. absurd (cc)) in There n (put_other q k ys es n)

-- the messages of two pairs put in either order
pub either_messages : (c : Configuration) (s r s' r' : ℕ) (ms ns : List Message) → IsInOrder c → ¬ ((s' ≡ s) × (r' ≡ r))
    → put_messages (put_messages c s r ms) s' r' ns ≡ put_messages (put_messages c s' r' ns) s r ms
either_messages c s r s' r' ms ns i n =
    ap (λ es. record c { messages = es })
    (same_entries pair_cmp pair_total one_pair (put_list pair_cmp (s', r') ns (put_list pair_cmp (s, r) ms c.messages)) (put_list pair_cmp (s, r) ms (put_list pair_cmp (s', r') ns c.messages))
    (true_T _ (sorted_messages (put_messages c s r ms) s' r' ns (sorted_messages c s r ms i)).1) (true_T _ (sorted_messages (put_messages c s' r' ns) s r ms (sorted_messages c s' r' ns i)).1)
    (λ q. by q (put_at (s', r') ns (put_list pair_cmp (s, r) ms c.messages) q) (put_at (s, r) ms c.messages q)
    (put_at (s, r) ms (put_list pair_cmp (s', r') ns c.messages) q) (put_at (s', r') ns c.messages q)))
  where
    by : (q : Pair) → PutAt (s', r') ns (put_list pair_cmp (s, r) ms c.messages) q → PutAt (s, r) ms c.messages q
        → PutAt (s, r) ms (put_list pair_cmp (s', r') ns c.messages) q → PutAt (s', r') ns c.messages q
        → find pair_cmp q (put_list pair_cmp (s', r') ns (put_list pair_cmp (s, r) ms c.messages)) ≡ find pair_cmp q (put_list pair_cmp (s, r) ms (put_list pair_cmp (s', r') ns c.messages))
    by q (Here e j) b (Here g k) d = absurd (n (let z : (s', r') ≡ (s, r) = sym e ∙ g in (ap (λ (x : Pair). x.0) z, ap (λ (x : Pair). x.1) z)))
    by q (Here e j) b (There m k) (Here f l) = j ∙ sym (k ∙ l)
    by q (Here e j) b (There m k) (There h l) = absurd (h e)
    by q (There m j) (Here e k) (Here g l) d = j ∙ k ∙ sym l
    by q (There m j) (There h k) (Here g l) d = absurd (h g)
    by q (There m j) (Here e k) (There h l) d = absurd (h e)
    by q (There m j) (There h k) (There g l) (Here f o) = absurd (m f)
    by q (There m j) (There h k) (There g l) (There f o) = j ∙ k ∙ sym (l ∙ o)

-- and those of one pair put twice
pub messages_twice : (c : Configuration) (s r : ℕ) (ms ns : List Message) → IsInOrder c → put_messages (put_messages c s r ms) s r ns ≡ put_messages c s r ns
messages_twice c s r ms ns i =
    ap (λ es. record c { messages = es })
    (same_entries pair_cmp pair_total one_pair (put_list pair_cmp (s, r) ns (put_list pair_cmp (s, r) ms c.messages)) (put_list pair_cmp (s, r) ns c.messages)
    (true_T _ (sorted_messages (put_messages c s r ms) s r ns (sorted_messages c s r ms i)).1) (true_T _ (sorted_messages c s r ns i).1)
    (λ q. by q (put_at (s, r) ns (put_list pair_cmp (s, r) ms c.messages) q) (put_at (s, r) ms c.messages q) (put_at (s, r) ns c.messages q)))
  where
    by : (q : Pair) → PutAt (s, r) ns (put_list pair_cmp (s, r) ms c.messages) q → PutAt (s, r) ms c.messages q → PutAt (s, r) ns c.messages q
        → find pair_cmp q (put_list pair_cmp (s, r) ns (put_list pair_cmp (s, r) ms c.messages)) ≡ find pair_cmp q (put_list pair_cmp (s, r) ns c.messages)
    by q (Here e j) b (Here g k) = j ∙ sym k
    by q (Here e j) b (There m k) = absurd (m e)
    by q (There m j) b (Here e k) = absurd (m e)
    by q (There m j) (Here e k) d = absurd (m e)
    by q (There m j) (There h k) (There g l) = j ∙ k ∙ sym l
