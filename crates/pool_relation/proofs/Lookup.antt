-- Objects and messages of a configuration after an update of one entry.
use Rattle.std.proofs.Common.{◌≡◌, refl, sym, ap, ◌∙◌, subst, IsTrue, ℕ, List, [], ◌∷◌, Some, None, Bool, true, false, not, ◌≢◌, cond, arith}
use Rattle.std.specs.Option.{unwrap_or}
use Rattle.std.specs.Ordering.{nat_cmp, eq_by_cmp, is_eq, ordering_then}
use Rattle.std.specs.declared.cmp.Ordering.{Ordering}
use Rattle.std.specs.declared.cmp.Ordering.TheVariants.{Less, Equal, Greater}
use Rattle.std.specs.Cmp.{nat_cmp_total, tied_itself, alike_right}
use Rattle.std.specs.FinMap.Entries.{find, put, where_key, is_sorted, by_order, find-put, is_sorted-put, find-where_key, is_sorted-where_key}
use Rattle.std.specs.FinMap.{nat_cmp-IsAntisymmetric}
use Rattle.pool_relation.specs.Action.{Object}
use Rattle.run_types.specs.Tables.{Pair, pair_cmp, has_some, no_entry_empty}
use Rattle.run_types.specs.Message.{Message}
use Rattle.pool_relation.specs.Configuration.{Configuration, object_of, put_object, messages_of, put_messages}
use Rattle.run_types.proofs.Laws.{first, second, both, T_true, true_T, pair_total}

-- the object of each name after one was put: the new one, or as before
pub data Put (c : Configuration) (o : ℕ) (y : Object) (q : ℕ) : Type 0 where
  New : q ≡ o → object_of (put_object c o y) q ≡ Some y → Put c o y q
  Old : q ≢ o → object_of (put_object c o y) q ≡ object_of c q → Put c o y q

not_less : (q : ℕ) (r : Ordering) → nat_cmp q q ≡ r → r ≡ Equal
not_less q r e = sym e ∙ equal_by (nat_cmp q q) (tied_itself nat_cmp_total q)
  where
    equal_by : (s : Ordering) → s ≡ Equal → s ≡ Equal
    equal_by s i = i

pub put_cases : (c : Configuration) (o : ℕ) (y : Object) (q : ℕ) → Put c o y q
put_cases c o y q = by (nat_cmp q o) refl
  where
    apart : (r : Ordering) → nat_cmp q o ≡ r → ¬ (r ≡ Equal) → q ≢ o
    apart r e n s = n (not_less q r (subst (λ (k : ℕ). nat_cmp q k ≡ r) (sym s) e))

    by : (r : Ordering) → nat_cmp q o ≡ r → Put c o y q
    by Less e = Old (apart Less e (λ h. absurd (grind (arith, h)))) (find-put nat_cmp nat_cmp_total q o y c.objects ∙ rw e refl)
    by Equal e = New (nat_cmp-IsAntisymmetric q o e) (find-put nat_cmp nat_cmp_total q o y c.objects ∙ rw e refl)
    by Greater e = Old (apart Greater e (λ h. absurd (grind (arith, h)))) (find-put nat_cmp nat_cmp_total q o y c.objects ∙ rw e refl)

pub objects_in_order : (c : Configuration) (o : ℕ) (y : Object) → IsTrue (is_sorted nat_cmp c.objects)
    → IsTrue (is_sorted nat_cmp (put_object c o y).objects)
objects_in_order c o y h = T_true _ (is_sorted-put nat_cmp nat_cmp_total o y c.objects (true_T _ h))

-- pairs that tie are equal
pair_same : (s r s' r' : ℕ) → pair_cmp (s', r') (s, r) ≡ Equal → (s' ≡ s) × (r' ≡ r)
pair_same s r s' r' e = by (nat_cmp s' s) refl e
  where
    by : (a : Ordering) → nat_cmp s' s ≡ a → ordering_then a (nat_cmp r' r) ≡ Equal → (s' ≡ s) × (r' ≡ r)
    by Less i h = absurd (grind (arith, h))
    by Equal i h = (nat_cmp-IsAntisymmetric s' s i, nat_cmp-IsAntisymmetric r' r h)
    by Greater i h = absurd (grind (arith, h))

-- the messages of each pair after those of one were put
pub data PutMessages (c : Configuration) (s r : ℕ) (ms : List Message) (s' r' : ℕ) : Type 0 where
  NewMessages : s' ≡ s → r' ≡ r → messages_of (put_messages c s r ms) s' r' ≡ ms → PutMessages c s r ms s' r'
  OldMessages : messages_of (put_messages c s r ms) s' r' ≡ messages_of c s' r' → PutMessages c s r ms s' r'

pub put_messages_cases : (c : Configuration) (s r : ℕ) (ms : List Message) (s' r' : ℕ) → PutMessages c s r ms s' r'
put_messages_cases c s r [] s' r' = by (pair_cmp (s, r) (s', r')) refl
  where
    kept : (x : Pair) → pair_cmp (s', r') x ≡ Equal → not (eq_by_cmp pair_cmp (s, r) x) ≡ not (eq_by_cmp pair_cmp (s, r) (s', r'))
    kept x e = ap (λ o. not (is_eq o)) (sym (alike_right pair_total (s', r') x (s, r) e))

    there : find pair_cmp (s', r') (put_messages c s r []).messages ≡ cond (not (eq_by_cmp pair_cmp (s, r) (s', r'))) (find pair_cmp (s', r') c.messages) None
    there = find-where_key pair_cmp (λ x. not (eq_by_cmp pair_cmp (s, r) x)) (s', r') kept c.messages

    old : (o : Ordering) → pair_cmp (s, r) (s', r') ≡ o → is_eq o ≡ false → PutMessages c s r [] s' r'
    old o e n =
        let f : find pair_cmp (s', r') (put_messages c s r []).messages ≡ find pair_cmp (s', r') c.messages = there ∙ ap (λ b. cond (not (is_eq b)) (find pair_cmp (s', r') c.messages) None) e ∙ rw n refl in
        OldMessages (ap (λ a. unwrap_or a []) f)

    by : (o : Ordering) → pair_cmp (s, r) (s', r') ≡ o → PutMessages c s r [] s' r'
    by Less e = old Less e refl
    by Equal e =
        let same = pair_same s' r' s r e in
        let f : find pair_cmp (s', r') (put_messages c s r []).messages ≡ None = there ∙ ap (λ b. cond (not (is_eq b)) (find pair_cmp (s', r') c.messages) None) e in
        NewMessages (sym same.0) (sym same.1) (ap (λ a. unwrap_or a []) f)
    by Greater e = old Greater e refl
put_messages_cases c s r (m ∷ ms) s' r' = by (pair_cmp (s', r') (s, r)) refl
  where
    there : find pair_cmp (s', r') (put_messages c s r (m ∷ ms)).messages ≡ cond (eq_by_cmp pair_cmp (s', r') (s, r)) (Some (m ∷ ms)) (find pair_cmp (s', r') c.messages)
    there = find-put pair_cmp pair_total (s', r') (s, r) (m ∷ ms) c.messages

    old : (o : Ordering) → pair_cmp (s', r') (s, r) ≡ o → is_eq o ≡ false → PutMessages c s r (m ∷ ms) s' r'
    old o e n =
        let f : find pair_cmp (s', r') (put_messages c s r (m ∷ ms)).messages ≡ find pair_cmp (s', r') c.messages = there ∙ ap (λ b. cond (is_eq b) (Some (m ∷ ms)) (find pair_cmp (s', r') c.messages)) e ∙ rw n refl in
        OldMessages (ap (λ a. unwrap_or a []) f)

    by : (o : Ordering) → pair_cmp (s', r') (s, r) ≡ o → PutMessages c s r (m ∷ ms) s' r'
    by Less e = old Less e refl
    by Equal e =
        let same = pair_same s r s' r' e in
        let f : find pair_cmp (s', r') (put_messages c s r (m ∷ ms)).messages ≡ Some (m ∷ ms) = there ∙ ap (λ b. cond (is_eq b) (Some (m ∷ ms)) (find pair_cmp (s', r') c.messages)) e in
        NewMessages same.0 same.1 (ap (λ a. unwrap_or a []) f)
    by Greater e = old Greater e refl

no_empty_put : (k : Pair) (x : Message) (xs : List Message) (es : List (Pair × List Message)) → IsTrue (no_entry_empty es)
    → IsTrue (no_entry_empty (put pair_cmp k (x ∷ xs) es))
no_empty_put k x xs [] h = refl
no_empty_put k x xs (e ∷ es) h = by (pair_cmp k e.0) (no_empty_put k x xs es (second (has_some e.1) _ h))
  where
    by : (r : Ordering) → IsTrue (no_entry_empty (put pair_cmp k (x ∷ xs) es))
        → IsTrue (no_entry_empty (by_order r ((k, x ∷ xs) ∷ e ∷ es) ((e.0, x ∷ xs) ∷ es) (e ∷ put pair_cmp k (x ∷ xs) es)))
    by Less rest = h
    by Equal rest = second (has_some e.1) _ h
    by Greater rest = both _ _ (first (has_some e.1) _ h) rest

no_empty_where : (p : Pair → Bool) (es : List (Pair × List Message)) → IsTrue (no_entry_empty es)
    → IsTrue (no_entry_empty (where_key pair_cmp p es))
no_empty_where p [] h = refl
no_empty_where p (e ∷ es) h = by (p e.0) (no_empty_where p es (second (has_some e.1) _ h))
  where
    by : (b : Bool) → IsTrue (no_entry_empty (where_key pair_cmp p es))
        → IsTrue (no_entry_empty (cond b (e ∷ where_key pair_cmp p es) (where_key pair_cmp p es)))
    by true rest = both _ _ (first (has_some e.1) _ h) rest
    by false rest = rest

pub no_empty_messages : (c : Configuration) (s r : ℕ) (ms : List Message) → IsTrue (no_entry_empty c.messages)
    → IsTrue (no_entry_empty (put_messages c s r ms).messages)
no_empty_messages c s r [] h = no_empty_where (λ x. not (eq_by_cmp pair_cmp (s, r) x)) c.messages h
no_empty_messages c s r (m ∷ ms) h = no_empty_put (s, r) m ms c.messages h

pub messages_in_order : (c : Configuration) (s r : ℕ) (ms : List Message) → IsTrue (is_sorted pair_cmp c.messages)
    → IsTrue (is_sorted pair_cmp (put_messages c s r ms).messages)
messages_in_order c s r [] h = T_true _ (is_sorted-where_key pair_cmp (λ x. not (eq_by_cmp pair_cmp (s, r) x)) c.messages (true_T _ h))
messages_in_order c s r (m ∷ ms) h = T_true _ (is_sorted-put pair_cmp pair_total (s, r) (m ∷ ms) c.messages (true_T _ h))
