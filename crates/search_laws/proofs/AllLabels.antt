-- Each possible label that names a new object in order is one of the labels to try.
use Rattle.std.proofs.Common.{◌≡◌, inl, inr, refl, sym, ap, ◌∙◌, subst, IsTrue, ℕ, zero, suc, ◌+◌, List, [], ◌∷◌, ◌++◌, Option, Some, None, is_some, is_none, Bool, true, false, ◌&&◌, ◌==◌, cond, slice_get, arith}
use Rattle.std.specs.Option.{unwrap_or}
use Rattle.std.specs.Ordering.{nat_cmp, is_eq}
use Rattle.std.specs.declared.cmp.Ordering.{Ordering}
use Rattle.std.specs.declared.cmp.Ordering.TheVariants.{Less, Equal, Greater}
use Rattle.std.specs.FinMap.{nat_cmp-IsAntisymmetric}
use Rattle.std.specs.FinMap.Entries.{find}
use Rattle.run_types.specs.declared.types.Value.{Value}
use Rattle.run_types.specs.declared.types.Item.{Item}
use Rattle.run_types.specs.declared.types.Error.{Error}
use Rattle.run_types.specs.declared.types.NameId.{NameId}
use Rattle.pool_syntax.specs.declared.tree.Named.{Named}
use Rattle.run_types.specs.declared.types.Label.{Label}
use Rattle.run_types.specs.declared.types.Label.TheVariants as L
use Rattle.pool_syntax.specs.Terms.{Statements, ProgramTree}
use Rattle.run_types.specs.Message.{Message}
use Rattle.run_types.specs.Same.{are_same}
use Rattle.run_types.specs.Tables.{Pair, pair_cmp}
use Rattle.run_types.proofs.Laws.{first, second, equal, given_by, required, same_some, same_value, same_values, same_error, one_pair}
use Rattle.pool_relation.specs.Reducible.{Choice}
use Rattle.pool_relation.specs.Action as A
use Rattle.pool_relation.specs.Action.{Object, Action, action}
use Rattle.pool_relation.specs.Configuration.{Configuration, object_of, messages_of}
use Rattle.pool_relation.specs.Transition.{running, local_step, makes, calls, posts, returns, waits_on, writes, fails, picked, plain_choice, offer, names_method, first_message, transition}
use Rattle.pool_relation.proofs.Laws.{running_is}
use Rattle.reachability.specs.Search.{names_next, IsAtEnd}
use Rattle.reachability.specs.Labels.{IsAmong, picks, own_labels, object_labels, takes, message_labels, labels_to_try}
use Rattle.search_laws.proofs.OneLabel.{same_item}
use Rattle.search_laws.proofs.NextName.{at_end_by_next}

pub in_front : (l : Label) (ks ls : List Label) → IsAmong l ks → IsAmong l (ks ++ ls)
in_front l [] ls i = absurd i
in_front l (k ∷ ks) ls (inl e) = inl e
in_front l (k ∷ ks) ls (inr i) = inr (in_front l ks ls i)

pub behind : (l : Label) (ks ls : List Label) → IsAmong l ls → IsAmong l (ks ++ ls)
behind l [] ls i = i
behind l (k ∷ ks) ls i = inr (behind l ks ls i)

-- of an object that is there
of_object : (p : ProgramTree) (n o : ℕ) (x : Object) (l : Label) (es : List (ℕ × Object)) → find nat_cmp o es ≡ Some x → IsAmong l (own_labels n o (action p o x)) → IsAmong l (object_labels p n es)
of_object p n o x l [] e i = absurd (cc)
of_object p n o x l (k ∷ es) e i = by (nat_cmp o k.0) refl e (λ h. of_object p n o x l es h i)
  where
    by : (r : Ordering) → nat_cmp o k.0 ≡ r → cond (is_eq (nat_cmp o k.0)) (Some k.1) (find nat_cmp o es) ≡ Some x → (find nat_cmp o es ≡ Some x → IsAmong l (object_labels p n es))
        → IsAmong l (own_labels n k.0 (action p k.0 k.1) ++ object_labels p n es)
    by Less j h rest = behind l (own_labels n k.0 (action p k.0 k.1)) (object_labels p n es) (rest (sym (ap (λ r. cond (is_eq r) (Some k.1) (find nat_cmp o es)) j) ∙ h))
    by Greater j h rest = behind l (own_labels n k.0 (action p k.0 k.1)) (object_labels p n es) (rest (sym (ap (λ r. cond (is_eq r) (Some k.1) (find nat_cmp o es)) j) ∙ h))
    by Equal j h rest =
        let at : o ≡ k.0 = nat_cmp-IsAntisymmetric o k.0 j in
        let is : k.1 ≡ x = same_some (sym (ap (λ r. cond (is_eq r) (Some k.1) (find nat_cmp o es)) j) ∙ h) in
        in_front l (own_labels n k.0 (action p k.0 k.1)) (object_labels p n es)
        (subst (λ (q : ℕ). IsAmong l (own_labels n q (action p q k.1))) at (subst (λ (z : Object). IsAmong l (own_labels n o (action p o z))) (sym is) i))

-- of a message that is there
of_message : (k : Pair) (l : Label) (es : List (Pair × List Message)) → IsAmong l (takes k (unwrap_or (find pair_cmp k es) [])) → IsAmong l (message_labels es)
of_message k l [] i = i
of_message k l (e ∷ es) i = by (pair_cmp k e.0) refl (of_message k l es) i
  where
    by : (r : Ordering) → pair_cmp k e.0 ≡ r → (IsAmong l (takes k (unwrap_or (find pair_cmp k es) [])) → IsAmong l (message_labels es))
        → IsAmong l (takes k (unwrap_or (cond (is_eq (pair_cmp k e.0)) (Some e.1) (find pair_cmp k es)) [])) → IsAmong l (takes e.0 e.1 ++ message_labels es)
    by Less j rest h = behind l (takes e.0 e.1) (message_labels es) (rest (subst (λ (r : Ordering). IsAmong l (takes k (unwrap_or (cond (is_eq r) (Some e.1) (find pair_cmp k es)) []))) j h))
    by Greater j rest h = behind l (takes e.0 e.1) (message_labels es) (rest (subst (λ (r : Ordering). IsAmong l (takes k (unwrap_or (cond (is_eq r) (Some e.1) (find pair_cmp k es)) []))) j h))
    by Equal j rest h =
        let here : IsAmong l (takes k e.1) = subst (λ (r : Ordering). IsAmong l (takes k (unwrap_or (cond (is_eq r) (Some e.1) (find pair_cmp k es)) []))) j h in
        in_front l (takes e.0 e.1) (message_labels es) (subst (λ (q : Pair). IsAmong l (takes q e.1)) (one_pair k e.0 j) here)

first_taken : (k : Pair) (names : List Named) (ms : List Message) (m : Message) → first_message names ms ≡ Some m → IsAmong (L.Take k.1 k.0 (record { 0 = m.method }) m.args) (takes k ms)
first_taken k names [] m e = absurd (cc)
first_taken k names (f ∷ ms) m e = by (names_method names f.method) refl e (first_taken k names ms m)
  where
    by : (b : Bool) → names_method names f.method ≡ b → first_message names (f ∷ ms) ≡ Some m → (first_message names ms ≡ Some m → IsAmong (L.Take k.1 k.0 (record { 0 = m.method }) m.args) (takes k ms))
        → IsAmong (L.Take k.1 k.0 (record { 0 = m.method }) m.args) (takes k (f ∷ ms))
    by true i h rest = let is : f ≡ m = same_some (rw i at h) in inl (ap (λ (z : Message). L.Take k.1 k.0 (record { 0 = z.method }) z.args) is)
    by false i h rest = inr (rest (rw i at h))

-- what each test says of the action

local_among : (x y : Object) (n o : ℕ) (a : Action) → local_step x a ≡ Some y → IsAmong (L.Local o) (own_labels n o a)
local_among x y n o (A.Local term vars) h = inl refl
local_among x y n o _ h = absurd (cc)

new_among : (n o : ℕ) (k : NameId) (a : Action) → makes a k.0 ≡ true → IsAmong (L.New o n k) (own_labels n o a)
new_among n o k (A.New c) h = inl (ap (λ (z : ℕ). L.New o n (record { 0 = z })) (equal c k.0 h))
new_among n o k _ h = absurd (cc)

call_among : (n o b : ℕ) (m : NameId) (args : List Value) (a : Action) → calls a b m.0 args ≡ true → IsAmong (L.Answer b o m args) (own_labels n o a)
call_among n o b m args (A.Send r k values) h =
    let both : IsTrue (r == b && k == m.0) = first (r == b && k == m.0) (are_same values args) h in
    inl (ap (λ z. L.Answer z o (record { 0 = k }) values) (equal r b (first (r == b) (k == m.0) both))
    ∙ ap (λ (z : ℕ). L.Answer b o (record { 0 = z }) values) (equal k m.0 (second (r == b) (k == m.0) both))
    ∙ ap (L.Answer b o m) (same_values values args (second (r == b && k == m.0) (are_same values args) h)))
call_among n o b m args _ h = absurd (cc)

post_among : (n o b : ℕ) (m : NameId) (args : List Value) (a : Action) → posts a b m.0 args ≡ true → IsAmong (L.Send o b m args) (own_labels n o a)
post_among n o b m args (A.Async r k values) h =
    let both : IsTrue (r == b && k == m.0) = first (r == b && k == m.0) (are_same values args) h in
    inl (ap (λ z. L.Send o z (record { 0 = k }) values) (equal r b (first (r == b) (k == m.0) both))
    ∙ ap (λ (z : ℕ). L.Send o b (record { 0 = z }) values) (equal k m.0 (second (r == b) (k == m.0) both))
    ∙ ap (L.Send o b m) (same_values values args (second (r == b && k == m.0) (are_same values args) h)))
post_among n o b m args _ h = absurd (cc)

return_among : (n b o : ℕ) (v : Value) (a : Action) → returns a o v ≡ true → IsAmong (L.Return b o v) (own_labels n b a)
return_among n b o v (A.Return k w) h =
    inl (ap (λ z. L.Return b z w) (equal k o (first _ _ h)) ∙ ap (L.Return b o) (same_value w v (second (k == o) _ h)))
return_among n b o v _ h = absurd (cc)

write_among : (n o : ℕ) (j : Item) (a : Action) → writes a j ≡ true → IsAmong (L.Write o j) (own_labels n o a)
write_among n o j (A.Write i) h = inl (ap (L.Write o) (same_item i j h))
write_among n o j _ h = absurd (cc)

fault_among : (n o : ℕ) (e : Error) (a : Action) → fails a e ≡ true → IsAmong (L.Fault o e) (own_labels n o a)
fault_among n o e (A.Fault d) h = inl (ap (L.Fault o) (same_error d e h))
fault_among n o e _ h = absurd (cc)

pick_at : (o k i : ℕ) (cs : List Choice) → is_some (slice_get cs i) ≡ true → IsAmong (L.Pick o (k + i)) (picks o k cs)
pick_at o k i [] h = absurd (cc)
pick_at o k zero (c ∷ cs) h = let e : k ≡ k + 0 = omega arith in inl (ap (L.Pick o) e)
pick_at o k (suc i) (c ∷ cs) h =
    let e : suc k + i ≡ k + suc i = omega arith in
    inr (subst (λ (j : ℕ). IsAmong (L.Pick o j) (picks o (suc k) cs)) e (pick_at o (suc k) i cs h))

pick_among : (n o i : ℕ) (work : Statements) (a : Action) → picked a i ≡ Some work → IsAmong (L.Pick o i) (own_labels n o a)
pick_among n o zero work (A.Select cs) h = absurd (cc)
pick_among n o (suc i) work (A.Select cs) h =
    let e : 1 + i ≡ suc i = omega arith in
    subst (λ (j : ℕ). IsAmong (L.Pick o j) (picks o 1 cs)) e (pick_at o 1 i cs (there (slice_get cs i) h))
  where
    there : (c : Option Choice) → plain_choice c ≡ Some work → is_some c ≡ true
    there None e = absurd (cc)
    there (Some c) e = refl
pick_among n o i work _ h = absurd (cc)

pub all_labels : (p : ProgramTree) (c d : Configuration) (n : ℕ) (l : Label) → names_next n l ≡ true → transition p c l ≡ Some d → IsAmong l (labels_to_try p n c)
all_labels p c d n l s t = by l s t
  where
    of : (o : ℕ) (x : Object) (l : Label) → running c o ≡ Some x → IsAmong l (own_labels n o (action p o x)) → IsAmong l (labels_to_try p n c)
    of o x l r i = in_front l (object_labels p n c.objects) (message_labels c.messages) (of_object p n o x l c.objects (running_is c o x r).0 i)

    by : (l : Label) → names_next n l ≡ true → transition p c l ≡ Some d → IsAmong l (labels_to_try p n c)
    by (L.Local o) s t =
        let x = given_by (running c o) _ d t in
        let y = given_by (local_step x.0 (action p o x.0)) _ d x.2 in
        of o x.0 (L.Local o) x.1 (local_among x.0 y.0 n o (action p o x.0) y.1)
    by (L.New o m k) s t =
        let x = given_by (running c o) _ d t in
        let w = required (makes (action p o x.0) k.0 && is_none (object_of c m)) _ d x.2 in
        subst (λ (z : ℕ). IsAmong (L.New o z k) (labels_to_try p n c)) (sym (equal m n s))
        (of o x.0 (L.New o n k) x.1 (new_among n o k (action p o x.0) (first (makes (action p o x.0) k.0) (is_none (object_of c m)) w.0)))
    by (L.Answer b o m args) s t =
        let x = given_by (running c o) _ d t in
        let y = given_by (running c b) _ d x.2 in
        let w = required (calls (action p o x.0) b m.0 args) _ d y.2 in
        of o x.0 (L.Answer b o m args) x.1 (call_among n o b m args (action p o x.0) w.0)
    by (L.Return b o v) s t =
        let y = given_by (running c b) _ d t in
        let x = given_by (running c o) _ d y.2 in
        let w = required (returns (action p b y.0) o v && waits_on (action p o x.0) b) _ d x.2 in
        of b y.0 (L.Return b o v) y.1 (return_among n b o v (action p b y.0) (first (returns (action p b y.0) o v) (waits_on (action p o x.0) b) w.0))
    by (L.Send o b m args) s t =
        let x = given_by (running c o) _ d t in
        let w = required (posts (action p o x.0) b m.0 args && is_some (object_of c b)) _ d x.2 in
        of o x.0 (L.Send o b m args) x.1 (post_among n o b m args (action p o x.0) (first (posts (action p o x.0) b m.0 args) (is_some (object_of c b)) w.0))
    by (L.Take b r m args) s t =
        let y = given_by (running c b) _ d t in
        let v = given_by (offer (action p b y.0) m.0) _ d y.2 in
        let f = given_by (first_message v.0.names (messages_of c r b)) _ d v.2 in
        let w = required (f.0.method == m.0 && are_same f.0.args args) _ d f.2 in
        let method : f.0.method ≡ m.0 = equal f.0.method m.0 (first (f.0.method == m.0) (are_same f.0.args args) w.0) in
        let values : f.0.args ≡ args = same_values f.0.args args (second (f.0.method == m.0) (are_same f.0.args args) w.0) in
        let here = first_taken (r, b) v.0.names (messages_of c r b) f.0 f.1 in
        behind (L.Take b r m args) (object_labels p n c.objects) (message_labels c.messages)
        (of_message (r, b) (L.Take b r m args) c.messages
        (subst (λ (z : Label). IsAmong z (takes (r, b) (messages_of c r b)))
        (ap (λ (z : ℕ). L.Take b r (record { 0 = z }) f.0.args) method ∙ ap (L.Take b r m) values) here))
    by (L.Write o item) s t =
        let x = given_by (running c o) _ d t in
        let w = required (writes (action p o x.0) item) _ d x.2 in
        of o x.0 (L.Write o item) x.1 (write_among n o item (action p o x.0) w.0)
    by (L.Pick o i) s t =
        let x = given_by (running c o) _ d t in
        let w = given_by (picked (action p o x.0) i) _ d x.2 in
        of o x.0 (L.Pick o i) x.1 (pick_among n o i w.0 (action p o x.0) w.1)
    by (L.Fault o e) s t =
        let x = given_by (running c o) _ d t in
        let w = required (fails (action p o x.0) e) _ d x.2 in
        of o x.0 (L.Fault o e) x.1 (fault_among n o e (action p o x.0) w.0)

-- none of a list is possible
abbrev pub NonePossible : ProgramTree → Configuration → List Label → Type 0
NonePossible p c [] = Unit {0}
NonePossible p c (l ∷ ls) = (transition p c l ≡ None) × NonePossible p c ls

pub not_among : (p : ProgramTree) (c d : Configuration) (l : Label) (ls : List Label) → NonePossible p c ls → transition p c l ≡ Some d → ¬ (IsAmong l ls)
not_among p c d l [] none t i = absurd i
not_among p c d l (k ∷ ls) none t (inl e) = absurd (let z : None ≡ Some d = sym none.0 ∙ ap (transition p c) e ∙ t in cc)
not_among p c d l (k ∷ ls) none t (inr i) = not_among p c d l ls none.1 t i

-- where none of those to try is possible, none is
pub at_end_by_trying : (p : ProgramTree) (c : Configuration) (n : ℕ) → object_of c n ≡ None → NonePossible p c (labels_to_try p n c) → IsAtEnd p c
at_end_by_trying p c n unused none = at_end_by_next p c n unused (λ l s. by l s (transition p c l) refl)
  where
    by : (l : Label) → names_next n l ≡ true → (t : Option Configuration) → transition p c l ≡ t → t ≡ None
    by l s None e = refl
    by l s (Some d) e = absurd (not_among p c d l (labels_to_try p n c) none e (all_labels p c d n l s e))
