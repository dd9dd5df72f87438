-- A configuration that is reached by labels that name new objects in order has no name of an object that is not there.
-- So other names for such objects do not change it.
use Rattle.std.proofs.Common.{◌≡◌, ◌≢◌, ◌≤◌, ◌<◌, refl, sym, ap, ◌∙◌, subst, ℕ, suc, List, [], ◌∷◌, ◌++◌, length, map, option_map, Option, Some, None, is_some, is_none, Bool, true, false, not, ◌&&◌, ◌||◌, ◌==◌, if◌then◌else◌, arith}
use Rattle.run_types.specs.declared.types.Value.{Value}
use Rattle.run_types.specs.declared.types.Value.TheVariants as V
use Rattle.run_types.specs.declared.types.Item.{Item}
use Rattle.run_types.specs.declared.types.Label.{Label}
use Rattle.run_types.specs.declared.types.Label.TheVariants as L
use Rattle.run_types.specs.Message.{Message}
use Rattle.run_types.specs.Partial.{◌>>=◌}
use Rattle.run_types.specs.Same.{are_same}
use Rattle.run_types.specs.Values.{is_same}
use Rattle.run_types.specs.Tables.{has_some}
use Rattle.run_types.proofs.Laws.{equal, first, second, given_by, required, same_some, same_value, same_values}
use Rattle.pool_syntax.specs.Terms.{ProgramTree, ClassTree}
use Rattle.pool_syntax.specs.Classes.{class_of}
use Rattle.pool_syntax.specs.declared.tree.Named.{Named}
use Rattle.pool_relation.specs.Reducible.{AsExpression}
use Rattle.pool_syntax.specs.Terms as T
use Rattle.pool_relation.specs.Action as A
use Rattle.pool_relation.specs.Action.{Object, Action, method_of, action}
use Rattle.pool_relation.specs.Configuration.{Configuration, object_of, put_object, messages_of, put_messages}
use Rattle.pool_relation.specs.Transition.{running, makes, calls, posts, returns, waits_on, writes, fails, picked, local_step, has_message, offer, first_message, without_first, done, refilled, given, new_object, serving, transition, run, start, last_class}
use Rattle.pool_relation.proofs.Laws.{running_is, PutMessages, NewMessages, OldMessages, put_messages_cases}
use Rattle.search_laws.specs.Renamed.{Renaming, renamed_value, renamed_item, renamed_program, renamed_object, renamed_message, renamed_label, IsRenamed, IsNameless}
use Rattle.reachability.specs.Search.{after, names_next, in_order}
use Rattle.search_laws.specs.ClosedBeside.{after_all, IsReachedInOrder}
use Rattle.search_laws.proofs.OneLabel.{same_item}
use Rattle.search_laws.proofs.RenamedAction.{renamed_action, action_renamed}
use Rattle.search_laws.proofs.RenamedTransition.{Alike, Neither, Both, unequal, same_names, first_renamed, transition_renamed}
use Rattle.search_laws.proofs.RenamedRun.{makes_none, Keeps, KeepsAll, Adds, AddsOne, others_keep, new_adds}
use Rattle.search_laws.proofs.NamesInOrder.{swap, swapped, same_all}
use Rattle.search_laws.proofs.SearchCompleteness.{lone, below_start, lone_renamed}
use Rattle.search_laws.proofs.ReducedSearch.{stays, First, first_of}

-- if other names do not change an action, they do not change the values and names in its label
calls_parts : (g : ℕ → ℕ) (a : Action) (b m : ℕ) (args : List Value) → a ≡ renamed_action g a → calls a b m args ≡ true → (g b ≡ b) × (map (renamed_value g) args ≡ args)
calls_parts g (A.Send r n vs) b m args i h =
    let both = first (r == b && n == m) (are_same vs args) h in
    let it : r ≡ b = equal r b (first (r == b) (n == m) both) in
    let values : vs ≡ args = same_values vs args (second (r == b && n == m) (are_same vs args) h) in
    let kept : r ≡ g r = cc in
    let kepts : vs ≡ map (renamed_value g) vs = cc in
    (ap g (sym it) ∙ sym kept ∙ it, ap (map (renamed_value g)) (sym values) ∙ sym kepts ∙ values)
calls_parts g _ b m args i h = absurd (cc)

posts_parts : (g : ℕ → ℕ) (a : Action) (b m : ℕ) (args : List Value) → a ≡ renamed_action g a → posts a b m args ≡ true → (g b ≡ b) × (map (renamed_value g) args ≡ args)
posts_parts g (A.Async r n vs) b m args i h =
    let both = first (r == b && n == m) (are_same vs args) h in
    let it : r ≡ b = equal r b (first (r == b) (n == m) both) in
    let values : vs ≡ args = same_values vs args (second (r == b && n == m) (are_same vs args) h) in
    let kept : r ≡ g r = cc in
    let kepts : vs ≡ map (renamed_value g) vs = cc in
    (ap g (sym it) ∙ sym kept ∙ it, ap (map (renamed_value g)) (sym values) ∙ sym kepts ∙ values)
posts_parts g _ b m args i h = absurd (cc)

returns_parts : (g : ℕ → ℕ) (a : Action) (o : ℕ) (v : Value) → a ≡ renamed_action g a → returns a o v ≡ true → renamed_value g v ≡ v
returns_parts g (A.Return k w) o v i h =
    let it : w ≡ v = same_value w v (second (k == o) (is_same w v) h) in
    let kept : w ≡ renamed_value g w = cc in
    ap (renamed_value g) (sym it) ∙ sym kept ∙ it
returns_parts g _ o v i h = absurd (cc)

writes_parts : (g : ℕ → ℕ) (a : Action) (j : Item) → a ≡ renamed_action g a → writes a j ≡ true → renamed_item g j ≡ j
writes_parts g (A.Write k) j i h =
    let it : k ≡ j = same_item k j h in
    let kept : k ≡ renamed_item g k = cc in
    ap (renamed_item g) (sym it) ∙ sym kept ∙ it
writes_parts g _ j i h = absurd (cc)

-- the names below n are those of the objects that are there, all senders are among them, and other names for the rest
-- do not change c
pub record Known (n : ℕ) (c : Configuration) : Type 0 where
  pub there : (q : ℕ) → is_some (object_of c q) ≡ true → q < n
  pub free : (q : ℕ) → is_some (object_of c q) ≡ false → n ≤ q
  pub senders : (s r : ℕ) → has_some (messages_of c s r) ≡ true → s < n
  pub fixed : (g : Renaming) → ((q : ℕ) → q < n → g.to q ≡ q) → IsRenamed g.to c c

module _ (p : ProgramTree) (less : IsNameless p) (n : ℕ) (c : Configuration) (known : Known n c) where
  present : (o : ℕ) (x : Object) → running c o ≡ Some x → o < n
  present o x r = known.there o (let a = running_is c o x r in ap is_some a.0)

  some_first : (ms : List Message) (names : List Named) (f : Message) → first_message names ms ≡ Some f → has_some ms ≡ true
  some_first [] names f h = absurd (cc)
  some_first (m ∷ ms) names f h = refl

  module _ (g : Renaming) (keeps : (q : ℕ) → q < n → g.to q ≡ q) where
    same : IsRenamed g.to c c
    same = known.fixed g keeps

    object_fixed : (o : ℕ) (x : Object) → running c o ≡ Some x → renamed_object g.to x ≡ x
    object_fixed o x r =
        let a = running_is c o x r in
        let here : object_of c (g.to o) ≡ object_of c o = ap (object_of c) (keeps o (present o x r)) in
        let both : Some x ≡ Some (renamed_object g.to x) = sym a.0 ∙ sym here ∙ same.objects o ∙ ap (option_map (renamed_object g.to)) a.0 in
        sym (same_some both)

    action_fixed : (o : ℕ) (x : Object) → running c o ≡ Some x → action p o x ≡ renamed_action g.to (action p o x)
    action_fixed o x r =
        sym (ap (λ y. action (renamed_program g.to p) (g.to o) y) (object_fixed o x r) ∙ ap (λ k. action (renamed_program g.to p) k x) (keeps o (present o x r)) ∙ ap (λ q. action q o x) (less g.to))
        ∙ action_renamed g.to (same_names g) p o x

    pub label_fixed : (d : Configuration) (l : Label) → ((q : ℕ) → q < after n l → g.to q ≡ q) → names_next n l ≡ true → transition p c l ≡ Some d → renamed_label g.to l ≡ l
    label_fixed d (L.Local o) more i t = let x = given_by (running c o) _ d t in ap L.Local (keeps o (present o x.0 x.1))
    label_fixed d (L.New o m k) more i t =
        let x = given_by (running c o) _ d t in
        let next : m ≡ n = equal m n i in
        ap (λ a. L.New a (g.to m) k) (keeps o (present o x.0 x.1)) ∙ ap (λ a. L.New o a k) (more m (omega arith))
    label_fixed d (L.Answer b o m args) more i t =
        let x = given_by (running c o) _ d t in
        let y = given_by (running c b) _ d x.2 in
        let w = required (calls (action p o x.0) b m.0 args) _ d y.2 in
        let parts = calls_parts g.to (action p o x.0) b m.0 args (action_fixed o x.0 x.1) w.0 in
        ap (λ a. L.Answer a (g.to o) m (map (renamed_value g.to) args)) (keeps b (present b y.0 y.1))
        ∙ ap (λ a. L.Answer b a m (map (renamed_value g.to) args)) (keeps o (present o x.0 x.1)) ∙ ap (L.Answer b o m) parts.1
    label_fixed d (L.Return b o v) more i t =
        let y = given_by (running c b) _ d t in
        let x = given_by (running c o) _ d y.2 in
        let w = required (returns (action p b y.0) o v && waits_on (action p o x.0) b) _ d x.2 in
        let value = returns_parts g.to (action p b y.0) o v (action_fixed b y.0 y.1) (first (returns (action p b y.0) o v) (waits_on (action p o x.0) b) w.0) in
        ap (λ a. L.Return a (g.to o) (renamed_value g.to v)) (keeps b (present b y.0 y.1))
        ∙ ap (λ a. L.Return b a (renamed_value g.to v)) (keeps o (present o x.0 x.1)) ∙ ap (L.Return b o) value
    label_fixed d (L.Send o b m args) more i t =
        let x = given_by (running c o) _ d t in
        let w = required (posts (action p o x.0) b m.0 args && is_some (object_of c b)) _ d x.2 in
        let parts = posts_parts g.to (action p o x.0) b m.0 args (action_fixed o x.0 x.1) (first (posts (action p o x.0) b m.0 args) (is_some (object_of c b)) w.0) in
        ap (λ a. L.Send a (g.to b) m (map (renamed_value g.to) args)) (keeps o (present o x.0 x.1))
        ∙ ap (λ a. L.Send o a m (map (renamed_value g.to) args)) parts.0 ∙ ap (L.Send o b m) parts.1
    label_fixed d (L.Take b s m args) more i t =
        let y = given_by (running c b) _ d t in
        let v = given_by (offer (action p b y.0) m.0) _ d y.2 in
        let f = given_by (first_message v.0.names (messages_of c s b)) _ d v.2 in
        let w = required (f.0.method == m.0 && are_same f.0.args args) _ d f.2 in
        let sender : g.to s ≡ s = keeps s (known.senders s b (some_first (messages_of c s b) v.0.names f.0 f.1)) in
        let here : g.to b ≡ b = keeps b (present b y.0 y.1) in
        let all : messages_of c s b ≡ map (renamed_message g.to) (messages_of c s b) = ap (λ k. messages_of c k b) (sym sender) ∙ ap (messages_of c (g.to s)) (sym here) ∙ same.messages s b in
        let one : Some f.0 ≡ Some (renamed_message g.to f.0)
        = sym f.1 ∙ ap (first_message v.0.names) all ∙ first_renamed g v.0.names (messages_of c s b) ∙ ap (option_map (renamed_message g.to)) f.1 in
        let kept : f.0.args ≡ map (renamed_value g.to) f.0.args = ap (λ (z : Message). z.args) (same_some one) in
        let is : f.0.args ≡ args = same_values f.0.args args (second (f.0.method == m.0) (are_same f.0.args args) w.0) in
        let values : map (renamed_value g.to) args ≡ args = ap (map (renamed_value g.to)) (sym is) ∙ sym kept ∙ is in
        ap (λ a. L.Take a (g.to s) m (map (renamed_value g.to) args)) here
        ∙ ap (λ a. L.Take b a m (map (renamed_value g.to) args)) sender ∙ ap (L.Take b s m) values
    label_fixed d (L.Write o item) more i t =
        let x = given_by (running c o) _ d t in
        let w = required (writes (action p o x.0) item) _ d x.2 in
        ap (λ a. L.Write a (renamed_item g.to item)) (keeps o (present o x.0 x.1)) ∙ ap (L.Write o) (writes_parts g.to (action p o x.0) item (action_fixed o x.0 x.1) w.0)
    label_fixed d (L.Pick o j) more i t = let x = given_by (running c o) _ d t in ap (λ a. L.Pick a j) (keeps o (present o x.0 x.1))
    label_fixed d (L.Fault o e) more i t = let x = given_by (running c o) _ d t in ap (λ a. L.Fault a e) (keeps o (present o x.0 x.1))

    still_fixed : (d : Configuration) (l : Label) → ((q : ℕ) → q < after n l → g.to q ≡ q) → names_next n l ≡ true → transition p c l ≡ Some d → IsRenamed g.to d d
    still_fixed d l more i t = by (transition p c l) (transition (renamed_program g.to p) c (renamed_label g.to l)) t again (transition_renamed g p c c l same)
      where
        again : transition (renamed_program g.to p) c (renamed_label g.to l) ≡ Some d
        again = ap (λ q. transition q c (renamed_label g.to l)) (less g.to) ∙ ap (transition p c) (label_fixed d l more i t) ∙ t

        by : (u v : Option Configuration) → u ≡ Some d → v ≡ Some d → Alike g.to u v → IsRenamed g.to d d
        by u v i j Neither = absurd (cc)
        by u v i j (Both {c = a} {d = b} r) = subst (λ (y : Configuration). IsRenamed g.to d y) (same_some j) (subst (λ (y : Configuration). IsRenamed g.to y b) (same_some i) r)

  since : (d e : Configuration) (s r : ℕ) → e ≡ d → messages_of e s r ≡ messages_of c s r → has_some (messages_of d s r) ≡ true → s < n
  since d e s r i j h = known.senders s r (ap has_some (sym j) ∙ ap (λ z. has_some (messages_of z s r)) i ∙ h)

  senders_kept : (d : Configuration) (l : Label) → transition p c l ≡ Some d → (s r : ℕ) → has_some (messages_of d s r) ≡ true → s < n
  senders_kept d (L.Local o) t s r h =
      let x = given_by (running c o) _ d t in
      let y = given_by (local_step x.0 (action p o x.0)) _ d x.2 in
      known.senders s r (ap (λ e. has_some (messages_of e s r)) (same_some y.2) ∙ h)
  senders_kept d (L.New o m k) t s r h =
      let x = given_by (running c o) _ d t in
      let w = required (makes (action p o x.0) k.0 && is_none (object_of c m)) _ d x.2 in
      let class = given_by (class_of p k.0) _ d w.1 in
      known.senders s r (ap (λ e. has_some (messages_of e s r)) (same_some {x = put_object (put_object c o (given x.0 (V.Ref m))) m (new_object class.0)} class.2) ∙ h)
  senders_kept d (L.Answer b o m args) t s r h =
      let x = given_by (running c o) _ d t in
      let y = given_by (running c b) _ d x.2 in
      let w = required (calls (action p o x.0) b m.0 args) _ d y.2 in
      let v = given_by (offer (action p b y.0) m.0) _ d w.1 in
      let u = required (not (has_message v.0.names (messages_of c o b))) _ d v.2 in
      let method = given_by (method_of p y.0.class m.0 (length args)) _ d u.1 in
      since d (put_object (put_object c o (refilled x.0 (AsExpression (T.Wait b m.0)))) b (serving y.0 method.0 (Some o) args v.0.work)) s r (same_some {x = put_object (put_object c o (refilled x.0 (AsExpression (T.Wait b m.0)))) b (serving y.0 method.0 (Some o) args v.0.work)} method.2) (refl {a = messages_of c s r}) h
  senders_kept d (L.Return b o v) t s r h =
      let y = given_by (running c b) _ d t in
      let x = given_by (running c o) _ d y.2 in
      let w = required (returns (action p b y.0) o v && waits_on (action p o x.0) b) _ d x.2 in
      known.senders s r (ap (λ e. has_some (messages_of e s r)) (same_some w.1) ∙ h)
  senders_kept d (L.Send o b m args) t s r h =
      let x = given_by (running c o) _ d t in
      let w = required (posts (action p o x.0) b m.0 args && is_some (object_of c b)) _ d x.2 in
      by (put_object c o (done x.0)) (messages_of c o b ++ record { method = m.0; args = args } ∷ []) (present o x.0 x.1) (refl {a = messages_of c s r}) (same_some w.1) (put_messages_cases (put_object c o (done x.0)) o b (messages_of c o b ++ record { method = m.0; args = args } ∷ []) s r)
    where
      by : (e : Configuration) (ms : List Message) → o < n → messages_of e s r ≡ messages_of c s r → put_messages e o b ms ≡ d → PutMessages e o b ms s r → s < n
      by e ms lt i j (NewMessages k z q) = subst (λ (a : ℕ). a < n) (sym k) lt
      by e ms lt i j (OldMessages q) = known.senders s r (ap has_some (sym i ∙ sym q) ∙ ap (λ z. has_some (messages_of z s r)) j ∙ h)
  senders_kept d (L.Take b a m args) t s r h =
      let y = given_by (running c b) _ d t in
      let v = given_by (offer (action p b y.0) m.0) _ d y.2 in
      let f = given_by (first_message v.0.names (messages_of c a b)) _ d v.2 in
      let w = required (f.0.method == m.0 && are_same f.0.args args) _ d f.2 in
      let method = given_by (method_of p y.0.class m.0 (length args)) _ d w.1 in
      by (put_object c b (serving y.0 method.0 None args v.0.work)) (without_first v.0.names (messages_of c a b)) (known.senders a b (some_first (messages_of c a b) v.0.names f.0 f.1)) (refl {a = messages_of c s r})
      (same_some {x = put_messages (put_object c b (serving y.0 method.0 None args v.0.work)) a b (without_first v.0.names (messages_of c a b))} method.2)
      (put_messages_cases (put_object c b (serving y.0 method.0 None args v.0.work)) a b (without_first v.0.names (messages_of c a b)) s r)
    where
      by : (e : Configuration) (ms : List Message) → a < n → messages_of e s r ≡ messages_of c s r → put_messages e a b ms ≡ d → PutMessages e a b ms s r → s < n
      by e ms lt i j (NewMessages k z q) = subst (λ (a : ℕ). a < n) (sym k) lt
      by e ms lt i j (OldMessages q) = known.senders s r (ap has_some (sym i ∙ sym q) ∙ ap (λ z. has_some (messages_of z s r)) j ∙ h)
  senders_kept d (L.Write o item) t s r h =
      let x = given_by (running c o) _ d t in
      let w = required (writes (action p o x.0) item) _ d x.2 in
      known.senders s r (ap (λ e. has_some (messages_of e s r)) (same_some w.1) ∙ h)
  senders_kept d (L.Pick o i) t s r h =
      let x = given_by (running c o) _ d t in
      let work = given_by (picked (action p o x.0) i) _ d x.2 in
      known.senders s r (ap (λ e. has_some (messages_of e s r)) (same_some work.2) ∙ h)
  senders_kept d (L.Fault o e) t s r h =
      let x = given_by (running c o) _ d t in
      let w = required (fails (action p o x.0) e) _ d x.2 in
      known.senders s r (ap (λ e. has_some (messages_of e s r)) (same_some w.1) ∙ h)

  fixed_after : (d : Configuration) (l : Label) → n ≤ after n l → names_next n l ≡ true → transition p c l ≡ Some d → (g : Renaming) → ((q : ℕ) → q < after n l → g.to q ≡ q) → IsRenamed g.to d d
  fixed_after d l most i t g keeps = still_fixed g (λ q lt. keeps q (omega (arith, lt, most))) d l keeps i t

  plain_after : (d : Configuration) (l : Label) → makes_none l ≡ true → names_next n l ≡ true → transition p c l ≡ Some d → Known (after n l) d
  plain_after d l none i t =
      let keep : Keeps c (Some d) = subst (Keeps c) t (others_keep p c l none) in
      let all : (q : ℕ) → is_some (object_of d q) ≡ is_some (object_of c q) = elim keep [ KeepsAll k ↦ k ] in
      let still : n ≡ after n l = sym (stays n l none) in
      record {
        there = λ q h. let lt = known.there q (sym (all q) ∙ h) in omega (arith, lt, still);
        free = λ q h. let lt = known.free q (sym (all q) ∙ h) in omega (arith, lt, still);
        senders = λ s r h. let lt = senders_kept d l t s r h in omega (arith, lt, still);
        fixed = fixed_after d l (omega (arith, still)) i t;
      }

  pub known_after : (d : Configuration) (l : Label) → names_next n l ≡ true → transition p c l ≡ Some d → Known (after n l) d
  known_after d (L.New o m k) i t =
      let adds : Adds m c (Some d) = subst (Adds m c) t (new_adds p c o m k) in
      elim adds [
        | AddsOne u all ↦
            let is : m ≡ n = equal m n i in
            record {
              there = λ q h. there m is all q h (q == m) refl;
              free = λ q h. free m is all q h (q == m) refl;
              senders = λ s r h. let lt = senders_kept d (L.New o m k) t s r h in omega (arith, lt);
              fixed = fixed_after d (L.New o m k) (omega arith) i t;
            }
      ]
    where
      there : (m : ℕ) → m ≡ n → ((q : ℕ) → is_some (object_of d q) ≡ ((q == m) || is_some (object_of c q))) → (q : ℕ) → is_some (object_of d q) ≡ true → (b : Bool) → (q == m) ≡ b → q < suc n
      there m is all q h true j = let e = equal q m j in omega (arith, e, is)
      there m is all q h false j = let lt = known.there q (sym (all q ∙ ap (λ t. t || is_some (object_of c q)) j) ∙ h) in omega (arith, lt)

      free : (m : ℕ) → m ≡ n → ((q : ℕ) → is_some (object_of d q) ≡ ((q == m) || is_some (object_of c q))) → (q : ℕ) → is_some (object_of d q) ≡ false → (b : Bool) → (q == m) ≡ b → suc n ≤ q
      free m is all q h true j = absurd (let z : true ≡ false = sym (all q ∙ ap (λ t. t || is_some (object_of c q)) j) ∙ h in cc)
      free m is all q h false j =
          let lt = known.free q (sym (all q ∙ ap (λ t. t || is_some (object_of c q)) j) ∙ h) in
          let e : q ≢ m = unequal q m j in
          omega (arith, lt, e, is)
  known_after d (L.Local o) i t = plain_after d (L.Local o) refl i t
  known_after d (L.Answer b o m args) i t = plain_after d (L.Answer b o m args) refl i t
  known_after d (L.Return b o v) i t = plain_after d (L.Return b o v) refl i t
  known_after d (L.Send o b m args) i t = plain_after d (L.Send o b m args) refl i t
  known_after d (L.Take b s m args) i t = plain_after d (L.Take b s m args) refl i t
  known_after d (L.Write o item) i t = plain_after d (L.Write o item) refl i t
  known_after d (L.Pick o j) i t = plain_after d (L.Pick o j) refl i t
  known_after d (L.Fault o e) i t = plain_after d (L.Fault o e) refl i t

-- the same holds after a run that names new objects in order
pub known_by : (p : ProgramTree) → IsNameless p → (n : ℕ) (c d : Configuration) (ls : List Label) → Known n c → in_order n ls ≡ true → run p c ls ≡ Some d → Known (after_all n ls) d
known_by p less n c d [] known s r = let is : c ≡ d = cc in subst (Known n) is known
known_by p less n c d (l ∷ ls) known s r = by (first_of p c d l ls r) (λ e k t. known_by p less (after n l) e d ls k (second (names_next n l) (in_order (after n l) ls) s) t)
  where
    by : First p c d l ls → ((e : Configuration) → Known (after n l) e → run p e ls ≡ Some d → Known (after_all (after n l) ls) d) → Known (after_all (after n l) ls) d
    by f rest = rest f.next (known_after p less n c known f.next l (first (names_next n l) (in_order (after n l) ls) s) f.step) f.rest

-- and at the start
pub known_start : (p : ProgramTree) → IsNameless p → (c : Configuration) → start p 0 ≡ Some c → Known 1 c
known_start p less c starts = by (last_class p) refl starts
  where
    -- 0 and 0 exchanged
    zero_kept : (q : ℕ) → (swapped same_all 0 0).to q ≡ q
    zero_kept q = by (q == 0) refl
      where
        by : (b : Bool) → (q == 0) ≡ b → swap 0 0 q ≡ q
        by true i = ap (λ t. if t then 0 else (if q == 0 then 0 else q)) i ∙ sym (equal q 0 i)
        by false i = ap (λ t. if t then 0 else (if t then 0 else q)) i

    go : (k : ClassTree) → last_class p ≡ Some k → Known 1 (lone 0 k)
    go k e = record {
      there = λ q h. let b = (below_start k 0).there q h in let is = zero_kept q in omega (arith, b, is);
      free = λ q h. let b = (below_start k 0).free q h in let is = zero_kept q in omega (arith, b, is);
      senders = λ s r h. absurd (cc);
      fixed = λ g keeps. lone_renamed g p k 0 less e (keeps 0 (omega arith));
    }

    by : (o : Option ClassTree) → last_class p ≡ o → (o >>= λ k. Some (lone 0 k)) ≡ Some c → Known 1 c
    by None i s = absurd (cc)
    by (Some k) i s = subst (Known 1) (same_some s) (go k i)

pub known_reached : (p : ProgramTree) → IsNameless p → (n : ℕ) (c : Configuration) → IsReachedInOrder p n c → Known n c
known_reached p less n c r = subst (λ (m : ℕ). Known m c) r.next (known_by p less 1 r.first c r.labels (known_start p less r.first r.starts) r.orders r.leads)
