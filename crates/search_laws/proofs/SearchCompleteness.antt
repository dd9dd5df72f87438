-- A closed list has every reached configuration, up to a renaming. So if none of its configurations is stuck,
-- unfinished or faulty, no run leads to such a configuration.
use Rattle.std.proofs.Common.{◌≡◌, ◌≢◌, ◌≤◌, ◌<◌, refl, sym, ap, ◌∙◌, subst, ℕ, List, [], ◌∷◌, map, option_map, Option, Some, None, is_some, Bool, true, false, ◌&&◌, ◌==◌, cond, arith}
use Rattle.std.specs.Ordering.{nat_cmp, is_eq}
use Rattle.std.specs.declared.cmp.Ordering.{Ordering}
use Rattle.std.specs.declared.cmp.Ordering.TheVariants.{Less, Equal, Greater}
use Rattle.std.specs.Cmp.{nat_cmp_total, tied_itself}
use Rattle.std.specs.FinMap.{nat_cmp-IsAntisymmetric}
use Rattle.run_types.specs.declared.types.Value.{Value}
use Rattle.run_types.specs.declared.types.Value.TheVariants as V
use Rattle.run_types.specs.declared.types.Item.{Item}
use Rattle.run_types.specs.declared.types.Item.TheVariants as I
use Rattle.run_types.specs.declared.types.Label.{Label}
use Rattle.run_types.specs.declared.types.Label.TheVariants as L
use Rattle.pool_syntax.specs.Terms.{ProgramTree, ClassTree}
use Rattle.run_types.specs.Message.{Message}
use Rattle.run_types.specs.Partial.{◌>>=◌}
use Rattle.run_types.specs.Tables.{has_some}
use Rattle.run_types.proofs.Laws.{equal, equals, differ}
use Rattle.pool_relation.specs.Action as A
use Rattle.pool_relation.specs.Action.{Object, Action, action}
use Rattle.pool_relation.specs.Configuration.{Configuration, object_of, messages_of}
use Rattle.pool_relation.specs.Transition.{new_object, transition, run, last_class, start}
use Rattle.search_laws.specs.Renamed.{Renaming, renamed_value, renamed_item, renamed_class, renamed_program, renamed_object, renamed_message, renamed_label, IsRenamed, IsNameless}
use Rattle.reachability.specs.Search.{IsReached, IsAtEnd, is_in_call, IsStuck, is_left_over, HasLeftOver, AnObject, AMessage, IsUnfinished, IsFaulty, after, names_next, in_order, IsIn}
use Rattle.search_laws.specs.ClosedLists.{IsClosed, IsClosedSearch}
use Rattle.search_laws.proofs.RenamedAction.{renamed_action, action_renamed}
use Rattle.search_laws.proofs.RenamedTransition.{Alike, Neither, Both, unequal, to_one, same_names, made, transition_renamed}
use Rattle.search_laws.proofs.RenamedRun.{run_renamed}
use Rattle.search_laws.proofs.NamesInOrder.{swap_first, swapped, same_all, Below, arranged}

-- the object of the one name
abbrev one_object : ℕ → Object → ℕ → Option Object
one_object n x q = object_of (record { objects = (n, x) ∷ []; messages = [] }) q

alone_at : (n : ℕ) (x : Object) (q : ℕ) → one_object n x q ≡ cond (q == n) (Some x) None
alone_at n x q = ap (λ t. cond t (Some x) None) (by (nat_cmp q n) refl)
  where
    by : (r : Ordering) → nat_cmp q n ≡ r → is_eq (nat_cmp q n) ≡ (q == n)
    by Less i = ap is_eq i ∙ sym (differ q n (λ e. absurd (let z : Equal ≡ Less = sym (tied_itself nat_cmp_total n) ∙ subst (λ (k : ℕ). nat_cmp k n ≡ Less) e i in cc)))
    by Equal i = ap is_eq i ∙ sym (ap (λ k. k == n) (nat_cmp-IsAntisymmetric q n i) ∙ equals n)
    by Greater i = ap is_eq i ∙ sym (differ q n (λ e. absurd (let z : Equal ≡ Greater = sym (tied_itself nat_cmp_total n) ∙ subst (λ (k : ℕ). nat_cmp k n ≡ Greater) e i in cc)))

last_renamed : (f : ℕ → ℕ) (p : ProgramTree) → last_class (renamed_program f p) ≡ option_map (renamed_class f) (last_class p)
last_renamed f [] = refl
last_renamed f (k ∷ []) = refl
last_renamed f (k ∷ l ∷ ls) = last_renamed f (l ∷ ls)

-- the start under other names
abbrev pub lone : ℕ → ClassTree → Configuration
lone n k = record { objects = (n, new_object k) ∷ []; messages = [] }

class_kept : (p : ProgramTree) (k : ClassTree) (f : ℕ → ℕ) → IsNameless p → last_class p ≡ Some k → renamed_class f k ≡ k
class_kept p k f less e =
    let a : Some (renamed_class f k) ≡ Some k = sym (ap (option_map (renamed_class f)) e) ∙ sym (last_renamed f p) ∙ ap last_class (less f) ∙ e in
    cc

pub lone_renamed : (f : Renaming) (p : ProgramTree) (k : ClassTree) (root : ℕ) → IsNameless p → last_class p ≡ Some k → f.to root ≡ 0 → IsRenamed f.to (lone root k) (lone 0 k)
lone_renamed f p k root less e z = record { objects = at; messages = λ s r. refl }
  where
    kept : new_object k ≡ renamed_object f.to (new_object k)
    kept = ap new_object (sym (class_kept p k f.to less e)) ∙ made f k

    one : (b : Bool) → cond b (Some (new_object k)) None ≡ option_map (renamed_object f.to) (cond b (Some (new_object k)) None)
    one true = ap Some kept
    one false = refl

    at : (q : ℕ) → one_object 0 (new_object k) (f.to q) ≡ option_map (renamed_object f.to) (one_object root (new_object k) q)
    at q =
        alone_at 0 (new_object k) (f.to q)
        ∙ ap (λ t. cond t (Some (new_object k)) None) (ap (λ r. f.to q == r) (sym z) ∙ same_names f q root)
        ∙ one (q == root) ∙ sym (ap (option_map (renamed_object f.to)) (alone_at root (new_object k) q))

-- at the start the first object has the name 0
pub below_start : (k : ClassTree) (root : ℕ) → Below (swapped same_all root 0) 1 (lone root k)
below_start k root = record { there = there; free = free }
  where
    f : Renaming
    f = swapped same_all root 0

    zero_at : (swapped same_all root 0).to root ≡ 0
    zero_at = swap_first root 0

    is_root : (q : ℕ) (b : Bool) → (q == root) ≡ b → is_some (one_object root (new_object k) q) ≡ b
    is_root q true i = ap is_some (alone_at root (new_object k) q ∙ ap (λ t. cond t (Some (new_object k)) None) i)
    is_root q false i = ap is_some (alone_at root (new_object k) q ∙ ap (λ t. cond t (Some (new_object k)) None) i)

    there : (q : ℕ) → is_some (one_object root (new_object k) q) ≡ true → (swapped same_all root 0).to q < 1
    there q t = by (q == root) refl
      where
        by : (b : Bool) → (q == root) ≡ b → (swapped same_all root 0).to q < 1
        by true i = let w : (swapped same_all root 0).to q ≡ 0 = ap (swapped same_all root 0).to (equal q root i) ∙ zero_at in omega arith
        by false i = absurd (let z : true ≡ false = sym t ∙ is_root q false i in cc)

    free : (q : ℕ) → is_some (one_object root (new_object k) q) ≡ false → 1 ≤ (swapped same_all root 0).to q
    free q t = by (q == root) refl
      where
        by : (b : Bool) → (q == root) ≡ b → 1 ≤ (swapped same_all root 0).to q
        by true i = absurd (let z : true ≡ false = sym (is_root q true i) ∙ t in cc)
        by false i =
            let d : (swapped same_all root 0).to q ≢ 0 = λ e. unequal q root i (to_one (swapped same_all root 0) q root (e ∙ sym zero_at)) in
            omega arith

-- a run that names new objects in order stays in a closed list
stays_in : (p : ProgramTree) (es : List (ℕ × Configuration)) → IsClosed p es → (n : ℕ) (c d : Configuration) (ls : List Label) → IsIn n c es
    → in_order n ls ≡ true → run p c ls ≡ Some d → (m : ℕ) × IsIn m d es
stays_in p es closed n c d [] i o r = let e : c ≡ d = cc in (n, subst (λ (x : Configuration). IsIn n x es) e i)
stays_in p es closed n c d (l ∷ ls) i o r = by (transition p c l) refl (names_next n l) refl r o (λ e j o r. stays_in p es closed (after n l) e d ls j o r)
  where
    by : (t : Option Configuration) → transition p c l ≡ t → (b : Bool) → names_next n l ≡ b → (t >>= λ e. run p e ls) ≡ Some d → (b && in_order (after n l) ls) ≡ true
        → ((e : Configuration) → IsIn (after n l) e es → in_order (after n l) ls ≡ true → run p e ls ≡ Some d → (m : ℕ) × IsIn m d es) → (m : ℕ) × IsIn m d es
    by None j b k r o rest = absurd (cc)
    by (Some e) j true k r o rest = rest e (closed n c e l i k j) o r
    by (Some e) j false k r o rest = absurd (cc)

-- what is reached, under the names of the list
pub record IsSeen (p : ProgramTree) (es : List (ℕ × Configuration)) (d : Configuration) : Type 0 where
  pub names : Renaming
  pub next : ℕ
  pub seen : Configuration
  pub is_in : IsIn next seen es
  pub same : IsRenamed names.to d seen

pub all_are_seen : (p : ProgramTree) (es : List (ℕ × Configuration)) → IsNameless p → IsClosedSearch p es → (d : Configuration) → IsReached p d → IsSeen p es d
all_are_seen p es less whole d reached = by (last_class p) refl reached.starts
  where
    ls : List Label
    ls = reached.labels

    root : ℕ
    root = reached.root

    go : (k : ClassTree) → last_class p ≡ Some k → run p (lone reached.root k) reached.labels ≡ Some d → IsSeen p es d
    go k e r =
        let a = arranged p (lone reached.root k) d reached.labels 1 (swapped same_all reached.root 0) (below_start k reached.root) r in
        let z : (swapped same_all reached.root 0).to reached.root ≡ 0 = swap_first reached.root 0 in
        let first : a.names.to reached.root ≡ 0 = a.keeps reached.root (omega arith) ∙ z in
        let alike = run_renamed a.names p (lone reached.root k) (lone 0 k) reached.labels (lone_renamed a.names p k reached.root less e first) in
        let starts : start p 0 ≡ Some (lone 0 k) = ap (λ o. o >>= λ c. Some (lone 0 c)) e in
        there a.names (run p (lone reached.root k) reached.labels) r (run (renamed_program a.names.to p) (lone 0 k) (map (renamed_label a.names.to) reached.labels)) alike
        (λ x i. stays_in p es whole.closed 1 (lone 0 k) x (map (renamed_label a.names.to) reached.labels) (whole.begins (lone 0 k) starts) a.orders
        (ap (λ q. run q (lone 0 k) (map (renamed_label a.names.to) reached.labels)) (sym (less a.names.to)) ∙ i))
      where
        there : (g : Renaming) (u : Option Configuration) → u ≡ Some d → (v : Option Configuration) → Alike g.to u v
            → ((x : Configuration) → v ≡ Some x → (m : ℕ) × IsIn m x es) → IsSeen p es d
        there g u i v Neither inside = absurd (cc)
        there g u i v (Both {c = c} {d = x} same) inside =
            let here = inside x refl in
            let is : c ≡ d = cc in
            record { names = g; next = here.0; seen = x; is_in = here.1; same = subst (λ (y : Configuration). IsRenamed g.to y x) is same }

    by : (o : Option ClassTree) → last_class p ≡ o → (o >>= λ k. Some (lone reached.root k)) ≡ Some reached.first → IsSeen p es d
    by None i s = absurd (cc)
    by (Some k) i s =
        let is : lone reached.root k ≡ reached.first = cc in
        go k i (ap (λ c. run p c reached.labels) is ∙ reached.leads)

-- the way back of a label
values_back : (f : Renaming) (v : Value) → renamed_value f.to (renamed_value f.from v) ≡ v
values_back f (V.Ref n) = ap V.Ref (f.to_from n)
values_back f (V.Int z) = refl
values_back f (V.Bool b) = refl
values_back f V.Nil = refl

list_back : (f : Renaming) (vs : List Value) → map (renamed_value f.to) (map (renamed_value f.from) vs) ≡ vs
list_back f [] = refl
list_back f (v ∷ vs) = ap (λ w. w ∷ map (renamed_value f.to) (map (renamed_value f.from) vs)) (values_back f v) ∙ ap (λ r. v ∷ r) (list_back f vs)

item_back : (f : Renaming) (i : Item) → renamed_item f.to (renamed_item f.from i) ≡ i
item_back f (I.Value v) = ap I.Value (values_back f v)
item_back f (I.Text s) = refl

pub label_back : (f : Renaming) (l : Label) → renamed_label f.to (renamed_label f.from l) ≡ l
label_back f (L.Local o) = ap L.Local (f.to_from o)
label_back f (L.New o n k) = ap (λ a. L.New a (f.to (f.from n)) k) (f.to_from o) ∙ ap (λ a. L.New o a k) (f.to_from n)
label_back f (L.Answer b o m args) =
    ap (λ a. L.Answer a (f.to (f.from o)) m (map (renamed_value f.to) (map (renamed_value f.from) args))) (f.to_from b)
    ∙ ap (λ a. L.Answer b a m (map (renamed_value f.to) (map (renamed_value f.from) args))) (f.to_from o) ∙ ap (L.Answer b o m) (list_back f args)
label_back f (L.Return b o v) =
    ap (λ a. L.Return a (f.to (f.from o)) (renamed_value f.to (renamed_value f.from v))) (f.to_from b)
    ∙ ap (λ a. L.Return b a (renamed_value f.to (renamed_value f.from v))) (f.to_from o) ∙ ap (L.Return b o) (values_back f v)
label_back f (L.Send o b m args) =
    ap (λ a. L.Send a (f.to (f.from b)) m (map (renamed_value f.to) (map (renamed_value f.from) args))) (f.to_from o)
    ∙ ap (λ a. L.Send o a m (map (renamed_value f.to) (map (renamed_value f.from) args))) (f.to_from b) ∙ ap (L.Send o b m) (list_back f args)
label_back f (L.Take b s m args) =
    ap (λ a. L.Take a (f.to (f.from s)) m (map (renamed_value f.to) (map (renamed_value f.from) args))) (f.to_from b)
    ∙ ap (λ a. L.Take b a m (map (renamed_value f.to) (map (renamed_value f.from) args))) (f.to_from s) ∙ ap (L.Take b s m) (list_back f args)
label_back f (L.Write o item) = ap (λ a. L.Write a (renamed_item f.to (renamed_item f.from item))) (f.to_from o) ∙ ap (L.Write o) (item_back f item)
label_back f (L.Pick o i) = ap (λ a. L.Pick a i) (f.to_from o)
label_back f (L.Fault o e) = ap (λ a. L.Fault a e) (f.to_from o)

-- what is kept under other names
pub at_end_kept : (f : Renaming) (p : ProgramTree) (d e : Configuration) → IsNameless p → IsRenamed f.to d e → IsAtEnd p d → IsAtEnd p e
at_end_kept f p d e less same ended l =
    let back : Label = renamed_label f.from l in
    let alike = transition_renamed f p d e (renamed_label f.from l) same in
    ap (λ q. transition q e l) (sym (less f.to)) ∙ ap (transition (renamed_program f.to p) e) (sym (label_back f l))
    ∙ nothing _ _ (ended (renamed_label f.from l)) alike
  where
    nothing : (u v : Option Configuration) → u ≡ None → Alike f.to u v → v ≡ None
    nothing u v i Neither = refl
    nothing u v i (Both r) = absurd (cc)

pub call_kept : (f : ℕ → ℕ) (a : Action) → is_in_call (renamed_action f a) ≡ is_in_call a
call_kept f A.Finished = refl
call_kept f (A.Local term vars) = refl
call_kept f (A.Fault e) = refl
call_kept f (A.New c) = refl
call_kept f (A.Send b m args) = refl
call_kept f (A.Async b m args) = refl
call_kept f (A.Write i) = refl
call_kept f (A.Answer names) = refl
call_kept f (A.Select cs) = refl
call_kept f (A.Return k v) = refl
call_kept f (A.Waits b m) = refl
call_kept f A.Stuck = refl

pub left_over_kept : (f : ℕ → ℕ) (a : Action) → is_left_over (renamed_action f a) ≡ is_left_over a
left_over_kept f A.Finished = refl
left_over_kept f (A.Local term vars) = refl
left_over_kept f (A.Fault e) = refl
left_over_kept f (A.New c) = refl
left_over_kept f (A.Send b m args) = refl
left_over_kept f (A.Async b m args) = refl
left_over_kept f (A.Write i) = refl
left_over_kept f (A.Answer names) = refl
left_over_kept f (A.Select cs) = refl
left_over_kept f (A.Return k v) = refl
left_over_kept f (A.Waits b m) = refl
left_over_kept f A.Stuck = refl

pub stuck_kept : (f : Renaming) (p : ProgramTree) (d e : Configuration) → IsNameless p → IsRenamed f.to d e → IsStuck p d → IsStuck p e
stuck_kept f p d e less same stuck =
    let w = stuck.waits in
    record {
      at_end = at_end_kept f p d e less same stuck.at_end;
      name = f.to stuck.name;
      waits = record {
        object = renamed_object f.to w.object;
        there = same.objects stuck.name ∙ ap (option_map (renamed_object f.to)) w.there;
        sound = w.sound;
        waits =
            ap (λ q. is_in_call (action q (f.to stuck.name) (renamed_object f.to w.object))) (sym (less f.to))
            ∙ ap is_in_call (action_renamed f.to (same_names f) p stuck.name w.object) ∙ call_kept f.to (action p stuck.name w.object) ∙ w.waits;
      };
    }

pub some_kept : (f : ℕ → ℕ) (ms : List Message) → has_some (map (renamed_message f) ms) ≡ has_some ms
some_kept f [] = refl
some_kept f (m ∷ ms) = refl

pub unfinished_kept : (f : Renaming) (p : ProgramTree) (d e : Configuration) → IsNameless p → IsRenamed f.to d e → IsUnfinished p d → IsUnfinished p e
unfinished_kept f p d e less same unfinished = record { at_end = at_end_kept f p d e less same unfinished.at_end; left = by unfinished.left }
  where
    by : HasLeftOver p d → HasLeftOver p e
    by (AnObject o s) =
        AnObject (f.to o) (record {
          object = renamed_object f.to s.object;
          there = same.objects o ∙ ap (option_map (renamed_object f.to)) s.there;
          sound = s.sound;
          stays =
              ap (λ q. is_left_over (action q (f.to o) (renamed_object f.to s.object))) (sym (less f.to))
              ∙ ap is_left_over (action_renamed f.to (same_names f) p o s.object) ∙ left_over_kept f.to (action p o s.object) ∙ s.stays;
        })
    by (AMessage s r i) = AMessage (f.to s) (f.to r) (ap has_some (same.messages s r) ∙ some_kept f.to (messages_of d s r) ∙ i)

pub fault_kept : (f : Renaming) (d e : Configuration) → IsRenamed f.to d e → IsFaulty d → IsFaulty e
fault_kept f d e same faulty =
    record {
      name = f.to faulty.name;
      object = renamed_object f.to faulty.object;
      there = same.objects faulty.name ∙ ap (option_map (renamed_object f.to)) faulty.there;
      met = faulty.met;
    }

-- where the list is whole and none of it is stuck, or unfinished, or faulty, no run whatever leads to such a configuration
pub never_stuck : (p : ProgramTree) (es : List (ℕ × Configuration)) → IsNameless p → IsClosedSearch p es → ((n : ℕ) (c : Configuration) → IsIn n c es → ¬ (IsStuck p c))
    → (d : Configuration) → IsReached p d → ¬ (IsStuck p d)
never_stuck p es less whole none d reached stuck =
    let s = all_are_seen p es less whole d reached in
    none s.next s.seen s.is_in (stuck_kept s.names p d s.seen less s.same stuck)

pub never_unfinished : (p : ProgramTree) (es : List (ℕ × Configuration)) → IsNameless p → IsClosedSearch p es → ((n : ℕ) (c : Configuration) → IsIn n c es → ¬ (IsUnfinished p c))
    → (d : Configuration) → IsReached p d → ¬ (IsUnfinished p d)
never_unfinished p es less whole none d reached unfinished =
    let s = all_are_seen p es less whole d reached in
    none s.next s.seen s.is_in (unfinished_kept s.names p d s.seen less s.same unfinished)

pub never_faulty : (p : ProgramTree) (es : List (ℕ × Configuration)) → IsNameless p → IsClosedSearch p es → ((n : ℕ) (c : Configuration) → IsIn n c es → ¬ (IsFaulty c))
    → (d : Configuration) → IsReached p d → ¬ (IsFaulty d)
never_faulty p es less whole none d reached faulty =
    let s = all_are_seen p es less whole d reached in
    none s.next s.seen s.is_in (fault_kept s.names d s.seen s.same faulty)

-- one step under other names
pub step_leads : (f : Renaming) (p : ProgramTree) (c d e : Configuration) (l : Label) → IsRenamed f.to c d → transition p c l ≡ Some e
    → (g : Configuration) × (transition (renamed_program f.to p) d (renamed_label f.to l) ≡ Some g) × IsRenamed f.to e g
step_leads f p c d e l same h = by _ _ h (transition_renamed f p c d l same)
  where
    by : (u v : Option Configuration) → u ≡ Some e → Alike f.to u v → (g : Configuration) × (v ≡ Some g) × IsRenamed f.to e g
    by u v i Neither = absurd (cc)
    by u v i (Both {c = a} {d = b} r) = let is : a ≡ e = cc in (b, refl, subst (λ (x : Configuration). IsRenamed f.to x b) is r)

pub step_none : (f : Renaming) (p : ProgramTree) (c d : Configuration) (l : Label) → IsRenamed f.to c d → transition p c l ≡ None
    → transition (renamed_program f.to p) d (renamed_label f.to l) ≡ None
step_none f p c d l same h = by _ _ h (transition_renamed f p c d l same)
  where
    by : (u v : Option Configuration) → u ≡ None → Alike f.to u v → v ≡ None
    by u v i Neither = refl
    by u v i (Both r) = absurd (cc)
