-- A dead object stays dead and does not change, and is dead under other names too. An object that waits where no label
-- is possible is dead.
use Rattle.std.proofs.Common.{◌≡◌, ◌≢◌, refl, sym, ap, ◌∙◌, subst, ℕ, List, [], ◌∷◌, ◌++◌, length, map, option_map, Option, Some, None, is_some, is_none, true, false, not, ◌&&◌, ◌||◌, ◌==◌}
use Rattle.run_types.specs.declared.types.Value.TheVariants as V
use Rattle.run_types.specs.declared.types.Label.{Label}
use Rattle.run_types.specs.declared.types.Label.TheVariants as L
use Rattle.pool_syntax.specs.Terms as T
use Rattle.pool_syntax.specs.Terms.{ProgramTree}
use Rattle.pool_syntax.specs.Classes.{class_of}
use Rattle.run_types.specs.Message.{Message}
use Rattle.run_types.specs.Same.{are_same}
use Rattle.run_types.proofs.Laws.{equals, second, neither, given_by, required, same_some}
use Rattle.pool_relation.specs.Action.{Object, method_of, action}
use Rattle.pool_relation.specs.Reducible.{AsExpression, AsStatements}
use Rattle.pool_relation.specs.Configuration.{Configuration, object_of, put_object, messages_of, put_messages}
use Rattle.pool_relation.specs.Transition.{running, local_step, makes, calls, posts, returns, waits_on, writes, fails, picked, offer, has_message, first_message, without_first, done, refilled, returned, given, serving, new_object, transition, run}
use Rattle.pool_relation.proofs.Laws.{joined}
use Rattle.search_laws.specs.Renamed.{Renaming, renamed_program, renamed_object, renamed_label, IsRenamed, IsNameless}
use Rattle.reachability.specs.Search.{IsReached, is_in_call, WaitsAt, IsStuck, IsIn}
use Rattle.search_laws.specs.ClosedLists.{IsClosedSearch}
use Rattle.search_laws.specs.Dead.{changes, some_changes, IsDead, HasDead, CanGoOn}
use Rattle.search_laws.proofs.PutsCommute.{at_another}
use Rattle.search_laws.proofs.ReducedSearch.{First, first_of, joined_step}
use Rattle.search_laws.proofs.RenamedAction.{action_renamed}
use Rattle.search_laws.proofs.RenamedTransition.{Alike, Neither, Both, same_names}
use Rattle.search_laws.proofs.RenamedRun.{run_renamed}
use Rattle.search_laws.proofs.SearchCompleteness.{label_back, call_kept, all_are_seen}

pub not_it : (q o : ℕ) → (q == o) ≡ false → o ≢ q
not_it q o h e = absurd (let z : true ≡ false = sym (equals o) ∙ subst (λ (n : ℕ). (n == o) ≡ false) (sym e) h in cc)

-- an object that a label does not change is the same after it
module _ (p : ProgramTree) (c : Configuration) (q : ℕ) (x : Object) (there : object_of c q ≡ Some x) where
  old : (n : ℕ) → is_none (object_of c n) ≡ true → q ≢ n
  old n t e = absurd (let z : is_none (Some x) ≡ true = ap is_none (sym there) ∙ ap (λ k. is_none (object_of c k)) e ∙ t in cc)

  one_put : (d : Configuration) (o : ℕ) (y : Object) → put_object c o y ≡ d → q ≢ o → object_of d q ≡ Some x
  one_put d o y i n = ap (λ e. object_of e q) (sym i) ∙ at_another c o q y n ∙ there

  two_put : (d : Configuration) (o b : ℕ) (y z : Object) → put_object (put_object c o y) b z ≡ d → q ≢ o → q ≢ b → object_of d q ≡ Some x
  two_put d o b y z i n m = ap (λ e. object_of e q) (sym i) ∙ at_another (put_object c o y) b q z m ∙ at_another c o q y n ∙ there

  sent : (d : Configuration) (o : ℕ) (y : Object) (s r : ℕ) (ms : List Message) → put_messages (put_object c o y) s r ms ≡ d → q ≢ o → object_of d q ≡ Some x
  sent d o y s r ms i n = ap (λ e. object_of e q) (sym i) ∙ at_another c o q y n ∙ there

  pub unchanged : (d : Configuration) (l : Label) → transition p c l ≡ Some d → changes q l ≡ false → object_of d q ≡ Some x
  unchanged d (L.Local o) t h =
      let r = given_by (running c o) _ d t in
      let y = given_by (local_step r.0 (action p o r.0)) _ d r.2 in
      one_put d o y.0 (same_some y.2) (not_it o q h)
  unchanged d (L.New o n k) t h =
      let r = given_by (running c o) _ d t in
      let w = required (makes (action p o r.0) k.0 && is_none (object_of c n)) _ d r.2 in
      let class = given_by (class_of p k.0) _ d w.1 in
      two_put d o n (given r.0 (V.Ref n)) (new_object class.0) (same_some {x = put_object (put_object c o (given r.0 (V.Ref n))) n (new_object class.0)} class.2) (not_it o q h) (old n (second (makes (action p o r.0) k.0) (is_none (object_of c n)) w.0))
  unchanged d (L.Answer b o m args) t h =
      let r = given_by (running c o) _ d t in
      let y = given_by (running c b) _ d r.2 in
      let w = required (calls (action p o r.0) b m.0 args) _ d y.2 in
      let v = given_by (offer (action p b y.0) m.0) _ d w.1 in
      let u = required (not (has_message v.0.names (messages_of c o b))) _ d v.2 in
      let method = given_by (method_of p y.0.class m.0 (length args)) _ d u.1 in
      let n = neither (b == q) (o == q) h in
      two_put d o b (refilled r.0 (AsExpression (T.Wait b m.0))) (serving y.0 method.0 (Some o) args v.0.work) (same_some {x = put_object (put_object c o (refilled r.0 (AsExpression (T.Wait b m.0)))) b (serving y.0 method.0 (Some o) args v.0.work)} method.2) (not_it o q n.1) (not_it b q n.0)
  unchanged d (L.Return b o v) t h =
      let y = given_by (running c b) _ d t in
      let r = given_by (running c o) _ d y.2 in
      let w = required (returns (action p b y.0) o v && waits_on (action p o r.0) b) _ d r.2 in
      let n = neither (b == q) (o == q) h in
      two_put d b o (returned y.0) (given r.0 v) (same_some w.1) (not_it b q n.0) (not_it o q n.1)
  unchanged d (L.Send o b m args) t h =
      let r = given_by (running c o) _ d t in
      let w = required (posts (action p o r.0) b m.0 args && is_some (object_of c b)) _ d r.2 in
      sent d o (done r.0) o b (messages_of c o b ++ record { method = m.0; args = args } ∷ []) (same_some w.1) (not_it o q h)
  unchanged d (L.Take b s m args) t h =
      let y = given_by (running c b) _ d t in
      let v = given_by (offer (action p b y.0) m.0) _ d y.2 in
      let f = given_by (first_message v.0.names (messages_of c s b)) _ d v.2 in
      let w = required (f.0.method == m.0 && are_same f.0.args args) _ d f.2 in
      let method = given_by (method_of p y.0.class m.0 (length args)) _ d w.1 in
      sent d b (serving y.0 method.0 None args v.0.work) s b (without_first v.0.names (messages_of c s b))
      (same_some {x = put_messages (put_object c b (serving y.0 method.0 None args v.0.work)) s b (without_first v.0.names (messages_of c s b))} method.2) (not_it b q h)
  unchanged d (L.Write o item) t h =
      let r = given_by (running c o) _ d t in
      let w = required (writes (action p o r.0) item) _ d r.2 in
      one_put d o (done r.0) (same_some w.1) (not_it o q h)
  unchanged d (L.Pick o i) t h =
      let r = given_by (running c o) _ d t in
      let work = given_by (picked (action p o r.0) i) _ d r.2 in
      one_put d o (refilled r.0 (AsStatements work.0)) (same_some work.2) (not_it o q h)
  unchanged d (L.Fault o e) t h =
      let r = given_by (running c o) _ d t in
      let w = required (fails (action p o r.0) e) _ d r.2 in
      one_put d o (record r.0 { fault = Some e }) (same_some w.1) (not_it o q h)

-- the same of runs
pub unchanged_by : (p : ProgramTree) (c d : Configuration) (ls : List Label) (q : ℕ) (x : Object) → object_of c q ≡ Some x → run p c ls ≡ Some d → some_changes q ls ≡ false → object_of d q ≡ Some x
unchanged_by p c d [] q x there r h = let is : c ≡ d = cc in ap (λ e. object_of e q) (sym is) ∙ there
unchanged_by p c d (l ∷ ls) q x there r h = by (first_of p c d l ls r) (neither (changes q l) (some_changes q ls) h) (λ e i t j. unchanged_by p e d ls q x i t j)
  where
    by : First p c d l ls → (changes q l ≡ false) × (some_changes q ls ≡ false) → ((e : Configuration) → object_of e q ≡ Some x → run p e ls ≡ Some d → some_changes q ls ≡ false → object_of d q ≡ Some x)
        → object_of d q ≡ Some x
    by f n rest = rest f.next (unchanged p c q x there f.next l f.step n.0) f.rest n.1

changes_joined : (o : ℕ) (ls ms : List Label) → some_changes o (ls ++ ms) ≡ false → some_changes o ms ≡ false
changes_joined o [] ms h = h
changes_joined o (l ∷ ls) ms h = changes_joined o ls ms (neither (changes o l) (some_changes o (ls ++ ms)) h).1

pub dead_for_good : (p : ProgramTree) (c d : Configuration) (ls : List Label) (o : ℕ) → IsDead p c o → run p c ls ≡ Some d → IsDead p d o × (object_of d o ≡ object_of c o)
dead_for_good p c d ls o dead r =
    let w = dead.waits in
    let there = unchanged_by p c d ls o w.object w.there r (dead.never d ls r) in (
      record {
        waits = record { object = w.object; there = there; sound = w.sound; waits = w.waits };
        never = λ e ms s. changes_joined o ls ms (dead.never e (ls ++ ms) (joined p c d ls ms r ∙ s));
      },
      there ∙ sym w.there,
    )

pub still_has_dead : (p : ProgramTree) (c d : Configuration) (l : Label) → transition p c l ≡ Some d → HasDead p c → HasDead p d
still_has_dead p c d l t h = record { name = h.name; dead = (dead_for_good p c d (l ∷ []) h.name h.dead (joined_step p c d d l [] t refl)).0 }

-- an object that can go on is not dead
pub not_dead : (p : ProgramTree) (c : Configuration) (o : ℕ) → CanGoOn p c o → ¬ (IsDead p c o)
not_dead p c o on dead = absurd (let z : true ≡ false = sym on.changed ∙ dead.never on.last on.labels on.leads in cc)

-- an object that waits where no label is possible is dead
pub stuck_is_dead : (p : ProgramTree) (c : Configuration) → IsStuck p c → HasDead p c
stuck_is_dead p c stuck = record { name = stuck.name; dead = record { waits = stuck.waits; never = never } }
  where
    never : (d : Configuration) (ls : List Label) → run p c ls ≡ Some d → some_changes stuck.name ls ≡ false
    never d [] r = refl
    never d (l ∷ ls) r = let f = first_of p c d l ls r in absurd (let step = f.step in let z : Some f.next ≡ None = sym step ∙ stuck.at_end l in cc)

-- a renamed label changes the renamed objects
changes_renamed : (f : Renaming) (o : ℕ) (l : Label) → changes (f.to o) (renamed_label f.to l) ≡ changes o l
changes_renamed f o (L.Local q) = same_names f q o
changes_renamed f o (L.New q n k) = same_names f q o
changes_renamed f o (L.Answer b q m args) = ap (λ t. t || (f.to q == f.to o)) (same_names f b o) ∙ ap (λ t. (b == o) || t) (same_names f q o)
changes_renamed f o (L.Return b q v) = ap (λ t. t || (f.to q == f.to o)) (same_names f b o) ∙ ap (λ t. (b == o) || t) (same_names f q o)
changes_renamed f o (L.Send q b m args) = same_names f q o
changes_renamed f o (L.Take b s m args) = same_names f b o
changes_renamed f o (L.Write q item) = same_names f q o
changes_renamed f o (L.Pick q i) = same_names f q o
changes_renamed f o (L.Fault q e) = same_names f q o

pub some_renamed : (f : Renaming) (o : ℕ) (ls : List Label) → some_changes (f.to o) (map (renamed_label f.to) ls) ≡ some_changes o ls
some_renamed f o [] = refl
some_renamed f o (l ∷ ls) = ap (λ t. t || some_changes (f.to o) (map (renamed_label f.to) ls)) (changes_renamed f o l) ∙ ap (λ t. changes o l || t) (some_renamed f o ls)

pub labels_back : (f : Renaming) (ls : List Label) → map (renamed_label f.to) (map (renamed_label f.from) ls) ≡ ls
labels_back f [] = refl
labels_back f (l ∷ ls) = ap (λ k. k ∷ map (renamed_label f.to) (map (renamed_label f.from) ls)) (label_back f l) ∙ ap (λ r. l ∷ r) (labels_back f ls)

module _ (f : Renaming) (p : ProgramTree) (d e : Configuration) (less : IsNameless p) (same : IsRenamed f.to d e) where
  pub waits_kept : (o : ℕ) → WaitsAt p d o → WaitsAt p e (f.to o)
  waits_kept o w = record {
    object = renamed_object f.to w.object;
    there = same.objects o ∙ ap (option_map (renamed_object f.to)) w.there;
    sound = w.sound;
    waits =
        ap (λ q. is_in_call (action q (f.to o) (renamed_object f.to w.object))) (sym (less f.to))
        ∙ ap is_in_call (action_renamed f.to (same_names f) p o w.object) ∙ call_kept f.to (action p o w.object) ∙ w.waits;
  }

  -- a run from the renamed configuration, with the names mapped back, is a run from the other
  run_back : (g : Configuration) (ls : List Label) → run p e ls ≡ Some g → (h : Configuration) × (run p d (map (renamed_label f.from) ls) ≡ Some h)
  run_back g ls r = by (run p d (map (renamed_label f.from) ls)) _ refl there (run_renamed f p d e (map (renamed_label f.from) ls) same)
    where
      there : run (renamed_program f.to p) e (map (renamed_label f.to) (map (renamed_label f.from) ls)) ≡ Some g
      there = ap (λ q. run q e (map (renamed_label f.to) (map (renamed_label f.from) ls))) (less f.to) ∙ ap (run p e) (labels_back f ls) ∙ r

      by : (u v : Option Configuration) → run p d (map (renamed_label f.from) ls) ≡ u → v ≡ Some g → Alike f.to u v → (h : Configuration) × (run p d (map (renamed_label f.from) ls) ≡ Some h)
      by u v i j Neither = absurd (cc)
      by u v i j (Both {c = c} s) = (c, i)

  is_dead_kept : (o : ℕ) → IsDead p d o → IsDead p e (f.to o)
  is_dead_kept o dead = record {
    waits = waits_kept o dead.waits;
    never = λ g ls r.
        let b = run_back g ls r in
        ap (some_changes (f.to o)) (sym (labels_back f ls)) ∙ some_renamed f o (map (renamed_label f.from) ls) ∙ dead.never b.0 (map (renamed_label f.from) ls) b.1;
  }

pub dead_kept : (f : Renaming) (p : ProgramTree) (d e : Configuration) → IsNameless p → IsRenamed f.to d e → HasDead p d → HasDead p e
dead_kept f p d e less same h = record { name = f.to h.name; dead = is_dead_kept f p d e less same h.name h.dead }

pub never_dead : (p : ProgramTree) (es : List (ℕ × Configuration)) → IsNameless p → IsClosedSearch p es → ((n : ℕ) (c : Configuration) → IsIn n c es → ¬ (HasDead p c))
    → (d : Configuration) → IsReached p d → ¬ (HasDead p d)
never_dead p es less whole none d reached h =
    let s = all_are_seen p es less whole d reached in
    none s.next s.seen s.is_in (dead_kept s.names p d s.seen less s.same h)
