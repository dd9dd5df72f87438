-- Each transition of code keeps the invariant of a configuration.
use Rattle.std.proofs.Common.{◌≡◌, ◌≢◌, ◌⊎◌, inl, inr, refl, sym, ap, subst, ◌∙◌, ℕ, ◌==◌, ◌≤◌, List, [], ◌∷◌, ◌++◌, length, Option, Some, None, is_some, is_none, Bool, true, false, not, if◌then◌else◌}
use Rattle.std.specs.Prelude.{◌&&◌}
use Rattle.run_types.specs.declared.types.NameId.{NameId}
use Rattle.run_types.specs.declared.types.Value.{Value}
use Rattle.run_types.specs.declared.types.Value.TheVariants as V
use Rattle.run_types.specs.declared.types.Item.{Item}
use Rattle.run_types.specs.declared.types.Error.{Error}
use Rattle.run_types.specs.declared.types.Label.{Label}
use Rattle.run_types.specs.declared.types.Label.TheVariants as L
use Rattle.run_types.specs.declared.types.Serves.TheVariants as S
use Rattle.run_types.specs.declared.frames.CodeObject.{CodeObject}
use Rattle.code_semantics.specs.declared.unit.Unit.{Unit as Code}
use Rattle.code_semantics.specs.Kinds as C
use Rattle.code_semantics.specs.Kinds.{code_kind}
use Rattle.code_semantics.specs.Step.{code_serving, code_made}
use Rattle.code_semantics.specs.Proper.{IsProper}
use Rattle.mesh_semantics.specs.Requests.{is_at_once}
use Rattle.run_types.proofs.Laws.{first, second, equals, decide, differ, same_some, given_by, required, same_values, find_put_same, find_put_other, each_map, each_append}
use Rattle.mesh_semantics.proofs.Laws.{running_gives, there_put, sorted_put}
use Rattle.mesh_semantics.specs.Act.{id}
use Rattle.run_types.specs.Same.{are_same}
use Rattle.run_types.specs.Message.{Message}
use Rattle.mesh_semantics.specs.Kind as K
use Rattle.mesh_semantics.specs.Kind.{Kind, is_local, makes, calls, posts, returns, waits_on, writes, fails, has_name, alternatives}
use Rattle.mesh_semantics.specs.Config.{Config, object_of, messages_of, put_object, put_messages}
use Rattle.mesh_semantics.specs.Moves.{running, offered, numbered, can_pick, has_message, first_message, without_message, move}
use Rattle.mesh_semantics.specs.Lawful.{Lawful}
use Rattle.run_types.specs.Tables.{Each}
use Rattle.code_semantics.specs.StepInstructions.{IsAsking, IsChoosing, IsGoingOn}
use Rattle.mesh_of_code.specs.Coded.{Placed, placed, kind_of, coded}
use Rattle.mesh_of_code.specs.CodeInvariant.{Names, serving_for, IsOfCode}
use Rattle.mesh_of_code.proofs.Callers.{based_of}
use Rattle.code_semantics.proofs.Laws.{stepped_of, given_of, gone_on_of, picked_of, serving_of, made_is_of, async_values, send_values, return_value}
use Rattle.mesh_of_code.proofs.Methods.{methods_of, stepped_methods, given_methods, done_methods, picked_methods, serving_methods, returned_methods, made_methods}
use Rattle.mesh_of_code.proofs.Configs.{plain_names, ref_names, one_change, one_put, one_more, two_change, Free, At, Neither, ItServes, IsMessageOf, with_messages, IsServed, not_served}
use Rattle.mesh_of_code.proofs.NamesInTable.{name_of, object_named}
use Rattle.mesh_of_code.proofs.LawfulCode.{first_there, lawful_where_kept}
use Rattle.mesh_of_code.proofs.KindFromTest.{Chooses, local_is, new_is, send_is, async_is, return_is, wait_is, write_is, fault_is, offered_is, pick_is}

-- the messages without the first that is taken
pub each_left : (P : Message → Type 0) (names : List ℕ) (ms : List Message) → Each P ms → Each P (without_message names ms)
each_left P names [] h = tt
each_left P names (m ∷ ms) h = by (has_name names m.method) refl (each_left P names ms h.1)
  where
    by : (b : Bool) → has_name names m.method ≡ b → Each P (without_message names ms) → Each P (without_message names (m ∷ ms))
    by true e k = rw e h.1
    by false e k = rw e (h.0, k)

never_fails : (f : Option Error) → f ≡ None → (e : Error) → f ≡ Some e → ⊥
never_fails f n e i = let t : None ≡ Some e = sym n ∙ i in cc

module _ (u : Code) (proper : IsProper u) (c : Config Placed) (w : IsOfCode u c) where
  local_kept : (d : Config Placed) (o : ℕ) → move (coded u) c (L.Local o) ≡ Some d → IsOfCode u d
  local_kept d o e =
      let a = given_by (running (coded u) c o) _ d e in
      let r = running_gives (coded u) c o a.0 a.1 in
      let t = required (is_local ((coded u).kind o a.0)) _ d a.2 in
      subst (IsOfCode u) (same_some t.1) (clean a.0 r.0 r.1 (local_is a.0.served (code_kind u a.0.object) t.0))
    where
      clean : (x : Placed) → object_of c o ≡ Some x → x.fault ≡ None → (x.served ≡ None) × (code_kind u x.object ≡ C.Local) → IsOfCode u (put_object c o ((coded u).stepped o x))
      clean x h n k = one_put u c o x ((coded u).stepped o x) w h
          (stepped_of u proper (Names c) (plain_names c) x.object (w.of_unit o x h) o (ref_names c o (x, h)))
          (λ e i. absurd (never_fails x.fault n e i)) k.0 k.0 (λ p. stepped_methods u p x.object o (ap kind_of k.1))

  write_kept : (d : Config Placed) (o : ℕ) (item : Item) → move (coded u) c (L.Write o item) ≡ Some d → IsOfCode u d
  write_kept d o item e =
      let a = given_by (running (coded u) c o) _ d e in
      let r = running_gives (coded u) c o a.0 a.1 in
      let t = required (writes ((coded u).kind o a.0) item) _ d a.2 in
      subst (IsOfCode u) (same_some t.1) (clean a.0 r.0 r.1 (write_is a.0.served (code_kind u a.0.object) item t.0))
    where
      clean : (x : Placed) → object_of c o ≡ Some x → x.fault ≡ None → (x.served ≡ None) × (j : Item) × (code_kind u x.object ≡ C.Write j) → IsOfCode u (put_object c o ((coded u).done x))
      clean x h n k = one_put u c o x ((coded u).done x) w h
          (gone_on_of u proper (Names c) (plain_names c) x.object (w.of_unit o x h) (subst IsGoingOn (sym k.2) tt))
          (λ e i. absurd (never_fails x.fault n e i)) k.0 k.0 (λ p. done_methods u p x.object (ap (λ q. is_at_once (kind_of q)) k.2))

  pick_kept : (d : Config Placed) (o i : ℕ) → move (coded u) c (L.Pick o i) ≡ Some d → IsOfCode u d
  pick_kept d o i e =
      let a = given_by (running (coded u) c o) _ d e in
      let r = running_gives (coded u) c o a.0 a.1 in
      let t = required (can_pick (numbered (alternatives ((coded u).kind o a.0)) i)) _ d a.2 in
      subst (IsOfCode u) (same_some t.1) (clean a.0 r.0 r.1 (pick_is a.0.served (code_kind u a.0.object) i t.0))
    where
      clean : (x : Placed) → object_of c o ≡ Some x → x.fault ≡ None → Chooses x.served (code_kind u x.object) → IsOfCode u (put_object c o ((coded u).picked o x i))
      clean x h n k = one_put u c o x ((coded u).picked o x i) w h
          (picked_of u proper (Names c) (plain_names c) x.object (w.of_unit o x h) i k.chooses)
          (λ e j. absurd (never_fails x.fault n e j)) k.free k.free (λ p. picked_methods u p x.object i)

  fault_kept : (d : Config Placed) (o : ℕ) (error : Error) → move (coded u) c (L.Fault o error) ≡ Some d → IsOfCode u d
  fault_kept d o error e =
      let a = given_by (running (coded u) c o) _ d e in
      let r = running_gives (coded u) c o a.0 a.1 in
      let t = required (fails ((coded u).kind o a.0) error) _ d a.2 in
      subst (IsOfCode u) (same_some t.1) (clean a.0 r.0 (fault_is a.0.served (code_kind u a.0.object) error t.0))
    where
      clean : (x : Placed) → object_of c o ≡ Some x → (x.served ≡ None) × (code_kind u x.object ≡ C.Fault error) → IsOfCode u (put_object c o ((coded u).faulted x error))
      clean x h k = one_put u c o x ((coded u).faulted x error) w h (w.of_unit o x h)
          (λ e i. let s : error ≡ e = same_some i in ap ((coded u).kind o) {x = (coded u).faulted x error} {y = record x { fault = Some error; served = None }} (ap (λ s. record x { fault = Some error; served = s }) k.0) ∙ ap kind_of k.1 ∙ ap K.Fault s)
          k.0 k.0 (λ p. refl)

  send_kept : (d : Config Placed) (o b : ℕ) (m : NameId) (args : List Value) → move (coded u) c (L.Send o b m args) ≡ Some d → IsOfCode u d
  send_kept d o b m args e =
      let a = given_by (running (coded u) c o) _ d e in
      let r = running_gives (coded u) c o a.0 a.1 in
      let t = required (posts ((coded u).kind o a.0) b m.0 args && is_some (object_of c b)) _ d a.2 in
      subst (IsOfCode u) (same_some t.1) (clean a.0 r.0 r.1 (async_is a.0.served (code_kind u a.0.object) b m.0 args (first _ (is_some (object_of c b)) t.0)))
    where
      clean : (x : Placed) → object_of c o ≡ Some x → x.fault ≡ None → (x.served ≡ None) × (code_kind u x.object ≡ C.Async b (id m.0) args)
          → IsOfCode u (put_messages (put_object c o ((coded u).done x)) o b (messages_of c o b ++ record { method = m.0; args = args } ∷ []))
      clean x h n k =
          let v = async_values u proper (Names c) (plain_names c) x.object (w.of_unit o x h) b (id m.0) args k.1 in
          let here : IsOfCode u (put_object c o ((coded u).done x)) = one_put u c o x ((coded u).done x) w h
          (gone_on_of u proper (Names c) (plain_names c) x.object (w.of_unit o x h) (subst IsGoingOn (sym k.1) tt))
          (λ e i. absurd (never_fails x.fault n e i)) k.0 k.0 (λ p. done_methods u p x.object (ap (λ q. is_at_once (kind_of q)) k.1)) in
          let stays = there_put (coded u) c o ((coded u).done x) in
          with_messages u (put_object c o ((coded u).done x)) o b (messages_of c o b ++ record { method = m.0; args = args } ∷ []) here
          (each_append (IsMessageOf u (put_object c o ((coded u).done x)) b) (messages_of c o b) (record { method = m.0; args = args }) (here.messages o b)
          (stays b (v.0 b refl), object_named u proper (Names c) x.object (w.of_unit o x h) m.0 (ap (λ q. name_of (kind_of q)) k.1), each_map (Names c) (Names (put_object c o ((coded u).done x))) (λ z f j i. stays j (f j i)) args v.1))

  take_kept : (d : Config Placed) (b s : ℕ) (m : NameId) (args : List Value) → move (coded u) c (L.Take b s m args) ≡ Some d → IsOfCode u d
  take_kept d b s m args e =
      let a = given_by (running (coded u) c b) _ d e in
      let r = running_gives (coded u) c b a.0 a.1 in
      let v = given_by (offered 1 (alternatives ((coded u).kind b a.0)) m.0) _ d a.2 in
      let f = given_by (first_message v.0.1 (messages_of c s b)) _ d v.2 in
      let t = required (f.0.method == m.0 && are_same f.0.args args) _ d f.2 in
      let z = given_by ((coded u).serving b a.0 v.0.0 m.0 None args) _ d t.1 in
      let q = given_by (code_serving u a.0.object v.0.0 (id m.0) args S.Sender) _ z.0 z.1 in
      let values = first_there u proper (IsMessageOf u c b) v.0.1 (messages_of c s b) f.0 (w.messages s b) f.1 in
      let same : f.0.args ≡ args = same_values f.0.args args (second (f.0.method == m.0) (are_same f.0.args args) t.0) in
      subst (IsOfCode u) (same_some z.2)
      (subst (λ (g : Placed). IsOfCode u (put_messages (put_object c b g) s b (without_message v.0.1 (messages_of c s b)))) (same_some q.2)
      (clean a.0 r.0 r.1 v.0.0 v.0.1 (offered_is a.0.served (code_kind u a.0.object) m.0 v.0 v.1) (subst (Each (Names c)) same values.2) q.0 q.1))
    where
      clean : (y : Placed) → object_of c b ≡ Some y → y.fault ≡ None → (i : ℕ) (names : List ℕ) → Chooses y.served (code_kind u y.object) → Each (Names c) args
          → (z : CodeObject) → code_serving u y.object i (id m.0) args S.Sender ≡ Some z
          → IsOfCode u (put_messages (put_object c b (record y { object = z })) s b (without_message names (messages_of c s b)))
      clean y h n i names k values z q =
          let here : IsOfCode u (put_object c b (record y { object = z })) = one_put u c b y (record y { object = z }) w h
          (serving_of u proper (Names c) (plain_names c) y.object (w.of_unit b y h) i (id m.0) args S.Sender z k.chooses values refl q)
          (λ e j. absurd (never_fails y.fault n e j)) k.free k.free (λ p. serving_methods u p y.object i m.0 args S.Sender k.alts z k.select q) in
          with_messages u (put_object c b (record y { object = z })) s b (without_message names (messages_of c s b)) here
          (each_left (IsMessageOf u (put_object c b (record y { object = z })) b) names (messages_of c s b) (here.messages s b))

  -- a name that is there and one that is not are two
  two_names : (o n : ℕ) (x : Placed) → object_of c o ≡ Some x → object_of c n ≡ None → o ≢ n
  two_names o n x h f i = let t : None ≡ Some x = sym f ∙ ap (object_of c) (sym i) ∙ h in absurd (cc)

  new_kept : (d : Config Placed) (o n : ℕ) (k : NameId) → move (coded u) c (L.New o n k) ≡ Some d → IsOfCode u d
  new_kept d o n k e =
      let a = given_by (running (coded u) c o) _ d e in
      let r = running_gives (coded u) c o a.0 a.1 in
      let t = required (makes ((coded u).kind o a.0) k.0 && is_none (object_of c n)) _ d a.2 in
      let y = given_by ((coded u).made k.0) _ d t.1 in
      let q = given_by (code_made u (id k.0)) _ y.0 y.1 in
      subst (IsOfCode u) (same_some y.2)
      (subst (λ (g : Placed). IsOfCode u (put_object (put_object c o ((coded u).given a.0 (V.Ref n))) n g)) (same_some q.2)
      (clean a.0 r.0 r.1 (new_is a.0.served (code_kind u a.0.object) k.0 (first _ (is_none (object_of c n)) t.0)) (none_is (object_of c n) (second (makes ((coded u).kind o a.0) k.0) _ t.0)) q.0 q.1))
    where
      none_is : (z : Option Placed) → is_none z ≡ true → z ≡ None
      none_is None i = refl
      none_is (Some v) i = absurd (let z : false ≡ true = i in cc)

      clean : (x : Placed) → object_of c o ≡ Some x → x.fault ≡ None → (x.served ≡ None) × (code_kind u x.object ≡ C.New (id k.0)) → object_of c n ≡ None
          → (y : CodeObject) → code_made u (id k.0) ≡ Some y → IsOfCode u (put_object (put_object c o ((coded u).given x (V.Ref n))) n (placed y))
      clean x h f t free y made =
          one_change u c1 (put_object (put_object c o ((coded u).given x (V.Ref n))) n (placed y)) here (sorted_put (put_object c o ((coded u).given x (V.Ref n))) n (placed y) (sorted_put c o ((coded u).given x (V.Ref n)) w.in_order)) (λ s r. refl)
          o x ((coded u).given x (V.Ref n)) at
          (find_put_other o n (placed y) (put_object c o ((coded u).given x (V.Ref n))).objects apart ∙ find_put_same o ((coded u).given x (V.Ref n)) c.objects) (λ q j. beside q j (decide q n))
          (given_of u proper (Names c1) (plain_names c1) x.object (here.of_unit o x at) (V.Ref n) (ref_names c1 n (placed y, find_put_same n (placed y) c.objects)) (subst IsAsking (sym t.1) tt))
          (λ e i. absurd (never_fails x.fault f e i)) t.0 refl (λ p. given_methods u p x.object (V.Ref n))
        where
          c1 : Config Placed
          c1 = put_object c n (placed y)

          apart : o ≢ n
          apart = two_names o n x h free

          here : IsOfCode u (put_object c n (placed y))
          here = one_more u c n (placed y) w free (made_is_of u proper (Names (put_object c n (placed y))) (plain_names (put_object c n (placed y))) (id k.0) y made) refl refl (λ p. made_methods u p (id k.0) y made)

          at : object_of (put_object c n (placed y)) o ≡ Some x
          at = find_put_other o n (placed y) c.objects apart ∙ h

          beside : (q : ℕ) → q ≢ o → (q ≡ n) ⊎ (q ≢ n) → object_of (put_object (put_object c o ((coded u).given x (V.Ref n))) n (placed y)) q ≡ object_of (put_object c n (placed y)) q
          beside q j (inl i) =
              ap (object_of (put_object (put_object c o ((coded u).given x (V.Ref n))) n (placed y))) i ∙ find_put_same n (placed y) (put_object c o ((coded u).given x (V.Ref n))).objects
              ∙ sym (ap (object_of (put_object c n (placed y))) i ∙ find_put_same n (placed y) c.objects)
          beside q j (inr i) =
              find_put_other q n (placed y) (put_object c o ((coded u).given x (V.Ref n))).objects i ∙ find_put_other q o ((coded u).given x (V.Ref n)) c.objects j
              ∙ sym (find_put_other q n (placed y) c.objects i)

  answer_kept : (d : Config Placed) (b o : ℕ) (m : NameId) (args : List Value) → move (coded u) c (L.Answer b o m args) ≡ Some d → IsOfCode u d
  answer_kept d b o m args e =
      let a = given_by (running (coded u) c o) _ d e in
      let r = running_gives (coded u) c o a.0 a.1 in
      let i = given_by (running (coded u) c b) _ d a.2 in
      let j = running_gives (coded u) c b i.0 i.1 in
      let t = required (calls ((coded u).kind o a.0) b m.0 args) _ d i.2 in
      let v = given_by (offered 1 (alternatives ((coded u).kind b i.0)) m.0) _ d t.1 in
      let n = required (not (has_message v.0.1 (messages_of c o b))) _ d v.2 in
      let z = given_by ((coded u).serving b i.0 v.0.0 m.0 (Some o) args) _ d n.1 in
      let q = given_by (code_serving u i.0.object v.0.0 (id m.0) args (S.Caller o 0)) _ z.0 z.1 in
      subst (IsOfCode u) (same_some z.2)
      (subst (λ (g : Placed). IsOfCode u (put_object (put_object c o ((coded u).waiting a.0 b m.0)) b g)) (same_some q.2)
      (clean a.0 r.0 r.1 i.0 j.0 j.1 v.0.0 (send_is a.0.served (code_kind u a.0.object) b m.0 args t.0) (offered_is i.0.served (code_kind u i.0.object) m.0 v.0 v.1) q.0 q.1))
    where
      clean : (x : Placed) → object_of c o ≡ Some x → x.fault ≡ None → (y : Placed) → object_of c b ≡ Some y → y.fault ≡ None → (i : ℕ)
          → (x.served ≡ None) × (code_kind u x.object ≡ C.Send b (id m.0) args) → Chooses y.served (code_kind u y.object) → (z : CodeObject) → code_serving u y.object i (id m.0) args (S.Caller o 0) ≡ Some z
          → IsOfCode u (put_object (put_object c o ((coded u).waiting x b m.0)) b (record y { object = z }))
      clean x h f y g bf i s k z q =
          two_change u c (put_object (put_object c o x') b y') w (sorted_put (put_object c o x') b y' (sorted_put c o x' w.in_order)) (λ a r. refl)
          o b x x' y y' apart h g (find_put_other o b y' (put_object c o x').objects apart ∙ find_put_same o x' c.objects) (find_put_same b y' (put_object c o x').objects)
          (λ p n t. find_put_other p b y' (put_object c o x').objects t ∙ find_put_other p o x' c.objects n)
          (w.of_unit o x h)
          (serving_of u proper (Names c) (plain_names c) y.object (w.of_unit b y g) i (id m.0) args (S.Caller o 0) z k.chooses values.1 refl q)
          f bf k.free k.free (λ p. refl)
          (λ p n. methods p ∙ ap (λ t. if t then m.0 ∷ serving_for u p y else serving_for u p y) (differ o p (λ t. n (sym t))))
          (Free s.0)
          (ItServes m.0 args refl (methods o ∙ ap (λ t. if t then m.0 ∷ serving_for u o y else serving_for u o y) (equals o) ∙ ap (λ ms. m.0 ∷ ms) (nobody (serving_for u o y) refl)) s.1)
        where
          x' : Placed
          x' = (coded u).waiting x b m.0

          y' : Placed
          y' = record y { object = z }

          apart : o ≢ b
          apart t =
              let same : x ≡ y = same_some (sym h ∙ ap (object_of c) t ∙ g) in
              absurd (subst IsChoosing (ap (λ (v : Placed). code_kind u v.object) (sym same) ∙ s.1) k.chooses)

          values : Names c (V.Ref b) × Each (Names c) args × (length args ≤ 8)
          values = send_values u proper (Names c) (plain_names c) x.object (w.of_unit o x h) b (id m.0) args s.1

          methods : (p : ℕ) → methods_of u p z ≡ (if o == p then m.0 ∷ serving_for u p y else serving_for u p y)
          methods p = serving_methods u p y.object i m.0 args (S.Caller o 0) k.alts z k.select q

          nobody : (ms : List ℕ) → serving_for u o y ≡ ms → serving_for u o y ≡ []
          nobody [] t = t
          nobody (j ∷ js) t = absurd (
              let v = w.served o b j js y g t in
              let same : x ≡ v.0 = same_some (sym h ∙ v.1) in
              let l : None ≡ Some (b, j) = sym s.0 ∙ ap (λ (n : Placed). n.served) same ∙ v.2 in cc)

  return_kept : (d : Config Placed) (b o : ℕ) (v : Value) → move (coded u) c (L.Return b o v) ≡ Some d → IsOfCode u d
  return_kept d b o v e =
      let i = given_by (running (coded u) c b) _ d e in
      let j = running_gives (coded u) c b i.0 i.1 in
      let a = given_by (running (coded u) c o) _ d i.2 in
      let r = running_gives (coded u) c o a.0 a.1 in
      let t = required (returns ((coded u).kind b i.0) o v && waits_on ((coded u).kind o a.0) b) _ d a.2 in
      let s = wait_is a.0.served (code_kind u a.0.object) b (second (returns ((coded u).kind b i.0) o v) _ t.0) in
      let k = return_is i.0.served (code_kind u i.0.object) o v (first _ (waits_on ((coded u).kind o a.0) b) t.0) in
      subst (IsOfCode u) (same_some t.1) (clean a.0 r.0 r.1 i.0 j.0 j.1 s.0 s.1 k.0 k.1 k.2)
    where
      clean : (x : Placed) → object_of c o ≡ Some x → x.fault ≡ None → (y : Placed) → object_of c b ≡ Some y → y.fault ≡ None → (m : ℕ) → x.served ≡ Some (b, m)
          → y.served ≡ None → (n : ℕ) → code_kind u y.object ≡ C.Return o n v → IsOfCode u (put_object (put_object c b ((coded u).returned y)) o ((coded u).given x v))
      clean x h f y g bf m s free n k =
          two_change u c (put_object (put_object c b y') o x') w (sorted_put (put_object c b y') o x' (sorted_put c b y' w.in_order)) (λ a r. refl)
          o b x x' y y' apart h g (find_put_same o x' (put_object c b y').objects) (find_put_other b o x' (put_object c b y').objects (λ t. apart (sym t)) ∙ find_put_same b y' c.objects)
          (λ p n t. find_put_other p o x' (put_object c b y').objects n ∙ find_put_other p b y' c.objects t)
          (given_of u proper (Names c) (plain_names c) x.object (w.of_unit o x h) v (return_value u proper (Names c) (plain_names c) y.object (w.of_unit b y g) o n v k) (subst IsAsking (sym served.4) tt))
          (gone_on_of u proper (Names c) (plain_names c) y.object (w.of_unit b y g) (subst IsGoingOn (sym k) tt))
          f bf free free (λ p. given_methods u p x.object v)
          (λ p t. sym (ended.1 p ∙ ap (λ q. if q then ended.0 ∷ serving_for u p y' else serving_for u p y') (differ o p (λ q. t (sym q)))))
          (At m s)
          (Neither refl (none_left (serving_for u o y') (sym (ended.1 o ∙ ap (λ q. if q then ended.0 ∷ serving_for u o y' else serving_for u o y') (equals o)) ∙ one)))
        where
          x' : Placed
          x' = (coded u).given x v

          y' : Placed
          y' = (coded u).returned y

          apart : o ≢ b
          apart t =
              let same : x ≡ y = same_some (sym h ∙ ap (object_of c) t ∙ g) in
              not_served x.served (b, m) (ap (λ (q : Placed). q.served) same ∙ free) s

          served : IsServed u c o b m x
          served = w.waits o b m x h s

          one : serving_for u o y ≡ m ∷ []
          one = ap (serving_for u o) {x = y} {y = served.0} (same_some (sym g ∙ served.2)) ∙ served.3

          ended : (j : ℕ) × ((p : ℕ) → serving_for u p y ≡ (if o == p then j ∷ serving_for u p ((coded u).returned y) else serving_for u p ((coded u).returned y)))
          ended = returned_methods u y.object o v (let t = w.of_unit b y g in based_of t.class (Names c) None y.object.frames t.frames) (ap kind_of k)

          none_left : (ms : List ℕ) → ended.0 ∷ ms ≡ m ∷ [] → ms ≡ []
          none_left ms t = ap rest t
            where
              rest : List ℕ → List ℕ
              rest [] = []
              rest (j ∷ js) = js

  pub code_kept : (d : Config Placed) (lab : Label) → move (coded u) c lab ≡ Some d → IsOfCode u d
  code_kept d (L.Local o) e = local_kept d o e
  code_kept d (L.New o n k) e = new_kept d o n k e
  code_kept d (L.Answer b o m args) e = answer_kept d b o m args e
  code_kept d (L.Return b o v) e = return_kept d b o v e
  code_kept d (L.Send o b m args) e = send_kept d o b m args e
  code_kept d (L.Take b s m args) e = take_kept d b s m args e
  code_kept d (L.Write o item) e = write_kept d o item e
  code_kept d (L.Pick o i) e = pick_kept d o i e
  code_kept d (L.Fault o error) e = fault_kept d o error e

pub code_lawful : (u : Code) → IsProper u → Lawful (coded u) (IsOfCode u)
code_lawful u proper = lawful_where_kept u proper (λ c d lab w e. code_kept u proper c w d lab e)
