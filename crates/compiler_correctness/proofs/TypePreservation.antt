-- Each transition of code of a verified file keeps its configuration typed.
use Rattle.std.proofs.Common.{◌≡◌, ◌≢◌, ◌⊎◌, inl, inr, refl, sym, ap, subst, ◌∙◌, IsTrue, ℕ, ◌==◌, List, [], ◌∷◌, ◌++◌, Option, Some, None, is_some, is_none, true, false, not, if◌then◌else◌}
use Rattle.std.specs.Prelude.{◌&&◌, slice_get}
use Rattle.run_types.specs.declared.types.NameId.{NameId}
use Rattle.run_types.specs.declared.types.Value.{Value}
use Rattle.run_types.specs.declared.types.Value.TheVariants as V
use Rattle.run_types.specs.declared.types.Item.{Item}
use Rattle.run_types.specs.declared.types.Error.{Error}
use Rattle.run_types.specs.declared.types.Label.{Label}
use Rattle.run_types.specs.declared.types.Label.TheVariants as L
use Rattle.run_types.specs.declared.types.Serves.{Serves}
use Rattle.run_types.specs.declared.types.Serves.TheVariants as S
use Rattle.code_semantics.specs.declared.unit.ClassCode.{ClassCode}
use Rattle.run_types.specs.declared.frames.CodeObject.{CodeObject}
use Rattle.run_types.specs.declared.frames.Frame.{Frame}
use Rattle.code_semantics.specs.declared.file.UnitFile.{UnitFile}
use Rattle.code_semantics.specs.Kinds as C
use Rattle.code_semantics.specs.Kinds.{code_kind}
use Rattle.code_semantics.specs.Shaped.{IsShaped}
use Rattle.code_semantics.specs.Step.{method_named, code_serving, code_given, code_made, is_own}
use Rattle.run_types.proofs.Laws.{first, second, equal, equals, decide, same_some, given_by, required, same_values, find_put_same, find_put_other, each_append}
use Rattle.mesh_semantics.proofs.Laws.{running_gives}
use Rattle.mesh_semantics.specs.Act.{id}
use Rattle.run_types.specs.Same.{are_same}
use Rattle.mesh_semantics.specs.Kind.{is_local, makes, calls, posts, returns, waits_on, writes, fails, alternatives}
use Rattle.mesh_semantics.specs.Config.{Config, object_of, messages_of, put_object, put_messages}
use Rattle.mesh_semantics.specs.Moves.{running, offered, numbered, can_pick, has_message, first_message, without_message, move}
use Rattle.mesh_semantics.specs.Lawful.{Lawful}
use Rattle.code_semantics.specs.OfUnit.{HasTemps, AreFramesOf}
use Rattle.code_semantics.specs.StepInstructions.{IsChoosing}
use Rattle.mesh_of_code.specs.Coded.{Placed, placed, class_number, coded}
use Rattle.mesh_of_code.specs.CodeInvariant.{Names, is_for, method_number, number_in, methods_for, serving_for}
use Rattle.mesh_of_code.proofs.Laws.{code_lawful, each_left, first_there, Chooses, local_is, new_is, send_is, async_is, return_is, wait_is, write_is, offered_is, pick_is}
use Rattle.code_typing.specs.Sorts.{Declared, Signature, declared_at, declared_named, signature_named, result_sort}
use Rattle.code_typing.specs.Verified.{IsVerified}
use Rattle.compiler_correctness.specs.TypedCode.{IsOfSort, AreOfKinds, kinds_of_frame, left_sort, IsSortedFrame, AreSortedFrames, IsSortedObject, class_in, IsMessageFor, IsTypedCode}
use Rattle.compiler_correctness.proofs.ShapedKinds.{class_shaped, kinds_of_method}
use Rattle.compiler_correctness.proofs.SendDestination.{Asks}
use Rattle.compiler_correctness.proofs.StepPreservation.{Picks, Leaves, signature_is}
use Rattle.compiler_correctness.proofs.ProperUnits.{verified_is_proper}
use Rattle.compiler_correctness.proofs.Objects.{its_class, KeptBy, kept_of, served_of, given_class, object_grows, named_is, made_sorted}
use Rattle.compiler_correctness.proofs.Configs.{Extends, AreSorted, class_at, grows, messages_grow, extends_put, sorted_put, sorted_messages}

module _ (f : UnitFile) (shaped : IsShaped f) (good : IsVerified f) (c : Config Placed) (w : IsTypedCode f c) where
  sorted : AreSorted f c
  sorted = record { objects = w.objects; messages = w.messages }

  -- an object and what is known of it
  at_its : (o : ℕ) (x : Placed) (e : object_of c o ≡ Some x) → class_in f c o ≡ Some (w.objects o x e).class.code.name.0
  at_its o x e = class_at f c o x e ∙ ap (λ k. Some (class_number k)) (its_class f shaped good (class_in f c) x.object (w.objects o x e))

  kept : (o : ℕ) (x : Placed) (e : object_of c o ≡ Some x) (q : C.Kind) → code_kind f.unit x.object ≡ q → KeptBy f shaped good (class_in f c) x.object (w.objects o x e) q
  kept o x e q i = kept_of f shaped good (class_in f c) x.object (w.objects o x e) q i

  -- an object makes a step
  one : (o : ℕ) (x x' : Placed) → object_of c o ≡ Some x → IsSortedObject f (class_in f c) x'.object × (x'.object.class ≡ x.object.class) → AreSorted f (put_object c o x')
  one o x x' e h = sorted_put f c o x x' sorted e h.1 h.0

  -- who is asked has the method
  pub asked_class : (b : ℕ) (m : NameId) (args : List Value) (s : Signature) (y : Placed) (e : object_of c b ≡ Some y) → Asks f (class_in f c) b m args s
      → signature_named (w.objects b y e).class m ≡ Some s
  asked_class b m args s y e a =
      let k = w.objects b y e in
      let n : k.class.code.name.0 ≡ a.class = same_some (sym (at_its b y e) ∙ a.is_there) in
      let d : declared_named f (record { 0 = k.class.code.name.0 }) ≡ Some k.class = named_is f shaped good y.object.class k.class k.is_class in
      let same : k.class ≡ a.declared = same_some (sym d ∙ ap (λ i. declared_named f (record { 0 = i })) n ∙ a.named) in
      ap (λ (z : Declared). signature_named z m) same ∙ a.method

  -- an object has a method for each message that is sent to it
  message_for : (b m : ℕ) (args : List Value) (s : Signature) (y : Placed) → object_of c b ≡ Some y → Asks f (class_in f c) b (id m) args s
      → IsMessageFor f c b (record { method = m; args = args })
  message_for b m args s y e a = (y, (w.objects b y e).class, s, e, (w.objects b y e).is_class, asked_class b (id m) args s y e a, a.fitting)

  -- it begins to serve a method
  serves : (b : ℕ) (y : Placed) (e : object_of c b ≡ Some y) → Chooses y.served (code_kind f.unit y.object) → (i m : ℕ) (args : List Value) (v : Serves) (z : CodeObject) (s : Signature)
      → signature_named (w.objects b y e).class (id m) ≡ Some s → AreOfKinds (class_in f c) args s.params → is_own v ≡ false → code_serving f.unit y.object i (id m) args v ≡ Some z
      → IsSortedObject f (class_in f c) z × (z.class ≡ y.object.class)
  serves b y e k i m args v z s g fit own q =
      served_of f shaped good (class_in f c) y.object (w.objects b y e) (by (code_kind f.unit y.object) refl k.chooses) i (id m) args v z s g fit own q
    where
      by : (q : C.Kind) → code_kind f.unit y.object ≡ q → IsChoosing q
          → Picks f shaped good y.object (w.objects b y e).class (w.objects b y e).is_class (class_in f c) (w.objects b y e).vars (w.objects b y e) (slice_get f.unit.classes y.object.class) y.object.frames
      by (C.Answer names) i h = kept b y e (C.Answer names) i
      by (C.Select alts) i h = kept b y e (C.Select alts) i
      by _ i h = absurd h

  picks : (o : ℕ) (x : Placed) (e : object_of c o ≡ Some x) → Chooses x.served (code_kind f.unit x.object)
      → Picks f shaped good x.object (w.objects o x e).class (w.objects o x e).is_class (class_in f c) (w.objects o x e).vars (w.objects o x e) (slice_get f.unit.classes x.object.class) x.object.frames
  picks o x e k = by (code_kind f.unit x.object) refl k.chooses
    where
      by : (q : C.Kind) → code_kind f.unit x.object ≡ q → IsChoosing q
          → Picks f shaped good x.object (w.objects o x e).class (w.objects o x e).is_class (class_in f c) (w.objects o x e).vars (w.objects o x e) (slice_get f.unit.classes x.object.class) x.object.frames
      by (C.Answer names) i h = kept o x e (C.Answer names) i
      by (C.Select alts) i h = kept o x e (C.Select alts) i
      by _ i h = absurd h

  local_kept : (d : Config Placed) (o : ℕ) → move (coded f.unit) c (L.Local o) ≡ Some d → AreSorted f d
  local_kept d o e =
      let a = given_by (running (coded f.unit) c o) _ d e in
      let r = running_gives (coded f.unit) c o a.0 a.1 in
      let t = required (is_local ((coded f.unit).kind o a.0)) _ d a.2 in
      let k = local_is a.0.served (code_kind f.unit a.0.object) t.0 in
      subst (AreSorted f) (same_some t.1) (one o a.0 ((coded f.unit).stepped o a.0) r.0 (kept o a.0 r.0 C.Local k.1 o (at_its o a.0 r.0)))

  write_kept : (d : Config Placed) (o : ℕ) (item : Item) → move (coded f.unit) c (L.Write o item) ≡ Some d → AreSorted f d
  write_kept d o item e =
      let a = given_by (running (coded f.unit) c o) _ d e in
      let r = running_gives (coded f.unit) c o a.0 a.1 in
      let t = required (writes ((coded f.unit).kind o a.0) item) _ d a.2 in
      let k = write_is a.0.served (code_kind f.unit a.0.object) item t.0 in
      subst (AreSorted f) (same_some t.1) (one o a.0 ((coded f.unit).done a.0) r.0 (kept o a.0 r.0 (C.Write k.1) k.2))

  pick_kept : (d : Config Placed) (o i : ℕ) → move (coded f.unit) c (L.Pick o i) ≡ Some d → AreSorted f d
  pick_kept d o i e =
      let a = given_by (running (coded f.unit) c o) _ d e in
      let r = running_gives (coded f.unit) c o a.0 a.1 in
      let t = required (can_pick (numbered (alternatives ((coded f.unit).kind o a.0)) i)) _ d a.2 in
      let k = pick_is a.0.served (code_kind f.unit a.0.object) i t.0 in
      subst (AreSorted f) (same_some t.1) (one o a.0 ((coded f.unit).picked o a.0 i) r.0 ((picks o a.0 r.0 k).0 i))

  fault_kept : (d : Config Placed) (o : ℕ) (error : Error) → move (coded f.unit) c (L.Fault o error) ≡ Some d → AreSorted f d
  fault_kept d o error e =
      let a = given_by (running (coded f.unit) c o) _ d e in
      let r = running_gives (coded f.unit) c o a.0 a.1 in
      let t = required (fails ((coded f.unit).kind o a.0) error) _ d a.2 in
      subst (AreSorted f) (same_some t.1) (one o a.0 ((coded f.unit).faulted a.0 error) r.0 (w.objects o a.0 r.0, refl))

  send_kept : (d : Config Placed) (o b : ℕ) (m : NameId) (args : List Value) → move (coded f.unit) c (L.Send o b m args) ≡ Some d → AreSorted f d
  send_kept d o b m args e =
      let a = given_by (running (coded f.unit) c o) _ d e in
      let r = running_gives (coded f.unit) c o a.0 a.1 in
      let t = required (posts ((coded f.unit).kind o a.0) b m.0 args && is_some (object_of c b)) _ d a.2 in
      let k = async_is a.0.served (code_kind f.unit a.0.object) b m.0 args (first _ (is_some (object_of c b)) t.0) in
      let q = kept o a.0 r.0 (C.Async b (id m.0) args) k.1 in
      let here = one o a.0 ((coded f.unit).done a.0) r.0 q.2 in
      let there = some_of (object_of c b) (second (posts ((coded f.unit).kind o a.0) b m.0 args) _ t.0) in
      let more = extends_put f c o a.0 ((coded f.unit).done a.0) r.0 q.2.1 in
      subst (AreSorted f) (same_some t.1)
      (sorted_messages f (put_object c o ((coded f.unit).done a.0)) o b (messages_of c o b ++ record { method = m.0; args = args } ∷ []) here
      (messages_grow f c (put_object c o ((coded f.unit).done a.0)) more b (messages_of c o b ++ record { method = m.0; args = args } ∷ [])
      (each_append (IsMessageFor f c b) (messages_of c o b) (record { method = m.0; args = args }) (w.messages o b) (message_for b m.0 args q.0 there.0 there.1 q.1))))
    where
      some_of : (x : Option Placed) → is_some x ≡ true → (y : Placed) × (x ≡ Some y)
      some_of None h = absurd (let z : false ≡ true = h in cc)
      some_of (Some y) h = (y, refl)

  take_kept : (d : Config Placed) (b s : ℕ) (m : NameId) (args : List Value) → move (coded f.unit) c (L.Take b s m args) ≡ Some d → AreSorted f d
  take_kept d b s m args e =
      let a = given_by (running (coded f.unit) c b) _ d e in
      let r = running_gives (coded f.unit) c b a.0 a.1 in
      let v = given_by (offered 1 (alternatives ((coded f.unit).kind b a.0)) m.0) _ d a.2 in
      let n = given_by (first_message v.0.1 (messages_of c s b)) _ d v.2 in
      let t = required (n.0.method == m.0 && are_same n.0.args args) _ d n.2 in
      let z = given_by ((coded f.unit).serving b a.0 v.0.0 m.0 None args) _ d t.1 in
      let q = given_by (code_serving f.unit a.0.object v.0.0 (id m.0) args S.Sender) _ z.0 z.1 in
      let h = first_there f.unit (verified_is_proper f shaped good) (IsMessageFor f c b) v.0.1 (messages_of c s b) n.0 (w.messages s b) n.1 in
      let same_args : n.0.args ≡ args = same_values n.0.args args (second (n.0.method == m.0) (are_same n.0.args args) t.0) in
      let same_name : n.0.method ≡ m.0 = equal n.0.method m.0 (first (n.0.method == m.0) (are_same n.0.args args) t.0) in
      let same : h.0 ≡ a.0 = same_some (sym h.3 ∙ r.0) in
      let class : h.1 ≡ (w.objects b a.0 r.0).class = same_some (sym h.4 ∙ ap (λ (y : Placed). declared_at f y.object.class) same ∙ (w.objects b a.0 r.0).is_class) in
      let k = offered_is a.0.served (code_kind f.unit a.0.object) m.0 v.0 v.1 in
      let y = serves b a.0 r.0 k v.0.0 m.0 args S.Sender q.0 h.2
      (ap (λ (d : Declared). signature_named d (id m.0)) (sym class) ∙ ap (λ i. signature_named h.1 (id i)) (sym same_name) ∙ h.5)
      (subst (λ vs. AreOfKinds (class_in f c) vs h.2.params) same_args h.6) refl q.1 in
      subst (AreSorted f) (same_some z.2)
      (subst (λ (g : Placed). AreSorted f (put_messages (put_object c b g) s b (without_message v.0.1 (messages_of c s b)))) (same_some q.2)
      (sorted_messages f (put_object c b (record a.0 { object = q.0 })) s b (without_message v.0.1 (messages_of c s b)) (one b a.0 (record a.0 { object = q.0 }) r.0 y)
      (messages_grow f c (put_object c b (record a.0 { object = q.0 })) (extends_put f c b a.0 (record a.0 { object = q.0 }) r.0 y.1) b (without_message v.0.1 (messages_of c s b))
      (each_left (IsMessageFor f c b) v.0.1 (messages_of c s b) (w.messages s b)))))

  new_kept : (d : Config Placed) (o n : ℕ) (k : NameId) → move (coded f.unit) c (L.New o n k) ≡ Some d → AreSorted f d
  new_kept d o n k e =
      let a = given_by (running (coded f.unit) c o) _ d e in
      let r = running_gives (coded f.unit) c o a.0 a.1 in
      let t = required (makes ((coded f.unit).kind o a.0) k.0 && is_none (object_of c n)) _ d a.2 in
      let y = given_by ((coded f.unit).made k.0) _ d t.1 in
      let q = given_by (code_made f.unit (id k.0)) _ y.0 y.1 in
      subst (AreSorted f) (same_some y.2)
      (subst (λ (g : Placed). AreSorted f (put_object (put_object c o ((coded f.unit).given a.0 (V.Ref n))) n g)) (same_some q.2)
      (clean a.0 r.0 (new_is a.0.served (code_kind f.unit a.0.object) k.0 (first _ (is_none (object_of c n)) t.0)).1 (none_is (object_of c n) (second (makes ((coded f.unit).kind o a.0) k.0) _ t.0)) q.0 q.1))
    where
      none_is : (z : Option Placed) → is_none z ≡ true → z ≡ None
      none_is None i = refl
      none_is (Some v) i = absurd (let z : false ≡ true = i in cc)

      clean : (x : Placed) → object_of c o ≡ Some x → code_kind f.unit x.object ≡ C.New (id k.0) → object_of c n ≡ None → (y : CodeObject) → code_made f.unit (id k.0) ≡ Some y
          → AreSorted f (put_object (put_object c o ((coded f.unit).given x (V.Ref n))) n (placed y))
      clean x h kind free y made = record {
        objects = λ q z i. objects q z i (decide q n) (decide q o);
        messages = λ p r. messages_grow f c after more r (messages_of c p r) (w.messages p r);
      }
        where
          x' : Placed
          x' = (coded f.unit).given x (V.Ref n)

          after : Config Placed
          after = put_object (put_object c o ((coded f.unit).given x (V.Ref n))) n (placed y)

          -- whoever was there is another one
          other : (q : ℕ) (z : Placed) → object_of c q ≡ Some z → q ≢ n
          other q z i j = absurd (let t : None ≡ Some z = sym free ∙ ap (object_of c) (sym j) ∙ i in cc)

          more : Extends c (put_object (put_object c o ((coded f.unit).given x (V.Ref n))) n (placed y))
          more q z i =
              let t = extends_put f c o x x' h (given_class f.unit x.object (V.Ref n)) q z i in
              (t.0, find_put_other q n (placed y) (put_object c o x').objects (other q z i) ∙ t.1, t.2)

          new : class_in f (put_object (put_object c o ((coded f.unit).given x (V.Ref n))) n (placed y)) n ≡ Some k.0
          new =
              class_at f (put_object (put_object c o ((coded f.unit).given x (V.Ref n))) n (placed y)) n (placed y) (find_put_same n (placed y) (put_object c o x').objects)
              ∙ ap Some (made_sorted f shaped good (class_in f c) (id k.0) y made).1

          grown : (z : CodeObject) → IsSortedObject f (class_in f c) z → IsSortedObject f (class_in f (put_object (put_object c o ((coded f.unit).given x (V.Ref n))) n (placed y))) z
          grown z i =
              object_grows f (class_in f c) (class_in f (put_object (put_object c o ((coded f.unit).given x (V.Ref n))) n (placed y)))
              (grows f c (put_object (put_object c o ((coded f.unit).given x (V.Ref n))) n (placed y)) more) z i

          changed : IsSortedObject f (class_in f (put_object (put_object c o ((coded f.unit).given x (V.Ref n))) n (placed y))) (code_given f.unit x.object (V.Ref n))
          changed =
              (kept_of f shaped good (class_in f (put_object (put_object c o ((coded f.unit).given x (V.Ref n))) n (placed y))) x.object (grown x.object (w.objects o x h)) (C.New (id k.0)) kind
              (V.Ref n) (k.0, new, refl)).0

          objects : (q : ℕ) (z : Placed) → object_of (put_object (put_object c o ((coded f.unit).given x (V.Ref n))) n (placed y)) q ≡ Some z → (q ≡ n) ⊎ (q ≢ n) → (q ≡ o) ⊎ (q ≢ o)
              → IsSortedObject f (class_in f (put_object (put_object c o ((coded f.unit).given x (V.Ref n))) n (placed y))) z.object
          objects q z i (inl j) p =
              subst (λ (v : Placed). IsSortedObject f (class_in f (put_object (put_object c o ((coded f.unit).given x (V.Ref n))) n (placed y))) v.object)
              (same_some (sym (find_put_same n (placed y) (put_object c o x').objects) ∙ ap (object_of (put_object (put_object c o ((coded f.unit).given x (V.Ref n))) n (placed y))) (sym j) ∙ i))
              (made_sorted f shaped good (class_in f (put_object (put_object c o ((coded f.unit).given x (V.Ref n))) n (placed y))) (id k.0) y made).0
          objects q z i (inr j) (inl p) =
              subst (λ (v : Placed). IsSortedObject f (class_in f (put_object (put_object c o ((coded f.unit).given x (V.Ref n))) n (placed y))) v.object)
              (same_some (sym (find_put_same o x' c.objects) ∙ ap (object_of (put_object c o x')) (sym p) ∙ sym (find_put_other q n (placed y) (put_object c o x').objects j) ∙ i)) changed
          objects q z i (inr j) (inr p) =
              grown z.object (w.objects q z (sym (find_put_other q o x' c.objects p) ∙ sym (find_put_other q n (placed y) (put_object c o x').objects j) ∙ i))

  answer_kept : (d : Config Placed) (b o : ℕ) (m : NameId) (args : List Value) → move (coded f.unit) c (L.Answer b o m args) ≡ Some d → AreSorted f d
  answer_kept d b o m args e =
      let a = given_by (running (coded f.unit) c o) _ d e in
      let r = running_gives (coded f.unit) c o a.0 a.1 in
      let i = given_by (running (coded f.unit) c b) _ d a.2 in
      let j = running_gives (coded f.unit) c b i.0 i.1 in
      let t = required (calls ((coded f.unit).kind o a.0) b m.0 args) _ d i.2 in
      let v = given_by (offered 1 (alternatives ((coded f.unit).kind b i.0)) m.0) _ d t.1 in
      let n = required (not (has_message v.0.1 (messages_of c o b))) _ d v.2 in
      let z = given_by ((coded f.unit).serving b i.0 v.0.0 m.0 (Some o) args) _ d n.1 in
      let q = given_by (code_serving f.unit i.0.object v.0.0 (id m.0) args (S.Caller o 0)) _ z.0 z.1 in
      let k = send_is a.0.served (code_kind f.unit a.0.object) b m.0 args t.0 in
      let s = kept o a.0 r.0 (C.Send b (id m.0) args) k.1 in
      let h = asked_class b (id m.0) args s.0 i.0 j.0 s.1 in
      let y = serves b i.0 j.0 (offered_is i.0.served (code_kind f.unit i.0.object) m.0 v.0 v.1) v.0.0 m.0 args (S.Caller o 0) q.0 s.0 h s.1.fitting refl q.1 in
      subst (AreSorted f) (same_some z.2)
      (subst (λ (g : Placed). AreSorted f (put_object (put_object c o ((coded f.unit).waiting a.0 b m.0)) b g)) (same_some q.2)
      (clean a.0 r.0 i.0 j.0 q.0 y))
    where
      clean : (x : Placed) → object_of c o ≡ Some x → (y : Placed) → object_of c b ≡ Some y → (z : CodeObject)
          → IsSortedObject f (class_in f c) z × (z.class ≡ y.object.class)
          → AreSorted f (put_object (put_object c o ((coded f.unit).waiting x b m.0)) b (record y { object = z }))
      clean x h y g z k =
          let x' = (coded f.unit).waiting x b m.0 in
          let c1 = put_object c o ((coded f.unit).waiting x b m.0) in
          let first : AreSorted f (put_object c o ((coded f.unit).waiting x b m.0)) = one o x ((coded f.unit).waiting x b m.0) h (w.objects o x h, refl) in
          let more = extends_put f c o x ((coded f.unit).waiting x b m.0) h refl in
          let u = more b y g in
          sorted_put f (put_object c o ((coded f.unit).waiting x b m.0)) b u.0 (record y { object = z }) first u.1 (k.1 ∙ sym u.2)
          (object_grows f (class_in f c) (class_in f (put_object c o ((coded f.unit).waiting x b m.0))) (grows f c (put_object c o ((coded f.unit).waiting x b m.0)) more) z k.0)

  -- a value that is returned fits what the caller waits for
  returned_fits : (b o m n : ℕ) (v : Value) (args : List Value) (y : Placed) (e : object_of c b ≡ Some y) (s : Signature) → code_kind f.unit y.object ≡ C.Return o n v
      → serving_for f.unit o y ≡ m ∷ [] → signature_named (w.objects b y e).class (id m) ≡ Some s → IsOfSort (class_in f c) v (result_sort s.outcome)
  returned_fits b o m n v args y e s kind serving g = by l.0.method refl
    where
      k : Declared
      k = (w.objects b y e).class

      l : Leaves f shaped good y.object (w.objects b y e).class (w.objects b y e).is_class (class_in f c) (w.objects b y e).vars (w.objects b y e) y.object.frames o n v
      l = (kept b y e (C.Return o n v) kind).0

      of_frames : IsSortedFrame f (class_in f c) (w.objects b y e).class [] l.0
      of_frames = (subst (AreSortedFrames f (class_in f c) (w.objects b y e).class None) l.2 (w.objects b y e).frames).0

      -- a frame that serves a caller is of a method
      no_body : (kk : ClassCode) (rest : List Frame) → AreFramesOf kk (Names c) None (l.0 ∷ rest) → l.0.method ≡ None → ⊥
      no_body kk [] h q = let z : S.Sender ≡ S.Caller o n = sym h.3 ∙ l.3 in cc
      no_body kk (a ∷ rest) h q = let z : false ≡ true = subst (λ r. IsTrue (is_some r)) q h.2 in cc

      first_of : List ℕ → ℕ
      first_of [] = 0
      first_of (i ∷ is) = i

      number : number_in (Some (w.objects b y e).class.code) l.0.method ≡ m
      number =
          ap first_of (
          sym (ap (λ t. if t then number_in (Some (w.objects b y e).class.code) l.0.method ∷ methods_for (Some (w.objects b y e).class.code) o l.1 else methods_for (Some (w.objects b y e).class.code) o l.1)
          (ap (is_for o) l.3 ∙ equals o))
          ∙ sym (ap (methods_for (Some (w.objects b y e).class.code) o) l.2)
          ∙ sym (ap (λ z. methods_for z o y.object.frames) (its_class f shaped good (class_in f c) y.object (w.objects b y e)))
          ∙ serving
          )

      by : (j : Option ℕ) → l.0.method ≡ j → IsOfSort (class_in f c) v (result_sort s.outcome)
      by None q =
          let u = w.of_code.of_unit b y e in
          absurd (no_body u.class l.1 (subst (AreFramesOf u.class (Names c) None) l.2 u.frames) q)
      by (Some j) q =
          let t = subst (λ i. HasTemps (w.objects b y e).class.code i l.0.temps) q of_frames.has_temps in
          let h = kinds_of_method k.code.methods k.kinds.methods j t.0 (class_shaped f shaped y.object.class k (w.objects b y e).is_class).1 t.1 in
          let first = ((good.headings y.object.class k (w.objects b y e).is_class).methods j t.0 h.0 t.1 h.1).first in
          let name : t.0.name.0 ≡ m = ap method_number (sym t.1) ∙ ap (number_in (Some (w.objects b y e).class.code)) (sym q) ∙ number in
          let r = signature_is k (id m) (record { place = j; code = t.0 }) s (ap (λ i. method_named (Some k.code) (id i)) (sym name) ∙ first) g in
          let left : left_sort (kinds_of_frame k l.0.method) ≡ result_sort s.outcome =
          ap (λ i. left_sort (kinds_of_frame k i)) q ∙ ap left_sort r.1 ∙ ap (λ (z : Signature). result_sort z.outcome) r.2 in
          subst (IsOfSort (class_in f c) v) left l.4

  return_kept : (d : Config Placed) (b o : ℕ) (v : Value) → move (coded f.unit) c (L.Return b o v) ≡ Some d → AreSorted f d
  return_kept d b o v e =
      let i = given_by (running (coded f.unit) c b) _ d e in
      let j = running_gives (coded f.unit) c b i.0 i.1 in
      let a = given_by (running (coded f.unit) c o) _ d i.2 in
      let r = running_gives (coded f.unit) c o a.0 a.1 in
      let t = required (returns ((coded f.unit).kind b i.0) o v && waits_on ((coded f.unit).kind o a.0) b) _ d a.2 in
      let s = wait_is a.0.served (code_kind f.unit a.0.object) b (second (returns ((coded f.unit).kind b i.0) o v) _ t.0) in
      let k = return_is i.0.served (code_kind f.unit i.0.object) o v (first _ (waits_on ((coded f.unit).kind o a.0) b) t.0) in
      subst (AreSorted f) (same_some t.1) (clean a.0 r.0 i.0 j.0 s.0 s.1 k.1 k.2 (w.of_code.waits o b s.0 a.0 r.0 s.1))
    where
      clean : (x : Placed) → object_of c o ≡ Some x → (y : Placed) → object_of c b ≡ Some y → (m : ℕ) → x.served ≡ Some (b, m) → (n : ℕ) → code_kind f.unit y.object ≡ C.Return o n v
          → (y' : Placed) × (args : List Value) × (object_of c b ≡ Some y') × (serving_for f.unit o y' ≡ m ∷ []) × (code_kind f.unit x.object ≡ C.Send b (id m) args)
          → AreSorted f (put_object (put_object c b ((coded f.unit).returned y)) o ((coded f.unit).given x v))
      clean x h y g m served n kind p =
          let same : p.0 ≡ y = same_some (sym p.2 ∙ g) in
          let send = kept o x h (C.Send b (id m) p.1) p.4 in
          let fit = returned_fits b o m n v p.1 y g send.0 kind (ap (serving_for f.unit o) (sym same) ∙ p.3) (asked_class b (id m) p.1 send.0 y g send.1) in
          let given = send.2 v fit in
          let gone = (kept b y g (C.Return o n v) kind).1 in
          let more = extends_put f c b y ((coded f.unit).returned y) g gone.1 in
          let u = more o x h in
          sorted_put f (put_object c b ((coded f.unit).returned y)) o u.0 ((coded f.unit).given x v) (one b y ((coded f.unit).returned y) g gone) u.1 (given.1 ∙ sym u.2)
          (object_grows f (class_in f c) (class_in f (put_object c b ((coded f.unit).returned y))) (grows f c (put_object c b ((coded f.unit).returned y)) more) (code_given f.unit x.object v) given.0)

  sorted_kept : (d : Config Placed) (lab : Label) → move (coded f.unit) c lab ≡ Some d → AreSorted f d
  sorted_kept d (L.Local o) e = local_kept d o e
  sorted_kept d (L.New o n k) e = new_kept d o n k e
  sorted_kept d (L.Answer b o m args) e = answer_kept d b o m args e
  sorted_kept d (L.Return b o v) e = return_kept d b o v e
  sorted_kept d (L.Send o b m args) e = send_kept d o b m args e
  sorted_kept d (L.Take b s m args) e = take_kept d b s m args e
  sorted_kept d (L.Write o item) e = write_kept d o item e
  sorted_kept d (L.Pick o i) e = pick_kept d o i e
  sorted_kept d (L.Fault o error) e = fault_kept d o error e

  -- each transition keeps the configuration typed
  pub typed_kept : (d : Config Placed) (lab : Label) → move (coded f.unit) c lab ≡ Some d → IsTypedCode f d
  typed_kept d lab e =
      let s = sorted_kept d lab e in
      record {
        of_code = (code_lawful f.unit (verified_is_proper f shaped good)).kept c d lab w.of_code e;
        objects = s.objects;
        messages = s.messages;
      }

-- Code of a verified file is a lawful language, where what is kept of a configuration is that it is typed.
pub verified_lawful : (f : UnitFile) → IsShaped f → IsVerified f → Lawful (coded f.unit) (IsTypedCode f)
verified_lawful f shaped good =
    let l = code_lawful f.unit (verified_is_proper f shaped good) in
    record {
      sorted = λ c w. l.sorted c w.of_code;
      kept = λ c d lab w e. typed_kept f shaped good c w d lab e;
      fault_kind = λ c o x e w. l.fault_kind c o x e w.of_code;
      can_make = λ c o x k w. l.can_make c o x k w.of_code;
      can_call = λ c o x b m args w. l.can_call c o x b m args w.of_code;
      can_send = λ c o x b m args w. l.can_send c o x b m args w.of_code;
      can_take = λ c names s r g w. l.can_take c names s r g w.of_code;
      has_wait = λ c b y k v w. l.has_wait c b y k v w.of_code;
      given_name = λ c o x k n w. l.given_name c o x k n w.of_code;
      given_back = λ c b o m y x v w. l.given_back c b o m y x v w.of_code;
      waiting = λ c o x b m args w. l.waiting c o x b m args w.of_code;
    }
