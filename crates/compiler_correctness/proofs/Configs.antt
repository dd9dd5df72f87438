-- Configurations whose values fit, after objects and messages change.
use Rattle.std.proofs.Common.{◌≡◌, ◌≢◌, ◌⊎◌, inl, inr, refl, sym, ap, subst, ◌∙◌, ℕ, List, Some}
use Rattle.std.specs.Prelude.{slice_get}
use Rattle.run_types.specs.declared.frames.CodeObject.{CodeObject}
use Rattle.code_semantics.specs.declared.file.UnitFile.{UnitFile}
use Rattle.run_types.proofs.Laws.{decide, same_some, find_put_same, find_put_other, given_by, each_map}
use Rattle.mesh_semantics.proofs.Laws.{messages_same, messages_other}
use Rattle.mesh_semantics.specs.Config.{Config, object_of, messages_of, put_object, put_messages}
use Rattle.run_types.specs.Message.{Message}
use Rattle.run_types.specs.Partial.{◌>>=◌}
use Rattle.run_types.specs.Tables.{Each}
use Rattle.mesh_of_code.specs.Coded.{Placed, class_number}
use Rattle.code_typing.specs.Sorts.{declared_at}
use Rattle.compiler_correctness.specs.TypedCode.{IsSortedObject, class_in, IsMessageFor}
use Rattle.compiler_correctness.proofs.Operands.{sorts_grow}
use Rattle.compiler_correctness.proofs.Objects.{object_grows}

-- each object is there afterwards, of the same class
abbrev pub Extends : Config Placed → Config Placed → Type 0
Extends c d = (n : ℕ) (y : Placed) → object_of c n ≡ Some y → (z : Placed) × (object_of d n ≡ Some z) × (z.object.class ≡ y.object.class)

module _ (f : UnitFile) where
  -- all values fit
  pub record AreSorted (c : Config Placed) : Type 0 where
    pub objects : (o : ℕ) (x : Placed) → object_of c o ≡ Some x → IsSortedObject f (class_in f c) x.object
    pub messages : (s r : ℕ) → Each (IsMessageFor f c r) (messages_of c s r)

  pub class_at : (c : Config Placed) (n : ℕ) (x : Placed) → object_of c n ≡ Some x → class_in f c n ≡ Some (class_number (slice_get f.unit.classes x.object.class))
  class_at c n x e = ap (λ y. y >>= λ (x : Placed). Some (class_number (slice_get f.unit.classes x.object.class))) e

  pub grows : (c d : Config Placed) → Extends c d → (n k : ℕ) → class_in f c n ≡ Some k → class_in f d n ≡ Some k
  grows c d more n k e =
      let t = given_by (object_of c n) (λ (x : Placed). Some (class_number (slice_get f.unit.classes x.object.class))) k e in
      let z = more n t.0 t.1 in
      class_at d n z.0 z.1 ∙ ap (λ j. Some (class_number (slice_get f.unit.classes j))) z.2 ∙ t.2

  message_grows : (c d : Config Placed) → Extends c d → (r : ℕ) (m : Message) → IsMessageFor f c r m → IsMessageFor f d r m
  message_grows c d more r m h =
      let z = more r h.0 h.3 in (z.0, h.1, h.2, z.1, ap (declared_at f) z.2 ∙ h.4, h.5, sorts_grow (class_in f c) (class_in f d) (grows c d more) m.args _ h.6)

  pub messages_grow : (c d : Config Placed) → Extends c d → (r : ℕ) (ms : List Message) → Each (IsMessageFor f c r) ms → Each (IsMessageFor f d r) ms
  messages_grow c d more r ms h = each_map (IsMessageFor f c r) (IsMessageFor f d r) (message_grows c d more r) ms h

  pub extends_put : (c : Config Placed) (o : ℕ) (x x' : Placed) → object_of c o ≡ Some x → x'.object.class ≡ x.object.class → Extends c (put_object c o x')
  extends_put c o x x' at same n y e = by (decide n o)
    where
      by : (n ≡ o) ⊎ (n ≢ o) → (z : Placed) × (object_of (put_object c o x') n ≡ Some z) × (z.object.class ≡ y.object.class)
      by (inl i) = (
        x',
        ap (object_of (put_object c o x')) i ∙ find_put_same o x' c.objects,
        same ∙ ap (λ (z : Placed). z.object.class) (same_some (sym at ∙ ap (object_of c) (sym i) ∙ e)),
      )
      by (inr i) = (y, find_put_other n o x' c.objects i ∙ e, refl)

  -- an object changes in its place
  pub sorted_put : (c : Config Placed) (o : ℕ) (x x' : Placed) → AreSorted c → object_of c o ≡ Some x → x'.object.class ≡ x.object.class
      → IsSortedObject f (class_in f c) x'.object → AreSorted (put_object c o x')
  sorted_put c o x x' s at same h = record {
    objects = λ q z e. by q z e (decide q o);
    messages = λ p r. messages_grow c (put_object c o x') more r (messages_of c p r) (s.messages p r);
  }
    where
      more : Extends c (put_object c o x')
      more = extends_put c o x x' at same

      up : (y : CodeObject) → IsSortedObject f (class_in f c) y → IsSortedObject f (class_in f (put_object c o x')) y
      up y k = object_grows f (class_in f c) (class_in f (put_object c o x')) (grows c (put_object c o x') more) y k

      by : (q : ℕ) (z : Placed) → object_of (put_object c o x') q ≡ Some z → (q ≡ o) ⊎ (q ≢ o) → IsSortedObject f (class_in f (put_object c o x')) z.object
      by q z e (inl i) =
          subst (λ (v : Placed). IsSortedObject f (class_in f (put_object c o x')) v.object)
          (same_some (sym (find_put_same o x' c.objects) ∙ ap (object_of (put_object c o x')) (sym i) ∙ e)) (up x'.object h)
      by q z e (inr n) = up z.object (s.objects q z (sym (find_put_other q o x' c.objects n) ∙ e))

  -- a list of messages changes
  pub sorted_messages : (c : Config Placed) (s r : ℕ) (ms : List Message) → AreSorted c → Each (IsMessageFor f c r) ms → AreSorted (put_messages c s r ms)
  sorted_messages c s r ms w h = record { objects = w.objects; messages = λ p q. by p q (decide p s) (decide q r) }
    where
      by : (p q : ℕ) → (p ≡ s) ⊎ (p ≢ s) → (q ≡ r) ⊎ (q ≢ r) → Each (IsMessageFor f c q) (messages_of (put_messages c s r ms) p q)
      by p q (inl e) (inl i) =
          subst (λ j. Each (IsMessageFor f c j) (messages_of (put_messages c s r ms) p j)) (sym i)
          (subst (λ j. Each (IsMessageFor f c r) (messages_of (put_messages c s r ms) j r)) (sym e) (subst (Each (IsMessageFor f c r)) (sym (messages_same c s r ms)) h))
      by p q (inr n) k = subst (Each (IsMessageFor f c q)) (sym (messages_other c s r ms p q (λ e i. n e))) (w.messages p q)
      by p q (inl e) (inr n) = subst (Each (IsMessageFor f c q)) (sym (messages_other c s r ms p q (λ e i. n i))) (w.messages p q)
