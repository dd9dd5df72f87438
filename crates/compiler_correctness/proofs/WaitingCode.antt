-- Code waits only after its call was answered, so each line of a record of code has the number of the post that it answers.
use Rattle.std.proofs.Common.{◌≡◌, ◌≢◌, ◌⊎◌, inl, inr, refl, sym, ap, ◌∙◌, ℕ, ◌==◌, List, Option, Some, None, is_none, is_some, not}
use Rattle.std.specs.Prelude.{◌&&◌}
use Rattle.run_types.specs.declared.types.Value.TheVariants as V
use Rattle.run_types.specs.declared.types.Label.{Label}
use Rattle.run_types.specs.declared.types.Label.TheVariants as L
use Rattle.run_types.specs.declared.types.Event.{Event}
use Rattle.run_types.specs.declared.types.Placement.{Placement}
use Rattle.code_semantics.specs.declared.unit.Unit.{Unit as Code}
use Rattle.code_semantics.specs.declared.file.UnitFile.{UnitFile}
use Rattle.code_semantics.specs.Kinds.{code_kind}
use Rattle.code_semantics.specs.Shaped.{IsShaped}
use Rattle.code_semantics.specs.Step.{code_made, code_serving}
use Rattle.mesh_semantics.specs.Act.{id}
use Rattle.run_types.specs.Asks.{EachAnswersPost}
use Rattle.mesh_semantics.specs.Config.{Config, object_of, messages_of, put_object}
use Rattle.mesh_semantics.specs.FitFor.{FitFor}
use Rattle.mesh_semantics.specs.Kind as K
use Rattle.mesh_semantics.specs.Kind.{is_local, makes, calls, posts, returns, waits_on, writes, fails, alternatives}
use Rattle.mesh_semantics.specs.Moves.{running, offered, numbered, can_pick, has_message, first_message, move}
use Rattle.run_types.specs.Partial.{◌>>=◌}
use Rattle.mesh_semantics.specs.RecordOf.{record_of, record_on_wires}
use Rattle.run_types.specs.Same.{are_same}
use Rattle.mesh_semantics.specs.Waits.{IsAnswer, Waits}
use Rattle.run_types.proofs.Laws.{first, equals, decide, same_some, given_by, required, find_put_same, find_put_other}
use Rattle.mesh_semantics.proofs.Laws.{fit_of, each_answers_post, each_answers_post_on_wires}
use Rattle.mesh_of_code.specs.Coded.{Placed, placed, last_code, serves_for, coded}
use Rattle.mesh_of_code.proofs.Laws.{start_there, local_is, async_is, return_is, wait_is, write_is, fault_is, offered_is, pick_is}
use Rattle.code_typing.specs.Verified.{IsVerified}
use Rattle.compiler_correctness.specs.TypedCode.{IsTypedCode}
use Rattle.compiler_correctness.proofs.TypePreservation.{verified_lawful}
use Rattle.compiler_correctness.proofs.ProperUnits.{verified_is_proper}
use Rattle.compiler_correctness.proofs.TypeSafety.{start_is_sound}

-- where an object whose call is not served is put
put_back : (c : Config Placed) (q : ℕ) (y : Placed) (o : ℕ) (x : Placed) (w : ℕ × ℕ) → y.served ≡ None → object_of (put_object c q y) o ≡ Some x → x.served ≡ Some w → object_of c o ≡ Some x
put_back c q y o x w n h s = by (decide o q)
  where
    by : (o ≡ q) ⊎ (o ≢ q) → object_of c o ≡ Some x
    by (inr e) = sym (find_put_other o q y c.objects e) ∙ h
    by (inl e) =
        let same : y ≡ x = same_some (sym (find_put_same q y c.objects) ∙ ap (object_of (put_object c q y)) (sym e) ∙ h) in
        absurd (let z : None ≡ Some w = sym n ∙ ap (λ (z : Placed). z.served) same ∙ s in cc)

module _ (u : Code) where
  -- by the label
  module _ (c d : Config Placed) (o b m : ℕ) (x : Placed) (there : object_of d o ≡ Some x) (waits : x.served ≡ Some (b, m)) where
    -- where one object was put
    one : (q : ℕ) (y : Placed) → y.served ≡ None → Some (put_object c q y) ≡ Some d → object_of c o ≡ Some x
    one q y n e = put_back c q y o x (b, m) n (ap (λ z. object_of z o) (same_some e) ∙ there) waits

    -- and where two were
    two : (q r : ℕ) (y z : Placed) → y.served ≡ None → z.served ≡ None → Some (put_object (put_object c q y) r z) ≡ Some d → object_of c o ≡ Some x
    two q r y z n k e = put_back c q y o x (b, m) n (put_back (put_object c q y) r z o x (b, m) k (ap (λ z. object_of z o) (same_some e) ∙ there) waits) waits

    -- one that begins to serve a method is served as it was
    serving_is : (k i n : ℕ) (caller : Option ℕ) (args : List _) (y z : Placed) → (coded u).serving k y i n caller args ≡ Some z → z.served ≡ y.served
    serving_is k i n caller args y z e =
        let w = given_by (code_serving u y.object i (id n) args (serves_for caller)) _ z e in ap (λ (z : Placed). z.served) (sym (same_some w.2))

    begun : (lab : Label) → move (coded u) c lab ≡ Some d → (object_of c o ≡ Some x) ⊎ IsAnswer lab b o
    begun (L.Local q) e =
        let a = given_by (running (coded u) c q) _ d e in
        let t = required (is_local ((coded u).kind q a.0)) _ d a.2 in
        inl (one q ((coded u).stepped q a.0) (local_is a.0.served (code_kind u a.0.object) t.0).0 t.1)
    begun (L.New q n k) e =
        let a = given_by (running (coded u) c q) _ d e in
        let t = required (makes ((coded u).kind q a.0) k.0 && is_none (object_of c n)) _ d a.2 in
        let y = given_by ((coded u).made k.0) _ d t.1 in
        let z = given_by (code_made u (id k.0)) _ y.0 y.1 in
        inl (two q n ((coded u).given a.0 (V.Ref n)) y.0 refl (ap (λ (w : Placed). w.served) (sym (same_some z.2))) y.2)
    begun (L.Answer k q n args) e =
        let a = given_by (running (coded u) c q) _ d e in
        let i = given_by (running (coded u) c k) _ d a.2 in
        let t = required (calls ((coded u).kind q a.0) k n.0 args) _ d i.2 in
        let v = given_by (offered 1 (alternatives ((coded u).kind k i.0)) n.0) _ d t.1 in
        let f = required (not (has_message v.0.1 (messages_of c q k))) _ d v.2 in
        let z = given_by ((coded u).serving k i.0 v.0.0 n.0 (Some q) args) _ d f.1 in
        let free = (offered_is i.0.served (code_kind u i.0.object) n.0 v.0 v.1).free in
        let y = (coded u).waiting a.0 k n.0 in
        on y (decide o q)
        (put_back (put_object c q y) k z.0 o x (b, m) (serving_is k v.0.0 n.0 (Some q) args i.0 z.0 z.1 ∙ free) (ap (λ z. object_of z o) (same_some z.2) ∙ there) waits) refl
      where
        on : (y : Placed) → (o ≡ q) ⊎ (o ≢ q) → object_of (put_object c q y) o ≡ Some x → y.served ≡ Some (k, n.0) → (object_of c o ≡ Some x) ⊎ IsAnswer (L.Answer k q n args) b o
        on y (inr f) before its = inl (sym (find_put_other o q y c.objects f) ∙ before)
        on y (inl f) before its =
            let same : y ≡ x = same_some (sym (find_put_same q y c.objects) ∙ ap (object_of (put_object c q y)) (sym f) ∙ before) in
            let both : (k, n.0) ≡ (b, m) = same_some (sym its ∙ ap (λ (z : Placed). z.served) same ∙ waits) in
            inr (ap (λ (w : ℕ × ℕ). w.0) both, sym f)
    begun (L.Return k q v) e =
        let i = given_by (running (coded u) c k) _ d e in
        let a = given_by (running (coded u) c q) _ d i.2 in
        let t = required (returns ((coded u).kind k i.0) q v && waits_on ((coded u).kind q a.0) k) _ d a.2 in
        let s = return_is i.0.served (code_kind u i.0.object) q v (first _ (waits_on ((coded u).kind q a.0) k) t.0) in
        inl (two k q ((coded u).returned i.0) ((coded u).given a.0 v) s.0 refl t.1)
    begun (L.Send q k n args) e =
        let a = given_by (running (coded u) c q) _ d e in
        let t = required (posts ((coded u).kind q a.0) k n.0 args && is_some (object_of c k)) _ d a.2 in
        let s = async_is a.0.served (code_kind u a.0.object) k n.0 args (first _ (is_some (object_of c k)) t.0) in
        inl (put_back c q ((coded u).done a.0) o x (b, m) s.0 (ap (λ z. object_of z o) (same_some t.1) ∙ there) waits)
    begun (L.Take k q n args) e =
        let a = given_by (running (coded u) c k) _ d e in
        let v = given_by (offered 1 (alternatives ((coded u).kind k a.0)) n.0) _ d a.2 in
        let f = given_by (first_message v.0.1 (messages_of c q k)) _ d v.2 in
        let t = required (f.0.method == n.0 && are_same f.0.args args) _ d f.2 in
        let z = given_by ((coded u).serving k a.0 v.0.0 n.0 None args) _ d t.1 in
        let free = (offered_is a.0.served (code_kind u a.0.object) n.0 v.0 v.1).free in
        inl (put_back c k z.0 o x (b, m) (serving_is k v.0.0 n.0 None args a.0 z.0 z.1 ∙ free) (ap (λ z. object_of z o) (same_some z.2) ∙ there) waits)
    begun (L.Write q item) e =
        let a = given_by (running (coded u) c q) _ d e in
        let t = required (writes ((coded u).kind q a.0) item) _ d a.2 in
        inl (one q ((coded u).done a.0) (write_is a.0.served (code_kind u a.0.object) item t.0).0 t.1)
    begun (L.Pick q i) e =
        let a = given_by (running (coded u) c q) _ d e in
        let t = required (can_pick (numbered (alternatives ((coded u).kind q a.0)) i)) _ d a.2 in
        inl (one q ((coded u).picked q a.0 i) (pick_is a.0.served (code_kind u a.0.object) i t.0).free t.1)
    begun (L.Fault q f) e =
        let a = given_by (running (coded u) c q) _ d e in
        let t = required (fails ((coded u).kind q a.0) f) _ d a.2 in
        inl (one q ((coded u).faulted a.0 f) (fault_is a.0.served (code_kind u a.0.object) f t.0).0 t.1)

  -- whom a wait is for, by the call that is served
  served_for : (o b m : ℕ) (x : Placed) → (coded u).kind o x ≡ K.Waits b m → (n : ℕ) × (x.served ≡ Some (b, n))
  served_for o b m x e = wait_is x.served (code_kind u x.object) b (rw e (equals b))

  root_waits : (o b m : ℕ) (x : Placed) → (coded u).root ≡ Some x → (coded u).kind o x ≢ K.Waits b m
  root_waits o b m x h e =
      let k = given_by (last_code u.classes) (λ k. code_made u k.name >>= λ y. Some (placed y)) x h in
      let y = given_by (code_made u k.0.name) (λ y. Some (placed y)) x k.2 in
      let s = served_for o b m x e in
      absurd (let z : None ≡ Some (b, s.0) = ap (λ (w : Placed). w.served) (same_some y.2) ∙ s.1 in cc)

  -- whatever is kept
  pub code_waits : (W : Config Placed → Type 0) → Waits (coded u) W
  code_waits W = record {
    begun = λ c d lab o b m x w e h k. let s = served_for o b m x k in begun c d o b s.0 x h s.1 lab e;
    root = root_waits;
  }

module _ (f : UnitFile) (shaped : IsShaped f) (good : IsVerified f) (l : Placement) (fit : FitFor (coded f.unit) l) (q : ℕ) (es : List Event) where
  pub code_answers : EachAnswersPost (record_of (coded f.unit) l q es).lines
  code_answers =
      let s = start_there f.unit (verified_is_proper f shaped good) l in
      each_answers_post (coded f.unit) (IsTypedCode f) (verified_lawful f shaped good) (code_waits f.unit (IsTypedCode f)) l (fit_of (coded f.unit) l fit) q es s.0 s.1
      (start_is_sound f shaped good l s.0 fit s.1)

  pub code_answers_on_wires : EachAnswersPost (record_on_wires (coded f.unit) l q es).lines
  code_answers_on_wires =
      let s = start_there f.unit (verified_is_proper f shaped good) l in
      each_answers_post_on_wires (coded f.unit) (IsTypedCode f) (verified_lawful f shaped good) (code_waits f.unit (IsTypedCode f)) l (fit_of (coded f.unit) l fit) q es s.0 s.1
      (start_is_sound f shaped good l s.0 fit s.1)
