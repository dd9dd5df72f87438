-- Each name in a value of code is the name of an object that exists.
use Rattle.std.proofs.Common.{◌≡◌, refl, sym, ap, subst, ℕ, zero, suc, List, [], ◌∷◌, length, Option, Some, None, true, false}
use Rattle.std.specs.Prelude.{slice_get}
use Rattle.run_types.specs.declared.types.Value.{Value}
use Rattle.run_types.specs.declared.types.Value.TheVariants as V
use Rattle.run_types.specs.declared.frames.CodeObject.{CodeObject}
use Rattle.run_types.specs.declared.frames.Frame.{Frame}
use Rattle.run_types.specs.declared.types.Serves.{Serves}
use Rattle.run_types.specs.declared.types.Serves.TheVariants as S
use Rattle.code_semantics.specs.declared.unit.Instr.{Instr}
use Rattle.code_semantics.specs.declared.unit.Instr.TheVariants as I
use Rattle.code_semantics.specs.declared.unit.ClassCode.{ClassCode}
use Rattle.code_semantics.specs.declared.unit.Unit.{Unit as Code}
use Rattle.code_semantics.specs.Frames.{code_of, next, silent, go_on_with, settled_within, settled, post_passed}
use Rattle.run_types.specs.Operands.{dropped}
use Rattle.code_semantics.specs.Kinds as C
use Rattle.code_semantics.specs.Kinds.{frames_kind, code_kind}
use Rattle.code_semantics.specs.Step.{asked, frames_given, code_given}
use Rattle.code_semantics.specs.Proper.{IsProper}
use Rattle.run_types.proofs.Laws.{each_map}
use Rattle.mesh_semantics.specs.Act.{id}
use Rattle.mesh_semantics.specs.Kind as K
use Rattle.mesh_semantics.specs.Kind.{Kind}
use Rattle.run_types.specs.Message.{Message}
use Rattle.mesh_semantics.specs.Config.{Config, object_of, messages_of}
use Rattle.run_types.specs.Tables.{Each}
use Rattle.mesh_semantics.specs.Sound.{IsThere}
use Rattle.mesh_semantics.specs.Requests.{KnownNames, names_in, posts_request}
use Rattle.code_semantics.specs.OfUnit.{AreFramesOf, IsObjectOf}
use Rattle.mesh_of_code.specs.Coded.{Placed, kind_of, unless_served, coded}
use Rattle.mesh_of_code.specs.CodeInvariant.{Names, IsOfCode}
use Rattle.mesh_of_code.proofs.Configs.{plain_names, IsMessageOf}
use Rattle.code_semantics.proofs.Laws.{send_values}
use Rattle.mesh_of_code.proofs.LawfulCode.{first_operands}

names_there : (c : Config Placed) (vs : List Value) → Each (Names c) vs → Each (IsThere c) (names_in vs)
names_there c [] h = tt
names_there c (V.Ref n ∷ vs) h = (h.0 n refl, names_there c vs h.1)
names_there c (V.Int z ∷ vs) h = names_there c vs h.1
names_there c (V.Bool b ∷ vs) h = names_there c vs h.1
names_there c (V.Nil ∷ vs) h = names_there c vs h.1

-- what holds of the operands of a frame brought to a step instruction held of those before
module _ (P : Value → Type 0) (code : List Instr) where
  passed_operands : (n : ℕ) (f : Frame) → ((g : Frame) → Each P (settled_within code n g).operands → Each P g.operands)
      → (s : Serves) → Each P (go_on_with f (settled_within code n) (post_passed f s)).operands → Each P f.operands
  passed_operands n f r S.Own h = r (next f f.operands) h
  passed_operands n f r S.Sender h = r (next f f.operands) h
  passed_operands n f r (S.Caller k m) h = h

  silent_operands : (n : ℕ) (f : Frame) → ((g : Frame) → Each P (settled_within code n g).operands → Each P g.operands)
      → (i : Option Instr) → Each P (go_on_with f (settled_within code n) (silent f i)).operands → Each P f.operands
  silent_operands n f r (Some (I.PushInt z)) h = (r (next f (V.Int z ∷ f.operands)) h).1
  silent_operands n f r (Some (I.PushBool b)) h = (r (next f (V.Bool b ∷ f.operands)) h).1
  silent_operands n f r (Some I.PushNil) h = (r (next f (V.Nil ∷ f.operands)) h).1
  silent_operands n f r (Some (I.Jump a)) h = r (record f { at = a }) h
  silent_operands n f r (Some I.Post) h = passed_operands n f r f.serves h
  silent_operands n f r _ h = h

  within_operands : (n : ℕ) (f : Frame) → Each P (settled_within code n f).operands → Each P f.operands
  within_operands zero f h = h
  within_operands (suc n) f h = silent_operands n f (within_operands n) (slice_get code f.at) h

given_value : (k : Option ClassCode) (j : ClassCode) (P : Value → Type 0) (x : CodeObject) (v : Value) (f : Frame) (fs : List Frame) → AreFramesOf j P None (frames_given k x v (f ∷ fs)).frames → P v
given_value k j P x v f fs h =
    (within_operands P (code_of k f.method) (length (code_of k f.method)) (next f (v ∷ dropped (asked (slice_get (code_of k f.method) f.at)) f.operands))
    (first_operands j P None (settled (code_of k f.method) (next f (v ∷ dropped (asked (slice_get (code_of k f.method) f.at)) f.operands))) fs h)).0

posted_value : (k : Option ClassCode) (j : ClassCode) (P : Value → Type 0) (x : CodeObject) (v : Value) (s : Option (ℕ × ℕ)) (fs : List Frame) → posts_request (unless_served s (kind_of (frames_kind k fs))) ≡ true
    → AreFramesOf j P None (frames_given k x v fs).frames → P v
posted_value k j P x v s (f ∷ fs) q h = given_value k j P x v f fs h
posted_value k j P x v None [] q h = absurd (let z : false ≡ true = q in cc)
posted_value k j P x v (Some w) [] q h = absurd (let z : false ≡ true = q in cc)

abbrev back : Kind → C.Kind
back (K.Send r n vs) = C.Send r (id n) vs
back _ = C.Finished

pub send_at : (s : Option (ℕ × ℕ)) (k : C.Kind) (b m : ℕ) (args : List Value) → unless_served s (kind_of k) ≡ K.Send b m args → k ≡ C.Send b (id m) args
send_at (Some w) k b m args e = absurd (cc)
send_at None (C.Send r n vs) b m args e = ap back e
send_at None _ b m args e = absurd (cc)

pub code_names : (u : Code) → IsProper u → KnownNames (coded u) (IsOfCode u)
code_names u proper = record {
  call_names = λ c o x b m args w h k. names_there c args (send_values u proper (Names c) (plain_names c) x.object (w.of_unit o x h) b (id m) args (send_at x.served (code_kind u x.object) b m args k)).1;
  given_names = λ c o x s v w h q e. names_there c (v ∷ []) (given c o x s v w h q e, tt);
  message_names = λ c s r w. each_map (IsMessageOf u c r) (λ (m : Message). Each (IsThere c) (names_in m.args)) (λ m i. names_there c m.args i.2) (messages_of c s r) (w.messages s r);
}
  where
    given : (c : Config Placed) (o : ℕ) (x s : Placed) (v : Value) → IsOfCode u c → object_of c o ≡ Some x → posts_request ((coded u).kind o s) ≡ true → (coded u).given s v ≡ x → Names c v
    given c o x s v w h q e =
        let t : IsObjectOf u (Names c) (code_given u s.object v) = subst (λ (y : Placed). IsObjectOf u (Names c) y.object) (sym e) (w.of_unit o x h) in
        posted_value (slice_get u.classes s.object.class) t.class (Names c) s.object v s.served s.object.frames q t.frames
