-- What a machine represents is sound for the code, if it corresponds to a sound configuration of the program.
use Rattle.std.proofs.Common.{◌≡◌, sym, subst, ◌∙◌, IsTrue, ℕ, Some}
use Rattle.std.specs.Ordering.{nat_cmp}
use Rattle.std.specs.FinMap.{is_sorted}
use Rattle.run_types.specs.declared.types.Value.{Value}
use Rattle.run_types.specs.declared.types.Placement.{Placement}
use Rattle.run_types.specs.Message.{Message}
use Rattle.run_types.specs.Tables.{Each}
use Rattle.run_types.proofs.Laws.{each_map}
use Rattle.pool_syntax.specs.Terms.{ProgramTree}
use Rattle.pool_relation.specs.Action.{Object}
use Rattle.code_semantics.specs.declared.unit.Unit.{Unit as Code}
use Rattle.pool_compile.specs.Code.{code}
use Rattle.mesh_semantics.specs.Config.{Config, messages_of, object_of}
use Rattle.mesh_semantics.specs.Delay.{Delay}
use Rattle.mesh_semantics.specs.Simulates.{Related}
use Rattle.mesh_semantics.specs.Sound.{IsSound, IsThere}
use Rattle.mesh_semantics.proofs.Laws.{lawful_across, sound_across}
use Rattle.node_semantics.specs.Machine.{Machine}
use Rattle.node_semantics.specs.WiresStandFor.{StandsFor}
use Rattle.node_semantics.proofs.Laws.{messages_same, objects_same}
use Rattle.mesh_of_terms.specs.Terms.{terms}
use Rattle.mesh_of_terms.specs.TypedTerms.{TypedTerms}
use Rattle.mesh_of_terms.proofs.Laws.{lawful}
use Rattle.mesh_of_code.specs.Coded.{Placed, coded}
use Rattle.mesh_of_code.specs.CodeInvariant.{IsOfCode, Names}
use Rattle.mesh_of_code.proofs.Laws.{map_object}
use Rattle.compiler_correctness.specs.CheckedProgram.{IsCheckedProgram}
use Rattle.compiler_correctness.specs.Matches.{Matches}
use Rattle.compiler_correctness.proofs.Records.{code_simulates}

-- a configuration with the objects and messages of one of the unit is of the unit
module _ (u : Code) (c e : Config Placed) (sorted : IsTrue (is_sorted nat_cmp c.objects)) (objects : (o : ℕ) → object_of c o ≡ object_of e o)
    (messages : (s r : ℕ) → messages_of c s r ≡ messages_of e s r) (w : IsOfCode u e) where
  there : (o : ℕ) → IsThere e o → IsThere c o
  there o t = (t.0, objects o ∙ t.1)

  names : (v : Value) → Names e v → Names c v
  names v n b i = there b (n b i)

  of_same : IsOfCode u c
  of_same = record {
    in_order = sorted;
    of_unit = λ o x i. map_object (Names e) (Names c) names u x.object (w.of_unit o x (sym (objects o) ∙ i));
    messages = λ s r.
        each_map _ _ (λ (m : Message) h. (there r h.0, h.1, each_map (Names e) (Names c) names m.args h.2)) (messages_of c s r)
        (subst (Each _) (sym (messages s r)) (w.messages s r));
    fault = λ o x f i j. w.fault o x f (sym (objects o) ∙ i) j;
    waits = λ o b m x i j. let t = w.waits o b m x (sym (objects o) ∙ i) j in (t.0, t.1, objects b ∙ t.2, t.3, t.4);
    served = λ o b m ms y i j. let t = w.served o b m ms y (sym (objects b) ∙ i) j in (t.0, objects o ∙ t.1, t.2);
  }

module _ (p : ProgramTree) (u : Code) (checked : IsCheckedProgram p) (unit : u.classes ≡ code p) (l : Placement) (m : Machine Placed) where
  pub machine_has_code : (first : Config Placed) (d : Delay) (c : Config Object) (e : Config Placed) (f : Delay) → IsSound (coded u) (IsOfCode u) l first d → StandsFor (coded u) l m first d
      → IsSound (terms p) (TypedTerms p) l c f → Related (Matches p u) c e → StandsFor (coded u) l m e f → IsSound (coded u) (IsOfCode u) l e f
  machine_has_code first d c e f s t sound same stands =
      let sim = code_simulates p u checked unit in
      let law = lawful p checked.faultless checked.written in
      let any : IsSound (coded u) (λ (z : Config Placed). Unit {0}) l e f =
      sound_across (terms p) (coded u) (TypedTerms p) (Matches p u) sim law.kept c e same (λ (z : Config Placed). Unit {0}) l f tt sound in
      let sorted = (lawful_across (terms p) (coded u) (TypedTerms p) (Matches p u) law sim).sorted e (c, sound.state.typed, same) in
      let objects = objects_same (coded u) l m (λ (z : Config Placed). Unit {0}) (IsOfCode u) e first f d any s stands.state t.state in
      let messages = messages_same (coded u) l m (λ (z : Config Placed). Unit {0}) (IsOfCode u) e first f d any s stands.state t.state in
      sound_across (terms p) (coded u) (TypedTerms p) (Matches p u) sim law.kept c e same (IsOfCode u) l f (of_same u e first sorted objects messages s.state.typed) sound
