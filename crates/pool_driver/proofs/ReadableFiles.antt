-- The records of a verified file are readable.
-- A send that a run reaches names a method of its receiver's class. A send that no run reaches may name none.
use Rattle.std.proofs.Common.{◌≡◌, refl, ℕ, ◌≤◌, List, [], ◌∷◌, length, Some, is_some}
use Rattle.std.specs.Prelude.{◌&&◌}
use Rattle.run_types.specs.declared.types.NameId.{NameId}
use Rattle.run_types.specs.declared.types.Value.{Value}
use Rattle.run_types.specs.declared.types.Event.{Event}
use Rattle.run_types.specs.declared.types.Label.TheVariants as L
use Rattle.run_types.specs.declared.types.Placement.{Placement}
use Rattle.code_semantics.specs.declared.file.UnitFile.{UnitFile}
use Rattle.code_semantics.specs.Kinds as C
use Rattle.code_semantics.specs.Kinds.{code_kind}
use Rattle.code_semantics.specs.Shaped.{IsShaped, IsWritable}
use Rattle.code_semantics.specs.Suits.{Suits}
use Rattle.mesh_semantics.specs.Act.{id}
use Rattle.mesh_semantics.specs.Config.{Config, object_of, messages_of}
use Rattle.mesh_semantics.specs.Kind.{posts}
use Rattle.mesh_semantics.specs.Lawful.{Lawful}
use Rattle.run_types.specs.Message.{Message}
use Rattle.mesh_semantics.specs.Moves.{move, running}
use Rattle.mesh_semantics.specs.Record.{start}
use Rattle.mesh_semantics.specs.RecordOf.{record_of, record_on_wires}
use Rattle.run_types.specs.Tables.{Each}
use Rattle.mesh_semantics.proofs.Laws.{running_gives}
use Rattle.run_types.proofs.Laws.{first, equals, given_by, required, values_itself}
use Rattle.mesh_of_code.specs.Coded.{Placed, coded}
use Rattle.mesh_of_code.proofs.Laws.{code_fits, made_lawful, made_start_sound, send_is, async_is, HasMade, IsAtCall}
use Rattle.code_typing.specs.Sorts.{Signature}
use Rattle.code_typing.specs.Verified.{IsVerified}
use Rattle.compiler_correctness.specs.TypedCode.{IsMessageFor, IsTypedCode, class_in}
use Rattle.compiler_correctness.proofs.Laws.{asked_class, start_typed, verified_is_proper, verified_lawful, kept_of, Asks, ShowsNames, KeepsNames, record_reads, record_reads_on_wires}
use Rattle.run_record.specs.Readable.{IsNamed, IsReadableEvent, IsRecord}
use Rattle.pool_driver.proofs.SpelledFiles.{method_named_so, verified_spelled}

module _ (f : UnitFile) (shaped : IsShaped f) (good : IsVerified f) where
  -- a typed configuration, of which each value was made by code
  abbrev IsTypedMade : Config Placed → Type 0
  IsTypedMade c = HasMade f.unit c × IsTypedCode f c

  typed_made_lawful : Lawful (coded f.unit) IsTypedMade
  typed_made_lawful =
      let made = made_lawful f.unit (verified_is_proper f shaped good) in
      let typed = verified_lawful f shaped good in
      record {
        sorted = λ c w. made.sorted c w.0;
        kept = λ c d lab w e. (made.kept c d lab w.0 e, typed.kept c d lab w.1 e);
        fault_kind = λ c o x e w. made.fault_kind c o x e w.0;
        can_make = λ c o x k w. made.can_make c o x k w.0;
        can_call = λ c o x b m args w. made.can_call c o x b m args w.0;
        can_send = λ c o x b m args w. made.can_send c o x b m args w.0;
        can_take = λ c names s r g w. made.can_take c names s r g w.0;
        has_wait = λ c b y k v w. made.has_wait c b y k v w.0;
        given_name = λ c o x k n w. made.given_name c o x k n w.0;
        given_back = λ c b o m y x v w. made.given_back c b o m y x v w.0;
        waiting = λ c o x b m args w. made.waiting c o x b m args w.0;
      }

  module _ (c : Config Placed) (w : IsTypedCode f c) where
    -- who is asked has the method, which is a name
    asked_named : (b : ℕ) (m : NameId) (args : List Value) (s : Signature) → Asks f (class_in f c) b m args s → IsNamed f.unit.names m
    asked_named b m args s a =
        let t = given_by (object_of c b) _ a.class a.is_there in
        let k = w.objects b t.0 t.1 in
        method_named_so f shaped good t.0.object.class k.class k.is_class m.0 s (asked_class f shaped good c w b m args s t.0 t.1 a)

    call_named : (o b m : ℕ) (args : List Value) → IsAtCall (coded f.unit) c o b m args → IsNamed f.unit.names (id m)
    call_named o b m args h =
        let x = h.0 in
        let k = send_is x.served (code_kind f.unit x.object) b m args (rw (h.2) (rw (equals b, equals m, values_itself args) refl)) in
        let a = kept_of f shaped good (class_in f c) x.object (w.objects o x h.1) (C.Send b (id m) args) k.1 in
        asked_named b (id m) args a.0 a.1

    send_named : (o b : ℕ) (m : NameId) (args : List Value) (e : Config Placed) → move (coded f.unit) c (L.Send o b m args) ≡ Some e → IsNamed f.unit.names m
    send_named o b m args e h =
        let a = given_by (running (coded f.unit) c o) _ e h in
        let r = running_gives (coded f.unit) c o a.0 a.1 in
        let t = required (posts ((coded f.unit).kind o a.0) b m.0 args && is_some (object_of c b)) _ e a.2 in
        let k = async_is a.0.served (code_kind f.unit a.0.object) b m.0 args (first _ (is_some (object_of c b)) t.0) in
        let q = kept_of f shaped good (class_in f c) a.0.object (w.objects o a.0 r.0) (C.Async b m args) k.1 in
        asked_named b m args q.0 q.1

    messages_named : (r : ℕ) (ms : List Message) → Each (IsMessageFor f c r) ms → Each (λ (m : Message). IsNamed f.unit.names (id m.method)) ms
    messages_named r [] h = tt
    messages_named r (m ∷ ms) h = (method_named_so f shaped good h.0.0.object.class h.0.1 h.0.4 m.method h.0.2 h.0.5, messages_named r ms h.1)

    shows_names : ShowsNames f.unit c
    shows_names = record { calls = call_named; sends = send_named; messages = λ s r. messages_named r (messages_of c s r) (w.messages s r) }

  keeps_names : KeepsNames f.unit IsTypedMade
  keeps_names = record { lawful = typed_made_lawful; made = λ c w. w.0; names = λ c w. shows_names c w.1 }

  module _ (writable : IsWritable f) (l : Placement) (suits : Suits l f.unit) (q : ℕ) (most : q ≤ 10000) (es : List Event) (few : length es ≤ 2000000) (each : Each IsReadableEvent es) where
    begins : (c : Config Placed) → start (coded f.unit) l ≡ Some c → IsTypedMade c
    begins c e =
        ((made_start_sound f.unit (verified_is_proper f shaped good) l (code_fits f.unit l suits) c e).state.typed, start_typed f shaped good l c e)

    pub file_reads : IsRecord f.unit.names (record_of (coded f.unit) l q es).lines
    file_reads = record_reads f.unit (verified_is_proper f shaped good) (verified_spelled f shaped good writable) l suits q most IsTypedMade keeps_names begins es few each

    pub file_reads_on_wires : IsRecord f.unit.names (record_on_wires (coded f.unit) l q es).lines
    file_reads_on_wires =
        record_reads_on_wires f.unit (verified_is_proper f shaped good) (verified_spelled f shaped good writable) l suits q most IsTypedMade keeps_names begins es few each
