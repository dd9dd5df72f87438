-- Each line of a record of spelled code is readable, and the lines have the order of a record, if everything that configurations show has a name.
use Rattle.std.proofs.Common.{◌≡◌, inl, inr, refl, sym, ap, subst, ◌∙◌, ℕ, ◌+◌, ◌*◌, ◌/◌, ◌<◌, ◌≤◌, ◌==◌, List, [], ◌∷◌, length, Option, Some, None, Bool, true, false, arith}
use Rattle.std.specs.Prelude.{◌&&◌, is_none, slice_get}
use Rattle.run_types.specs.declared.types.NameId.{NameId}
use Rattle.run_types.specs.declared.types.Value.{Value}
use Rattle.run_types.specs.declared.types.Value.TheVariants as V
use Rattle.run_types.specs.declared.types.Item.{Item}
use Rattle.run_types.specs.declared.types.Item.TheVariants as It
use Rattle.run_types.specs.declared.types.Label.{Label}
use Rattle.run_types.specs.declared.types.Label.TheVariants as L
use Rattle.run_types.specs.declared.types.What.{What}
use Rattle.run_types.specs.declared.types.What.TheVariants as W
use Rattle.run_types.specs.declared.types.Event.{Event}
use Rattle.run_types.specs.declared.types.Placement.{Placement}
use Rattle.code_semantics.specs.declared.unit.Instr.TheVariants as I
use Rattle.run_types.specs.declared.frames.CodeObject.{CodeObject}
use Rattle.run_types.specs.declared.frames.Frame.{Frame}
use Rattle.code_semantics.specs.declared.unit.Unit.{Unit as Code}
use Rattle.code_semantics.specs.Frames.{code_of}
use Rattle.code_semantics.specs.Kinds as C
use Rattle.code_semantics.specs.Kinds.{code_kind, frames_kind}
use Rattle.code_semantics.specs.Proper.{IsProper}
use Rattle.code_semantics.specs.Suits.{Suits}
use Rattle.run_types.proofs.Laws.{first, equal, equals, same_some, given_by, required, find_put_same, values_itself}
use Rattle.mesh_semantics.proofs.Laws.{fit_of, act_kept, with_wires, KeepsOn, act_keeps_wires, no_wires_kept, running_gives}
use Rattle.run_types.specs.Message.{Message}
use Rattle.mesh_semantics.specs.Kind.{makes, calls, alternatives}
use Rattle.run_types.specs.Same.{are_same}
use Rattle.mesh_semantics.specs.Lawful.{Lawful}
use Rattle.mesh_semantics.specs.Config.{Config, object_of, messages_of, put_object}
use Rattle.mesh_semantics.specs.Moves.{running, move, moves, offered, first_message}
use Rattle.mesh_semantics.specs.Delay.{Wires, Delay, no_delay, no_delay_on_wires}
use Rattle.mesh_semantics.specs.Wired.{KeepsWires}
use Rattle.mesh_semantics.specs.Act.{id, Acted, Acts, Full, Nothing, act, is_quiet}
use Rattle.mesh_semantics.specs.FitFor.{FitFor}
use Rattle.run_types.specs.Tables.{Each}
use Rattle.mesh_semantics.specs.Sound.{IsThere, IsSound}
use Rattle.mesh_semantics.specs.EventSoundness.{After}
use Rattle.mesh_semantics.specs.Record.{after, record_from, record_at, start, shown}
use Rattle.mesh_semantics.specs.RecordOf.{record_of, record_on_wires}
use Rattle.code_semantics.specs.OfUnit.{IsObjectOf}
use Rattle.code_semantics.proofs.Laws.{HoldsOfItem}
use Rattle.mesh_of_code.specs.Coded.{Placed, kind_of, unless_served, coded}
use Rattle.mesh_of_code.specs.CodeInvariant.{Names}
use Rattle.mesh_of_code.specs.MadeValues.{HasInstr}
use Rattle.mesh_of_code.proofs.Laws.{code_fits, start_there, IsMessageOf, made_lawful, made_start_sound, label_made, call_made, label_there, call_names, DueHas, IsBackedLine, act_told, HandsAtMost, ActHands, act_hands, makes_class, new_at, first_there, new_is, send_is, LabelThere, IsMadeValue, AreMadeArgs, IsMadeItem, HasMade, IsMadeLabel, IsBurst, HasSender, HasMessage, IsAtCall, IsWireNumber, EvidenceOfLine as HasEvidence}
use Rattle.run_record.specs.Readable.{IsCount, IsNamed, IsReadableValue, AreReadableValues, AreReadableArgs, IsReadableItem, IsReadableMessage, IsReadableStep, IsReadableWhat, IsReadableEvent, IsRecordFrom, IsRecord}
use Rattle.compiler_correctness.specs.SpelledUnit.{IsSpelledUnit}

-- the methods that a configuration shows are names: of each call that an object is at, of each message that one can send, and of each that was sent and not yet taken
pub record ShowsNames (u : Code) (c : Config Placed) : Type 0 where
  pub calls : (o b m : ℕ) (args : List Value) → IsAtCall (coded u) c o b m args → IsNamed u.names (id m)
  pub sends : (o b : ℕ) (m : NameId) (args : List Value) (e : Config Placed) → move (coded u) c (L.Send o b m args) ≡ Some e → IsNamed u.names m
  pub messages : (s r : ℕ) → Each (λ (m : Message). IsNamed u.names (id m.method)) (messages_of c s r)

-- what is kept of the configurations of a record, by which they show names
pub record KeepsNames (u : Code) (W : Config Placed → Type 0) : Type 0 where
  pub lawful : Lawful (coded u) W
  pub made : (c : Config Placed) → W c → HasMade u c
  pub names : (c : Config Placed) → W c → ShowsNames u c

-- who is about to make an object is at the instruction that makes it
new_instr : (u : Code) (P : Value → Type 0) (x : CodeObject) → IsObjectOf u P x → (n : ℕ) → code_kind u x ≡ C.New (id n) → HasInstr u (I.New (id n))
new_instr u P x h n e = by x.frames (subst (λ q. frames_kind q x.frames ≡ C.New (id n)) h.is_class e)
  where
    by : (fs : List Frame) → frames_kind (Some h.class) fs ≡ C.New (id n) → HasInstr u (I.New (id n))
    by [] e = absurd (let z : ◌≡◌ {A = C.Kind} C.Finished (C.New (id n)) = e in cc)
    by (f ∷ fs) e =
        let i = new_at f (slice_get (code_of (Some h.class) f.method) f.at) n (ap (λ q. makes_class (kind_of q)) e) in
        (x.class, h.class, f.method, f.at, h.is_class, i.1 ∙ ap (λ j. Some (I.New (id j))) i.2)

-- a sound configuration is sound with another thing that is kept of it
sound_with : (u : Code) (l : Placement) (V W : Config Placed → Type 0) (c : Config Placed) (d : Delay) → W c → IsSound (coded u) V l c d → IsSound (coded u) W l c d
sound_with u l V W c d w s = record {
  state = record {
    typed = w;
    names = s.state.names;
    owned = s.state.owned;
    packets = s.state.packets;
    arrivals = s.state.arrivals;
    lists = s.state.lists;
    order = s.state.order;
  };
  limits = s.limits;
}

module _ (u : Code) (proper : IsProper u) (spelled : IsSpelledUnit u) (l : Placement) (suits : Suits l u) (q : ℕ) (most : q ≤ 10000) where
  nodes_few : l.width * l.height ≤ 64
  nodes_few = let w = suits.width.1 in let h = suits.height.1 in product l.width l.height w h
    where
      product : (a b : ℕ) → a ≤ 8 → b ≤ 8 → a * b ≤ 64
      product a b h k = grind (arith, h, k)

  node_counts : (n : ℕ) → n < l.width * l.height → IsCount n
  node_counts n h = let m = nodes_few in omega (arith, h, m)

  name_counts : (n : ℕ) → n < l.width * l.height * 65536 → IsCount n
  name_counts n h = let m = nodes_few in omega (arith, h, m)

  -- who is there has a name of 32 bits
  there_counts : (c : Config Placed) (d : Delay) (o : ℕ) → IsSound (coded u) (HasMade u) l c d → IsThere c o → IsCount o
  there_counts c d o s h =
      let n = (s.state.names o h).0 in
      let m = nodes_few in
      let k : o / 65536 < l.width * l.height = n in
      omega (arith, k, m)

  -- values
  value_reads : (c : Config Placed) (d : Delay) (v : Value) → IsSound (coded u) (HasMade u) l c d → IsMadeValue u v → Names c v → IsReadableValue v
  value_reads c d (V.Int z) s (inl i) n = i
  value_reads c d (V.Int z) s (inr p) n = spelled.numbers z (p.0, p.1, p.3.0, p.3.1, p.2, p.3.2)
  value_reads c d (V.Bool b) s m n = tt
  value_reads c d (V.Ref o) s m n = there_counts c d o s (n o refl)
  value_reads c d V.Nil s m n = tt

  values_read : (c : Config Placed) (d : Delay) (vs : List Value) → IsSound (coded u) (HasMade u) l c d → Each (IsMadeValue u) vs → Each (Names c) vs → AreReadableValues vs
  values_read c d [] s m n = tt
  values_read c d (v ∷ vs) s m n = (value_reads c d v s m.0 n.0, values_read c d vs s m.1 n.1)

  args_read : (c : Config Placed) (d : Delay) (vs : List Value) → IsSound (coded u) (HasMade u) l c d → AreMadeArgs u vs → Each (Names c) vs → AreReadableArgs vs
  args_read c d vs s m n = (m.0, values_read c d vs s m.1 n)

  item_reads : (c : Config Placed) (d : Delay) (item : Item) → IsSound (coded u) (HasMade u) l c d → IsMadeItem u item → HoldsOfItem (Names c) item → IsReadableItem u.names item
  item_reads c d (It.Value v) s m n = value_reads c d v s m n
  item_reads c d (It.Text t) s m n = spelled.strings t.0 m

  -- who has returned a value has returned a readable one
  returned_reads : (c : Config Placed) (d : Delay) (e : Config Placed) (b o : ℕ) (v : Value) → IsSound (coded u) (HasMade u) l c d → move (coded u) c (L.Return b o v) ≡ Some e → IsReadableValue v
  returned_reads c d e b o v s h =
      value_reads c d v s (label_made u proper c e (L.Return b o v) s.state.typed h) (label_there u proper c s.state.typed.of_code e (L.Return b o v) h).2

  module _ (c : Config Placed) (d : Delay) (s : IsSound (coded u) (HasMade u) l c d) (named : ShowsNames u c) where
    -- the class of an object that is about to be made
    class_named : (o : ℕ) (x : Placed) → object_of c o ≡ Some x → (n : ℕ) → makes ((coded u).kind o x) n ≡ true → IsNamed u.names (id n)
    class_named o x h n e = spelled.classes n (new_instr u (IsMadeValue u) x.object (s.state.typed.objects o x h) n (new_is x.served (code_kind u x.object) n e).1)

    -- what a label names that is possible
    abbrev IsNamedLabel : Label → Type 0
    IsNamedLabel (L.New o n k) = IsNamed u.names k
    IsNamedLabel (L.Answer b o m args) = IsNamed u.names m
    IsNamedLabel (L.Send o b m args) = IsNamed u.names m
    IsNamedLabel (L.Take b o m args) = IsNamed u.names m
    IsNamedLabel _ = Unit {0}

    label_named : (lab : Label) (e : Config Placed) → move (coded u) c lab ≡ Some e → IsNamedLabel lab
    label_named (L.New o n k) e m =
        let a = given_by (running (coded u) c o) _ e m in
        let r = running_gives (coded u) c o a.0 a.1 in
        let t = required (makes ((coded u).kind o a.0) k.0 && is_none (object_of c n)) _ e a.2 in
        class_named o a.0 r.0 k.0 (first _ (is_none (object_of c n)) t.0)
    label_named (L.Answer b o m args) e h =
        let a = given_by (running (coded u) c o) _ e h in
        let r = running_gives (coded u) c o a.0 a.1 in
        let i = given_by (running (coded u) c b) _ e a.2 in
        let t = required (calls ((coded u).kind o a.0) b m.0 args) _ e i.2 in
        let k = send_is a.0.served (code_kind u a.0.object) b m.0 args t.0 in
        named.calls o b m.0 args (a.0, r.0, ap (λ q. unless_served q (kind_of (code_kind u a.0.object))) k.0 ∙ ap kind_of k.1)
    label_named (L.Send o b m args) e h = named.sends o b m args e h
    label_named (L.Take b o m args) e h =
        let a = given_by (running (coded u) c b) _ e h in
        let v = given_by (offered 1 (alternatives ((coded u).kind b a.0)) m.0) _ e a.2 in
        let f = given_by (first_message v.0.1 (messages_of c o b)) _ e v.2 in
        let t = required (f.0.method == m.0 && are_same f.0.args args) _ e f.2 in
        let n = first_there u proper (λ (i : Message). IsNamed u.names (id i.method)) v.0.1 (messages_of c o b) f.0 (named.messages o b) f.1 in
        subst (λ i. IsNamed u.names (id i)) (equal f.0.method m.0 (first _ (are_same f.0.args args) t.0)) n
    label_named (L.Local o) e h = tt
    label_named (L.Return b o v) e h = tt
    label_named (L.Write o item) e h = tt
    label_named (L.Pick o i) e h = tt
    label_named (L.Fault o error) e h = tt

    counts : (o : ℕ) → IsThere c o → IsCount o
    counts o h = there_counts c d o s h

    step_reads : (lab : Label) (e : Config Placed) (f : Delay) → IsSound (coded u) (HasMade u) l e f → HasSender c lab → move (coded u) c lab ≡ Some e → IsReadableStep u.names lab 1
    step_reads lab e f t h m = by lab h (label_made u proper c e lab s.state.typed m) (label_there u proper c s.state.typed.of_code e lab m) (label_named lab e m) (new_there lab m)
      where
        -- the new object is there afterwards
        NewThere : Label → Type 0
        NewThere (L.New o n k) = IsThere e n
        NewThere _ = Unit {0}

        new_there : (lab : Label) → move (coded u) c lab ≡ Some e → NewThere lab
        new_there (L.New o n k) m =
            let a = given_by (running (coded u) c o) _ e m in
            let r = required (makes ((coded u).kind o a.0) k.0 && is_none (object_of c n)) _ e a.2 in
            let y = given_by ((coded u).made k.0) _ e r.1 in
            subst (λ (z : Config Placed). IsThere z n) (same_some y.2) (y.0, find_put_same n y.0 (put_object c o ((coded u).given a.0 (V.Ref n))).objects)
        new_there (L.Local o) m = tt
        new_there (L.Answer p o j args) m = tt
        new_there (L.Return p o v) m = tt
        new_there (L.Send o p j args) m = tt
        new_there (L.Take p o j args) m = tt
        new_there (L.Write o item) m = tt
        new_there (L.Pick o i) m = tt
        new_there (L.Fault o error) m = tt

        by : (lab : Label) → HasSender c lab → IsMadeLabel u lab → LabelThere c lab → IsNamedLabel lab → NewThere lab → IsReadableStep u.names lab 1
        by (L.Local o) h a b i n = (counts o b, (omega arith), (omega arith))
        by (L.New o p k) h a b i n = (counts o b, there_counts e f p t n, i, refl)
        by (L.Answer p o j args) h a b i n = ((counts p b.0, counts o b.1, i, args_read c d args s a.1 b.2), refl)
        by (L.Return p o v) h a b i n = (counts p b.0, counts o b.1, value_reads c d v s a b.2, refl)
        by (L.Send o p j args) h a b i n = ((counts o b.0, counts p b.1, i, args_read c d args s a.1 b.2), refl)
        by (L.Take p o j args) h a b i n = ((counts p b.0, counts o h, i, args_read c d args s a.1 b.1), refl)
        by (L.Write o item) h a b i n = (counts o b.0, item_reads c d item s a b.1, refl)
        by (L.Pick o k) h a b i n = (counts o b.0, b.1, (let z = b.2 in omega (arith, z)), refl)
        by (L.Fault o error) h a b i n = (counts o b, refl)

    burst_reads : (lab : Label) (times : ℕ) → IsBurst q c lab times → IsReadableStep u.names lab times
    burst_reads (L.Local o) times h = (counts o h.0, h.1, (let z = h.2 in omega (arith, z, most)))
    burst_reads (L.New o p k) times h = absurd h
    burst_reads (L.Answer p o j args) times h = absurd h
    burst_reads (L.Return p o v) times h = absurd h
    burst_reads (L.Send o p j args) times h = absurd h
    burst_reads (L.Take p o j args) times h = absurd h
    burst_reads (L.Write o item) times h = absurd h
    burst_reads (L.Pick o i) times h = absurd h
    burst_reads (L.Fault o error) times h = absurd h

    call_at : (o b m : ℕ) (args : List Value) → IsAtCall (coded u) c o b m args → IsReadableMessage u.names o b (id m) args
    call_at o b m args h =
        let made = call_made u proper c s.state.typed o h.0 h.1 b m args h.2 in
        let names = call_names u proper c s.state.typed.of_code o h.0 h.1 b m args (rw (h.2) (rw (equals b, equals m, values_itself args) refl)) in
        (counts o (h.0, h.1), counts b names.0, named.calls o b m args h, args_read c d args s made.1 names.1)

    -- a message on its way
    message_reads : (b m : ℕ) (ms : List Message) → Each (IsMessageOf u c b) ms → Each (λ (f : Message). IsNamed u.names (id f.method)) ms → HasMessage ms m → IsCount b × IsNamed u.names (id m)
    message_reads b m [] h k i = absurd i
    message_reads b m (f ∷ ms) h k (inl e) = (counts b h.0.0, subst (λ n. IsNamed u.names (id n)) e k.0)
    message_reads b m (f ∷ ms) h k (inr i) = message_reads b m ms h.1 k.1 i

    -- one transition
    one_label : (lab : Label) (e : Config Placed) (times : ℕ) → times ≡ 1 → moves (coded u) c (shown (W.Step lab times)) ≡ Some e → move (coded u) c lab ≡ Some e
    one_label lab e times i m =
        let a = given_by (move (coded u) c lab) (λ z. moves (coded u) z []) e (subst (λ n. moves (coded u) c (shown (W.Step lab n)) ≡ Some e) i m) in
        a.1 ∙ a.2

    -- a number of a wire
    number_reads : (done : ℕ) (o : Option Wires) (n : ℕ) → done ≤ 2000000 → HandsAtMost done o → IsWireNumber o n → IsCount n
    number_reads done None n few hands h = absurd h
    number_reads done (Some ws) n few hands h = let a = hands h.0 in let b = h.1 in omega (arith, a, b, few)

    what_reads : (done : ℕ) → done ≤ 2000000 → HandsAtMost done d.wires → (what : What) (e : Config Placed) (f : Delay) → IsSound (coded u) (HasMade u) l e f
        → moves (coded u) c (shown what) ≡ Some e → DueHas IsReadableValue d → HasEvidence (coded u) l q c d what → IsReadableWhat u.names what
    what_reads done few hands (W.Step lab times) e f t m due (inl h) = subst (IsReadableStep u.names lab) (sym h.0) (step_reads lab e f t h.1 (one_label lab e times h.0 m))
    what_reads done few hands (W.Step lab times) e f t m due (inr h) = burst_reads lab times h
    what_reads done few hands (W.PostCreate o k n) e f t m due h = (counts o (h.0.0, h.0.1), class_named o h.0.0 h.0.1 k.0 (rw (h.0.2) (equals k.0)), node_counts n h.1)
    what_reads done few hands (W.PostCall o b j args) e f t m due h = call_at o b j.0 args h
    what_reads done few hands (W.Arrive o b j) e f t m due (inl h) = let r = call_at o b j.0 h.0 h.1 in (r.0, r.1, r.2)
    what_reads done few hands (W.Arrive o b j) e f t m due (inr h) =
        let r = message_reads b j.0 (messages_of c o b) (s.state.typed.of_code.messages o b) (named.messages o b) h.1 in
        (counts o h.0, r.0, r.1)
    what_reads done few hands (W.Created o n) e f t m due h = (counts o h.0, subst IsReadableValue h.1.2 (due o h.1.0 h.1.1))
    what_reads done few hands (W.Result o v) e f t m due h = (counts o h.0, due o v h.1)
    what_reads done few hands W.Pass e f t m due h = tt
    what_reads done few hands W.Idle e f t m due h = tt
    what_reads done few hands (W.Frame n) e f t m due h = number_reads done d.wires n few hands h
    what_reads done few hands (W.Lost n) e f t m due h = number_reads done d.wires n few hands h
    what_reads done few hands (W.Stale n) e f t m due h = number_reads done d.wires n few hands h
    what_reads done few hands (W.Acked n) e f t m due h = number_reads done d.wires n few hands h
    what_reads done few hands (W.Late n) e f t m due h = number_reads done d.wires n few hands h

  fits : FitFor (coded u) l
  fits = code_fits u l suits

  -- the name of an object on the mesh
  ref_reads : (n : ℕ) → n < l.width * l.height * 65536 → IsReadableValue (V.Ref n)
  ref_reads n h = name_counts n h

  module _ (W : Config Placed → Type 0) (keeps : KeepsNames u W) where
    as_made : (c : Config Placed) (d : Delay) → IsSound (coded u) W l c d → IsSound (coded u) (HasMade u) l c d
    as_made c d s = sound_with u l W (HasMade u) c d (keeps.made c s.state.typed) s

    -- the lines from wherever a record goes on after so many events
    abbrev Rest : List Event → ℕ → Type 0
    Rest es done = (c : Config Placed) (d : Delay) → IsSound (coded u) W l c d → DueHas IsReadableValue d → KeepsWires d → HandsAtMost done d.wires
        → IsRecordFrom u.names done (record_from (coded u) l q c d done es).lines

    lines_read : (es : List Event) (c : Config Placed) (d : Delay) (done : ℕ) → IsSound (coded u) W l c d → DueHas IsReadableValue d → KeepsWires d → HandsAtMost done d.wires
        → done + length es ≤ 2000000 → Each IsReadableEvent es → IsRecordFrom u.names done (record_from (coded u) l q c d done es).lines
    lines_read [] c d done s due wired hands few each = by (is_quiet (coded u) c d) refl
      where
        by : (b : Bool) → is_quiet (coded u) c d ≡ b → IsRecordFrom u.names done (record_from (coded u) l q c d done []).lines
        by true i = rw (i, record_from) (refl, tt)
        by false i = rw (i, record_from) (refl, tt)
    lines_read (e ∷ es) c d done s due wired hands few each =
        by (is_quiet (coded u) c d) refl (λ c' d' k m w h. lines_read es c' d' (done + 1) k m w h (omega (arith, few)) each.1)
      where
        on : (x : Acted Placed) → After (coded u) W l c x
            → IsBackedLine (coded u) (HasMade u) (made_lawful u proper) l (fit_of (coded u) l fits) q IsReadableValue ref_reads returned_reads c d (as_made c d s) due x
            → KeepsOn d.wires x → ActHands (done + 1) x → Rest es (done + 1)
            → IsRecordFrom u.names done (after e done c d (λ c' d'. record_from (coded u) l q c' d' (done + 1) es) x).lines
        on (Acts what c' d') h t w k rest = (
          refl,
          (omega (arith, few)),
          each.0,
          what_reads c d (as_made c d s) (keeps.names c s.state.typed) done (omega (arith, few)) hands what c' d' (as_made c' d' h.1) h.0 due t.0,
          rest c' d' h.1 t.1 w.0 k,
        )
        on (Full k n) h t w m rest = (refl, node_counts n t)
        on Nothing h t w k rest = absurd h

        by : (b : Bool) → is_quiet (coded u) c d ≡ b → Rest es (done + 1) → IsRecordFrom u.names done (record_from (coded u) l q c d done (e ∷ es)).lines
        by true i rest = rw (i, record_from) (refl, tt)
        by false i rest = rw (i, record_from)
            (on (act (coded u) l q c d e) (act_kept (coded u) W keeps.lawful l (fit_of (coded u) l fits) c d q e s)
            (act_told (coded u) (HasMade u) (made_lawful u proper) l (fit_of (coded u) l fits) q IsReadableValue ref_reads returned_reads c d (as_made c d s) due wired e)
            (act_keeps_wires (coded u) l q c d e wired) (act_hands (coded u) l q c d done e hands) rest)

    -- the record of a run from the start with a delay in which no one is due anything, and nothing was handed out
    reads_at : (d : Delay) → KeepsWires d → HandsAtMost 0 d.wires → DueHas IsReadableValue d → ((c : Config Placed) → start (coded u) l ≡ Some c → IsSound (coded u) (HasMade u) l c d)
        → ((c : Config Placed) → start (coded u) l ≡ Some c → W c) → (es : List Event) → length es ≤ 2000000 → Each IsReadableEvent es
        → IsRecord u.names (record_at (coded u) l q (start (coded u) l) d es).lines
    reads_at d wired hands due sound begins es few each =
        let c = start_there u proper l in
        subst (λ (z : Option (Config Placed)). IsRecord u.names (record_at (coded u) l q z d es).lines) (sym c.1)
        (lines_read es c.0 d 0 (sound_with u l (HasMade u) W c.0 d (begins c.0 c.1) (sound c.0 c.1)) due wired hands (omega (arith, few)) each)

    pub record_reads : ((c : Config Placed) → start (coded u) l ≡ Some c → W c) → (es : List Event) → length es ≤ 2000000 → Each IsReadableEvent es
        → IsRecord u.names (record_of (coded u) l q es).lines
    record_reads begins es few each = reads_at no_delay tt tt (λ o v h. absurd (cc)) (made_start_sound u proper l fits) begins es few each

    pub record_reads_on_wires : ((c : Config Placed) → start (coded u) l ≡ Some c → W c) → (es : List Event) → length es ≤ 2000000 → Each IsReadableEvent es
        → IsRecord u.names (record_on_wires (coded u) l q es).lines
    record_reads_on_wires begins es few each =
        reads_at no_delay_on_wires no_wires_kept (λ k. omega arith) (λ o v h. absurd (cc))
        (λ c e. with_wires (coded u) (HasMade u) l c no_delay [] (made_start_sound u proper l fits c e)) begins es few each
