-- The facts that the line of an event gives about the configuration before it, over any language of objects.
use Rattle.std.specs.Prelude.{◌≡◌, ◌⊎◌, ℕ, ◌+◌, ◌*◌, ◌<◌, ◌≤◌, List, [], ◌∷◌, length, Option, Some, None}
use Rattle.run_types.specs.declared.types.Value.{Value}
use Rattle.run_types.specs.declared.types.Value.TheVariants as V
use Rattle.run_types.specs.declared.types.Label.{Label}
use Rattle.run_types.specs.declared.types.Label.TheVariants as L
use Rattle.run_types.specs.declared.types.What.{What}
use Rattle.run_types.specs.declared.types.What.TheVariants as W
use Rattle.run_types.specs.declared.types.Placement.{Placement}
use Rattle.run_types.specs.Message.{Message}
use Rattle.mesh_semantics.specs.Kind as K
use Rattle.mesh_semantics.specs.Language.{Language}
use Rattle.mesh_semantics.specs.Config.{Config, object_of, messages_of}
use Rattle.mesh_semantics.specs.Moves.{move}
use Rattle.mesh_semantics.specs.Delay as D
use Rattle.mesh_semantics.specs.Delay.{Delay, Wires, held, wire_at}
use Rattle.run_types.specs.Tables.{Pair}
use Rattle.mesh_semantics.specs.Wire.{window}
use Rattle.mesh_semantics.specs.Sound.{IsThere}

-- some local transitions of an object, at most q
abbrev pub IsBurst : {S : Type 0} → ℕ → Config S → Label → ℕ → Type 0
IsBurst q c (L.Local o) times = IsThere c o × (0 < times) × (times ≤ q)
IsBurst q c _ times = ⊥

-- who sent a message that is taken is there
abbrev pub HasSender : {S : Type 0} → Config S → Label → Type 0
HasSender c (L.Take b s m args) = IsThere c s
HasSender c _ = Unit {0}

-- one of the messages is on this method
abbrev pub HasMessage : List Message → ℕ → Type 0
HasMessage [] m = ⊥
HasMessage (f ∷ fs) m = (f.method ≡ m) ⊎ HasMessage fs m

-- o is at its call of the method
abbrev pub IsAtCall : {S : Type 0} → Language S → Config S → ℕ → ℕ → ℕ → List Value → Type 0
IsAtCall {S} g c o b m args = (x : S) × (object_of c o ≡ Some x) × (g.kind o x ≡ K.Send b m args)

-- a number of some wire: below the number of packets that the wire has handed out, and a window more
abbrev pub IsWireNumber : Option Wires → ℕ → Type 0
IsWireNumber None n = ⊥
IsWireNumber (Some ws) n = (k : Pair) × (n < length (wire_at ws k).handed + window)

-- A transition that is possible, made once, or a burst; what an object is at that posts; a call that is at hand, or a message of its pair, that arrives; a value that is due; and a number of a wire.
abbrev pub HasEvidence : {S : Type 0} → Language S → Placement → ℕ → Config S → Delay → What → Type 0
HasEvidence {S} g l q c d (W.Step label times) = ((times ≡ 1) × HasSender c label × ((e : Config S) × (move g c label ≡ Some e))) ⊎ IsBurst q c label times
HasEvidence {S} g l q c d (W.PostCreate o k n) = ((x : S) × (object_of c o ≡ Some x) × (g.kind o x ≡ K.New k.0)) × (n < l.width * l.height)
HasEvidence {S} g l q c d (W.PostCall o b m args) = IsAtCall g c o b m.0 args
HasEvidence {S} g l q c d (W.Arrive o b m) = ((args : List Value) × IsAtCall g c o b m.0 args) ⊎ (IsThere c o × HasMessage (messages_of c o b) m.0)
HasEvidence {S} g l q c d (W.Created o n) = IsThere c o × ((v : Value) × (held d o ≡ Some (D.Due v)) × (v ≡ V.Ref n))
HasEvidence {S} g l q c d (W.Result o v) = IsThere c o × (held d o ≡ Some (D.Due v))
HasEvidence {S} g l q c d W.Pass = Unit {0}
HasEvidence {S} g l q c d W.Idle = Unit {0}
HasEvidence g l q c d (W.Frame n) = IsWireNumber d.wires n
HasEvidence g l q c d (W.Lost n) = IsWireNumber d.wires n
HasEvidence g l q c d (W.Stale n) = IsWireNumber d.wires n
HasEvidence g l q c d (W.Acked n) = IsWireNumber d.wires n
HasEvidence g l q c d (W.Late n) = IsWireNumber d.wires n
