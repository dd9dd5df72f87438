-- Over a whole schedule a machine writes the lines of the record.
use Rattle.std.proofs.Common.{◌≡◌, refl, ap₂, ℕ, ◌+◌, List, [], ◌∷◌, Option, Some, None, Bool, true, false}
use Rattle.run_types.specs.declared.types.Event.{Event}
use Rattle.run_types.specs.declared.types.What.{What}
use Rattle.run_types.specs.declared.types.End.TheVariants as E
use Rattle.run_types.specs.declared.types.Line.{Line}
use Rattle.run_types.specs.declared.types.Line.TheVariants as R
use Rattle.run_types.specs.declared.types.Placement.{Placement}
use Rattle.mesh_semantics.specs.Language.{Language}
use Rattle.mesh_semantics.specs.Config.{Config}
use Rattle.mesh_semantics.specs.Delay.{Delay, no_delay, no_delay_on_wires}
use Rattle.mesh_semantics.specs.Act as A
use Rattle.mesh_semantics.specs.Act.{Acted, act, is_quiet}
use Rattle.mesh_semantics.specs.Record.{Record, record_from, record_at, after, ends, start}
use Rattle.mesh_semantics.specs.RecordOf.{record_of, record_on_wires}
use Rattle.run_types.specs.Tables.{Each}
use Rattle.mesh_semantics.specs.Sound.{IsSound}
use Rattle.mesh_semantics.specs.Lawful.{Lawful}
use Rattle.mesh_semantics.specs.EventSoundness.{After}
use Rattle.mesh_semantics.proofs.Laws.{act_kept, with_wires, Fit}
use Rattle.node_semantics.specs.Machine as M
use Rattle.node_semantics.specs.Machine.{Machine, MachineActed, machine_act, machine_start, machine_start_on_wires, is_machine_quiet}
use Rattle.mesh_semantics.specs.Requests.{Requests}
use Rattle.node_semantics.specs.WiresStandFor.{StandsFor, AgreesOn, StartAgrees}
use Rattle.node_semantics.specs.Agrees.{IsOfMesh, IsFresh}
use Rattle.node_semantics.specs.MachineLines.{goes_on, lines_from, lines_at, machine_lines, Then, UnlessQuiet, AreFresh, AreFreshAt, FreshAlong, FreshAlongWires, machine_lines_on_wires}
use Rattle.node_semantics.proofs.WiresAgree.{event_agrees, acknowledged_same}
use Rattle.node_semantics.proofs.QuietAgrees.{quiet_agrees}
use Rattle.node_semantics.proofs.StartsAgree.{start_agrees, start_agrees_on_wires}

module _ {S : Type 0} (g : Language S) (W : Config S → Type 0) (law : Lawful g W) (req : Requests g W) (l : Placement) (fit : Fit l) (q : ℕ) where
  at_end : (c : Config S) (d : Delay) (done : ℕ) (a b : Bool) → a ≡ b
      → (elim a as (λ x. List Line) [ true ↦ R.End (E.Quiet done) ∷ [] | false ↦ R.End (E.Schedule done) ∷ [] ])
      ≡ (elim b as (λ x. Record S) [ true ↦ ends (E.Quiet done) c d | false ↦ ends (E.Schedule done) c d ]).lines
  at_end c d done true true e = refl
  at_end c d done false false e = refl
  at_end c d done true false e = absurd (cc)
  at_end c d done false true e = absurd (cc)

  before : (c : Config S) (d : Delay) (done : ℕ) (P : Type 0) (xs : List Line) (r : Record S) → (P → xs ≡ r.lines) → (a b : Bool) → a ≡ b → UnlessQuiet a P
      → (elim a as (λ x. List Line) [ true ↦ R.End (E.Quiet done) ∷ [] | false ↦ xs ]) ≡ (elim b as (λ x. Record S) [ true ↦ ends (E.Quiet done) c d | false ↦ r ]).lines
  before c d done P xs r h true true e p = refl
  before c d done P xs r h false false e p = h p
  before c d done P xs r h true false e p = absurd (cc)
  before c d done P xs r h false true e p = absurd (cc)

  lines_agree : (es : List Event) (numbers : List ℕ) → Each (IsOfMesh l) es → (m : Machine S) (c : Config S) (d : Delay) (done : ℕ) → AreFresh g l q m es numbers
      → IsSound g W l c d → StandsFor g l m c d → lines_from g l q m done es numbers ≡ (record_from g l q c d done es).lines
  lines_agree [] numbers inside m c d done fresh s st = at_end c d done (is_machine_quiet g m) (is_quiet g c d) (quiet_agrees g W law req l m c d s.state st.state (acknowledged_same m.wires d.wires m.links st.wires))
  lines_agree (e ∷ es) [] inside m c d done fresh s st = absurd fresh
  lines_agree (e ∷ es) (k ∷ numbers) inside m c d done fresh s st =
      before c d done (IsFresh m k e × Then (λ m'. AreFresh g l q m' es numbers) (machine_act g l q k m e)) _ _
      (λ f. on (machine_act g l q k m e) (act g l q c d e) (event_agrees g W law req l fit.objects m c d s st.state q k st.wires e inside.0 f.0) (act_kept g W law l fit c d q e s) f.1
      (λ m' c' d' f' s' st'. lines_agree es numbers inside.1 m' c' d' (done + 1) f' s' st'))
      (is_machine_quiet g m) (is_quiet g c d) (quiet_agrees g W law req l m c d s.state st.state (acknowledged_same m.wires d.wires m.links st.wires)) fresh
    where
      on : (a : MachineActed S) (b : Acted S) → AgreesOn g l a b → After g W l c b → Then (λ m'. AreFresh g l q m' es numbers) a
          → ((m' : Machine S) (c' : Config S) (d' : Delay) → AreFresh g l q m' es numbers → IsSound g W l c' d' → StandsFor g l m' c' d'
          → lines_from g l q m' (done + 1) es numbers ≡ (record_from g l q c' d' (done + 1) es).lines)
          → goes_on e done (λ m'. lines_from g l q m' (done + 1) es numbers) a ≡ (after e done c d (λ c' d'. record_from g l q c' d' (done + 1) es) b).lines
      on (M.Acts w m') (A.Acts v c' d') h a f rest = ap₂ (λ (x : What) (ls : List Line). R.Event (done + 1) e x ∷ ls) h.0 (rest m' c' d' f a.1 h.1)
      on (M.Full i n) (A.Full j b) h a f rest = ap₂ (λ x y. R.End (E.Full x y done) ∷ []) h.0 h.1
      on (M.Acts w m') (A.Full j b) h a f rest = absurd h
      on (M.Acts w m') A.Nothing h a f rest = absurd h
      on (M.Full i n) (A.Acts v c' d') h a f rest = absurd h
      on (M.Full i n) A.Nothing h a f rest = absurd h
      on M.Nothing b h a f rest = absurd h

  same_lines_at : (d : Delay) (es : List Event) (numbers : List ℕ) → Each (IsOfMesh l) es → (m : Option (Machine S)) (c : Option (Config S)) → StartAgrees g l d m c → AreFreshAt g l q m es numbers
      → ((k : Config S) → c ≡ Some k → IsSound g W l k d) → lines_at g l q m es numbers ≡ (record_at g l q c d es).lines
  same_lines_at d es numbers inside None None h f sound = refl
  same_lines_at d es numbers inside (Some m) (Some c) h f sound = lines_agree es numbers inside m c d 0 f (sound c refl) h
  same_lines_at d es numbers inside None (Some c) h f sound = absurd h
  same_lines_at d es numbers inside (Some m) None h f sound = absurd h

  pub same_lines : (es : List Event) (numbers : List ℕ) → Each (IsOfMesh l) es → FreshAlong g l q es numbers → ((c : Config S) → start g l ≡ Some c → IsSound g W l c no_delay)
      → machine_lines g l q es numbers ≡ (record_of g l q es).lines
  same_lines es numbers inside fresh sound = same_lines_at no_delay es numbers inside (machine_start g l) (start g l) (start_agrees g W req l fit) fresh sound

  pub same_lines_on_wires : (es : List Event) (numbers : List ℕ) → Each (IsOfMesh l) es → FreshAlongWires g l q es numbers → ((c : Config S) → start g l ≡ Some c → IsSound g W l c no_delay)
      → machine_lines_on_wires g l q es numbers ≡ (record_on_wires g l q es).lines
  same_lines_on_wires es numbers inside fresh sound = same_lines_at no_delay_on_wires es numbers inside (machine_start_on_wires g l) (start g l) (start_agrees_on_wires g W req l fit) fresh
      (λ c e. with_wires g W l c no_delay [] (sound c e))
