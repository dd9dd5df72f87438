-- Code in which the method of each send is a name: its configurations show names, so its records are readable.
use Rattle.std.proofs.Common.{◌≡◌, inl, inr, ℕ, ◌≤◌, List, [], ◌∷◌, length, Some}
use Rattle.run_types.specs.declared.types.Event.{Event}
use Rattle.run_types.specs.declared.types.Label.TheVariants as L
use Rattle.run_types.specs.declared.types.Placement.{Placement}
use Rattle.code_semantics.specs.declared.unit.Unit.{Unit as Code}
use Rattle.code_semantics.specs.Proper.{IsProper}
use Rattle.code_semantics.specs.Suits.{Suits}
use Rattle.mesh_semantics.specs.Act.{id}
use Rattle.mesh_semantics.specs.Config.{Config, messages_of}
use Rattle.run_types.specs.Message.{Message}
use Rattle.mesh_semantics.specs.Record.{start}
use Rattle.mesh_semantics.specs.RecordOf.{record_of, record_on_wires}
use Rattle.run_types.specs.Tables.{Each}
use Rattle.mesh_of_code.specs.Coded.{Placed, coded}
use Rattle.mesh_of_code.proofs.Laws.{code_fits, made_lawful, made_start_sound, label_made, call_made, IsNamedIn, IsMadeMessage, HasMade}
use Rattle.run_record.specs.Readable.{IsNamed, IsReadableEvent, IsRecord}
use Rattle.compiler_correctness.specs.SpelledUnit.{IsSpelledUnit, SendsNames}
use Rattle.compiler_correctness.proofs.ReadableRuns.{KeepsNames, record_reads, record_reads_on_wires}

module _ (u : Code) (proper : IsProper u) (spelled : IsSpelledUnit u) (sends : SendsNames u) where
  all_named : (n : ℕ) → IsNamedIn u n → IsNamed u.names (id n)
  all_named n (inl t) = spelled.classes n t
  all_named n (inr (inl t)) = sends n t.0 (inl t.1)
  all_named n (inr (inr t)) = sends n t.0 (inr t.1)

  messages_named : (ms : List Message) → Each (IsMadeMessage u) ms → Each (λ (m : Message). IsNamed u.names (id m.method)) ms
  messages_named [] h = tt
  messages_named (m ∷ ms) h = (all_named m.method h.0.0, messages_named ms h.1)

  made_keeps_names : KeepsNames u (HasMade u)
  made_keeps_names = record {
    lawful = made_lawful u proper;
    made = λ c w. w;
    names = λ c w. record {
      calls = λ o b m args h. all_named m (call_made u proper c w o h.0 h.1 b m args h.2).0;
      sends = λ o b m args e h. all_named m.0 (label_made u proper c e (L.Send o b m args) w h).0;
      messages = λ s r. messages_named (messages_of c s r) (w.messages s r);
    };
  }

  made_begins : (l : Placement) → Suits l u → (c : Config Placed) → start (coded u) l ≡ Some c → HasMade u c
  made_begins l suits c e = (made_start_sound u proper l (code_fits u l suits) c e).state.typed

  pub code_reads : (l : Placement) → Suits l u → (q : ℕ) → q ≤ 10000 → (es : List Event) → length es ≤ 2000000 → Each IsReadableEvent es → IsRecord u.names (record_of (coded u) l q es).lines
  code_reads l suits q most es few each = record_reads u proper spelled l suits q most (HasMade u) made_keeps_names (made_begins l suits) es few each

  pub code_reads_on_wires : (l : Placement) → Suits l u → (q : ℕ) → q ≤ 10000 → (es : List Event) → length es ≤ 2000000 → Each IsReadableEvent es → IsRecord u.names (record_on_wires (coded u) l q es).lines
  code_reads_on_wires l suits q most es few each = record_reads_on_wires u proper spelled l suits q most (HasMade u) made_keeps_names (made_begins l suits) es few each
