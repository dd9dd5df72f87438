-- The merged lines of steps in any order are a record over nodes with enough cells, from the start.
use Rattle.std.proofs.Common.{◌≡◌, sym, ap, subst, ◌∙◌, ℕ, ◌≤◌, List, [], Some, Bool}
use Rattle.run_types.specs.declared.types.Placement.{Placement}
use Rattle.mesh_semantics.specs.Language.{Language}
use Rattle.mesh_semantics.specs.Config.{Config}
use Rattle.mesh_semantics.specs.Delay.{no_delay}
use Rattle.mesh_semantics.specs.Lawful.{Lawful}
use Rattle.mesh_semantics.specs.Record.{start}
use Rattle.mesh_semantics.specs.RecordOf.{record_of}
use Rattle.mesh_semantics.specs.Requests.{Requests}
use Rattle.mesh_semantics.specs.Sound.{IsSound}
use Rattle.mesh_semantics.proofs.Laws.{Fit}
use Rattle.node_semantics.specs.Machine.{Machine, is_machine_quiet, machine_start}
use Rattle.node_semantics.specs.MachineLines.{lines_at, AreFreshAt}
use Rattle.node_semantics.proofs.Laws.{same_lines}
use Rattle.station_semantics.specs.AnyOrder.{Agrees, AreRight, with_cells}
use Rattle.station_semantics.specs.Fits.{Fits}
use Rattle.station_semantics.specs.MergedRecord.{events_of, record_from_lines}
use Rattle.station_semantics.specs.Whole.{Whole, Step, Makes, apart, merged}
use Rattle.station_semantics.proofs.AnySteps.{any_steps}
use Rattle.station_semantics.proofs.MergedRecord.{plain_start}
use Rattle.station_semantics.proofs.Starts.{starts_fit}
use Rattle.station_semantics.proofs.Records.{numbers, all_fresh, all_inside, lines_are}

agrees_first : {S : Type 0} (l : Placement) (w : Whole S) (m : Machine S) → Fits l w m [] → Agrees l w m []
agrees_first l w m f = record { size = f.size; plain = f.plain; nodes = f.nodes; on_links = f.on_links; handed = f.handed; from = f.from }

module _ {S : Type 0} (g : Language S) (W : Config S → Type 0) (law : Lawful g W) (req : Requests g W) (l : Placement) (q : ℕ) (m : Machine S) (begins : machine_start g l ≡ Some m) (is : List Step)
    (right : AreRight g l q (apart m) [] is) where
  pub any_record : (most : ℕ) × ((cells : ℕ) → most ≤ cells → Fit (with_cells l cells) → ((c : Config S) → start g (with_cells l cells) ≡ Some c → IsSound g W (with_cells l cells) c no_delay)
      → (b : Bool) × (record_from_lines b 0 (merged g l q (apart m) is) ≡ (record_of g (with_cells l cells) q (events_of (merged g l q (apart m) is))).lines))
  any_record =
      let p = plain_start g l m g.root begins in
      let r = any_steps g l q is (apart m) m [] (agrees_first l (apart m) m (starts_fit l m p.0 p.1 p.2)) right in
      (r.0, λ cells room fit sound. made cells fit sound r.1 (r.3 cells room))
    where
      made : (cells : ℕ) → Fit (with_cells l cells) → ((c : Config S) → start g (with_cells l cells) ≡ Some c → IsSound g W (with_cells l cells) c no_delay)
          → (m' : Machine S) → Makes g (with_cells l cells) q m (merged g l q (apart m) is) m'
          → (b : Bool) × (record_from_lines b 0 (merged g l q (apart m) is) ≡ (record_of g (with_cells l cells) q (events_of (merged g l q (apart m) is))).lines)
      made cells fit sound m' h =
          let es = merged g l q (apart m) is in
          let ns = numbers g (with_cells l cells) q es m m' h in
          let fresh : AreFreshAt g (with_cells l cells) q (machine_start g (with_cells l cells)) (events_of es) ns = subst (λ o. AreFreshAt g (with_cells l cells) q o (events_of es) ns) (sym begins) (all_fresh g (with_cells l cells) q es m m' h) in
          let same = same_lines g W law req (with_cells l cells) fit q (events_of es) ns (all_inside g (with_cells l cells) q es m m' h) fresh sound in
          (is_machine_quiet g m', sym (lines_are g (with_cells l cells) q es m m' 0 h) ∙ ap (λ o. lines_at g (with_cells l cells) q o (events_of es) ns) (sym begins) ∙ same)
