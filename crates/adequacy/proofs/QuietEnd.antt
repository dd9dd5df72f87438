-- If all is quiet, a record ends, whatever events are left.
use Rattle.std.proofs.Common.{◌≡◌, refl, ℕ, List, [], ◌∷◌, true}
use Rattle.run_types.specs.declared.types.Event.{Event}
use Rattle.run_types.specs.declared.types.End.TheVariants as E
use Rattle.run_types.specs.declared.types.Placement.{Placement}
use Rattle.mesh_semantics.specs.Language.{Language}
use Rattle.mesh_semantics.specs.Config.{Config}
use Rattle.mesh_semantics.specs.Delay.{Delay}
use Rattle.mesh_semantics.specs.Act.{is_quiet}
use Rattle.mesh_semantics.specs.Record.{ends, record_from}

pub ends_there : {S : Type 0} (g : Language S) (l : Placement) (q done : ℕ) (c : Config S) (d : Delay) (es : List Event) → is_quiet g c d ≡ true
    → record_from g l q c d done es ≡ ends (E.Quiet done) c d
ends_there g l q done c d [] h = rw (h, record_from) refl
ends_there g l q done c d (e ∷ es) h = rw (h, record_from) refl
