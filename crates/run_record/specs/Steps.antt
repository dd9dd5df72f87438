-- The transitions that a line shows.
use Rattle.std.specs.Prelude.{Option, Some, None}
use Rattle.run_types.specs.declared.types.What.{What}
use Rattle.run_types.specs.declared.types.What.TheVariants as W
use Rattle.run_types.specs.declared.types.Line.{Line}
use Rattle.run_types.specs.declared.types.Line.TheVariants as R
use Rattle.run_record.specs.declared.steps.Steps.{Steps}

-- None for every delay and for an idle event
abbrev pub steps_of_what : What → Option Steps
steps_of_what (W.Step label times) = Some (record { label = label; times = times })
steps_of_what (W.PostCreate o c n) = None
steps_of_what (W.PostCall o p m args) = None
steps_of_what (W.Arrive o p m) = None
steps_of_what (W.Created o p) = None
steps_of_what (W.Result o v) = None
steps_of_what W.Pass = None
steps_of_what W.Idle = None
steps_of_what (W.Frame n) = None
steps_of_what (W.Lost n) = None
steps_of_what (W.Stale n) = None
steps_of_what (W.Acked n) = None
steps_of_what (W.Late n) = None

-- None at the end line
abbrev pub steps_of : Line → Option Steps
steps_of (R.Event number event what) = steps_of_what what
steps_of (R.End end) = None
