-- The line of a record that words represent, with the text of its name.
use Rattle.std.specs.Prelude.{ℕ, List, [], ◌∷◌, Option, Some, None, true, false, bytes_eq, codes}
use Rattle.text_scan.specs.Text.{Text}
use Rattle.run_types.specs.declared.types.FullKind.{FullKind}
use Rattle.run_types.specs.declared.types.FullKind.TheVariants as full
use Rattle.run_types.specs.declared.types.WireAct.{WireAct}
use Rattle.run_types.specs.declared.types.WireAct.TheVariants as A
use Rattle.run_types.specs.declared.types.Event.{Event}
use Rattle.run_types.specs.declared.types.Event.TheVariants as E
use Rattle.run_types.specs.declared.types.End.{End}
use Rattle.run_types.specs.declared.types.End.TheVariants as F
use Rattle.run_types.specs.declared.types.Line.{Line}
use Rattle.run_types.specs.declared.types.Line.TheVariants as R
use Rattle.record_parser.specs.Fields.{count_of}
use Rattle.run_types.specs.Partial.{only_if, ◌>>=◌}
use Rattle.record_parser.specs.Shown.{Shown, what_of}

-- a line with 0 as the number of its name, and the text of the name, if it has one
pub record Told : Type 0 where
  pub line : Line
  pub text : Option Text

abbrev pub ends : End → Option Told
ends e = Some (record { line = R.End e; text = None })

abbrev pub end_of_two : Text → Text → Option Told
end_of_two how k = count_of k >>= λ n. elim (bytes_eq how (codes "quiet")) [
  | true ↦ ends (F.Quiet n)
  | false ↦ only_if (bytes_eq how (codes "schedule")) (ends (F.Schedule n))
]

abbrev pub kind_of : Text → Option FullKind
kind_of w = elim (bytes_eq w (codes "heap")) [
  | true ↦ Some full.Heap
  | false ↦ elim (bytes_eq w (codes "frames")) [ true ↦ Some full.Frames | false ↦ only_if (bytes_eq w (codes "cells")) (Some full.Cells) ]
]

abbrev pub full_of : Text → Text → Text → Option Told
full_of kind node k = kind_of kind >>= λ f. count_of node >>= λ n. count_of k >>= λ done. ends (F.Full f n done)

-- the words after `end`: `quiet K`, `schedule K`, `full heap N K` and the like
abbrev pub end_of : List Text → Option Told
end_of [] = None
end_of (a ∷ []) = None
end_of (a ∷ b ∷ []) = end_of_two a b
end_of (a ∷ b ∷ c ∷ []) = None
end_of (a ∷ b ∷ c ∷ d ∷ []) = only_if (bytes_eq a (codes "full")) (full_of b c d)
end_of (a ∷ b ∷ c ∷ d ∷ e ∷ ws) = None

abbrev pub happened : ℕ → Event → Option Shown → Option Told
happened n e None = None
happened n e (Some s) = Some (record { line = R.Event n e s.what; text = s.text })

abbrev pub turn_of : ℕ → List Text → Option Told
turn_of n [] = None
turn_of n (a ∷ ws) = count_of a >>= λ node. happened n (E.Turn node) (what_of ws)

abbrev pub link_from : ℕ → ℕ → List Text → Option Told
link_from n from [] = None
link_from n from (b ∷ ws) = count_of b >>= λ to. happened n (E.Link from to) (what_of ws)

abbrev pub link_of : ℕ → List Text → Option Told
link_of n [] = None
link_of n (a ∷ ws) = count_of a >>= λ from. link_from n from ws

abbrev pub wire_from : ℕ → WireAct → ℕ → List Text → Option Told
wire_from n act from [] = None
wire_from n act from (b ∷ ws) = count_of b >>= λ to. happened n (E.Wire act from to) (what_of ws)

abbrev pub wire_of : ℕ → WireAct → List Text → Option Told
wire_of n act [] = None
wire_of n act (a ∷ ws) = count_of a >>= λ from. wire_from n act from ws

-- a wire event on the data frames, or on the acknowledgements if the next word is `ack`
abbrev pub side_of : ℕ → WireAct → WireAct → List Text → Option Told
side_of n act other [] = None
side_of n act other (w ∷ ws) = elim (bytes_eq w (codes "ack")) [ true ↦ wire_of n other ws | false ↦ wire_of n act (w ∷ ws) ]

-- a wire event, by its first word
abbrev pub wire_event : ℕ → Text → List Text → Option Told
wire_event n w ws = elim (bytes_eq w (codes "send")) [
  | true ↦ wire_of n A.Send ws
  | false ↦ elim (bytes_eq w (codes "ack")) [
    | true ↦ wire_of n A.Ack ws
    | false ↦ elim (bytes_eq w (codes "lose")) [
      | true ↦ side_of n A.Lose A.LoseAck ws
      | false ↦ elim (bytes_eq w (codes "twice")) [
        | true ↦ side_of n A.Twice A.TwiceAck ws
        | false ↦ only_if (bytes_eq w (codes "late")) (side_of n A.Late A.LateAck ws)
      ]
    ]
  ]
]

abbrev pub event_of : ℕ → List Text → Option Told
event_of n [] = None
event_of n (w ∷ ws) = elim (bytes_eq w (codes "turn")) [ true ↦ turn_of n ws | false ↦ elim (bytes_eq w (codes "link")) [ true ↦ link_of n ws | false ↦ wire_event n w ws ] ]

-- the line of these words, without its line feed
abbrev pub line_of : List Text → Option Told
line_of [] = None
line_of (w ∷ ws) = elim (bytes_eq w (codes "end")) [ true ↦ end_of ws | false ↦ count_of w >>= λ n. event_of n ws ]
