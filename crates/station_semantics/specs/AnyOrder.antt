-- Steps in any order, with any frames, in which each packet that is handed out is the one that entered its link with
-- its number. So they need not be steps that a carrier can make: an acknowledgement may come too early, and a frame with
-- another number is dropped.
use Rattle.std.specs.Prelude.{◌≡◌, ℕ, ◌*◌, ◌≤◌, List, [], ◌∷◌, length, drop, Option, Some, None, slice_get}
use Rattle.run_types.specs.declared.types.Placement.{Placement}
use Rattle.run_types.specs.Tables.{Pair, pair_cmp, list_at}
use Rattle.mesh_semantics.specs.Language.{Language}
use Rattle.node_semantics.specs.Machine.{Machine, post_packet}
use Rattle.station_semantics.specs.Station.{Data, Ack, Station, Input, Turn, Wait, Comes, answer}
use Rattle.station_semantics.specs.Whole.{Whole, Step, IsUnusedAt, after_step}
use Rattle.station_semantics.specs.Fits.{Puts, handed_at, node_in}

-- all packets that entered links, after a step
abbrev pub entered_by : {S : Type 0} → Language S → Placement → ℕ → Step → Puts → Option (Station S) → Puts
entered_by g l q i puts None = puts
entered_by g l q i puts (Some s) = post_packet l i.at (answer g l q i.at i.fresh i.sends s i.input).posted puts

abbrev pub entered_after : {S : Type 0} → Language S → Placement → ℕ → Whole S → Puts → Step → Puts
entered_after g l q w puts i = entered_by g l q i puts (slice_get w.stations i.at)

-- a packet that is handed out has entered its link with its number
abbrev pub IsRight : {S : Type 0} → Whole S → Puts → Step → Input → Type 0
IsRight w puts i Turn = IsUnusedAt i.fresh (slice_get w.stations i.at)
IsRight w puts i Wait = Unit {0}
IsRight w puts i (Comes a (Data k e)) = k ≡ handed_at w (a, i.at) → slice_get (list_at pair_cmp (a, i.at) puts) k ≡ Some e
IsRight w puts i (Comes b (Ack k)) = Unit {0}

abbrev pub AreRight : {S : Type 0} → Language S → Placement → ℕ → Whole S → Puts → List Step → Type 0
AreRight g l q w puts [] = Unit {0}
AreRight g l q w puts (i ∷ is) = IsRight w puts i i.input × AreRight g l q (after_step g l q w i) (entered_after g l q w puts i) is

-- the placement with this many cells for each node
abbrev pub with_cells : Placement → ℕ → Placement
with_cells l cells = record l { cells = cells }

-- the nodes are the same, and on each link of the machine are the packets that entered it and were not handed out
pub record Agrees {S : Type 0} (l : Placement) (w : Whole S) (m : Machine S) (puts : Puts) : Type 0 where
  pub size : length w.stations ≡ l.width * l.height
  pub plain : m.wires ≡ None
  pub nodes : (n : ℕ) → slice_get m.nodes n ≡ node_in (slice_get w.stations n)
  pub on_links : (k : Pair) → list_at pair_cmp k m.links ≡ drop (handed_at w k) (list_at pair_cmp k puts)
  pub handed : (k : Pair) → handed_at w k ≤ length (list_at pair_cmp k puts)
  pub from : (k : Pair) → slice_get w.stations k.0 ≡ None → list_at pair_cmp k puts ≡ []
