-- The list of events of the entries of a schedule.
use Rattle.std.specs.Prelude.{ℕ, ◌+◌, ◌*◌, List, [], ◌∷◌, ◌++◌, Bool, true, false, length, map, filter, flat_map}
use Rattle.std.specs.List.{repeat, range_with_len}
use Rattle.run_types.specs.declared.types.Event.{Event}
use Rattle.run_types.specs.declared.types.Event.TheVariants as V
use Rattle.run_types.specs.declared.types.WireAct.TheVariants as A
use Rattle.schedule_reader.specs.declared.entry.Entry.{Entry}
use Rattle.schedule_reader.specs.declared.entry.Entry.TheVariants as E
use Rattle.run_types.specs.declared.types.LinkId.{LinkId}
use Rattle.schedule_reader.specs.Entries.{has_link}

abbrev pub turns : List ℕ → List Event
turns ks = map (λ k. V.Turn k) ks

-- the events of a round on a link: a move; if links are wires, a frame is sent before it, and an acknowledgement comes
-- back after it
abbrev pub round_on : Bool → ℕ → ℕ → List Event
round_on true a b = V.Wire A.Send a b ∷ V.Link a b ∷ V.Wire A.Ack a b ∷ []
round_on false a b = V.Link a b ∷ []

-- the events of a round on each link from a node to one of these
abbrev pub moves_to : ℕ → List LinkId → Bool → ℕ → List ℕ → List Event
moves_to w cuts lossy a bs = flat_map (round_on lossy a) (filter (has_link w cuts a) bs)

abbrev pub moves_from : ℕ → List LinkId → Bool → ℕ → List ℕ → List Event
moves_from w cuts lossy n ks = flat_map (λ a. moves_to w cuts lossy a (range_with_len 0 n)) ks

-- one turn of each node, and then the events on each link that is not cut, by its first node and then its second
abbrev pub round_of : ℕ → ℕ → List LinkId → Bool → List Event
round_of w h cuts lossy = turns (range_with_len 0 (w * h)) ++ moves_from w cuts lossy (w * h) (range_with_len 0 (w * h))

-- the events of an entry with the count 1
abbrev pub unit_of : ℕ → ℕ → List LinkId → Bool → Entry → List Event
unit_of w h cuts lossy (E.Turn k c) = V.Turn k ∷ []
unit_of w h cuts lossy (E.Link a b c) = V.Link a b ∷ []
unit_of w h cuts lossy (E.Round c) = round_of w h cuts lossy
unit_of w h cuts lossy (E.Wire act a b c) = V.Wire act a b ∷ []

abbrev pub count_of : Entry → ℕ
count_of (E.Turn k c) = c
count_of (E.Link a b c) = c
count_of (E.Round c) = c
count_of (E.Wire act a b c) = c

-- the events of all entries
abbrev pub events_of : ℕ → ℕ → List LinkId → Bool → List Entry → List Event
events_of w h cuts lossy es = flat_map (λ e. repeat (count_of e) (unit_of w h cuts lossy e)) es

-- the number of these events, computed without the list
abbrev pub total : ℕ → ℕ → List LinkId → Bool → List Entry → ℕ
total w h cuts lossy [] = 0
total w h cuts lossy (e ∷ es) = count_of e * length (unit_of w h cuts lossy e) + total w h cuts lossy es
