-- The request number of each line of a record is that of the post that it answers. For each object that has a packet
-- on its way, waits or is due a value, its latest post in the record so far is the post of its request.
use Rattle.std.proofs.Common.{◌≡◌, ◌≢◌, ◌⊎◌, inl, inr, refl, sym, ap, subst, ◌∙◌, ℕ, zero, suc, ◌+◌, ◌-◌, ◌==◌, List, [], ◌∷◌, ◌++◌, length, replicate, Option, Some, None, Bool, true, false, if◌then◌else◌, slice_get, nat_lt, arith}
use Rattle.std.specs.Ordering.{nat_cmp}
use Rattle.std.specs.declared.cmp.Ordering.{Ordering}
use Rattle.std.specs.declared.cmp.Ordering.TheVariants.{Less, Equal, Greater}
use Rattle.std.specs.FinMap.{find, put}
use Rattle.run_types.specs.declared.types.Value.{Value}
use Rattle.run_types.specs.declared.types.Value.TheVariants as V
use Rattle.run_types.specs.declared.types.NameId.{NameId}
use Rattle.run_types.specs.declared.types.Label.{Label}
use Rattle.run_types.specs.declared.types.Label.TheVariants as L
use Rattle.run_types.specs.declared.types.What.{What}
use Rattle.run_types.specs.declared.types.What.TheVariants as W'
use Rattle.run_types.specs.declared.types.Event.{Event}
use Rattle.run_types.specs.declared.types.Event.TheVariants as Ev
use Rattle.run_types.specs.declared.types.Line.{Line}
use Rattle.run_types.specs.declared.types.Line.TheVariants as R
use Rattle.run_types.specs.declared.types.Placement.{Placement}
use Rattle.run_types.specs.Tables.{Pair, pair_cmp, Each}
use Rattle.mesh_semantics.specs.Kind as K
use Rattle.mesh_semantics.specs.Kind.{Kind, Alternative}
use Rattle.mesh_semantics.specs.Language.{Language}
use Rattle.mesh_semantics.specs.Config.{Config, object_of}
use Rattle.mesh_semantics.specs.Moves.{move, moves}
use Rattle.run_types.specs.Paths.{is_link, on_link, move_head}
use Rattle.mesh_semantics.specs.Delay as D
use Rattle.mesh_semantics.specs.Wire.{Wire, Coming, Empty, Stale, Next, coming, take, wire_act}
use Rattle.mesh_semantics.specs.Delay.{Packet, Wires, Arrival, Delay, wire_at, no_delay, post, arrive, arrived_at, is_for, take_arrival, hold, free, count_made, stepped_last, cell_count}
use Rattle.run_types.specs.ObjectNames.{node_of}
use Rattle.mesh_semantics.specs.Act.{Acted, Acts, Full, Nothing, id, within, shows, labelled, object_count, frame_count, first_of, first_arrival, next_name, is_possible, goal_of, create_turn, sent, call_turn, send_turn, return_turn, accept_turn, chosen_turn, choice_turn, local_steps, step_count, local_turn, object_turn, node_turn, turn_of, received, passed, link_move, goal_node, plain_act, on_wires, wire_move, wire_turn, act_over, act, is_quiet}
use Rattle.mesh_semantics.specs.Record.{shown, start, with_root, root_name, after, record_from, record_at}
use Rattle.mesh_semantics.specs.RecordOf.{record_of, record_on_wires}
use Rattle.run_types.specs.Asks.{is_post_of, latest_post, request_number_of, asks_from, Shows, NewAnswers, WhatAnswers, AnswersPost, EachAnswersPost}
use Rattle.mesh_semantics.specs.Sound.{Sent, owns, sent_of, called_of, entries, IsSound}
use Rattle.mesh_semantics.proofs.Fit.{Fit}
use Rattle.mesh_semantics.specs.Lawful.{Lawful}
use Rattle.mesh_semantics.specs.Waits.{IsAnswer, Waits}
use Rattle.mesh_semantics.specs.EventSoundness.{After}
use Rattle.run_types.proofs.Laws.{equal, equals, decide, differ, same_some, given_by, each_map, each_append}
use Rattle.mesh_semantics.proofs.ObjectChange.{each_without, each_head}
use Rattle.mesh_semantics.proofs.OwnedTraffic.{no_part, arrived}
use Rattle.mesh_semantics.proofs.ObjectAndDelayChange.{node_next}
use Rattle.mesh_semantics.proofs.TurnInvariant.{owns_nothing}
use Rattle.mesh_semantics.proofs.RendezvousTurns.{few}
use Rattle.mesh_semantics.proofs.SoundStart.{with_wires}
use Rattle.mesh_semantics.proofs.WireLaws.{IsOfWire, TellsOfWire, tells_of_wire}
use Rattle.mesh_semantics.proofs.EventSoundness.{turn_is, act_kept}

-- the lines so far, of which the latest is the first

-- the latest line that posts a request of the object
abbrev latest : ℕ → List Line → Option Line
latest o [] = None
latest o (R.Event n e what ∷ ls) = if is_post_of o what then Some (R.Event n e what) else latest o ls
latest o (R.End end ∷ ls) = latest o ls

-- the latest post of the object shows this
abbrev Posted : List Line → ℕ → What → Type 0
Posted earlier o what = (n : ℕ) × (e : Event) × (latest o earlier ≡ Some (R.Event n e what))

-- the latest post of the object is a call of b
abbrev HasCalled : List Line → ℕ → ℕ → Type 0
HasCalled earlier o b = (m : NameId) × (args : List Value) × Posted earlier o (W'.PostCall o b m args)

-- events with the numbers 1, 2, ..
abbrev IsCounted : List Line → Type 0
IsCounted [] = Unit {0}
IsCounted (R.Event n e what ∷ ls) = (n ≡ length ls + 1) × IsCounted ls
IsCounted (R.End end ∷ ls) = ⊥

-- these lines in their order, and then the rest
abbrev onto : List Line → List Line → List Line
onto [] rest = rest
onto (l ∷ earlier) rest = onto earlier (l ∷ rest)

at_onto : (es rest : List Line) (i : ℕ) → slice_get (onto es rest) (length es + i) ≡ slice_get rest i
at_onto [] rest i = ap (slice_get rest) (let e : 0 + i ≡ i = omega arith in e)
at_onto (l ∷ es) rest i = ap (slice_get (onto es (l ∷ rest))) (let e : suc (length es) + i ≡ length es + suc i = omega arith in e) ∙ at_onto es (l ∷ rest) (suc i)

-- the latest post stands in its line
shows_latest : (o : ℕ) (es rest : List Line) (n : ℕ) (e : Event) (what : What) → IsCounted es → latest o es ≡ Some (R.Event n e what) → Shows (onto es rest) n what
shows_latest o [] rest n e what c h = absurd (cc)
shows_latest o (R.End end ∷ es) rest n e what c h = absurd c
shows_latest o (R.Event k f w ∷ es) rest n e what c h = by (is_post_of o w) refl (shows_latest o es (R.Event k f w ∷ rest) n e what c.1)
  where
    by : (b : Bool) → is_post_of o w ≡ b → (latest o es ≡ Some (R.Event n e what) → Shows (onto es (R.Event k f w ∷ rest)) n what) → Shows (onto es (R.Event k f w ∷ rest)) n what
    by false i again = again (rw i at h)
    by true i again =
        let same : R.Event k f w ≡ R.Event n e what = same_some (rw i at h) in
        let number : k ≡ n = cc in
        let place : n - 1 ≡ length es + 0 = omega (arith, number, c.0) in
        (omega (arith, number, c.0), e, ap (slice_get (onto es (R.Event k f w ∷ rest))) place ∙ at_onto es (R.Event k f w ∷ rest) 0 ∙ ap Some same)

number_latest : (o : ℕ) (es : List Line) (n : ℕ) (e : Event) (what : What) → latest o es ≡ Some (R.Event n e what) → latest_post o es ≡ n
number_latest o [] n e what h = absurd (cc)
number_latest o (R.End end ∷ es) n e what h = number_latest o es n e what h
number_latest o (R.Event k f w ∷ es) n e what h = by (is_post_of o w) refl (number_latest o es n e what)
  where
    by : (b : Bool) → is_post_of o w ≡ b → (latest o es ≡ Some (R.Event n e what) → latest_post o es ≡ n) → latest_post o (R.Event k f w ∷ es) ≡ n
    by false i again = rw i (again (rw i at h))
    by true i again = let same : R.Event k f w ≡ R.Event n e what = same_some (rw i at h) in rw i (let number : k ≡ n = cc in number)

-- what the latest post of an object shows, the line that answers it shows in its number
answers_it : (o : ℕ) (es rest : List Line) (what : What) → IsCounted es → Posted es o what → Shows (onto es rest) (latest_post o es) what
answers_it o es rest what c p = subst (λ n. Shows (onto es rest) n what) (sym (number_latest o es p.0 p.1 what p.2)) (shows_latest o es rest p.0 p.1 what c p.2)

-- a line that is no post of the object leaves it the latest
later : (n : ℕ) (e : Event) (w : What) (es : List Line) (o : ℕ) (what : What) → is_post_of o w ≡ false → Posted es o what → Posted (R.Event n e w ∷ es) o what
later n e w es o what i p = (p.0, p.1, rw i p.2)

later_call : (n : ℕ) (e : Event) (w : What) (es : List Line) (o b : ℕ) → is_post_of o w ≡ false → HasCalled es o b → HasCalled (R.Event n e w ∷ es) o b
later_call n e w es o b i p = (p.0, p.1, later n e w es o (W'.PostCall o b p.0 p.1) i p.2)

-- a line that posts is the latest
now : (n : ℕ) (e : Event) (w : What) (es : List Line) (o : ℕ) → is_post_of o w ≡ true → Posted (R.Event n e w ∷ es) o w
now n e w es o i = (n, e, rw i refl)

-- what is on its way

-- the latest post of the owner is that of this packet
abbrev PacketKnown : List Line → Packet → Type 0
PacketKnown es (D.Create o goal class) = Posted es o (W'.PostCreate o (id class) goal)
PacketKnown es (D.Created o name) = (c : NameId) × Posted es o (W'.PostCreate o c (node_of name))
PacketKnown es (D.Request o r m args) = Posted es o (W'.PostCall o r (id m) args)
PacketKnown es (D.Result o v) = (r : ℕ) × HasCalled es o r
PacketKnown es (D.Async o r m args) = Unit {0}

-- and of the caller that of this call, which has arrived
abbrev CallKnown : List Line → ℕ × Arrival → Type 0
CallKnown es a = a.1.is_call ≡ true → Posted es a.1.sender (W'.PostCall a.1.sender a.0 (id a.1.method) a.1.args)

abbrev DelayKnown : List Line → Delay → Type 0
DelayKnown es d = Each (λ e. PacketKnown es e.1) d.links × Each (CallKnown es) d.arrived

-- whose request the line answers, has posted it last
abbrev NewKnown : List Line → Event → ℕ → What → Type 0
NewKnown es (Ev.Turn k) o what = Unit {0}
NewKnown es (Ev.Link a b) o what = Posted es o what
NewKnown es (Ev.Wire w a b) o what = Unit {0}

abbrev LabelKnown : List Line → Event → Label → Type 0
LabelKnown es e (L.New o p c) = NewKnown es e o (W'.PostCreate o c (node_of p))
LabelKnown es e (L.Answer p o m args) = Posted es o (W'.PostCall o p m args)
LabelKnown es e (L.Return p o v) = HasCalled es o p
LabelKnown es e _ = Unit {0}

abbrev WhatKnown : List Line → Event → What → Type 0
WhatKnown es e (W'.Step label times) = LabelKnown es e label
WhatKnown es e (W'.Created o p) = (c : NameId) × Posted es o (W'.PostCreate o c (node_of p))
WhatKnown es e (W'.Result o v) = (p : ℕ) × HasCalled es o p
WhatKnown es e _ = Unit {0}

-- so its request number is that of the post
module _ (es rest : List Line) (counted : IsCounted es) where
  new_answers : (e : Event) (o : ℕ) (what : What) → NewKnown es e o what → (n : ℕ) → n ≡ request_number_of es (R.Event 0 e (W'.Step (L.New o 0 (id 0)) 1)) → NewAnswers (onto es rest) e what n
  new_answers (Ev.Turn k) o what h n i = i
  new_answers (Ev.Wire w a b) o what h n i = i
  new_answers (Ev.Link a b) o what h n i = subst (λ m. Shows (onto es rest) m what) (sym i) (answers_it o es rest what counted h)

  answers : (k : ℕ) (e : Event) (what : What) → WhatKnown es e what → WhatAnswers (onto es rest) e what (request_number_of es (R.Event k e what))
  answers k e (W'.Step (L.New o p c) times) h = new_answers e o (W'.PostCreate o c (node_of p)) h _ refl
  answers k e (W'.Step (L.Answer p o m args) times) h = answers_it o es rest (W'.PostCall o p m args) counted h
  answers k e (W'.Step (L.Return p o v) times) h = (h.0, h.1, answers_it o es rest (W'.PostCall o p h.0 h.1) counted h.2)
  answers k e (W'.Step (L.Local o) times) h = refl
  answers k e (W'.Step (L.Send o b m args) times) h = refl
  answers k e (W'.Step (L.Take b s m args) times) h = refl
  answers k e (W'.Step (L.Write o item) times) h = refl
  answers k e (W'.Step (L.Pick o i) times) h = refl
  answers k e (W'.Step (L.Fault o f) times) h = refl
  answers k e (W'.Created o p) h = (h.0, answers_it o es rest (W'.PostCreate o h.0 (node_of p)) counted h.1)
  answers k e (W'.Result o v) h = (h.0, h.1.0, h.1.1, answers_it o es rest (W'.PostCall o h.0 h.1.0 h.1.1) counted h.1.2)
  answers k e (W'.PostCreate o c n) h = refl
  answers k e (W'.PostCall o p m args) h = refl
  answers k e (W'.Arrive o p m) h = refl
  answers k e W'.Pass h = refl
  answers k e W'.Idle h = refl
  answers k e (W'.Frame n) h = refl
  answers k e (W'.Lost n) h = refl
  answers k e (W'.Stale n) h = refl
  answers k e (W'.Acked n) h = refl
  answers k e (W'.Late n) h = refl

-- lists of packets and messages

-- a line that posts for no owner among them
later_packet : (n : ℕ) (e : Event) (w : What) (es : List Line) (x : Packet) → ((o : ℕ) → owns o x ≡ true → is_post_of o w ≡ false) → PacketKnown es x → PacketKnown (R.Event n e w ∷ es) x
later_packet n e w es (D.Create o goal class) i p = later n e w es o (W'.PostCreate o (id class) goal) (i o (equals o)) p
later_packet n e w es (D.Created o name) i p = (p.0, later n e w es o (W'.PostCreate o p.0 (node_of name)) (i o (equals o)) p.1)
later_packet n e w es (D.Request o r m args) i p = later n e w es o (W'.PostCall o r (id m) args) (i o (equals o)) p
later_packet n e w es (D.Result o v) i p = (p.0, later_call n e w es o p.0 (i o (equals o)) p.1)
later_packet n e w es (D.Async o r m args) i p = tt

later_packets : (n : ℕ) (e : Event) (w : What) (es : List Line) (o : ℕ) (ls : List (Pair × Packet)) → ((q : ℕ) → q ≢ o → is_post_of q w ≡ false) → sent_of o ls ≡ []
    → Each (λ x. PacketKnown es x.1) ls → Each (λ x. PacketKnown (R.Event n e w ∷ es) x.1) ls
later_packets n e w es o [] i h k = tt
later_packets n e w es o (x ∷ ls) i h k = by (owns o x.1) refl (later_packets n e w es o ls i)
  where
    by : (b : Bool) → owns o x.1 ≡ b → (sent_of o ls ≡ [] → Each (λ x. PacketKnown es x.1) ls → Each (λ x. PacketKnown (R.Event n e w ∷ es) x.1) ls)
        → Each (λ x. PacketKnown (R.Event n e w ∷ es) x.1) (x ∷ ls)
    by true j again = absurd (let q : Sent x.1 ∷ sent_of o ls ≡ [] = rw j at h in cc)
    by false j again = (
      later_packet n e w es x.1 (λ q f. i q (λ s. absurd (let z : owns o x.1 ≡ true = subst (λ m. owns m x.1 ≡ true) s f in let y : false ≡ true = sym j ∙ z in cc))) k.0,
      again (rw j at h) k.1,
    )

later_calls : (n : ℕ) (e : Event) (w : What) (es : List Line) (o : ℕ) (ms : List (ℕ × Arrival)) → ((q : ℕ) → q ≢ o → is_post_of q w ≡ false) → called_of o ms ≡ []
    → Each (CallKnown es) ms → Each (CallKnown (R.Event n e w ∷ es)) ms
later_calls n e w es o [] i h k = tt
later_calls n e w es o (a ∷ ms) i h k = by a.1.is_call (a.1.sender == o) refl refl (later_calls n e w es o ms i)
  where
    by : (b c : Bool) → a.1.is_call ≡ b → (a.1.sender == o) ≡ c → (called_of o ms ≡ [] → Each (CallKnown es) ms → Each (CallKnown (R.Event n e w ∷ es)) ms)
        → Each (CallKnown (R.Event n e w ∷ es)) (a ∷ ms)
    by true true j m again = absurd (let q = rw (j, m) at h in cc)
    by true false j m again = (
      λ c. later n e w es a.1.sender (W'.PostCall a.1.sender a.0 (id a.1.method) a.1.args) (i a.1.sender (λ s. absurd (let z = rw s at m in let y : false ≡ true = sym z ∙ equals o in cc))) (k.0 c),
      again (rw (j, m) at h) k.1,
    )
    by false c j m again = (λ t. absurd (let y : false ≡ true = sym j ∙ t in cc), again (rw j at h) k.1)

-- a line that is no post
abbrev Silent : What → Type 0
Silent w = (o : ℕ) → is_post_of o w ≡ false

known_later : (n : ℕ) (e : Event) (w : What) (es : List Line) (d : Delay) → Silent w → DelayKnown es d → DelayKnown (R.Event n e w ∷ es) d
known_later n e w es d i k = (
  each_map (λ x. PacketKnown es x.1) (λ x. PacketKnown (R.Event n e w ∷ es) x.1) (λ x p. later_packet n e w es x.1 (λ o f. i o) p) d.links k.0,
  each_map (CallKnown es) (CallKnown (R.Event n e w ∷ es)) (λ a p c. later n e w es a.1.sender (W'.PostCall a.1.sender a.0 (id a.1.method) a.1.args) (i a.1.sender) (p c)) d.arrived k.1,
)

-- a post of an object that has nothing on its way
known_posted : (n : ℕ) (e : Event) (w : What) (es : List Line) (o : ℕ) (d : Delay) → ((q : ℕ) → q ≢ o → is_post_of q w ≡ false) → entries d o ≡ [] → DelayKnown es d → DelayKnown (R.Event n e w ∷ es) d
known_posted n e w es o d i h k =
    let r = no_part (sent_of o d.links) (called_of o d.arrived) h in
    (later_packets n e w es o d.links i r.0 k.0, later_calls n e w es o d.arrived i r.1 k.1)

-- one packet more, and one message
one_packet : (es : List Line) (l : Placement) (from goal : ℕ) (x : Packet) (d : Delay) → PacketKnown es x → DelayKnown es d → DelayKnown es (post l from goal x d)
one_packet es l from goal x d p k = (each_append (λ z. PacketKnown es z.1) d.links _ k.0 p, k.1)

one_message : (es : List Line) (o : ℕ) (a : Arrival) (d : Delay) → CallKnown es (o, a) → DelayKnown es d → DelayKnown es (arrive o a d)
one_message es o a d p k = (k.0, each_append (CallKnown es) d.arrived (o, a) k.1 p)

-- an element between two lists
each_middle : {X : Type 0} (P : X → Type 0) (xs ys : List X) (x : X) → Each P (xs ++ x ∷ ys) → P x
each_middle P [] ys x h = h.0
each_middle P (z ∷ xs) ys x h = each_middle P xs ys x h.1

-- waits

module _ {S : Type 0} (g : Language S) (W : Config S → Type 0) (law : Lawful g W) (waits : Waits g W) (l : Placement) (fit : Fit l) where
  -- what is kept of the lines so far, the configuration and the delay
  record Tracked (es : List Line) (c : Config S) (d : Delay) : Type 0 where
    counted : IsCounted es
    delay : DelayKnown es d
    waiting : (o b m : ℕ) (x : S) → object_of c o ≡ Some x → g.kind o x ≡ K.Waits b m → HasCalled es o b

  -- who posts does not wait
  abbrev Calm : Config S → What → Type 0
  Calm c w = (o b m : ℕ) (x : S) → is_post_of o w ≡ true → object_of c o ≡ Some x → g.kind o x ≢ K.Waits b m

  calm_silent : (c : Config S) (w : What) → Silent w → Calm c w
  calm_silent c w i o b m x t f k = absurd (let z : false ≡ true = sym (i o) ∙ t in cc)

  -- what is known after an event, as far as it is told by the delay
  abbrev Goes : List Line → ℕ → Event → Config S → Acted S → Type 0
  Goes es n e c (Acts w f d) = DelayKnown (R.Event n e w ∷ es) d × WhatKnown es e w × Calm c w
  Goes es n e c (Full kind m) = Unit {0}
  Goes es n e c Nothing = Unit {0}

  goes_within : (es : List Line) (n : ℕ) (e : Event) (c : Config S) (m : ℕ) (a : Acted S) → Goes es n e c a → Goes es n e c (within g l m a)
  goes_within es n e c m Nothing h = tt
  goes_within es n e c m (Full kind k) h = tt
  goes_within es n e c m (Acts w f d) h = by (nat_lt l.objects (object_count f m)) (nat_lt l.frames (frame_count g f m)) (nat_lt l.cells (cell_count d m)) refl refl refl
    where
      by : (t u v : Bool) → nat_lt l.objects (object_count f m) ≡ t → nat_lt l.frames (frame_count g f m) ≡ u → nat_lt l.cells (cell_count d m) ≡ v
          → Goes es n e c (within g l m (Acts w f d))
      by true u v i j k = rw i tt
      by false true v i j k = rw (i, j) tt
      by false false true i j k = rw (i, j, k) tt
      by false false false i j k = rw (i, j, k) h

  goes_shown : (es : List Line) (n : ℕ) (e : Event) (c : Config S) (lab : Label) (times : ℕ) (d : Delay) (z : Option (Config S)) → DelayKnown es d → LabelKnown es e lab
      → Goes es n e c (shows lab times d z)
  goes_shown es n e c lab times d None k h = tt
  goes_shown es n e c lab times d (Some f) k h = (known_later n e (W'.Step lab times) es d (λ o. refl) k, h, calm_silent c (W'.Step lab times) (λ o. refl))

  goes_labelled : (es : List Line) (n : ℕ) (e : Event) (c : Config S) (lab : Label) (d : Delay) → DelayKnown es d → LabelKnown es e lab → Goes es n e c (labelled g c lab d)
  goes_labelled es n e c lab d k h = goes_shown es n e c lab 1 d (move g c lab) k h

  -- where the step may be no transition
  goes_if : (es : List Line) (n : ℕ) (e : Event) (c : Config S) (lab : Label) (d : Delay) → ((f : Config S) → move g c lab ≡ Some f → DelayKnown es d × LabelKnown es e lab)
      → Goes es n e c (labelled g c lab d)
  goes_if es n e c lab d h = by (move g c lab) refl
    where
      by : (z : Option (Config S)) → move g c lab ≡ z → Goes es n e c (shows lab 1 d (move g c lab))
      by None i = rw i tt
      by (Some f) i = let r = h f i in goes_shown es n e c lab 1 d (move g c lab) r.0 r.1

  -- who waits after so many transitions of a label
  begun : (times : ℕ) (lab : Label) (c f : Config S) (o b m : ℕ) (x : S) → W c → moves g c (replicate times lab) ≡ Some f → object_of f o ≡ Some x → g.kind o x ≡ K.Waits b m
      → (object_of c o ≡ Some x) ⊎ IsAnswer lab b o
  begun zero lab c f o b m x w h i k = inl (ap (λ z. object_of z o) (same_some h) ∙ i)
  begun (suc times) lab c f o b m x w h i k =
      let a = given_by (move g c lab) (λ d. moves g d (replicate times lab)) f h in
      by a.0 a.1 (begun times lab a.0 f o b m x (law.kept c a.0 lab w a.1) a.2 i k)
    where
      by : (d : Config S) → move g c lab ≡ Some d → (object_of d o ≡ Some x) ⊎ IsAnswer lab b o → (object_of c o ≡ Some x) ⊎ IsAnswer lab b o
      by d j (inl y) = waits.begun c d lab o b m x w j y k
      by d j (inr y) = inr y

  answered : (es : List Line) (e : Event) (lab : Label) (b o : ℕ) → IsAnswer lab b o → LabelKnown es e lab → HasCalled es o b
  answered es e (L.Answer p k m args) b o i h = (m, args, subst (λ q. Posted es q (W'.PostCall q b m args)) i.1 (subst (λ q. Posted es k (W'.PostCall k q m args)) i.0 h))
  answered es e (L.Local q) b o i h = absurd i
  answered es e (L.New q p k) b o i h = absurd i
  answered es e (L.Return q p v) b o i h = absurd i
  answered es e (L.Send q p m args) b o i h = absurd i
  answered es e (L.Take q p m args) b o i h = absurd i
  answered es e (L.Write q item) b o i h = absurd i
  answered es e (L.Pick q k) b o i h = absurd i
  answered es e (L.Fault q f) b o i h = absurd i

  waiting_later : (es : List Line) (n : ℕ) (e : Event) (w : What) (c f : Config S) (d : Delay) → W c → Tracked es c d → moves g c (shown w) ≡ Some f → WhatKnown es e w → Calm c w
      → (o b m : ℕ) (x : S) → object_of f o ≡ Some x → g.kind o x ≡ K.Waits b m → HasCalled (R.Event n e w ∷ es) o b
  waiting_later es n e w c f d typed t go known calm o b m x i k = by w go known calm
    where
      same : (w : What) → c ≡ f → Calm c w → HasCalled (R.Event n e w ∷ es) o b
      same w s y = let there : object_of c o ≡ Some x = ap (λ z. object_of z o) s ∙ i in at (is_post_of o w) refl there
        where
          at : (t' : Bool) → is_post_of o w ≡ t' → object_of c o ≡ Some x → HasCalled (R.Event n e w ∷ es) o b
          at true j there = absurd (y o b m x j there k)
          at false j there = later_call n e w es o b j (t.waiting o b m x there k)

      by : (w : What) → moves g c (shown w) ≡ Some f → WhatKnown es e w → Calm c w → HasCalled (R.Event n e w ∷ es) o b
      by (W'.Step lab times) go known calm = on (begun times lab c f o b m x typed go i k)
        where
          on : (object_of c o ≡ Some x) ⊎ IsAnswer lab b o → HasCalled (R.Event n e (W'.Step lab times) ∷ es) o b
          on (inl j) = later_call n e (W'.Step lab times) es o b refl (t.waiting o b m x j k)
          on (inr j) = later_call n e (W'.Step lab times) es o b refl (answered es e lab b o j known)
      by (W'.PostCreate q k a) go known calm = same (W'.PostCreate q k a) (same_some go) calm
      by (W'.PostCall q p k args) go known calm = same (W'.PostCall q p k args) (same_some go) calm
      by (W'.Arrive q p k) go known calm = same (W'.Arrive q p k) (same_some go) calm
      by (W'.Created q p) go known calm = same (W'.Created q p) (same_some go) calm
      by (W'.Result q v) go known calm = same (W'.Result q v) (same_some go) calm
      by W'.Pass go known calm = same W'.Pass (same_some go) calm
      by W'.Idle go known calm = same W'.Idle (same_some go) calm
      by (W'.Frame q) go known calm = same (W'.Frame q) (same_some go) calm
      by (W'.Lost q) go known calm = same (W'.Lost q) (same_some go) calm
      by (W'.Stale q) go known calm = same (W'.Stale q) (same_some go) calm
      by (W'.Acked q) go known calm = same (W'.Acked q) (same_some go) calm
      by (W'.Late q) go known calm = same (W'.Late q) (same_some go) calm

  -- the events

  module _ (es : List Line) (c : Config S) (d : Delay) (s : IsSound g W l c d) (t : Tracked es c d) where
    -- a turn of the object o
    module _ (k n o : ℕ) (x : S) (found : object_of c o ≡ Some x) (free_is : entries d o ≡ []) (q : ℕ) where
      knows : DelayKnown es (stepped_last n o d)
      knows = t.delay

      -- a post of o, which is not at a wait
      posted : (w : What) (f : Delay) → is_post_of o w ≡ true → ((p : ℕ) → p ≢ o → is_post_of p w ≡ false) → ((b m : ℕ) → g.kind o x ≢ K.Waits b m) → WhatKnown es (Ev.Turn n) w
          → DelayKnown (R.Event k (Ev.Turn n) w ∷ es) f → Goes es k (Ev.Turn n) c (Acts w c f)
      posted w f mine others still known h = (h, known, calm)
        where
          calm : Calm c w
          calm p b m y i j z = on (decide p o)
            where
              on : (p ≡ o) ⊎ (p ≢ o) → ⊥
              on (inr a) = let u : false ≡ true = sym (others p a) ∙ i in cc
              on (inl a) =
                  let same : x ≡ y = same_some (sym found ∙ ap (object_of c) (sym a) ∙ j) in
                  still b m (ap (λ u. g.kind o u) same ∙ ap (λ u. g.kind u y) (sym a) ∙ z)

      create : (class goal : ℕ) → g.kind o x ≡ K.New class → Goes es k (Ev.Turn n) c (create_turn g l c (stepped_last n o d) n o class goal)
      create class goal is = by (goal == n) refl
        where
          by : (b : Bool) → (goal == n) ≡ b → Goes es k (Ev.Turn n) c (create_turn g l c (stepped_last n o d) n o class goal)
          by true i = rw i (goes_labelled es k (Ev.Turn n) c (L.New o (next_name c n) (id class)) (count_made n class (stepped_last n o d)) knows tt)
          by false i = rw i
              (posted (W'.PostCreate o (id class) goal) (hold o D.Posted (post l n goal (D.Create o goal class) (count_made n class (stepped_last n o d)))) (equals o) (λ p a. differ o p (λ r. a (sym r))) (λ b m r. let z : K.New class ≡ K.Waits b m = sym is ∙ r in cc) tt
              (one_packet (R.Event k (Ev.Turn n) (W'.PostCreate o (id class) goal) ∷ es) l n goal (D.Create o goal class) (count_made n class (stepped_last n o d))
              (now k (Ev.Turn n) (W'.PostCreate o (id class) goal) es o (equals o))
              (known_posted k (Ev.Turn n) (W'.PostCreate o (id class) goal) es o (count_made n class (stepped_last n o d)) (λ p a. differ o p (λ r. a (sym r))) free_is knows)))

      call : (b m : ℕ) (args : List Value) → g.kind o x ≡ K.Send b m args → Goes es k (Ev.Turn n) c (call_turn l c (stepped_last n o d) n o b m args)
      call b m args is =
          posted (W'.PostCall o b (id m) args) (hold o D.Posted (sent l n o b true m args (D.Request o b m args) (stepped_last n o d))) (equals o) (λ p a. differ o p (λ r. a (sym r))) (λ p i r. let z : K.Send b m args ≡ K.Waits p i = sym is ∙ r in cc) tt (by (node_of b == n) refl)
        where
          by : (u : Bool) → (node_of b == n) ≡ u
              → DelayKnown (R.Event k (Ev.Turn n) (W'.PostCall o b (id m) args) ∷ es) (hold o D.Posted (sent l n o b true m args (D.Request o b m args) (stepped_last n o d)))
          by true i = rw i
              (one_message (R.Event k (Ev.Turn n) (W'.PostCall o b (id m) args) ∷ es) b (record { sender = o; is_call = true; method = m; args = args }) (stepped_last n o d)
              (λ z. now k (Ev.Turn n) (W'.PostCall o b (id m) args) es o (equals o))
              (known_posted k (Ev.Turn n) (W'.PostCall o b (id m) args) es o (stepped_last n o d) (λ p a. differ o p (λ r. a (sym r))) free_is knows))
          by false i = rw i
              (one_packet (R.Event k (Ev.Turn n) (W'.PostCall o b (id m) args) ∷ es) l n (node_of b) (D.Request o b m args) (stepped_last n o d)
              (now k (Ev.Turn n) (W'.PostCall o b (id m) args) es o (equals o))
              (known_posted k (Ev.Turn n) (W'.PostCall o b (id m) args) es o (stepped_last n o d) (λ p a. differ o p (λ r. a (sym r))) free_is knows))

      send : (b m : ℕ) (args : List Value) → Goes es k (Ev.Turn n) c (send_turn g l c (stepped_last n o d) n o b m args)
      send b m args = goes_labelled es k (Ev.Turn n) c (L.Send o b (id m) args) (sent l n o b false m args (D.Async o b m args) (stepped_last n o d)) (by (node_of b == n) refl) tt
        where
          by : (u : Bool) → (node_of b == n) ≡ u → DelayKnown es (sent l n o b false m args (D.Async o b m args) (stepped_last n o d))
          by true i = rw i (one_message es b (record { sender = o; is_call = false; method = m; args = args }) (stepped_last n o d) (λ z. absurd (let y : false ≡ true = z in cc)) knows)
          by false i = rw i (one_packet es l n (node_of b) (D.Async o b m args) (stepped_last n o d) tt knows)

      give : (p : ℕ) (v : Value) → g.kind o x ≡ K.Return p v → Goes es k (Ev.Turn n) c (return_turn g l c (stepped_last n o d) n o p v)
      give p v is = goes_labelled es k (Ev.Turn n) c (L.Return o p v) _ (by (node_of p == n) refl) its
        where
          its : HasCalled es p o
          its = let r = law.has_wait c o x p v s.state.typed found is in t.waiting p o r.1 r.0 r.2 r.3

          by : (u : Bool) → (node_of p == n) ≡ u
              → DelayKnown es (if node_of p == n then free p (stepped_last n o d) else hold p (D.Due v) (post l n (node_of p) (D.Result p v) (stepped_last n o d)))
          by true i = rw i knows
          by false i = rw i (one_packet es l n (node_of p) (D.Result p v) (stepped_last n o d) (o, its) knows)

      -- a message that has arrived is taken
      taken : (names : List ℕ) → DelayKnown es (take_arrival o names (stepped_last n o d))
      taken names = (t.delay.0, each_without (CallKnown es) (is_for o names) d.arrived t.delay.1)

      accept : (names : List ℕ) (a : Option Arrival) → first_arrival names (arrived_at d o) ≡ a → Goes es k (Ev.Turn n) c (accept_turn g c (stepped_last n o d) o names a)
      accept names None i = tt
      accept names (Some a) i = by a.is_call refl
        where
          by : (u : Bool) → a.is_call ≡ u → Goes es k (Ev.Turn n) c (accept_turn g c (stepped_last n o d) o names (Some a))
          by true j =
              let r = arrived o names d.arrived a i in
              let its : CallKnown es (o, a) = each_middle (CallKnown es) r.before r.behind (o, a) (subst (Each (CallKnown es)) r.whole t.delay.1) in
              rw j (goes_labelled es k (Ev.Turn n) c (L.Answer o a.sender (id a.method) a.args) (free a.sender (take_arrival o names (stepped_last n o d))) (taken names) (its j))
          by false j = rw j (goes_labelled es k (Ev.Turn n) c (L.Take o a.sender (id a.method) a.args) (take_arrival o names (stepped_last n o d)) (taken names) tt)

      choice : (i : ℕ) (alts : List Alternative) → Goes es k (Ev.Turn n) c (choice_turn g c (stepped_last n o d) o i alts)
      choice i [] = tt
      choice i (a ∷ alts) = by (is_possible (arrived_at d o) a) refl (choice (i + 1) alts)
        where
          chosen : (names : Option (List ℕ)) → Goes es k (Ev.Turn n) c (chosen_turn g c (stepped_last n o d) o i names)
          chosen None = goes_labelled es k (Ev.Turn n) c (L.Pick o i) (stepped_last n o d) knows tt
          chosen (Some names) = accept names (first_arrival names (arrived_at d o)) refl

          by : (u : Bool) → is_possible (arrived_at d o) a ≡ u → Goes es k (Ev.Turn n) c (choice_turn g c (stepped_last n o d) o (i + 1) alts)
              → Goes es k (Ev.Turn n) c (choice_turn g c (stepped_last n o d) o i (a ∷ alts))
          by true j r = rw j (chosen a.names)
          by false j r = rw j r

      local : (times : ℕ) (z : Option (Config S)) → Goes es k (Ev.Turn n) c (local_turn n o (stepped_last n o d) times z)
      local zero z = tt
      local (suc times) z = goes_shown es k (Ev.Turn n) c (L.Local o) (suc times) (stepped_last n o d) z knows tt

      turn : Goes es k (Ev.Turn n) c (object_turn g l q c (stepped_last n o d) n o (g.kind o x))
      turn = by (g.kind o x) refl
        where
          by : (z : Kind) → g.kind o x ≡ z → Goes es k (Ev.Turn n) c (object_turn g l q c (stepped_last n o d) n o z)
          by K.Finished i = tt
          by K.Local i = local (step_count g l q n o c) (local_steps g l n o (step_count g l q n o c) c)
          by (K.Fault f) i = goes_labelled es k (Ev.Turn n) c (L.Fault o f) (stepped_last n o d) knows tt
          by (K.New class) i = create class (goal_of g l (stepped_last n o d) n class) i
          by (K.Send b m args) i = call b m args i
          by (K.Async b m args) i = send b m args
          by (K.Write item) i = goes_labelled es k (Ev.Turn n) c (L.Write o item) (stepped_last n o d) knows tt
          by (K.Select alts) i = choice 1 alts
          by (K.Return p v) i = give p v i
          by (K.Waits b m) i = tt
          by K.Stuck i = tt

    node : (k n q : ℕ) → Goes es k (Ev.Turn n) c (node_turn g l q c d n (turn_of g c d n))
    node k n q = by (turn_of g c d n) refl
      where
        by : (z : Option (ℕ × S)) → turn_of g c d n ≡ z → Goes es k (Ev.Turn n) c (node_turn g l q c d n z)
        by None i = (known_later k (Ev.Turn n) W'.Idle es d (λ o. refl) t.delay, tt, calm_silent c W'.Idle (λ o. refl))
        by (Some e) i =
            let a = (turn_is g W law l fit c d n e s i).acting in
            goes_within es k (Ev.Turn n) c n (object_turn g l q c (stepped_last n e.0 d) n e.0 (g.kind e.0 e.1))
            (turn k n e.0 e.1 a.found (owns_nothing g W law l fit.ways c d e.0 e.1 s.state a.found a.free) q)

    -- a move of a link's head
    move_known : (k a b : ℕ) → Goes es k (Ev.Link a b) c (link_move g l c d a b (first_of (on_link d.links (a, b))))
    move_known k a b = by (first_of (on_link d.links (a, b))) refl
      where
        left : DelayKnown es (record d { links = move_head (a, b) d.links })
        left = (each_without (λ z. PacketKnown es z.1) (λ z. is_link a b z.0) d.links t.delay.0, t.delay.1)

        silent : (w : What) (h : Delay) → Silent w → WhatKnown es (Ev.Link a b) w → DelayKnown es h → Goes es k (Ev.Link a b) c (Acts w c h)
        silent w h i j m = (known_later k (Ev.Link a b) w es h i m, j, calm_silent c w i)

        comes : (x : Packet) → PacketKnown es x → goal_node x ≡ b → Goes es k (Ev.Link a b) c (received g l c (record d { links = move_head (a, b) d.links }) b x)
        comes (D.Create o goal class) p at =
            let place : node_of (next_name c b) ≡ goal = node_next g l b (object_count c b) (few g W law l fit c d b s) ∙ sym at in
            let its : Posted es o (W'.PostCreate o (id class) (node_of (next_name c b))) = subst (λ z. Posted es o (W'.PostCreate o (id class) z)) (sym place) p in
            goes_labelled es k (Ev.Link a b) c (L.New o (next_name c b) (id class))
            (hold o (D.Due (V.Ref (next_name c b))) (post l b (node_of o) (D.Created o (next_name c b)) (record d { links = move_head (a, b) d.links }))) (one_packet es l b (node_of o) (D.Created o (next_name c b)) (record d { links = move_head (a, b) d.links }) (id class, its) left) its
        comes (D.Created o name) p at = silent (W'.Created o name) (free o (record d { links = move_head (a, b) d.links })) (λ q. refl) p left
        comes (D.Request o r m args) p at =
            silent (W'.Arrive o r (id m)) (arrive r (record { sender = o; is_call = true; method = m; args = args }) (record d { links = move_head (a, b) d.links })) (λ q. refl) tt
            (one_message es r (record { sender = o; is_call = true; method = m; args = args }) (record d { links = move_head (a, b) d.links }) (λ z. p) left)
        comes (D.Result o v) p at = silent (W'.Result o v) (free o (record d { links = move_head (a, b) d.links })) (λ q. refl) p left
        comes (D.Async o r m args) p at =
            silent (W'.Arrive o r (id m)) (arrive r (record { sender = o; is_call = false; method = m; args = args }) (record d { links = move_head (a, b) d.links })) (λ q. refl) tt
            (one_message es r (record { sender = o; is_call = false; method = m; args = args }) (record d { links = move_head (a, b) d.links }) (λ z. absurd (let y : false ≡ true = z in cc)) left)

        goes : (x : Packet) → PacketKnown es x → Goes es k (Ev.Link a b) c (passed g l c (record d { links = move_head (a, b) d.links }) b x)
        goes x p = on (goal_node x == b) refl
          where
            on : (u : Bool) → (goal_node x == b) ≡ u → Goes es k (Ev.Link a b) c (passed g l c (record d { links = move_head (a, b) d.links }) b x)
            on true i = rw i (comes x p (equal (goal_node x) b i))
            on false i = rw i (silent W'.Pass (post l b (goal_node x) x (record d { links = move_head (a, b) d.links })) (λ q. refl) tt (one_packet es l b (goal_node x) x (record d { links = move_head (a, b) d.links }) p left))

        by : (z : Option Packet) → first_of (on_link d.links (a, b)) ≡ z → Goes es k (Ev.Link a b) c (link_move g l c d a b z)
        by None i = (known_later k (Ev.Link a b) W'.Idle es d (λ o. refl) t.delay, tt, calm_silent c W'.Idle (λ o. refl))
        by (Some x) i =
            goes_within es k (Ev.Link a b) c b (passed g l c (record d { links = move_head (a, b) d.links }) b x)
            (goes x (each_head (λ z. PacketKnown es z.1) (a, b) d.links x i t.delay.0))

    -- where links are wires

    -- a line that changes wires alone
    wire_known : (k : ℕ) (e : Event) (w : What) (ws : Option Wires) → IsOfWire w → Goes es k e c (Acts w c (record d { wires = ws }))
    wire_known k e (W'.Frame n) ws h = (known_later k e (W'.Frame n) es d (λ o. refl) t.delay, tt, calm_silent c (W'.Frame n) (λ o. refl))
    wire_known k e (W'.Lost n) ws h = (known_later k e (W'.Lost n) es d (λ o. refl) t.delay, tt, calm_silent c (W'.Lost n) (λ o. refl))
    wire_known k e (W'.Stale n) ws h = (known_later k e (W'.Stale n) es d (λ o. refl) t.delay, tt, calm_silent c (W'.Stale n) (λ o. refl))
    wire_known k e (W'.Acked n) ws h = (known_later k e (W'.Acked n) es d (λ o. refl) t.delay, tt, calm_silent c (W'.Acked n) (λ o. refl))
    wire_known k e (W'.Late n) ws h = (known_later k e (W'.Late n) es d (λ o. refl) t.delay, tt, calm_silent c (W'.Late n) (λ o. refl))
    wire_known k e W'.Idle ws h = (known_later k e W'.Idle es d (λ o. refl) t.delay, tt, calm_silent c W'.Idle (λ o. refl))
    wire_known k e (W'.Step lab times) ws h = absurd h
    wire_known k e (W'.PostCreate q m a) ws h = absurd h
    wire_known k e (W'.PostCall q p m args) ws h = absurd h
    wire_known k e (W'.Arrive q p m) ws h = absurd h
    wire_known k e (W'.Created q p) ws h = absurd h
    wire_known k e (W'.Result q v) ws h = absurd h
    wire_known k e W'.Pass ws h = absurd h

    -- what has entered wires is known by no line
    entered : (k : ℕ) (e : Event) (before : List (Pair × Packet)) (ws : Wires) (a : Acted S) → Goes es k e c a → Goes es k e c (on_wires before ws a)
    entered k e before ws (Acts w f h) r = r
    entered k e before ws (Full kind m) r = tt
    entered k e before ws Nothing r = tt

    plain_known : (k q : ℕ) (e : Event) → Goes es k e c (plain_act g l q c d e)
    plain_known k q (Ev.Turn n) = node k n q
    plain_known k q (Ev.Link a b) = move_known k a b
    plain_known k q (Ev.Wire w a b) = (known_later k (Ev.Wire w a b) W'.Idle es d (λ o. refl) t.delay, tt, calm_silent c W'.Idle (λ o. refl))

    over_known : (k q : ℕ) (ws : Option Wires) (e : Event) → Goes es k e c (act_over g l q c d ws e)
    over_known k q None e = plain_known k q e
    over_known k q (Some ws) (Ev.Turn n) = entered k (Ev.Turn n) d.links ws (plain_act g l q c d (Ev.Turn n)) (node k n q)
    over_known k q (Some ws) (Ev.Link a b) = by (coming (wire_at ws (a, b)))
      where
        by : (x : Coming Packet) → Goes es k (Ev.Link a b) c (wire_move g l c d ws a b x)
        by Empty = (known_later k (Ev.Link a b) W'.Idle es d (λ o. refl) t.delay, tt, calm_silent c W'.Idle (λ o. refl))
        by (Stale n) = wire_known k (Ev.Link a b) (W'.Stale n) (Some (put pair_cmp (a, b) (take (wire_at ws (a, b))) ws)) tt
        by (Next x) = entered k (Ev.Link a b) (move_head (a, b) d.links) (put pair_cmp (a, b) (take (wire_at ws (a, b))) ws) (plain_act g l q c d (Ev.Link a b)) (move_known k a b)
    over_known k q (Some ws) (Ev.Wire w a b) = by (wire_act w (wire_at ws (a, b))) (tells_of_wire w (wire_at ws (a, b)))
      where
        by : (r : Option (What × Wire Packet)) → TellsOfWire r → Goes es k (Ev.Wire w a b) c (wire_turn c d ws (a, b) r)
        by None h = (known_later k (Ev.Wire w a b) W'.Idle es d (λ o. refl) t.delay, tt, calm_silent c W'.Idle (λ o. refl))
        by (Some r) h = wire_known k (Ev.Wire w a b) r.0 (Some (put pair_cmp (a, b) r.1 ws)) h

    event_known : (k q : ℕ) (e : Event) → Goes es k e c (act g l q c d e)
    event_known k q e = over_known k q d.wires e

  -- whole records

  -- the lines that are left, behind those so far, with their request numbers
  abbrev From : List Line → List Line → List Line → Type 0
  From all es [] = Unit {0}
  From all es (x ∷ xs) = AnswersPost all x (request_number_of es x) × From all (x ∷ es) xs

  tracked : (es : List Line) (n q : ℕ) (e : Event) (c : Config S) (d : Delay) → n ≡ length es → IsSound g W l c d → Tracked es c d → (w : What) (f : Config S) (h : Delay)
      → act g l q c d e ≡ Acts w f h → IsSound g W l f h × Tracked (R.Event (n + 1) e w ∷ es) f h × WhatKnown es e w
  tracked es n q e c d len s t w f h i =
      let a : After g W l c (Acts w f h) = subst (After g W l c) i (act_kept g W law l fit c d q e s) in
      let k : Goes es (n + 1) e c (Acts w f h) = subst (Goes es (n + 1) e c) i (event_known es c d s t (n + 1) q e) in (
        a.1,
        record {
          counted = (ap (λ m. m + 1) len, t.counted);
          delay = k.0;
          waiting = waiting_later es (n + 1) e w c f d s.state.typed t a.0 k.1 k.2;
        },
        k.1,
      )

  record_from_known : (q : ℕ) (evs : List Event) (es : List Line) (n : ℕ) (c : Config S) (d : Delay) → n ≡ length es → IsSound g W l c d → Tracked es c d
      → From (onto es (record_from g l q c d n evs).lines) es (record_from g l q c d n evs).lines
  record_from_known q [] es n c d len s t = by (is_quiet g c d) refl
    where
      by : (b : Bool) → is_quiet g c d ≡ b → From (onto es (record_from g l q c d n []).lines) es (record_from g l q c d n []).lines
      by true i = rw (i, record_from) (refl, tt)
      by false i = rw (i, record_from) (refl, tt)
  record_from_known q (e ∷ evs) es n c d len s t = by (is_quiet g c d) refl (λ es' c' d' k. record_from_known q evs es' (n + 1) c' d' k)
    where
      on : (a : Acted S) → act g l q c d e ≡ a
          → ((es' : List Line) (c' : Config S) (d' : Delay) → n + 1 ≡ length es' → IsSound g W l c' d' → Tracked es' c' d'
          → From (onto es' (record_from g l q c' d' (n + 1) evs).lines) es' (record_from g l q c' d' (n + 1) evs).lines)
          → From (onto es (after e n c d (λ c' d'. record_from g l q c' d' (n + 1) evs) a).lines) es (after e n c d (λ c' d'. record_from g l q c' d' (n + 1) evs) a).lines
      on (Acts w f h) i rest =
          let r = tracked es n q e c d len s t w f h i in (
            answers es (R.Event (n + 1) e w ∷ (record_from g l q f h (n + 1) evs).lines) t.counted (n + 1) e w r.2,
            rest (R.Event (n + 1) e w ∷ es) f h (let z : n + 1 ≡ suc (length es) = omega (arith, len) in z) r.0 r.1,
          )
      on (Full kind m) i rest = (refl, tt)
      on Nothing i rest = tt

      by : (b : Bool) → is_quiet g c d ≡ b
          → ((es' : List Line) (c' : Config S) (d' : Delay) → n + 1 ≡ length es' → IsSound g W l c' d' → Tracked es' c' d'
          → From (onto es' (record_from g l q c' d' (n + 1) evs).lines) es' (record_from g l q c' d' (n + 1) evs).lines)
          → From (onto es (record_from g l q c d n (e ∷ evs)).lines) es (record_from g l q c d n (e ∷ evs)).lines
      by true i rest = rw (i, record_from) (refl, tt)
      by false i rest = rw (i, record_from) (on (act g l q c d e) refl rest)

  from_each : (all es xs : List Line) → From all es xs → (i n : ℕ) (x : Line) → slice_get xs i ≡ Some x → slice_get (asks_from es xs) i ≡ Some n → AnswersPost all x n
  from_each all es [] h i n x a b = absurd (cc)
  from_each all es (y ∷ ys) h zero n x a b =
      let line : y ≡ x = same_some a in
      let number : request_number_of es y ≡ n = same_some b in
      subst (λ z. AnswersPost all x z) number (subst (λ z. AnswersPost all z (request_number_of es y)) line h.0)
  from_each all es (y ∷ ys) h (suc i) n x a b = from_each all (y ∷ es) ys h.1 i n x a b

  -- a record from the start, with these wires
  answers_from : (q : ℕ) (evs : List Event) (c : Config S) (ws : Option Wires) → start g l ≡ Some c → IsSound g W l c (record no_delay { wires = ws })
      → EachAnswersPost (record_at g l q (start g l) (record no_delay { wires = ws }) evs).lines
  answers_from q evs c ws begins s =
      subst (λ z. EachAnswersPost (record_at g l q z (record no_delay { wires = ws }) evs).lines) (sym begins)
      (from_each (record_from g l q c (record no_delay { wires = ws }) 0 evs).lines [] (record_from g l q c (record no_delay { wires = ws }) 0 evs).lines
      (record_from_known q evs [] 0 c (record no_delay { wires = ws }) refl s (record { counted = tt; delay = (tt, tt); waiting = λ o b m x f k. absurd (alone g.root refl o b m x f k) })))
    where
      alone : (z : Option S) → g.root ≡ z → (o b m : ℕ) (x : S) → object_of c o ≡ Some x → g.kind o x ≡ K.Waits b m → ⊥
      alone None i o b m x f k = let h : None ≡ Some c = subst (λ z. with_root (root_name l) z ≡ Some c) i begins in cc
      alone (Some y) i o b m x f k = on (nat_cmp o (root_name l)) refl
        where
          same : record { objects = (root_name l, y) ∷ []; messages = [] } ≡ c
          same = same_some (subst (λ z. with_root (root_name l) z ≡ Some c) i begins)

          there : find nat_cmp o ((root_name l, y) ∷ []) ≡ Some x
          there = ap (λ (z : Config S). object_of z o) same ∙ f

          on : (r : Ordering) → nat_cmp o (root_name l) ≡ r → ⊥
          on Less j = let h = rw j at there in cc
          on Greater j = let h = rw j at there in cc
          on Equal j = let is : y ≡ x = same_some (rw j at there) in waits.root o b m x (i ∙ ap Some is) k

  pub each_answers_post : (q : ℕ) (evs : List Event) (c : Config S) → start g l ≡ Some c → IsSound g W l c no_delay → EachAnswersPost (record_of g l q evs).lines
  each_answers_post q evs c begins s = answers_from q evs c None begins s

  pub each_answers_post_on_wires : (q : ℕ) (evs : List Event) (c : Config S) → start g l ≡ Some c → IsSound g W l c no_delay → EachAnswersPost (record_on_wires g l q evs).lines
  each_answers_post_on_wires q evs c begins s = answers_from q evs c (Some []) begins (with_wires g W l c no_delay [] s)
