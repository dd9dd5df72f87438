-- Each name in a line of a run of code is in the unit's table of names.
use Rattle.std.proofs.Common.{◌≡◌, ◌≢◌, inl, inr, refl, ap, subst, ℕ, zero, suc, ◌+◌, ◌<◌, ◌==◌, List, [], ◌∷◌, ◌++◌, length, Option, Some, None, is_some, is_none, Bool, true, false, if◌then◌else◌}
use Rattle.std.specs.Prelude.{◌&&◌, nat_lt, flat_map}
use Rattle.run_types.specs.declared.types.Value.{Value}
use Rattle.run_types.specs.declared.types.Value.TheVariants as V
use Rattle.run_types.specs.declared.types.Item.{Item}
use Rattle.run_types.specs.declared.types.Item.TheVariants as It
use Rattle.run_types.specs.declared.types.Label.{Label}
use Rattle.run_types.specs.declared.types.Label.TheVariants as L
use Rattle.run_types.specs.declared.types.What.{What}
use Rattle.run_types.specs.declared.types.What.TheVariants as W
use Rattle.run_types.specs.declared.types.FullKind.TheVariants as F
use Rattle.run_types.specs.declared.types.Event.{Event}
use Rattle.run_types.specs.declared.types.Event.TheVariants as Ev
use Rattle.run_types.specs.declared.types.Line.{Line}
use Rattle.run_types.specs.declared.types.Line.TheVariants as R
use Rattle.run_types.specs.declared.types.Placement.{Placement}
use Rattle.code_semantics.specs.declared.unit.Unit.{Unit as Code}
use Rattle.code_semantics.specs.Proper.{IsProper}
use Rattle.run_types.proofs.Laws.{first, second, equal, equals, same_some, given_by, required}
use Rattle.mesh_semantics.proofs.Laws.{each_head, moved_own, moved_some, fit_of, turn_there, act_kept, with_wires, IsOfWire, TellsOfWire, tells_of_wire, running_gives, moved}
use Rattle.run_types.specs.Same.{are_same}
use Rattle.run_types.specs.Message.{Message}
use Rattle.std.specs.FinMap.{put}
use Rattle.run_types.specs.Tables.{Pair, pair_cmp, Each}
use Rattle.mesh_semantics.specs.Kind as K
use Rattle.mesh_semantics.specs.Kind.{Kind, Alternative, makes, calls, posts, writes, alternatives}
use Rattle.mesh_semantics.specs.Config.{Config, object_of, messages_of}
use Rattle.mesh_semantics.specs.Moves.{running, offered, first_message, move}
use Rattle.run_types.specs.Paths.{path, along, on_link, move_head}
use Rattle.mesh_semantics.specs.Wire.{Wire, Coming, Empty, Stale, Next, coming, take, wire_act}
use Rattle.mesh_semantics.specs.Delay as D
use Rattle.mesh_semantics.specs.Delay.{Packet, Arrival, Holding, Wires, Delay, wire_at, arrived_at, held, hold, free, post, take_arrival, count_made, stepped_last, cell_count}
use Rattle.run_types.specs.ObjectNames.{node_of}
use Rattle.mesh_semantics.specs.Act.{id, next_name, sent, Acted, Acts, Full, Nothing, act, within, shows, labelled, object_count, frame_count, local_steps, step_count, local_turn, goal_of, create_turn, first_arrival, accept_turn, chosen_turn, is_possible, choice_turn, object_turn, node_turn, turn_of, first_of, goal_node, received, passed, link_move, plain_act, on_wires, wire_move, wire_turn, act_over, is_quiet}
use Rattle.mesh_semantics.specs.Sound.{Entry, Sent, entries, Owns, OwnedAt, Letter, letter, letter_if, letters, letters_in, notes, Has, IsPlaced, IsSound}
use Rattle.mesh_semantics.specs.FitFor.{FitFor}
use Rattle.mesh_semantics.specs.EventSoundness.{After}
use Rattle.mesh_semantics.specs.Record.{start, after, record_from, record_at}
use Rattle.mesh_semantics.specs.RecordOf.{record_of, record_on_wires}
use Rattle.mesh_of_code.specs.Coded.{Placed, coded}
use Rattle.mesh_of_code.specs.CodeInvariant.{Names, IsOfCode}
use Rattle.mesh_of_code.specs.Known.{IsKnownItem, IsKnownLabel, IsKnownIn, HasLine}
use Rattle.mesh_of_code.proofs.Configs.{IsMessageOf}
use Rattle.mesh_of_code.proofs.LawfulCode.{first_there}
use Rattle.mesh_of_code.proofs.NamesInTable.{name_of, kind_named}
use Rattle.mesh_of_code.proofs.TransitionInvariant.{code_lawful}
use Rattle.mesh_of_code.proofs.StartOfCode.{code_start_sound}

-- what is named, from the tests of transitions

makes_named : (k : Kind) (n : ℕ) → makes k n ≡ true → name_of k ≡ Some n
makes_named (K.New c) n h = ap Some (equal c n h)
makes_named _ n h = absurd (let z : false ≡ true = h in cc)

calls_named : (k : Kind) (b m : ℕ) (args : List Value) → calls k b m args ≡ true → name_of k ≡ Some m
calls_named (K.Send r n vs) b m args h = ap Some (equal n m (second (r == b) (n == m) (first (r == b && n == m) (are_same vs args) h)))
calls_named _ b m args h = absurd (let z : false ≡ true = h in cc)

posts_named : (k : Kind) (b m : ℕ) (args : List Value) → posts k b m args ≡ true → name_of k ≡ Some m
posts_named (K.Async r n vs) b m args h = ap Some (equal n m (second (r == b) (n == m) (first (r == b && n == m) (are_same vs args) h)))
posts_named _ b m args h = absurd (let z : false ≡ true = h in cc)

item_known : (count : ℕ) (k : Kind) (item : Item) → ((n : ℕ) → name_of k ≡ Some n → n < count) → writes k item ≡ true → IsKnownItem count item
item_known count k (It.Value v) known h = tt
item_known count (K.Write (It.Text t)) (It.Text s) known h = known s.0 (ap Some (equal t.0 s.0 h))
item_known count (K.Write (It.Value v)) (It.Text s) known h = absurd (let z : false ≡ true = h in cc)
item_known count _ (It.Text s) known h = absurd (let z : false ≡ true = h in cc)

-- an event's line names what is known
abbrev IsBackedLine : ℕ → Acted Placed → Type 0
IsBackedLine count (Acts what c d) = IsKnownIn count what
IsBackedLine count (Full kind n) = Unit {0}
IsBackedLine count Nothing = Unit {0}

either_told : (count : ℕ) (b : Bool) (x y : Acted Placed) → IsBackedLine count x → IsBackedLine count y → IsBackedLine count (if b then x else y)
either_told count true x y h k = h
either_told count false x y h k = k

-- lists of messages that are on their way
module _ (P : Message → Type 0) where
  notes_before : (xs ys : List Letter) → Each P (notes (xs ++ ys)) → Each P (notes xs)
  notes_before [] ys h = tt
  notes_before (x ∷ xs) ys h = by x.is_call refl (notes_before xs ys)
    where
      by : (b : Bool) → x.is_call ≡ b → (Each P (notes (xs ++ ys)) → Each P (notes xs)) → Each P (notes (x ∷ xs))
      by true e rest = rw e (rest (rw e at h))
      by false e rest = let t : Each P (x.message ∷ notes (xs ++ ys)) = rw e at h in rw e (t.0, rest t.1)

  notes_behind : (xs ys : List Letter) → Each P (notes (xs ++ ys)) → Each P (notes ys)
  notes_behind [] ys h = h
  notes_behind (x ∷ xs) ys h = by x.is_call refl (notes_behind xs ys)
    where
      by : (b : Bool) → x.is_call ≡ b → (Each P (notes (xs ++ ys)) → Each P (notes ys)) → Each P (notes ys)
      by true e rest = rest (rw e at h)
      by false e rest = let t : Each P (x.message ∷ notes (xs ++ ys)) = rw e at h in rest t.1

  -- on one link of a path
  notes_on_link : (f : Packet → List Letter) (ls : List (Pair × Packet)) (k : Pair) (ks : List Pair) → Has ks k → Each P (notes (along f ls ks)) → Each P (notes (flat_map f (on_link ls k)))
  notes_on_link f ls k [] h a = absurd h
  notes_on_link f ls k (j ∷ ks) (inl e) a = subst (λ (i : Pair). Each P (notes (flat_map f (on_link ls i)))) e (notes_behind (along f ls ks) (flat_map f (on_link ls j)) a)
  notes_on_link f ls k (j ∷ ks) (inr i) a = notes_on_link f ls k ks i (notes_before (along f ls ks) (flat_map f (on_link ls j)) a)

  -- its head
  notes_at_head : (f : Packet → List Letter) (xs : List Packet) (x : Packet) → first_of xs ≡ Some x → Each P (notes (flat_map f xs)) → Each P (notes (f x))
  notes_at_head f [] x e a = absurd (cc)
  notes_at_head f (y ∷ xs) x e a = subst (λ (z : Packet). Each P (notes (f z))) (same_some e) (notes_before (f y) (flat_map f xs) a)

-- who owns a call has it at hand
call_at_hand : (o r m : ℕ) (args : List Value) (t : Option Holding) (k : Kind) (es : List Entry) → es ≢ [] → ((e : Entry) → es ≡ e ∷ [] → e ≡ Sent (D.Request o r m args)) → Owns o t k es → name_of k ≡ Some m
call_at_hand o r m args None k es some only h = absurd (some h)
call_at_hand o r m args (Some D.Posted) (K.New class) es some only h = absurd (let z = only (Sent (D.Create o h.0 class)) h.2 in cc)
call_at_hand o r m args (Some D.Posted) (K.Send b n vs) es some only (inl e) = let z = only (Sent (D.Request o b n vs)) e in let s : n ≡ m = cc in ap Some s
call_at_hand o r m args (Some D.Posted) (K.Send b n vs) es some only (inr e) = absurd (let z = only _ e in cc)
call_at_hand o r m args (Some D.Posted) _ es some only h = absurd h
call_at_hand o r m args (Some (D.Due v)) k es some only h = absurd (elim h.1 as (λ u. ⊥) [ inl e ↦ (let z = only _ e in cc) | inr e ↦ (let z = only _ e.2 in cc) ])

abbrev pub IsKnownLine : ℕ → Line → Type 0
IsKnownLine count (R.Event number event what) = IsKnownIn count what
IsKnownLine count (R.End end) = Unit {0}

module _ (u : Code) (proper : IsProper u) where
  -- labels, and what a turn of an object or a packet at its goal does, where the configuration is of the unit
  module _ (c : Config Placed) (w : IsOfCode u c) where
    hand_known : (o : ℕ) (x : Placed) → object_of c o ≡ Some x → (n : ℕ) → name_of ((coded u).kind o x) ≡ Some n → n < length u.names
    hand_known o x h n e = kind_named u proper (Names c) x.object x.served (w.of_unit o x h) n e

    label_known : (lab : Label) (d : Config Placed) → move (coded u) c lab ≡ Some d → IsKnownLabel (length u.names) lab
    label_known (L.Local o) d e = tt
    label_known (L.New o n k) d e =
        let a = given_by (running (coded u) c o) _ d e in
        let r = running_gives (coded u) c o a.0 a.1 in
        let t = required (makes ((coded u).kind o a.0) k.0 && is_none (object_of c n)) _ d a.2 in
        hand_known o a.0 r.0 k.0 (makes_named ((coded u).kind o a.0) k.0 (first _ (is_none (object_of c n)) t.0))
    label_known (L.Answer b o m args) d e =
        let a = given_by (running (coded u) c o) _ d e in
        let r = running_gives (coded u) c o a.0 a.1 in
        let i = given_by (running (coded u) c b) _ d a.2 in
        let t = required (calls ((coded u).kind o a.0) b m.0 args) _ d i.2 in
        hand_known o a.0 r.0 m.0 (calls_named ((coded u).kind o a.0) b m.0 args t.0)
    label_known (L.Return b o v) d e = tt
    label_known (L.Send o b m args) d e =
        let a = given_by (running (coded u) c o) _ d e in
        let r = running_gives (coded u) c o a.0 a.1 in
        let t = required (posts ((coded u).kind o a.0) b m.0 args && is_some (object_of c b)) _ d a.2 in
        hand_known o a.0 r.0 m.0 (posts_named ((coded u).kind o a.0) b m.0 args (first _ (is_some (object_of c b)) t.0))
    label_known (L.Take b s m args) d e =
        let a = given_by (running (coded u) c b) _ d e in
        let v = given_by (offered 1 (alternatives ((coded u).kind b a.0)) m.0) _ d a.2 in
        let f = given_by (first_message v.0.1 (messages_of c s b)) _ d v.2 in
        let t = required (f.0.method == m.0 && are_same f.0.args args) _ d f.2 in
        let q = first_there u proper (IsMessageOf u c b) v.0.1 (messages_of c s b) f.0 (w.messages s b) f.1 in
        subst (λ n. n < length u.names) (equal f.0.method m.0 (first _ (are_same f.0.args args) t.0)) q.1
    label_known (L.Write o item) d e =
        let a = given_by (running (coded u) c o) _ d e in
        let r = running_gives (coded u) c o a.0 a.1 in
        let t = required (writes ((coded u).kind o a.0) item) _ d a.2 in
        item_known (length u.names) ((coded u).kind o a.0) item (hand_known o a.0 r.0) t.0
    label_known (L.Pick o i) d e = tt
    label_known (L.Fault o error) d e = tt

    labelled_told : (lab : Label) (d : Delay) → IsBackedLine (length u.names) (labelled (coded u) c lab d)
    labelled_told lab d = by (move (coded u) c lab) refl
      where
        by : (z : Option (Config Placed)) → move (coded u) c lab ≡ z → IsBackedLine (length u.names) (shows lab 1 d z)
        by None e = tt
        by (Some f) e = label_known lab f e

    within_told : (l : Placement) (n : ℕ) (a : Acted Placed) → IsBackedLine (length u.names) a → IsBackedLine (length u.names) (within (coded u) l n a)
    within_told l n (Full k m) h = tt
    within_told l n Nothing h = tt
    within_told l n (Acts what e f) h = by (nat_lt l.objects (object_count e n)) (nat_lt l.frames (frame_count (coded u) e n)) (nat_lt l.cells (cell_count f n))
      where
        by : (a b t : Bool) → IsBackedLine (length u.names) (if a then Full F.Heap n else (if b then Full F.Frames n else (if t then Full F.Cells n else Acts what e f)))
        by true b t = tt
        by false true t = tt
        by false false true = tt
        by false false false = h

    local_told : (n o : ℕ) (d : Delay) (k : ℕ) (f : Option (Config Placed)) → IsBackedLine (length u.names) (local_turn n o d k f)
    local_told n o d zero f = tt
    local_told n o d (suc k) None = tt
    local_told n o d (suc k) (Some e) = tt

    accept_told : (d : Delay) (o : ℕ) (names : List ℕ) (f : Option Arrival) → IsBackedLine (length u.names) (accept_turn (coded u) c d o names f)
    accept_told d o names None = tt
    accept_told d o names (Some a) =
        either_told (length u.names) a.is_call (labelled (coded u) c (L.Answer o a.sender (id a.method) a.args) (free a.sender (take_arrival o names d)))
        (labelled (coded u) c (L.Take o a.sender (id a.method) a.args) (take_arrival o names d))
        (labelled_told (L.Answer o a.sender (id a.method) a.args) (free a.sender (take_arrival o names d)))
        (labelled_told (L.Take o a.sender (id a.method) a.args) (take_arrival o names d))

    chosen_told : (d : Delay) (o i : ℕ) (names : Option (List ℕ)) → IsBackedLine (length u.names) (chosen_turn (coded u) c d o i names)
    chosen_told d o i None = labelled_told (L.Pick o i) d
    chosen_told d o i (Some names) = accept_told d o names (first_arrival names (arrived_at d o))

    choice_told : (d : Delay) (o i : ℕ) (alts : List Alternative) → IsBackedLine (length u.names) (choice_turn (coded u) c d o i alts)
    choice_told d o i [] = tt
    choice_told d o i (a ∷ alts) =
        either_told (length u.names) (is_possible (arrived_at d o) a) (chosen_turn (coded u) c d o i a.names) (choice_turn (coded u) c d o (i + 1) alts)
        (chosen_told d o i a.names) (choice_told d o (i + 1) alts)

    create_told : (l : Placement) (d : Delay) (n o class goal : ℕ) → class < length u.names → IsBackedLine (length u.names) (create_turn (coded u) l c d n o class goal)
    create_told l d n o class goal known =
        either_told (length u.names) (goal == n) (labelled (coded u) c (L.New o (next_name c n) (id class)) (count_made n class d))
        (Acts (W.PostCreate o (id class) goal) c (hold o D.Posted (post l n goal (D.Create o goal class) (count_made n class d))))
        (labelled_told (L.New o (next_name c n) (id class)) (count_made n class d)) known

    object_told : (l : Placement) (q : ℕ) (d : Delay) (n o : ℕ) (k : Kind) → ((m : ℕ) → name_of k ≡ Some m → m < length u.names) → IsBackedLine (length u.names) (object_turn (coded u) l q c d n o k)
    object_told l q d n o K.Local known = local_told n o d (step_count (coded u) l q n o c) (local_steps (coded u) l n o (step_count (coded u) l q n o c) c)
    object_told l q d n o (K.New class) known = create_told l d n o class (goal_of (coded u) l d n class) (known class refl)
    object_told l q d n o (K.Send b m args) known = known m refl
    object_told l q d n o (K.Async b m args) known = labelled_told (L.Send o b (id m) args) (sent l n o b false m args (D.Async o b m args) d)
    object_told l q d n o (K.Select alts) known = choice_told d o 1 alts
    object_told l q d n o (K.Return k v) known = labelled_told (L.Return o k v) (if node_of k == n then free k d else hold k (D.Due v) (post l n (node_of k) (D.Result k v) d))
    object_told l q d n o (K.Write item) known = labelled_told (L.Write o item) d
    object_told l q d n o (K.Fault e) known = labelled_told (L.Fault o e) d
    object_told l q d n o _ known = tt

  module _ (l : Placement) (c : Config Placed) (d : Delay) (s : IsSound (coded u) (IsOfCode u) l c d) where
    -- a call on a link is at hand in its caller
    request_known : (k : Pair) (o r m : ℕ) (args : List Value) → first_of (on_link d.links k) ≡ Some (D.Request o r m args) → m < length u.names
    request_known k o r m args head =
        hand_known c s.state.typed o placed.sender.0 placed.sender.1 m
        (call_at_hand o r m args (held d o) ((coded u).kind o placed.sender.0) (entries d o)
        (moved_some k (D.Request o r m args) d head o (equals o))
        (λ e i. (moved_own k (D.Request o r m args) d head o e (equals o) i).0)
        (subst (λ (z : Option Placed). OwnedAt (coded u) o z (held d o) (entries d o)) placed.sender.1 (s.state.owned o)).0)
      where
        placed : IsPlaced l c (k, D.Request o r m args)
        placed = each_head (IsPlaced l c) k d.links (D.Request o r m args) head s.state.packets

    -- a message on a link is one of its pair's
    async_known : (k : Pair) (o r m : ℕ) (args : List Value) → first_of (on_link d.links k) ≡ Some (D.Async o r m args) → m < length u.names
    async_known k o r m args head = (subst (λ t. Each (IsMessageOf u c r) (notes (letter_if t false m args))) both here).0.1
      where
        placed : IsPlaced l c (k, D.Async o r m args)
        placed = each_head (IsPlaced l c) k d.links (D.Async o r m args) head s.state.packets

        both : (o == o && r == r) ≡ true
        both = rw (equals o, equals r) refl

        all : Each (IsMessageOf u c r) (notes (letters l d o r))
        all = subst (Each (IsMessageOf u c r)) (s.state.lists o r) (s.state.typed.messages o r)

        here : Each (IsMessageOf u c r) (notes (letter o r (D.Async o r m args)))
        here = notes_at_head (IsMessageOf u c r) (letter o r) (on_link d.links k) (D.Async o r m args) head
            (notes_on_link (IsMessageOf u c r) (letter o r) d.links k (path l (node_of o) (node_of r)) placed.on_path
            (notes_behind (IsMessageOf u c r) (letters_in o (arrived_at d r)) (along (letter o r) d.links (path l (node_of o) (node_of r))) all))

    received_told : (a b : ℕ) (x : Packet) → first_of (on_link d.links (a, b)) ≡ Some x → IsBackedLine (length u.names) (received (coded u) l c (moved (a, b) d) b x)
    received_told a b (D.Create o goal class) head = labelled_told c s.state.typed (L.New o (next_name c b) (id class))
        (hold o (D.Due (V.Ref (next_name c b))) (post l b (node_of o) (D.Created o (next_name c b)) (moved (a, b) d)))
    received_told a b (D.Created o name) head = tt
    received_told a b (D.Request o r m args) head = request_known (a, b) o r m args head
    received_told a b (D.Result o v) head = tt
    received_told a b (D.Async o r m args) head = async_known (a, b) o r m args head

    link_told : (a b : ℕ) → IsBackedLine (length u.names) (link_move (coded u) l c d a b (first_of (on_link d.links (a, b))))
    link_told a b = by (first_of (on_link d.links (a, b))) refl
      where
        by : (f : Option Packet) → first_of (on_link d.links (a, b)) ≡ f → IsBackedLine (length u.names) (link_move (coded u) l c d a b f)
        by None e = tt
        by (Some x) e = within_told c s.state.typed l b (passed (coded u) l c (moved (a, b) d) b x)
            (either_told (length u.names) (goal_node x == b) (received (coded u) l c (moved (a, b) d) b x) (Acts W.Pass c (post l b (goal_node x) x (moved (a, b) d))) (received_told a b x e) tt)

    plain_told : (q : ℕ) (e : Event) → FitFor (coded u) l → IsBackedLine (length u.names) (plain_act (coded u) l q c d e)
    plain_told q (Ev.Wire w a b) fit = tt
    plain_told q (Ev.Link a b) fit = link_told a b
    plain_told q (Ev.Turn n) fit = by (turn_of (coded u) c d n) refl
      where
        by : (z : Option (ℕ × Placed)) → turn_of (coded u) c d n ≡ z → IsBackedLine (length u.names) (node_turn (coded u) l q c d n z)
        by None i = tt
        by (Some e) i =
            within_told c s.state.typed l n (object_turn (coded u) l q c (stepped_last n e.0 d) n e.0 ((coded u).kind e.0 e.1))
            (object_told c s.state.typed l q (stepped_last n e.0 d) n e.0 ((coded u).kind e.0 e.1)
            (hand_known c s.state.typed e.0 e.1 (turn_there (coded u) (IsOfCode u) (code_lawful u proper) l (fit_of (coded u) l fit) c d n e s i)))

    entered_told : (before : List (Pair × Packet)) (ws : Wires) (a : Acted Placed) → IsBackedLine (length u.names) a → IsBackedLine (length u.names) (on_wires before ws a)
    entered_told before ws (Acts what e f) h = h
    entered_told before ws (Full k n) h = tt
    entered_told before ws Nothing h = tt

    wire_told : (what : What) → IsOfWire what → IsKnownIn (length u.names) what
    wire_told (W.Frame k) h = tt
    wire_told (W.Lost k) h = tt
    wire_told (W.Stale k) h = tt
    wire_told (W.Acked k) h = tt
    wire_told (W.Late k) h = tt
    wire_told (W.Step label times) h = absurd h
    wire_told (W.PostCreate o k goal) h = absurd h
    wire_told (W.PostCall o r m args) h = absurd h
    wire_told (W.Arrive o r m) h = absurd h
    wire_told (W.Created o name) h = absurd h
    wire_told (W.Result o v) h = absurd h
    wire_told W.Pass h = absurd h
    wire_told W.Idle h = absurd h

    act_told : (q : ℕ) (e : Event) → FitFor (coded u) l → IsBackedLine (length u.names) (act (coded u) l q c d e)
    act_told q e fit = by d.wires e
      where
        comes : (ws : Wires) (a b : ℕ) (x : Coming Packet) → IsBackedLine (length u.names) (wire_move (coded u) l c d ws a b x)
        comes ws a b Empty = tt
        comes ws a b (Stale n) = tt
        comes ws a b (Next x) = entered_told (move_head (a, b) d.links) (put pair_cmp (a, b) (take (wire_at ws (a, b))) ws) (link_move (coded u) l c d a b (first_of (on_link d.links (a, b)))) (link_told a b)

        turns : (ws : Wires) (k : Pair) (r : Option (What × Wire Packet)) → TellsOfWire r → IsBackedLine (length u.names) (wire_turn c d ws k r)
        turns ws k None h = tt
        turns ws k (Some r) h = wire_told r.0 h

        by : (o : Option Wires) (e : Event) → IsBackedLine (length u.names) (act_over (coded u) l q c d o e)
        by None e = plain_told q e fit
        by (Some ws) (Ev.Turn n) = entered_told d.links ws (plain_act (coded u) l q c d (Ev.Turn n)) (plain_told q (Ev.Turn n) fit)
        by (Some ws) (Ev.Link a b) = comes ws a b (coming (wire_at ws (a, b)))
        by (Some ws) (Ev.Wire w a b) = turns ws (a, b) (wire_act w (wire_at ws (a, b))) (tells_of_wire w (wire_at ws (a, b)))

    -- the line of an event
    pub acts_known : (q : ℕ) (e : Event) (what : What) (c' : Config Placed) (d' : Delay) → FitFor (coded u) l → act (coded u) l q c d e ≡ Acts what c' d' → IsKnownIn (length u.names) what
    acts_known q e what c' d' fit h = subst (IsBackedLine (length u.names)) h (act_told q e fit)

  module _ (l : Placement) (fit : FitFor (coded u) l) (q : ℕ) where
    -- the lines of a record from a sound configuration
    pub lines_known : (es : List Event) (c : Config Placed) (d : Delay) (done : ℕ) → IsSound (coded u) (IsOfCode u) l c d
        → Each (IsKnownLine (length u.names)) (record_from (coded u) l q c d done es).lines
    lines_known [] c d done s = by (is_quiet (coded u) c d) refl
      where
        by : (b : Bool) → is_quiet (coded u) c d ≡ b → Each (IsKnownLine (length u.names)) (record_from (coded u) l q c d done []).lines
        by true i = rw (i, record_from) (tt, tt)
        by false i = rw (i, record_from) (tt, tt)
    lines_known (e ∷ es) c d done s = by (is_quiet (coded u) c d) refl (λ c' d' k. lines_known es c' d' (done + 1) k)
      where
        on : (x : Acted Placed) → After (coded u) (IsOfCode u) l c x → IsBackedLine (length u.names) x
            → ((c' : Config Placed) (d' : Delay) → IsSound (coded u) (IsOfCode u) l c' d' → Each (IsKnownLine (length u.names)) (record_from (coded u) l q c' d' (done + 1) es).lines)
            → Each (IsKnownLine (length u.names)) (after e done c d (λ c' d'. record_from (coded u) l q c' d' (done + 1) es) x).lines
        on (Acts what c' d') h t rest = (t, rest c' d' h.1)
        on (Full k n) h t rest = (tt, tt)
        on Nothing h t rest = absurd h

        by : (b : Bool) → is_quiet (coded u) c d ≡ b
            → ((c' : Config Placed) (d' : Delay) → IsSound (coded u) (IsOfCode u) l c' d' → Each (IsKnownLine (length u.names)) (record_from (coded u) l q c' d' (done + 1) es).lines)
            → Each (IsKnownLine (length u.names)) (record_from (coded u) l q c d done (e ∷ es)).lines
        by true i rest = rw (i, record_from) (tt, tt)
        by false i rest = rw (i, record_from)
            (on (act (coded u) l q c d e) (act_kept (coded u) (IsOfCode u) (code_lawful u proper) l (fit_of (coded u) l fit) c d q e s) (act_told l c d s q e fit) rest)

    -- the lines of the record of a run from the start
    known_at : (d : Delay) → ((c : Config Placed) → start (coded u) l ≡ Some c → IsSound (coded u) (IsOfCode u) l c d) → (es : List Event)
        → Each (IsKnownLine (length u.names)) (record_at (coded u) l q (start (coded u) l) d es).lines
    known_at d sound es = by (start (coded u) l) refl
      where
        by : (z : Option (Config Placed)) → start (coded u) l ≡ z → Each (IsKnownLine (length u.names)) (record_at (coded u) l q z d es).lines
        by None e = tt
        by (Some c) e = lines_known es c d 0 (sound c e)

    pub record_known : (es : List Event) → Each (IsKnownLine (length u.names)) (record_of (coded u) l q es).lines
    record_known es = known_at D.no_delay (λ c e. code_start_sound u proper l fit c e) es

    pub record_known_on_wires : (es : List Event) → Each (IsKnownLine (length u.names)) (record_on_wires (coded u) l q es).lines
    record_known_on_wires es = known_at D.no_delay_on_wires (λ c e. with_wires (coded u) (IsOfCode u) l c D.no_delay [] (code_start_sound u proper l fit c e)) es

    in_lines : (ls : List Line) (number : ℕ) (e : Event) (what : What) → Each (IsKnownLine (length u.names)) ls → HasLine (R.Event number e what) ls → IsKnownIn (length u.names) what
    in_lines [] number e what a i = absurd i
    in_lines (y ∷ ys) number e what a (inl i) = subst (IsKnownLine (length u.names)) i a.0
    in_lines (y ∷ ys) number e what a (inr i) = in_lines ys number e what a.1 i

    pub each_line_known : (es : List Event) (number : ℕ) (e : Event) (what : What) → HasLine (R.Event number e what) (record_of (coded u) l q es).lines → IsKnownIn (length u.names) what
    each_line_known es number e what h = in_lines (record_of (coded u) l q es).lines number e what (record_known es) h

    pub each_line_known_on_wires : (es : List Event) (number : ℕ) (e : Event) (what : What) → HasLine (R.Event number e what) (record_on_wires (coded u) l q es).lines → IsKnownIn (length u.names) what
    each_line_known_on_wires es number e what h = in_lines (record_on_wires (coded u) l q es).lines number e what (record_known_on_wires es) h
