-- Each event and each record keeps a configuration sound, and its labels lead to the configuration after it.
use Rattle.std.proofs.Common.{◌≡◌, ◌≢◌, ◌⊎◌, inl, inr, refl, ap, subst, ◌∙◌, IsTrue, ℕ, ◌+◌, ◌==◌, List, [], ◌∷◌, ◌++◌, Option, Some, None, Bool, true, false, ◌&&◌}
use Rattle.std.specs.Prelude.{filter, length, drop}
use Rattle.std.specs.Ordering.{nat_cmp, eq_by_cmp, is_lt}
use Rattle.std.specs.declared.cmp.Ordering.{Ordering}
use Rattle.std.specs.declared.cmp.Ordering.TheVariants.{Less, Equal, Greater}
use Rattle.std.specs.FinMap.{find, put, is_sorted}
use Rattle.std.specs.FinMap.Entries.{below_all}
use Rattle.run_types.specs.declared.types.Error.{Error}
use Rattle.run_types.specs.declared.types.Event.{Event}
use Rattle.run_types.specs.declared.types.Event.TheVariants as Ev
use Rattle.run_types.specs.declared.types.Label.{Label}
use Rattle.run_types.specs.declared.types.What.{What}
use Rattle.run_types.specs.declared.types.What.TheVariants as W
use Rattle.run_types.specs.declared.types.Line.TheVariants as R
use Rattle.run_types.specs.declared.types.Line.{Line}
use Rattle.run_types.specs.declared.types.End.TheVariants as E
use Rattle.run_types.specs.declared.types.Placement.{Placement}
use Rattle.run_types.proofs.Laws.{first, second, equal, same_some, given_by, tied, untied}
use Rattle.mesh_semantics.specs.Kind as K
use Rattle.mesh_semantics.specs.Kind.{Kind}
use Rattle.mesh_semantics.specs.Language.{Language}
use Rattle.mesh_semantics.specs.Config.{Config, object_of}
use Rattle.mesh_semantics.specs.Moves.{move, moves}
use Rattle.run_types.specs.Tables.{Pair, pair_cmp}
use Rattle.run_types.specs.Paths.{move_head}
use Rattle.mesh_semantics.specs.Wire.{Wire, Coming, Empty, Stale, Next, coming, take, wire_act}
use Rattle.mesh_semantics.specs.Delay.{Packet, Wires, wire_at, enter_all, Delay, Holding, arrived_at, held, stepped_last}
use Rattle.run_types.specs.ObjectNames.{node_of}
use Rattle.mesh_semantics.specs.Act.{Acted, Acts, Full, Nothing, plain_act, on_wires, wire_move, wire_turn, act_over, act, node_turn, turn_of, ready_at, first_of, is_above, is_ready, can_step, object_turn, is_quiet}
use Rattle.mesh_semantics.specs.Sound.{IsSound}
use Rattle.mesh_semantics.proofs.Fit.{Fit}
use Rattle.mesh_semantics.specs.Lawful.{Lawful}
use Rattle.mesh_semantics.specs.EventSoundness.{After, ShowsRun}
use Rattle.mesh_semantics.specs.Record.{EndsOnce, shown, after, record_from, labels_of, labels, ends_quiet}
use Rattle.mesh_semantics.proofs.QuietIsFinal.{no_transition}
use Rattle.mesh_semantics.proofs.SoundStart.{with_wires}
use Rattle.mesh_semantics.proofs.WireLaws.{IsOfWire, TellsOfWire, tells_of_wire}
use Rattle.mesh_semantics.proofs.TurnInvariant.{Nearly, within_after, Acting, write_turn, fault_turn, call_posted}
use Rattle.mesh_semantics.proofs.RendezvousTurns.{create_kept}
use Rattle.mesh_semantics.proofs.Sends.{send_kept, return_kept}
use Rattle.mesh_semantics.proofs.Choices.{choice_kept, local_kept}
use Rattle.mesh_semantics.proofs.LinkMoveInvariant.{link_kept}

-- an element of a list
abbrev Member : {X : Type 0} → X → List X → Type 0
Member e [] = ⊥
Member e (x ∷ xs) = (x ≡ e) ⊎ Member e xs

first_member : {X : Type 0} (xs : List X) (e : X) → first_of xs ≡ Some e → Member e xs
first_member [] e h = absurd (cc)
first_member (x ∷ xs) e h = inl (same_some h)

filter_member : {X : Type 0} (t : X → Bool) (xs : List X) (e : X) → Member e (filter t xs) → (t e ≡ true) × Member e xs
filter_member t [] e h = absurd h
filter_member {X} t (x ∷ xs) e h = by (t x) refl (filter_member t xs e)
  where
    by : (b : Bool) → t x ≡ b → (Member e (filter t xs) → (t e ≡ true) × Member e xs) → (t e ≡ true) × Member e (x ∷ xs)
    by true i k = on (rw i at h)
      where
        on : (x ≡ e) ⊎ Member e (filter t xs) → (t e ≡ true) × Member e (x ∷ xs)
        on (inl s) = (subst (λ (z : X). t z ≡ true) s i, inl s)
        on (inr m) = let r = k m in (r.0, inr r.1)
    by false i k = let r = k (rw i at h) in (r.0, inr r.1)

member_found : {X : Type 0} (es : List (ℕ × X)) (e : ℕ × X) → IsTrue (is_sorted nat_cmp es) → Member e es → find nat_cmp e.0 es ≡ Some e.1
member_found {X} [] e s m = absurd m
member_found {X} (k ∷ es) e s (inl i) = subst (λ (z : ℕ × X). find nat_cmp z.0 (k ∷ es) ≡ Some z.1) i (rw (tied k.0) refl)
member_found {X} (k ∷ es) e s (inr m) =
    let r = member_found es e (second (below_all nat_cmp k.0 es) (is_sorted nat_cmp es) s) m in
    rw (untied e.0 k.0 (apart es m (first (below_all nat_cmp k.0 es) (is_sorted nat_cmp es) s))) r
  where
    apart : (fs : List (ℕ × X)) → Member e fs → IsTrue (below_all nat_cmp k.0 fs) → e.0 ≢ k.0
    apart [] m b j = absurd m
    apart (f ∷ fs) (inl i) b j =
        let less : is_lt (nat_cmp k.0 f.0) ≡ true = first (is_lt (nat_cmp k.0 f.0)) (below_all nat_cmp k.0 fs) b in
        let same : f.0 ≡ k.0 = ap (λ (z : ℕ × X). z.0) i ∙ j in
        let q : is_lt (nat_cmp k.0 k.0) ≡ true = subst (λ n. is_lt (nat_cmp k.0 n) ≡ true) same less in
        never (nat_cmp k.0 k.0) (tied k.0) q
      where
        never : (r : Ordering) → eq_by_cmp nat_cmp k.0 k.0 ≡ true → is_lt (nat_cmp k.0 k.0) ≡ true → ⊥
        never r t u = by (nat_cmp k.0 k.0) refl
          where
            by : (z : Ordering) → nat_cmp k.0 k.0 ≡ z → ⊥
            by Less i = let q = rw i at t in cc
            by Equal i = let q = rw i at u in cc
            by Greater i = let q = rw i at u in cc
    apart (f ∷ fs) (inr m) b j = apart fs m (second (is_lt (nat_cmp k.0 f.0)) (below_all nat_cmp k.0 fs) b) j

-- what happens on a wire shows no label
silent : (w : What) → IsOfWire w → shown w ≡ []
silent (W.Step label times) h = absurd h
silent _ h = refl

module _ {S : Type 0} (g : Language S) where
  pub moves_append : (c e : Config S) (xs ys : List Label) → moves g c xs ≡ Some e → moves g c (xs ++ ys) ≡ moves g e ys
  moves_append c e [] ys h = let same : c ≡ e = same_some h in ap (λ z. moves g z ys) same
  moves_append c e (x ∷ xs) ys h =
      let a = given_by (move g c x) (λ z. moves g z xs) e h in
      let r = moves_append a.0 e xs ys a.2 in rw a.1 r

module _ {S : Type 0} (g : Language S) (W : Config S → Type 0) (law : Lawful g W) (l : Placement) (fit : Fit l) where
  sound_last : (c : Config S) (d : Delay) (n o : ℕ) → IsSound g W l c d → IsSound g W l c (stepped_last n o d)
  sound_last c d n o s = record {
    state = record { typed = s.state.typed; names = s.state.names; owned = s.state.owned; packets = s.state.packets; arrivals = s.state.arrivals; lists = s.state.lists; order = s.state.order };
    limits = s.limits;
  }

  -- the object that steps at its node
  pub record Stepping (c : Config S) (d : Delay) (n : ℕ) (e : ℕ × S) : Type 0 where
    pub acting : Acting g W law l fit.ways c (stepped_last n e.0 d) n e.0 e.1
    pub can : can_step (arrived_at d e.0) (g.kind e.0 e.1) ≡ true

  ready : (c : Config S) (d : Delay) (n : ℕ) (e : ℕ × S) → IsSound g W l c d → Member e (ready_at g c d n) → Stepping c d n e
  ready c d n e s m =
      let a = filter_member (λ e. node_of e.0 == n && is_ready g d e.0 e.1) c.objects e m in
      let at = equal (node_of e.0) n (first (node_of e.0 == n) (is_ready g d e.0 e.1) a.0) in
      by (held d e.0) (g.fault e.1) refl refl (member_found c.objects e (law.sorted c s.state.typed) a.1) at (second (node_of e.0 == n) (is_ready g d e.0 e.1) a.0)
    where
      by : (t : Option Holding) (f : Option Error) → held d e.0 ≡ t → g.fault e.1 ≡ f → object_of c e.0 ≡ Some e.1 → node_of e.0 ≡ n → is_ready g d e.0 e.1 ≡ true → Stepping c d n e
      by None None i j found at h = record { acting = record { found = found; at = at; free = i; sane = j }; can = rw (i, j) at h }
      by None (Some x) i j found at h = absurd (let q = rw (i, j) at h in cc)
      by (Some t) f i j found at h = absurd (let q = rw i at h in cc)

  pub turn_is : (c : Config S) (d : Delay) (n : ℕ) (e : ℕ × S) → IsSound g W l c d → turn_of g c d n ≡ Some e → Stepping c d n e
  turn_is c d n e s h = by (first_of (filter (λ e. is_above (find nat_cmp n d.last) e.0) (ready_at g c d n))) refl
    where
      by : (z : Option (ℕ × S)) → first_of (filter (λ e. is_above (find nat_cmp n d.last) e.0) (ready_at g c d n)) ≡ z → Stepping c d n e
      by None i = ready c d n e s (first_member (ready_at g c d n) e (rw i at h))
      by (Some f) i =
          let same : f ≡ e = same_some (rw i at h) in
          let m = filter_member (λ e. is_above (find nat_cmp n d.last) e.0) (ready_at g c d n) f (first_member _ f i) in
          subst (Stepping c d n) same (ready c d n f s m.1)

  -- the object whose turn it is, is there
  pub turn_there : (c : Config S) (d : Delay) (n : ℕ) (e : ℕ × S) → IsSound g W l c d → turn_of g c d n ≡ Some e → object_of c e.0 ≡ Some e.1
  turn_there c d n e s h = (turn_is c d n e s h).acting.found

  turn_kept : (c : Config S) (d : Delay) (n q : ℕ) (e : ℕ × S) → IsSound g W l c d → Stepping c d n e
      → Nearly g W law l fit.ways n c (object_turn g l q c (stepped_last n e.0 d) n e.0 (g.kind e.0 e.1))
  turn_kept c d n q e s t = by (g.kind e.0 e.1) refl t.can
    where
      f : Delay
      f = stepped_last n e.0 d

      u : IsSound g W l c (stepped_last n e.0 d)
      u = sound_last c d n e.0 s

      by : (k : Kind) → g.kind e.0 e.1 ≡ k → can_step (arrived_at d e.0) k ≡ true → Nearly g W law l fit.ways n c (object_turn g l q c (stepped_last n e.0 d) n e.0 k)
      by K.Finished i h = absurd (let z : false ≡ true = h in cc)
      by K.Local i h = local_kept g W law l fit c (stepped_last n e.0 d) n e.0 q e.1 u t.acting
      by (K.Fault x) i h = fault_turn g W law l fit.ways c (stepped_last n e.0 d) n e.0 e.1 x u t.acting i
      by (K.New class) i h = create_kept g W law l fit c (stepped_last n e.0 d) n e.0 e.1 class u t.acting i
      by (K.Send b m args) i h = call_posted g W law l fit.ways c (stepped_last n e.0 d) n e.0 e.1 b m args u t.acting i
      by (K.Async b m args) i h = send_kept g W law l fit c (stepped_last n e.0 d) n e.0 e.1 b m args u t.acting i
      by (K.Write item) i h = write_turn g W law l fit.ways c (stepped_last n e.0 d) n e.0 e.1 item u t.acting i
      by (K.Select alts) i h = choice_kept g W law l fit c (stepped_last n e.0 d) n e.0 e.1 alts u t.acting i h
      by (K.Return k v) i h = return_kept g W law l fit c (stepped_last n e.0 d) n e.0 e.1 k v u t.acting i
      by (K.Waits b m) i h = absurd (let z : false ≡ true = h in cc)
      by K.Stuck i h = absurd (let z : false ≡ true = h in cc)

  -- every event where each link hands out its own head
  plain_kept : (c : Config S) (d : Delay) (q : ℕ) (e : Event) → IsSound g W l c d → After g W l c (plain_act g l q c d e)
  plain_kept c d q (Ev.Wire w a b) s = (refl, s)
  plain_kept c d q (Ev.Link a b) s = link_kept g W law l fit c d a b s
  plain_kept c d q (Ev.Turn n) s = by (turn_of g c d n) refl
    where
      by : (z : Option (ℕ × S)) → turn_of g c d n ≡ z → After g W l c (node_turn g l q c d n z)
      by None i = (refl, s)
      by (Some e) i = within_after g W law l fit.ways n c (object_turn g l q c (stepped_last n e.0 d) n e.0 (g.kind e.0 e.1)) (turn_kept c d n q e s (turn_is c d n e s i))

  entered_kept : (c : Config S) (before : List (Pair × Packet)) (ws : Wires) (x : Acted S) → After g W l c x → After g W l c (on_wires before ws x)
  entered_kept c before ws (Acts w e d) h = (h.0, with_wires g W l e d (enter_all (drop (length before) d.links) ws) h.1)
  entered_kept c before ws (Full k n) h = tt
  entered_kept c before ws Nothing h = absurd h

  over_kept : (c : Config S) (d : Delay) (q : ℕ) (ws : Option Wires) (e : Event) → IsSound g W l c d → After g W l c (act_over g l q c d ws e)
  over_kept c d q None e s = plain_kept c d q e s
  over_kept c d q (Some ws) (Ev.Turn n) s = entered_kept c d.links ws (plain_act g l q c d (Ev.Turn n)) (plain_kept c d q (Ev.Turn n) s)
  over_kept c d q (Some ws) (Ev.Link a b) s = by (coming (wire_at ws (a, b)))
    where
      by : (x : Coming Packet) → After g W l c (wire_move g l c d ws a b x)
      by Empty = (refl, s)
      by (Stale n) = (refl, with_wires g W l c d _ s)
      by (Next x) = entered_kept c (move_head (a, b) d.links) (put pair_cmp (a, b) (take (wire_at ws (a, b))) ws) (plain_act g l q c d (Ev.Link a b)) (plain_kept c d q (Ev.Link a b) s)
  over_kept c d q (Some ws) (Ev.Wire w a b) s = by (wire_act w (wire_at ws (a, b))) (tells_of_wire w (wire_at ws (a, b)))
    where
      by : (r : Option (What × Wire Packet)) → TellsOfWire r → After g W l c (wire_turn c d ws (a, b) r)
      by None h = (refl, s)
      by (Some r) h = (ap (moves g c) (silent r.0 h), with_wires g W l c d _ s)

  -- every event
  pub act_kept : (c : Config S) (d : Delay) (q : ℕ) (e : Event) → IsSound g W l c d → After g W l c (act g l q c d e)
  act_kept c d q e s = over_kept c d q d.wires e s

  -- no event is without an answer
  pub act_answers : (c : Config S) (d : Delay) (q : ℕ) (e : Event) → IsSound g W l c d → act g l q c d e ≢ Nothing
  act_answers c d q e s h = subst (After g W l c) h (act_kept c d q e s)

  ended : (c : Config S) (d : Delay) (z : Line) → IsSound g W l c d → (EndsOnce (z ∷ [])) → labels_of z ≡ [] → (ends_quiet (z ∷ []) ≡ true → (lab : Label) → move g c lab ≡ None)
      → ShowsRun g W l c (record { lines = z ∷ []; last = c; delay = d })
  ended c d z s o n f = record { lines = o; leads = rw n refl; sound = s; rests = f }

  -- a record
  pub record_shows : (q : ℕ) (es : List Event) (c : Config S) (d : Delay) (done : ℕ) → IsSound g W l c d → ShowsRun g W l c (record_from g l q c d done es)
  record_shows q [] c d done s = by (is_quiet g c d) refl
    where
      by : (b : Bool) → is_quiet g c d ≡ b → ShowsRun g W l c (record_from g l q c d done [])
      by true i = rw (i, record_from) (ended c d (R.End (E.Quiet done)) s tt refl (λ t lab. no_transition g W l c d s i lab))
      by false i = rw (i, record_from) (ended c d (R.End (E.Schedule done)) s tt refl (λ t lab. absurd (let z : false ≡ true = t in cc)))
  record_shows q (e ∷ es) c d done s = by (is_quiet g c d) refl (λ c' d' k. record_shows q es c' d' (done + 1) k)
    where
      on : (x : Acted S) → After g W l c x → ((c' : Config S) (d' : Delay) → IsSound g W l c' d' → ShowsRun g W l c' (record_from g l q c' d' (done + 1) es))
          → ShowsRun g W l c (after e done c d (λ c' d'. record_from g l q c' d' (done + 1) es) x)
      on (Acts w c' d') h rest =
          let r = rest c' d' h.1 in record {
            lines = r.lines;
            leads = moves_append g c c' (shown w) (labels (record_from g l q c' d' (done + 1) es).lines) h.0 ∙ r.leads;
            sound = r.sound;
            rests = r.rests;
          }
      on (Full k n) h rest = ended c d (R.End (E.Full k n done)) s tt refl (λ t lab. absurd (let z : false ≡ true = t in cc))
      on Nothing h rest = absurd h

      by : (b : Bool) → is_quiet g c d ≡ b → ((c' : Config S) (d' : Delay) → IsSound g W l c' d' → ShowsRun g W l c' (record_from g l q c' d' (done + 1) es))
          → ShowsRun g W l c (record_from g l q c d done (e ∷ es))
      by true i rest = rw (i, record_from) (ended c d (R.End (E.Quiet done)) s tt refl (λ t lab. no_transition g W l c d s i lab))
      by false i rest = rw (i, record_from) (on (act g l q c d e) (act_kept c d q e s) rest)
