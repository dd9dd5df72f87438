-- Each event keeps the invariant of wires, and each wire after it is reached by events of a wire.
use Rattle.std.proofs.Common.{◌≡◌, ◌≢◌, refl, sym, ap, subst, ◌∙◌, ℕ, ◌+◌, ◌==◌, List, [], ◌∷◌, ◌++◌, append_assoc, length, Option, Some, None, Bool, true, false, not, ◌&&◌, if◌then◌else◌}
use Rattle.std.specs.Prelude.{drop, slice_get}
use Rattle.std.specs.Option.{unwrap_or}
use Rattle.std.specs.List.{list_any}
use Rattle.std.specs.FinMap.{find, put}
use Rattle.std.proofs.Math.Seq.{drop-append_seam}
use Rattle.run_types.specs.declared.types.Event.{Event}
use Rattle.run_types.specs.declared.types.Event.TheVariants as Ev
use Rattle.run_types.specs.declared.types.What.{What}
use Rattle.run_types.specs.declared.types.WireAct.{WireAct}
use Rattle.run_types.specs.declared.types.WireAct.TheVariants as A
use Rattle.run_types.specs.declared.types.Placement.{Placement}
use Rattle.run_types.specs.Tables.{Pair, pair_cmp}
use Rattle.mesh_semantics.specs.Language.{Language}
use Rattle.mesh_semantics.specs.Config.{Config}
use Rattle.run_types.specs.Paths.{is_link, on_link, move_head}
use Rattle.mesh_semantics.specs.Wire.{Frame, Wire, empty_wire, enter, wanted, launch, send_number, greater, Coming, Empty, Stale, Next, coming, coming_in, take, take_frame, hear_number, lose, twice, late, with_frames, with_acks, frame_number, ack_number, wire_act, is_done, WireFacts}
use Rattle.mesh_semantics.specs.Happenings.{Happening, Comes, On, changed, happen, happened, entered, Enters, IsReached, AreReached}
use Rattle.mesh_semantics.specs.Delay.{Packet, Wires, Delay, no_delay_on_wires, wire_at, enter_all}
use Rattle.mesh_semantics.specs.Act.{Acted, Acts, Full, Nothing, first_of, plain_act, link_move, turn_of, on_wires, wire_move, wire_turn, act_over, act, is_ready, is_acknowledged, is_quiet}
use Rattle.mesh_semantics.specs.Wired.{IsWireOf, AreWiresOf, KeepsWires}
use Rattle.mesh_semantics.specs.Record.{Record, after, record_from}
use Rattle.run_types.proofs.Laws.{first, second, equal, find_pair_same, find_pair_other, tested}
use Rattle.mesh_semantics.proofs.LinksAndArrivals.{Same, Is, Not, same, under-append, on_moved_same, on_moved_other}
use Rattle.mesh_semantics.proofs.WireLaws.{happen_facts, happened_facts, happened_put, happened_more, act_put, take_put, next_is_head, facts_empty}
use Rattle.mesh_semantics.proofs.LinkEntries.{PutsBehind, turn_enters, move_enters}

-- the wires after one was changed

pub at_same : (k : Pair) (w : Wire Packet) (ws : Wires) → wire_at (put pair_cmp k w ws) k ≡ w
at_same k w ws = ap (λ o. unwrap_or o empty_wire) (find_pair_same k w ws)

pub at_other : (j k : Pair) (w : Wire Packet) (ws : Wires) → j ≢ k → wire_at (put pair_cmp k w ws) j ≡ wire_at ws j
at_other j k w ws n = ap (λ o. unwrap_or o empty_wire) (find_pair_other j k w ws n)

-- these packets enter, and nothing else happens
abbrev pub enterings : {X : Type 0} → List X → List (Happening X)
enterings [] = []
enterings (x ∷ xs) = Enters x ∷ enterings xs

module _ {X : Type 0} where
  entered_is : (xs : List X) → entered (enterings xs) ≡ xs
  entered_is [] = refl
  entered_is (x ∷ xs) = ap (λ ys. x ∷ ys) (entered_is xs)

  -- what enters leaves what was handed out
  entered_handed : (xs : List X) (w : Wire X) → (happened (enterings xs) w).handed ≡ w.handed
  entered_handed [] w = refl
  entered_handed (x ∷ xs) w = entered_handed xs (enter x w)

  launch_handed : (n : ℕ) (x : Option X) (w : Wire X) → (launch n x w).1.handed ≡ w.handed
  launch_handed n None w = refl
  launch_handed n (Some x) w = refl

  -- and so does all that happens on the wire but that a frame comes to its end
  pub act_handed : (a : WireAct) (w : Wire X) → (changed w (wire_act a w)).handed ≡ w.handed
  act_handed A.Send w = by (wanted w)
    where
      by : (n : Option ℕ) → (changed w (send_number n w)).handed ≡ w.handed
      by None = refl
      by (Some n) = launch_handed n (slice_get w.put n) (record w { next = n + 1; sent = greater w.sent (n + 1) })
  act_handed A.Ack w = by w.acks
    where
      by : (ns : List ℕ) → (changed w (hear_number ns w)).handed ≡ w.handed
      by [] = refl
      by (n ∷ ns) = refl
  act_handed A.Lose w = by (lose frame_number w.frames)
    where
      by : (r : Option (What × List (Frame X))) → (changed w (with_frames w r)).handed ≡ w.handed
      by None = refl
      by (Some r) = refl
  act_handed A.Twice w = by (twice frame_number w.frames)
    where
      by : (r : Option (What × List (Frame X))) → (changed w (with_frames w r)).handed ≡ w.handed
      by None = refl
      by (Some r) = refl
  act_handed A.Late w = by (late frame_number w.frames)
    where
      by : (r : Option (What × List (Frame X))) → (changed w (with_frames w r)).handed ≡ w.handed
      by None = refl
      by (Some r) = refl
  act_handed A.LoseAck w = by (lose ack_number w.acks)
    where
      by : (r : Option (What × List ℕ)) → (changed w (with_acks w r)).handed ≡ w.handed
      by None = refl
      by (Some r) = refl
  act_handed A.TwiceAck w = by (twice ack_number w.acks)
    where
      by : (r : Option (What × List ℕ)) → (changed w (with_acks w r)).handed ≡ w.handed
      by None = refl
      by (Some r) = refl
  act_handed A.LateAck w = by (late ack_number w.acks)
    where
      by : (r : Option (What × List ℕ)) → (changed w (with_acks w r)).handed ≡ w.handed
      by None = refl
      by (Some r) = refl

  -- a frame that is not next hands nothing out
  pub stale_handed : (w : Wire X) (n : ℕ) → coming w ≡ Stale n → (take w).handed ≡ w.handed
  stale_handed w n h = by w.frames h
    where
      on : (f : Frame X) (b : Bool) → (if b then Next f.1 else Stale f.0) ≡ Stale n → (if b then w.handed ++ f.1 ∷ [] else w.handed) ≡ w.handed
      on f true e = absurd (cc)
      on f false e = refl

      by : (fs : List (Frame X)) → coming_in (length w.handed) fs ≡ Stale n → (take_frame fs w).handed ≡ w.handed
      by [] e = refl
      by (f ∷ fs) e = on f (f.0 == length w.handed) e

  -- the next one hands out what it carries
  pub next_handed : (w : Wire X) (x : X) → coming w ≡ Next x → (take w).handed ≡ w.handed ++ x ∷ []
  next_handed w x h = by w.frames h
    where
      on : (f : Frame X) (b : Bool) → (if b then Next f.1 else Stale f.0) ≡ Next x → (if b then w.handed ++ f.1 ∷ [] else w.handed) ≡ w.handed ++ x ∷ []
      on f true e = let q : f.1 ≡ x = cc in ap (λ z. w.handed ++ z ∷ []) q
      on f false e = absurd (cc)

      by : (fs : List (Frame X)) → coming_in (length w.handed) fs ≡ Next x → (take_frame fs w).handed ≡ w.handed ++ x ∷ []
      by [] e = absurd (cc)
      by (f ∷ fs) e = on f (f.0 == length w.handed) e

-- what enters a wire is what is put on its link
entered_at : (es : List (Pair × Packet)) (ws : Wires) (k : Pair) → wire_at (enter_all es ws) k ≡ happened (enterings (on_link es k)) (wire_at ws k)
entered_at [] ws k = refl
entered_at (e ∷ es) ws k = by (same k e.0) (entered_at es (put pair_cmp e.0 (enter e.1 (wire_at ws e.0)) ws) k)
  where
    by : Same k e.0 → wire_at (enter_all es (put pair_cmp e.0 (enter e.1 (wire_at ws e.0)) ws)) k ≡ happened (enterings (on_link es k)) (wire_at (put pair_cmp e.0 (enter e.1 (wire_at ws e.0)) ws) k)
        → wire_at (enter_all (e ∷ es) ws) k ≡ happened (enterings (on_link (e ∷ es) k)) (wire_at ws k)
    by (Is i j) r =
        let here : wire_at (put pair_cmp e.0 (enter e.1 (wire_at ws e.0)) ws) k ≡ enter e.1 (wire_at ws k) =
        subst (λ z. wire_at (put pair_cmp e.0 (enter e.1 (wire_at ws e.0)) ws) z ≡ enter e.1 (wire_at ws z)) (sym i) (at_same e.0 (enter e.1 (wire_at ws e.0)) ws) in
        rw j (r ∙ ap (happened (enterings (on_link es k))) here)
    by (Not n j) r = rw j (r ∙ ap (happened (enterings (on_link es k))) (at_other k e.0 (enter e.1 (wire_at ws e.0)) ws n))

-- where the wires are those of links on which only these packets are, and more is put behind them
module _ (before more : List (Pair × Packet)) (d e : Delay) (ws : Wires) (links : d.links ≡ before) (now : e.links ≡ before ++ more) where
  added : drop (length before) e.links ≡ more
  added = ap (drop (length before)) now ∙ drop-append_seam before more

  abbrev grown : Wires
  grown = enter_all (drop (length before) e.links) ws

  pub enter_at : (k : Pair) → wire_at grown k ≡ happened (enterings (on_link more k)) (wire_at ws k)
  enter_at k = ap (λ es. wire_at (enter_all es ws) k) added ∙ entered_at more ws k

  pub enter_reached : (k : Pair) → IsReached ws grown k
  enter_reached k = (enterings (on_link more k), enter_at k)

  pub enter_kept : (k : Pair) → IsWireOf ws d k → IsWireOf grown e k
  enter_kept k s =
      let xs = on_link more k in
      let w = wire_at ws k in
      let put_is : (happened (enterings xs) w).put ≡ w.put ++ xs = happened_put (enterings xs) w ∙ ap (λ ys. w.put ++ ys) (entered_is xs) in
      let on : on_link e.links k ≡ on_link d.links k ++ xs = ap (λ ls. on_link ls k) (now ∙ ap (λ ls. ls ++ more) (sym links)) ∙ under-append (is_link k.0 k.1) d.links more in
      let whole : (happened (enterings xs) w).put ≡ (happened (enterings xs) w).handed ++ on_link e.links k =
      put_is ∙ ap (λ ys. ys ++ xs) s.rest ∙ append_assoc w.handed (on_link d.links k) xs ∙ ap (λ ys. w.handed ++ ys) (sym on) ∙ ap (λ ys. ys ++ on_link e.links k) (sym (entered_handed xs w)) in
      record {
        facts = subst WireFacts (sym (enter_at k)) (happened_facts (enterings xs) w s.facts);
        rest = subst (λ (z : Wire Packet). z.put ≡ z.handed ++ on_link e.links k) (sym (enter_at k)) whole;
      }

-- where one wire is changed, and the head of its link may be handed out
module _ (d e : Delay) (ws : Wires) (k : Pair) (w : Wire Packet) (facts : WireFacts w) (rest : w.put ≡ w.handed ++ on_link e.links k)
    (others : (j : Pair) → j ≢ k → on_link e.links j ≡ on_link d.links j) where
  change_kept : (j : Pair) → IsWireOf ws d j → IsWireOf (put pair_cmp k w ws) e j
  change_kept j s = by (same j k)
    where
      by : Same j k → IsWireOf (put pair_cmp k w ws) e j
      by (Is i t) = subst (λ z. IsWireOf (put pair_cmp k w ws) e z) (sym i) (record {
        facts = subst WireFacts (sym (at_same k w ws)) facts;
        rest = subst (λ (z : Wire Packet). z.put ≡ z.handed ++ on_link e.links k) (sym (at_same k w ws)) rest;
      })
      by (Not n t) = record {
        facts = subst WireFacts (sym (at_other j k w ws n)) s.facts;
        rest = subst (λ (z : Wire Packet). z.put ≡ z.handed ++ on_link e.links j) (sym (at_other j k w ws n)) (s.rest ∙ ap (λ xs. (wire_at ws j).handed ++ xs) (sym (others j n)));
      }

change_reached : (ws : Wires) (k : Pair) (h : Happening Packet) (j : Pair) → IsReached ws (put pair_cmp k (happen h (wire_at ws k)) ws) j
change_reached ws k h j = by (same j k)
  where
    by : Same j k → IsReached ws (put pair_cmp k (happen h (wire_at ws k)) ws) j
    by (Is i t) = (h ∷ [], subst (λ z. wire_at (put pair_cmp k (happen h (wire_at ws k)) ws) z ≡ happen h (wire_at ws z)) (sym i) (at_same k (happen h (wire_at ws k)) ws))
    by (Not n t) = ([], at_other j k (happen h (wire_at ws k)) ws n)

reached_more : (ws us vs : Wires) (k : Pair) → IsReached ws us k → IsReached us vs k → IsReached ws vs k
reached_more ws us vs k (hs, p) (js, q) = (hs ++ js, q ∙ ap (happened js) p ∙ sym (happened_more hs js (wire_at ws k)))

-- what holds after an event of wires that were so
abbrev pub KeepsOn : {S : Type 0} → Option Wires → Acted S → Type 0
KeepsOn ws (Acts w c d) = KeepsWires d × AreReached ws d.wires
KeepsOn ws (Full k n) = Unit {0}
KeepsOn ws Nothing = Unit {0}

reached_itself : (ws : Option Wires) → AreReached ws ws
reached_itself None = tt
reached_itself (Some ws) = λ k. ([], refl)

module _ {S : Type 0} (g : Language S) (l : Placement) (q : ℕ) (c : Config S) (d : Delay) where
  -- what enters behind these packets
  entered_keeps : (before : List (Pair × Packet)) (us ws : Wires) (x : Acted S) (e : Delay) (o : Option Wires) → e.links ≡ before → PutsBehind before o x → AreWiresOf (Some ws) e
      → ((k : Pair) → IsReached us ws k) → KeepsOn (Some us) (on_wires before ws x)
  entered_keeps before us ws (Acts w c' d') e o h n s r = (
    (λ k. let z = enter_kept before n.0 e d' ws h n.1 k (s k) in record { facts = z.facts; rest = z.rest }),
    λ k. reached_more us ws (enter_all (drop (length before) d'.links) ws) k (r k) (enter_reached before n.0 e d' ws h n.1 k),
  )
  entered_keeps before us ws (Full k n) e o h z s r = tt
  entered_keeps before us ws Nothing e o h z s r = tt

  moved_keeps : (ws : Wires) (a b : ℕ) → AreWiresOf (Some ws) d → (x : Coming Packet) → coming (wire_at ws (a, b)) ≡ x → d.wires ≡ Some ws → KeepsOn (Some ws) (wire_move g l c d ws a b x)
  moved_keeps ws a b s Empty i j = (subst (λ o. AreWiresOf o d) (sym j) s, subst (AreReached (Some ws)) (sym j) (reached_itself (Some ws)))
  moved_keeps ws a b s (Stale n) i j = (
    (λ k. let z = change_kept d d ws (a, b) (take w) (happen_facts Comes w (s (a, b)).facts)
        (take_put w ∙ (s (a, b)).rest ∙ ap (λ xs. xs ++ on_link d.links (a, b)) (sym (stale_handed w n i))) (λ j n. refl) k (s k) in record { facts = z.facts; rest = z.rest }),
    change_reached ws (a, b) Comes,
  )
    where
      w : Wire Packet
      w = wire_at ws (a, b)
  moved_keeps ws a b s (Next x) i j =
      subst (λ o. KeepsOn (Some ws) (on_wires (move_head (a, b) d.links) (put pair_cmp (a, b) (take w) ws) (link_move g l c d a b o))) (sym head)
      (entered_keeps (move_head (a, b) d.links) ws (put pair_cmp (a, b) (take w) ws) (link_move g l c d a b (Some x)) d₁ d.wires refl (move_enters g l c d a b x)
      (λ k. change_kept d d₁ ws (a, b) (take w) (happen_facts Comes w (s (a, b)).facts) rest (λ j n. on_moved_other j (a, b) d.links n) k (s k)) (change_reached ws (a, b) Comes))
    where
      w : Wire Packet
      w = wire_at ws (a, b)

      d₁ : Delay
      d₁ = record d { links = move_head (a, b) d.links }

      head : first_of (on_link d.links (a, b)) ≡ Some x
      head = next_is_head w (on_link d.links (a, b)) x (s (a, b)).facts (s (a, b)).rest i

      rest : (take w).put ≡ (take w).handed ++ on_link d₁.links (a, b)
      rest = take_put w ∙ (s (a, b)).rest ∙ ap (λ xs. w.handed ++ xs) (on_moved_same (a, b) x d.links head) ∙ sym (append_assoc w.handed (x ∷ []) (on_link d₁.links (a, b)))
          ∙ ap (λ xs. xs ++ on_link d₁.links (a, b)) (sym (next_handed w x i))

  turned_keeps : (ws : Wires) (k : Pair) (a : WireAct) → AreWiresOf (Some ws) d → (r : Option (What × Wire Packet)) → wire_act a (wire_at ws k) ≡ r → d.wires ≡ Some ws
      → KeepsOn (Some ws) (wire_turn c d ws k r)
  turned_keeps ws k a s None i j = (subst (λ o. AreWiresOf o d) (sym j) s, subst (AreReached (Some ws)) (sym j) (reached_itself (Some ws)))
  turned_keeps ws k a s (Some r) i j = (
    (λ n. let z = change_kept d d ws k r.1 (subst WireFacts now (happen_facts (On a) w (s k).facts))
        (subst (λ (u : Wire Packet). u.put ≡ u.handed ++ on_link d.links k) now (act_put a w ∙ (s k).rest ∙ ap (λ xs. xs ++ on_link d.links k) (sym (act_handed a w)))) (λ j n. refl) n (s n) in
        record { facts = z.facts; rest = z.rest }),
    λ n. subst (λ u. IsReached ws (put pair_cmp k u ws) n) now (change_reached ws k (On a) n),
  )
    where
      w : Wire Packet
      w = wire_at ws k

      now : changed w (wire_act a w) ≡ r.1
      now = ap (changed w) i

  none : (before : List (Pair × Packet)) (x : Acted S) → d.wires ≡ None → PutsBehind before d.wires x → KeepsOn None x
  none before (Acts w c' d') j n = let i : d'.wires ≡ None = n.2 ∙ j in (subst (λ o. AreWiresOf o d') (sym i) tt, subst (AreReached None) (sym i) tt)
  none before (Full k n) j h = tt
  none before Nothing j h = tt

  over_keeps : (o : Option Wires) → d.wires ≡ o → AreWiresOf o d → (e : Event) → KeepsOn o (act_over g l q c d o e)
  over_keeps None j s (Ev.Turn n) = none d.links (plain_act g l q c d (Ev.Turn n)) j (turn_enters g l q c d n (turn_of g c d n))
  over_keeps None j s (Ev.Link a b) = by (first_of (on_link d.links (a, b)))
    where
      by : (x : Option Packet) → KeepsOn None (link_move g l c d a b x)
      by None = (subst (λ o. AreWiresOf o d) (sym j) tt, subst (AreReached None) (sym j) tt)
      by (Some x) = none (move_head (a, b) d.links) (link_move g l c d a b (Some x)) j (move_enters g l c d a b x)
  over_keeps None j s (Ev.Wire w a b) = (subst (λ o. AreWiresOf o d) (sym j) tt, subst (AreReached None) (sym j) tt)
  over_keeps (Some ws) j s (Ev.Turn n) =
      entered_keeps d.links ws ws (plain_act g l q c d (Ev.Turn n)) d d.wires refl (turn_enters g l q c d n (turn_of g c d n)) s (λ k. ([], refl))
  over_keeps (Some ws) j s (Ev.Link a b) = moved_keeps ws a b s (coming (wire_at ws (a, b))) refl j
  over_keeps (Some ws) j s (Ev.Wire w a b) = turned_keeps ws (a, b) w s (wire_act w (wire_at ws (a, b))) refl j

  -- every event
  pub act_keeps_wires : (e : Event) → KeepsWires d → KeepsOn d.wires (act g l q c d e)
  act_keeps_wires e s = over_keeps d.wires refl s e

module _ {S : Type 0} (g : Language S) (l : Placement) (q : ℕ) where
  all_reached : (us ws vs : Option Wires) → AreReached us ws → AreReached ws vs → AreReached us vs
  all_reached None None None p r = tt
  all_reached (Some us) (Some ws) (Some vs) p r = λ k. reached_more us ws vs k (p k) (r k)
  all_reached None (Some ws) vs p r = absurd p
  all_reached (Some us) None vs p r = absurd p
  all_reached None None (Some vs) p r = absurd r
  all_reached (Some us) (Some ws) None p r = absurd r

  -- the wires at the end of a record
  abbrev pub EndsSo : Delay → Record S → Type 0
  EndsSo d r = KeepsWires r.delay × AreReached d.wires r.delay.wires

  -- a record
  pub record_keeps_wires : (es : List Event) (c : Config S) (d : Delay) (done : ℕ) → KeepsWires d → EndsSo d (record_from g l q c d done es)
  record_keeps_wires [] c d done s = by (is_quiet g c d) refl
    where
      by : (b : Bool) → is_quiet g c d ≡ b → EndsSo d (record_from g l q c d done [])
      by true i = rw (i, record_from) (s, reached_itself d.wires)
      by false i = rw (i, record_from) (s, reached_itself d.wires)
  record_keeps_wires (e ∷ es) c d done s = by (is_quiet g c d) refl (λ c' d' k. record_keeps_wires es c' d' (done + 1) k)
    where
      on : (x : Acted S) → KeepsOn d.wires x → ((c' : Config S) (d' : Delay) → KeepsWires d' → EndsSo d' (record_from g l q c' d' (done + 1) es))
          → EndsSo d (after e done c d (λ c' d'. record_from g l q c' d' (done + 1) es) x)
      on (Acts w c' d') h rest = let r = rest c' d' h.0 in (r.0, all_reached d.wires d'.wires (record_from g l q c' d' (done + 1) es).delay.wires h.1 r.1)
      on (Full k n) h rest = (s, reached_itself d.wires)
      on Nothing h rest = (s, reached_itself d.wires)

      by : (b : Bool) → is_quiet g c d ≡ b → ((c' : Config S) (d' : Delay) → KeepsWires d' → EndsSo d' (record_from g l q c' d' (done + 1) es)) → EndsSo d (record_from g l q c d done (e ∷ es))
      by true i rest = rw (i, record_from) (s, reached_itself d.wires)
      by false i rest = rw (i, record_from) (on (act g l q c d e) (act_keeps_wires g l q c d e s) rest)

-- wires on which nothing was put
pub no_wires_kept : KeepsWires no_delay_on_wires
no_wires_kept = λ k. record { facts = facts_empty; rest = refl }

pub acknowledged_at : (ws : Wires) (k : Pair) → is_acknowledged (Some ws) ≡ true → (wire_at ws k).acked ≡ length (wire_at ws k).put
acknowledged_at ws k h = by (find pair_cmp k ws) refl
  where
    by : (o : Option (Wire Packet)) → find pair_cmp k ws ≡ o → (wire_at ws k).acked ≡ length (wire_at ws k).put
    by None i = rw i refl
    by (Some w) i = equal (wire_at ws k).acked (length (wire_at ws k).put) (tested (λ k. is_done (wire_at ws k)) ws h k w i)

-- where all is quiet all that entered is acknowledged
pub quiet_acknowledged : {S : Type 0} (g : Language S) (c : Config S) (d : Delay) (ws : Wires) (k : Pair) → d.wires ≡ Some ws → is_quiet g c d ≡ true → (wire_at ws k).acked ≡ length (wire_at ws k).put
quiet_acknowledged g c d ws k i q =
    let a : (is_acknowledged d.wires && not (list_any (λ e. is_ready g d e.0 e.1) c.objects)) ≡ true = second (not (list_any (λ e. true) d.links)) _ q in
    let b : is_acknowledged d.wires ≡ true = first (is_acknowledged d.wires) _ a in
    acknowledged_at ws k (subst (λ o. is_acknowledged o ≡ true) i b)
