-- Steps of a run whose lines are written one by one.
use Rattle.std.proofs.Common.{◌≡◌, ◌∙◌, ◌+◌, ◌<◌, ◌≤◌, ◌||◌, ◌++◌, ◌/◌, ◌%◌, ℕ, Bool, true, false, List, [], ◌∷◌, length, drop, slice_get, Option, Some, None, option_map, is_some, Result, Ok, Err, refl, sym, ap, subst, arith}
use Rattle.std.proofs.lemmas.List.{append-nil, append_assoc, drop_more, drop_all, length-append}
use Rattle.std.proofs.lemmas.Option.{slice_get_within, get_or_from_slice_get}
use Rattle.pool_outside.specs.Outside.{Rose, IsProperFront}
use Rattle.pool_outside.proofs.Laws.{cut_first, cut_second, joined}
use Rattle.std.specs.List.{AllByRecursion}
use Rattle.text_scan.specs.Text.{Text}
use Rattle.run_types.specs.declared.types.Event.{Event}
use Rattle.run_types.specs.declared.types.FullKind.{FullKind}
use Rattle.run_types.specs.declared.types.What.{What}
use Rattle.run_types.specs.declared.types.End.{End}
use Rattle.run_types.specs.declared.types.End.TheVariants as E
use Rattle.run_types.specs.declared.types.Line.{Line}
use Rattle.run_types.specs.declared.types.Line.TheVariants as R
use Rattle.run_types.specs.declared.types.Placement.{Placement}
use Rattle.code_semantics.specs.declared.unit.Unit.{Unit as Code}
use Rattle.mesh_semantics.specs.Config.{Config}
use Rattle.mesh_semantics.specs.Delay.{Delay}
use Rattle.run_types.specs.ObjectNames.{node_of}
use Rattle.run_types.specs.Asks.{request_number_of}
use Rattle.mesh_semantics.specs.Act.{Acted, Acts, Full, Nothing, act, is_quiet, object_count}
use Rattle.mesh_semantics.specs.Record.{Record, after, ends, labels, labels_of, record_at, record_from, shown, start, with_line}
use Rattle.mesh_semantics.specs.Sound.{IsSound, IsThere}
use Rattle.mesh_of_code.specs.Coded.{Placed, coded}
use Rattle.mesh_of_code.specs.CodeInvariant.{IsOfCode}
use Rattle.mesh_of_code.proofs.Laws.{code_fits, code_lawful}
use Rattle.mesh_semantics.proofs.Laws.{fit_of}
use Rattle.pool_machine.specs.MachineOf.{MachineOf}
use Rattle.pool_machine.specs.Answers.{IsAfter, IsOutcome, IsStart, MachineRepresents}
use Rattle.pool_machine.specs.SentPackets.{moved, nothing_sent}
use Rattle.pool_machine.specs.AnswerOf.{Answer}
use Rattle.pool_machine.specs.AnswerOf as O
use Rattle.schedule_reader.specs.Schedules.{Plan}
use Rattle.record_writer.specs.Writable.{IsWritable}
use Rattle.run_record.specs.declared.asks.Asks.{Asks}
use Rattle.run_record.specs.Table.{AreInTable, HasLast, InTable}
use Rattle.command_line.specs.declared.command.Show.{Show}
use Rattle.command_line.specs.declared.command.Show.TheVariants as Sh
use Rattle.command_shell.specs.declared.status.Status.{Status}
use Rattle.command_shell.specs.declared.status.Status.TheVariants as S
use Rattle.run_loop.specs.RunOutput.{Drives, HasRun, IsLoaded, run, run_from, shown_first, shown_line, shown_lines, shown_record, stopped, tells_fault, IsTableOf}
use Rattle.run_loop.proofs.RunUnderWay.{GoesTo, IsGoing}
use Rattle.pool_outside.specs.declared.calls.WriteFault.{WriteFault}
use Rattle.command_shell.specs.Writing.{Writing, IsIdle, Wrote, WroteFront, Delivers, Writes}
use Rattle.command_shell.specs.Writing as D
use Rattle.run_loop.specs.declared.drive.RunEnd.{RunEnd}
use Rattle.run_loop.proofs.AskerLaws.{act_there}
use Rattle.wait_report.specs.declared.rows.ObjectRow.{ObjectRow}
use Rattle.wait_report.specs.Report.{report_text}
use Rattle.run_loop.specs.ReportRows.{rows_in}
use Rattle.run_loop.specs.Shown.{counts_text, end_text, ended, ends_text, events_in, moves_in, one_event, one_move, ring_text, status_after, status_of}

-- two pieces of writing, one after the other

abbrev pub then : Writing → Writing → Writing
then j k = record { before = j.before; after = k.after; faults = j.faults; failed = k.failed }

pub nothing_more : (a : Option Text) → a ≡ option_map (λ w. w ++ []) a
nothing_more None = refl
nothing_more (Some w) = ap Some (sym (append-nil w))

-- the second begins where the first ends
abbrev pub Follows : Writing → Writing → Type 0
Follows j k = (k.before ≡ j.after) × (k.faults ≡ j.failed)

pub wrote_both : (s t : Text) (j k : Writing) → Follows j k → Wrote j s → Wrote k t → Wrote (then j k) (s ++ t)
wrote_both s t j k f a b = (joined s t j.before j.after k.after a.0 (b.0 ∙ ap (option_map (λ w. w ++ t)) f.0), b.1 ∙ f.1 ∙ a.1)

rose_from : (n m k : ℕ) → n ≡ m → Rose n k → Rose m k
rose_from n m k e h = subst (λ (x : ℕ). Rose x k) e h

-- a front of the second is a front of both, whatever comes behind
pub front_of_both : (s t rest : Text) (j k : Writing) → Follows j k → Wrote j s → WroteFront k t → WroteFront (then j k) (s ++ (t ++ rest))
front_of_both s t rest j k f a b = record {
  front = cut_second j.before j.after k.after s (t ++ rest) a.0 (cut_first j.after k.after t rest (subst (λ w. IsProperFront w t k.after) f.0 b.front));
  rose = rose_from k.faults j.faults k.failed (f.1 ∙ a.1) b.rose;
}

-- a text that is written behind one that was written
pub then_writes : (s t : Text) (j k : Writing) (planned status : Status) → Follows j k → Wrote j s → Writes k t planned status → Writes (then j k) (s ++ t) planned status
then_writes s t j k planned status f a (D.whole wrote h) = D.whole (wrote_both s t j k f a wrote) h
then_writes s t j k planned status f a (D.cut front h) =
    D.cut (subst (WroteFront (then j k)) (ap (λ (x : Text). s ++ x) (append-nil t)) (front_of_both s t [] j k f a front)) h

-- a front of the first is a front of both
pub front_of_first : (s t : Text) (k : Writing) → WroteFront k s → WroteFront k (s ++ t)
front_of_first s t k a = record { front = cut_first k.before k.after s t a.front; rose = a.rose }

-- the same lines
pub delivers : (k : Writing) (show : Show) (names : List Text) (ls ms : List Line) (status : Status) → ls ≡ ms → Writes k (shown_record show names ls) (status_of ls) status
    → Delivers k (shown_record show names ms) (status_of ms) status
delivers k show names ls ms status e w = D.written (subst (λ (x : List Line). Writes k (shown_record show names x) (status_of x) status) e w)

-- what is left of a list from a place on

left_at : (es : List Event) (n : ℕ) (e : Event) → slice_get es n ≡ Some e → drop n es ≡ e ∷ drop (n + 1) es
left_at es n e h = drop_more es n e (slice_get_within es n e h) ∙ ap (λ (x : Event). x ∷ drop (n + 1) es) (get_or_from_slice_get es n e e h)

module _ (show : Show) (u : Code) (l : Placement) (plan : Plan) where
  abbrev rest : Config Placed → Delay → ℕ → List Event → Record Placed
  rest c d done es = run_from u l plan c d done es

  -- the record that is left where all is quiet, where no event is left, and where an event is made

  abbrev last_of : Config Placed → Delay → ℕ → Bool → Record Placed
  last_of c d done b = elim b as (λ x. Record Placed) [ true ↦ ends (E.Quiet done) c d | false ↦ ends (E.Schedule done) c d ]

  abbrev next_of : Config Placed → Delay → ℕ → Event → List Event → Acted Placed → Record Placed
  next_of c d done e es x = after e done c d (λ c' d'. record_from (coded u) l plan.quantum c' d' (done + 1) es) x

  abbrev first_of : Config Placed → Delay → ℕ → Event → List Event → Bool → Record Placed
  first_of c d done e es b = elim b as (λ x. Record Placed) [
    | true ↦ ends (E.Quiet done) c d
    | false ↦ after e done c d (λ c' d'. record_from (coded u) l plan.quantum c' d' (done + 1) es) (act (coded u) l plan.quantum c d e)
  ]

  rest_quiet : (c : Config Placed) (d : Delay) (done : ℕ) (es : List Event) → is_quiet (coded u) c d ≡ true → rest c d done es ≡ ends (E.Quiet done) c d
  rest_quiet c d done [] i = ap (last_of c d done) i
  rest_quiet c d done (e ∷ es) i = ap (first_of c d done e es) i

  rest_over : (c : Config Placed) (d : Delay) (done : ℕ) → is_quiet (coded u) c d ≡ false → rest c d done [] ≡ ends (E.Schedule done) c d
  rest_over c d done i = ap (last_of c d done) i

  rest_full : (c : Config Placed) (d : Delay) (done : ℕ) (e : Event) (es : List Event) (kind : FullKind) (node : ℕ) → is_quiet (coded u) c d ≡ false
      → act (coded u) l plan.quantum c d e ≡ Full kind node → rest c d done (e ∷ es) ≡ ends (E.Full kind node done) c d
  rest_full c d done e es kind node i h = ap (first_of c d done e es) i ∙ ap (next_of c d done e es) h

  rest_more : (c c' : Config Placed) (d d' : Delay) (done : ℕ) (e : Event) (es : List Event) (w : What) → is_quiet (coded u) c d ≡ false
      → act (coded u) l plan.quantum c d e ≡ Acts w c' d' → rest c d done (e ∷ es) ≡ with_line (R.Event (done + 1) e w) (rest c' d' (done + 1) es)
  rest_more c c' d d' done e es w i h = ap (first_of c d done e es) i ∙ ap (next_of c d done e es) h

  module _ (c : Config Placed) (d : Delay) where
    abbrev Going : MachineOf → Asks → ℕ → Bool → Writing → Type 0
    Going m a done faulted k = IsGoing show u l plan c d m a done faulted k

    -- the first piece is cut off
    pub first_cut : (m : MachineOf) (k : Writing) (fault : WriteFault) → WroteFront k (shown_first show) → Drives show u l plan c d m k (Err fault)
    first_cut m k fault w = stopped fault refl (front_of_first (shown_first show) (shown_lines show u.names [] (rest c d 0 plan.events).lines) k w) (λ z. subst (WroteFront k) (ap shown_first z) w)

    abbrev all : Record Placed
    all = rest c d 0 plan.events

    none_before : (n k : ℕ) → k ≡ 0 → n ≡ k + n
    none_before n k z = omega (arith, z)

    pub begins : (m : MachineOf) (a : Asks) (k : Writing) → m.unit ≡ u → m.placement ≡ l → is_some m.wires ≡ plan.lossy → m.done ≡ 0 → m.moves ≡ 0 → m.transitions ≡ 0 → MachineRepresents m c d
        → IsTableOf l a [] → Wrote k (shown_first show) → Going m a 0 false k
    begins m a k unit placement wired made unmoved still stands table wrote = record {
      unit = unit;
      placement = placement;
      wired = wired;
      made = made;
      config = c;
      delay = d;
      stands = stands;
      earlier = [];
      table = table;
      text = shown_first show;
      wrote = wrote;
      silent = λ h. ap shown_first h;
      lines = refl;
      writable = λ can. can;
      status = refl;
      goes = record {
        last = refl;
        delay = refl;
        events = none_before (events_in all.lines) 0 refl;
        moves = none_before (moves_in all.lines) m.moves unmoved;
        transitions = none_before (length (labels all.lines)) m.transitions still;
      };
    }

    -- what is left of it now
    abbrev left : (m : MachineOf) (a : Asks) (done : ℕ) (faulted : Bool) (j : Writing) → Going m a done faulted j → Record Placed
    left m a done faulted j g = rest g.config g.delay done (drop done plan.events)

    plus_none : (a b n : ℕ) → a ≡ b + n → n ≡ 0 → a ≡ b
    plus_none a b n e z = omega (arith, e, z)

    -- the end
    pub ended_at : (m : MachineOf) (a : Asks) (done : ℕ) (faulted : Bool) (j : Writing) (e : End) (g : Going m a done faulted j) → left m a done faulted j g ≡ ends e g.config g.delay
        → HasRun show u l plan c d m j (record { faulted = faulted; end = e })
    ended_at m a done faulted j e g is = record {
      unit = g.unit;
      placement = g.placement;
      stands = subst (λ (x : Config Placed). MachineRepresents m x all.delay) (sym (g.goes.last ∙ ap (λ (r : Record Placed). r.last) is))
          (subst (λ (x : Delay). MachineRepresents m g.config x) (sym (g.goes.delay ∙ ap (λ (r : Record Placed). r.delay) is)) g.stands);
      text = g.text;
      wrote = g.wrote;
      silent = g.silent;
      lines = g.lines ∙ ap (λ (r : Record Placed). g.text ++ shown_lines show u.names g.earlier r.lines) is;
      status = g.status ∙ ap (λ (r : Record Placed). status_after faulted r.lines) is;
      events = plus_none (events_in all.lines) done (events_in (left m a done faulted j g).lines) g.goes.events (ap (λ (r : Record Placed). events_in r.lines) is) ∙ sym g.made;
      moves = plus_none (moves_in all.lines) m.moves (moves_in (left m a done faulted j g).lines) g.goes.moves (ap (λ (r : Record Placed). moves_in r.lines) is);
      transitions = plus_none (length (labels all.lines)) m.transitions (length (labels (left m a done faulted j g).lines)) g.goes.transitions (ap (λ (r : Record Placed). length (labels r.lines)) is);
    }

    pub runs : (m : MachineOf) (a : Asks) (done : ℕ) (faulted : Bool) (j : Writing) (e : End) (g : Going m a done faulted j) → left m a done faulted j g ≡ ends e g.config g.delay
        → Drives show u l plan c d m j (Ok (record { faulted = faulted; end = e }))
    runs m a done faulted j e g is = run (record { faulted = faulted; end = e }) refl (ended_at m a done faulted j e g is)

    -- an answer of the machine, by its configuration
    pub outcome_at : (m n : MachineOf) (a : Asks) (done : ℕ) (faulted : Bool) (j : Writing) (q : ℕ) (e : Event) (r : Answer) (g : Going m a done faulted j) → q ≡ plan.quantum
        → IsOutcome e m r n (act (coded m.unit) m.placement q g.config g.delay e) → IsOutcome e m r n (act (coded u) l plan.quantum g.config g.delay e)
    outcome_at m n a done faulted j q e r g same h =
        subst (λ (x : ℕ). IsOutcome e m r n (act (coded u) l x g.config g.delay e)) same
        (subst (λ (x : Placement). IsOutcome e m r n (act (coded u) x q g.config g.delay e)) g.placement
        (subst (λ (x : Code). IsOutcome e m r n (act (coded x) m.placement q g.config g.delay e)) g.unit h))

    pub fills : (m n : MachineOf) (a : Asks) (done : ℕ) (faulted : Bool) (j : Writing) (e : Event) (kind : FullKind) (node : ℕ) (g : Going m a done faulted j) → slice_get plan.events done ≡ Some e
        → is_quiet (coded u) g.config g.delay ≡ false → IsOutcome e m (O.Full kind node) n (act (coded u) l plan.quantum g.config g.delay e)
        → left m a done faulted j g ≡ ends (E.Full kind node done) g.config g.delay
    fills m n a done faulted j e kind node g at busy h = by (act (coded u) l plan.quantum g.config g.delay e) refl h
      where
        by : (x : Acted Placed) → act (coded u) l plan.quantum g.config g.delay e ≡ x → IsOutcome e m (O.Full kind node) n x → left m a done faulted j g ≡ ends (E.Full kind node done) g.config g.delay
        by (Acts w c' d') i h = absurd h
        by (Full k o) i h =
            ap (rest g.config g.delay done) (left_at plan.events done e at) ∙ rest_full g.config g.delay done e (drop (done + 1) plan.events) k o busy i
            ∙ ap (λ (x : FullKind). ends (E.Full x o done) g.config g.delay) (sym h.0) ∙ ap (λ (x : ℕ). ends (E.Full kind x done) g.config g.delay) (sym h.1)
        by Nothing i h = absurd h

    pub fills_up : (m n : MachineOf) (a : Asks) (done : ℕ) (faulted : Bool) (j : Writing) (e : Event) (kind : FullKind) (node : ℕ) (g : Going m a done faulted j) → slice_get plan.events done ≡ Some e
        → is_quiet (coded u) g.config g.delay ≡ false → IsOutcome e m (O.Full kind node) n (act (coded u) l plan.quantum g.config g.delay e)
        → Drives show u l plan c d n j (Ok (record { faulted = faulted; end = E.Full kind node done }))
    fills_up m n a done faulted j e kind node g at busy h =
        subst (λ (x : MachineOf). Drives show u l plan c d x j (Ok (record { faulted = faulted; end = E.Full kind node done }))) (sym (same (act (coded u) l plan.quantum g.config g.delay e) h))
        (runs m a done faulted j (E.Full kind node done) g (fills m n a done faulted j e kind node g at busy h))
      where
        same : (x : Acted Placed) → IsOutcome e m (O.Full kind node) n x → n ≡ m
        same (Acts w c' d') i = absurd i
        same (Full k o) i = i.2
        same Nothing i = absurd i

    -- a line: the lines that were left are this one and those that are left now
    pub record Goes (m n : MachineOf) (done : ℕ) (e : Event) (line : Line) (cfg : Config Placed) (dl : Delay) : Type 0 where
      pub what : What
      pub config : Config Placed
      pub delay : Delay
      pub acts : act (coded u) l plan.quantum cfg dl e ≡ Acts what config delay
      pub is : line ≡ R.Event (done + 1) e what
      pub stands : MachineRepresents n config delay
      pub unit : n.unit ≡ u
      pub placement : n.placement ≡ l
      pub made : n.done ≡ done + 1
      pub after : IsAfter m n e what
      pub rests : rest cfg dl done (drop done plan.events) ≡ with_line line (rest config delay (done + 1) (drop (done + 1) plan.events))

    pub goes : (m n : MachineOf) (a : Asks) (done : ℕ) (faulted : Bool) (j : Writing) (e : Event) (line : Line) (g : Going m a done faulted j) → slice_get plan.events done ≡ Some e
        → is_quiet (coded u) g.config g.delay ≡ false → IsOutcome e m (O.Line line) n (act (coded u) l plan.quantum g.config g.delay e)
        → Goes m n done e line g.config g.delay
    goes m n a done faulted j e line g at busy h = by (act (coded u) l plan.quantum g.config g.delay e) refl h
      where
        by : (x : Acted Placed) → act (coded u) l plan.quantum g.config g.delay e ≡ x → IsOutcome e m (O.Line line) n x → Goes m n done e line g.config g.delay
        by (Acts w c' d') i h =
            let is : line ≡ R.Event (done + 1) e w = h.0 ∙ ap (λ (x : ℕ). R.Event (x + 1) e w) g.made in
            record {
              what = w;
              config = c';
              delay = d';
              acts = i;
              is = is;
              stands = h.2;
              unit = h.1.unit ∙ g.unit;
              placement = h.1.placement ∙ g.placement;
              made = h.1.done ∙ ap (λ (x : ℕ). x + 1) g.made;
              after = h.1;
              rests = ap (rest g.config g.delay done) (left_at plan.events done e at) ∙ rest_more g.config c' g.delay d' done e (drop (done + 1) plan.events) w busy i
                  ∙ ap (λ (x : Line). with_line x (rest c' d' (done + 1) (drop (done + 1) plan.events))) (sym is);
            }
        by (Full k o) i h = absurd h
        by Nothing i h = absurd h

    -- the first of the lines that are left can be written, and so can the others

    abbrev CanWrite : List Line → Type 0
    CanWrite ls = AllByRecursion (IsWritable u.names) ls

    pub lines_left : (m n : MachineOf) (a : Asks) (done : ℕ) (faulted : Bool) (j : Writing) (e : Event) (line : Line) (g : Going m a done faulted j) (h : Goes m n done e line g.config g.delay)
        → CanWrite all.lines → CanWrite (line ∷ (rest h.config h.delay (done + 1) (drop (done + 1) plan.events)).lines)
    lines_left m n a done faulted j e line g h can = subst (λ (r : Record Placed). CanWrite r.lines) h.rests (g.writable can)

    pub writable : (m n : MachineOf) (a : Asks) (done : ℕ) (faulted : Bool) (j : Writing) (e : Event) (line : Line) (g : Going m a done faulted j) → Goes m n done e line g.config g.delay
        → CanWrite all.lines → IsWritable u.names line
    writable m n a done faulted j e line g h can = (lines_left m n a done faulted j e line g h can).0

    -- who asks and who posts in the line has a place in the table
    pub in_table : (m n : MachineOf) (a : Asks) (done : ℕ) (faulted : Bool) (j : Writing) (e : Event) (line : Line) (g : Going m a done faulted j) → Goes m n done e line g.config g.delay → IsLoaded u l plan
        → AreInTable a line
    in_table m n a done faulted j e line g h loaded =
        let sound = subst (λ (x : Placement). IsSound (coded u) (IsOfCode u) x g.config g.delay) g.placement
        (subst (λ (x : Code). IsSound (coded x) (IsOfCode x) m.placement g.config g.delay) g.unit g.stands.sound) in
        let there = act_there (coded u) (IsOfCode u) (code_lawful u loaded.proper) l (fit_of (coded u) l (code_fits u l loaded.suits)) g.config g.delay sound plan.quantum e h.what h.config h.delay h.acts in
        subst (AreInTable a) (sym h.is) (λ o i. has_place a g.table sound o (there.0 o i), λ o i. has_place a g.table sound o (there.1 o i))
      where
        less : (n a b k : ℕ) → n < k → k ≤ b → a ≡ b → n < a
        less n a b k x y z = omega (arith, x, y, z)

        has_place : {earlier : List Line} {x : Config Placed} {y : Delay} (a : Asks) → IsTableOf l a earlier → IsSound (coded u) (IsOfCode u) l x y → (o : ℕ) → IsThere x o → InTable a o
        has_place {x = x} a t sound o h =
            let at = sound.state.names o h in
            (subst (λ k. o / 65536 < k) (sym t.nodes) at.0, less (o % 65536) a.objects l.objects (object_count x (node_of o)) at.1 (sound.limits (node_of o)).0 t.objects)

    -- what the table does with a line
    pub record Keeps (a b : Asks) (line : Line) (ask : ℕ) : Type 0 where
      pub number : (earlier : List Line) → HasLast a earlier → (ask ≡ request_number_of earlier line) × HasLast b (line ∷ earlier)
      pub size : (b.nodes ≡ a.nodes) × (b.objects ≡ a.objects)

    next_table : (a b : Asks) (line : Line) (ask : ℕ) (earlier : List Line) → Keeps a b line ask → IsTableOf l a earlier → IsTableOf l b (line ∷ earlier)
    next_table a b line ask earlier k t = record { nodes = k.size.0 ∙ t.nodes; objects = k.size.1 ∙ t.objects; last = (k.number earlier t.last).1 }

    abbrev after_line : Bool → Line → Bool
    after_line faulted line = faulted || tells_fault line

    status_goes : (faulted : Bool) (line : Line) (number : ℕ) (e : Event) (w : What) (ls : List Line) → line ≡ R.Event number e w → status_after faulted (line ∷ ls) ≡ status_after (after_line faulted line) ls
    status_goes faulted line number e w ls h = rw h refl

    -- what is left after a line
    abbrev next : (m n : MachineOf) (done : ℕ) (e : Event) (line : Line) (cfg : Config Placed) (dl : Delay) → Goes m n done e line cfg dl → Record Placed
    next m n done e line cfg dl h = rest h.config h.delay (done + 1) (drop (done + 1) plan.events)

    one_more : (a b n k s : ℕ) → a ≡ b + n → n ≡ k + s → a ≡ (b + k) + s
    one_more a b n k s e z = omega (arith, e, z)

    goes_further : (m n : MachineOf) (a : Asks) (done : ℕ) (faulted : Bool) (j : Writing) (e : Event) (line : Line) (g : Going m a done faulted j) (h : Goes m n done e line g.config g.delay)
        → GoesTo all (next m n done e line g.config g.delay h) (done + 1) n.moves n.transitions
    goes_further m n a done faulted j e line g h =
        let lines = ap (λ (r : Record Placed). r.lines) h.rests in
        let later = next m n done e line g.config g.delay h in
        record {
          last = g.goes.last ∙ ap (λ (r : Record Placed). r.last) h.rests;
          delay = g.goes.delay ∙ ap (λ (r : Record Placed). r.delay) h.rests;
          events = one_more (events_in all.lines) done (events_in (left m a done faulted j g).lines) 1 (events_in later.lines) g.goes.events
              (ap events_in lines ∙ ap (λ (x : Line). one_event x + events_in later.lines) h.is);
          moves = one_more (moves_in all.lines) m.moves (moves_in (left m a done faulted j g).lines) (moved e h.what) (moves_in later.lines) g.goes.moves
              (ap moves_in lines ∙ ap (λ (x : Line). one_move x + moves_in later.lines) h.is)
              ∙ ap (λ (x : ℕ). x + moves_in later.lines) (sym h.after.moves);
          transitions = one_more (length (labels all.lines)) m.transitions (length (labels (left m a done faulted j g).lines)) (length (shown h.what)) (length (labels later.lines)) g.goes.transitions
              (ap (λ (x : List Line). length (labels x)) lines ∙ ap (λ (x : Line). length (labels_of x ++ labels later.lines)) h.is ∙ length-append (shown h.what) (labels later.lines))
              ∙ ap (λ (x : ℕ). x + length (labels later.lines)) (sym h.after.transitions);
        }

    nothing_shown : (text : Text) (ask : ℕ) (line : Line) (number : ℕ) (e : Event) (w : What) → line ≡ R.Event number e w → (show ≡ Sh.Report → text ≡ []) → show ≡ Sh.Report
        → text ++ shown_line show u.names ask line ≡ []
    nothing_shown text ask line number e w is h z =
        ap (λ (t : Text). t ++ shown_line show u.names ask line) (h z) ∙ ap (λ (s : Show). shown_line s u.names ask line) z ∙ ap (end_text u.names) is

    pub goes_on : (m n : MachineOf) (a b : Asks) (done : ℕ) (faulted now : Bool) (j k : Writing) (e : Event) (line : Line) (ask : ℕ) (g : Going m a done faulted j) → Goes m n done e line g.config g.delay
        → Follows j k → Keeps a b line ask → Wrote k (shown_line show u.names ask line) → now ≡ after_line faulted line → Going n b (done + 1) now (then j k)
    goes_on m n a b done faulted now j k e line ask g h f kept w told =
        let later = next m n done e line g.config g.delay h in
        let asked = (kept.number g.earlier g.table.last).0 in
        record {
          unit = h.unit;
          placement = h.placement;
          wired = h.after.lossy ∙ g.wired;
          made = h.made;
          config = h.config;
          delay = h.delay;
          stands = h.stands;
          earlier = line ∷ g.earlier;
          table = next_table a b line ask g.earlier kept g.table;
          text = g.text ++ shown_line show u.names ask line;
          wrote = wrote_both g.text (shown_line show u.names ask line) j k f g.wrote w;
          silent = nothing_shown g.text ask line (done + 1) e h.what h.is g.silent;
          lines = g.lines ∙ ap (λ (r : Record Placed). g.text ++ shown_lines show u.names g.earlier r.lines) h.rests
              ∙ ap (λ n. g.text ++ (shown_line show u.names n line ++ shown_lines show u.names (line ∷ g.earlier) later.lines)) (sym asked)
              ∙ sym (append_assoc g.text (shown_line show u.names ask line) (shown_lines show u.names (line ∷ g.earlier) later.lines));
          writable = λ can. (lines_left m n a done faulted j e line g h can).1;
          status = g.status ∙ ap (λ (r : Record Placed). status_after faulted r.lines) h.rests ∙ status_goes faulted line (done + 1) e h.what later.lines h.is
              ∙ ap (λ (b : Bool). status_after b later.lines) (sym told);
          goes = goes_further m n a done faulted j e line g h;
        }

    silent_cut : (j k : Writing) (text : Text) (ask : ℕ) (line : Line) (number : ℕ) (e : Event) (w : What) → line ≡ R.Event number e w → Follows j k → text ≡ [] → Wrote j text → show ≡ Sh.Report
        → WroteFront k (shown_line show u.names ask line) → WroteFront (then j k) []
    silent_cut j k text ask line number e w is f none wrote z front =
        front_of_both [] [] [] j k f (subst (Wrote j) none wrote) (subst (WroteFront k) (ap (λ (s : Show). shown_line s u.names ask line) z ∙ ap (end_text u.names) is) front)

    pub cut_off : (m n : MachineOf) (a b : Asks) (done : ℕ) (faulted : Bool) (j k : Writing) (e : Event) (line : Line) (ask : ℕ) (g : Going m a done faulted j) → Goes m n done e line g.config g.delay
        → Follows j k → Keeps a b line ask → WroteFront k (shown_line show u.names ask line) → WroteFront (then j k) (shown_record show u.names all.lines)
    cut_off m n a b done faulted j k e line ask g h f kept w =
        let later = next m n done e line g.config g.delay h in
        subst (WroteFront (then j k)) (sym (g.lines ∙ ap (λ (r : Record Placed). g.text ++ shown_lines show u.names g.earlier r.lines) h.rests
        ∙ ap (λ n. g.text ++ (shown_line show u.names n line ++ shown_lines show u.names (line ∷ g.earlier) later.lines)) (sym (kept.number g.earlier g.table.last).0)))
        (front_of_both g.text (shown_line show u.names ask line) (shown_lines show u.names (line ∷ g.earlier) later.lines) j k f g.wrote w)

    -- whether all is quiet, by the machine's answer
    pub quiet_at : (m : MachineOf) (a : Asks) (done : ℕ) (faulted : Bool) (j : Writing) (answer b : Bool) (g : Going m a done faulted j) → answer ≡ is_quiet (coded m.unit) g.config g.delay → answer ≡ b
        → is_quiet (coded u) g.config g.delay ≡ b
    quiet_at m a done faulted j answer b g h i = ap (λ (x : Code). is_quiet (coded x) g.config g.delay) (sym g.unit) ∙ sym h ∙ i

    pub quiet_left : (m : MachineOf) (a : Asks) (done : ℕ) (faulted : Bool) (j : Writing) (g : Going m a done faulted j) → is_quiet (coded u) g.config g.delay ≡ true
        → left m a done faulted j g ≡ ends (E.Quiet done) g.config g.delay
    quiet_left m a done faulted j g i = rest_quiet g.config g.delay done (drop done plan.events) i

    pub none_left : (m : MachineOf) (a : Asks) (done : ℕ) (faulted : Bool) (j : Writing) (g : Going m a done faulted j) → length plan.events ≤ done → is_quiet (coded u) g.config g.delay ≡ false
        → left m a done faulted j g ≡ ends (E.Schedule done) g.config g.delay
    none_left m a done faulted j g h i = ap (rest g.config g.delay done) (drop_all done plan.events h) ∙ rest_over g.config g.delay done i

    -- the end after so many events, which is a number that equals theirs
    pub quiet_after : (m : MachineOf) (a : Asks) (done n : ℕ) (faulted : Bool) (j : Writing) (g : Going m a done faulted j) → is_quiet (coded u) g.config g.delay ≡ true → done ≡ n
        → Drives show u l plan c d m j (Ok (record { faulted = faulted; end = E.Quiet n }))
    quiet_after m a done n faulted j g i same =
        runs m a done faulted j (E.Quiet n) g (quiet_left m a done faulted j g i ∙ ap (λ (x : ℕ). ends (E.Quiet x) g.config g.delay) same)

    pub none_after : (m : MachineOf) (a : Asks) (done n : ℕ) (faulted : Bool) (j : Writing) (g : Going m a done faulted j) → length plan.events ≤ done → is_quiet (coded u) g.config g.delay ≡ false → done ≡ n
        → Drives show u l plan c d m j (Ok (record { faulted = faulted; end = E.Schedule n }))
    none_after m a done n faulted j g h i same =
        runs m a done faulted j (E.Schedule n) g (none_left m a done faulted j g h i ∙ ap (λ (x : ℕ). ends (E.Schedule x) g.config g.delay) same)

    -- the same by the names that are given
    module _ (names : List Text) (table : names ≡ u.names) where
      pub named_cut : (m n : MachineOf) (a b : Asks) (done : ℕ) (faulted : Bool) (j k : Writing) (e : Event) (line : Line) (ask : ℕ) (fault : WriteFault) (g : Going m a done faulted j)
          → Goes m n done e line g.config g.delay → Follows j k → Keeps a b line ask → WroteFront k (shown_line show names ask line) → Drives show u l plan c d n (then j k) (Err fault)
      named_cut m n a b done faulted j k e line ask fault g h f kept w =
          let front = subst (λ (t : List Text). WroteFront k (shown_line show t ask line)) table w in
          stopped fault refl (cut_off m n a b done faulted j k e line ask g h f kept front) (λ z. silent_cut j k g.text ask line (done + 1) e h.what h.is f (g.silent z) g.wrote z front)

      pub named_line : (m n : MachineOf) (a : Asks) (done : ℕ) (faulted : Bool) (j : Writing) (e : Event) (line : Line) (g : Going m a done faulted j) → Goes m n done e line g.config g.delay
          → CanWrite all.lines → IsWritable names line
      named_line m n a done faulted j e line g h can = subst (λ (t : List Text). IsWritable t line) (sym table) (writable m n a done faulted j e line g h can)

      pub named_on : (m n : MachineOf) (a b : Asks) (done : ℕ) (faulted now : Bool) (j k : Writing) (e : Event) (line : Line) (ask : ℕ) (g : Going m a done faulted j) → Goes m n done e line g.config g.delay
          → Follows j k → Keeps a b line ask → Wrote k (shown_line show names ask line) → now ≡ after_line faulted line → Going n b (done + 1) now (then j k)
      named_on m n a b done faulted now j k e line ask g h f kept w told =
          goes_on m n a b done faulted now j k e line ask g h f kept (subst (λ (t : List Text). Wrote k (shown_line show t ask line)) table w) told

-- what came of a run, and what is written behind it

module _ (show : Show) (u : Code) (l : Placement) (plan : Plan) (c : Config Placed) (d : Delay) (m : MachineOf) (j : Writing) where
  abbrev whole : Record Placed
  whole = run_from u l plan c d 0 plan.events

  pub has_run : (e : RunEnd) → Drives show u l plan c d m j (Ok e) → HasRun show u l plan c d m j e
  has_run e (run f is h) = let same : f ≡ e = cc in subst (HasRun show u l plan c d m j) same h
  has_run e (stopped f is h z) = absurd (cc)

  pub end_writes : (names : List Text) (k : Writing) (e : RunEnd) (status : Status) → names ≡ u.names → HasRun show u l plan c d m j e → Follows j k
      → Writes k (shown_line show names 0 (R.End e.end)) (ended e.faulted e.end) status → Writes (then j k) (shown_record show u.names whole.lines) (status_of whole.lines) status
  end_writes names k e status table h f w =
      subst (λ (s : Status). Writes (then j k) (shown_record show u.names whole.lines) s status) (sym h.status)
      (subst (λ (t : Text). Writes (then j k) t (ended e.faulted e.end) status) (ap (λ (t : Text). h.text ++ t) (sym (append-nil (shown_line show u.names 0 (R.End e.end)))) ∙ sym h.lines)
      (then_writes h.text (shown_line show u.names 0 (R.End e.end)) j k (ended e.faulted e.end) status f h.wrote
      (subst (λ (n : List Text). Writes k (shown_line show n 0 (R.End e.end)) (ended e.faulted e.end) status) table w)))

  pub cut_writes : (fault : WriteFault) → Drives show u l plan c d m j (Err fault) → Writes j (shown_record show u.names whole.lines) (status_of whole.lines) S.WriteFault
  cut_writes fault (run e is h) = absurd (cc)
  cut_writes fault (stopped f is h z) = D.cut h refl

-- the record of what was loaded, by its start
pub can_from_start : (u : Code) (l : Placement) (plan : Plan) (c : Config Placed) → start (coded u) l ≡ Some c → IsLoaded u l plan
    → AllByRecursion (IsWritable u.names) (run_from u l plan c (nothing_sent plan.lossy) 0 plan.events).lines
can_from_start u l plan c starts loaded =
    subst (λ (o : Option (Config Placed)). AllByRecursion (IsWritable u.names) (record_at (coded u) l plan.quantum o (nothing_sent plan.lossy) plan.events).lines) starts loaded.writable

-- a machine that was made with wires where the schedule is lossy
pub made_of : (u : Code) (l : Placement) (lossy : Bool) (plan : Plan) (m : MachineOf) → lossy ≡ plan.lossy → IsStart u l lossy m → IsStart u l plan.lossy m
made_of u l lossy plan m same h = subst (λ (b : Bool). IsStart u l b m) same h

-- a run by the machine's unit and placement
pub from_start : (show : Show) (u : Code) (l : Placement) (plan : Plan) (c : Config Placed) (d : Delay) (m n : MachineOf) (j : Writing) (result : Result RunEnd WriteFault) → m.unit ≡ u → m.placement ≡ l
    → Drives show m.unit m.placement plan c d n j result → Drives show u l plan c d n j result
from_start show u l plan c d m n j result unit placement h =
    subst (λ (x : Placement). Drives show u x plan c d n j result) placement (subst (λ (v : Code). Drives show v m.placement plan c d n j result) unit h)

-- the same of a record that equals it
pub delivers_of : (k : Writing) (show : Show) (names : List Text) (a b : Record Placed) (status : Status) → a ≡ b → Writes k (shown_record show names a.lines) (status_of a.lines) status
    → Delivers k (shown_record show names b.lines) (status_of b.lines) status
delivers_of k show names a b status e w = delivers k show names a.lines b.lines status (ap (λ (r : Record Placed). r.lines) e) w

-- a report behind a run of which nothing was written

ends_behind : (names : List Text) (earlier ls : List Line) → shown_lines Sh.Report names earlier ls ≡ ends_text names ls
ends_behind names earlier [] = refl
ends_behind names earlier (l ∷ ls) = ap (λ (t : Text). end_text names l ++ t) (ends_behind names (l ∷ earlier) ls)

pub ends_are : (names : List Text) (ls : List Line) → shown_record Sh.Report names ls ≡ ends_text names ls
ends_are names ls = ends_behind names [] ls

stays_idle : (j k : Writing) → Follows j k → Wrote j [] → IsIdle k → IsIdle (then j k)
stays_idle j k f w i = (i.0 ∙ f.0 ∙ w.0 ∙ sym (nothing_more j.before), i.1 ∙ f.1 ∙ w.1)

then_delivers : (t : Text) (j k : Writing) (planned status : Status) → Follows j k → Wrote j [] → Delivers k t planned status → Delivers (then j k) t planned status
then_delivers t j k planned status f w (D.written h) = D.written (then_writes [] t j k planned status f w h)
then_delivers t j k planned status f w (D.nothing i e) = D.nothing (stays_idle j k f w i) e

module _ (u : Code) (l : Placement) (plan : Plan) (c : Config Placed) (d : Delay) (m : MachineOf) (j : Writing) where
  abbrev record_whole : Record Placed
  record_whole = run_from u l plan c d 0 plan.events

  abbrev rows_whole : List ObjectRow
  rows_whole = rows_in (coded u) record_whole.delay record_whole.last.objects

  pub report_delivers : (names : List Text) (k : Writing) (e : RunEnd) (status : Status) → names ≡ u.names → HasRun Sh.Report u l plan c d m j e → Follows j k
      → ((x : Config Placed) (y : Delay) → MachineRepresents m x y → Delivers k (report_text names (rows_in (coded m.unit) y x.objects) ++ end_text names (R.End e.end)) (ended e.faulted e.end) status)
      → Delivers (then j k) (report_text u.names (rows_in (coded u) (run_from u l plan c d 0 plan.events).delay (run_from u l plan c d 0 plan.events).last.objects) ++ ends_text u.names (run_from u l plan c d 0 plan.events).lines)
      (status_of (run_from u l plan c d 0 plan.events).lines) status
  report_delivers names k e status table h f told =
      subst (λ (s : Status). Delivers (then j k) (report_text u.names rows_whole ++ ends_text u.names record_whole.lines) s status) (sym h.status)
      (then_delivers (report_text u.names rows_whole ++ ends_text u.names record_whole.lines) j k (ended e.faulted e.end) status f (subst (Wrote j) (h.silent refl) h.wrote)
      (subst (λ (t : Text). Delivers k (report_text u.names rows_whole ++ t) (ended e.faulted e.end) status) (sym last)
      (subst (λ (n : List Text). Delivers k (report_text n rows_whole ++ end_text n (R.End e.end)) (ended e.faulted e.end) status) table
      (subst (λ (v : Code). Delivers k (report_text names (rows_in (coded v) record_whole.delay record_whole.last.objects) ++ end_text names (R.End e.end)) (ended e.faulted e.end) status) h.unit
      (told record_whole.last record_whole.delay h.stands)))))
    where
      last : ends_text u.names record_whole.lines ≡ end_text u.names (R.End e.end)
      last = sym (ends_are u.names record_whole.lines) ∙ h.lines ∙ ap (λ (t : Text). t ++ (end_text u.names (R.End e.end) ++ [])) (h.silent refl) ∙ append-nil (end_text u.names (R.End e.end))

  -- where a write fails, nothing was written
  pub report_cut : (t : Text) (planned : Status) (fault : WriteFault) → Drives Sh.Report u l plan c d m j (Err fault) → Delivers j t planned S.WriteFault
  report_cut t planned fault (run e is h) = absurd (cc)
  report_cut t planned fault (stopped f is h z) = D.written (D.cut (front_of_first [] t j (z refl)) refl)

-- the same of a record that equals it
pub report_of_run : (k : Writing) (u : Code) (a b : Record Placed) (status : Status) → a ≡ b
    → Delivers k (report_text u.names (rows_in (coded u) a.delay a.last.objects) ++ ends_text u.names a.lines) (status_of a.lines) status
    → Delivers k (report_text u.names (rows_in (coded u) b.delay b.last.objects) ++ ends_text u.names b.lines) (status_of b.lines) status
report_of_run k u a b status e w =
    subst (λ (r : Record Placed). Delivers k (report_text u.names (rows_in (coded u) r.delay r.last.objects) ++ ends_text u.names r.lines) (status_of r.lines) status) e w

module _ (u : Code) (l : Placement) (plan : Plan) (c : Config Placed) (d : Delay) (m : MachineOf) (j : Writing) where
  abbrev counted : Record Placed
  counted = run_from u l plan c d 0 plan.events

  pub ring_delivers : (names : List Text) (k : Writing) (e : RunEnd) (status : Status) → names ≡ u.names → HasRun Sh.Report u l plan c d m j e → Follows j k
      → Delivers k (counts_text m.done m.transitions m.moves ++ end_text names (R.End e.end)) (ended e.faulted e.end) status
      → Delivers (then j k) (ring_text u.names counted.lines) (status_of counted.lines) status
  ring_delivers names k e status table h f told =
      subst (λ (s : Status). Delivers (then j k) (ring_text u.names counted.lines) s status) (sym h.status)
      (then_delivers (ring_text u.names counted.lines) j k (ended e.faulted e.end) status f (subst (Wrote j) (h.silent refl) h.wrote)
      (subst (λ (t : Text). Delivers k t (ended e.faulted e.end) status) (sym counts ∙ refl)
      (subst (λ (n : List Text). Delivers k (counts_text m.done m.transitions m.moves ++ end_text n (R.End e.end)) (ended e.faulted e.end) status) table told)))
    where
      last : ends_text u.names counted.lines ≡ end_text u.names (R.End e.end)
      last = sym (ends_are u.names counted.lines) ∙ h.lines ∙ ap (λ (t : Text). t ++ (end_text u.names (R.End e.end) ++ [])) (h.silent refl) ∙ append-nil (end_text u.names (R.End e.end))

      counts : ring_text u.names counted.lines ≡ counts_text m.done m.transitions m.moves ++ end_text u.names (R.End e.end)
      counts =
          ap (λ (n : ℕ). counts_text n (length (labels counted.lines)) (moves_in counted.lines) ++ ends_text u.names counted.lines) h.events
          ∙ ap (λ (n : ℕ). counts_text m.done n (moves_in counted.lines) ++ ends_text u.names counted.lines) h.transitions
          ∙ ap (λ (n : ℕ). counts_text m.done m.transitions n ++ ends_text u.names counted.lines) h.moves
          ∙ ap (λ (t : Text). counts_text m.done m.transitions m.moves ++ t) last

pub ring_of_run : (k : Writing) (names : List Text) (a b : Record Placed) (status : Status) → a ≡ b → Delivers k (ring_text names a.lines) (status_of a.lines) status
    → Delivers k (ring_text names b.lines) (status_of b.lines) status
ring_of_run k names a b status e w = subst (λ (r : Record Placed). Delivers k (ring_text names r.lines) (status_of r.lines) status) e w
