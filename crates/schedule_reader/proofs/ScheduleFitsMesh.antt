-- The schedule that a text represents fits the mesh: its quantum is in its range, and its events are on the mesh.
use Rattle.std.proofs.Common.{◌≡◌, ◌≤◌, ◌<◌, ◌+◌, ◌*◌, ℕ, zero, suc, Bool, true, false, not, ◌&&◌, nat_le, nat_lt, bytes_eq, codes, List, [], ◌∷◌, length, slice_get, Option, Some, None, Result, Ok, Err, refl, sym, subst, arith, ltb-true, leb-true}
use Rattle.std.specs.List.{repeat, range_with_len}
use Rattle.std.specs.Option.{option_or}
use Rattle.text_scan.specs.Text.{Text}
use Rattle.run_types.specs.declared.types.Event.{Event}
use Rattle.run_types.specs.declared.types.Placement.{Placement}
use Rattle.text_scan.specs.Lines.{lines}
use Rattle.text_scan.specs.ContentLines.{Kept, kept, number_of}
use Rattle.run_types.specs.Paths.{IsLink, are_neighbours, is_cut}
use Rattle.run_types.proofs.Laws.{neighbours, not_true, each_both}
use Rattle.run_types.specs.Tables.{Each}
use Rattle.schedule_reader.specs.declared.entry.Entry.{Entry}
use Rattle.schedule_reader.specs.declared.entry.Entry.TheVariants as E
use Rattle.schedule_reader.specs.declared.fault.ScheduleFault.{ScheduleFault}
use Rattle.schedule_reader.specs.declared.fault.ScheduleFault.TheVariants as F
use Rattle.schedule_reader.specs.Entries.{entry_of, entry_of_four, entry_of_three, entry_of_two, fault_of, fault_or_bad, has_link, is_count, line_fault, link_fault, plain_entry_of, quantum_of}
use Rattle.run_types.specs.Partial.{unless, only_if, ◌>>=◌}
use Rattle.schedule_reader.specs.Events.{count_of, events_of, moves_from, moves_to, round_of, round_on, total, turns, unit_of}
use Rattle.schedule_reader.specs.Plans.{IsEventOn, IsPlanFor}
use Rattle.schedule_reader.specs.Schedules.{Plan, begins_lossy, entries_of, first_fault, planned, planned_or_fault, quantum_fault, schedule_of, schedule_of_lines, with_entry, with_lines, with_quantum, without_wires}
use Rattle.schedule_reader.proofs.Rounds.{move_of, move_step}

-- what holds of each element of lists

repeated : {X : Type 0} (P : X → Type 0) (n : ℕ) (xs : List X) → Each P xs → Each P (repeat n xs)
repeated P zero xs h = tt
repeated P (suc n) xs h = each_both P xs (repeat n xs) h (repeated P n xs h)

pub each_at : {X : Type 0} (P : X → Type 0) (xs : List X) (i : ℕ) (x : X) → Each P xs → slice_get xs i ≡ Some x → P x
each_at P [] i x h e = absurd (cc)
each_at P (y ∷ ys) zero x h e = let same : y ≡ x = cc in subst P same h.0
each_at P (y ∷ ys) (suc i) x h e = each_at P ys i x h.1 e

below : (a n m : ℕ) → a + n ≤ m → Each (λ k. k < m) (range_with_len a n)
below a zero m h = tt
below a (suc n) m h = (omega (arith, h), below (a + 1) n m (omega (arith, h)))

-- the tests of the reader

and_both : (a b : Bool) → (a && b) ≡ true → (a ≡ true) × (b ≡ true)
and_both true true h = (refl, refl)
and_both true false h = absurd (cc)
and_both false b h = absurd (cc)

-- a test before a fault holds where no fault is told
unless_holds : (b : Bool) (f : ScheduleFault) (o : Option ScheduleFault) → unless b f o ≡ None → (b ≡ true) × (o ≡ None)
unless_holds true f o h = (refl, h)
unless_holds false f o h = absurd (cc)

none_first : (a b : Option ScheduleFault) → option_or a b ≡ None → (a ≡ None) × (b ≡ None)
none_first None b h = (refl, h)
none_first (Some f) b h = absurd (cc)

-- an entry on a wire stands in lossy schedules alone

abbrev MayStand : Bool → Entry → Type 0
MayStand lossy (E.Turn k c) = Unit {0}
MayStand lossy (E.Link a b c) = Unit {0}
MayStand lossy (E.Round c) = Unit {0}
MayStand lossy (E.Wire act a b c) = lossy ≡ true

abbrev AnyMayStand : Bool → Option Entry → Type 0
AnyMayStand lossy None = Unit {0}
AnyMayStand lossy (Some e) = MayStand lossy e

lossy_stands : (e : Entry) → MayStand true e
lossy_stands (E.Turn k c) = tt
lossy_stands (E.Link a b c) = tt
lossy_stands (E.Round c) = tt
lossy_stands (E.Wire act a b c) = refl

any_lossy_stands : (o : Option Entry) → AnyMayStand true o
any_lossy_stands None = tt
any_lossy_stands (Some e) = lossy_stands e

or_none : (o : Option Entry) → AnyMayStand false o → AnyMayStand false (option_or o None)
or_none None h = tt
or_none (Some e) h = h

then_stands : {A : Type 0} (o : Option A) (f : A → Option Entry) → ((x : A) → AnyMayStand false (f x)) → AnyMayStand false (o >>= f)
then_stands None f h = tt
then_stands (Some x) f h = h x

only_stands : (b : Bool) (o : Option Entry) → AnyMayStand false o → AnyMayStand false (only_if b o)
only_stands true o h = h
only_stands false o h = tt

either_stands : (b : Bool) (o p : Option Entry) → AnyMayStand false o → AnyMayStand false p → AnyMayStand false (elim b as (λ _. Option Entry) [ true ↦ o | false ↦ p ])
either_stands true o p h k = h
either_stands false o p h k = k

two_stand : (w a : Text) → AnyMayStand false (entry_of_two w a)
two_stand w a =
    either_stands (bytes_eq w (codes "turn")) (number_of a >>= λ k. Some (E.Turn k 1)) (only_if (bytes_eq w (codes "round")) (number_of a >>= λ c. Some (E.Round c)))
    (then_stands (number_of a) (λ k. Some (E.Turn k 1)) (λ k. tt))
    (only_stands (bytes_eq w (codes "round")) (number_of a >>= λ c. Some (E.Round c)) (then_stands (number_of a) (λ c. Some (E.Round c)) (λ c. tt)))

three_stand : (w a b : Text) → AnyMayStand false (entry_of_three w a b)
three_stand w a b =
    let turn : ℕ → Option Entry = λ k. number_of b >>= λ c. Some (E.Turn k c) in
    let link : ℕ → Option Entry = λ f. number_of b >>= λ t. Some (E.Link f t 1) in
    either_stands (bytes_eq w (codes "turn")) (number_of a >>= turn) (only_if (bytes_eq w (codes "link")) (number_of a >>= link))
    (then_stands (number_of a) turn (λ k. then_stands (number_of b) (λ c. Some (E.Turn k c)) (λ c. tt)))
    (only_stands (bytes_eq w (codes "link")) (number_of a >>= link) (then_stands (number_of a) link (λ f. then_stands (number_of b) (λ t. Some (E.Link f t 1)) (λ t. tt))))

four_stand : (w a b c : Text) → AnyMayStand false (entry_of_four w a b c)
four_stand w a b c =
    let times : ℕ → ℕ → Option Entry = λ f t. number_of c >>= λ n. Some (E.Link f t n) in
    let link : ℕ → Option Entry = λ f. number_of b >>= times f in
    only_stands (bytes_eq w (codes "link")) (number_of a >>= link)
    (then_stands (number_of a) link (λ f. then_stands (number_of b) (times f) (λ t. then_stands (number_of c) (λ n. Some (E.Link f t n)) (λ n. tt))))

plain_stands : (ws : List Text) → AnyMayStand false (plain_entry_of ws)
plain_stands [] = tt
plain_stands (w ∷ []) = tt
plain_stands (w ∷ a ∷ []) = two_stand w a
plain_stands (w ∷ a ∷ b ∷ []) = three_stand w a b
plain_stands (w ∷ a ∷ b ∷ c ∷ []) = four_stand w a b c
plain_stands (w ∷ a ∷ b ∷ c ∷ d ∷ more) = tt

entry_stands : (lossy : Bool) (ws : List Text) → AnyMayStand lossy (entry_of lossy ws)
entry_stands true ws = any_lossy_stands (entry_of true ws)
entry_stands false ws = or_none (plain_entry_of ws) (plain_stands ws)

-- what a round asks of a link
round_on_fits : (l : Placement) (lossy : Bool) (a b : ℕ) → IsLink l (a, b) → Each (λ e. IsEventOn l lossy e) (round_on lossy a b)
round_on_fits l true a b k = ((refl, k), (k, ((refl, k), tt)))
round_on_fits l false a b k = (k, tt)

module _ (l : Placement) (lossy : Bool) where
  abbrev count : ℕ
  count = l.width * l.height

  abbrev Fits : Event → Type 0
  Fits e = IsEventOn l lossy e

  linked : (a b : ℕ) → a < count → b < count → has_link l.width l.cuts a b ≡ true → IsLink l (a, b)
  linked a b h k n =
      let both = and_both (are_neighbours l.width a b) (not (is_cut l.cuts a b)) n in
      record { from = h; to = k; beside = neighbours l.width a b both.0; there = not_true (is_cut l.cuts a b) both.1 }

  -- a round
  turns_fit : (ks : List ℕ) → Each (λ k. k < count) ks → Each Fits (turns ks)
  turns_fit [] h = tt
  turns_fit (k ∷ ks) h = (h.0, turns_fit ks h.1)

  move_fits : (a b : ℕ) → a < count → b < count → Each Fits (move_of lossy (has_link l.width l.cuts a b) a b)
  move_fits a b h k = by (has_link l.width l.cuts a b) refl
    where
      by : (t : Bool) → has_link l.width l.cuts a b ≡ t → Each Fits (move_of lossy (has_link l.width l.cuts a b) a b)
      by true e = subst (λ (t : Bool). Each Fits (move_of lossy t a b)) (sym e) (round_on_fits l lossy a b (linked a b h k e))
      by false e = subst (λ (t : Bool). Each Fits (move_of lossy t a b)) (sym e) tt

  moves_fit : (a : ℕ) (bs : List ℕ) → a < count → Each (λ k. k < count) bs → Each Fits (moves_to l.width l.cuts lossy a bs)
  moves_fit a [] h k = tt
  moves_fit a (b ∷ bs) h k =
      subst (Each Fits) (sym (move_step l.width l.cuts lossy a b bs))
      (each_both Fits (move_of lossy (has_link l.width l.cuts a b) a b) (moves_to l.width l.cuts lossy a bs) (move_fits a b h k.0) (moves_fit a bs h k.1))

  all_moves_fit : (ks : List ℕ) → Each (λ k. k < count) ks → Each Fits (moves_from l.width l.cuts lossy count ks)
  all_moves_fit [] h = tt
  all_moves_fit (k ∷ ks) h =
      each_both Fits (moves_to l.width l.cuts lossy k (range_with_len 0 count)) (moves_from l.width l.cuts lossy count ks)
      (moves_fit k (range_with_len 0 count) h.0 (below 0 count count (omega arith))) (all_moves_fit ks h.1)

  round_fits : Each Fits (round_of l.width l.height l.cuts lossy)
  round_fits =
      let all = below 0 count count (omega arith) in
      each_both Fits (turns (range_with_len 0 count)) (moves_from l.width l.cuts lossy count (range_with_len 0 count))
      (turns_fit (range_with_len 0 count) all) (all_moves_fit (range_with_len 0 count) all)

  -- an entry without fault
  link_holds : (line a b c : ℕ) → link_fault l.width l.height l.cuts line a b c ≡ None → IsLink l (a, b)
  link_holds line a b c h =
      let t = unless_holds (nat_lt a count && nat_lt b count) (F.NoSuchNode line) (unless (has_link l.width l.cuts a b) (F.NoSuchLink line) (unless (is_count c) (F.OutOfRange line) None)) h in
      let n = unless_holds (has_link l.width l.cuts a b) (F.NoSuchLink line) (unless (is_count c) (F.OutOfRange line) None) t.1 in
      let both = and_both (nat_lt a count) (nat_lt b count) t.0 in
      linked a b (ltb-true a count both.0) (ltb-true b count both.1) n.0

  unit_fits : (line : ℕ) (e : Entry) → MayStand lossy e → fault_of l.width l.height l.cuts line e ≡ None → Each Fits (unit_of l.width l.height l.cuts lossy e)
  unit_fits line (E.Turn k c) s h =
      let t = unless_holds (nat_lt k count) (F.NoSuchNode line) (unless (is_count c) (F.OutOfRange line) None) h in (ltb-true k count t.0, tt)
  unit_fits line (E.Link a b c) s h = (link_holds line a b c h, tt)
  unit_fits line (E.Round c) s h = round_fits
  unit_fits line (E.Wire act a b c) s h = ((s, link_holds line a b c h), tt)

  -- all entries
  entries_fit : (ks : List Kept) → first_fault l.width l.height l.cuts lossy ks ≡ None → Each Fits (events_of l.width l.height l.cuts lossy (entries_of lossy ks))
  entries_fit [] h = tt
  entries_fit (k ∷ ks) h =
      let t = none_first (line_fault l.width l.height l.cuts lossy k) (first_fault l.width l.height l.cuts lossy ks) h in
      by (entry_of lossy k.words) (entry_stands lossy k.words) t.0 (entries_fit ks t.1)
    where
      by : (o : Option Entry) → AnyMayStand lossy o → fault_or_bad l.width l.height l.cuts k.line o ≡ None
          → Each Fits (events_of l.width l.height l.cuts lossy (entries_of lossy ks)) → Each Fits (events_of l.width l.height l.cuts lossy (with_entry o (entries_of lossy ks)))
      by None s f rest = absurd (cc)
      by (Some e) s f rest =
          each_both Fits (repeat (count_of e) (unit_of l.width l.height l.cuts lossy e)) (events_of l.width l.height l.cuts lossy (entries_of lossy ks))
          (repeated Fits (count_of e) (unit_of l.width l.height l.cuts lossy e) (unit_fits k.line e s f)) rest

  abbrev made : ℕ → List Entry → Plan
  made q es = record { quantum = q; lossy = lossy; events = events_of l.width l.height l.cuts lossy es }

  plan_holds : (q : ℕ) (es : List Entry) (plan : Plan) → (1 ≤ q) × (q ≤ 10000) → Each Fits (events_of l.width l.height l.cuts lossy es)
      → planned l.width l.height l.cuts lossy q es ≡ Ok plan → IsPlanFor l plan
  plan_holds q es plan range fits h = by (nat_le (total l.width l.height l.cuts lossy es) 2000000) h
    where
      by : (b : Bool) → elim b as (λ _. Result Plan ScheduleFault) [ true ↦ Ok (made q es) | false ↦ Err (F.TooManyEvents (total l.width l.height l.cuts lossy es)) ] ≡ Ok plan → IsPlanFor l plan
      by true e =
          let is : made q es ≡ plan = cc in
          subst (IsPlanFor l) is (record { quantum = range; events = λ i x at. each_at Fits (events_of l.width l.height l.cuts lossy es) i x fits at })
      by false e = absurd (cc)

  from_fault : (q : ℕ) (f : Option ScheduleFault) (es : List Entry) (plan : Plan) → planned_or_fault l.width l.height l.cuts lossy q f es ≡ Ok plan
      → (f ≡ None) × (planned l.width l.height l.cuts lossy q es ≡ Ok plan)
  from_fault q None es plan h = (refl, h)
  from_fault q (Some f) es plan h = absurd (cc)

quantum_holds : (line q : ℕ) → quantum_fault line (Some q) ≡ None → (1 ≤ q) × (q ≤ 10000)
quantum_holds line q h = by (nat_le 1 q && nat_le q 10000) refl h
  where
    by : (b : Bool) → (nat_le 1 q && nat_le q 10000) ≡ b → elim b as (λ _. Option ScheduleFault) [ true ↦ None | false ↦ Some (F.OutOfRange line) ] ≡ None → (1 ≤ q) × (q ≤ 10000)
    by true e f = let t = and_both (nat_le 1 q) (nat_le q 10000) e in (leb-true 1 q t.0, leb-true q 10000 t.1)
    by false e f = absurd (cc)

behind_quantum : (l : Placement) (lossy : Bool) (line q : ℕ) (ks : List Kept) (plan : Plan) → with_lines l.width l.height l.cuts lossy line q ks ≡ Ok plan → IsPlanFor l plan
behind_quantum l lossy line q ks plan h =
    let t = from_fault l lossy q (option_or (quantum_fault line (Some q)) (first_fault l.width l.height l.cuts lossy ks)) (entries_of lossy ks) plan h in
    let n = none_first (quantum_fault line (Some q)) (first_fault l.width l.height l.cuts lossy ks) t.0 in
    plan_holds l lossy q (entries_of lossy ks) plan (quantum_holds line q n.0) (entries_fit l lossy ks n.1) t.1

with_first : (l : Placement) (line : ℕ) (o : Option ℕ) (ks : List Kept) (plan : Plan) → with_quantum l.width l.height l.cuts line o ks ≡ Ok plan → IsPlanFor l plan
with_first l line None ks plan h = absurd (cc)
with_first l line (Some q) ks plan h = behind_quantum l (begins_lossy ks) line q (without_wires ks) plan h

of_lines : (l : Placement) (count : ℕ) (ks : List Kept) (plan : Plan) → schedule_of_lines l.width l.height l.cuts count ks ≡ Ok plan → IsPlanFor l plan
of_lines l count [] plan h = absurd (cc)
of_lines l count (k ∷ ks) plan h = with_first l k.line (quantum_of k.words) ks plan h

pub plan_is_for : (l : Placement) (s : Text) (plan : Plan) → schedule_of l.width l.height l.cuts s ≡ Ok plan → IsPlanFor l plan
plan_is_for l s plan h = of_lines l (length (lines s)) (kept s) plan h
