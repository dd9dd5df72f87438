-- Runs of events: their ends, and the event of a number in them.
use Rattle.std.proofs.Common.{◌≡◌, ℕ, zero, suc, ◌+◌, ◌-◌, ◌*◌, ◌%◌, ◌<◌, ◌≤◌, List, [], ◌∷◌, ◌++◌, length, get_or, slice_get, nat_le, Bool, true, false, refl, sym, ap, ◌∙◌, inl, inr, ◌⊎◌, arith, length-append}
use Rattle.std.proofs.Math.Nat.{mod-eq_of_lt, mod-eq-sub-mod}
use Rattle.std.proofs.lemmas.Bool.{cases_lt}
use borrow.Author.Tests.{leb-true, leb-false}
use Rattle.std.specs.List.{repeat}
use Rattle.std.specs.List.Sorted.{IsNonDecreasingBy, IsPartitionPoint}
use Rattle.run_types.specs.declared.types.Event.{Event}
use Rattle.run_types.specs.declared.types.LinkId.{LinkId}
use Rattle.schedule_reader.specs.declared.event_runs.EventRun.{EventRun}
use Rattle.schedule_reader.specs.declared.entry.Entry.{Entry}
use Rattle.schedule_reader.specs.Events.{count_of, events_of, total, unit_of}
use Rattle.schedule_reader.specs.EventRuns.{AreEnds, part_events, stretch_events, stretched}

pub get_left : {X : Type 0} (xs ys : List X) (i : ℕ) → i < length xs → slice_get (xs ++ ys) i ≡ slice_get xs i
get_left [] ys i h = absurd (omega arith)
get_left (x ∷ xs) ys zero h = refl
get_left (x ∷ xs) ys (suc i) h = get_left xs ys i (omega arith)

pub get_right : {X : Type 0} (xs ys : List X) (i j : ℕ) → j ≡ length xs + i → slice_get (xs ++ ys) j ≡ slice_get ys i
get_right [] ys i j e = let same : j ≡ i = omega arith in ap (slice_get ys) same
get_right (x ∷ xs) ys i zero e = absurd (omega arith)
get_right (x ∷ xs) ys i (suc j) e = get_right xs ys i j (omega arith)

pub length_repeat : {X : Type 0} (c : ℕ) (u : List X) → length (repeat c u) ≡ c * length u
length_repeat zero u = omega arith
length_repeat (suc c) u = omega (arith, length-append u (repeat c u), length_repeat c u)

-- what is repeated is read at the rest of a division by its length
pub get_repeat : {X : Type 0} (c : ℕ) (u : List X) (i : ℕ) → i < c * length u → slice_get (repeat c u) i ≡ slice_get u (i % length u)
get_repeat zero u i h = absurd (omega arith)
get_repeat (suc c) u i h = by (cases_lt i (length u)) (get_repeat c u (i - length u)) where
  by : (i < length u) ⊎ (length u ≤ i) → (i - length u < c * length u → slice_get (repeat c u) (i - length u) ≡ slice_get u ((i - length u) % length u))
      → slice_get (u ++ repeat c u) i ≡ slice_get u (i % length u)
  by (inl q) again = get_left u (repeat c u) i q ∙ ap (slice_get u) (sym (mod-eq_of_lt q))
  by (inr q) again =
      get_right u (repeat c u) (i - length u) i (omega arith) ∙ again (omega arith) ∙ ap (slice_get u) (sym (mod-eq-sub-mod q))

pub not_empty : (c n i : ℕ) → i < c * n → 0 < n
not_empty c zero i h = absurd (omega arith)
not_empty c (suc n) i h = omega arith

pub ends_push : (round : List Event) (from last : ℕ) (ss : List EventRun) (s : EventRun)
    → AreEnds round from ss last → s.end ≡ last + s.count * length (part_events round s.part) → AreEnds round from (ss ++ s ∷ []) s.end
ends_push round from last [] s h e = (e ∙ ap (λ n. n + s.count * length (part_events round s.part)) (sym h), refl)
ends_push round from last (t ∷ ss) s h e = (h.0, ends_push round t.end last ss s h.1 e)

-- the last end is the number of events
pub ends_length : (round : List Event) (from last : ℕ) (ss : List EventRun) → AreEnds round from ss last → from + length (stretched round ss) ≡ last
ends_length round from last [] h = omega arith
ends_length round from last (t ∷ ss) h =
    omega (arith, h.0, length-append (stretch_events round t) (stretched round ss), length_repeat t.count (part_events round t.part), ends_length round t.end last ss h.1)

pub end_from : (round : List Event) (from last j : ℕ) (ss : List EventRun) (d : EventRun) → AreEnds round from ss last → j < length ss → from ≤ (get_or ss j d).end
end_from round from last j [] d h lt = absurd (omega arith)
end_from round from last zero (t ∷ ss) d h lt = omega (arith, h.0)
end_from round from last (suc j) (t ∷ ss) d h lt = omega (arith, h.0, end_from round t.end last j ss d h.1 (omega arith))

pub ends_rise : (round : List Event) (from last : ℕ) (ss : List EventRun) → AreEnds round from ss last → IsNonDecreasingBy (λ (s : EventRun). s.end) ss
ends_rise round from last [] h i j d le lt = absurd (omega arith)
ends_rise round from last (t ∷ ss) h zero zero d le lt = omega arith
ends_rise round from last (t ∷ ss) h zero (suc j) d le lt = end_from round t.end last j ss d h.1 (omega arith)
ends_rise round from last (t ∷ ss) h (suc i) zero d le lt = absurd (omega arith)
ends_rise round from last (t ∷ ss) h (suc i) (suc j) d le lt = ends_rise round t.end last ss h.1 i j d (omega arith) (omega arith)

-- a number that is not below any end is not below the last
pub past_all : (round : List Event) (from last i : ℕ) (ss : List EventRun) (d : EventRun)
    → AreEnds round from ss last → from ≤ i → ((k : ℕ) → k < length ss → (get_or ss k d).end ≤ i) → last ≤ i
past_all round from last i [] d h le all = omega arith
past_all round from last i (t ∷ ss) d h le all = past_all round t.end last i ss d h.1 (all 0 (omega arith)) (λ k lt. all (suc k) (omega arith))

-- the event of a number stands in this stretch
pub record IsIn (round : List Event) (from i : ℕ) (ss : List EventRun) (s : EventRun) : Type 0 where
  pub small : s.count * length (part_events round s.part) ≤ s.end
  pub begins : s.end - s.count * length (part_events round s.part) ≤ i
  pub same : slice_get (stretched round ss) (i - from) ≡ slice_get (stretch_events round s) (i - (s.end - s.count * length (part_events round s.part)))

-- it is the first whose end is above the number
pub first_above : (round : List Event) (from last i j : ℕ) (ss : List EventRun) (d : EventRun)
    → AreEnds round from ss last → from ≤ i → j < length ss → ((k : ℕ) → k < j → (get_or ss k d).end ≤ i) → i < (get_or ss j d).end
    → IsIn round from i ss (get_or ss j d)
first_above round from last i j [] d h le lt below above = absurd (omega arith)
first_above round from last i zero (t ∷ ss) d h le lt below above =
    let n : ℕ = t.count * length (part_events round t.part) in
    let e : t.end ≡ from + n = h.0 in
    let at : i - from ≡ i - (t.end - n) = omega (arith, e) in
    let short : i - from < length (stretch_events round t) = omega (arith, e, above, length_repeat t.count (part_events round t.part)) in
    record {
      small = omega (arith, e);
      begins = omega (arith, e);
      same = get_left (stretch_events round t) (stretched round ss) (i - from) short ∙ ap (slice_get (stretch_events round t)) at;
    }
first_above round from last i (suc j) (t ∷ ss) d h le lt below above =
    let r = first_above round t.end last i j ss d h.1 (below 0 (omega arith)) (omega arith) (λ k q. below (suc k) (omega arith)) above in
    let passed : t.end ≤ i = below 0 (omega arith) in
    let at : i - from ≡ length (stretch_events round t) + (i - t.end) = omega (arith, passed, h.0, length_repeat t.count (part_events round t.part)) in
    record {
      small = r.small;
      begins = r.begins;
      same = get_right (stretch_events round t) (stretched round ss) (i - t.end) (i - from) at ∙ r.same;
    }

-- the stretches before this place end at or before the number, and the others after it
abbrev pub IsPointFor : List EventRun → ℕ → ℕ → Type 0
IsPointFor ss i place = IsPartitionPoint (λ (s : EventRun). nat_le s.end i ≡ true) (λ (s : EventRun). nat_le s.end i ≡ false) ss place

pub point_within : (round : List Event) (last i place : ℕ) (ss : List EventRun) (d : EventRun)
    → AreEnds round 0 ss last → i < last → IsPointFor ss i place → place < length ss
point_within round last i place ss d h lt p = by (cases_lt place (length ss)) where
  by : (place < length ss) ⊎ (length ss ≤ place) → place < length ss
  by (inl q) = q
  by (inr q) =
      let all : last ≤ i = past_all round 0 last i ss d h (omega arith) (λ k r. leb-true _ _ (p.0 k d (omega arith) (omega arith))) in
      absurd (omega arith)

pub point_found : (round : List Event) (last i place : ℕ) (ss : List EventRun) (d : EventRun)
    → AreEnds round 0 ss last → place < length ss → IsPointFor ss i place
    → (i < (get_or ss place d).end) × IsIn round 0 i ss (get_or ss place d)
point_found round last i place ss d h lt p =
    let above : i < (get_or ss place d).end = leb-false _ _ (p.1 place d (omega arith) lt) in
    (above, first_above round 0 last i place ss d h (omega arith) lt (λ k q. leb-true _ _ (p.0 k d (omega arith) q)) above)

pub length_events : (w h : ℕ) (cuts : List LinkId) (lossy : Bool) (es : List Entry) → length (events_of w h cuts lossy es) ≡ total w h cuts lossy es
length_events w h cuts lossy [] = refl
length_events w h cuts lossy (e ∷ es) =
    omega (arith, length-append (repeat (count_of e) (unit_of w h cuts lossy e)) (events_of w h cuts lossy es), length_repeat (count_of e) (unit_of w h cuts lossy e), length_events w h cuts lossy es)
