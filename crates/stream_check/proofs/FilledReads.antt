-- A record with local transitions filled in is a record that can be read, if it is not too long.
use Rattle.std.proofs.Common.{◌≡◌, refl, sym, subst, ◌∙◌, ℕ, ◌+◌, ◌<◌, ◌≤◌, ◌/◌, ◌==◌, length, List, [], ◌∷◌, Bool, true, false, arith}
use Rattle.text_scan.specs.Text.{Text}
use Rattle.run_types.specs.declared.types.Label.TheVariants as L
use Rattle.run_types.specs.declared.types.What.TheVariants as W
use Rattle.run_types.specs.declared.types.End.{End}
use Rattle.run_types.specs.declared.types.End.TheVariants as E
use Rattle.run_types.specs.declared.types.Line.{Line}
use Rattle.run_types.specs.declared.types.Line.TheVariants as R
use Rattle.run_types.specs.declared.verdicts.Verdict.{Verdict}
use Rattle.run_types.specs.declared.verdicts.Verdict.TheVariants as V
use Rattle.pool_syntax.specs.Terms.{ProgramTree}
use Rattle.mesh_semantics.specs.Record.{EndsOnce}
use Rattle.run_record.specs.Readable.{IsReadableEvent, IsReadableWhat, IsReadableEnd, IsRecord, IsRecordFrom}
use Rattle.stream_check.specs.Stream.{next_number}
use Rattle.stream_check.specs.Filled.{AreInPlace, AreNumbered, IsFilled, IsFilledIn, IsNeeded, IsSame, unnumbered_end, without_local}

-- the events and ends of these lines can be read
abbrev pub AreReadable : List Text → List Line → Type 0
AreReadable names [] = Unit {0}
AreReadable names (R.Event n e what ∷ ls) = IsReadableEvent e × IsReadableWhat names what × AreReadable names ls
AreReadable names (R.End end ∷ ls) = IsReadableEnd end × AreReadable names ls

unnumbered : (end : End) → IsReadableEnd end → IsReadableEnd (unnumbered_end end)
unnumbered (E.Quiet done) h = h
unnumbered (E.Schedule done) h = h
unnumbered (E.Full kind node done) h = h

numbered_again : (end : End) → IsReadableEnd (unnumbered_end end) → IsReadableEnd end
numbered_again (E.Quiet done) h = h
numbered_again (E.Schedule done) h = h
numbered_again (E.Full kind node done) h = h

own_readable : (names : List Text) (last : ℕ) (ls : List Line) → IsRecordFrom names last ls → AreReadable names (without_local ls)
own_readable names last [] h = absurd h
own_readable names last (R.Event n e (W.Step (L.Local o) times) ∷ ls) h = own_readable names n ls h.4
own_readable names last (R.Event n e what ∷ ls) h = (h.2, h.3, own_readable names n ls h.4)
own_readable names last (R.End end ∷ []) h = (unnumbered end h.1, tt)
own_readable names last (R.End end ∷ l ∷ ls) h = absurd h

own_ends : (names : List Text) (last : ℕ) (ls : List Line) → IsRecordFrom names last ls → EndsOnce (without_local ls)
own_ends names last [] h = absurd h
own_ends names last (R.Event n e (W.Step (L.Local o) times) ∷ ls) h = own_ends names n ls h.4
own_ends names last (R.Event n e what ∷ ls) h = own_ends names n ls h.4
own_ends names last (R.End end ∷ []) h = tt
own_ends names last (R.End end ∷ l ∷ ls) h = absurd h

-- local transitions stand before something that needs them
never_needed : (q : ℕ) (ls : List Line) → without_local ls ≡ [] → IsNeeded q ls → ⊥
never_needed q [] h n = n
never_needed q (R.Event m e (W.Step (L.Local o) times) ∷ ls) h n = never_needed q ls h n
never_needed q (R.Event m e what ∷ ls) h n = absurd (cc)
never_needed q (R.End end ∷ ls) h n = absurd (cc)

nothing_left : (ls : List Line) → AreInPlace ls → without_local ls ≡ [] → ls ≡ []
nothing_left [] p h = refl
nothing_left (R.Event n e (W.Step (L.Local o) times) ∷ ls) p h = absurd (never_needed o ls h p.1)
nothing_left (R.Event n e what ∷ ls) p h = absurd (cc)
nothing_left (R.End end ∷ ls) p h = absurd (cc)

last_line : (x : Line) (xs : List Line) (end : End) → EndsOnce (R.End end ∷ x ∷ xs) → ⊥
last_line x xs end h = h

only_end : (end : End) (xs : List Line) → EndsOnce (R.End end ∷ xs) → xs ≡ []
only_end end [] h = refl
only_end end (x ∷ xs) h = absurd h

next_is : (last : ℕ) → last < 4294967295 → next_number last ≡ last + 1
next_is last h = by (last == 4294967295) refl
  where
    by : (b : Bool) → (last == 4294967295) ≡ b → next_number last ≡ last + 1
    by true i = absurd (grind (arith, h, i))
    by false i = rw i refl

some_more : (ls : List Line) → EndsOnce (without_local ls) → 0 < length ls
some_more [] h = absurd h
some_more (l ∷ ls) h = omega (arith)

in_range : (o : ℕ) → o < 4294967296 → o / 65536 < 4294967296
in_range o h = omega (arith, h)

few_times : (k : ℕ) → k ≤ 1000000 → k < 4294967296
few_times k h = omega (arith, h)

record_from : (names : List Text) (last : ℕ) (fs : List Line) → AreNumbered last fs → AreInPlace fs → AreReadable names (without_local fs) → EndsOnce (without_local fs) → last + length fs ≤ 2000001 → IsRecordFrom names last fs
record_from names last [] n p r e few = absurd e
record_from names last (R.Event k event (W.Step (L.Local o) times) ∷ fs) n p r e few =
    let more : 0 < length fs = some_more fs e in
    let is : k ≡ last + 1 = n.0 ∙ next_is last (omega (arith, few)) in
    let f : IsFilledIn o event times = p.0 in
    (is, omega (arith, is, few, more), subst IsReadableEvent (sym f.turn) (in_range o f.name), (f.name, f.some, few_times times f.most), record_from names k fs n.1 p.2 r e (omega (arith, is, few)))
record_from names last (R.Event k event what ∷ fs) n p r e few =
    let more : 0 < length fs = some_more fs e in
    let is : k ≡ last + 1 = n.0 ∙ next_is last (omega (arith, few)) in
    (is, omega (arith, is, few, more), r.0, r.1, record_from names k fs n.1 p r.2 e (omega (arith, is, few)))
record_from names last (R.End end ∷ fs) n p r e few =
    let none : fs ≡ [] = nothing_left fs p (only_end (unnumbered_end end) (without_local fs) e) in
    subst (λ (xs : List Line). IsRecordFrom names last (R.End end ∷ xs)) (sym none) (n.0, numbered_again end r.0)

pub filled_reads : (names : List Text) (ls fs : List Line) → IsRecord names ls → IsSame ls fs → length fs ≤ 2000001 → IsRecord names fs
filled_reads names ls fs h s few =
    record_from names 0 fs s.numbered s.in_place
    (subst (AreReadable names) (sym s.says.same) (own_readable names 0 ls h))
    (subst EndsOnce (sym s.says.same) (own_ends names 0 ls h))
    (omega (arith, few))

pub same_of : (p : ProgramTree) (ls fs : List Line) (v : Verdict) → IsFilled p ls fs v → IsSame ls fs
same_of p ls fs V.Yes f = f.0
same_of p ls fs (V.No number redex) f = f.0
same_of p ls fs (V.Moving o) f = f.0
