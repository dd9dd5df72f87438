-- Where a row of numbers leads, the new configuration is typed, and the label leads to it.
use Rattle.std.proofs.Common.{◌≡◌, sym, ap, ap₂, subst, ◌∙◌, ℕ, List, [], ◌∷◌, ◌++◌, map, length, get_or, Some, None, IsTrue}
use Rattle.std.specs.Prelude.{IfSome}
use Rattle.std.proofs.Math.Logic.{∥∥₁_map}
use Rattle.std.specs.List.{All, slice_get}
use Rattle.std.specs.FinMap.Entries.{is_sorted}
use Rattle.run_types.specs.declared.types.Item.{Item}
use Rattle.run_types.specs.declared.types.Label.{Label}
use Rattle.run_types.specs.Message.{Message}
use Rattle.run_types.specs.Tables.{Pair, pair_cmp}
use Rattle.pool_syntax.specs.Terms.{ProgramTree}
use Rattle.pool_relation.specs.Action.{Object}
use Rattle.pool_relation.specs.Configuration.{Configuration}
use Rattle.pool_relation.specs.Transition.{transition}
use Rattle.pool_semantics.specs.Sound.{Sound}
use Rattle.pool_semantics.proofs.Laws.{sound_is_kept}
use Rattle.reachability.specs.Search.{IsInOrder}
use Rattle.search_laws.specs.Outcomes.{Passed}
use Rattle.search_laws.specs.Tried.{Course, Follows, Stays, GoesBy}
use Rattle.object_moves.specs.Rows.{row, AreWithin}
use Rattle.object_moves.specs.Followed.{AreChanged, passes}
use Rattle.visited_set.specs.Rows.{Row}
use Rattle.visited_set.specs.Numbers.{AreListed, numbered, passed, queue_messages, EntryInvariant}
use Rattle.visited_set.specs.LedBy.{IsLedBy}
use Rattle.visited_set.specs.VisitedConfigurations.{entry}
use Rattle.visited_set.proofs.NumberingRoundTrip.{kept_at, passed_at}
use Rattle.visited_set.proofs.ObjectNumbers.{objects_rise}

-- the label is possible in c, and leads to e after some transitions that are followed; these objects are changed on the way
abbrev pub IsMade : ProgramTree → Course → Configuration → Configuration → Label → List ℕ → Type 0
IsMade p k c e l moved = (d : Configuration) × (transition p c l ≡ Some d) × (f : Follows p k d e) × AreChanged (l ∷ passes f) moved

-- a row with the numbers and the messages of an entry is its configuration
pub row_is_numbered : (vs xs : List Object) (ls : List (List Message)) (e : Row) (ns : List ℕ) (ms : List (Pair × List Message)) → vs ≡ xs → ns ≡ e.objects → ms ≡ map (queue_messages ls) e.queues
    → row vs ns ms ≡ numbered xs ls e
row_is_numbered vs xs ls e ns ms states same waiting = ap (λ (ts : List Object). row ts ns ms) states ∙ ap₂ (row xs) same waiting

-- what is known of rows is known of the entries
pub made_between : (p : ProgramTree) (l : Label) (moved : List ℕ) {k q : Course} {c d e f : Configuration} → q ≡ k → c ≡ e → d ≡ f → IsMade p q c d l moved → IsMade p k e f l moved
made_between p l moved {k = k} {q = q} {d = d} {e = e} {f = f} same from to made =
    subst (λ (r : Course). IsMade p r e f l moved) same (subst (λ (z : Configuration). IsMade p q e z l moved) to (subst (λ (z : Configuration). IsMade p q z d l moved) from made))

module _ (p : ProgramTree) (k : Course) where
  -- what is followed keeps a configuration typed
  sound_along : (c d : Configuration) → Follows p k c d → Sound p c → Sound p d
  sound_along c d Stays s = s
  sound_along c d (GoesBy {d = b} l kind step rest) s = sound_along b d rest (sound_is_kept p c b l s step)

  sound_made : (c e : Configuration) (l : Label) (moved : List ℕ) → IsMade p k c e l moved → Sound p c → Sound p e
  sound_made c e l moved made s = sound_along made.0 e made.2 (sound_is_kept p c made.0 l s made.1)

-- What is known of the entry e at the place `at`. The table of object states grew from xs to ys and that of lists of
-- messages from ls to ns, and f is the entry that is made.
module _ (p : ProgramTree) (xs ys : List Object) (ls ns : List (List Message)) (ws : List (List Item)) (es : List Row) (at : ℕ) (e : Row) (l : Label) (is : slice_get es at ≡ Some e) where
  there : slice_get (map (passed xs ls ws) es) at ≡ Some (passed xs ls ws e)
  there = passed_at xs ls ws es at e is

  pub impossible_from : transition p (numbered xs ls e) l ≡ None → IfSome (slice_get (map (passed xs ls ws) es) at) (λ x. transition p x.configuration l ≡ None)
  impossible_from h = rw there h

  module _ (k : Course) (f : Row) (moved : List ℕ) (made : IsMade p k (numbered xs ls e) (numbered ys ns f) l moved) where
    led : IsLedBy p k (numbered xs ls e) l (numbered ys ns f) moved
    led = record { next = made.0; step = made.1; follows = made.2; changed = made.3 }

    -- what is kept of it
    pub kept_made : AreWithin ys f.objects → AreListed ns f.queues → IsTrue (is_sorted pair_cmp (map (queue_messages ns) f.queues)) → All (EntryInvariant p xs ls) es → EntryInvariant p ys ns f
    kept_made all listed sorted kept = record {
      within = all;
      listed = listed;
      sorted = sorted;
      sound = ∥∥₁_map (kept_at p xs ls es at e is kept).sound (sound_made p k (numbered xs ls e) (numbered ys ns f) l moved made);
    }

    module _ (vs : List (List Item)) (old : List Passed) (lists : vs ≡ ws) (still : old ≡ map (passed xs ls ws) es) where
      same_entry : passed ys ns vs f ≡ entry f.next (get_or ws f.written []) (numbered ys ns f)
      same_entry = ap (λ (us : List (List Item)). entry f.next (get_or us f.written []) (numbered ys ns f)) lists

      -- it was there
      pub seen_from : (i : ℕ) → slice_get old i ≡ Some (passed ys ns vs f)
          → IfSome (slice_get (map (passed xs ls ws) es) at)
          (λ x. (d : Configuration) × IsLedBy p k x.configuration l d moved × (slice_get (map (passed xs ls ws) es) i ≡ Some (entry f.next (get_or ws f.written []) d)))
      seen_from i found = rw there (numbered ys ns f, led, ap (λ (zs : List Passed). slice_get zs i) (sym still) ∙ found ∙ ap Some same_entry)

      -- it was added
      pub added_from : (i : ℕ) (new : List Passed) → IsTrue (is_sorted pair_cmp (map (queue_messages ns) f.queues)) → new ≡ old ++ passed ys ns vs f ∷ [] → i ≡ length old
          → IfSome (slice_get (map (passed xs ls ws) es) at)
          (λ x. (d : Configuration) × IsLedBy p k x.configuration l d moved × IsInOrder d × (new ≡ map (passed xs ls ws) es ++ entry f.next (get_or ws f.written []) d ∷ [])
          × (i ≡ length (map (passed xs ls ws) es)))
      added_from i new sorted grown last =
          rw there (
            numbered ys ns f,
            led,
            (objects_rise 0 ys f.objects, sorted),
            grown ∙ ap₂ (λ (zs : List Passed) (z : Passed). zs ++ z ∷ []) still same_entry,
            last ∙ ap (λ (zs : List Passed). length zs) still,
          )
