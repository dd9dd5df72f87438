-- The objects that are changed on the way to an entry.
use Rattle.std.proofs.Common.{◌≡◌, refl, sym, ap, ◌∙◌, subst, ℕ, zero, suc, ◌<◌, List, [], ◌∷◌, ◌++◌, get_or, length, Some, Bool, true, false, ◌&&◌, ◌||◌, arith}
use Rattle.std.specs.List.{slice_get}
use Rattle.run_types.specs.Partial.{◌>>=◌}
use Rattle.run_types.specs.declared.types.Item.{Item}
use Rattle.run_types.specs.declared.types.Label.{Label}
use Rattle.label_list.specs.declared.part.Part.{Part}
use Rattle.label_list.specs.Parts.{label_of, labels_in, labels_of, times_of}
use Rattle.pool_syntax.specs.Terms.{ProgramTree}
use Rattle.pool_relation.specs.Configuration.{Configuration}
use Rattle.pool_relation.specs.Transition.{run}
use Rattle.reachability.specs.Search.{after}
use Rattle.search_laws.specs.Dead.{changes, some_changes}
use Rattle.search_laws.specs.Tried.{Course, Follows, Stays, GoesBy, states_only}
use Rattle.object_moves.specs.Followed.{AreChanged, HasMoved, passes}
use Rattle.visited_set.specs.Courses.{all_followed}
use Rattle.pool_search.specs.Leads.{HasMovedTo, IsEdge}
use Rattle.pool_search.specs.Progress.{Entries}
use Rattle.visited_set.specs.LedBy.{IsLedBy}
use Rattle.visited_set.specs.VisitedConfigurations.{entry}
use Rattle.pool_search.proofs.PartLaws.{or_true, part_changed, some_changes_in}

module _ (p : ProgramTree) (k : Course) where
  -- the labels of what is followed are followed, and lead there
  passes_follow : (c d : Configuration) (f : Follows p k c d) → all_followed k (passes f) ≡ true
  passes_follow c d Stays = refl
  passes_follow c d (GoesBy {d = b} l kind step rest) = ap (λ t. t && all_followed k (passes rest)) kind ∙ passes_follow b d rest

  passes_lead : (c d : Configuration) (f : Follows p k c d) → run p c (passes f) ≡ Some d
  passes_lead c d Stays = refl
  passes_lead c d (GoesBy {d = b} l kind step rest) = ap (λ t. t >>= λ x. run p x (passes rest)) step ∙ passes_lead b d rest

-- a label that is known to lead to an entry
pub moved_to : (p : ProgramTree) (es : Entries) (n m : ℕ) (c : Configuration) (l : Label) (moved : List ℕ) (to : ℕ) (v : List Item) (d : Configuration) → IsLedBy p states_only c l d moved
    → slice_get es to ≡ Some (entry m v d) → m ≡ after n l → HasMovedTo p es n c l moved to
moved_to p es n m c l moved to v d led there named =
    let edge : IsEdge p es n c l (l ∷ passes led.follows) to = record {
      settled = passes led.follows;
      is = refl;
      free = passes_follow p states_only led.next d led.follows;
      last = d;
      leads = ap (λ t. t >>= λ x. run p x (passes led.follows)) led.step ∙ passes_lead p states_only led.next d led.follows;
      items = v;
      there = there ∙ ap (λ (x : ℕ). Some (entry x v d)) named;
    } in
    record { made = l ∷ passes led.follows; edge = edge; changed = led.changed }

-- what one of the labels changes
changed_among : (o : ℕ) (ps : List Part) (i : ℕ) (p : Part) → i < length ps → p ≡ get_or ps i p → 0 < times_of p → some_changes o (label_of p ∷ []) ≡ true → some_changes o (labels_in ps) ≡ true
changed_among o [] i p inside is some h = absurd (omega arith)
changed_among o (q ∷ qs) zero p inside is some h =
    subst (λ (x : Part). some_changes o (labels_in (x ∷ qs)) ≡ true) is
    (some_changes_in o (labels_of p) (labels_in qs) ∙ ap (λ b. b || some_changes o (labels_in qs)) (part_changed o p some ∙ changed_once (changes o (label_of p)) h))
  where
    changed_once : (b : Bool) → (b || false) ≡ true → b ≡ true
    changed_once true i = refl
    changed_once false i = i
changed_among o (q ∷ qs) (suc i) p inside is some h =
    some_changes_in o (labels_of q) (labels_in qs) ∙ ap (λ b. some_changes o (labels_of q) || b) (changed_among o qs i p (omega arith) is some h) ∙ or_true (some_changes o (labels_of q))

-- one more part changed some objects
pub one_more_changed : (ps : List Part) (i : ℕ) (p : Part) (os qs : List ℕ) → i < length ps → p ≡ get_or ps i p → 0 < times_of p → AreChanged (labels_in ps) os → HasMoved (label_of p ∷ []) os qs
    → AreChanged (labels_in ps) qs
one_more_changed ps i p os qs inside is some before grown = subst (AreChanged (labels_in ps)) (sym grown.1) (joined os grown.0 before (among grown.0 grown.2))
  where
    among : (xs : List ℕ) → AreChanged (label_of p ∷ []) xs → AreChanged (labels_in ps) xs
    among [] h = tt
    among (x ∷ xs) h = (changed_among x ps i p inside is some h.0, among xs h.1)

    joined : (xs ys : List ℕ) → AreChanged (labels_in ps) xs → AreChanged (labels_in ps) ys → AreChanged (labels_in ps) (xs ++ ys)
    joined [] ys h k = k
    joined (x ∷ xs) ys h k = (h.0, joined xs ys h.1 k)
