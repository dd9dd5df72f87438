-- What transitions that are followed change.
use Rattle.std.proofs.Common.{◌≡◌, refl, sym, ap, subst, ◌∙◌, ℕ, List, [], ◌∷◌, ◌++◌, append-nil, append_assoc, Option, Some, None, ◌==◌, Bool, true, false, ◌||◌, arith}
use Rattle.run_types.specs.declared.types.Label.{Label}
use Rattle.run_types.specs.declared.types.Value.{Value}
use Rattle.run_types.proofs.Laws.{each_both, each_map, equals}
use Rattle.pool_syntax.specs.Terms.{ProgramTree}
use Rattle.pool_relation.specs.Configuration.{Configuration}
use Rattle.pool_relation.specs.Transition.{transition}
use Rattle.search_laws.specs.Dead.{changes, some_changes}
use Rattle.search_laws.specs.Tried.{Course, Follows}
use Rattle.object_moves.specs.Followed.{AreChanged, HasMoved, passes}
use Rattle.object_moves.specs.Known.{duo_label, labelled, moved_by, parcel_label, solo_label}
use Rattle.object_moves.specs.declared.known.Duo.{Duo}
use Rattle.object_moves.specs.declared.known.Parcel.{Parcel}
use Rattle.object_moves.specs.declared.known.Solo.{Solo}
use Rattle.object_moves.specs.declared.known.Solo.TheVariants as S
use Rattle.object_moves.proofs.FollowedRows.{follows_both, follows_more, passes_both, passes_more}

either : (a b : Bool) → b ≡ true → (a || b) ≡ true
either true b h = refl
either false b h = h

-- more labels change no less
changed_later : (o : ℕ) (ls ms : List Label) → some_changes o ms ≡ true → some_changes o (ls ++ ms) ≡ true
changed_later o [] ms h = h
changed_later o (l ∷ ls) ms h = either (changes o l) (some_changes o (ls ++ ms)) (changed_later o ls ms h)

changed_before : (o : ℕ) (ls ms : List Label) → some_changes o ls ≡ true → some_changes o (ls ++ ms) ≡ true
changed_before o [] ms h = absurd (grind (arith, h))
changed_before o (l ∷ ls) ms h = by (changes o l) h (changed_before o ls ms)
  where
    by : (b : Bool) → (b || some_changes o ls) ≡ true → (some_changes o ls ≡ true → some_changes o (ls ++ ms) ≡ true) → (b || some_changes o (ls ++ ms)) ≡ true
    by true h later = refl
    by false h later = later h

pub are_changed_later : (ls ms : List Label) (os : List ℕ) → AreChanged ms os → AreChanged (ls ++ ms) os
are_changed_later ls ms os h = each_map (λ o. some_changes o ms ≡ true) (λ o. some_changes o (ls ++ ms) ≡ true) (λ o. changed_later o ls ms) os h

pub are_changed_before : (ls ms : List Label) (os : List ℕ) → AreChanged ls os → AreChanged (ls ++ ms) os
are_changed_before ls ms os h = each_map (λ o. some_changes o ls ≡ true) (λ o. some_changes o (ls ++ ms) ≡ true) (λ o. changed_before o ls ms) os h

-- the objects that nothing was added to
pub moved_nothing : (ls : List Label) (os : List ℕ) → HasMoved ls os os
moved_nothing ls os = ([], sym (append-nil os), tt)

-- the objects that two lists of labels change, one after the other
pub moved_both : (ls ms : List Label) (os qs rs : List ℕ) → HasMoved ls os qs → HasMoved ms qs rs → HasMoved (ls ++ ms) os rs
moved_both ls ms os qs rs m n = (
  m.0 ++ n.0,
  n.1 ∙ ap (λ ks. ks ++ n.0) m.1 ∙ append_assoc os m.0 n.0,
  each_both (λ o. some_changes o (ls ++ ms) ≡ true) m.0 n.0 (are_changed_before ls ms m.0 m.2) (are_changed_later ls ms n.0 n.2),
)

-- a list that was empty
pub moved_from_none : (ls : List Label) (qs : List ℕ) → HasMoved ls [] qs → AreChanged ls qs
moved_from_none ls qs m = subst (AreChanged ls) (sym m.1) m.2

-- the objects that a transition changes were added, one or two
one_of_them : (b : Bool) → b ≡ true → (b || false) ≡ true
one_of_them true h = refl
one_of_them false h = h

pub moved_one : (l : Label) (os qs : List ℕ) (o : ℕ) → changes o l ≡ true → qs ≡ os ++ o ∷ [] → HasMoved (l ∷ []) os qs
moved_one l os qs o h e = (o ∷ [], e, (one_of_them (changes o l) h, tt))

pub moved_two : (l : Label) (os qs rs : List ℕ) (o q : ℕ) → changes o l ≡ true → changes q l ≡ true → qs ≡ os ++ o ∷ [] → rs ≡ qs ++ q ∷ [] → HasMoved (l ∷ []) os rs
moved_two l os qs rs o q h i e d =
    (o ∷ q ∷ [], d ∙ ap (λ ks. ks ++ q ∷ []) e ∙ append_assoc os (o ∷ []) (q ∷ []), (one_of_them (changes o l) h, (one_of_them (changes q l) i, tt)))

pub solo_changes : (o : ℕ) (a : Solo) → changes o (solo_label o a) ≡ true
solo_changes o (S.Write i) = equals o
solo_changes o (S.Pick i) = equals o
solo_changes o (S.Fault e) = equals o

pub parcel_changes : (o : ℕ) (a : Parcel) → changes o (parcel_label o a) ≡ true
parcel_changes o a = by a.takes
  where
    by : (t : Bool) → changes o (moved_by o a t) ≡ true
    by true = equals o
    by false = equals o

pub receiver_changes : (b o : ℕ) (a : Duo) → changes b (duo_label b o a) ≡ true
receiver_changes b o a = by a.returned
  where
    by : (v : Option Value) → changes b (labelled b o a v) ≡ true
    by None = ap (λ t. t || o == b) (equals b)
    by (Some v) = ap (λ t. t || o == b) (equals b)

pub caller_changes : (b o : ℕ) (a : Duo) → changes o (duo_label b o a) ≡ true
caller_changes b o a = by a.returned
  where
    by : (v : Option Value) → changes o (labelled b o a v) ≡ true
    by None = either (b == o) (o == o) (equals o)
    by (Some v) = either (b == o) (o == o) (equals o)

module _ (p : ProgramTree) (k : Course) where
  -- transitions that are followed, and objects that they change
  abbrev pub Moves : Configuration → Configuration → List ℕ → List ℕ → Type 0
  Moves c d os qs = (f : Follows p k c d) × HasMoved (passes f) os qs

  pub moves_nothing : (c d : Configuration) (os : List ℕ) → Follows p k c d → Moves c d os os
  moves_nothing c d os f = (f, moved_nothing (passes f) os)

  pub moves_both : (c d e : Configuration) (os qs rs : List ℕ) → Moves c d os qs → Moves d e qs rs → Moves c e os rs
  moves_both c d e os qs rs f g =
      (follows_both p k c d e f.0 g.0, subst (λ ls. HasMoved ls os rs) (sym (passes_both p k c d e f.0 g.0)) (moved_both (passes f.0) (passes g.0) os qs rs f.1 g.1))

  pub moves_more : (c d e : Configuration) (os qs rs : List ℕ) (l : Label) → Moves c d os qs → k.follows l ≡ true → transition p d l ≡ Some e → HasMoved (l ∷ []) qs rs → Moves c e os rs
  moves_more c d e os qs rs l f kind step m =
      (follows_more p k c d e l f.0 kind step, subst (λ ls. HasMoved ls os rs) (sym (passes_more p k c d e l f.0 kind step)) (moved_both (passes f.0) (l ∷ []) os qs rs f.1 m))
