-- Runs, and runs of transitions that a search follows, are extended by one transition at the end.
use Rattle.std.proofs.Common.{◌≡◌, refl, sym, ap, ◌∙◌, subst, List, [], ◌∷◌, ◌++◌, Some, true, ◌&&◌, append_assoc}
use Rattle.std.proofs.lemmas.List.{append-nil}
use Rattle.run_types.specs.declared.types.Item.{Item}
use Rattle.run_types.specs.declared.types.Label.{Label}
use Rattle.run_types.proofs.Laws.{first, second}
use Rattle.pool_syntax.specs.Terms.{ProgramTree}
use Rattle.run_types.specs.Partial.{◌>>=◌}
use Rattle.pool_relation.specs.Configuration.{Configuration}
use Rattle.pool_relation.specs.Transition.{transition, run, start}
use Rattle.pool_relation.proofs.Laws.{joined}
use Rattle.reachability.specs.Outcomes.{written}
use Rattle.search_laws.specs.Tried.{Course, Follows, Stays, GoesBy, KeepsNothing, with_writes}
use Rattle.search_laws.proofs.Laws.{silent_keeps_nothing}
use Rattle.visited_set.specs.declared.keeps.Keeps.{Keeps}
use Rattle.visited_set.specs.declared.keeps.Keeps.TheVariants as K
use Rattle.visited_set.specs.Courses.{all_followed, course_of}
use Rattle.pool_search.specs.Progress.{gathered, IsReachedWith}

pub run_more : (p : ProgramTree) (c d e : Configuration) (ls : List Label) (l : Label) → run p c ls ≡ Some d → transition p d l ≡ Some e → run p c (ls ++ l ∷ []) ≡ Some e
run_more p c d e ls l h step = joined p c d ls (l ∷ []) h ∙ ap (λ t. t >>= λ x. Some x) step

-- one more label that is followed
pub followed_more : (k : Course) (ls : List Label) (l : Label) → all_followed k ls ≡ true → k.follows l ≡ true → all_followed k (ls ++ l ∷ []) ≡ true
followed_more k [] l h f = ap (λ b. b && true) f
followed_more k (m ∷ ls) l h f =
    ap (λ b. b && all_followed k (ls ++ l ∷ [])) (first (k.follows m) (all_followed k ls) h) ∙ followed_more k ls l (second (k.follows m) (all_followed k ls) h) f

-- of what is followed nothing is kept
pub keeps_nothing : (k : Keeps) → KeepsNothing (course_of k)
keeps_nothing K.States = λ _ _. refl
keeps_nothing K.Writes = silent_keeps_nothing

-- with writes, what is kept is what was written
pub gathers_writes : (p : ProgramTree) (ls : List Label) → gathered p with_writes ls ≡ written ls
gathers_writes p [] = refl
gathers_writes p (l ∷ ls) = ap (λ w. with_writes.keeps l ++ w) (gathers_writes p ls)

module _ (p : ProgramTree) (k : Course) where
  pub follows_more : (c d e : Configuration) (l : Label) → Follows p k c d → k.follows l ≡ true → transition p d l ≡ Some e → Follows p k c e
  follows_more c d e l Stays kind step = GoesBy l kind step Stays
  follows_more c d e l (GoesBy {d = b} m m_kind m_step rest) kind step = GoesBy m m_kind m_step (follows_more b d e l rest kind step)

  gathered_more : (ls : List Label) (l : Label) → gathered p k (ls ++ l ∷ []) ≡ gathered p k ls ++ k.keeps l
  gathered_more [] l = append-nil (k.keeps l)
  gathered_more (m ∷ ls) l = ap (λ w. k.keeps m ++ w) (gathered_more ls l) ∙ sym (append_assoc (k.keeps m) (gathered p k ls) (k.keeps l))

  pub reached_start : (c : Configuration) → start p 0 ≡ Some c → IsReachedWith p k [] c
  reached_start c s = record { first = c; labels = []; starts = s; leads = refl; kept = refl }

  pub reached_more : (w : List Item) (c d : Configuration) (l : Label) → IsReachedWith p k w c → transition p c l ≡ Some d → IsReachedWith p k (w ++ k.keeps l) d
  reached_more w c d l r step = record {
    first = r.first;
    labels = r.labels ++ l ∷ [];
    starts = r.starts;
    leads = run_more p r.first c d r.labels l r.leads step;
    kept = gathered_more r.labels l ∙ ap (λ v. v ++ k.keeps l) r.kept;
  }

  pub reached_on : KeepsNothing k → (w : List Item) (c e : Configuration) → IsReachedWith p k w c → Follows p k c e → IsReachedWith p k w e
  reached_on none w c e r Stays = r
  reached_on none w c e r (GoesBy {d = d} l kind step rest) =
      let more : IsReachedWith p k (w ++ k.keeps l) d = reached_more w c d l r step in
      reached_on none w d e (subst (λ (v : List Item). IsReachedWith p k v d) (ap (λ v. w ++ v) (none l kind) ∙ append-nil w) more) rest
