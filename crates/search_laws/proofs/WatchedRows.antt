-- A worked program that never ends, which computes: each of its runs writes ones alone, and it has runs of any length.
use Rattle.std.proofs.Common.{◌≡◌, refl, true, false, inl, inr, subst, ℕ, pos, List, [], ◌∷◌, ◌++◌, Option, Some, None, arith}
use Rattle.run_types.specs.declared.types.Value.TheVariants as V
use Rattle.run_types.specs.declared.types.Item.{Item}
use Rattle.run_types.specs.declared.types.Item.TheVariants as I
use Rattle.run_types.specs.declared.types.Label.{Label}
use Rattle.run_types.specs.declared.types.Label.TheVariants as L
use Rattle.run_types.specs.Partial.{◌>>=◌}
use Rattle.run_types.proofs.Laws.{same_some}
use Rattle.pool_syntax.specs.Terms.{Literal, Write, While, Done, ProgramTree}
use Rattle.pool_syntax.specs.Terms as T
use Rattle.pool_relation.specs.Configuration.{Configuration}
use Rattle.pool_relation.specs.Transition.{run, start}
use Rattle.reachability.specs.Labels.{labels_to_try}
use Rattle.search_laws.specs.Renamed.{IsNameless}
use Rattle.search_laws.specs.Tried.{Follows, with_writes}
use Rattle.search_laws.specs.Monitors.{IsReachedWriting, Watched, IsWatched}
use Rattle.patterns.specs.Patterns.{Pattern, One, Repeated, is_void, BeginsOne}
use Rattle.search_laws.specs.PatternMonitors.{left_of}
use Rattle.search_laws.specs.TriedWatched.{watched, EveryLabel, IsTriedWatched}
use Rattle.search_laws.specs.Bounded.{ComesBack, HasLongRuns}
use Rattle.search_laws.proofs.AllLabelsTried.{follows_by}
use Rattle.search_laws.proofs.TriedWatched.{whole_watched_by_trying}
use Rattle.search_laws.proofs.KeepsTo.{begins_by_list}
use Rattle.search_laws.proofs.Endless.{long_runs}

abbrev one : Item
one = I.Value (V.Int (pos 1))

-- Main 0: it writes 1 for ever
abbrev program : ProgramTree
program = record {
  name = record { name = record { 0 = 0 }; pos = 0 };
  vars = [];
  methods = [];
  body = T.Then (While (Literal (V.Bool true) 0) (T.Then (Write (Literal (V.Int (pos 1)) 0)) Done)) Done;
} ∷ []

abbrev nothing : Configuration
nothing = record { objects = []; messages = [] }

abbrev got : Option Configuration → Configuration
got None = nothing
got (Some c) = c

abbrev reached : List Label → Configuration
reached ls = got (start program 0 >>= λ c. run program c ls)

-- a round of the loop up to the write
abbrev turn : List Label
turn = L.Local 0 ∷ L.Local 0 ∷ []

abbrev writes : Label
writes = L.Write 0 one

abbrev kept : Configuration
kept = reached turn

abbrev ones : Pattern
ones = Repeated (One one)

abbrev list : List (Watched Pattern)
list = watched Pattern 1 ones kept ∷ []

labels : labels_to_try program 1 kept ≡ writes ∷ []
labels = refl

is_tried : IsTriedWatched Pattern program (left_of ones) list
is_tried = record {
  begins = λ c e. (kept, subst (λ (x : Configuration). Follows program with_writes x kept) (same_some e) (follows_by program with_writes (reached []) kept turn refl refl), inl (refl, refl, refl));
  tried = (
    (refl, refl),
    EveryLabel (inr (record { next = reached (turn ++ writes ∷ []); step = refl; to = kept; follows = follows_by program with_writes _ kept turn refl refl; is_in = inl (refl, refl, refl) }), tt),
    tt,
  );
}

none_void : (n : ℕ) (q : Pattern) (c : Configuration) → IsWatched Pattern n q c list → is_void q ≡ false
none_void n q c (inl i) = subst (λ (r : Pattern). is_void r ≡ false) i.1 refl
none_void n q c (inr i) = absurd i

nameless : IsNameless program
nameless = λ f. refl

ones_alone : (w : List Item) (d : Configuration) → IsReachedWriting program w d → BeginsOne ones w
ones_alone = begins_by_list program ones list nameless (whole_watched_by_trying Pattern program (left_of ones) list nameless is_tried) none_void

comes_back : ComesBack program turn (writes ∷ turn)
comes_back = record { root = 0; first = reached []; there = kept; starts = refl; leads = refl; back = refl; some = omega arith }

never_ends : HasLongRuns program
never_ends = long_runs program turn (writes ∷ turn) comes_back
