-- The matches that `clap` makes of the arguments of the command line.
use Rattle.std.proofs.Common.{◌≡◌, Bool, true, false, List, [], ◌∷◌, Some, None, refl, sym, ap, ap₂, ◌∙◌, is_some, option_map, codes, bytes_eq, ◌||◌, subst, true≢false, ◌⊎◌, inl, inr}
use Rattle.std.proofs.lemmas.Slice.Eq.{bytes_eq-Decides}
use Rattle.std.specs.List.{list_any}
use Rattle.std.specs.Prelude.{fold, find}
use Rattle.clap.specs.Words.{App, Rule, Shape, Text, IsAmong, fault_of, is_simple, is_simple_and_free, subcommand_of}
use Rattle.clap.specs.Walk.{Walk, answers_to, finished, idle, nothing_held, settled, subcommand_met, walk, walk_from, walked}
use Rattle.clap.specs.Simple.{built, built_leaf, entered, inherited, label_of, names_of, rows_at}
use Rattle.clap.specs.Kinds.{Kinds, or_else}
use Rattle.clap.specs.Faults.{check_fault, defaults_fault, entered_fault, level_fault, settle_fault, turn_fault, walk_fault}
use Rattle.clap.specs.declared.error.ErrorKind.{ErrorKind}
use Rattle.clap.specs.declared.error.ErrorKind.TheVariants as kind
use Rattle.clap.proofs.OnLiterals.{clap_on_literals}
use Rattle.command_line.specs.Commands.{ask_of, is_option, request_of, show_of}
use Rattle.command_line.specs.CommandLine.{matched_request, pool_app, three_inputs, words_app}
use Rattle.command_line.specs.declared.command.Ask.{Ask}
use Rattle.command_line.specs.declared.command.Show.{Show}
use Rattle.command_line.specs.declared.command.Ask.TheVariants as As
use Rattle.command_line.specs.declared.command.Show.TheVariants as Sh
use Rattle.command_line.proofs.PlainWords.{fault_plain, fault_stopped, fold_plain, fold_stopped, next_walk, stopped_at, turn_plain}

-- the command line as it is built, and its subcommands
abbrev pub pool : App
pool = built pool_app

abbrev pub files_shape : Text → Shape
files_shape name = built_leaf (inherited pool.top (words_app name three_inputs).top)

abbrev pub word_shape : Text → Text → Shape
word_shape name id = built_leaf (inherited pool.top (words_app name (id ∷ [])).top)

abbrev pub checked_shape : Text → Shape
checked_shape name = built_leaf (inherited pool.top (words_app name (codes "program" ∷ codes "record" ∷ [])).top)

-- the faults of a command's own level, of its walk and the walk's own faults
abbrev of_level : Shape → Walk → Kinds → Bool → Kinds → Kinds
of_level s end walking has_subcommand below =
    or_else walking (or_else below (or_else (settle_fault s.rules s.args_override_self end.held)
    (or_else (defaults_fault (settled s.rules end.held).rows s.rules) (check_fault s (finished s.rules end.held) has_subcommand))))

abbrev of_top : Walk → Kinds → Kinds
of_top end walking = of_level pool.top end walking (is_some (entered pool end.stopped)) (entered_fault pool end.stopped)

-- the faults of a subcommand's words
abbrev pub below : Shape → List Text → Kinds
below s rest = level_fault s [] nothing_held rest false []

abbrev or_none : Kinds → Kinds
or_none ks = or_else ks []

or_none_is : (ks : Kinds) → or_else ks [] ≡ ks
or_none_is [] = refl
or_none_is (k ∷ ks) = refl

top_of_found : (name : Text) (s : Shape) (rest : List Text) → find (λ s. answers_to name (label_of s)) pool.subs ≡ Some s
    → of_top (stopped_at nothing_held name rest) [] ≡ below s rest
unfolding defaults_fault
top_of_found name s rest e = rw e (or_none_is (below s rest))

-- the word enters the subcommand of this shape
pub record Enters (name : Text) (s : Shape) : Type 0 where
  pub first : walked [] (names_of pool) (walk_from nothing_held) name ≡ stopped_at nothing_held name []
  pub turn : turn_fault pool.top (names_of pool) (walk_from nothing_held) name ≡ []
  pub found : find (λ s. answers_to name (label_of s)) pool.subs ≡ Some s

entered_walk : (name : Text) (s : Shape) (rest : List Text) → Enters name s → walk [] (names_of pool) nothing_held (name ∷ rest) ≡ stopped_at nothing_held name rest
entered_walk name s rest e = ap (λ w. fold (walked [] (names_of pool)) w rest) e.first ∙ fold_stopped [] (names_of pool) nothing_held name [] rest

-- the words after it are judged by it
pub entered_faults : (name : Text) (s : Shape) (rest : List Text) → Enters name s → fault_of pool_app (name ∷ rest) ≡ below s rest
unfolding walk_fault
entered_faults name s rest e =
    let walking : walk_fault pool.top (names_of pool) (walk_from nothing_held) (name ∷ rest) ≡ [] =
    ap₂ (λ ks w. or_else ks (walk_fault pool.top (names_of pool) w rest)) e.turn e.first ∙ fault_stopped pool.top (names_of pool) nothing_held name [] rest in
    ap₂ of_top (entered_walk name s rest e) walking ∙ top_of_found name s rest e.found

-- and give its matches
pub entered_rows : (name : Text) (s : Shape) (rest : List Text) → Enters name s → subcommand_of pool_app (name ∷ rest) ≡ Some (rows_at s rest)
entered_rows name s rest e =
    ap (λ w. entered pool w.stopped) (entered_walk name s rest e) ∙ ap (λ found. option_map (λ s. rows_at s rest) found) e.found

pub enters_record : Enters (codes "record") (files_shape (codes "record"))
unfolding clap_on_literals
enters_record = record { first = refl; turn = refl; found = refl }

pub enters_run : Enters (codes "run") (files_shape (codes "run"))
unfolding clap_on_literals
enters_run = record { first = refl; turn = refl; found = refl }

pub enters_why : Enters (codes "why") (files_shape (codes "why"))
unfolding clap_on_literals
enters_why = record { first = refl; turn = refl; found = refl }

pub enters_print : Enters (codes "print") (word_shape (codes "print") (codes "program"))
unfolding clap_on_literals
enters_print = record { first = refl; turn = refl; found = refl }

pub enters_code : Enters (codes "code") (word_shape (codes "code") (codes "program"))
unfolding clap_on_literals
enters_code = record { first = refl; turn = refl; found = refl }

pub enters_ring : Enters (codes "ring") (word_shape (codes "ring") (codes "cells"))
unfolding clap_on_literals
enters_ring = record { first = refl; turn = refl; found = refl }

pub enters_convert : Enters (codes "convert") (word_shape (codes "convert") (codes "record"))
unfolding clap_on_literals
enters_convert = record { first = refl; turn = refl; found = refl }

pub enters_check : Enters (codes "check") (checked_shape (codes "check"))
unfolding clap_on_literals
enters_check = record { first = refl; turn = refl; found = refl }

pub enters_build : Enters (codes "build") (word_shape (codes "build") (codes "program"))
unfolding clap_on_literals
enters_build = record { first = refl; turn = refl; found = refl }

pub enters_load : Enters (codes "load") (files_shape (codes "load"))
unfolding clap_on_literals
enters_load = record { first = refl; turn = refl; found = refl }

-- what stands between the words of a subcommand

level_by : (s : Shape) (rest : List Text) (end : Walk) (walking : Kinds) → walk s.rules [] nothing_held rest ≡ end
    → walk_fault s [] (walk_from nothing_held) rest ≡ walking → below s rest ≡ of_level s end walking false []
level_by s rest end walking e f = ap₂ (λ w ks. of_level s w ks false []) e f

-- three names

module _ (name : Text) where
  abbrev files : List Rule
  files = (files_shape name).rules

  abbrev one : Text → Walk
  one p = next_walk files nothing_held 1 p

  abbrev two : Text → Text → Walk
  two p l = next_walk files (one p).held 2 l

  abbrev three : Text → Text → Text → Walk
  three p l x = next_walk files (two p l).held 3 x

  walk_1 : (p : Text) (rest : List Text) → is_option p ≡ false → walk files [] nothing_held (p ∷ rest) ≡ fold (walked files []) (one p) rest
  walk_1 p rest e = fold_plain files nothing_held 1 p rest e

  walk_2 : (p l : Text) (rest : List Text) → is_option p ≡ false → is_option l ≡ false
      → walk files [] nothing_held (p ∷ l ∷ rest) ≡ fold (walked files []) (two p l) rest
  walk_2 p l rest e f = walk_1 p (l ∷ rest) e ∙ fold_plain files (one p).held 2 l rest f

  pub walk_3 : (p l x : Text) (rest : List Text) → is_option p ≡ false → is_option l ≡ false → is_option x ≡ false
      → walk files [] nothing_held (p ∷ l ∷ x ∷ rest) ≡ fold (walked files []) (three p l x) rest
  walk_3 p l x rest e f g = walk_2 p l (x ∷ rest) e f ∙ fold_plain files (two p l).held 3 x rest g

  fault_1 : (p : Text) (rest : List Text) → is_option p ≡ false
      → walk_fault (files_shape name) [] (walk_from nothing_held) (p ∷ rest) ≡ walk_fault (files_shape name) [] (one p) rest
  fault_1 p rest e = fault_plain (files_shape name) nothing_held 1 p rest e

  fault_2 : (p l : Text) (rest : List Text) → is_option p ≡ false → is_option l ≡ false
      → walk_fault (files_shape name) [] (walk_from nothing_held) (p ∷ l ∷ rest) ≡ walk_fault (files_shape name) [] (two p l) rest
  fault_2 p l rest e f = fault_1 p (l ∷ rest) e ∙ fault_plain (files_shape name) (one p).held 2 l rest f

  fault_3 : (p l x : Text) (rest : List Text) → is_option p ≡ false → is_option l ≡ false → is_option x ≡ false
      → walk_fault (files_shape name) [] (walk_from nothing_held) (p ∷ l ∷ x ∷ rest) ≡ walk_fault (files_shape name) [] (three p l x) rest
  fault_3 p l x rest e f g = fault_2 p l (x ∷ rest) e f ∙ fault_plain (files_shape name) (two p l).held 3 x rest g

  pub below_0 : below (files_shape name) [] ≡ kind.MissingRequiredArgument ∷ []
  unfolding walk_fault defaults_fault
  below_0 = refl

  pub below_1 : (p : Text) → is_option p ≡ false → below (files_shape name) (p ∷ []) ≡ kind.MissingRequiredArgument ∷ []
  unfolding walk_fault defaults_fault
  below_1 p e = level_by (files_shape name) (p ∷ []) (one p) [] (walk_1 p [] e) (fault_1 p [] e)

  pub below_2 : (p l : Text) → is_option p ≡ false → is_option l ≡ false → below (files_shape name) (p ∷ l ∷ []) ≡ kind.MissingRequiredArgument ∷ []
  unfolding walk_fault defaults_fault
  below_2 p l e f = level_by (files_shape name) (p ∷ l ∷ []) (two p l) [] (walk_2 p l [] e f) (fault_2 p l [] e f)

  pub below_3 : (p l x : Text) → is_option p ≡ false → is_option l ≡ false → is_option x ≡ false → below (files_shape name) (p ∷ l ∷ x ∷ []) ≡ []
  unfolding walk_fault defaults_fault
  below_3 p l x e f g = level_by (files_shape name) (p ∷ l ∷ x ∷ []) (three p l x) [] (walk_3 p l x [] e f g) (fault_3 p l x [] e f g)

  pub below_4 : (p l x y : Text) (rest : List Text) → is_option p ≡ false → is_option l ≡ false → is_option x ≡ false → is_option y ≡ false
      → below (files_shape name) (p ∷ l ∷ x ∷ y ∷ rest) ≡ kind.UnknownArgument ∷ []
  unfolding walk_fault defaults_fault
  below_4 p l x y rest e f g h =
      level_by (files_shape name) (p ∷ l ∷ x ∷ y ∷ rest) (walk files [] nothing_held (p ∷ l ∷ x ∷ y ∷ rest)) (kind.UnknownArgument ∷ []) refl
      (fault_3 p l x (y ∷ rest) e f g ∙ fault_plain (files_shape name) (three p l x).held 4 y rest h)

-- a program and a record

module _ (name : Text) where
  abbrev both : List Rule
  both = (checked_shape name).rules

  abbrev one_of : Text → Walk
  one_of p = next_walk both nothing_held 1 p

  abbrev two_of : Text → Text → Walk
  two_of p r = next_walk both (one_of p).held 2 r

  both_1 : (p : Text) (rest : List Text) → is_option p ≡ false → walk both [] nothing_held (p ∷ rest) ≡ fold (walked both []) (one_of p) rest
  both_1 p rest e = fold_plain both nothing_held 1 p rest e

  pub both_2 : (p r : Text) (rest : List Text) → is_option p ≡ false → is_option r ≡ false
      → walk both [] nothing_held (p ∷ r ∷ rest) ≡ fold (walked both []) (two_of p r) rest
  both_2 p r rest e f = both_1 p (r ∷ rest) e ∙ fold_plain both (one_of p).held 2 r rest f

  both_fault_1 : (p : Text) (rest : List Text) → is_option p ≡ false
      → walk_fault (checked_shape name) [] (walk_from nothing_held) (p ∷ rest) ≡ walk_fault (checked_shape name) [] (one_of p) rest
  both_fault_1 p rest e = fault_plain (checked_shape name) nothing_held 1 p rest e

  both_fault_2 : (p r : Text) (rest : List Text) → is_option p ≡ false → is_option r ≡ false
      → walk_fault (checked_shape name) [] (walk_from nothing_held) (p ∷ r ∷ rest) ≡ walk_fault (checked_shape name) [] (two_of p r) rest
  both_fault_2 p r rest e f = both_fault_1 p (r ∷ rest) e ∙ fault_plain (checked_shape name) (one_of p).held 2 r rest f

  pub both_below_0 : below (checked_shape name) [] ≡ kind.MissingRequiredArgument ∷ []
  unfolding walk_fault defaults_fault
  both_below_0 = refl

  pub both_below_1 : (p : Text) → is_option p ≡ false → below (checked_shape name) (p ∷ []) ≡ kind.MissingRequiredArgument ∷ []
  unfolding walk_fault defaults_fault
  both_below_1 p e = level_by (checked_shape name) (p ∷ []) (one_of p) [] (both_1 p [] e) (both_fault_1 p [] e)

  pub both_below_2 : (p r : Text) → is_option p ≡ false → is_option r ≡ false → below (checked_shape name) (p ∷ r ∷ []) ≡ []
  unfolding walk_fault defaults_fault
  both_below_2 p r e f = level_by (checked_shape name) (p ∷ r ∷ []) (two_of p r) [] (both_2 p r [] e f) (both_fault_2 p r [] e f)

  pub both_below_3 : (p r x : Text) (rest : List Text) → is_option p ≡ false → is_option r ≡ false → is_option x ≡ false
      → below (checked_shape name) (p ∷ r ∷ x ∷ rest) ≡ kind.UnknownArgument ∷ []
  unfolding walk_fault defaults_fault
  both_below_3 p r x rest e f g =
      level_by (checked_shape name) (p ∷ r ∷ x ∷ rest) (walk both [] nothing_held (p ∷ r ∷ x ∷ rest)) (kind.UnknownArgument ∷ []) refl
      (both_fault_2 p r (x ∷ rest) e f ∙ fault_plain (checked_shape name) (two_of p r).held 3 x rest g)

-- one word

module _ (name id : Text) where
  abbrev word_rules : List Rule
  word_rules = (word_shape name id).rules

  abbrev only : Text → Walk
  only p = next_walk word_rules nothing_held 1 p

  pub word_walk : (p : Text) → is_option p ≡ false → walk word_rules [] nothing_held (p ∷ []) ≡ only p
  word_walk p e = fold_plain word_rules nothing_held 1 p [] e

  word_fault_1 : (p : Text) (rest : List Text) → is_option p ≡ false
      → walk_fault (word_shape name id) [] (walk_from nothing_held) (p ∷ rest) ≡ walk_fault (word_shape name id) [] (only p) rest
  word_fault_1 p rest e = fault_plain (word_shape name id) nothing_held 1 p rest e

  pub word_below_0 : below (word_shape name id) [] ≡ kind.MissingRequiredArgument ∷ []
  unfolding walk_fault defaults_fault
  word_below_0 = refl

  pub word_below_2 : (p q : Text) (rest : List Text) → is_option p ≡ false → is_option q ≡ false
      → below (word_shape name id) (p ∷ q ∷ rest) ≡ kind.UnknownArgument ∷ []
  unfolding walk_fault defaults_fault
  word_below_2 p q rest e f =
      level_by (word_shape name id) (p ∷ q ∷ rest) (walk word_rules [] nothing_held (p ∷ q ∷ rest)) (kind.UnknownArgument ∷ []) refl
      (word_fault_1 p (q ∷ rest) e ∙ fault_plain (word_shape name id) (only p).held 2 q rest f)

pub program_below_1 : (name p : Text) → is_option p ≡ false → below (word_shape name (codes "program")) (p ∷ []) ≡ []
unfolding walk_fault defaults_fault
program_below_1 name p e =
    level_by (word_shape name (codes "program")) (p ∷ []) (only name (codes "program") p) [] (word_walk name (codes "program") p e) (word_fault_1 name (codes "program") p [] e)

pub cells_below_1 : (name p : Text) → is_option p ≡ false → below (word_shape name (codes "cells")) (p ∷ []) ≡ []
unfolding walk_fault defaults_fault
cells_below_1 name p e =
    level_by (word_shape name (codes "cells")) (p ∷ []) (only name (codes "cells") p) [] (word_walk name (codes "cells") p e) (word_fault_1 name (codes "cells") p [] e)

pub record_below_1 : (name p : Text) → is_option p ≡ false → below (word_shape name (codes "record")) (p ∷ []) ≡ []
unfolding walk_fault defaults_fault
record_below_1 name p e =
    level_by (word_shape name (codes "record")) (p ∷ []) (only name (codes "record") p) [] (word_walk name (codes "record") p e) (word_fault_1 name (codes "record") p [] e)

-- what the words ask for, and what `clap` makes of them

-- without a fault the matches ask for what the words ask for, and with one the words ask for nothing
pub record Judged (words : List Text) : Type 0 where
  pub accepted : fault_of pool_app words ≡ [] → matched_request (subcommand_of pool_app words) ≡ request_of words
  pub refused : (k : ErrorKind) → IsAmong k (fault_of pool_app words) → request_of words ≡ None

by_fault : (words : List Text) (k : ErrorKind) (ks : Kinds) → fault_of pool_app words ≡ k ∷ ks → request_of words ≡ None → Judged words
by_fault words k ks fault none = record {
  accepted = λ e. absurd (no_kind (sym fault ∙ e));
  refused = λ j h. none;
}
  where
    no_kind : (k ∷ ks ≡ []) → ⊥
    no_kind e = cc

by_matches : (words : List Text) → fault_of pool_app words ≡ [] → matched_request (subcommand_of pool_app words) ≡ request_of words → Judged words
by_matches words fault same = record {
  accepted = λ e. same;
  refused = λ j h. absurd (subst (λ ks. IsAmong j ks) fault h);
}

-- a word of a list that does not begin with `-`
neither : (a b : Bool) → (a || b) ≡ false → (a ≡ false) × (b ≡ false)
neither true b e = absurd (true≢false e)
neither false b e = (refl, e)

pub files_judged : (name : Text) (show : Show) → Enters name (files_shape name) → show_of name ≡ Some show → ask_of name ≡ None
    → bytes_eq name (codes "ring") ≡ false → bytes_eq name (codes "convert") ≡ false → bytes_eq name (codes "check") ≡ false → (rest : List Text) → list_any is_option rest ≡ false
    → Judged (name ∷ rest)
files_judged name show enters shows asks rings converts checks [] plain =
    by_fault (name ∷ []) kind.MissingRequiredArgument [] (entered_faults name _ [] enters ∙ below_0 name) refl
files_judged name show enters shows asks rings converts checks (p ∷ []) plain =
    let a = neither _ _ plain in
    by_fault (name ∷ p ∷ []) kind.MissingRequiredArgument [] (entered_faults name _ (p ∷ []) enters ∙ below_1 name p a.0)
    (rw (a.0, asks, rings, converts) refl)
files_judged name show enters shows asks rings converts checks (p ∷ l ∷ []) plain =
    let a = neither _ _ plain in
    let b = neither _ _ a.1 in
    by_fault (name ∷ p ∷ l ∷ []) kind.MissingRequiredArgument [] (entered_faults name _ (p ∷ l ∷ []) enters ∙ below_2 name p l a.0 b.0)
    (rw (a.0, b.0, checks) refl)
files_judged name show enters shows asks rings converts checks (p ∷ l ∷ x ∷ []) plain =
    let a = neither _ _ plain in
    let b = neither _ _ a.1 in
    let d = neither _ _ b.1 in
    let rows = entered_rows name _ (p ∷ l ∷ x ∷ []) enters
    ∙ ap (λ w. Some (name, finished (files name) w.held)) (walk_3 name p l x [] a.0 b.0 d.0) in
    by_matches (name ∷ p ∷ l ∷ x ∷ []) (entered_faults name _ (p ∷ l ∷ x ∷ []) enters ∙ below_3 name p l x a.0 b.0 d.0)
    (ap matched_request rows ∙ rw (a.0, b.0, d.0, shows) refl)
files_judged name show enters shows asks rings converts checks (p ∷ l ∷ x ∷ y ∷ rest) plain =
    let a = neither _ _ plain in
    let b = neither _ _ a.1 in
    let d = neither _ _ b.1 in
    let e = neither _ _ d.1 in
    by_fault (name ∷ p ∷ l ∷ x ∷ y ∷ rest) kind.UnknownArgument []
    (entered_faults name _ (p ∷ l ∷ x ∷ y ∷ rest) enters ∙ below_4 name p l x y rest a.0 b.0 d.0 e.0) refl

-- two words or more after a word that is no command of three inputs and none of two
no_more : (name p q : Text) (rest : List Text) → show_of name ≡ None → bytes_eq name (codes "check") ≡ false → bytes_eq name (codes "load") ≡ false → is_option p ≡ false → is_option q ≡ false → list_any is_option rest ≡ false
    → request_of (name ∷ p ∷ q ∷ rest) ≡ None
no_more name p q [] shows checks loads e f plain = rw (e, f, checks) refl
no_more name p q (r ∷ []) shows checks loads e f plain =
    let last = neither (is_option r) _ plain in
    rw (e, f, last.0, shows, loads) refl
no_more name p q (r ∷ t ∷ rest) shows checks loads e f plain = refl

-- and three words or more
no_show : (name p q x : Text) (rest : List Text) → show_of name ≡ None → bytes_eq name (codes "load") ≡ false → is_option p ≡ false → is_option q ≡ false → is_option x ≡ false → list_any is_option rest ≡ false
    → request_of (name ∷ p ∷ q ∷ x ∷ rest) ≡ None
no_show name p q x [] shows loads e f g plain = rw (e, f, g, shows, loads) refl
no_show name p q x (r ∷ rest) shows loads e f g plain = refl

pub program_judged : (name : Text) (ask : Ask) → Enters name (word_shape name (codes "program")) → show_of name ≡ None → ask_of name ≡ Some ask → bytes_eq name (codes "check") ≡ false → bytes_eq name (codes "load") ≡ false
    → (rest : List Text) → list_any is_option rest ≡ false → Judged (name ∷ rest)
program_judged name ask enters shows asks checks loads [] plain =
    by_fault (name ∷ []) kind.MissingRequiredArgument [] (entered_faults name _ [] enters ∙ word_below_0 name (codes "program")) refl
program_judged name ask enters shows asks checks loads (p ∷ []) plain =
    let a = neither _ _ plain in
    let rows = entered_rows name _ (p ∷ []) enters
    ∙ ap (λ w. Some (name, finished (word_rules name (codes "program")) w.held)) (word_walk name (codes "program") p a.0) in
    by_matches (name ∷ p ∷ []) (entered_faults name _ (p ∷ []) enters ∙ program_below_1 name p a.0)
    (ap matched_request rows ∙ rw (a.0, shows, asks) refl)
program_judged name ask enters shows asks checks loads (p ∷ q ∷ rest) plain =
    let a = neither _ _ plain in
    let b = neither _ _ a.1 in
    by_fault (name ∷ p ∷ q ∷ rest) kind.UnknownArgument []
    (entered_faults name _ (p ∷ q ∷ rest) enters ∙ word_below_2 name (codes "program") p q rest a.0 b.0)
    (no_more name p q rest shows checks loads a.0 b.0 b.1)

pub ring_judged : (rest : List Text) → list_any is_option rest ≡ false → Judged (codes "ring" ∷ rest)
ring_judged [] plain =
    by_fault (codes "ring" ∷ []) kind.MissingRequiredArgument [] (entered_faults (codes "ring") _ [] enters_ring ∙ word_below_0 (codes "ring") (codes "cells")) refl
ring_judged (p ∷ []) plain =
    let a = neither _ _ plain in
    let rows = entered_rows (codes "ring") _ (p ∷ []) enters_ring
    ∙ ap (λ w. Some (codes "ring", finished (word_rules (codes "ring") (codes "cells")) w.held)) (word_walk (codes "ring") (codes "cells") p a.0) in
    by_matches (codes "ring" ∷ p ∷ []) (entered_faults (codes "ring") _ (p ∷ []) enters_ring ∙ cells_below_1 (codes "ring") p a.0)
    (ap matched_request rows ∙ rw a.0 refl)
ring_judged (p ∷ q ∷ rest) plain =
    let a = neither _ _ plain in
    let b = neither _ _ a.1 in
    by_fault (codes "ring" ∷ p ∷ q ∷ rest) kind.UnknownArgument []
    (entered_faults (codes "ring") _ (p ∷ q ∷ rest) enters_ring ∙ word_below_2 (codes "ring") (codes "cells") p q rest a.0 b.0)
    (no_more (codes "ring") p q rest refl refl refl a.0 b.0 b.1)

pub convert_judged : (rest : List Text) → list_any is_option rest ≡ false → Judged (codes "convert" ∷ rest)
convert_judged [] plain =
    by_fault (codes "convert" ∷ []) kind.MissingRequiredArgument [] (entered_faults (codes "convert") _ [] enters_convert ∙ word_below_0 (codes "convert") (codes "record")) refl
convert_judged (p ∷ []) plain =
    let a = neither _ _ plain in
    let rows = entered_rows (codes "convert") _ (p ∷ []) enters_convert
    ∙ ap (λ w. Some (codes "convert", finished (word_rules (codes "convert") (codes "record")) w.held)) (word_walk (codes "convert") (codes "record") p a.0) in
    by_matches (codes "convert" ∷ p ∷ []) (entered_faults (codes "convert") _ (p ∷ []) enters_convert ∙ record_below_1 (codes "convert") p a.0)
    (ap matched_request rows ∙ rw a.0 refl)
convert_judged (p ∷ q ∷ rest) plain =
    let a = neither _ _ plain in
    let b = neither _ _ a.1 in
    by_fault (codes "convert" ∷ p ∷ q ∷ rest) kind.UnknownArgument []
    (entered_faults (codes "convert") _ (p ∷ q ∷ rest) enters_convert ∙ word_below_2 (codes "convert") (codes "record") p q rest a.0 b.0)
    (no_more (codes "convert") p q rest refl refl refl a.0 b.0 b.1)

pub check_judged : (rest : List Text) → list_any is_option rest ≡ false → Judged (codes "check" ∷ rest)
check_judged [] plain =
    by_fault (codes "check" ∷ []) kind.MissingRequiredArgument [] (entered_faults (codes "check") _ [] enters_check ∙ both_below_0 (codes "check")) refl
check_judged (p ∷ []) plain =
    let a = neither _ _ plain in
    by_fault (codes "check" ∷ p ∷ []) kind.MissingRequiredArgument [] (entered_faults (codes "check") _ (p ∷ []) enters_check ∙ both_below_1 (codes "check") p a.0)
    (rw a.0 refl)
check_judged (p ∷ r ∷ []) plain =
    let a = neither _ _ plain in
    let b = neither _ _ a.1 in
    let rows = entered_rows (codes "check") _ (p ∷ r ∷ []) enters_check
    ∙ ap (λ w. Some (codes "check", finished (both (codes "check")) w.held)) (both_2 (codes "check") p r [] a.0 b.0) in
    by_matches (codes "check" ∷ p ∷ r ∷ []) (entered_faults (codes "check") _ (p ∷ r ∷ []) enters_check ∙ both_below_2 (codes "check") p r a.0 b.0)
    (ap matched_request rows ∙ rw (a.0, b.0) refl)
check_judged (p ∷ r ∷ x ∷ rest) plain =
    let a = neither _ _ plain in
    let b = neither _ _ a.1 in
    let d = neither _ _ b.1 in
    by_fault (codes "check" ∷ p ∷ r ∷ x ∷ rest) kind.UnknownArgument []
    (entered_faults (codes "check") _ (p ∷ r ∷ x ∷ rest) enters_check ∙ both_below_3 (codes "check") p r x rest a.0 b.0 d.0)
    (no_show (codes "check") p r x rest refl refl a.0 b.0 d.0 d.1)

pub load_judged : (rest : List Text) → list_any is_option rest ≡ false → Judged (codes "load" ∷ rest)
load_judged [] plain =
    by_fault (codes "load" ∷ []) kind.MissingRequiredArgument [] (entered_faults (codes "load") _ [] enters_load ∙ below_0 (codes "load")) refl
load_judged (p ∷ []) plain =
    let a = neither _ _ plain in
    by_fault (codes "load" ∷ p ∷ []) kind.MissingRequiredArgument [] (entered_faults (codes "load") _ (p ∷ []) enters_load ∙ below_1 (codes "load") p a.0)
    (rw a.0 refl)
load_judged (p ∷ l ∷ []) plain =
    let a = neither _ _ plain in
    let b = neither _ _ a.1 in
    by_fault (codes "load" ∷ p ∷ l ∷ []) kind.MissingRequiredArgument [] (entered_faults (codes "load") _ (p ∷ l ∷ []) enters_load ∙ below_2 (codes "load") p l a.0 b.0)
    (rw (a.0, b.0) refl)
load_judged (p ∷ l ∷ x ∷ []) plain =
    let a = neither _ _ plain in
    let b = neither _ _ a.1 in
    let d = neither _ _ b.1 in
    let rows = entered_rows (codes "load") _ (p ∷ l ∷ x ∷ []) enters_load
    ∙ ap (λ w. Some (codes "load", finished (files (codes "load")) w.held)) (walk_3 (codes "load") p l x [] a.0 b.0 d.0) in
    by_matches (codes "load" ∷ p ∷ l ∷ x ∷ []) (entered_faults (codes "load") _ (p ∷ l ∷ x ∷ []) enters_load ∙ below_3 (codes "load") p l x a.0 b.0 d.0)
    (ap matched_request rows ∙ rw (a.0, b.0, d.0) refl)
load_judged (p ∷ l ∷ x ∷ y ∷ rest) plain =
    let a = neither _ _ plain in
    let b = neither _ _ a.1 in
    let d = neither _ _ b.1 in
    let e = neither _ _ d.1 in
    by_fault (codes "load" ∷ p ∷ l ∷ x ∷ y ∷ rest) kind.UnknownArgument []
    (entered_faults (codes "load") _ (p ∷ l ∷ x ∷ y ∷ rest) enters_load ∙ below_4 (codes "load") p l x y rest a.0 b.0 d.0 e.0) refl

-- a word that is no subcommand's name

pub record IsNoName (w : Text) : Type 0 where
  pub shows : show_of w ≡ None
  pub asks : ask_of w ≡ None
  pub rings : bytes_eq w (codes "ring") ≡ false
  pub converts : bytes_eq w (codes "convert") ≡ false
  pub checks : bytes_eq w (codes "check") ≡ false
  pub loads : bytes_eq w (codes "load") ≡ false
  pub met : subcommand_met (names_of pool) idle w ≡ None

no_request : (w : Text) (rest : List Text) → IsNoName w → list_any is_option rest ≡ false → request_of (w ∷ rest) ≡ None
no_request w [] other plain = refl
no_request w (p ∷ []) other plain =
    let a = neither (is_option p) _ plain in
    rw (a.0, other.asks, other.rings, other.converts) refl
no_request w (p ∷ q ∷ rest) other plain =
    let a = neither _ _ plain in
    let b = neither _ _ a.1 in
    no_more w p q rest other.shows other.checks other.loads a.0 b.0 b.1

no_name_fault : (w : Text) (rest : List Text) → IsNoName w → is_option w ≡ false
    → walk_fault pool.top (names_of pool) (walk_from nothing_held) (w ∷ rest) ≡ kind.UnknownArgument ∷ kind.InvalidSubcommand ∷ []
unfolding walk_fault
no_name_fault w rest other plain =
    ap (λ ks. or_else ks (walk_fault pool.top (names_of pool) (walked [] (names_of pool) (walk_from nothing_held) w) rest))
    (turn_plain pool.top (names_of pool) nothing_held 1 w plain other.met)

no_name_judged : (w : Text) (rest : List Text) → IsNoName w → is_option w ≡ false → list_any is_option rest ≡ false → Judged (w ∷ rest)
no_name_judged w rest other plain others =
    by_fault (w ∷ rest) kind.UnknownArgument (kind.InvalidSubcommand ∷ [])
    (ap (λ ks. of_top (walk [] (names_of pool) nothing_held (w ∷ rest)) ks) (no_name_fault w rest other plain))
    (no_request w rest other others)

no_words_judged : Judged []
unfolding walk_fault defaults_fault
no_words_judged = by_fault [] kind.MissingSubcommand [] refl refl

-- the word is the name, or it differs
decided : (w n : Text) → (w ≡ n) ⊎ ((bytes_eq w n ≡ false) × (bytes_eq n w ≡ false))
decided w n = by (bytes_eq w n) refl (bytes_eq n w) refl
  where
    by : (a : Bool) → bytes_eq w n ≡ a → (b : Bool) → bytes_eq n w ≡ b → (w ≡ n) ⊎ ((bytes_eq w n ≡ false) × (bytes_eq n w ≡ false))
    by true e b f = inl ((bytes_eq-Decides w n).0 e)
    by false e true f = inl (sym ((bytes_eq-Decides n w).0 f))
    by false e false f = inr (e, f)

pub judged : (words : List Text) → list_any is_option words ≡ false → Judged words
judged [] plain = no_words_judged
judged (w ∷ rest) plain =
    let a = neither _ _ plain in
    elim (decided w (codes "record")) [
      | inl e ↦ subst (λ n. Judged (n ∷ rest)) (sym e) (files_judged (codes "record") Sh.Record enters_record refl refl refl refl refl rest a.1)
      | inr record_no ↦ elim (decided w (codes "run")) [
        | inl e ↦ subst (λ n. Judged (n ∷ rest)) (sym e) (files_judged (codes "run") Sh.Writes enters_run refl refl refl refl refl rest a.1)
        | inr run_no ↦ elim (decided w (codes "why")) [
          | inl e ↦ subst (λ n. Judged (n ∷ rest)) (sym e) (files_judged (codes "why") Sh.Report enters_why refl refl refl refl refl rest a.1)
          | inr why_no ↦ elim (decided w (codes "print")) [
            | inl e ↦ subst (λ n. Judged (n ∷ rest)) (sym e) (program_judged (codes "print") As.Canonical enters_print refl refl refl refl rest a.1)
            | inr print_no ↦ elim (decided w (codes "code")) [
              | inl e ↦ subst (λ n. Judged (n ∷ rest)) (sym e) (program_judged (codes "code") As.Listing enters_code refl refl refl refl rest a.1)
              | inr code_no ↦ elim (decided w (codes "ring")) [
                | inl e ↦ subst (λ n. Judged (n ∷ rest)) (sym e) (ring_judged rest a.1)
                | inr ring_no ↦ elim (decided w (codes "convert")) [
                  | inl e ↦ subst (λ n. Judged (n ∷ rest)) (sym e) (convert_judged rest a.1)
                  | inr convert_no ↦ elim (decided w (codes "check")) [
                    | inl e ↦ subst (λ n. Judged (n ∷ rest)) (sym e) (check_judged rest a.1)
                    | inr check_no ↦ elim (decided w (codes "build")) [
                      | inl e ↦ subst (λ n. Judged (n ∷ rest)) (sym e) (program_judged (codes "build") As.File enters_build refl refl refl refl rest a.1)
                      | inr build_no ↦ elim (decided w (codes "load")) [
                        | inl e ↦ subst (λ n. Judged (n ∷ rest)) (sym e) (load_judged rest a.1)
                        | inr load_no ↦ no_name_judged w rest (record {
                          shows = rw (record_no.0, run_no.0, why_no.0) refl;
                          asks = rw (print_no.0, code_no.0, build_no.0) refl;
                          rings = ring_no.0;
                          converts = convert_no.0;
                          checks = check_no.0;
                          loads = load_no.0;
                          met = rw (record_no.1, run_no.1, why_no.1, print_no.1, code_no.1, ring_no.1, convert_no.1, check_no.1, build_no.1, load_no.1) refl;
                        }) a.0 a.1
                      ]
                    ]
                  ]
                ]
              ]
            ]
          ]
        ]
      ]
    ]

-- the command line is one of which `clap` gives the matches and the faults

pub pool_is_simple : is_simple pool_app ≡ true
unfolding clap_on_literals
pool_is_simple = refl

pub pool_is_free : is_simple_and_free pool_app ≡ true
unfolding clap_on_literals
pool_is_free = refl
