-- The commands of `explore`, and the arguments of the command line that are each of them.
use Rattle.std.specs.Prelude.{ℕ, List, [], ◌∷◌, ◌&&◌, ◌||◌, nat_eq, nat_le, Option, Some, None, option_map, option_and_then, Bool, true, false, if◌then◌else◌, bytes_eq, codes, map, string_bytes, String}
use Rattle.text_scan.specs.Text.{Text}
use Rattle.text_scan.specs.Lines.{decimal_of}
use Rattle.text_scan.specs.declared.spans.Decimal.{Decimal}
use Rattle.text_scan.specs.declared.spans.Decimal.TheVariants as Number
use Rattle.pool_search.specs.declared.queries.Target.{Target}
use Rattle.pool_search.specs.declared.queries.Target.TheVariants as W
use Rattle.search_text.specs.Answers.{Inquiry, of_grade, of_outcome, of_outcomes, of_query}
use Rattle.explore_driver.specs.declared.words.Shown.{Shown}
use Rattle.explore_driver.specs.declared.words.Shown.TheVariants as Sh

-- A command: a search of the program of this name; the record of this name, shown as a run of the program; the record
-- with local transitions filled in; or the stream of this name, followed as a run of
-- the program, with local transitions filled in or without.
pub data Request : Type 0 where
  of_search : (question : Inquiry) (name : Text) → Request
  of_watch : (shown : Shown) (name record_name : Text) → Request
  of_fill : (name record_name : Text) → Request
  of_follow : (fills : Bool) (name stream_name : Text) → Request

-- an argument that begins with `-` is not a name
abbrev pub is_dashed : Text → Bool
is_dashed [] = false
is_dashed (b ∷ bs) = nat_eq b 45

-- the kind of run that a search looks for
abbrev pub wanted_of : Text → Option Target
wanted_of w = if bytes_eq w (codes "stuck") then Some W.Stuck else (if bytes_eq w (codes "fault") then Some W.Fault else None)

-- a bound from 1 to 10,000,000
abbrev pub most_of : Decimal → Option ℕ
most_of Number.NotDigits = None
most_of Number.TooLarge = None
most_of (Number.Value k) = if nat_le 1 k && nat_le k 10000000 then Some k else None

-- the bound where N is left out
abbrev pub default_most : Text
default_most = codes "1000000"

-- a word that begins with a digit
abbrev pub is_numeric : Text → Bool
is_numeric [] = false
is_numeric (b ∷ bs) = nat_le 48 b && nat_le b 57

abbrev pub search_for : Target → Bool → Text → Text → Option Request
search_for wanted all name n =
    if is_dashed name then None
    else option_map (λ most. of_search (of_query (record { wanted = wanted; all = all; most = most })) name) (most_of (decimal_of n))

-- the search for all outcomes
abbrev pub outcomes_for : Text → Text → Option Request
outcomes_for name n = if is_dashed name then None else option_map (λ most. of_search (of_outcomes most) name) (most_of (decimal_of n))

-- the search for a run with the outcome at this place, from 1 to 10,000,000
abbrev pub run_for : Text → Text → Text → Option Request
run_for j name n =
    if is_dashed name then None
    else option_and_then (λ place. option_map (λ most. of_search (of_outcome place most) name) (most_of (decimal_of n))) (most_of (decimal_of j))

-- `all`, `writes`, or a kind of run
abbrev pub search_by : Text → Text → Text → Option Request
search_by a name n =
    if bytes_eq a (codes "all") then search_for W.Both true name n
    else if bytes_eq a (codes "writes") then outcomes_for name n
    else option_and_then (λ wanted. search_for wanted false name n) (wanted_of a)

-- `run` and the place of an outcome, or a kind of run and `all`
abbrev pub search_with : Text → Text → Text → Text → Option Request
search_with a b name n =
    if bytes_eq a (codes "run") then run_for b name n
    else if bytes_eq b (codes "all") then option_and_then (λ wanted. search_for wanted true name n) (wanted_of a)
    else None

-- `stuck` or `fault`, or neither for both, and then `all`, which is optional; or `writes`; or `run` and the place of an
-- outcome. Then the name of a file, and a bound, which is optional: the last of several words, if it begins with a digit.
abbrev pub search_of : List Text → Option Request
search_of [] = None
search_of (a ∷ []) = search_for W.Both false a default_most
search_of (a ∷ b ∷ []) = if is_numeric b then search_for W.Both false a b else search_by a b default_most
search_of (a ∷ b ∷ c ∷ []) = if is_numeric c then search_by a b c else search_with a b c default_most
search_of (a ∷ b ∷ c ∷ d ∷ []) = search_with a b c d
search_of (a ∷ b ∷ c ∷ d ∷ e ∷ ws) = None

-- the name of a file, a bound, and the outputs that are allowed
abbrev pub graded_of : Bool → List Text → Option Request
graded_of may_run_on (name ∷ n ∷ allowed) = if is_dashed name then None else option_map (λ most. of_search (of_grade allowed may_run_on most) name) (most_of (decimal_of n))
graded_of may_run_on _ = None

-- `--may-run-on`, which is optional, and then these
abbrev pub grade_of : List Text → Option Request
grade_of [] = None
grade_of (w ∷ ws) = if bytes_eq w (codes "--may-run-on") then graded_of true ws else graded_of false (w ∷ ws)

-- the lines from the first number up to the last
abbrev pub lines_of : Text → Text → Decimal → Decimal → Option Request
lines_of name record_name (Number.Value first) (Number.Value last) = if nat_le 1 first && nat_le first last then Some (of_watch (Sh.Lines first last) name record_name) else None
lines_of name record_name _ _ = None

-- the names of a program and a record
abbrev pub pair_of : (Text → Text → Request) → List Text → Option Request
pair_of made (name ∷ record_name ∷ []) = if is_dashed name || is_dashed record_name then None else Some (made name record_name)
pair_of made _ = None

-- the names of a program and a record; then the numbers of two lines, which are optional
abbrev pub watch_of : List Text → Option Request
watch_of [] = None
watch_of (a ∷ []) = None
watch_of (name ∷ record_name ∷ []) = pair_of (of_watch Sh.Whole) (name ∷ record_name ∷ [])
watch_of (a ∷ b ∷ c ∷ []) = None
watch_of (name ∷ record_name ∷ first ∷ last ∷ []) =
    if is_dashed name || is_dashed record_name then None else lines_of name record_name (decimal_of first) (decimal_of last)
watch_of (a ∷ b ∷ c ∷ d ∷ e ∷ ws) = None

-- the standard input, by its name as a file
abbrev pub standard_input : Text
standard_input = codes "/dev/stdin"

-- the names of a program and a stream; without the second the stream is the standard input
abbrev pub followed_of : Bool → List Text → Option Request
followed_of fills (name ∷ []) = pair_of (of_follow fills) (name ∷ standard_input ∷ [])
followed_of fills ws = pair_of (of_follow fills) ws

-- `--fill`, which is optional, and then these
abbrev pub follow_of : List Text → Option Request
follow_of [] = None
follow_of (w ∷ ws) = if bytes_eq w (codes "--fill") then followed_of true ws else followed_of false (w ∷ ws)

-- the command of this word, with the arguments after it
abbrev pub command_of : Text → List Text → Option Request
command_of c ws =
    if bytes_eq c (codes "search") then search_of ws
    else if bytes_eq c (codes "grade") then grade_of ws
    else if bytes_eq c (codes "watch") then watch_of ws
    else if bytes_eq c (codes "waits") then pair_of (of_watch Sh.Waits) ws
    else if bytes_eq c (codes "fill") then pair_of of_fill ws
    else if bytes_eq c (codes "follow") then follow_of ws
    else None

-- the command that the first argument names
abbrev pub request_of : List Text → Option Request
request_of [] = None
request_of (c ∷ ws) = command_of c ws

-- the arguments as texts
abbrev pub texts_of : {A : Type 0} → List (String A) → List Text
texts_of words = map string_bytes words
