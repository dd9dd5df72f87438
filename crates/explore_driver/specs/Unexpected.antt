-- The first argument that fits nowhere, where the arguments are not a command; and the usage text, which names it.
use Rattle.std.specs.Prelude.{ℕ, List, [], ◌∷◌, ◌++◌, nat_le, Option, Some, None, if◌then◌else◌, bytes_eq, codes}
use Rattle.std.specs.Option.{option_or}
use Rattle.text_scan.specs.Text.{Text}
use Rattle.text_scan.specs.Lines.{decimal_of}
use Rattle.text_scan.specs.declared.spans.Decimal.{Decimal}
use Rattle.text_scan.specs.declared.spans.Decimal.TheVariants as Number
use Rattle.pool_search.specs.declared.queries.Target.{Target}
use Rattle.explore_driver.specs.Words.{is_dashed, is_numeric, most_of, wanted_of}

-- Each of these gives the word, if it does not fit: where a name is due, a number from 1 to 10,000,000, a kind of run, the
-- word of a question, or `all`.

abbrev pub no_name : Text → Option Text
no_name w = if is_dashed w then Some w else None

abbrev pub unless_number : Text → Option ℕ → Option Text
unless_number w None = Some w
unless_number w (Some k) = None

abbrev pub no_number : Text → Option Text
no_number w = unless_number w (most_of (decimal_of w))

abbrev pub unless_kind : Text → Option Target → Option Text
unless_kind w None = Some w
unless_kind w (Some kind) = None

abbrev pub no_question : Text → Option Text
no_question w = if bytes_eq w (codes "all") then None else if bytes_eq w (codes "writes") then None else unless_kind w (wanted_of w)

abbrev pub no_all : Text → Option Text
no_all w = if bytes_eq w (codes "all") then None else Some w

-- the number of a line, which is at least this one
abbrev pub no_line : Text → ℕ → Decimal → Option Text
no_line w least (Number.Value k) = if nat_le least k then None else Some w
no_line w least Number.NotDigits = Some w
no_line w least Number.TooLarge = Some w

-- the last line, no earlier than the first
abbrev pub no_last : Decimal → Text → Option Text
no_last (Number.Value first) w = no_line w first (decimal_of w)
no_last Number.NotDigits w = None
no_last Number.TooLarge w = None

-- two words of a search before N
abbrev pub in_two : Text → Text → Option Text
in_two a b = if bytes_eq a (codes "run") then no_number b else option_or (no_question a) (no_name b)

-- what may follow a kind of run: `all` and a name; nothing follows another question but a name
abbrev pub in_kind : Option Target → Text → Text → Option Text
in_kind None b c = Some b
in_kind (Some kind) b c = option_or (no_all b) (no_name c)

-- three words of a search before N
abbrev pub in_three : Text → Text → Text → Option Text
in_three a b c = if bytes_eq a (codes "run") then option_or (no_number b) (no_name c) else option_or (no_question a) (in_kind (wanted_of a) b c)

-- a word that begins with a digit stands for N, if it is the last of several
abbrev pub in_search : List Text → Option Text
in_search [] = None
in_search (a ∷ []) = no_name a
in_search (a ∷ b ∷ []) = if is_numeric b then option_or (no_name a) (no_number b) else in_two a b
in_search (a ∷ b ∷ c ∷ []) = if is_numeric c then option_or (in_two a b) (no_number c) else in_three a b c
in_search (a ∷ b ∷ c ∷ d ∷ []) = option_or (in_three a b c) (no_number d)
in_search (a ∷ b ∷ c ∷ d ∷ e ∷ ws) = option_or (in_three a b c) (option_or (no_number d) (Some e))

-- a name and a bound; each text may be an output
abbrev pub in_graded : List Text → Option Text
in_graded [] = None
in_graded (a ∷ []) = no_name a
in_graded (a ∷ b ∷ ws) = option_or (no_name a) (no_number b)

abbrev pub in_grade : List Text → Option Text
in_grade [] = None
in_grade (w ∷ ws) = if bytes_eq w (codes "--may-run-on") then in_graded ws else in_graded (w ∷ ws)

-- two names
abbrev pub in_pair : List Text → Option Text
in_pair [] = None
in_pair (a ∷ []) = no_name a
in_pair (a ∷ b ∷ []) = option_or (no_name a) (no_name b)
in_pair (a ∷ b ∷ c ∷ ws) = option_or (no_name a) (option_or (no_name b) (Some c))

-- `--fill`, which is optional, and two names
abbrev pub in_follow : List Text → Option Text
in_follow [] = None
in_follow (w ∷ ws) = if bytes_eq w (codes "--fill") then in_pair ws else in_pair (w ∷ ws)

-- two names and the numbers of two lines
abbrev pub in_lines : Text → Text → Text → Text → Option Text
in_lines a b c d = option_or (in_pair (a ∷ b ∷ [])) (option_or (no_line c 1 (decimal_of c)) (no_last (decimal_of c) d))

abbrev pub in_watch : List Text → Option Text
in_watch [] = None
in_watch (a ∷ []) = no_name a
in_watch (a ∷ b ∷ []) = in_pair (a ∷ b ∷ [])
in_watch (a ∷ b ∷ c ∷ []) = option_or (in_pair (a ∷ b ∷ [])) (no_line c 1 (decimal_of c))
in_watch (a ∷ b ∷ c ∷ d ∷ []) = in_lines a b c d
in_watch (a ∷ b ∷ c ∷ d ∷ e ∷ ws) = option_or (in_lines a b c d) (Some e)

abbrev pub in_command : Text → List Text → Option Text
in_command c ws =
    if bytes_eq c (codes "search") then in_search ws
    else if bytes_eq c (codes "grade") then in_grade ws
    else if bytes_eq c (codes "watch") then in_watch ws
    else if bytes_eq c (codes "waits") then in_pair ws
    else if bytes_eq c (codes "fill") then in_pair ws
    else if bytes_eq c (codes "follow") then in_follow ws
    else Some c

abbrev pub unexpected : List Text → Option Text
unexpected [] = None
unexpected (c ∷ ws) = in_command c ws

abbrev pub usage_line : Text
usage_line = codes "usage: explore search [stuck|fault] [all] P [N], explore search writes P [N], explore search run J P [N], explore grade [--may-run-on] P N [OUTPUT].., explore watch P R [A B], explore waits|fill P R, explore follow [--fill] P [R]\n"

abbrev pub question_line : Option Text → Text
question_line None = []
question_line (Some w) = codes "explore: what is " ++ w ++ codes "?\n"

-- the first line names the word that fits nowhere, if there is one
abbrev pub usage_text : List Text → Text
usage_text ws = question_line (unexpected ws) ++ usage_line
