-- The content of a line of a record that words represent.
use Rattle.std.specs.Prelude.{ℕ, List, [], ◌∷◌, Option, Some, None, true, false, bytes_eq, codes}
use Rattle.std.specs.Option.{option_or}
use Rattle.text_scan.specs.Text.{Text}
use Rattle.run_types.specs.declared.types.NameId.{NameId}
use Rattle.run_types.specs.declared.types.Value.{Value}
use Rattle.run_types.specs.declared.types.Item.TheVariants as I
use Rattle.run_types.specs.declared.types.Label.{Label}
use Rattle.run_types.specs.declared.types.Label.TheVariants as L
use Rattle.run_types.specs.declared.types.What.{What}
use Rattle.run_types.specs.declared.types.What.TheVariants as W
use Rattle.record_parser.specs.declared.shown.Message.{Message}
use Rattle.record_parser.specs.declared.shown.Message.TheVariants as M
use Rattle.record_writer.specs.RecordText.{joined}
use Rattle.record_parser.specs.Fields.{begins_with, count_of, error_of, name_of_word, object_of, positive_of, string_of, value_of, values_within}
use Rattle.run_types.specs.Partial.{only_if, ◌>>=◌}

-- the content of a line with 0 as the number of its name, and the text of the name, if it has one
pub record Shown : Type 0 where
  pub what : What
  pub text : Option Text

-- the number 0, used instead of the number of a name
abbrev pub no_number : NameId
no_number = record { 0 = 0 }

abbrev pub plain : What → Option Shown
plain what = Some (record { what = what; text = None })

abbrev pub named : What → Text → Option Shown
named what text = Some (record { what = what; text = Some text })

abbrev pub once : Label → What
once label = W.Step label 1

-- exactly two words, exactly three words, at least three words
abbrev pub for_two : {A : Type 0} → List Text → (Text → Text → Option A) → Option A
for_two [] f = None
for_two (a ∷ []) f = None
for_two (a ∷ b ∷ []) f = f a b
for_two (a ∷ b ∷ c ∷ ws) f = None

abbrev pub for_three : {A : Type 0} → List Text → (Text → Text → Text → Option A) → Option A
for_three [] f = None
for_three (a ∷ []) f = None
for_three (a ∷ b ∷ []) f = None
for_three (a ∷ b ∷ c ∷ []) f = f a b c
for_three (a ∷ b ∷ c ∷ d ∷ ws) f = None

abbrev pub for_more : {A : Type 0} → List Text → (Text → Text → Text → List Text → Option A) → Option A
for_more [] f = None
for_more (a ∷ []) f = None
for_more (a ∷ b ∷ []) f = None
for_more (a ∷ b ∷ c ∷ ws) f = f a b c ws

-- two objects, and the rest
abbrev pub of_pair : {A : Type 0} → Text → Text → (ℕ → ℕ → Option A) → Option A
of_pair a b f = object_of a >>= λ o. object_of b >>= λ p. f o p

-- the message of this kind between two objects, with its arguments
abbrev pub making : Message → ℕ → ℕ → List Value → What
making M.Answer p o vs = once (L.Answer p o no_number vs)
making M.Send o p vs = once (L.Send o p no_number vs)
making M.Take p o vs = once (L.Take p o no_number vs)
making M.PostCall o p vs = W.PostCall o p no_number vs

-- a message: two objects, a method, and at most 8 values
abbrev pub message_from : Message → Text → Text → Text → List Text → Option Shown
message_from kind a b m args =
    of_pair a b (λ o p. name_of_word m >>= λ text. values_within 8 args >>= λ vs. named (making kind o p vs) text)

abbrev pub message_of : Message → List Text → Option Shown
message_of kind ws = for_more ws (message_from kind)

abbrev pub local_of : List Text → Option Shown
local_of ws = for_two ws (λ a k. object_of a >>= λ o. positive_of k >>= λ n. plain (W.Step (L.Local o) n))

abbrev pub new_of : List Text → Option Shown
new_of ws = for_three ws (λ a b c. of_pair a b (λ o p. name_of_word c >>= λ text. named (once (L.New o p no_number)) text))

abbrev pub return_of : List Text → Option Shown
return_of ws = for_three ws (λ a b c. of_pair a b (λ p o. value_of c >>= λ v. plain (once (L.Return p o v))))

-- a string in quotes is the whole rest; else the rest is a value
abbrev pub item_of : ℕ → Text → Option Shown
item_of o left = elim (begins_with 34 left) [
  | true ↦ string_of left >>= λ text. named (once (L.Write o (I.Text no_number))) text
  | false ↦ value_of left >>= λ v. plain (once (L.Write o (I.Value v)))
]

abbrev pub item_for : ℕ → List Text → Option Shown
item_for o [] = None
item_for o (b ∷ ws) = item_of o (joined (b ∷ ws))

abbrev pub write_of : List Text → Option Shown
write_of [] = None
write_of (a ∷ ws) = object_of a >>= λ o. item_for o ws

abbrev pub pick_of : List Text → Option Shown
pick_of ws = for_two ws (λ a k. object_of a >>= λ o. positive_of k >>= λ n. plain (once (L.Pick o n)))

abbrev pub fault_of : List Text → Option Shown
fault_of ws = for_two ws (λ a k. object_of a >>= λ o. error_of k >>= λ e. plain (once (L.Fault o e)))

abbrev pub create_of : List Text → Option Shown
create_of ws =
    for_three ws (λ a c n. object_of a >>= λ o. name_of_word c >>= λ text. count_of n >>= λ node. named (W.PostCreate o no_number node) text)

-- `create O C N` and `call O P m args`
abbrev pub post_by : Text → List Text → Option Shown
post_by w ws = elim (bytes_eq w (codes "call")) [ true ↦ message_of M.PostCall ws | false ↦ only_if (bytes_eq w (codes "create")) (create_of ws) ]

abbrev pub post_of : List Text → Option Shown
post_of [] = None
post_of (w ∷ []) = None
post_of (w ∷ v ∷ ws) = post_by w (v ∷ ws)

abbrev pub arrive_of : List Text → Option Shown
arrive_of ws = for_three ws (λ a b m. of_pair a b (λ o p. name_of_word m >>= λ text. named (W.Arrive o p no_number) text))

abbrev pub created_of : List Text → Option Shown
created_of ws = for_two ws (λ a b. of_pair a b (λ o p. plain (W.Created o p)))

abbrev pub result_of : List Text → Option Shown
result_of ws = for_two ws (λ a b. object_of a >>= λ o. value_of b >>= λ v. plain (W.Result o v))

-- a transition, by its first word
abbrev pub step_of : Text → List Text → Option Shown
step_of w ws = elim (bytes_eq w (codes "local")) [
  | true ↦ local_of ws
  | false ↦ elim (bytes_eq w (codes "new")) [
    | true ↦ new_of ws
    | false ↦ elim (bytes_eq w (codes "answer")) [
      | true ↦ message_of M.Answer ws
      | false ↦ elim (bytes_eq w (codes "return")) [
        | true ↦ return_of ws
        | false ↦ elim (bytes_eq w (codes "send")) [
          | true ↦ message_of M.Send ws
          | false ↦ elim (bytes_eq w (codes "take")) [
            | true ↦ message_of M.Take ws
            | false ↦ elim (bytes_eq w (codes "write")) [
              | true ↦ write_of ws
              | false ↦ elim (bytes_eq w (codes "pick")) [ true ↦ pick_of ws | false ↦ only_if (bytes_eq w (codes "fault")) (fault_of ws) ]
            ]
          ]
        ]
      ]
    ]
  ]
]

-- one count
abbrev pub only_count : List Text → Option ℕ
only_count [] = None
only_count (a ∷ []) = count_of a
only_count (a ∷ b ∷ ws) = None

-- the content of a line about a frame, by its first word
abbrev pub frame_of : Text → List Text → Option Shown
frame_of w ws = elim (bytes_eq w (codes "frame")) [
  | true ↦ only_count ws >>= λ n. plain (W.Frame n)
  | false ↦ elim (bytes_eq w (codes "lost")) [
    | true ↦ only_count ws >>= λ n. plain (W.Lost n)
    | false ↦ elim (bytes_eq w (codes "stale")) [
      | true ↦ only_count ws >>= λ n. plain (W.Stale n)
      | false ↦ elim (bytes_eq w (codes "acked")) [
        | true ↦ only_count ws >>= λ n. plain (W.Acked n)
        | false ↦ only_if (bytes_eq w (codes "late")) (only_count ws >>= λ n. plain (W.Late n))
      ]
    ]
  ]
]

-- the content of a line that shows no transition, by its first word
abbrev pub delay_of : Text → List Text → Option Shown
delay_of w ws = elim (bytes_eq w (codes "post")) [
  | true ↦ post_of ws
  | false ↦ elim (bytes_eq w (codes "arrive")) [
    | true ↦ arrive_of ws
    | false ↦ elim (bytes_eq w (codes "created")) [
      | true ↦ created_of ws
      | false ↦ elim (bytes_eq w (codes "result")) [ true ↦ result_of ws | false ↦ frame_of w ws ]
    ]
  ]
]

abbrev pub shown_by : Text → List Text → Option Shown
shown_by w ws = option_or (step_of w ws) (delay_of w ws)

abbrev pub what_of : List Text → Option Shown
what_of [] = None
what_of (w ∷ []) = elim (bytes_eq w (codes "pass")) [ true ↦ plain W.Pass | false ↦ only_if (bytes_eq w (codes "idle")) (plain W.Idle) ]
what_of (w ∷ v ∷ ws) = shown_by w (v ∷ ws)
