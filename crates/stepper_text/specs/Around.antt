-- The text around the part of an expression that is under evaluation, by the stepper's contexts.
use Rattle.std.specs.Prelude.{ℕ, List, [], ◌∷◌, ◌++◌, if◌then◌else◌, nat_le, codes}
use Rattle.text_scan.specs.Text.{Text}
use Rattle.run_types.specs.Table.{text_at}
use Rattle.pool_syntax.specs.TreeOf.{expression_of, expressions_of}
use Rattle.pool_printer.specs.Canonical.{left_need, operator_level, right_need}
use Rattle.term_text.specs.Words.{operator_text, arguments_text, called, more_arguments, text_in, word}
use Rattle.record_writer.specs.RecordText.{led, value_text}
use Rattle.stepper_terms.specs.declared.contexts.Operand.{Operand}
use Rattle.stepper_terms.specs.declared.contexts.ExpressionContext.{ExpressionContext}
use Rattle.stepper_terms.specs.declared.contexts.ExpressionContext.TheVariants as P

-- the parenthesis before a part of this level, if the place requires a higher one
abbrev pub opened : ℕ → ℕ → Text
opened need level = if nat_le need level then [] else word (codes "(")

-- the parenthesis after it
abbrev pub closed : ℕ → ℕ → Text
closed need level = if nat_le need level then [] else word (codes ")")

-- an evaluated value
abbrev pub operand_text : Operand → Text
operand_text v = word (value_text v.value)

-- evaluated arguments, a comma after each
abbrev pub done_arguments : List Operand → Text
done_arguments [] = []
done_arguments (v ∷ vs) = operand_text v ++ (word (codes ",") ++ done_arguments vs)

-- the text before a part of this level
abbrev pub before : List Text → ExpressionContext → ℕ → Text
before names (P.Prefix op p) l = word (operator_text op) ++ opened 6 l
before names (P.Left op r p) l = opened (left_need op) l
before names (P.Right op v p) l = operand_text v ++ (word (operator_text op) ++ opened (right_need op) l)
before names (P.CallArgument m vs es p) l = led (text_at names m.0 ∷ codes "(" ∷ []) ++ done_arguments vs.items
before names (P.Destination m es p) l = opened 7 l
before names (P.SendArgument to m vs es p) l =
    operand_text to ++ (led (codes "!" ∷ text_at names m.0 ∷ codes "(" ∷ []) ++ done_arguments vs.items)

-- the text after it
abbrev pub after : List Text → ExpressionContext → ℕ → Text
after names (P.Prefix op p) l = closed 6 l
after names (P.Left op r p) l = closed (left_need op) l ++ (word (operator_text op) ++ text_in names (right_need op) (expression_of r.now))
after names (P.Right op v p) l = closed (right_need op) l
after names (P.CallArgument m vs es p) l = more_arguments names (expressions_of es.now) ++ word (codes ")")
after names (P.Destination m es p) l = closed 7 l ++ (word (codes "!") ++ called names m.0 (arguments_text names (expressions_of es.now)))
after names (P.SendArgument to m vs es p) l = more_arguments names (expressions_of es.now) ++ word (codes ")")

-- the level of the whole expression
abbrev pub place_level : ExpressionContext → ℕ
place_level (P.Prefix op p) = 6
place_level (P.Left op r p) = operator_level op
place_level (P.Right op v p) = operator_level op
place_level (P.CallArgument m vs es p) = 8
place_level (P.Destination m es p) = 7
place_level (P.SendArgument to m vs es p) = 7

-- the level of the whole, for a part of this level in these contexts, the innermost last
abbrev pub nested_level : List ExpressionContext → ℕ → ℕ
nested_level [] l = l
nested_level (k ∷ ks) l = place_level k

-- the text before it in all of them
abbrev pub befores : List Text → List ExpressionContext → ℕ → Text
befores names [] l = []
befores names (k ∷ ks) l = before names k (nested_level ks l) ++ befores names ks l

-- the text after it in all of them
abbrev pub afters : List Text → List ExpressionContext → ℕ → Text
afters names [] l = []
afters names (k ∷ ks) l = afters names ks l ++ after names k (nested_level ks l)
