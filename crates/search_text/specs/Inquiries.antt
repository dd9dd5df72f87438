-- The inquiry that a question of the code stands for.
use Rattle.std.specs.Prelude.{map, string_bytes}
use Rattle.search_text.specs.Answers.{Inquiry, of_grade, of_outcome, of_outcomes, of_query}
use Rattle.search_text.specs.declared.answers.Question.{Question}
use Rattle.search_text.specs.declared.answers.Question.TheVariants as Q

-- the question, with outputs as texts
abbrev pub inquiry : Question → Inquiry
inquiry (Q.Sought q) = of_query q
inquiry (Q.Outcomes most) = of_outcomes most
inquiry (Q.Run place most) = of_outcome place most
inquiry (Q.Graded allowed may_run_on most) = of_grade (map string_bytes allowed.now) may_run_on most
