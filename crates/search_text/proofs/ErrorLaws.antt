-- The lines of the run-time errors of a run, part by part.
use Rattle.std.proofs.Common.{◌≡◌, ℕ, zero, suc, List, [], ◌++◌, cond, replicate, true, false, refl, ap}
use Rattle.text_scan.specs.Text.{Text}
use Rattle.run_types.specs.declared.types.Label.{Label}
use Rattle.run_types.specs.declared.types.Label.TheVariants as L
use Rattle.label_list.specs.declared.part.Part.{Part}
use Rattle.label_list.specs.declared.part.Part.TheVariants as P
use Rattle.label_list.specs.Parts.{label_of, labels_of}
use Rattle.search_text.specs.AnswerText.{error_line, errors_text, is_error}

of_locals : (names : List Text) (n o : ℕ) (rest : List Label) → errors_text names (replicate n (L.Local o) ++ rest) ≡ errors_text names rest
of_locals names zero o rest = refl
of_locals names (suc n) o rest = of_locals names n o rest

-- a part that is no error has no line
pub no_error : (names : List Text) (p : Part) (rest : List Label) → is_error (label_of p) ≡ false → errors_text names (labels_of p ++ rest) ≡ errors_text names rest
no_error names (P.Local o n) rest h = of_locals names n o rest
no_error names (P.Other l) rest h = ap (λ b. cond b (error_line names l) [] ++ errors_text names rest) h

-- an error has one
pub an_error : (names : List Text) (p : Part) (rest : List Label) → is_error (label_of p) ≡ true → errors_text names (labels_of p ++ rest) ≡ error_line names (label_of p) ++ errors_text names rest
an_error names (P.Local o n) rest h = absurd (let z : false ≡ true = h in cc)
an_error names (P.Other l) rest h = ap (λ b. cond b (error_line names l) [] ++ errors_text names rest) h
