-- No configuration comes after an impossible line. The text of the lines so far, with the next one.
use Rattle.std.proofs.Common.{◌≡◌, refl, sym, ap, ◌∙◌, ℕ, zero, suc, ◌+◌, ◌<◌, List, ◌∷◌, ◌++◌, length, get_or, drop, Some, None, replicate, append_assoc, append-nil, arith}
use Rattle.std.proofs.lemmas.List.{at_drop_more}
use Rattle.text_scan.specs.Text.{Text}
use Rattle.run_types.specs.declared.types.Label.{Label}
use Rattle.run_types.specs.declared.types.Line.{Line}
use Rattle.run_types.specs.declared.verdicts.Redex.{Redex}
use Rattle.run_types.specs.Partial.{◌>>=◌}
use Rattle.pool_syntax.specs.Terms.{ProgramTree}
use Rattle.pool_relation.specs.Configuration.{Configuration}
use Rattle.pool_relation.specs.Transition.{run, transition}
use Rattle.mesh_semantics.specs.Record.{labels_of}
use Rattle.record_check.specs.Verdicts.{StopsLine}
use Rattle.run_types.proofs.Laws.{same_some, given_by}
use Rattle.term_text.specs.Watched.{followed_text, shown_change, told_line}
use Rattle.watch_text.specs.Steps.{step_text}

-- more of a label than are possible lead nowhere
none_more : (p : ProgramTree) (lab : Label) (made times : ℕ) (c d : Configuration) → made < times → run p c (replicate made lab) ≡ Some d → transition p d lab ≡ None → run p c (replicate times lab) ≡ None
none_more p lab zero zero c d less leads not = absurd (omega (arith, less))
none_more p lab zero (suc n) c d less leads not = ap (λ o. o >>= λ z. run p z (replicate n lab)) (ap (λ z. transition p z lab) (same_some leads) ∙ not)
none_more p lab (suc m) zero c d less leads not = absurd (omega (arith, less))
none_more p lab (suc m) (suc n) c d less leads not =
    let a = given_by (transition p c lab) (λ z. run p z (replicate m lab)) d leads in
    ap (λ o. o >>= λ z. run p z (replicate n lab)) a.1 ∙ none_more p lab m n a.0 d (omega (arith, less)) a.2 not

pub stops_none : (p : ProgramTree) (c : Configuration) (l : Line) (n : ℕ) (d : Configuration) (redex : Redex) → StopsLine p c l n d redex → run p c (labels_of l) ≡ None
stops_none p c l n d redex s =
    ap (λ x. run p c (labels_of x)) s.is ∙ none_more p s.label s.stops.made s.times c d s.stops.fewer s.stops.leads s.stops.impossible

-- the text of a possible line, and of an impossible one
pub step_leads : (names : List Text) (p : ProgramTree) (c d : Configuration) (l : Line) → run p c (labels_of l) ≡ Some d → step_text names p c l ≡ told_line names l ++ shown_change names p l d
step_leads names p c d l e = rw e refl

pub step_stops : (names : List Text) (p : ProgramTree) (c : Configuration) (l : Line) → run p c (labels_of l) ≡ None → step_text names p c l ≡ told_line names l
step_stops names p c l e = rw e (append-nil (told_line names l))

-- the text of lines, by the first of them
pub followed_leads : (names : List Text) (p : ProgramTree) (c d : Configuration) (l : Line) (ls : List Line) → run p c (labels_of l) ≡ Some d
    → followed_text names p c (l ∷ ls) ≡ step_text names p c l ++ followed_text names p d ls
followed_leads names p c d l ls e = rw e (sym (append_assoc (told_line names l) (shown_change names p l d) (followed_text names p d ls)))

pub followed_stops : (names : List Text) (p : ProgramTree) (c : Configuration) (l : Line) (ls : List Line) → run p c (labels_of l) ≡ None
    → followed_text names p c (l ∷ ls) ≡ step_text names p c l
followed_stops names p c l ls e = rw e refl

-- a possible line was appended
pub followed_put : (names : List Text) (p : ProgramTree) (c d : Configuration) (line : Line) (xs : List Line) (i : ℕ) (now new whole : Text) → i < length xs → line ≡ get_or xs i line
    → run p c (labels_of line) ≡ Some d → new ≡ now ++ step_text names p c line → now ++ followed_text names p c (drop i xs) ≡ whole → new ++ followed_text names p d (drop (i + 1) xs) ≡ whole
followed_put names p c d line xs i now new whole within at leads put before =
    let rest = drop (i + 1) xs in
    ap (λ t. t ++ followed_text names p d rest) put
    ∙ append_assoc now (step_text names p c line) (followed_text names p d rest)
    ∙ ap (λ t. now ++ t) (sym (followed_leads names p c d line rest leads))
    ∙ ap (λ y. now ++ followed_text names p c (y ∷ rest)) at
    ∙ ap (λ t. now ++ t) (sym (at_drop_more (λ ys. followed_text names p c ys) xs i line within))
    ∙ before

-- an impossible line was appended
pub followed_cut : (names : List Text) (p : ProgramTree) (c : Configuration) (line : Line) (xs : List Line) (i : ℕ) (now new whole : Text) → i < length xs → line ≡ get_or xs i line
    → run p c (labels_of line) ≡ None → new ≡ now ++ step_text names p c line → now ++ followed_text names p c (drop i xs) ≡ whole → new ≡ whole
followed_cut names p c line xs i now new whole within at stops put before =
    let rest = drop (i + 1) xs in
    put
    ∙ ap (λ t. now ++ t) (sym (followed_stops names p c line rest stops))
    ∙ ap (λ y. now ++ followed_text names p c (y ∷ rest)) at
    ∙ ap (λ t. now ++ t) (sym (at_drop_more (λ ys. followed_text names p c ys) xs i line within))
    ∙ before
