-- The text of lines is that of the first of them, and then that of the others from the configuration to which the first lead.
use Rattle.std.proofs.Common.{◌≡◌, refl, sym, ap, ◌∙◌, List, [], ◌∷◌, ◌++◌, Some, append_assoc}
use Rattle.text_scan.specs.Text.{Text}
use Rattle.run_types.specs.declared.types.Line.{Line}
use Rattle.run_types.specs.declared.types.Label.{Label}
use Rattle.pool_syntax.specs.Terms.{ProgramTree}
use Rattle.pool_relation.specs.Configuration.{Configuration}
use Rattle.pool_relation.specs.Transition.{run, transition}
use Rattle.mesh_semantics.specs.Record.{labels, labels_of}
use Rattle.run_types.specs.Partial.{◌>>=◌}
use Rattle.run_types.proofs.Laws.{given_by, same_some}
use Rattle.term_text.specs.Watched.{followed_text, shown_change, told_line}

-- a run of two lists of labels passes through a configuration
pub through : (p : ProgramTree) (c d : Configuration) (ls ms : List Label) → run p c (ls ++ ms) ≡ Some d → (b : Configuration) × (run p c ls ≡ Some b) × (run p b ms ≡ Some d)
through p c d [] ms e = (c, refl, e)
through p c d (l ∷ ls) ms e =
    let a = given_by (transition p c l) _ d e in
    let rest = through p a.0 d ls ms a.2 in
    (rest.0, ap (λ o. o >>= λ z. run p z ls) a.1 ∙ rest.1, rest.2)

pub followed_split : (names : List Text) (p : ProgramTree) (c d : Configuration) (front rest : List Line) → run p c (labels front) ≡ Some d
    → followed_text names p c (front ++ rest) ≡ followed_text names p c front ++ followed_text names p d rest
followed_split names p c d [] rest e = ap (λ z. followed_text names p z rest) (same_some e)
followed_split names p c d (l ∷ ls) rest e =
    let a = through p c d (labels_of l) (labels ls) e in
    let head = told_line names l in
    let shown = shown_change names p l a.0 in
    let more = followed_split names p a.0 d ls rest a.2 in
    rw a.1 (ap (λ t. head ++ (shown ++ t)) more
    ∙ ap (λ t. head ++ t) (sym (append_assoc shown (followed_text names p a.0 ls) (followed_text names p d rest)))
    ∙ sym (append_assoc head (shown ++ followed_text names p a.0 ls) (followed_text names p d rest)))
