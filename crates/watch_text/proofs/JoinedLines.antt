-- Lines that are followed one part after the other.
use Rattle.std.proofs.Common.{◌≡◌, sym, ap, ◌∙◌, ℕ, List, ◌∷◌, ◌++◌, Option, Some, None, append_assoc}
use Rattle.std.specs.Prelude.{IfNone}
use Rattle.run_types.specs.declared.types.Line.{Line}
use Rattle.run_types.specs.declared.verdicts.Redex.{Redex}
use Rattle.pool_syntax.specs.Terms.{ProgramTree}
use Rattle.pool_relation.specs.Configuration.{Configuration}
use Rattle.pool_relation.specs.Transition.{run}
use Rattle.pool_relation.proofs.Laws.{joined, none_joined}
use Rattle.mesh_semantics.specs.Record.{labels, labels_of}
use Rattle.record_check.specs.Verdicts.{StopsIn}
use Rattle.record_check.proofs.Laws.{labels_split}
use Rattle.watch_text.proofs.Stopping.{stops_none}

-- what follows from what holds of no value
pub IfNone_then : {A P Q : Type 0} (r : Option A) → (P → Q) → IfNone r P → IfNone r Q
IfNone_then None f h = f h
IfNone_then (Some x) f h = h

-- both parts are possible
pub leads_on : (p : ProgramTree) (c d e : Configuration) (xs ys : List Line) → run p c (labels xs) ≡ Some d → run p d (labels ys) ≡ Some e → run p c (labels (xs ++ ys)) ≡ Some e
leads_on p c d e xs ys h k = ap (run p c) (labels_split xs ys) ∙ (joined p c d (labels xs) (labels ys) h ∙ k)

-- a line of the second part is impossible
pub stops_late : (p : ProgramTree) (c d e : Configuration) (xs ys : List Line) (n : ℕ) (redex : Redex) → run p c (labels xs) ≡ Some d → StopsIn p d ys n e redex → StopsIn p c (xs ++ ys) n e redex
stops_late p c d e xs ys n redex h s =
    record {
      before = xs ++ s.before;
      line = s.line;
      behind = s.behind;
      whole = ap (λ zs. xs ++ zs) s.whole ∙ sym (append_assoc xs s.before (s.line ∷ s.behind));
      between = s.between;
      leads = leads_on p c d s.between xs s.before h s.leads;
      stops = s.stops;
    }

-- lines that stop lead nowhere
pub none_in : (p : ProgramTree) (c e : Configuration) (ls : List Line) (n : ℕ) (redex : Redex) → StopsIn p c ls n e redex → run p c (labels ls) ≡ None
none_in p c e ls n redex s =
    ap (λ xs. run p c (labels xs)) s.whole
    ∙ ap (run p c) (labels_split s.before (s.line ∷ s.behind))
    ∙ joined p c s.between (labels s.before) (labels_of s.line ++ labels s.behind) s.leads
    ∙ none_joined p s.between (labels_of s.line) (labels s.behind) (stops_none p s.between s.line n e redex s.stops)
