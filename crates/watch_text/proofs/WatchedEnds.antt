-- The end of the text after its lines, by the verdict.
use Rattle.std.proofs.Common.{◌≡◌, ◌∙◌, ℕ, List, [], ◌∷◌, ◌++◌, Some, None, sym, ap, append_assoc, codes}
use Rattle.text_scan.specs.Text.{Text}
use Rattle.run_types.specs.declared.types.Line.{Line}
use Rattle.run_types.specs.declared.verdicts.Redex.{Redex}
use Rattle.run_types.specs.declared.verdicts.Verdict.{Verdict}
use Rattle.run_types.specs.declared.verdicts.Verdict.TheVariants as V
use Rattle.pool_syntax.specs.Terms.{ProgramTree}
use Rattle.pool_relation.specs.Configuration.{Configuration}
use Rattle.pool_relation.specs.Transition.{run, start}
use Rattle.mesh_semantics.specs.Record.{labels}
use Rattle.record_check.specs.RecordJudgement.{Judged, root}
use Rattle.record_check.specs.VerdictText.{verdict_text}
use Rattle.record_check.specs.Verdicts.{StopsIn}
use Rattle.record_check.proofs.Laws.{stops_of}
use Rattle.term_text.specs.StateText.{configuration_text}
use Rattle.term_text.specs.Watched.{followed_text, line, watched_text}
use Rattle.watch_text.specs.WatchedRun.{ending, waiting_text}

module _ (names : List Text) (p : ProgramTree) (from to : Configuration) (ls : List Line) where
  -- lines that stop have this verdict
  pub stopped_judged : (n : ℕ) (redex : Redex) → start p (root ls) ≡ Some from → StopsIn p from ls n to redex → Judged p ls (V.No n redex)
  stopped_judged n redex begins s = stops_of p ls n redex from to begins s

  -- the text that the lines show, with its end after the last line
  pub ends_at : (base mid a c : Text) (v : Verdict) → run p from (labels ls) ≡ Some to → a ≡ base ++ mid → c ≡ a ++ (waiting_text names p to ++ verdict_text names v)
      → c ≡ base ++ (mid ++ ending names p (run p from (labels ls)) v)
  ends_at base mid a c v leads first second =
      second ∙ ap (λ t. t ++ (waiting_text names p to ++ verdict_text names v)) first
      ∙ append_assoc base mid (waiting_text names p to ++ verdict_text names v)
      ∙ ap (λ o. base ++ (mid ++ ending names p o v)) (sym leads)

  -- the same if a line is impossible
  pub ends_before : (base mid a c : Text) (v : Verdict) → run p from (labels ls) ≡ None → a ≡ base ++ mid → c ≡ a ++ verdict_text names v
      → c ≡ base ++ (mid ++ ending names p (run p from (labels ls)) v)
  ends_before base mid a c v none first second =
      second ∙ ap (λ t. t ++ verdict_text names v) first ∙ append_assoc base mid (verdict_text names v)
      ∙ ap (λ o. base ++ (mid ++ ending names p o v)) (sym none)

  -- the start before it
  pub whole : (a b : Text) (v : Verdict) → a ≡ line (codes "watch" ∷ []) ++ configuration_text names p from
      → b ≡ a ++ (followed_text names p from ls ++ ending names p (run p from (labels ls)) v) → b ≡ watched_text names p from ls ++ ending names p (run p from (labels ls)) v
  whole a b v first second =
      let head = line (codes "watch" ∷ []) in
      let start = configuration_text names p from in
      let mid = followed_text names p from ls in
      let end = ending names p (run p from (labels ls)) v in
      second ∙ ap (λ t. t ++ (mid ++ end)) first ∙ append_assoc head start (mid ++ end) ∙ ap (λ t. head ++ t) (sym (append_assoc start mid end)) ∙ sym (append_assoc head (start ++ mid) end)
