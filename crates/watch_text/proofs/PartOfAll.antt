-- The part from line 1 to the last line is the whole.
use Rattle.std.proofs.Common.{◌≡◌, sym, ap, ◌∙◌, ℕ, ◌≤◌, List, ◌++◌, length}
use Rattle.std.proofs.lemmas.List.{take_all}
use Rattle.text_scan.specs.Text.{Text}
use Rattle.run_types.specs.declared.types.Line.{Line}
use Rattle.run_types.specs.declared.verdicts.Verdict.{Verdict}
use Rattle.pool_syntax.specs.Terms.{ProgramTree}
use Rattle.pool_relation.specs.Configuration.{Configuration}
use Rattle.pool_relation.specs.Transition.{run}
use Rattle.mesh_semantics.specs.Record.{labels}
use Rattle.term_text.specs.Watched.{watched_text}
use Rattle.watch_text.specs.WatchedRun.{IsWatched, IsWatchedPart, ending, lines_before, lines_between, part_text}

part_is : (p : ProgramTree) (names : List Text) (ls : List Line) (last : ℕ) (from : Configuration) → length ls ≤ last
    → part_text names p (run p from (labels (lines_before 1 ls))) (lines_between 1 last ls) ≡ watched_text names p from ls
part_is p names ls last from small = ap (λ xs. watched_text names p from xs) (take_all last ls small)

pub whole_of_part : (p : ProgramTree) (names : List Text) (ls : List Line) (last : ℕ) (text : Text) (v : Verdict) → length ls ≤ last → IsWatchedPart p names ls 1 last text v → IsWatched p names ls text v
whole_of_part p names ls last text v small h =
    record { judged = h.judged; from = h.from; starts = h.starts; is = h.is ∙ ap (λ t. t ++ ending names p (run p h.from (labels ls)) v) (part_is p names ls last h.from small) }

pub part_of_whole : (p : ProgramTree) (names : List Text) (ls : List Line) (last : ℕ) (text : Text) (v : Verdict) → length ls ≤ last → IsWatched p names ls text v → IsWatchedPart p names ls 1 last text v
part_of_whole p names ls last text v small h =
    record { judged = h.judged; from = h.from; starts = h.starts; is = h.is ∙ ap (λ t. t ++ ending names p (run p h.from (labels ls)) v) (sym (part_is p names ls last h.from small)) }
