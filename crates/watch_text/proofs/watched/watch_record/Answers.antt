use Rattle.std.proofs.Common.{◌≡◌, ◌++◌, ◌∷◌, [], Some, codes, sym, ap, subst, ◌∙◌}
use Rattle.pool_syntax.specs.Terms.{ProgramTree}
use Rattle.pool_syntax.specs.TreeOf.{program_of}
use Rattle.pool_relation.specs.Transition.{start}
use Rattle.pool_semantics.specs.PlainOf.{configuration_of, program_tree}
use Rattle.record_check.specs.RecordJudgement.{root}
use Rattle.term_text.specs.StateText.{configuration_text}
use Rattle.term_text.specs.Watched.{line}
use Rattle.watch_text.specs.WatchedRun.{IsWatched}
use Rattle.watch_text.proofs.WatchedEnds.{whole}
use Rattle.watch_text.proofs.watched.watch_record.Goals as goal

pub push_judged-requires-clause-starts : goal.push_judged-requires-clause-starts
push_judged-requires-clause-starts c =
    let from = configuration_of c.in-Ok.plain in
    subst (λ (q : ProgramTree). start q (root c.args.lines.now) ≡ Some from) (sym c.in-Ok.ensures.program)
    (ap (start (program_of c.args.program.now.program.now)) (sym c.root.ensures) ∙ c.in-Ok.ensures.start)

pub returns : goal.returns
returns c =
    let names = c.args.names.now in
    let p = program_of c.args.program.now.program.now in
    let t = program_tree c.in-Ok.plain in
    let ls = c.args.lines.now in
    let from = configuration_of c.in-Ok.plain in
    let same = c.in-Ok.ensures.program in
    let head = line (codes "watch" ∷ []) ++ configuration_text names t from in
    let told : IsWatched t names ls c.push_judged.new.text.items c.in-Ok-push_judged.verdict =
    record {
      judged = c.in-Ok-push_judged.ensures.judged;
      from = from;
      starts = subst (λ (q : ProgramTree). start q (root ls) ≡ Some from) (sym same) (ap (start p) (sym c.root.ensures) ∙ c.in-Ok.ensures.start);
      is = whole names t from from ls c.push_start.new.text.items c.push_judged.new.text.items c.in-Ok-push_judged.verdict (c.in-Ok-push_start.ensures ∙ ap (λ x. x ++ head) c.new-text.ensures.items) c.in-Ok-push_judged.ensures.text;
    } in
    subst (λ (q : ProgramTree). IsWatched q names ls c.push_judged.new.text.items c.in-Ok-push_judged.verdict) same told
