use Rattle.std.proofs.Common.{◌≡◌, ◌∙◌, IfOk, map, refl, rules}
use Rattle.std.proofs.result.Match.{if_ok_then}
use Rattle.pool_semantics.specs.PlainOf.{state_of}
use Rattle.stream_check.proofs.LocalRuns.{names_kept}
use Rattle.stream_check.proofs.local.objects_of.Goals as goal

pub returns : goal.returns
returns c =
    let told : IfOk c.collect.result (λ os. os.items ≡ map (λ e. e.0) (state_of c.args.plain.now).objects.entries) = search rules in
    if_ok_then c.collect.result _ _ (λ os e. e ∙ names_kept _ (λ e. e.0) (λ e. refl) (state_of c.args.plain.now).objects.entries) told
