use Rattle.std.proofs.Common.{◌≡◌, ℕ, ◌-◌, ◌*◌, ◌%◌, ◌<◌, [], ◌∷◌, length, get_or, subst, sym, ap, ◌∙◌, slice_get, Some, arith}
use Rattle.std.proofs.Math.Nat.{mod-one, mod-lt}
use Rattle.std.proofs.lemmas.Option.{slice_get-get_or}
use Rattle.run_types.specs.declared.types.Event.TheVariants.{Turn}
use Rattle.schedule_reader.specs.EventRuns.{part_events}
use Rattle.schedule_reader.proofs.EventRuns.{get_repeat, not_empty}
use Rattle.schedule_reader.proofs.event_runs.event_in.Goals as goal

pub returns-in-One : goal.returns-in-One
returns-in-One c =
    let s = c.args.stretch in
    let u = part_events c.args.round.now s.part in
    let i : ℕ = c.args.number - (s.end - s.count * length u) in
    let one : u ≡ c.in-One.event ∷ [] = ap (part_events c.args.round.now) c.in-One.is in
    let short : i < s.count * length u = omega arith in
    get_repeat s.count u i short ∙ (ap (λ us. slice_get us (i % length us)) one ∙ ap (slice_get (c.in-One.event ∷ [])) (mod-one i))

pub returns-in-Round : goal.returns-in-Round
returns-in-Round c =
    let s = c.args.stretch in
    let u = part_events c.args.round.now s.part in
    let i : ℕ = c.args.number - (s.end - s.count * length u) in
    let all : u ≡ c.args.round.now = ap (part_events c.args.round.now) c.in-Round.is in
    let short : i < s.count * length u = omega arith in
    let n : ℕ = length c.args.round.now in
    let in_round : i < s.count * n = subst (λ us. i < s.count * length us) all short in
    let same : c.args.number - (s.end - s.count * c.part_len.result) ≡ i = ap (λ k. c.args.number - (s.end - s.count * k)) c.part_len.ensures in
    get_repeat s.count u i short
    ∙ (ap (λ us. slice_get us (i % length us)) all
    ∙ (slice_get-get_or c.args.round.now (i % n) (Turn 0) (mod-lt i (not_empty s.count n i in_round))
    ∙ ap (λ k. Some (get_or c.args.round.now (k % n) (Turn 0))) (sym same)))
