use Rattle.std.proofs.Common.{Bool, ℕ, ◌∙◌, false, true, subst, sym}
use Rattle.stream_check.specs.FillProgress.{Fills}
use Rattle.stream_check.proofs.GrownLines.{prepares_full, prepares_one, prepares_two}
use Rattle.stream_check.proofs.filling.Filling.fill_parties.Goals as goal

pub returns-in_ok-fill-2 : goal.returns-in_ok-fill-2
returns-in_ok-fill-2 c =
    let f = c.args.self.now in
    let g = c.fill.new.self in
    prepares_two f g c.fill-in-Some.new.self c.args.label.now c.in-Some.caller c.in_ok-fill-2.field-0 (sym c.caller_of.ensures ∙ c.in-Some.is)
    (subst (λ (o : ℕ). Fills f g o false) c.agent.ensures (subst (λ (b : Bool). Fills f g c.agent.result b) c.if-branch.false c.in_ok-fill.ensures))
    c.in_ok-fill-2.ensures

pub returns-then-branch : goal.returns-then-branch
returns-then-branch c =
    let f = c.args.self.now in
    let g = c.fill.new.self in
    prepares_full f g c.args.label.now (subst (λ (o : ℕ). Fills f g o true) c.agent.ensures (subst (λ (b : Bool). Fills f g c.agent.result b) c.if-branch.true c.in_ok-fill.ensures))

pub returns-in_default : goal.returns-in_default
returns-in_default c =
    let f = c.args.self.now in
    let g = c.fill.new.self in
    prepares_one f g c.args.label.now (sym c.caller_of.ensures ∙ c.in_default.is) (subst (λ (o : ℕ). Fills f g o false) c.agent.ensures (subst (λ (b : Bool). Fills f g c.agent.result b) c.if-branch.false c.in_ok-fill.ensures))
