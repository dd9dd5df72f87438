use Rattle.std.proofs.Common.{◌≡◌, ◌≤◌, ◌-◌, ◌^◌, ◌∙◌, ap, drop, rules, arith}
use Rattle.std.specs.List.{list_all}
use Rattle.std.specs.Prelude.{is_none}
use Rattle.code_verifier.proofs.SpreadTurns.{same_words}
use Rattle.code_verifier.proofs.spread.Spread.fits.Goals as goal

pub returns : goal.returns
returns c =
    let few = c.if-words-temps.false in
    let enough : c.args.temps ≤ c.args.words = omega (arith, few) in
    let same : c.args.words - c.args.temps ≡ c.most-most.result = search rules in
    same_words c.args.words c.args.temps c.args.self.now enough c.most-most.result c.most-most.ensures same c.is_within.result
    (c.is_within.ensures ∙ ap (λ t. list_all is_none (drop (2 ^ 32) t)) c.deref.ensures.value)
