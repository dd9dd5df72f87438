use Rattle.std.proofs.Common.{◌≡◌, suc, ◌-◌, ◌<◌, List, [], ◌∷◌, ◌++◌, length, Some, sym, ap, subst, ◌∙◌, arith, length-append}
use Rattle.std.specs.Prelude.{option_map}
use Rattle.run_types.specs.declared.types.Value.{Value}
use Rattle.record_parser.specs.Fields.{values_within}
use Rattle.record_parser.specs.TextParts.{parts_left}
use Rattle.run_types.specs.Partial.{◌>>=◌}
use Rattle.record_parser.proofs.LeadingBytes.{none_left, parts_length, value_more}
use Rattle.record_parser.proofs.shown.args_in.Goals as goal

pub returns-then-len-eq8 : goal.returns-then-len-eq8
returns-then-len-eq8 c =
    let l = c.loop-left in
    let text = c.in-Some.text.now in
    let args : List Value = l.args in
    let here = ap (λ o. parts_left 32 (option_map (λ t. t.now) o)) c.in-Some.is in
    let full : 8 - length args ≡ 0 = omega arith in
    let some = subst (λ ps. 0 < length ps) (sym here) (parts_length 32 text) in
    sym (ap (λ o. o >>= λ vs. Some (args ++ vs)) (none_left (8 - length args) _ full some)) ∙ l.invariant.values

pub loop-left-preserved : goal.loop-left-preserved
loop-left-preserved c =
    let l = c.loop-left in
    let args : List Value = l.args in
    let v = c.in_ok-value.value in
    let w = c.cut-next.result.first.now in
    let ws = parts_left 32 (option_map (λ t. t.now) c.cut-next.result.rest) in
    let here = ap (λ o. parts_left 32 (option_map (λ t. t.now) o)) c.in-Some.is in
    let left : 8 - length args ≡ suc (8 - length (args ++ v ∷ [])) = omega (arith, length-append args (v ∷ [])) in
    record {
      few = omega (arith, ap length c.add.ensures, length-append args (v ∷ []));
      values =
          ap (λ xs. values_within (8 - length xs) ws >>= λ vs. Some (xs ++ vs)) c.add.ensures
          ∙ (sym (value_more (8 - length args) (8 - length (args ++ v ∷ [])) args v w ws left (sym c.in_ok-value.ensures))
          ∙ (ap (λ ps. values_within (8 - length args) ps >>= λ vs. Some (args ++ vs)) (sym (here ∙ c.cut-next.ensures.parts)) ∙ l.invariant.values));
    }
