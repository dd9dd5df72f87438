use Rattle.std.proofs.Common.{◌≡◌, ◌+◌, ◌∙◌, suc, List, ap, sym, subst, drop, rules, arith, None, Some, true, false}
use Rattle.std.specs.Prelude.{slice_get}
use Rattle.code_semantics.specs.declared.unit.MethodCode.{MethodCode}
use Rattle.code_semantics.specs.declared.file.MethodKinds.{MethodKinds}
use Rattle.code_typing.specs.Verdict.{methods_right}
use Rattle.code_verifier.proofs.VerdictSteps.{drop_at, get_there, heading_then, headings_over, method_heading}
use Rattle.code_verifier.proofs.headings.methods_right.Goals as goal

pub loop-place-preserved : goal.loop-place-preserved
loop-place-preserved c =
    let f = c.args.classes.now.file.now in
    let k = c.args.class.now.code.now in
    let q = c.args.class.now.kinds.now in
    let i = c.loop-place.place in
    let m = c.method-item.result in
    let s = c.in-Some.kinds.now in
    let m_there : slice_get k.methods i ≡ Some m =
    ap (λ (l : List MethodCode). slice_get l i) (sym c.items-method-items.ensures) ∙ get_there c.items-method-items.result.now i m c.loop-place-test.true c.method-item.is in
    let s_there : slice_get q.methods i ≡ Some s = ap (λ (l : List MethodKinds). slice_get l i) (sym c.items-kinds.ensures) ∙ sym c.in-Some.ensures in
    let right : true ≡ method_heading f k i m s = search rules in
    let one_more : suc i ≡ i + 1 = omega arith in
    subst (λ n. methods_right f k n (drop n k.methods) (drop n q.methods) ≡ methods_right f k 0 k.methods q.methods) one_more
    (sym (heading_then f k i k.methods q.methods m s (drop_at k.methods i m m_there) (drop_at q.methods i s s_there) true right) ∙ c.loop-place.invariant)

pub returns-then-not-method_right : goal.returns-then-not-method_right
returns-then-not-method_right c =
    let f = c.args.classes.now.file.now in
    let k = c.args.class.now.code.now in
    let q = c.args.class.now.kinds.now in
    let i = c.loop-place.place in
    let m = c.method-item.result in
    let s = c.in-Some.kinds.now in
    let m_there : slice_get k.methods i ≡ Some m =
    ap (λ (l : List MethodCode). slice_get l i) (sym c.items-method-items.ensures) ∙ get_there c.items-method-items.result.now i m c.loop-place-test.true c.method-item.is in
    let s_there : slice_get q.methods i ≡ Some s = ap (λ (l : List MethodKinds). slice_get l i) (sym c.items-kinds.ensures) ∙ sym c.in-Some.ensures in
    let wrong : false ≡ method_heading f k i m s = search rules in
    sym (heading_then f k i k.methods q.methods m s (drop_at k.methods i m m_there) (drop_at q.methods i s s_there) false wrong) ∙ c.loop-place.invariant

pub returns-in-None : goal.returns-in-None
returns-in-None c =
    let k = c.args.class.now.code.now in
    let q = c.args.class.now.kinds.now in
    let out : slice_get q.methods c.loop-place.place ≡ None = ap (λ (l : List MethodKinds). slice_get l c.loop-place.place) (sym c.items-kinds.ensures) ∙ sym c.in-None.ensures in
    sym (headings_over c.args.classes.now.file.now k c.loop-place.place k.methods q.methods out) ∙ c.loop-place.invariant
