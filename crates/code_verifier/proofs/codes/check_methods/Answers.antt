use Rattle.std.proofs.Common.{◌≡◌, ◌+◌, ◌∙◌, suc, List, ap, sym, subst, drop, rules, arith, None, Some, true, false}
use Rattle.std.specs.Prelude.{slice_get}
use Rattle.run_types.proofs.Laws.{same_some}
use Rattle.code_semantics.specs.declared.unit.MethodCode.{MethodCode}
use Rattle.code_semantics.specs.declared.file.MethodKinds.{MethodKinds}
use Rattle.code_typing.specs.Sorts.{scope_by}
use Rattle.code_typing.specs.Verdict.{bad_method, is_well_sorted}
use Rattle.code_verifier.specs.Scopes.{declared_of}
use Rattle.code_verifier.proofs.VerdictSteps.{drop_at, get_there, method_next, method_wrong, methods_over}
use Rattle.code_verifier.proofs.codes.check_methods.Goals as goal

pub returns-then-not-branch : goal.returns-then-not-branch
returns-then-not-branch c = λ o t.
    let f = c.args.classes.now.file.now in
    let k = declared_of c.args.class.now in
    let i = c.loop-i.i in
    let m = c.method-item.result in
    let s = c.in-Some.kinds.now in
    let m_there : slice_get k.code.methods i ≡ Some m =
    ap (λ (l : List MethodCode). slice_get l i) (sym c.items-method-items.ensures) ∙ get_there c.items-method-items.result.now i m c.loop-i-test.true c.method-item.is in
    let s_there : slice_get k.kinds.methods i ≡ Some s = ap (λ (l : List MethodKinds). slice_get l i) (sym c.items-kinds.ensures) ∙ sym c.in-Some.ensures in
    let wrong : false ≡ is_well_sorted (scope_by f k (Some s)) m.frame_words m.code = search rules in
    sym c.loop-i.invariant
    ∙ method_wrong f k c.args.place i k.code.methods k.kinds.methods m s (drop_at k.code.methods i m m_there) (drop_at k.kinds.methods i s s_there) wrong ∙ same_some t

pub loop-i-preserved : goal.loop-i-preserved
loop-i-preserved c =
    let f = c.args.classes.now.file.now in
    let k = declared_of c.args.class.now in
    let i = c.loop-i.i in
    let p = c.args.place in
    let m = c.method-item.result in
    let s = c.in-Some.kinds.now in
    let m_there : slice_get k.code.methods i ≡ Some m =
    ap (λ (l : List MethodCode). slice_get l i) (sym c.items-method-items.ensures) ∙ get_there c.items-method-items.result.now i m c.loop-i-test.true c.method-item.is in
    let s_there : slice_get k.kinds.methods i ≡ Some s = ap (λ (l : List MethodKinds). slice_get l i) (sym c.items-kinds.ensures) ∙ sym c.in-Some.ensures in
    let right : true ≡ is_well_sorted (scope_by f k (Some s)) m.frame_words m.code = search rules in
    let one_more : suc i ≡ i + 1 = omega arith in
    subst (λ n. bad_method f k p n (drop n k.code.methods) (drop n k.kinds.methods) ≡ bad_method f k p 0 k.code.methods k.kinds.methods) one_more
    (sym (method_next f k p i k.code.methods k.kinds.methods m s (drop_at k.code.methods i m m_there) (drop_at k.kinds.methods i s s_there) right) ∙ c.loop-i.invariant)

pub returns-in-None : goal.returns-in-None
returns-in-None c = λ o t.
    let k = declared_of c.args.class.now in
    let out : slice_get k.kinds.methods c.loop-i.i ≡ None = ap (λ (l : List MethodKinds). slice_get l c.loop-i.i) (sym c.items-kinds.ensures) ∙ sym c.in-None.ensures in
    sym c.loop-i.invariant ∙ methods_over c.args.classes.now.file.now k c.args.place c.loop-i.i k.code.methods k.kinds.methods out ∙ same_some t
