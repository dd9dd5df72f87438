use Rattle.std.proofs.Common.{◌≡◌, ℕ, ◌<◌, List, Some, None, length, get_or, slice_get, sym, ap, ◌∙◌, subst, arith}
use Rattle.std.proofs.lemmas.Option.{slice_get-get_or}
use Rattle.code_semantics.specs.Frames.{code_of, method_code}
use Rattle.node_state.specs.LongAnswers.{AreLongBefore}
use Rattle.node_state.proofs.LongInstrs.{after_body, after_method, after_class, all_classes}
use Rattle.node_state.proofs.long.long_answers.Goals as goal

-- the element that is read of a list
read : {X : Type 0} (xs ys : List X) (i : ℕ) (x : X) → xs ≡ ys → i < length xs → x ≡ get_or xs i x → slice_get ys i ≡ Some x
read xs ys i x same less is = ap (λ zs. slice_get zs i) (sym same) ∙ slice_get-get_or xs i x less ∙ ap Some (sym is)

pub loop-method-init : goal.loop-method-init
loop-method-init c =
    let u = c.args.unit.now in let i = c.loop-class.class in let k = c.code-item.result in let found = c.add_code.new.found in
    let at = read c.items-code-items.result.now u.classes i k c.items-code-items.ensures c.loop-class-test.true c.code-item.is in
    after_body u i k at found
    (subst (λ is. AreLongBefore u (record { class = i; method = None; at = length is; alt = 0 }) found) c.items.ensures (c.in_ok-add_code.ensures u (ap (λ o. code_of o None) at ∙ sym c.items.ensures) c.loop-class.invariant))

pub loop-method-preserved : goal.loop-method-preserved
loop-method-preserved c =
    let u = c.args.unit.now in let i = c.loop-class.class in let k = c.code-item.result in let m = c.loop-method.method in let x = c.of_method-item.result in let found = c.add_code-in-loop-method.new.found in
    let at = read c.items-code-items.result.now u.classes i k c.items-code-items.ensures c.loop-class-test.true c.code-item.is in
    let of = read c.items-of_method-items.result.now k.methods m x c.items-of_method-items.ensures c.loop-method-test.true c.of_method-item.is in
    let is : code_of (slice_get u.classes i) (Some m) ≡ x.code = ap (λ o. code_of o (Some m)) at ∙ ap method_code of in
    after_method u i k at found m x of
    (subst (λ is. AreLongBefore u (record { class = i; method = Some m; at = length is; alt = 0 }) found) c.items-in-loop-method.ensures (c.in_ok-add_code-2.ensures u (is ∙ sym c.items-in-loop-method.ensures) c.loop-method.invariant))

pub loop-class-preserved : goal.loop-class-preserved
loop-class-preserved c =
    let u = c.args.unit.now in let i = c.loop-class.class in let k = c.code-item.result in
    let at = read c.items-code-items.result.now u.classes i k c.items-code-items.ensures c.loop-class-test.true c.code-item.is in
    let all : c.loop-method.method ≡ length k.methods = (let e = ap length c.items-of_method-items.ensures in omega (arith, c.loop-method-test.false, c.loop-method.auto.method-end)) in
    after_class u i k at c.loop-method.found (subst (λ m. AreLongBefore u (record { class = i; method = Some m; at = 0; alt = 0 }) c.loop-method.found) all c.loop-method.invariant)

pub returns : goal.returns
returns c =
    let u = c.args.unit.now in
    let all : c.loop-class.class ≡ length u.classes = (let e = ap length c.items-code-items.ensures in omega (arith, c.loop-class-test.false, c.loop-class.auto.class-end)) in
    all_classes u c.loop-class.found (subst (λ i. AreLongBefore u (record { class = i; method = None; at = 0; alt = 0 }) c.loop-class.found) all c.loop-class.invariant)
