-- The code of a new object represents it.
use Rattle.run_types.specs.declared.frames.CodeObject.{CodeObject}
use Rattle.run_types.specs.declared.frames.Frame.{Frame}
use Rattle.std.proofs.Common.{◌≡◌, refl, sym, ap, ◌∙◌, subst, ℕ, suc, ◌+◌, ◌==◌, [], ◌∷◌, length, Some, None, Bool, true, false, arith}
use Rattle.std.specs.Prelude.{slice_get, if◌then◌else◌}
use Rattle.pool_syntax.specs.Terms.{ClassTree, ProgramTree}
use Rattle.pool_syntax.specs.Classes.{class_of}
use Rattle.pool_relation.specs.Transition.{new_object}
use Rattle.code_semantics.specs.declared.unit.Instr.TheVariants as I
use Rattle.run_types.specs.declared.types.Serves.TheVariants as S
use Rattle.code_semantics.specs.declared.unit.Unit.{Unit as Code}
use Rattle.code_semantics.specs.Step.{class_from, placed_of, placed_at, code_made, at_rest}
use Rattle.run_types.specs.Operands.{padded}
use Rattle.pool_compile.specs.Code.{Numbering, name, names_of, class_code, code, body_instrs, statements_code}
use Rattle.pool_compile.specs.StandsFor.{Head, fresh, frame_of}
use Rattle.pool_compile.proofs.CodeAtStart.{front, back, has_all, coded_statements}
use Rattle.pool_compile.specs.TextPrograms.{is_text_program}
use Rattle.pool_compile.proofs.Methods.{class_text}
use Rattle.pool_compile.proofs.SilentSteps.{settles}
use Rattle.pool_compile.specs.Follows.{AtRest, Represents}
use Rattle.pool_compile.proofs.SilentTermination.{comes_to_rest}
use Rattle.pool_compile.proofs.Stores.{nil_keys, nil_values}

-- the code of the class that a name finds
abbrev pub FoundClass : ProgramTree → ℕ → ℕ → ClassTree → Type 0
FoundClass p n c kt =
    (j : ℕ) × (class_from n (code p) (name c) ≡ Some (n + j)) × (slice_get (code p) j ≡ Some (class_code kt)) × (kt.name.name.0 ≡ c)

found_by : (q : Bool) (k : ClassTree) (ks : ProgramTree) (n c : ℕ) (kt : ClassTree) → (k.name.name.0 == c) ≡ q
    → (class_of ks c ≡ Some kt → FoundClass ks (suc n) c kt) → (if q then Some k else class_of ks c) ≡ Some kt → FoundClass (k ∷ ks) n c kt
found_by true k ks n c kt e more h =
    let f : k ≡ kt = grind (arith, h) in
    let z : n ≡ n + 0 = omega arith in
    (0, rw e (ap Some z), ap (λ y. Some (class_code y)) f, subst (λ y. y.name.name.0 ≡ c) f (let i : k.name.name.0 ≡ c = grind (arith, e) in i))
found_by false k ks n c kt e more h =
    let m = more h in
    let z : suc n + m.0 ≡ n + suc m.0 = omega arith in
    (suc m.0, rw e (m.1 ∙ ap Some z), m.2, m.3)

pub class_found : (p : ProgramTree) (n c : ℕ) (kt : ClassTree) → class_of p c ≡ Some kt → FoundClass p n c kt
class_found [] n c kt h = absurd (grind (arith, h))
class_found (k ∷ ks) n c kt h = found_by (k.name.name.0 == c) k ks n c kt refl (class_found ks (suc n) c kt) h

pub stands_new : (p : ProgramTree) (u : Code) (c : ℕ) (kt : ClassTree) → is_text_program p ≡ true → u.classes ≡ code p → class_of p c ≡ Some kt
    → (y : CodeObject) × (code_made u (name c) ≡ Some y) × Represents p u (new_object kt) y
stands_new p u c kt text unit is =
    let f = class_found p 0 c kt is in
    let k = Some (class_code kt) in
    let g : Numbering = record { temps = []; vars = names_of kt.vars } in
    let h : Head = record { method = None; serves = S.Sender } in
    let body = statements_code g 0 kt.body in
    let all = has_all (body_instrs g kt.body) in
    let end = 0 + length body in
    let halt = (back (body_instrs g kt.body) 0 body (I.Halt ∷ []) all).0 in
    let start : Frame = frame_of h [] (fresh 0 []) in
    let whole = settles k h g refl end halt kt.body start []
    (fresh 0 [], refl, coded_statements k (body_instrs g kt.body) g kt.body 0 (class_text p c kt text is).0 (front (body_instrs g kt.body) 0 body (I.Halt ∷ []) all) [] end refl) in
    let y : CodeObject = at_rest k (record { class = f.0; vars = padded (length kt.vars) []; frames = [] }) start [] in
    let z : 0 + f.0 ≡ f.0 = omega arith in (
      y,
      ap (λ ks. placed_at u (class_from 0 ks (name c))) unit ∙ ap (placed_at u) (f.1 ∙ ap Some z) ∙ ap (λ ks. placed_of f.0 (slice_get ks f.0)) unit ∙ ap (placed_of f.0) f.2,
      (
        record {
          tree = kt;
          is_class = ap (class_of p) f.3 ∙ is;
          class = f.2;
          vars = sym (nil_values kt.vars);
          names = nil_keys kt.vars;
          at = whole.0;
          frames = whole.1;
          end = end;
          halt = halt;
          term = whole.2;
        },
        subst (λ q. AtRest q y.frames) (sym (ap (λ ks. slice_get ks f.0) unit ∙ f.2)) (comes_to_rest kt start []),
      ),
    )
