-- In compiled code each chain of silent instructions ends, and it is no longer than the code.
use Rattle.run_types.specs.declared.frames.Frame.{Frame}
use Rattle.std.proofs.Common.{◌≡◌, refl, sym, ap, ◌∙◌, subst, ℕ, zero, suc, ◌+◌, ◌<◌, ◌≤◌, List, [], ◌∷◌, ◌++◌, length, Option, Some, None, Bool, true, false, ◌⊎◌, inl, inr, ⊎_elim, arith, length-append}
use Rattle.std.proofs.lemmas.Option.{slice_get_past}
use Rattle.std.specs.Prelude.{slice_get, map, if◌then◌else◌}
use Rattle.run_types.specs.declared.types.Value.{Value}
use Rattle.run_types.specs.declared.types.Value.TheVariants as V
use Rattle.pool_syntax.specs.Terms as T
use Rattle.pool_syntax.specs.Terms.{Expression, Expressions, Statement, Statements, Alternatives, MethodTree, ClassTree}
use Rattle.pool_syntax.specs.Typing.{contains}
use Rattle.run_types.specs.declared.types.Serves.{Serves}
use Rattle.run_types.specs.declared.types.Serves.TheVariants as S
use Rattle.code_semantics.specs.declared.unit.Instr.{Instr}
use Rattle.code_semantics.specs.declared.unit.Instr.TheVariants as I
use Rattle.code_semantics.specs.Frames.{code_of, silent, go_on_with, settled_within, settled, post_passed, method_code}
use Rattle.pool_compile.specs.Code.{Numbering, push, load, store, number_of, expression_code, expressions_code, guards_code, statement_code, statements_code, alternatives_code, alternatives_at, method_instrs, body_instrs, post_code, method_code_of, class_code, names_of}
use Rattle.pool_compile.specs.Follows.{AtRest}
use Rattle.pool_compile.proofs.SilentSteps.{silent_method}
use Rattle.pool_compile.proofs.CodeAtStart.{Has, front, back, has_all, works_length}

-- a jump goes on, or leads to the start of a loop
abbrev pub JumpsOn : List Instr → ℕ → Instr → Type 0
JumpsOn c at (I.Jump a) = (at < a) ⊎ (slice_get c a ≡ Some I.Loop)
JumpsOn c at _ = Unit {0}

abbrev pub AllJumpOn : List Instr → ℕ → List Instr → Type 0
AllJumpOn c at [] = Unit {0}
AllJumpOn c at (i ∷ is) = JumpsOn c at i × AllJumpOn c (suc at) is

join : (c : List Instr) (at : ℕ) (a b : List Instr) → AllJumpOn c at a → AllJumpOn c (at + length a) b → AllJumpOn c at (a ++ b)
join c at [] b x y = subst (λ n. AllJumpOn c n b) (let e : at + 0 ≡ at = omega arith in e) y
join c at (i ∷ a) b x y =
    (x.0, join c (suc at) a b x.1 (subst (λ n. AllJumpOn c n b) (let e : at + suc (length a) ≡ suc at + length a = omega arith in e) y))

load_on : (c : List Instr) (at : ℕ) (g : Numbering) (n : ℕ) → JumpsOn c at (load g n)
load_on c at g n = by (contains g.temps n)
  where
    by : (b : Bool) → JumpsOn c at (if b then I.LoadT (number_of g.temps n) else I.LoadI (number_of g.vars n))
    by true = tt
    by false = tt

store_on : (c : List Instr) (at : ℕ) (g : Numbering) (n : ℕ) → JumpsOn c at (store g n)
store_on c at g n = by (contains g.temps n)
  where
    by : (b : Bool) → JumpsOn c at (if b then I.StoreT (number_of g.temps n) else I.StoreI (number_of g.vars n))
    by true = tt
    by false = tt

push_on : (c : List Instr) (at : ℕ) (v : Value) → JumpsOn c at (push v)
push_on c at (V.Int z) = tt
push_on c at (V.Bool b) = tt
push_on c at _ = tt

module _ (c : List Instr) (g : Numbering) where
  mutual
    expression_on : (e : Expression) (at : ℕ) → AllJumpOn c at (expression_code g e)
    expression_on (T.Literal v p) at = (push_on c at v, tt)
    expression_on (T.Me p) at = (tt, tt)
    expression_on (T.Variable x p) at = (load_on c at g x, tt)
    expression_on (T.Create n p) at = (tt, tt)
    expression_on (T.Prefix op e p) at = join c at (expression_code g e) _ (expression_on e at) (tt, tt)
    expression_on (T.Infix op l r p) at =
        join c at (expression_code g l) _ (expression_on l at) (join c _ (expression_code g r) _ (expression_on r _) (tt, tt))
    expression_on (T.Call m es p) at = join c at (expressions_code g es) _ (expressions_on es at) (tt, tt)
    expression_on (T.Send e m es p) at =
        join c at (expression_code g e) _ (expression_on e at) (join c _ (expressions_code g es) _ (expressions_on es _) (tt, tt))
    expression_on (T.Frame m t ss e qs) at = tt
    expression_on (T.Wait b m) at = tt

    expressions_on : (es : Expressions) (at : ℕ) → AllJumpOn c at (expressions_code g es)
    expressions_on T.NoArgs at = tt
    expressions_on (T.Arg e es) at = join c at (expression_code g e) _ (expression_on e at) (expressions_on es _)

  guards_on : (alts : Alternatives) (at : ℕ) → AllJumpOn c at (guards_code g alts)
  guards_on T.NoAlts at = tt
  guards_on (T.Alt e n ss alts) at = join c at (expression_code g e) _ (expression_on e at) (guards_on alts _)

  mutual
    statement_on : (st : Statement) (at : ℕ) → Has c at (statement_code g at st) → AllJumpOn c at (statement_code g at st)
    statement_on (T.Assign x p e) at h = join c at (expression_code g e) _ (expression_on e at) (store_on c _ g x, tt)
    statement_on (T.Write e) at h = join c at (expression_code g e) _ (expression_on e at) (tt, tt)
    statement_on (T.WriteText s) at h = (tt, tt)
    statement_on (T.Do e) at h = join c at (expression_code g e) _ (expression_on e at) (tt, tt)
    statement_on (T.Async e m p es) at h =
        join c at (expression_code g e) _ (expression_on e at) (join c _ (expressions_code g es) _ (expressions_on es _) (tt, tt))
    statement_on (T.If e these those) at h =
        let test = expression_code g e in
        let yes = suc (at + length test) in
        let first = statements_code g yes these in
        let other = suc (yes + length first) in
        let second = statements_code g other those in
        let jump = I.Jump (other + length second) in
        let b = back c at test (I.Branch other ∷ (first ++ jump ∷ second)) h in
        let d = back c yes first (jump ∷ second) b.1 in
        join c at test _ (expression_on e at)
        (tt, join c yes first _ (statements_on these yes (front c yes first (jump ∷ second) b.1)) (inl (omega arith), statements_on those other d.1))
    statement_on (T.While e ss) at h =
        let test = expression_code g e in
        let go = suc (suc at + length test) in
        let turn = statements_code g go ss in
        let b = back c (suc at) test (I.Branch (suc (go + length turn)) ∷ (turn ++ I.Jump at ∷ [])) h.1 in (
          tt,
          join c (suc at) test _ (expression_on e (suc at))
              (tt, join c go turn _ (statements_on ss go (front c go turn (I.Jump at ∷ []) b.1)) (inr h.0, tt)),
        )
    statement_on (T.Answer ns) at h = (tt, tt)
    statement_on (T.Select alts) at h =
        let gs = guards_code g alts in
        let go = suc (at + length gs) in
        let last = go + length (alternatives_code g go 0 alts) in
        let works = alternatives_code g go last alts in
        let b = back c at gs (I.Select (alternatives_at g go alts) ∷ works) h in
        join c at gs _ (guards_on alts at) (tt, works_on alts go last (omega (arith, works_length None c g alts go 0 last)) b.1)
    statement_on (T.Serve m w t ss e qs) at h = tt

    statements_on : (ss : Statements) (at : ℕ) → Has c at (statements_code g at ss) → AllJumpOn c at (statements_code g at ss)
    statements_on T.Done at h = tt
    statements_on (T.Then st ss) at h =
        let cs = statement_code g at st in
        let more = statements_code g (at + length cs) ss in
        join c at cs more (statement_on st at (front c at cs more h)) (statements_on ss (at + length cs) (back c at cs more h))

    works_on : (alts : Alternatives) (at last : ℕ) → at + length (alternatives_code g at last alts) ≤ last → Has c at (alternatives_code g at last alts)
        → AllJumpOn c at (alternatives_code g at last alts)
    works_on T.NoAlts at last q h = tt
    works_on (T.Alt e ns ss alts) at last q h =
        let w = statements_code g at ss in
        let next = suc (at + length w) in
        let rest = alternatives_code g next last alts in
        let b = back c at w (I.Jump last ∷ rest) h in
        let whole = length-append w (I.Jump last ∷ rest) in
        join c at w _ (statements_on ss at (front c at w (I.Jump last ∷ rest) h))
        (inl (omega (arith, q, whole)), works_on alts next last (omega (arith, q, whole)) b.1)

post_on : (c : List Instr) (g : Numbering) (at : ℕ) (qs : Statements) → Has c at (post_code g at qs) → AllJumpOn c at (post_code g at qs)
post_on c g at T.Done h = (tt, tt)
post_on c g at (T.Then s qs) h =
    let later = statements_code g (suc at) (T.Then s qs) in
    (tt, join c (suc at) later _ (statements_on c g (T.Then s qs) (suc at) (front c (suc at) later (I.Ret ∷ []) h.1)) (tt, tt))

pub method_on : (g : Numbering) (ss : Statements) (e : Expression) (qs : Statements) → AllJumpOn (method_instrs g ss e qs) 0 (method_instrs g ss e qs)
method_on g ss e qs =
    let c = method_instrs g ss e qs in
    let first = statements_code g 0 ss in
    let value = expression_code g e in
    let end = 0 + length first + length value in
    let b = back c 0 first (value ++ post_code g end qs) (has_all c) in
    join c 0 first _ (statements_on c g ss 0 (front c 0 first _ (has_all c)))
    (join c _ value _ (expression_on c g e _) (post_on c g end qs (back c (0 + length first) value (post_code g end qs) b)))

pub body_on : (g : Numbering) (ss : Statements) → AllJumpOn (body_instrs g ss) 0 (body_instrs g ss)
body_on g ss =
    let c = body_instrs g ss in
    let first = statements_code g 0 ss in
    join c 0 first _ (statements_on c g ss 0 (front c 0 first _ (has_all c))) (tt, tt)

-- where all jumps go on, every frame comes to rest
pub jump_at : (c : List Instr) (at : ℕ) (l : List Instr) (j : ℕ) (a : ℕ) → AllJumpOn c at l → slice_get l j ≡ Some (I.Jump a) → JumpsOn c (at + j) (I.Jump a)
jump_at c at [] j a x e = absurd (grind (arith, e))
jump_at c at (i ∷ l) zero a x e =
    let f : i ≡ I.Jump a = grind (arith, e) in
    subst (λ n. JumpsOn c n (I.Jump a)) (let z : at ≡ at + 0 = omega arith in z) (subst (JumpsOn c at) f x.0)
jump_at c at (i ∷ l) (suc j) a x e =
    subst (λ n. JumpsOn c n (I.Jump a)) (let z : suc at + j ≡ at + suc j = omega arith in z) (jump_at c (suc at) l j a x.1 e)

abbrev pub Rests : List Instr → Frame → Type 0
Rests c f = silent f (slice_get c f.at) ≡ None

-- the place after a silent instruction
place : (f d e : Frame) → Some e ≡ Some d → e.at ≡ d.at
place f d e q = ap (λ o. elim o as (λ _. ℕ) [ None ↦ e.at | Some x ↦ x.at ]) q

passed_on : (f d : Frame) (s : Serves) → post_passed f s ≡ Some d → f.at < d.at
passed_on f d S.Own q = omega (arith, place f d _ q)
passed_on f d S.Sender q = omega (arith, place f d _ q)
passed_on f d (S.Caller c n) q = absurd (grind (arith, q))

-- a silent instruction goes on, or leads to the start of a loop
silent_on : (c : List Instr) (f d : Frame) (i : Option Instr) → AllJumpOn c 0 c → slice_get c f.at ≡ i → silent f i ≡ Some d → (f.at < d.at) ⊎ (slice_get c d.at ≡ Some I.Loop)
silent_on c f d (Some (I.PushInt z)) ok e q = inl (omega (arith, place f d _ q))
silent_on c f d (Some (I.PushBool b)) ok e q = inl (omega (arith, place f d _ q))
silent_on c f d (Some I.PushNil) ok e q = inl (omega (arith, place f d _ q))
silent_on c f d (Some (I.Jump a)) ok e q =
    subst (λ n. (f.at < n) ⊎ (slice_get c n ≡ Some I.Loop)) (place f d _ q)
    (subst (λ n. JumpsOn c n (I.Jump a)) (let z : 0 + f.at ≡ f.at = omega arith in z) (jump_at c 0 c f.at a ok e))
silent_on c f d (Some I.Post) ok e q = inl (passed_on f d f.serves q)
silent_on c f d _ ok e q = absurd (grind (arith, q))

loop_rests : (c : List Instr) (n : ℕ) (d : Frame) → slice_get c d.at ≡ Some I.Loop → Rests c (settled_within c n d)
loop_rests c zero d e = ap (silent d) e
loop_rests c (suc n) d e =
    let none : silent d (slice_get c d.at) ≡ None = ap (silent d) e in
    subst (λ s. Rests c (go_on_with d (settled_within c n) s)) (sym none) none

rests_by : (c : List Instr) (n : ℕ) (f : Frame) (go : Frame → Frame) → (s : Option Frame) → silent f (slice_get c f.at) ≡ s
    → ((d : Frame) → silent f (slice_get c f.at) ≡ Some d → Rests c (go d)) → Rests c (go_on_with f go s)
rests_by c n f go None q more = q
rests_by c n f go (Some d) q more = more d q

rests_within : (c : List Instr) → AllJumpOn c 0 c → (n : ℕ) (f : Frame) → length c ≤ f.at + n → Rests c (settled_within c n f)
rests_within c ok zero f le = ap (silent f) (slice_get_past c f.at (omega (arith, le)))
rests_within c ok (suc n) f le =
    rests_by c n f (settled_within c n) (silent f (slice_get c f.at)) refl
    (λ d q. ⊎_elim (λ lt. rests_within c ok n d (omega (arith, le, lt))) (λ e. loop_rests c n d e) (silent_on c f d (slice_get c f.at) ok refl q))

-- every frame of compiled code comes to a step instruction
pub method_rests : (g : Numbering) (ss : Statements) (e : Expression) (qs : Statements) (f : Frame) → Rests (method_instrs g ss e qs) (settled (method_instrs g ss e qs) f)
method_rests g ss e qs f = rests_within (method_instrs g ss e qs) (method_on g ss e qs) (length (method_instrs g ss e qs)) f (omega arith)

pub body_rests : (g : Numbering) (ss : Statements) (f : Frame) → Rests (body_instrs g ss) (settled (body_instrs g ss) f)
body_rests g ss f = rests_within (body_instrs g ss) (body_on g ss) (length (body_instrs g ss)) f (omega arith)

rests_method : (vars : List ℕ) (ms : List MethodTree) (j : ℕ) (f : Frame) → Rests (method_code (slice_get (map (method_code_of vars) ms) j)) (settled (method_code (slice_get (map (method_code_of vars) ms) j)) f)
rests_method vars [] j f = refl
rests_method vars (m ∷ ms) zero f = method_rests (record { temps = names_of (m.params ++ m.locals); vars = vars }) m.body m.value m.post f
rests_method vars (m ∷ ms) (suc j) f = rests_method vars ms j f

rests_code : (tree : ClassTree) (m : Option ℕ) (f : Frame) → Rests (code_of (Some (class_code tree)) m) (settled (code_of (Some (class_code tree)) m) f)
rests_code tree None f = body_rests (record { temps = []; vars = names_of tree.vars }) tree.body f
rests_code tree (Some j) f = rests_method (names_of tree.vars) tree.methods j f

-- the method stays
same_by : (code : List Instr) (f : Frame) (go : Frame → Frame) (s : Option Frame) → silent f (slice_get code f.at) ≡ s → ((d : Frame) → (go d).method ≡ d.method)
    → (go_on_with f go s).method ≡ f.method
same_by code f go None q more = refl
same_by code f go (Some d) q more = more d ∙ silent_method f d (slice_get code f.at) q

same_method : (code : List Instr) (n : ℕ) (f : Frame) → (settled_within code n f).method ≡ f.method
same_method code zero f = refl
same_method code (suc n) f = same_by code f (settled_within code n) (silent f (slice_get code f.at)) refl (same_method code n)

-- an object whose innermost frame was brought to a step instruction stands at one
pub comes_to_rest : (tree : ClassTree) (f : Frame) (fs : List Frame) → AtRest (Some (class_code tree)) (settled (code_of (Some (class_code tree)) f.method) f ∷ fs)
comes_to_rest tree f fs =
    let k = Some (class_code tree) in
    let d = settled (code_of k f.method) f in
    subst (λ m. silent d (slice_get (code_of k m) d.at) ≡ None) (sym (same_method (code_of k f.method) (length (code_of k f.method)) f)) (rests_code tree f.method f)
