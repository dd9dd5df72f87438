-- Each step of an object of a verified file keeps its values fitting.
use Rattle.std.proofs.Common.{◌≡◌, inl, inr, refl, sym, ap, subst, ◌∙◌, ℕ, zero, suc, ◌-◌, ◌≤◌, arith, List, [], ◌∷◌, length, map, Option, Some, None, is_some, Bool, true, false, if◌then◌else◌}
use Rattle.std.specs.Prelude.{slice_get, slice_set, take, replicate}
use Rattle.std.specs.List.{list_any}
use Rattle.run_types.specs.declared.types.NameId.{NameId}
use Rattle.run_types.specs.declared.types.Value.{Value}
use Rattle.run_types.specs.declared.types.Value.TheVariants as V
use Rattle.run_types.specs.declared.types.Serves.{Serves}
use Rattle.run_types.specs.declared.types.Serves.TheVariants as S
use Rattle.run_types.specs.declared.types.Error.TheVariants.{NilOperand, NoOpenGuard}
use Rattle.run_types.specs.declared.types.Kind.TheVariants as D
use Rattle.run_types.specs.Sorts.{Sort, BoolSort, ClassSort, op_sort}
use Rattle.run_types.specs.Values as Values
use Rattle.run_types.specs.Values.{Outcome, Fails, WrongSort, is_bool, is_true, not_bool}
use Rattle.run_types.proofs.Laws.{same_some, given_by, required}
use Rattle.code_semantics.specs.declared.unit.Instr.{Instr}
use Rattle.code_semantics.specs.declared.unit.Instr.TheVariants as I
use Rattle.code_semantics.specs.declared.unit.AltCode.{AltCode}
use Rattle.code_semantics.specs.declared.unit.ClassCode.{ClassCode}
use Rattle.run_types.specs.declared.frames.Frame.{Frame}
use Rattle.run_types.specs.declared.frames.CodeObject.{CodeObject}
use Rattle.code_semantics.specs.declared.file.UnitFile.{UnitFile}
use Rattle.code_semantics.specs.declared.file.MethodKinds.{MethodKinds}
use Rattle.code_semantics.specs.Frames.{code_of, next, settled}
use Rattle.run_types.specs.Operands.{top, below, taken, dropped, nth, padded}
use Rattle.code_semantics.specs.Kinds as C
use Rattle.code_semantics.specs.Kinds.{Offered, operated, arity, outcome_kind, sent_kind, return_kind, offers, select_kind, instr_kind, frames_kind}
use Rattle.code_semantics.specs.ReachedPlaces.{nexts, IsAmong}
use Rattle.code_semantics.specs.Shaped.{IsShaped}
use Rattle.code_semantics.specs.Step.{Numbered, at_rest, outcome_value, method_named, begun, called, handed, left, is_own, instr_stepped, asked, instr_gone_on, at_alternative, after_choice, frames_stepped, frames_given, frames_gone_on, frames_picked, frames_serving}
use Rattle.code_semantics.proofs.Laws.{found_named, length_padded, length_set}
use Rattle.code_typing.specs.Sorts.{Stack, Declared, Signature, declared_at, signature_named, kind_sort, result_sort, value_sort, temps_by, value_by, signature_of, left_by, pop_fitting, pop_returned, pop_arguments, push_sort, pop_sent, asked_of, fits_sort}
use Rattle.code_typing.specs.Verified.{IsVerified}
use Rattle.compiler_correctness.specs.TypedCode.{Classes, IsOfSort, AreOfSorts, AreOfKinds, kinds_of_frame, left_sort, frame_scope, missing_sorts, IsSortedFrame, AreSortedFrames, IsSortedObject}
use Rattle.compiler_correctness.proofs.Operands.{if_some, push_some, of_fitting, of_result, popped, popped_any, popped_value, popped_arguments, nth_of_kinds, set_of_kinds, padded_of_kinds}
use Rattle.compiler_correctness.proofs.Operators.{operated_makes, operated_left}
use Rattle.compiler_correctness.proofs.ShapedKinds.{class_shaped, kinds_of_method}
use Rattle.compiler_correctness.proofs.SendDestination.{asks_class, Asks, sent_operands, asks_object}
use Rattle.compiler_correctness.proofs.Frames.{leaves_stack, moves, settled_sorted, under_same, under_no_own}

-- a value at the end of a method fits what its call leaves
returned_fits : (at : Classes) (q : Option MethodKinds) (vs : List Value) (ss r : Stack) → AreOfSorts at vs ss → pop_returned (value_by q) ss ≡ Some r → IsOfSort at (top vs) (left_sort q)
returned_fits at None vs ss r h e = absurd (let z : None ≡ Some r = e in cc)
returned_fits at (Some q) vs [] r h e = absurd (let z : None ≡ Some r = e in cc)
returned_fits at (Some q) (v ∷ vs) (s ∷ []) r h e =
    of_result at v q.result (of_fitting at v s (value_sort q.result) h.0 (if_some (fits_sort s (value_sort q.result)) [] r e).0)
returned_fits at (Some q) [] (s ∷ []) r h e = absurd h
returned_fits at (Some q) vs (s ∷ t ∷ ss) r h e = absurd (let z : None ≡ Some r = e in cc)

among_alternatives : (alts : List AltCode) (j : ℕ) (a : AltCode) → slice_get alts j ≡ Some a → IsAmong a.at (map (λ b. b.at) alts)
among_alternatives [] j a e = absurd (let z : None ≡ Some a = e in cc)
among_alternatives (b ∷ alts) zero a e = inl (ap (λ (x : AltCode). x.at) (same_some e))
among_alternatives (b ∷ alts) (suc j) a e = inr (among_alternatives alts j a e)

pub length_take : {X : Type 0} (n : ℕ) (xs : List X) → n ≤ length xs → length (take n xs) ≡ n
length_take zero xs h = refl
length_take (suc n) [] h = absurd (omega (arith, h))
length_take (suc n) (x ∷ xs) h = ap suc (length_take n xs (omega (arith, h)))

pub length_replicate : {X : Type 0} (n : ℕ) (x : X) → length (replicate n x) ≡ n
length_replicate zero x = refl
length_replicate (suc n) x = ap suc (length_replicate n x)

-- the signature of a method that is there
pub signature_is : (k : Declared) (m : NameId) (r : Numbered) (s : Signature) → method_named (Some k.code) m ≡ Some r → signature_named k m ≡ Some s
    → (q : MethodKinds) × (slice_get k.kinds.methods r.place ≡ Some q) × (signature_of r.code q ≡ s)
signature_is k m r s e g =
    let a = given_by (slice_get k.kinds.methods r.place) (λ q. Some (signature_of r.code q)) s (rw e at g) in (a.0, a.1, same_some a.2)

module _ (f : UnitFile) (shaped : IsShaped f) (good : IsVerified f) (x : CodeObject) (k : Declared) (is_class : declared_at f x.class ≡ Some k) (at : Classes)
    (vars : AreOfKinds at x.vars k.kinds.vars) where
  lands : (y : CodeObject) (a : Frame) (fs : List Frame) → y.class ≡ x.class → AreOfKinds at y.vars k.kinds.vars → IsSortedFrame f at k [] a → AreSortedFrames f at k (Some a) fs
      → IsSortedObject f at (at_rest (Some k.code) y a fs) × (y.class ≡ x.class)
  lands y a fs same vs t under =
      let r = settled_sorted f shaped good x.class k is_class at a t in (
        record {
          class = k;
          is_class = ap (declared_at f) same ∙ is_class;
          vars = vs;
          frames = (r.sorted, under_same f shaped good x.class k is_class at a (settled (code_of (Some k.code) a.method) a) fs r.method r.serves under);
        },
        same,
      )

  module _ (a : Frame) (fs : List Frame) (t : IsSortedFrame f at k [] a) (under : AreSortedFrames f at k (Some a) fs) (same : IsSortedObject f at x) where
    -- its values fit, and it is of the same class
    abbrev pub Sorted : CodeObject → Type 0
    Sorted y = IsSortedObject f at y × (y.class ≡ x.class)

    -- a method that begins over this frame
    begins : (m : NameId) (r : Numbered) (s : Signature) (args : List Value) (w : Serves) (b : Frame) → method_named (Some k.code) m ≡ Some r → signature_named k m ≡ Some s
        → AreOfKinds at args s.params → IsSortedFrame f at k (missing_sorts k (Some (begun r args w))) b → b.method ≡ a.method → b.serves ≡ a.serves
        → Sorted (at_rest (Some k.code) x (begun r args w) (b ∷ fs))
    begins m r s args w b e g fit tb bm bs =
        lands x (begun r args w) (b ∷ fs) refl vars (record {
          stack = [];
          reached = (0, (refl, refl));
          operands = tt;
          has_temps = (r.code, found, length_padded r.code.temps (take r.code.params args));
          temps = subst (λ q. AreOfKinds at (padded r.code.temps (take r.code.params args)) (temps_by q)) (sym kinds.1)
              (subst (λ n. AreOfKinds at (padded n (take r.code.params args)) kinds.0.temps) (sym kinds.2)
              (padded_of_kinds at kinds.0.temps r.code.params args (subst (AreOfKinds at args) (sym sig) fit)));
        }) (tb, under_same f shaped good x.class k is_class at a b fs bm bs under)
      where
        found : slice_get k.code.methods r.place ≡ Some r.code
        found = found_named k.code m r e

        kinds : (q : MethodKinds) × (slice_get k.kinds.methods r.place ≡ Some q) × (r.code.temps ≡ length q.temps)
        kinds = kinds_of_method k.code.methods k.kinds.methods r.place r.code (class_shaped f shaped x.class k is_class).1 found

        sig : take r.code.params kinds.0.temps ≡ s.params
        sig =
            let q = signature_is k m r s e g in
            ap (λ (z : MethodKinds). take r.code.params z.temps) (same_some (sym kinds.1 ∙ q.1)) ∙ ap (λ (z : Signature). z.params) q.2

    -- the frame goes to another place
    to : (i : Instr) (place : ℕ) (operands : List Value) (r : Stack) → slice_get (code_of (Some k.code) a.method) a.at ≡ Some i → IsAmong place (nexts a.at i)
        → left_by (frame_scope f k a.method) i t.stack ≡ Some r → AreOfSorts at operands r
        → Sorted (at_rest (Some k.code) x (record a { at = place; operands = operands }) fs)
    to i place operands r e p l os =
        lands x (record a { at = place; operands = operands }) fs refl vars (moves f shaped good x.class k is_class at [] a t i e place [] a.temps operands r l p os refl t.temps)
        (under_same f shaped good x.class k is_class at a (record a { at = place; operands = operands }) fs refl refl under)

    -- to the next one
    goes : (i : Instr) (operands : List Value) (r : Stack) → slice_get (code_of (Some k.code) a.method) a.at ≡ Some i → IsAmong (suc a.at) (nexts a.at i)
        → left_by (frame_scope f k a.method) i t.stack ≡ Some r → AreOfSorts at operands r → Sorted (at_rest (Some k.code) x (next a operands) fs)
    goes i operands r e p l os = to i (suc a.at) operands r e p l os

    stack_of : (i : Instr) → slice_get (code_of (Some k.code) a.method) a.at ≡ Some i → (r : Stack) × (left_by (frame_scope f k a.method) i t.stack ≡ Some r)
    stack_of i e = leaves_stack f shaped good x.class k is_class at [] a t i e

    -- a value for the frame under the method of an own call
    hands : (bs : List Frame) → AreSortedFrames f at k (Some a) bs → (v : Value) → is_own a.serves ≡ true → IsOfSort at v (left_sort (kinds_of_frame k a.method))
        → Sorted (handed (Some k.code) x v bs)
    hands [] h v own p = (same, refl)
    hands (b ∷ bs) h v own p =
        let u = subst (λ q. IsSortedFrame f at k (if q then left_sort (kinds_of_frame k a.method) ∷ [] else []) b) own h.0 in
        lands x (record b { operands = v ∷ b.operands }) bs refl vars (record {
          stack = left_sort (kinds_of_frame k a.method) ∷ u.stack;
          reached = u.reached;
          operands = (p, u.operands);
          has_temps = u.has_temps;
          temps = u.temps;
        }) (under_same f shaped good x.class k is_class at b (record b { operands = v ∷ b.operands }) bs refl refl h.1)

    -- another method leaves the frame under it as it is
    leaves_off : (bs : List Frame) → AreSortedFrames f at k (Some a) bs → is_own a.serves ≡ false → Sorted (left (Some k.code) x bs)
    leaves_off [] h own = (same, refl)
    leaves_off (b ∷ bs) h own =
        let u = subst (λ q. IsSortedFrame f at k (if q then left_sort (kinds_of_frame k a.method) ∷ [] else []) b) own h.0 in
        lands x b bs refl vars u h.1

    ends_by : (b : Bool) → is_own a.serves ≡ b → (y z : CodeObject) → (is_own a.serves ≡ true → Sorted y) → (is_own a.serves ≡ false → Sorted z)
        → Sorted (if is_own a.serves then y else z)
    ends_by true e y z p q = subst (λ d. Sorted (if d then y else z)) (sym e) (p e)
    ends_by false e y z p q = subst (λ d. Sorted (if d then y else z)) (sym e) (q e)

    branch_among : (b : Bool) (n : ℕ) → IsAmong (if b then suc a.at else n) (nexts a.at (I.Branch n))
    branch_among true n = inl refl
    branch_among false n = inr (inl refl)

    calls : (m : NameId) → slice_get (code_of (Some k.code) a.method) a.at ≡ Some (I.Call m) → (r : Option Numbered) → method_named (Some k.code) m ≡ r
        → Sorted (called (Some k.code) x a fs r)
    calls m e None q = (same, refl)
    calls m e (Some r) q =
        let l = stack_of (I.Call m) e in
        let s = given_by (signature_named k m) (λ s. push_sort (result_sort s.outcome) (pop_arguments s.params t.stack)) l.0 l.1 in
        let p = push_some (result_sort s.0.outcome) (pop_arguments s.0.params t.stack) l.0 s.2 in
        let n : length s.0.params ≡ r.code.params = count m r s.0 q s.1 in
        let os = popped_arguments at s.0.params a.operands t.stack p.0 t.operands p.1 in
        let z = signature_is k m r s.0 q s.1 in
        begins m r s.0 (taken r.code.params a.operands []) S.Own (next a (dropped r.code.params a.operands)) q s.1 (subst (λ c. AreOfKinds at (taken c a.operands []) s.0.params) n os.0)
        (subst (λ q. IsSortedFrame f at k (left_sort q ∷ []) (next a (dropped r.code.params a.operands))) (sym z.1)
        (moves f shaped good x.class k is_class at [] a t (I.Call m) e (suc a.at) (result_sort z.0.result ∷ []) a.temps (dropped r.code.params a.operands) p.0
        (l.1 ∙ ap Some (sym p.2 ∙ ap (λ (d : Signature). result_sort d.outcome ∷ p.0) (sym z.2))) (inl refl) (subst (λ c. AreOfSorts at (dropped c a.operands) p.0) n os.1) refl t.temps)) refl refl
      where
        -- a method has no more parameters than kinds of temps
        count : (m : NameId) (r : Numbered) (s : Signature) → method_named (Some k.code) m ≡ Some r → signature_named k m ≡ Some s → length s.params ≡ r.code.params
        count m r s e g =
            let z = signature_is k m r s e g in
            let found = found_named k.code m r e in
            let d = kinds_of_method k.code.methods k.kinds.methods r.place r.code (class_shaped f shaped x.class k is_class).1 found in
            let h = ((good.headings x.class k is_class).methods r.place r.code z.0 found z.1).limits in
            let same : d.0 ≡ z.0 = same_some (sym d.1 ∙ z.1) in
            let long : r.code.params ≤ length d.0.temps = omega (arith, h.2, d.2) in
            ap (λ (y : Signature). length y.params) (sym z.2) ∙ length_take r.code.params z.0.temps (subst (λ (y : MethodKinds). r.code.params ≤ length y.temps) same long)

    stepped : (o : ℕ) → at o ≡ Some k.code.name.0 → (i : Option Instr) → slice_get (code_of (Some k.code) a.method) a.at ≡ i → Sorted (instr_stepped (Some k.code) o x a fs i)
    stepped o me (Some (I.LoadI n)) e =
        let l = stack_of (I.LoadI n) e in
        let s = given_by (slice_get k.kinds.vars n) (λ d. Some (kind_sort d ∷ t.stack)) l.0 l.1 in
        goes (I.LoadI n) (nth x.vars n ∷ a.operands) (kind_sort s.0 ∷ t.stack) e (inl refl) (l.1 ∙ sym s.2) (nth_of_kinds at x.vars k.kinds.vars n s.0 vars s.1, t.operands)
    stepped o me (Some (I.LoadT n)) e =
        let l = stack_of (I.LoadT n) e in
        let s = given_by (slice_get (frame_scope f k a.method).temps n) (λ d. Some (kind_sort d ∷ t.stack)) l.0 l.1 in
        goes (I.LoadT n) (nth a.temps n ∷ a.operands) (kind_sort s.0 ∷ t.stack) e (inl refl) (l.1 ∙ sym s.2)
        (nth_of_kinds at a.temps (frame_scope f k a.method).temps n s.0 t.temps s.1, t.operands)
    stepped o me (Some I.SelfRef) e =
        goes I.SelfRef (V.Ref o ∷ a.operands) (ClassSort k.code.name.0 ∷ t.stack) e (inl refl) refl ((k.code.name.0, me, refl), t.operands)
    stepped o me (Some (I.StoreI n)) e =
        let l = stack_of (I.StoreI n) e in
        let s = given_by (slice_get k.kinds.vars n) (λ d. pop_fitting (kind_sort d) t.stack) l.0 l.1 in
        let p = popped at (kind_sort s.0) a.operands t.stack l.0 t.operands s.2 in
        lands (record x { vars = slice_set x.vars n (top a.operands) }) (next a (below a.operands)) fs refl (set_of_kinds at x.vars k.kinds.vars n s.0 (top a.operands) vars s.1 p.0)
        (moves f shaped good x.class k is_class at [] a t (I.StoreI n) e (suc a.at) [] a.temps (below a.operands) l.0 l.1 (inl refl) p.1 refl t.temps)
        (under_same f shaped good x.class k is_class at a (next a (below a.operands)) fs refl refl under)
    stepped o me (Some (I.StoreT n)) e =
        let l = stack_of (I.StoreT n) e in
        let s = given_by (slice_get (frame_scope f k a.method).temps n) (λ d. pop_fitting (kind_sort d) t.stack) l.0 l.1 in
        let p = popped at (kind_sort s.0) a.operands t.stack l.0 t.operands s.2 in
        lands x (next (record a { temps = slice_set a.temps n (top a.operands) }) (below a.operands)) fs refl vars
        (moves f shaped good x.class k is_class at [] a t (I.StoreT n) e (suc a.at) [] (slice_set a.temps n (top a.operands)) (below a.operands) l.0 l.1 (inl refl) p.1
        (length_set a.temps n (top a.operands)) (set_of_kinds at a.temps (frame_scope f k a.method).temps n s.0 (top a.operands) t.temps s.1 p.0))
        (under_same f shaped good x.class k is_class at a (next (record a { temps = slice_set a.temps n (top a.operands) }) (below a.operands)) fs refl refl under)
    stepped o me (Some (I.Oper op)) e =
        let l = stack_of (I.Oper op) e in
        let p = operated_left at op a.operands t.stack l.0 t.operands l.1 in
        goes (I.Oper op) (outcome_value (operated op a.operands) ∷ dropped (arity op) a.operands) (op_sort op ∷ p.0) e (inl refl) (l.1 ∙ ap Some (sym p.1))
        (operated_makes at op a.operands, p.2)
    stepped o me (Some I.Pop) e =
        let l = stack_of I.Pop e in goes I.Pop (below a.operands) l.0 e (inl refl) l.1 (popped_any at a.operands t.stack l.0 t.operands l.1)
    stepped o me (Some (I.Branch n)) e =
        let l = stack_of (I.Branch n) e in
        to (I.Branch n) (if is_true (top a.operands) then suc a.at else n) (below a.operands) l.0 e (branch_among (is_true (top a.operands)) n) l.1
        (popped at BoolSort a.operands t.stack l.0 t.operands l.1).1
    stepped o me (Some I.Loop) e = goes I.Loop a.operands t.stack e (inl refl) refl t.operands
    stepped o me (Some (I.Call m)) e = calls m e (method_named (Some k.code) m) refl
    stepped o me (Some I.Ret) e =
        let l = stack_of I.Ret e in
        ends_by (is_own a.serves) refl (handed (Some k.code) x (top a.operands) fs) (left (Some k.code) x fs)
        (λ own. hands fs under (top a.operands) own (returned_fits at (kinds_of_frame k a.method) a.operands t.stack l.0 t.operands l.1)) (λ own. leaves_off fs under own)
    stepped o me _ e = (same, refl)

    -- what is kept by what an instruction does, for each kind
    abbrev pub Chooses : Option Instr → Type 0
    Chooses i =
        ((n : ℕ) → Sorted (at_rest (Some k.code) x (after_choice a n i) fs))
        × ((n : ℕ) (m : NameId) (r : Numbered) (s : Signature) (args : List Value) (w : Serves) → method_named (Some k.code) m ≡ Some r → signature_named k m ≡ Some s
        → AreOfKinds at args s.params → is_own w ≡ false → Sorted (at_rest (Some k.code) x (begun r args w) (after_choice a n i ∷ fs)))

    abbrev pub Gives : Option Instr → Sort → Type 0
    Gives i q = (v : Value) → IsOfSort at v q → Sorted (at_rest (Some k.code) x (next a (v ∷ dropped (asked i) a.operands)) fs)

    abbrev pub KeptBy : Option Instr → C.Kind → Type 0
    KeptBy i C.Local = (o : ℕ) → at o ≡ Some k.code.name.0 → Sorted (instr_stepped (Some k.code) o x a fs i)
    KeptBy i (C.New c) = Gives i (ClassSort c.0)
    KeptBy i (C.Send b m args) = (s : Signature) × Asks f at b m args s × Gives i (result_sort s.outcome)
    KeptBy i (C.Async b m args) = (s : Signature) × Asks f at b m args s × Sorted (instr_gone_on (Some k.code) x a fs i)
    KeptBy i (C.Write item) = Sorted (instr_gone_on (Some k.code) x a fs i)
    KeptBy i (C.Answer names) = Chooses i
    KeptBy i (C.Select alts) = Chooses i
    KeptBy i (C.Return c n v) = (a.serves ≡ S.Caller c n) × IsOfSort at v (left_sort (kinds_of_frame k a.method)) × Sorted (instr_gone_on (Some k.code) x a fs i)
    KeptBy i (C.Fault e) = Unit {0}
    KeptBy i C.Finished = Unit {0}

    kept_outcome : (i : Option Instr) (o : Outcome) → KeptBy i C.Local → KeptBy i (outcome_kind o)
    kept_outcome i (Values.Gives v) h = h
    kept_outcome i (Fails e) h = tt
    kept_outcome i WrongSort h = tt

    kept_branch : (i : Option Instr) (b : Bool) → KeptBy i C.Local → KeptBy i (if b then C.Local else C.Fault NilOperand)
    kept_branch i true h = h
    kept_branch i false h = tt

    kept_sent : (i : Option Instr) (v : Value) (go : ℕ → C.Kind) → ((b : ℕ) → v ≡ V.Ref b → KeptBy i (go b)) → KeptBy i (sent_kind v go)
    kept_sent i (V.Ref b) go h = h b refl
    kept_sent i (V.Int z) go h = tt
    kept_sent i (V.Bool b) go h = tt
    kept_sent i V.Nil go h = tt

    kept_select : (i : Option Instr) (alts : List AltCode) (vs : List Value) → Chooses i → KeptBy i (select_kind alts vs)
    kept_select i alts vs h = by (list_any not_bool vs) (list_any is_true vs)
      where
        by : (n t : Bool) → KeptBy i (if n then C.Fault NilOperand else (if t then C.Select (offers alts vs) else C.Fault NoOpenGuard))
        by true t = tt
        by false true = h
        by false false = tt

    kept_return : (w : Serves) (v : Value) → a.serves ≡ w → IsOfSort at v (left_sort (kinds_of_frame k a.method)) → KeptBy (Some I.Ret) C.Local
        → (is_own w ≡ false → Sorted (instr_gone_on (Some k.code) x a fs (Some I.Ret))) → KeptBy (Some I.Ret) (return_kind w v)
    kept_return (S.Caller c n) v e p local gone = (e, p, gone refl)
    kept_return S.Own v e p local gone = local
    kept_return S.Sender v e p local gone = local

    kept_post : (w : Serves) (v : Value) → a.serves ≡ w → IsOfSort at v (left_sort (kinds_of_frame k a.method)) → KeptBy (Some I.Post) C.Local
        → (is_own w ≡ false → Sorted (instr_gone_on (Some k.code) x a fs (Some I.Post))) → KeptBy (Some I.Post) (return_kind w v)
    kept_post (S.Caller c n) v e p local gone = (e, p, gone refl)
    kept_post S.Own v e p local gone = local
    kept_post S.Sender v e p local gone = local

    -- the frame after a choice fits, and is of the same method and for the same caller
    abbrev ChoiceFits : ℕ → Option Instr → Type 0
    ChoiceFits n i = IsSortedFrame f at k [] (after_choice a n i) × ((after_choice a n i).method ≡ a.method) × ((after_choice a n i).serves ≡ a.serves)

    chooses : (i : Option Instr) → ((n : ℕ) → ChoiceFits n i) → Chooses i
    chooses i h = (
      λ n. let c = h n in lands x (after_choice a n i) fs refl vars c.0 (under_same f shaped good x.class k is_class at a (after_choice a n i) fs c.1 c.2 under),
      λ n m r s args w e g fit own. let c = h n in
          begins m r s args w (after_choice a n i) e g fit
          (subst (λ q. IsSortedFrame f at k (if q then left_sort (kinds_of_frame k (Some r.place)) ∷ [] else []) (after_choice a n i)) (sym own) c.0) c.1 c.2,
    )

    answer_fits : (names : List NameId) → slice_get (code_of (Some k.code) a.method) a.at ≡ Some (I.Answer names) → (n : ℕ) → ChoiceFits n (Some (I.Answer names))
    answer_fits names e n = (moves f shaped good x.class k is_class at [] a t (I.Answer names) e (suc a.at) [] a.temps a.operands t.stack refl (inl refl) t.operands refl t.temps, refl, refl)

    select_fits : (alts : List AltCode) → slice_get (code_of (Some k.code) a.method) a.at ≡ Some (I.Select alts) → (n : ℕ) → ChoiceFits n (Some (I.Select alts))
    select_fits alts e n = by (slice_get alts (n - 1)) refl
      where
        by : (b : Option AltCode) → slice_get alts (n - 1) ≡ b
            → IsSortedFrame f at k [] (at_alternative a (length alts) b) × ((at_alternative a (length alts) b).method ≡ a.method) × ((at_alternative a (length alts) b).serves ≡ a.serves)
        by None q = (t, refl, refl)
        by (Some b) q =
            let l = stack_of (I.Select alts) e in
            let os = popped_arguments at (replicate (length alts) D.Bool) a.operands t.stack l.0 t.operands l.1 in (
              moves f shaped good x.class k is_class at [] a t (I.Select alts) e b.at [] a.temps (dropped (length alts) a.operands) l.0 l.1 (among_alternatives alts (n - 1) b q)
                  (subst (λ c. AreOfSorts at (dropped c a.operands) l.0) (length_replicate (length alts) D.Bool) os.1) refl t.temps,
              refl,
              refl,
            )

    kept_local : (i : Option Instr) → slice_get (code_of (Some k.code) a.method) a.at ≡ i → KeptBy i C.Local
    kept_local i e o me = stepped o me i e

    pub kept_at : (i : Option Instr) → slice_get (code_of (Some k.code) a.method) a.at ≡ i → KeptBy i (instr_kind a i)
    kept_at (Some (I.Oper op)) e = kept_outcome (Some (I.Oper op)) (operated op a.operands) (kept_local (Some (I.Oper op)) e)
    kept_at (Some (I.Branch n)) e = kept_branch (Some (I.Branch n)) (is_bool (top a.operands)) (kept_local (Some (I.Branch n)) e)
    kept_at (Some I.Ret) e =
        let l = stack_of I.Ret e in
        kept_return a.serves (top a.operands) refl (returned_fits at (kinds_of_frame k a.method) a.operands t.stack l.0 t.operands l.1) (kept_local (Some I.Ret) e) (λ own. leaves_off fs under own)
    kept_at (Some (I.New c)) e =
        let l = stack_of (I.New c) e in
        let r = required (is_some _) (Some (ClassSort c.0 ∷ t.stack)) l.0 l.1 in
        λ v p. goes (I.New c) (v ∷ a.operands) (ClassSort c.0 ∷ t.stack) e (inl refl) (l.1 ∙ sym r.1) (p, t.operands)
    kept_at (Some (I.Send m n)) e =
        let l = stack_of (I.Send m n) e in
        let s = given_by (asked_of f (slice_get t.stack n) m n) (λ s. push_sort (result_sort s.outcome) (pop_sent t.stack s)) l.0 l.1 in
        let p = push_some (result_sort s.0.outcome) (pop_sent t.stack s.0) l.0 s.2 in
        let q = asks_class f (slice_get t.stack n) m n s.0 s.1 in
        let os = sent_operands at s.0 n a.operands t.stack p.0 q.count t.operands p.1 in
        kept_sent (Some (I.Send m n)) (top (dropped n a.operands)) (λ b. C.Send b m (taken n a.operands [])) (λ b v. (
          s.0,
          asks_object at f n m s.0 a.operands t.stack (taken n a.operands []) b t.operands s.1 v os.0,
          λ v w. goes (I.Send m n) (v ∷ dropped (suc n) a.operands) (result_sort s.0.outcome ∷ p.0) e (inl refl) (l.1 ∙ ap Some (sym p.2)) (w, os.1),
        ))
    kept_at (Some (I.Async m n)) e =
        let l = stack_of (I.Async m n) e in
        let s = given_by (asked_of f (slice_get t.stack n) m n) (λ s. pop_sent t.stack s) l.0 l.1 in
        let q = asks_class f (slice_get t.stack n) m n s.0 s.1 in
        let os = sent_operands at s.0 n a.operands t.stack l.0 q.count t.operands s.2 in
        kept_sent (Some (I.Async m n)) (top (dropped n a.operands)) (λ b. C.Async b m (taken n a.operands [])) (λ b v. (
          s.0,
          asks_object at f n m s.0 a.operands t.stack (taken n a.operands []) b t.operands s.1 v os.0,
          goes (I.Async m n) (dropped (suc n) a.operands) l.0 e (inl refl) l.1 os.1,
        ))
    kept_at (Some I.Write) e =
        let l = stack_of I.Write e in goes I.Write (below a.operands) l.0 e (inl refl) l.1 (popped_value at a.operands t.stack l.0 t.operands l.1)
    kept_at (Some (I.WriteText s)) e = goes (I.WriteText s) a.operands t.stack e (inl refl) refl t.operands
    kept_at (Some (I.Answer names)) e = chooses (Some (I.Answer names)) (answer_fits names e)
    kept_at (Some (I.Select alts)) e = kept_select (Some (I.Select alts)) alts (taken (length alts) a.operands []) (chooses (Some (I.Select alts)) (select_fits alts e))
    kept_at (Some I.Halt) e = tt
    kept_at (Some I.Post) e =
        let l = stack_of I.Post e in
        let r = given_by (pop_returned (frame_scope f k a.method).value t.stack) (λ rest. Some t.stack) l.0 l.1 in
        let m = moves f shaped good x.class k is_class at [] a t I.Post e (suc a.at) [] a.temps a.operands t.stack (l.1 ∙ sym r.2) (inl refl) t.operands refl t.temps in
        kept_post a.serves (top a.operands) refl (returned_fits at (kinds_of_frame k a.method) a.operands t.stack r.0 t.operands r.1) (kept_local (Some I.Post) e)
        (λ own. lands x (next (record a { serves = S.Sender }) a.operands) fs refl vars
        (record { stack = m.stack; reached = m.reached; operands = m.operands; has_temps = m.has_temps; temps = m.temps })
        (under_no_own f shaped good x.class k is_class at a (next (record a { serves = S.Sender }) a.operands) fs refl (sym own) under))
    kept_at None e = tt
    kept_at (Some (I.PushInt z)) e = kept_local (Some (I.PushInt z)) e
    kept_at (Some (I.PushBool b)) e = kept_local (Some (I.PushBool b)) e
    kept_at (Some I.PushNil) e = kept_local (Some I.PushNil) e
    kept_at (Some (I.Jump n)) e = kept_local (Some (I.Jump n)) e
    kept_at (Some (I.LoadI n)) e = kept_local (Some (I.LoadI n)) e
    kept_at (Some (I.LoadT n)) e = kept_local (Some (I.LoadT n)) e
    kept_at (Some I.SelfRef) e = kept_local (Some I.SelfRef) e
    kept_at (Some (I.StoreI n)) e = kept_local (Some (I.StoreI n)) e
    kept_at (Some (I.StoreT n)) e = kept_local (Some (I.StoreT n)) e
    kept_at (Some I.Pop) e = kept_local (Some I.Pop) e
    kept_at (Some I.Loop) e = kept_local (Some I.Loop) e
    kept_at (Some (I.Call m)) e = kept_local (Some (I.Call m)) e

  -- what is kept by what the frames do
  module _ (same : IsSortedObject f at x) where
    abbrev pub Stays : CodeObject → Type 0
    Stays y = IsSortedObject f at y × (y.class ≡ x.class)

    abbrev pub Picks : Option ClassCode → List Frame → Type 0
    Picks c fs =
        ((n : ℕ) → Stays (frames_picked c x n fs))
        × ((n : ℕ) (m : NameId) (r : Numbered) (s : Signature) (args : List Value) (w : Serves) → method_named c m ≡ Some r → signature_named k m ≡ Some s
        → AreOfKinds at args s.params → is_own w ≡ false → Stays (frames_serving c x n r args w fs))

    abbrev pub Takes : Option ClassCode → List Frame → Sort → Type 0
    Takes c fs q = (v : Value) → IsOfSort at v q → Stays (frames_given c x v fs)

    -- the frame on top serves the caller of this number, and leaves this value
    abbrev pub Leaves : List Frame → ℕ → ℕ → Value → Type 0
    Leaves fs c n v = (a : Frame) × (rest : List Frame) × (fs ≡ a ∷ rest) × (a.serves ≡ S.Caller c n) × IsOfSort at v (left_sort (kinds_of_frame k a.method))

    abbrev pub KeptIn : Option ClassCode → List Frame → C.Kind → Type 0
    KeptIn c fs C.Local = (o : ℕ) → at o ≡ Some k.code.name.0 → Stays (frames_stepped c o x fs)
    KeptIn c fs (C.New n) = Takes c fs (ClassSort n.0)
    KeptIn c fs (C.Send b m args) = (s : Signature) × Asks f at b m args s × Takes c fs (result_sort s.outcome)
    KeptIn c fs (C.Async b m args) = (s : Signature) × Asks f at b m args s × Stays (frames_gone_on c x fs)
    KeptIn c fs (C.Write item) = Stays (frames_gone_on c x fs)
    KeptIn c fs (C.Answer names) = Picks c fs
    KeptIn c fs (C.Select alts) = Picks c fs
    KeptIn c fs (C.Return q n v) = Leaves fs q n v × Stays (frames_gone_on c x fs)
    KeptIn c fs (C.Fault e) = Unit {0}
    KeptIn c fs C.Finished = Unit {0}

    kept_top : (a : Frame) (fs : List Frame) (t : IsSortedFrame f at k [] a) (under : AreSortedFrames f at k (Some a) fs) (q : C.Kind)
        → KeptBy a fs t under same (slice_get (code_of (Some k.code) a.method) a.at) q → KeptIn (Some k.code) (a ∷ fs) q
    kept_top a fs t under C.Local h = h
    kept_top a fs t under (C.New n) h = h
    kept_top a fs t under (C.Send b m args) h = h
    kept_top a fs t under (C.Async b m args) h = h
    kept_top a fs t under (C.Write item) h = h
    kept_top a fs t under (C.Answer names) h = h
    kept_top a fs t under (C.Select alts) h = h
    kept_top a fs t under (C.Return q n v) h = ((a, fs, refl, h.0, h.1), h.2)
    kept_top a fs t under (C.Fault e) h = tt
    kept_top a fs t under C.Finished h = tt

    pub kept_in : (fs : List Frame) → AreSortedFrames f at k None fs → KeptIn (Some k.code) fs (frames_kind (Some k.code) fs)
    kept_in [] h = tt
    kept_in (a ∷ fs) h =
        let i = slice_get (code_of (Some k.code) a.method) a.at in kept_top a fs h.0 h.1 (instr_kind a i) (kept_at a fs h.0 h.1 same i refl)
