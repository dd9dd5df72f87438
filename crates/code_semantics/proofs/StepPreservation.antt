-- Each step of an object of a proper unit gives an object of the unit that is at a step instruction.
use Rattle.std.proofs.Common.{◌≡◌, inl, inr, refl, sym, ap, ◌∙◌, subst, ℕ, zero, suc, ◌+◌, ◌-◌, ◌≤◌, ◌==◌, List, [], ◌∷◌, length, Option, Some, None, Bool, true, false, arith}
use Rattle.std.specs.Prelude.{slice_get, slice_set, map, take, if◌then◌else◌}
use Rattle.std.specs.List.{list_any}
use Rattle.run_types.specs.declared.types.NameId.{NameId}
use Rattle.run_types.specs.declared.types.Value.{Value}
use Rattle.run_types.specs.declared.types.Value.TheVariants as V
use Rattle.run_types.specs.declared.types.Serves.{Serves}
use Rattle.run_types.specs.declared.types.Serves.TheVariants as S
use Rattle.run_types.specs.declared.types.Error.TheVariants.{NilOperand, NoOpenGuard}
use Rattle.run_types.specs.Values.{Outcome, Gives, Fails, WrongSort, is_bool, is_true, not_bool}
use Rattle.code_semantics.specs.declared.unit.Instr.{Instr}
use Rattle.code_semantics.specs.declared.unit.Instr.TheVariants as I
use Rattle.code_semantics.specs.declared.unit.AltCode.{AltCode}
use Rattle.code_semantics.specs.declared.unit.MethodCode.{MethodCode}
use Rattle.code_semantics.specs.declared.unit.ClassCode.{ClassCode}
use Rattle.code_semantics.specs.declared.unit.Unit.{Unit as Code}
use Rattle.run_types.specs.declared.frames.Frame.{Frame}
use Rattle.run_types.specs.declared.frames.CodeObject.{CodeObject}
use Rattle.code_semantics.specs.Frames.{code_of, next}
use Rattle.run_types.specs.Operands.{top, below, dropped, taken, nth, padded}
use Rattle.code_semantics.specs.Kinds as K
use Rattle.code_semantics.specs.Kinds.{Kind, operated, arity, outcome_kind, sent_kind, return_kind, select_kind, offers, instr_kind, frames_kind, code_kind}
use Rattle.code_semantics.specs.Proper.{IsProper}
use Rattle.code_semantics.specs.ReachedPlaces.{params_of, takes, leaves, nexts, IsAmong}
use Rattle.code_semantics.specs.Step.{Numbered, at_rest, outcome_value, method_from, method_named, begun, called, handed, left, is_own, instr_stepped, frames_stepped, asked, frames_given, instr_gone_on, frames_gone_on, at_alternative, after_choice, frames_picked, frames_serving, method_serving}
use Rattle.run_types.specs.Tables.{Each}
use Rattle.code_semantics.specs.OfUnit.{IsFrameOf, missing_under, StandsUnder, AreFramesOf}
use Rattle.code_semantics.specs.MadeNumbers.{HoldsOfPlain, IsMadeIn}
use Rattle.code_semantics.specs.StepInstructions.{IsAsking, IsChoosing, IsGoingOn}
use Rattle.code_semantics.proofs.Elements.{length_dropped, length_padded, length_set, each_dropped, each_take, each_set, each_top, each_nth, each_taken, each_padded, operated_names}
use Rattle.code_semantics.proofs.SilentTermination.{same_some}
use Rattle.code_semantics.proofs.FrameSuccessors.{plain_range, proper_code, moved, with_missing, frame_on_top, in_place, IsReady, missing_else, for_no_one}

-- a method of a name stands at its place
pub found_from : (n : ℕ) (ms : List MethodCode) (m : NameId) (r : Numbered) → method_from n ms m ≡ Some r
    → (j : ℕ) × (r.place ≡ n + j) × (slice_get ms j ≡ Some r.code)
found_from n [] m r h = absurd (grind (arith, h))
found_from n (k ∷ ms) m r h = by (k.name.0 == m.0) refl (found_from (suc n) ms m r)
  where
    by : (b : Bool) → (k.name.0 == m.0) ≡ b → (method_from (suc n) ms m ≡ Some r → (j : ℕ) × (r.place ≡ suc n + j) × (slice_get ms j ≡ Some r.code))
        → (j : ℕ) × (r.place ≡ n + j) × (slice_get (k ∷ ms) j ≡ Some r.code)
    by true e more =
        let s : record { place = n; code = k } ≡ r = same_some (record { place = n; code = k }) r (rw e at h) in
        (0, sym (ap (λ (x : Numbered). x.place) s) ∙ (let z : n ≡ n + 0 = omega arith in z), ap (λ (x : Numbered). Some x.code) s)
    by false e more = let d = more (rw e at h) in (suc d.0, omega (arith, d.1), d.2)

pub found_named : (k : ClassCode) (m : NameId) (r : Numbered) → method_named (Some k) m ≡ Some r → slice_get k.methods r.place ≡ Some r.code
found_named k m r h =
    let d = found_from 0 k.methods m r h in
    ap (slice_get k.methods) (let e : r.place ≡ d.0 = omega (arith, d.1) in e) ∙ d.2

among_alternatives : (alts : List AltCode) (j : ℕ) (a : AltCode) → slice_get alts j ≡ Some a → IsAmong a.at (map (λ b. b.at) alts)
among_alternatives [] j a e = absurd (grind (arith, e))
among_alternatives (b ∷ alts) zero a e = inl (ap (λ (x : AltCode). x.at) (same_some b a e))
among_alternatives (b ∷ alts) (suc j) a e = inr (among_alternatives alts j a e)

-- what a kind made of a value, a test or a caller is not
pub outcome_never : (Q : Kind → Type 0) → (Q K.Local → ⊥) → ((e : _) → Q (K.Fault e) → ⊥) → (o : Outcome) → Q (outcome_kind o) → ⊥
outcome_never Q l f (Gives v) h = l h
outcome_never Q l f (Fails e) h = f e h
outcome_never Q l f WrongSort h = f NilOperand h

pub if_never : (Q : Kind → Type 0) (b : Bool) (x y : Kind) → (Q x → ⊥) → (Q y → ⊥) → Q (if b then x else y) → ⊥
if_never Q true x y p q h = p h
if_never Q false x y p q h = q h

pub sent_never : (Q : Kind → Type 0) (v : Value) (go : ℕ → Kind) → ((b : ℕ) → Q (go b) → ⊥) → ((e : _) → Q (K.Fault e) → ⊥) → Q (sent_kind v go) → ⊥
sent_never Q (V.Ref b) go p f h = p b h
sent_never Q (V.Int z) go p f h = f _ h
sent_never Q (V.Bool b) go p f h = f _ h
sent_never Q V.Nil go p f h = f _ h

pub return_never : (Q : Kind → Type 0) (s : Serves) (v : Value) → (Q K.Local → ⊥) → ((k n : ℕ) → Q (K.Return k n v) → ⊥) → Q (return_kind s v) → ⊥
return_never Q (S.Caller k n) v l r h = r k n h
return_never Q S.Own v l r h = l h
return_never Q S.Sender v l r h = l h

missing_own : (s : Serves) → is_own s ≡ true → missing_under (Some s) ≡ 1
missing_own S.Own e = refl
missing_own (S.Caller k n) e = absurd (grind (arith, e))
missing_own S.Sender e = absurd (grind (arith, e))

-- a value that is returned is another's
for_another : (s : Serves) (v : Value) → IsGoingOn (return_kind s v) → is_own s ≡ false
for_another S.Own v a = absurd a
for_another (S.Caller k n) v a = refl
for_another S.Sender v a = refl

module _ (u : Code) (proper : IsProper u) (P : Value → Type 0) (plain : HoldsOfPlain (IsMadeIn u) P) (x : CodeObject) (Q : CodeObject → Type 0) (k : ClassCode) (is_class : slice_get u.classes x.class ≡ Some k)
    (count : length x.vars ≡ k.vars) (vars : Each P x.vars)
    (lands : (y : CodeObject) (f : Frame) (fs : List Frame) → IsReady u P k y (f ∷ fs) → Q (at_rest (Some k) y f fs)) where
  here : (fs : List Frame) → AreFramesOf k P None fs → IsReady u P k x fs
  here fs h = record { is_class = is_class; count = count; vars = vars; frames = h }

  -- a value is handed to the frame under a method of an own call
  hands : (f : Frame) (fs : List Frame) → AreFramesOf k P None (f ∷ fs) → (v : Value) → is_own f.serves ≡ true → P v → Q x → Q (handed (Some k) x v fs)
  hands f [] h v own p same = same
  hands f (g ∷ fs) h v own p same =
      let t = subst (λ n. IsFrameOf k P n g) (missing_own f.serves own) (frame_on_top k P (Some f) g fs h.3) in
      lands x (record g { operands = v ∷ g.operands }) fs
      (here (record g { operands = v ∷ g.operands } ∷ fs)
      (in_place k P (Some f) None g (record g { operands = v ∷ g.operands }) fs h.3 (with_missing k P 1 0 g (v ∷ g.operands) t (omega arith) (p, t.operands)) tt refl refl))

  -- another method leaves the frame under it as it is
  leaves_off : (f : Frame) (fs : List Frame) → AreFramesOf k P None (f ∷ fs) → is_own f.serves ≡ false → Q x → Q (left (Some k) x fs)
  leaves_off f [] h own same = same
  leaves_off f (g ∷ fs) h own same =
      let t = subst (λ n. IsFrameOf k P n g) (missing_else f.serves own) (frame_on_top k P (Some f) g fs h.3) in
      lands x g fs (here (g ∷ fs) (in_place k P (Some f) None g g fs h.3 t tt refl refl))

  returns_by : (b : Bool) {c : Bool} → c ≡ b → (y z : CodeObject) → (c ≡ true → Q y) → (c ≡ false → Q z) → Q (if c then y else z)
  returns_by true e y z p q = subst (λ d. Q (if d then y else z)) (sym e) (p e)
  returns_by false e y z p q = subst (λ d. Q (if d then y else z)) (sym e) (q e)

  module _ (f : Frame) (fs : List Frame) (h : AreFramesOf k P None (f ∷ fs)) where
    on_top : IsFrameOf k P 0 f
    on_top = frame_on_top k P None f fs h

    -- there are as many operands as the instruction takes
    enough : (i : Instr) → slice_get (code_of (Some k) f.method) f.at ≡ Some i → takes (Some k) i ≤ length f.operands
    enough i e =
        let code = proper_code u k (proper.each x.class k is_class) f.method f.temps on_top.has_temps in
        let s = (code.suffices f.at (0 + length f.operands) on_top.reached).2 in
        let same : s.0 ≡ i = same_some s.0 i (sym s.1 ∙ e) in
        subst (λ j. takes (Some k) j ≤ length f.operands) same (let le : takes (Some k) s.0 ≤ length f.operands = omega (arith, s.2) in le)

    -- the frame at another place, with other temps and operands
    moves : (y : CodeObject) (i : Instr) (at : ℕ) (temps operands : List Value) → slice_get (code_of (Some k) f.method) f.at ≡ Some i → IsAmong at (nexts f.at i)
        → length operands + takes (Some k) i ≡ length f.operands + leaves i → length temps ≡ length f.temps → Each P temps → Each P operands
        → y.class ≡ x.class → length y.vars ≡ k.vars → Each P y.vars
        → Q (at_rest (Some k) y (record f { at = at; temps = temps; operands = operands }) fs)
    moves y i at temps operands e a q same ts os class size each =
        lands y (record f { at = at; temps = temps; operands = operands }) fs
        (record {
          is_class = ap (slice_get u.classes) class ∙ is_class;
          count = size;
          vars = each;
          frames = in_place k P None None f (record f { at = at; temps = temps; operands = operands }) fs h
              (moved k P 0 0 f i at temps operands on_top e a (omega (arith, q)) same ts os) tt refl refl;
        })

    goes : (i : Instr) (operands : List Value) → slice_get (code_of (Some k) f.method) f.at ≡ Some i → IsAmong (suc f.at) (nexts f.at i)
        → length operands + takes (Some k) i ≡ length f.operands + leaves i → Each P operands
        → Q (at_rest (Some k) x (next f operands) fs)
    goes i operands e a q os = moves x i (suc f.at) f.temps operands e a q refl on_top.temps os refl count vars

    -- an instruction takes its operands, and may leave a value
    drops : (i : Instr) (n : ℕ) → slice_get (code_of (Some k) f.method) f.at ≡ Some i → takes (Some k) i ≡ n → length (dropped n f.operands) + n ≡ length f.operands
    drops i n e t = length_dropped n f.operands (subst (λ m. m ≤ length f.operands) t (enough i e))

    each_left : (n : ℕ) → Each P (dropped n f.operands)
    each_left n = each_dropped P n f.operands on_top.operands

    branch_among : (b : Bool) (a : ℕ) → IsAmong (if b then suc f.at else a) (nexts f.at (I.Branch a))
    branch_among true a = inl refl
    branch_among false a = inr (inl refl)

    -- a frame under a method that begins
    begins : (m : NameId) (r : Numbered) (args : List Value) (s : Serves) (g : Frame) → method_named (Some k) m ≡ Some r → Each P args
        → IsFrameOf k P (missing_under (Some s)) g → StandsUnder k (Some (begun r args s)) g → g.method ≡ f.method → g.serves ≡ f.serves
        → Q (at_rest (Some k) x (begun r args s) (g ∷ fs))
    begins m r args s g e each t d method serves =
        let code = found_named k m r e in
        let temps = padded r.code.temps (take r.code.params args) in
        let b : IsFrameOf k P 0 (begun r args s) = record {
          reached = (0, (refl, (let z : 0 + 0 ≡ 0 = omega arith in z)));
          has_temps = (r.code, code, length_padded r.code.temps (take r.code.params args));
          temps = each_padded P (plain_range u P plain) r.code.temps (take r.code.params args) (each_take P r.code.params args each);
          operands = tt;
        } in
        lands x (begun r args s) (g ∷ fs)
        (here (begun r args s ∷ g ∷ fs) (b, tt, refl, in_place k P None (Some (begun r args s)) f g fs h t d method serves))

    calls : (m : NameId) → slice_get (code_of (Some k) f.method) f.at ≡ Some (I.Call m) → Q x → (r : Option Numbered) → method_named (Some k) m ≡ r
        → Q (called (Some k) x f fs r)
    calls m e same None q = same
    calls m e same (Some r) q =
        let n = r.code.params in
        let t : takes (Some k) (I.Call m) ≡ n = ap params_of q in
        let d = drops (I.Call m) n e t in
        begins m r (taken n f.operands []) S.Own (next f (dropped n f.operands)) q (each_taken P (plain_range u P plain) n f.operands [] on_top.operands tt)
        (moved k P 0 1 f (I.Call m) (suc f.at) f.temps (dropped n f.operands) on_top e (inl refl) (omega (arith, d, t)) refl on_top.temps (each_left n))
        (λ o. record { at = f.at; is_next = refl; name = m; call = e; method = r; named = q; is_method = refl }) refl refl

    stepped_at : (o : ℕ) → P (V.Ref o) → Q x → (i : Option Instr) → slice_get (code_of (Some k) f.method) f.at ≡ i → Q (instr_stepped (Some k) o x f fs i)
    stepped_at o p same (Some (I.LoadI n)) e =
        goes (I.LoadI n) (nth x.vars n ∷ f.operands) e (inl refl) (omega arith) (each_nth P (plain_range u P plain) x.vars n vars, on_top.operands)
    stepped_at o p same (Some (I.LoadT n)) e =
        goes (I.LoadT n) (nth f.temps n ∷ f.operands) e (inl refl) (omega arith) (each_nth P (plain_range u P plain) f.temps n on_top.temps, on_top.operands)
    stepped_at o p same (Some I.SelfRef) e = goes I.SelfRef (V.Ref o ∷ f.operands) e (inl refl) (omega arith) (p, on_top.operands)
    stepped_at o p same (Some (I.StoreI n)) e =
        let v = top f.operands in
        moves (record x { vars = slice_set x.vars n v }) (I.StoreI n) (suc f.at) f.temps (below f.operands) e (inl refl) (omega (arith, drops (I.StoreI n) 1 e refl)) refl on_top.temps
        (each_left 1) refl (length_set x.vars n v ∙ count) (each_set P x.vars n v (each_top P (plain_range u P plain) f.operands on_top.operands) vars)
    stepped_at o p same (Some (I.StoreT n)) e =
        let v = top f.operands in
        moves x (I.StoreT n) (suc f.at) (slice_set f.temps n v) (below f.operands) e (inl refl) (omega (arith, drops (I.StoreT n) 1 e refl)) (length_set f.temps n v)
        (each_set P f.temps n v (each_top P (plain_range u P plain) f.operands on_top.operands) on_top.temps) (each_left 1) refl count vars
    stepped_at o p same (Some (I.Oper op)) e =
        goes (I.Oper op) (outcome_value (operated op f.operands) ∷ dropped (arity op) f.operands) e (inl refl) (omega (arith, drops (I.Oper op) (arity op) e refl))
        (operated_names P (plain_range u P plain) op f.operands, each_left (arity op))
    stepped_at o p same (Some I.Pop) e = goes I.Pop (below f.operands) e (inl refl) (omega (arith, drops I.Pop 1 e refl)) (each_left 1)
    stepped_at o p same (Some (I.Branch a)) e =
        moves x (I.Branch a) (if is_true (top f.operands) then suc f.at else a) f.temps (below f.operands) e (branch_among (is_true (top f.operands)) a)
        (omega (arith, drops (I.Branch a) 1 e refl)) refl on_top.temps (each_left 1) refl count vars
    stepped_at o p same (Some I.Loop) e = goes I.Loop f.operands e (inl refl) (omega arith) on_top.operands
    stepped_at o p same (Some (I.Call m)) e = calls m e same (method_named (Some k) m) refl
    stepped_at o p same (Some I.Ret) e =
        returns_by (is_own f.serves) refl (handed (Some k) x (top f.operands) fs) (left (Some k) x fs)
        (λ own. hands f fs h (top f.operands) own (each_top P (plain_range u P plain) f.operands on_top.operands) same) (λ own. leaves_off f fs h own same)
    stepped_at o p same _ e = same

    given_at : (v : Value) → P v → (i : Option Instr) → slice_get (code_of (Some k) f.method) f.at ≡ i → IsAsking (instr_kind f i)
        → Q (at_rest (Some k) x (next f (v ∷ dropped (asked i) f.operands)) fs)
    given_at v p (Some (I.New c)) e a = goes (I.New c) (v ∷ f.operands) e (inl refl) (omega arith) (p, on_top.operands)
    given_at v p (Some (I.Send m n)) e a =
        goes (I.Send m n) (v ∷ dropped (suc n) f.operands) e (inl refl) (omega (arith, drops (I.Send m n) (suc n) e refl)) (p, each_left (suc n))
    given_at v p (Some (I.Oper op)) e a = absurd (outcome_never IsAsking (λ z. z) (λ _ z. z) (operated op f.operands) a)
    given_at v p (Some (I.Branch b)) e a = absurd (if_never IsAsking (is_bool (top f.operands)) K.Local (K.Fault NilOperand) (λ z. z) (λ z. z) a)
    given_at v p (Some I.Ret) e a = absurd (return_never IsAsking f.serves (top f.operands) (λ z. z) (λ _ _ z. z) a)
    given_at v p (Some I.Post) e a = absurd (return_never IsAsking f.serves (top f.operands) (λ z. z) (λ _ _ z. z) a)
    given_at v p (Some (I.Async m n)) e a = absurd (sent_never IsAsking (top (dropped n f.operands)) _ (λ _ z. z) (λ _ z. z) a)
    given_at v p (Some (I.Select alts)) e a =
        let gs = taken (length alts) f.operands [] in
        absurd (if_never IsAsking (list_any not_bool gs) (K.Fault NilOperand) (if list_any is_true gs then K.Select (offers alts gs) else K.Fault NoOpenGuard) (λ z. z)
        (if_never IsAsking (list_any is_true gs) (K.Select (offers alts gs)) (K.Fault NoOpenGuard) (λ z. z) (λ z. z)) a)
    given_at v p _ e a = absurd a

    gone_at : Q x → (i : Option Instr) → slice_get (code_of (Some k) f.method) f.at ≡ i → IsGoingOn (instr_kind f i) → Q (instr_gone_on (Some k) x f fs i)
    gone_at same (Some I.Write) e a = goes I.Write (below f.operands) e (inl refl) (omega (arith, drops I.Write 1 e refl)) (each_left 1)
    gone_at same (Some (I.WriteText s)) e a = goes (I.WriteText s) f.operands e (inl refl) (omega arith) on_top.operands
    gone_at same (Some (I.Async m n)) e a =
        goes (I.Async m n) (dropped (suc n) f.operands) e (inl refl) (omega (arith, drops (I.Async m n) (suc n) e refl)) (each_left (suc n))
    gone_at same (Some I.Ret) e a = leaves_off f fs h (for_another f.serves (top f.operands) a) same
    gone_at same (Some I.Post) e a =
        let g : Frame = next (record f { serves = S.Sender }) f.operands in
        let t = moved k P 0 0 f I.Post (suc f.at) f.temps f.operands on_top e (inl refl) (omega arith) refl on_top.temps on_top.operands in
        lands x g fs (here (g ∷ fs) (for_no_one k P f g fs h (record { reached = t.reached; has_temps = t.has_temps; temps = t.temps; operands = t.operands }) refl
        (for_another f.serves (top f.operands) a) refl))
    gone_at same _ e a = same

    -- the frame after a choice
    choice_frame : (i : ℕ) (s : Option Instr) → slice_get (code_of (Some k) f.method) f.at ≡ s → IsChoosing (instr_kind f s)
        → IsFrameOf k P 0 (after_choice f i s) × ((after_choice f i s).method ≡ f.method) × ((after_choice f i s).serves ≡ f.serves)
    choice_frame i (Some (I.Answer names)) e a =
        (moved k P 0 0 f (I.Answer names) (suc f.at) f.temps f.operands on_top e (inl refl) (omega arith) refl on_top.temps on_top.operands, refl, refl)
    choice_frame i (Some (I.Select alts)) e a = by (slice_get alts (i - 1)) refl
      where
        by : (b : Option AltCode) → slice_get alts (i - 1) ≡ b
            → IsFrameOf k P 0 (at_alternative f (length alts) b) × ((at_alternative f (length alts) b).method ≡ f.method) × ((at_alternative f (length alts) b).serves ≡ f.serves)
        by None q = (on_top, refl, refl)
        by (Some b) q = (
          moved k P 0 0 f (I.Select alts) b.at f.temps (dropped (length alts) f.operands) on_top e (among_alternatives alts (i - 1) b q)
              (omega (arith, drops (I.Select alts) (length alts) e refl)) refl on_top.temps (each_left (length alts)),
          refl,
          refl,
        )
    choice_frame i (Some (I.Oper op)) e a = absurd (outcome_never IsChoosing (λ z. z) (λ _ z. z) (operated op f.operands) a)
    choice_frame i (Some (I.Branch b)) e a = absurd (if_never IsChoosing (is_bool (top f.operands)) K.Local (K.Fault NilOperand) (λ z. z) (λ z. z) a)
    choice_frame i (Some I.Ret) e a = absurd (return_never IsChoosing f.serves (top f.operands) (λ z. z) (λ _ _ z. z) a)
    choice_frame i (Some I.Post) e a = absurd (return_never IsChoosing f.serves (top f.operands) (λ z. z) (λ _ _ z. z) a)
    choice_frame i (Some (I.Send m n)) e a = absurd (sent_never IsChoosing (top (dropped n f.operands)) _ (λ _ z. z) (λ _ z. z) a)
    choice_frame i (Some (I.Async m n)) e a = absurd (sent_never IsChoosing (top (dropped n f.operands)) _ (λ _ z. z) (λ _ z. z) a)
    choice_frame i _ e a = absurd a

    picked_at : (i : ℕ) (s : Option Instr) → slice_get (code_of (Some k) f.method) f.at ≡ s → IsChoosing (instr_kind f s)
        → Q (at_rest (Some k) x (after_choice f i s) fs)
    picked_at i s e a =
        let c = choice_frame i s e a in
        lands x (after_choice f i s) fs (here (after_choice f i s ∷ fs) (in_place k P None None f (after_choice f i s) fs h c.0 tt c.1 c.2))

    serving_at : (i : ℕ) (m : NameId) (r : Numbered) (args : List Value) (w : Serves) (s : Option Instr) → method_named (Some k) m ≡ Some r → Each P args
        → is_own w ≡ false → slice_get (code_of (Some k) f.method) f.at ≡ s → IsChoosing (instr_kind f s)
        → Q (at_rest (Some k) x (begun r args w) (after_choice f i s ∷ fs))
    serving_at i m r args w s q each own e a =
        let c = choice_frame i s e a in
        begins m r args w (after_choice f i s) q each (subst (λ n. IsFrameOf k P n (after_choice f i s)) (sym (missing_else w own)) c.0)
        (λ o. absurd (let z : is_own w ≡ true = o in grind (arith, own, z))) c.1 c.2

  pub stepped_by : (o : ℕ) → P (V.Ref o) → Q x → (fs : List Frame) → AreFramesOf k P None fs → Q (frames_stepped (Some k) o x fs)
  stepped_by o p same [] h = same
  stepped_by o p same (f ∷ fs) h = stepped_at f fs h o p same (slice_get (code_of (Some k) f.method) f.at) refl

  pub given_by : (v : Value) → P v → (fs : List Frame) → AreFramesOf k P None fs → IsAsking (frames_kind (Some k) fs) → Q (frames_given (Some k) x v fs)
  given_by v p [] h a = absurd h
  given_by v p (f ∷ fs) h a = given_at f fs h v p (slice_get (code_of (Some k) f.method) f.at) refl a

  pub gone_by : Q x → (fs : List Frame) → AreFramesOf k P None fs → IsGoingOn (frames_kind (Some k) fs) → Q (frames_gone_on (Some k) x fs)
  gone_by same [] h a = same
  gone_by same (f ∷ fs) h a = gone_at f fs h same (slice_get (code_of (Some k) f.method) f.at) refl a

  pub picked_by : (i : ℕ) (fs : List Frame) → AreFramesOf k P None fs → IsChoosing (frames_kind (Some k) fs) → Q (frames_picked (Some k) x i fs)
  picked_by i [] h a = absurd h
  picked_by i (f ∷ fs) h a = picked_at f fs h i (slice_get (code_of (Some k) f.method) f.at) refl a

  served_by : (i : ℕ) (m : NameId) (r : Numbered) (args : List Value) (w : Serves) (fs : List Frame) → AreFramesOf k P None fs → IsChoosing (frames_kind (Some k) fs)
      → method_named (Some k) m ≡ Some r → Each P args → is_own w ≡ false → Q (frames_serving (Some k) x i r args w fs)
  served_by i m r args w [] h a q each own = absurd h
  served_by i m r args w (f ∷ fs) h a q each own = serving_at f fs h i m r args w (slice_get (code_of (Some k) f.method) f.at) q each own refl a

  pub serving_by : (i : ℕ) (m : NameId) (args : List Value) (w : Serves) (y : CodeObject) → AreFramesOf k P None x.frames → IsChoosing (frames_kind (Some k) x.frames)
      → Each P args → is_own w ≡ false → (r : Option Numbered) → method_named (Some k) m ≡ r → method_serving (Some k) x i r args w ≡ Some y → Q y
  serving_by i m args w y h a each own None q e = absurd (grind (arith, e))
  serving_by i m args w y h a each own (Some r) q e = subst Q (same_some _ y e) (served_by i m r args w x.frames h a q each own)
