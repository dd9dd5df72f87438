-- The invariant of a configuration if one object or two change.
use Rattle.std.proofs.Common.{◌≡◌, ◌≢◌, ◌⊎◌, inl, inr, refl, sym, ap, subst, ◌∙◌, IsTrue, ℕ, ℤ, ◌<◌, List, [], ◌∷◌, length, Option, Some, None}
use Rattle.std.specs.Ordering.{nat_cmp}
use Rattle.std.specs.FinMap.{is_sorted}
use Rattle.run_types.specs.declared.types.Value.{Value}
use Rattle.run_types.specs.declared.types.Value.TheVariants as V
use Rattle.run_types.specs.declared.types.Error.{Error}
use Rattle.code_semantics.specs.declared.unit.ClassCode.{ClassCode}
use Rattle.run_types.specs.declared.frames.CodeObject.{CodeObject}
use Rattle.run_types.specs.declared.frames.Frame.{Frame}
use Rattle.code_semantics.specs.declared.unit.Unit.{Unit as Code}
use Rattle.code_semantics.specs.Kinds as C
use Rattle.code_semantics.specs.Kinds.{code_kind}
use Rattle.run_types.proofs.Laws.{decide, same_some, find_put_same, find_put_other, each_map}
use Rattle.mesh_semantics.proofs.Laws.{there_put, sorted_put, messages_same, messages_other}
use Rattle.mesh_semantics.specs.Act.{id}
use Rattle.mesh_semantics.specs.Kind as K
use Rattle.run_types.specs.Message.{Message}
use Rattle.mesh_semantics.specs.Config.{Config, object_of, messages_of, put_object, put_messages}
use Rattle.run_types.specs.Tables.{Each}
use Rattle.mesh_semantics.specs.Sound.{IsThere}
use Rattle.code_semantics.specs.OfUnit.{IsFrameOf, AreFramesOf, IsObjectOf, missing_under, serves_of}
use Rattle.code_semantics.specs.MadeNumbers.{HoldsOfPlain}
use Rattle.mesh_of_code.specs.Coded.{Placed, coded}
use Rattle.mesh_of_code.specs.CodeInvariant.{Names, serving_for, IsOfCode}

-- what is said of each value, said otherwise

module _ (P Q : Value → Type 0) (to : (v : Value) → P v → Q v) where
  map_frame : (k : ClassCode) (n : ℕ) (f : Frame) → IsFrameOf k P n f → IsFrameOf k Q n f
  map_frame k n f h = record { reached = h.reached; has_temps = h.has_temps; temps = each_map P Q to f.temps h.temps; operands = each_map P Q to f.operands h.operands }

  map_frames : (k : ClassCode) (above : Option Frame) (fs : List Frame) → AreFramesOf k P above fs → AreFramesOf k Q above fs
  map_frames k above [] h = h
  map_frames k above (f ∷ []) h = (map_frame k (missing_under (serves_of above)) f h.0, h.1, h.2, h.3)
  map_frames k above (f ∷ g ∷ fs) h = (map_frame k (missing_under (serves_of above)) f h.0, h.1, h.2, map_frames k (Some f) (g ∷ fs) h.3)

  pub map_object : (u : Code) (x : CodeObject) → IsObjectOf u P x → IsObjectOf u Q x
  map_object u x h = record { class = h.class; is_class = h.is_class; count = h.count; vars = each_map P Q to x.vars h.vars; frames = map_frames h.class None x.frames h.frames }

pub plain_names : {N : ℤ → Type 0} (c : Config Placed) → HoldsOfPlain N (Names c)
plain_names c = (λ z n b e. absurd (cc), λ t b e. absurd (cc), λ b e. absurd (cc))

pub ref_names : (c : Config Placed) (o : ℕ) → IsThere c o → Names c (V.Ref o)
ref_names c o h b e = subst (IsThere c) (number_of e) h
  where
    ref_of : Value → ℕ
    ref_of (V.Ref n) = n
    ref_of _ = 0

    number_of : V.Ref o ≡ V.Ref b → o ≡ b
    number_of i = ap ref_of i

-- one that waits for no one waits for nobody
pub not_served : (s : Option (ℕ × ℕ)) (p : ℕ × ℕ) → s ≡ None → s ≡ Some p → ⊥
not_served s p e i = let z : None ≡ Some p = sym e ∙ i in cc

-- who is there stays there
abbrev pub Stays : Config Placed → Config Placed → Type 0
Stays c d = (b : ℕ) → IsThere c b → IsThere d b

names_stay : (c d : Config Placed) → Stays c d → (v : Value) → Names c v → Names d v
names_stay c d s v h b e = s b (h b e)

pub object_stays : (u : Code) (c d : Config Placed) → Stays c d → (x : CodeObject) → IsObjectOf u (Names c) x → IsObjectOf u (Names d) x
object_stays u c d s x h = map_object (Names c) (Names d) (names_stay c d s) u x h

pub values_stay : (c d : Config Placed) → Stays c d → (vs : List Value) → Each (Names c) vs → Each (Names d) vs
values_stay c d s vs h = each_map (Names c) (Names d) (names_stay c d s) vs h

abbrev pub IsMessageOf : Code → Config Placed → ℕ → Message → Type 0
IsMessageOf u c r m = IsThere c r × (m.method < length u.names) × Each (Names c) m.args

messages_stay : (u : Code) (c d : Config Placed) → Stays c d → (r : ℕ) (ms : List Message) → Each (IsMessageOf u c r) ms → Each (IsMessageOf u d r) ms
messages_stay u c d s r ms h = each_map (IsMessageOf u c r) (IsMessageOf u d r) (λ m i. (s r i.0, i.1, values_stay c d s m.args i.2)) ms h

-- n serves the method of q once, which is at its call
abbrev pub IsServed : Code → Config Placed → (q n m : ℕ) → Placed → Type 0
IsServed u g q n m z = (v : Placed) × (args : List Value) × (object_of g n ≡ Some v) × (serving_for u q v ≡ m ∷ []) × (code_kind u z.object ≡ C.Send n (id m) args)

-- q waits for n
abbrev pub Waiting : Config Placed → (q n m : ℕ) → Type 0
Waiting g q n m = (z : Placed) × (object_of g q ≡ Some z) × (z.served ≡ Some (n, m))

module _ (u : Code) (c d : Config Placed) (w : IsOfCode u c) (sorted : IsTrue (is_sorted nat_cmp d.objects)) (same : (s r : ℕ) → messages_of d s r ≡ messages_of c s r) where
  -- an object o changes, whom nobody serves
  module _ (o : ℕ) (x x' : Placed) (at : object_of c o ≡ Some x) (at' : object_of d o ≡ Some x') (beside : (q : ℕ) → q ≢ o → object_of d q ≡ object_of c q) where
    one_stays : Stays c d
    one_stays b h = by (decide b o)
      where
        by : (b ≡ o) ⊎ (b ≢ o) → IsThere d b
        by (inl e) = (x', ap (object_of d) e ∙ at')
        by (inr n) = (h.0, beside b n ∙ h.1)

    pub one_change : IsObjectOf u (Names c) x'.object → ((e : Error) → x'.fault ≡ Some e → (coded u).kind o x' ≡ K.Fault e) → x.served ≡ None → x'.served ≡ None
        → ((p : ℕ) → serving_for u p x' ≡ serving_for u p x) → IsOfCode u d
    one_change unit fault free free' methods = record {
      in_order = sorted;
      of_unit = λ q z e. of_unit q z e (decide q o);
      messages = λ s r. subst (Each (IsMessageOf u d r)) (sym (same s r)) (messages_stay u c d one_stays r (messages_of c s r) (w.messages s r));
      fault = λ q z t e f. faults q z t e f (decide q o);
      waits = λ q b m z e f. waits q b m z e f (decide q o);
      served = λ q b m ms z e f. served q b m ms z e f (decide b o);
    }
      where
        is_new : (q : ℕ) (z : Placed) → object_of d q ≡ Some z → q ≡ o → x' ≡ z
        is_new q z e i = same_some (sym at' ∙ ap (object_of d) (sym i) ∙ e)

        of_unit : (q : ℕ) (z : Placed) → object_of d q ≡ Some z → (q ≡ o) ⊎ (q ≢ o) → IsObjectOf u (Names d) z.object
        of_unit q z e (inl i) = subst (λ (y : Placed). IsObjectOf u (Names d) y.object) (is_new q z e i) (object_stays u c d one_stays x'.object unit)
        of_unit q z e (inr n) = object_stays u c d one_stays z.object (w.of_unit q z (sym (beside q n) ∙ e))

        faults : (q : ℕ) (z : Placed) (t : Error) → object_of d q ≡ Some z → z.fault ≡ Some t → (q ≡ o) ⊎ (q ≢ o) → (coded u).kind q z ≡ K.Fault t
        faults q z t e f (inl i) =
            let s = is_new q z e i in
            ap ((coded u).kind q) (sym s) ∙ ap (λ j. (coded u).kind j x') i ∙ fault t (ap (λ (y : Placed). y.fault) s ∙ f)
        faults q z t e f (inr n) = w.fault q z t (sym (beside q n) ∙ e) f

        waits : (q b m : ℕ) (z : Placed) → object_of d q ≡ Some z → z.served ≡ Some (b, m) → (q ≡ o) ⊎ (q ≢ o)
            → (y : Placed) × (args : List Value) × (object_of d b ≡ Some y) × (serving_for u q y ≡ m ∷ []) × (code_kind u z.object ≡ C.Send b (id m) args)
        waits q b m z e f (inl i) = absurd (let t : None ≡ Some (b, m) = sym free' ∙ ap (λ (y : Placed). y.served) (is_new q z e i) ∙ f in cc)
        waits q b m z e f (inr n) = at_receiver (w.waits q b m z (sym (beside q n) ∙ e) f) (decide b o)
          where
            at_receiver : (y : Placed) × (args : List Value) × (object_of c b ≡ Some y) × (serving_for u q y ≡ m ∷ []) × (code_kind u z.object ≡ C.Send b (id m) args) → (b ≡ o) ⊎ (b ≢ o)
                → (y : Placed) × (args : List Value) × (object_of d b ≡ Some y) × (serving_for u q y ≡ m ∷ []) × (code_kind u z.object ≡ C.Send b (id m) args)
            at_receiver t (inl j) =
                let s : x ≡ t.0 = same_some (sym at ∙ ap (object_of c) (sym j) ∙ t.2) in
                (x', t.1, ap (object_of d) j ∙ at', methods q ∙ ap (serving_for u q) s ∙ t.3, t.4)
            at_receiver t (inr k) = (t.0, t.1, beside b k ∙ t.2, t.3, t.4)

        served : (q b m : ℕ) (ms : List ℕ) (y : Placed) → object_of d b ≡ Some y → serving_for u q y ≡ m ∷ ms → (b ≡ o) ⊎ (b ≢ o)
            → (z : Placed) × (object_of d q ≡ Some z) × (z.served ≡ Some (b, m))
        served q b m ms y e f t = at_caller (before t) (decide q o)
          where
            before : (b ≡ o) ⊎ (b ≢ o) → (z : Placed) × (object_of c q ≡ Some z) × (z.served ≡ Some (b, m))
            before (inl i) = w.served q b m ms x (ap (object_of c) i ∙ at) (sym (methods q) ∙ ap (serving_for u q) (is_new b y e i) ∙ f)
            before (inr n) = w.served q b m ms y (sym (beside b n) ∙ e) f

            at_caller : (z : Placed) × (object_of c q ≡ Some z) × (z.served ≡ Some (b, m)) → (q ≡ o) ⊎ (q ≢ o) → (z : Placed) × (object_of d q ≡ Some z) × (z.served ≡ Some (b, m))
            at_caller z (inl i) =
                let s : x ≡ z.0 = same_some (sym at ∙ ap (object_of c) (sym i) ∙ z.1) in
                absurd (let t : None ≡ Some (b, m) = sym free ∙ ap (λ (y : Placed). y.served) s ∙ z.2 in cc)
            at_caller z (inr n) = (z.0, beside q n ∙ z.1, z.2)

  -- the objects o and b change, of which only b may serve the other: before, o waits for b or for no one, and after it waits for b, which serves it once, or for no one,
  -- and then b does not serve it
  module _ (o b : ℕ) (x x' y y' : Placed) (apart : o ≢ b) (at : object_of c o ≡ Some x) (bat : object_of c b ≡ Some y)
      (at' : object_of d o ≡ Some x') (bat' : object_of d b ≡ Some y') (beside : (q : ℕ) → q ≢ o → q ≢ b → object_of d q ≡ object_of c q) where
    two_stay : Stays c d
    two_stay q h = by (decide q o) (decide q b)
      where
        by : (q ≡ o) ⊎ (q ≢ o) → (q ≡ b) ⊎ (q ≢ b) → IsThere d q
        by (inl e) k = (x', ap (object_of d) e ∙ at')
        by (inr n) (inl e) = (y', ap (object_of d) e ∙ bat')
        by (inr n) (inr k) = (h.0, beside q n k ∙ h.1)

    -- o waits for b or for no one
    pub data IsFree (s : Option (ℕ × ℕ)) : Type 0 where
      Free : s ≡ None → IsFree s
      At : (m : ℕ) → s ≡ Some (b, m) → IsFree s

    pub data Between : Type 0 where
      Neither : x'.served ≡ None → serving_for u o y' ≡ [] → Between
      ItServes : (m : ℕ) (args : List Value) → x'.served ≡ Some (b, m) → serving_for u o y' ≡ m ∷ [] → code_kind u x'.object ≡ C.Send b (id m) args → Between

    not_elsewhere : (n m : ℕ) → IsFree x.served → n ≢ b → x.served ≡ Some (n, m) → ⊥
    not_elsewhere n m (Free e) k i = not_served x.served (n, m) e i
    not_elsewhere n m (At j e) k i = k (ap (λ (p : ℕ × ℕ). p.0) (same_some (sym i ∙ e)))

    pub two_change : IsObjectOf u (Names c) x'.object → IsObjectOf u (Names c) y'.object → x'.fault ≡ None → y'.fault ≡ None → y.served ≡ None → y'.served ≡ None
        → ((p : ℕ) → serving_for u p x' ≡ serving_for u p x) → ((p : ℕ) → p ≢ o → serving_for u p y' ≡ serving_for u p y) → IsFree x.served → Between → IsOfCode u d
    two_change unit bunit fault bfault bfree bfree' methods bmethods free between = record {
      in_order = sorted;
      of_unit = λ q z e. of_unit q z e (decide q o) (decide q b);
      messages = λ s r. subst (Each (IsMessageOf u d r)) (sym (same s r)) (messages_stay u c d two_stay r (messages_of c s r) (w.messages s r));
      fault = λ q z t e f. faults q z t e f (decide q o) (decide q b);
      waits = λ q n m z e f. waits q n m z e f (decide q o) (decide q b) between;
      served = λ q n m ms z e f. served q n m ms z e f (decide n o) (decide n b);
    }
      where
        is_x : (q : ℕ) (z : Placed) → object_of d q ≡ Some z → q ≡ o → x' ≡ z
        is_x q z e i = same_some (sym at' ∙ ap (object_of d) (sym i) ∙ e)

        is_y : (q : ℕ) (z : Placed) → object_of d q ≡ Some z → q ≡ b → y' ≡ z
        is_y q z e i = same_some (sym bat' ∙ ap (object_of d) (sym i) ∙ e)

        was_x : (q : ℕ) (z : Placed) → object_of c q ≡ Some z → q ≡ o → x ≡ z
        was_x q z e i = same_some (sym at ∙ ap (object_of c) (sym i) ∙ e)

        was_y : (q : ℕ) (z : Placed) → object_of c q ≡ Some z → q ≡ b → y ≡ z
        was_y q z e i = same_some (sym bat ∙ ap (object_of c) (sym i) ∙ e)

        of_unit : (q : ℕ) (z : Placed) → object_of d q ≡ Some z → (q ≡ o) ⊎ (q ≢ o) → (q ≡ b) ⊎ (q ≢ b) → IsObjectOf u (Names d) z.object
        of_unit q z e (inl i) k = subst (λ (v : Placed). IsObjectOf u (Names d) v.object) (is_x q z e i) (object_stays u c d two_stay x'.object unit)
        of_unit q z e (inr n) (inl i) = subst (λ (v : Placed). IsObjectOf u (Names d) v.object) (is_y q z e i) (object_stays u c d two_stay y'.object bunit)
        of_unit q z e (inr n) (inr k) = object_stays u c d two_stay z.object (w.of_unit q z (sym (beside q n k) ∙ e))

        no_fault : (z z' : Placed) (t : Error) → z' ≡ z → z'.fault ≡ None → z.fault ≡ Some t → ⊥
        no_fault z z' t s e f = let i : None ≡ Some t = sym e ∙ ap (λ (v : Placed). v.fault) s ∙ f in cc

        faults : (q : ℕ) (z : Placed) (t : Error) → object_of d q ≡ Some z → z.fault ≡ Some t → (q ≡ o) ⊎ (q ≢ o) → (q ≡ b) ⊎ (q ≢ b) → (coded u).kind q z ≡ K.Fault t
        faults q z t e f (inl i) k = absurd (no_fault z x' t (is_x q z e i) fault f)
        faults q z t e f (inr n) (inl i) = absurd (no_fault z y' t (is_y q z e i) bfault f)
        faults q z t e f (inr n) (inr k) = w.fault q z t (sym (beside q n k) ∙ e) f

        waits : (q n m : ℕ) (z : Placed) → object_of d q ≡ Some z → z.served ≡ Some (n, m) → (q ≡ o) ⊎ (q ≢ o) → (q ≡ b) ⊎ (q ≢ b) → Between → IsServed u d q n m z
        waits q n m z e f (inl i) k (Neither s t) = absurd (let j : None ≡ Some (n, m) = sym s ∙ ap (λ (v : Placed). v.served) (is_x q z e i) ∙ f in cc)
        waits q n m z e f (inl i) k (ItServes r args s t l) =
            let j : (b, r) ≡ (n, m) = same_some (sym s ∙ ap (λ (v : Placed). v.served) (is_x q z e i) ∙ f) in
            let g : b ≡ n = ap (λ (p : ℕ × ℕ). p.0) j in
            let h : r ≡ m = ap (λ (p : ℕ × ℕ). p.1) j in (
              y',
              args,
              ap (object_of d) (sym g) ∙ bat',
              ap (λ p. serving_for u p y') i ∙ t ∙ ap (λ a. a ∷ []) h,
              ap (λ (v : Placed). code_kind u v.object) (sym (is_x q z e i)) ∙ l ∙ ap (λ a. C.Send a (id r) args) g ∙ ap (λ a. C.Send n (id a) args) h,
            )
        waits q n m z e f (inr l) (inl i) s = absurd (let j : None ≡ Some (n, m) = sym bfree' ∙ ap (λ (v : Placed). v.served) (is_y q z e i) ∙ f in cc)
        waits q n m z e f (inr l) (inr k) s = at_receiver (w.waits q n m z (sym (beside q l k) ∙ e) f) (decide n o) (decide n b)
          where
            at_receiver : IsServed u c q n m z → (n ≡ o) ⊎ (n ≢ o) → (n ≡ b) ⊎ (n ≢ b) → IsServed u d q n m z
            at_receiver t (inl i) j = (x', t.1, ap (object_of d) i ∙ at', methods q ∙ ap (serving_for u q) (was_x n t.0 t.2 i) ∙ t.3, t.4)
            at_receiver t (inr j) (inl i) = (y', t.1, ap (object_of d) i ∙ bat', bmethods q l ∙ ap (serving_for u q) (was_y n t.0 t.2 i) ∙ t.3, t.4)
            at_receiver t (inr i) (inr j) = (t.0, t.1, beside n i j ∙ t.2, t.3, t.4)

        -- whoever is served was served before, and is not o where b is meant
        still : (q n m : ℕ) → (q ≡ o → n ≢ b) → Waiting c q n m → (q ≡ o) ⊎ (q ≢ o) → (q ≡ b) ⊎ (q ≢ b) → Waiting d q n m
        still q n m other z (inl i) k = absurd (not_elsewhere n m free (other i) (ap (λ (v : Placed). v.served) (was_x q z.0 z.1 i) ∙ z.2))
        still q n m other z (inr l) (inl i) = absurd (let j : None ≡ Some (n, m) = sym bfree ∙ ap (λ (v : Placed). v.served) (was_y q z.0 z.1 i) ∙ z.2 in cc)
        still q n m other z (inr l) (inr k) = (z.0, beside q l k ∙ z.1, z.2)

        -- o, for whom b has a method under way
        by_b : (q n m : ℕ) (ms : List ℕ) → q ≡ o → n ≡ b → serving_for u o y' ≡ m ∷ ms → Between → Waiting d q n m
        by_b q n m ms i j e (Neither s t) = absurd (let f : [] ≡ m ∷ ms = sym t ∙ e in cc)
        by_b q n m ms i j e (ItServes r args s t l) =
            let f : r ≡ m = first_same (sym t ∙ e) in
            (x', ap (object_of d) i ∙ at', s ∙ ap (λ a. Some (a, r)) (sym j) ∙ ap (λ a. Some (n, a)) f)
          where
            first_of : List ℕ → ℕ
            first_of [] = 0
            first_of (a ∷ rest) = a

            first_same : r ∷ [] ≡ m ∷ ms → r ≡ m
            first_same g = ap first_of g

        served : (q n m : ℕ) (ms : List ℕ) (z : Placed) → object_of d n ≡ Some z → serving_for u q z ≡ m ∷ ms → (n ≡ o) ⊎ (n ≢ o) → (n ≡ b) ⊎ (n ≢ b) → Waiting d q n m
        served q n m ms z e f (inl i) k =
            still q n m (λ j g. apart (sym i ∙ g)) (w.served q n m ms x (ap (object_of c) i ∙ at) (sym (methods q) ∙ ap (serving_for u q) (is_x n z e i) ∙ f)) (decide q o) (decide q b)
        served q n m ms z e f (inr l) (inl i) = at_caller (decide q o)
          where
            at_caller : (q ≡ o) ⊎ (q ≢ o) → Waiting d q n m
            at_caller (inl j) = by_b q n m ms j i (ap (λ p. serving_for u p y') (sym j) ∙ ap (serving_for u q) (is_y n z e i) ∙ f) between
            at_caller (inr k) =
                still q n m (λ j. absurd (k j)) (w.served q n m ms y (ap (object_of c) i ∙ bat) (sym (bmethods q k) ∙ ap (serving_for u q) (is_y n z e i) ∙ f)) (inr k) (decide q b)
        served q n m ms z e f (inr l) (inr k) = still q n m (λ j. k) (w.served q n m ms z (sym (beside n l k) ∙ e) f) (decide q o) (decide q b)

-- a list of messages changes
pub with_messages : (u : Code) (c : Config Placed) (s r : ℕ) (ms : List Message) → IsOfCode u c → Each (IsMessageOf u c r) ms
    → IsOfCode u (put_messages c s r ms)
with_messages u c s r ms w h = record {
  in_order = w.in_order;
  of_unit = w.of_unit;
  messages = λ p q. by p q (decide p s) (decide q r);
  fault = w.fault;
  waits = w.waits;
  served = w.served;
}
  where
    by : (p q : ℕ) → (p ≡ s) ⊎ (p ≢ s) → (q ≡ r) ⊎ (q ≢ r) → Each (IsMessageOf u c q) (messages_of (put_messages c s r ms) p q)
    by p q (inl e) (inl f) =
        subst (λ j. Each (IsMessageOf u c j) (messages_of (put_messages c s r ms) p j)) (sym f)
        (subst (λ j. Each (IsMessageOf u c r) (messages_of (put_messages c s r ms) j r)) (sym e) (subst (Each (IsMessageOf u c r)) (sym (messages_same c s r ms)) h))
    by p q (inr n) k = subst (Each (IsMessageOf u c q)) (sym (messages_other c s r ms p q (λ e f. n e))) (w.messages p q)
    by p q (inl e) (inr n) = subst (Each (IsMessageOf u c q)) (sym (messages_other c s r ms p q (λ e f. n f))) (w.messages p q)

-- a new object, which serves nobody
pub one_more : (u : Code) (c : Config Placed) (n : ℕ) (y : Placed) → IsOfCode u c → object_of c n ≡ None → IsObjectOf u (Names (put_object c n y)) y.object → y.fault ≡ None → y.served ≡ None
    → ((p : ℕ) → serving_for u p y ≡ []) → IsOfCode u (put_object c n y)
one_more u c n y w none unit fault free nobody = record {
  in_order = sorted_put c n y w.in_order;
  of_unit = λ q z e. of_unit q z e (decide q n);
  messages = λ s r. messages_stay u c (put_object c n y) stays r (messages_of c s r) (w.messages s r);
  fault = λ q z t e f. faults q z t e f (decide q n);
  waits = λ q b m z e f. waits q b m z e f (decide q n);
  served = λ q b m ms z e f. served q b m ms z e f (decide b n);
}
  where
    stays : Stays c (put_object c n y)
    stays = there_put (coded u) c n y

    new : (q : ℕ) (z : Placed) → object_of (put_object c n y) q ≡ Some z → q ≡ n → y ≡ z
    new q z e i = same_some (sym (find_put_same n y c.objects) ∙ ap (object_of (put_object c n y)) (sym i) ∙ e)

    old : (q : ℕ) → q ≢ n → object_of (put_object c n y) q ≡ object_of c q
    old q k = find_put_other q n y c.objects k

    -- whoever was there is another one
    other : (q : ℕ) (z : Placed) → object_of c q ≡ Some z → q ≢ n
    other q z e i = let t : None ≡ Some z = sym none ∙ ap (object_of c) (sym i) ∙ e in absurd (cc)

    of_unit : (q : ℕ) (z : Placed) → object_of (put_object c n y) q ≡ Some z → (q ≡ n) ⊎ (q ≢ n) → IsObjectOf u (Names (put_object c n y)) z.object
    of_unit q z e (inl i) = subst (λ (v : Placed). IsObjectOf u (Names (put_object c n y)) v.object) (new q z e i) unit
    of_unit q z e (inr k) = object_stays u c (put_object c n y) stays z.object (w.of_unit q z (sym (old q k) ∙ e))

    faults : (q : ℕ) (z : Placed) (t : Error) → object_of (put_object c n y) q ≡ Some z → z.fault ≡ Some t → (q ≡ n) ⊎ (q ≢ n) → (coded u).kind q z ≡ K.Fault t
    faults q z t e f (inl i) = absurd (let j : None ≡ Some t = sym fault ∙ ap (λ (v : Placed). v.fault) (new q z e i) ∙ f in cc)
    faults q z t e f (inr k) = w.fault q z t (sym (old q k) ∙ e) f

    waits : (q b m : ℕ) (z : Placed) → object_of (put_object c n y) q ≡ Some z → z.served ≡ Some (b, m) → (q ≡ n) ⊎ (q ≢ n) → IsServed u (put_object c n y) q b m z
    waits q b m z e f (inl i) = absurd (let j : None ≡ Some (b, m) = sym free ∙ ap (λ (v : Placed). v.served) (new q z e i) ∙ f in cc)
    waits q b m z e f (inr k) = let t = w.waits q b m z (sym (old q k) ∙ e) f in (t.0, t.1, old b (other b t.0 t.2) ∙ t.2, t.3, t.4)

    served : (q b m : ℕ) (ms : List ℕ) (z : Placed) → object_of (put_object c n y) b ≡ Some z → serving_for u q z ≡ m ∷ ms → (b ≡ n) ⊎ (b ≢ n) → Waiting (put_object c n y) q b m
    served q b m ms z e f (inl i) = absurd (let j : [] ≡ m ∷ ms = sym (nobody q) ∙ ap (serving_for u q) (new b z e i) ∙ f in cc)
    served q b m ms z e f (inr k) = let t = w.served q b m ms z (sym (old b k) ∙ e) f in (t.0, old q (other q t.0 t.1) ∙ t.1, t.2)

-- an object changes in its place
pub one_put : (u : Code) (c : Config Placed) (o : ℕ) (x x' : Placed) → IsOfCode u c → object_of c o ≡ Some x → IsObjectOf u (Names c) x'.object
    → ((e : Error) → x'.fault ≡ Some e → (coded u).kind o x' ≡ K.Fault e) → x.served ≡ None → x'.served ≡ None → ((p : ℕ) → serving_for u p x' ≡ serving_for u p x)
    → IsOfCode u (put_object c o x')
one_put u c o x x' w at unit fault free free' methods =
    one_change u c (put_object c o x') w (sorted_put c o x' w.in_order) (λ s r. refl) o x x' at (find_put_same o x' c.objects) (λ q n. find_put_other q o x' c.objects n) unit fault free free' methods
