-- A machine represents at most one sound configuration: two such have the same objects and the same messages.
use Rattle.std.proofs.Common.{◌≡◌, ◌⊎◌, inl, inr, refl, sym, ap, ap₂, subst, ◌∙◌, ℕ, ◌==◌, List, [], ◌∷◌, ◌++◌, Option, Some, None, Bool, true, false, ◌&&◌}
use Rattle.std.specs.Prelude.{if◌then◌else◌}
use Rattle.std.specs.List.{flat_map}
use Rattle.run_types.specs.declared.types.Value.{Value}
use Rattle.run_types.specs.declared.types.Value.TheVariants as V
use Rattle.run_types.specs.declared.types.Placement.{Placement}
use Rattle.run_types.specs.Tables.{Pair, pair_cmp, list_at}
use Rattle.run_types.specs.Paths.{along, is_link, on_link, path, under}
use Rattle.run_types.specs.ObjectNames.{node_of}
use Rattle.run_types.proofs.Laws.{equal, equals}
use Rattle.mesh_semantics.specs.Kind as K
use Rattle.mesh_semantics.specs.Kind.{Kind}
use Rattle.mesh_semantics.specs.Language.{Language}
use Rattle.mesh_semantics.specs.Config.{Config, messages_of, object_of}
use Rattle.mesh_semantics.specs.Delay as D
use Rattle.mesh_semantics.specs.Delay.{Arrival, Delay, Holding, Packet, arrived_at, held}
use Rattle.mesh_semantics.specs.Sound.{Called, Entry, IsSound, OwnedAt, Owns, Sent, call_by, called_of, entries, letter, letters, letters_in, notes, owns, sent_of}
use Rattle.mesh_semantics.proofs.Laws.{is_call_of}
use Rattle.node_semantics.specs.Node.{Slot, arrivals}
use Rattle.node_semantics.specs.Machine.{Machine}
use Rattle.node_semantics.specs.StandsFor.{AtName, Due, Free, MachineStandsFor, Occupied, Posted, Served, SlotStandsFor, slot_at}

-- an element of a list
abbrev Member : {X : Type 0} → X → List X → Type 0
Member e [] = ⊥
Member e (x ∷ xs) = (x ≡ e) ⊎ Member e xs

member_front : {X : Type 0} (e : X) (xs ys : List X) → Member e xs → Member e (xs ++ ys)
member_front e [] ys h = absurd h
member_front e (x ∷ xs) ys (inl i) = inl i
member_front e (x ∷ xs) ys (inr h) = inr (member_front e xs ys h)

member_back : {X : Type 0} (e : X) (xs ys : List X) → Member e ys → Member e (xs ++ ys)
member_back e [] ys h = h
member_back e (x ∷ xs) ys h = inr (member_back e xs ys h)

member_split : {X : Type 0} (e : X) (xs ys : List X) → Member e (xs ++ ys) → Member e xs ⊎ Member e ys
member_split e [] ys h = inr h
member_split e (x ∷ xs) ys (inl i) = inl (inl i)
member_split e (x ∷ xs) ys (inr h) = by (member_split e xs ys h)
  where
    by : Member e xs ⊎ Member e ys → Member e (x ∷ xs) ⊎ Member e ys
    by (inl a) = inl (inr a)
    by (inr b) = inr b

-- an entry of the packets of o is one that o owns, on some link
pub record OnLink (o : ℕ) (e : Entry) (es : List (Pair × Packet)) : Type 0 where
  pub link : Pair
  pub packet : Packet
  pub is : e ≡ Sent packet
  pub own : owns o packet ≡ true
  pub there : Member packet (on_link es link)

later_link : (o : ℕ) (e : Entry) (x : Pair × Packet) (es : List (Pair × Packet)) → OnLink o e es → OnLink o e (x ∷ es)
later_link o e x es h = record { link = h.link; packet = h.packet; is = h.is; own = h.own; there = by (is_link h.link.0 h.link.1 x.0) refl }
  where
    by : (b : Bool) → is_link h.link.0 h.link.1 x.0 ≡ b → Member h.packet (on_link (x ∷ es) h.link)
    by true i = rw i (inr h.there)
    by false i = rw i h.there

sent_from : (o : ℕ) (e : Entry) (es : List (Pair × Packet)) → Member e (sent_of o es) → OnLink o e es
sent_from o e [] h = absurd h
sent_from o e (x ∷ es) h = by (owns o x.1) refl (λ k. sent_from o e es k)
  where
    by : (b : Bool) → owns o x.1 ≡ b → (Member e (sent_of o es) → OnLink o e es) → OnLink o e (x ∷ es)
    by true i rest = on (rw i at h)
      where
        on : (Sent x.1 ≡ e) ⊎ Member e (sent_of o es) → OnLink o e (x ∷ es)
        on (inl s) = record { link = x.0; packet = x.1; is = sym s; own = i; there = rw (equals x.0.0, equals x.0.1) (inl refl) }
        on (inr k) = later_link o e x es (rest k)
    by false i rest = later_link o e x es (rest (rw i at h))

sent_to : (o : ℕ) (k : Pair) (p : Packet) (es : List (Pair × Packet)) → owns o p ≡ true → Member p (on_link es k) → Member (Sent p) (sent_of o es)
sent_to o k p [] own h = absurd h
sent_to o k p (x ∷ es) own h = by (is_link k.0 k.1 x.0) (owns o x.1) refl refl (λ m. sent_to o k p es own m)
  where
    by : (b t : Bool) → is_link k.0 k.1 x.0 ≡ b → owns o x.1 ≡ t → (Member p (on_link es k) → Member (Sent p) (sent_of o es)) → Member (Sent p) (sent_of o (x ∷ es))
    by true t i j rest = on t j (rw i at h)
      where
        on : (t : Bool) → owns o x.1 ≡ t → (x.1 ≡ p) ⊎ Member p (on_link es k) → Member (Sent p) (sent_of o (x ∷ es))
        on true j (inl s) = rw j (inl (ap Sent s))
        on true j (inr m) = rw j (inr (rest m))
        on false j (inl s) = absurd (let z : owns o p ≡ false = subst (λ (q : Packet). owns o q ≡ false) s j in let w : true ≡ false = sym own ∙ z in cc)
        on false j (inr m) = rw j (rest m)
    by false true i j rest = rw j (inr (rest (rw i at h)))
    by false false i j rest = rw j (rest (rw i at h))

-- an entry of the arrived calls of o is one that has arrived at some receiver
pub record HasArrived (o : ℕ) (e : Entry) (es : List (ℕ × Arrival)) : Type 0 where
  pub receiver : ℕ
  pub arrival : Arrival
  pub is : e ≡ Called receiver arrival
  pub own : is_call_of o arrival ≡ true
  pub there : Member arrival (under (λ r. r == receiver) es)

later_call : (o : ℕ) (e : Entry) (x : ℕ × Arrival) (es : List (ℕ × Arrival)) → HasArrived o e es → HasArrived o e (x ∷ es)
later_call o e x es h = record { receiver = h.receiver; arrival = h.arrival; is = h.is; own = h.own; there = by (x.0 == h.receiver) refl }
  where
    by : (b : Bool) → (x.0 == h.receiver) ≡ b → Member h.arrival (under (λ r. r == h.receiver) (x ∷ es))
    by true i = rw i (inr h.there)
    by false i = rw i h.there

called_from : (o : ℕ) (e : Entry) (es : List (ℕ × Arrival)) → Member e (called_of o es) → HasArrived o e es
called_from o e [] h = absurd h
called_from o e (x ∷ es) h = by (is_call_of o x.1) refl (λ k. called_from o e es k)
  where
    by : (b : Bool) → is_call_of o x.1 ≡ b → (Member e (called_of o es) → HasArrived o e es) → HasArrived o e (x ∷ es)
    by true i rest = on (rw i at h)
      where
        on : (Called x.0 x.1 ≡ e) ⊎ Member e (called_of o es) → HasArrived o e (x ∷ es)
        on (inl s) = record { receiver = x.0; arrival = x.1; is = sym s; own = i; there = rw (equals x.0) (inl refl) }
        on (inr k) = later_call o e x es (rest k)
    by false i rest = later_call o e x es (rest (rw i at h))

called_to : (o r : ℕ) (a : Arrival) (es : List (ℕ × Arrival)) → is_call_of o a ≡ true → Member a (under (λ q. q == r) es) → Member (Called r a) (called_of o es)
called_to o r a [] own h = absurd h
called_to o r a (x ∷ es) own h = by (x.0 == r) (is_call_of o x.1) refl refl (λ m. called_to o r a es own m)
  where
    by : (b t : Bool) → (x.0 == r) ≡ b → is_call_of o x.1 ≡ t → (Member a (under (λ q. q == r) es) → Member (Called r a) (called_of o es)) → Member (Called r a) (called_of o (x ∷ es))
    by true t i j rest = on t j (rw i at h)
      where
        on : (t : Bool) → is_call_of o x.1 ≡ t → (x.1 ≡ a) ⊎ Member a (under (λ q. q == r) es) → Member (Called r a) (called_of o (x ∷ es))
        on true j (inl s) = rw j (inl (ap₂ Called (equal x.0 r i) s))
        on true j (inr m) = rw j (inr (rest m))
        on false j (inl s) = absurd (let z : is_call_of o a ≡ false = subst (λ (q : Arrival). is_call_of o q ≡ false) s j in let w : true ≡ false = sym own ∙ z in cc)
        on false j (inr m) = rw j (rest m)
    by false true i j rest = rw j (inr (rest (rw i at h)))
    by false false i j rest = rw j (rest (rw i at h))

-- a request that is on the way or has arrived
abbrev IsPosting : Entry → Type 0
IsPosting (Sent (D.Create o goal class)) = Unit {0}
IsPosting (Sent (D.Request o r m args)) = Unit {0}
IsPosting (Called r a) = Unit {0}
IsPosting _ = ⊥

posting : (o : ℕ) (k : Kind) (es : List Entry) → Owns o (Some D.Posted) k es → (t : Entry) × (es ≡ t ∷ []) × IsPosting t
posting o (K.New class) es h = (Sent (D.Create o h.0 class), h.2, tt)
posting o (K.Send b m args) es (inl i) = (Sent (D.Request o b m args), i, tt)
posting o (K.Send b m args) es (inr i) = (Called b (call_by o m args), i, tt)
posting o K.Finished es h = absurd h
posting o K.Local es h = absurd h
posting o (K.Fault e) es h = absurd h
posting o (K.Async b m args) es h = absurd h
posting o (K.Write item) es h = absurd h
posting o (K.Select alts) es h = absurd h
posting o (K.Return k v) es h = absurd h
posting o (K.Waits b m) es h = absurd h
posting o K.Stuck es h = absurd h

-- the packet with a value
abbrev Brings : Entry → Value → Type 0
Brings (Sent (D.Result o w)) v = w ≡ v
Brings (Sent (D.Created o n)) v = V.Ref n ≡ v
Brings _ v = ⊥

bringing : (o : ℕ) (v : Value) (k : Kind) (es : List Entry) → Owns o (Some (D.Due v)) k es → (t : Entry) × (es ≡ t ∷ []) × Brings t v
bringing o v k es (z, inl i) = (Sent (D.Result o v), i, refl)
bringing o v k es (z, inr (n, e, i)) = (Sent (D.Created o n), i, sym e)

no_posting : (t : Entry) (v : Value) → IsPosting t → Brings t v → ⊥
no_posting (Sent (D.Create o goal class)) v h k = k
no_posting (Sent (D.Request o r m args)) v h k = k
no_posting (Called r a) v h k = k
no_posting (Sent (D.Created o n)) v h k = h
no_posting (Sent (D.Result o w)) v h k = h
no_posting (Sent (D.Async s r m args)) v h k = h

one_value : (t : Entry) (v w : Value) → Brings t v → Brings t w → v ≡ w
one_value (Sent (D.Result o x)) v w h k = sym h ∙ k
one_value (Sent (D.Created o n)) v w h k = sym h ∙ k
one_value (Sent (D.Create o goal class)) v w h k = absurd h
one_value (Sent (D.Request o r m args)) v w h k = absurd h
one_value (Sent (D.Async s r m args)) v w h k = absurd h
one_value (Called r a) v w h k = absurd h

module _ {S : Type 0} (g : Language S) (l : Placement) (m : Machine S) (W Z : Config S → Type 0) (c e : Config S) (d f : Delay) (sc : IsSound g W l c d) (se : IsSound g Z l e f)
    (tc : MachineStandsFor g l m c d) (te : MachineStandsFor g l m e f) where
  links_same : (k : Pair) → on_link d.links k ≡ on_link f.links k
  links_same k = sym (tc.links k) ∙ te.links k

  arrived_same : (o : ℕ) → arrived_at d o ≡ arrived_at f o
  arrived_same o = by (slot_at m o) (object_of c o) (object_of e o) (tc.named o) (te.named o)
    where
      by : (s : Option (Slot S)) (x y : Option S) → AtName g o s x (held d o) (arrived_at d o) → AtName g o s y (held f o) (arrived_at f o) → arrived_at d o ≡ arrived_at f o
      by None None None a b = a.1 ∙ sym b.1
      by None None (Some y) a b = absurd b
      by None (Some x) y a b = absurd a
      by (Some s) None y a b = absurd a
      by (Some s) (Some x) None a b = absurd b
      by (Some s) (Some x) (Some y) a b = sym a.mailbox ∙ b.mailbox

  -- entries of one delay are entries of the other
  carried : (a b : Delay) → ((k : Pair) → on_link a.links k ≡ on_link b.links k) → ((o : ℕ) → arrived_at a o ≡ arrived_at b o) → (o : ℕ) (t : Entry) → Member t (entries a o) → Member t (entries b o)
  carried a b links arrived o t h = by (member_split t (sent_of o a.links) (called_of o a.arrived) h)
    where
      by : Member t (sent_of o a.links) ⊎ Member t (called_of o a.arrived) → Member t (entries b o)
      by (inl s) =
          let x = sent_from o t a.links s in
          member_front t (sent_of o b.links) (called_of o b.arrived)
          (subst (λ (z : Entry). Member z (sent_of o b.links)) (sym x.is)
          (sent_to o x.link x.packet b.links x.own (subst (λ (ps : List Packet). Member x.packet ps) (links x.link) x.there)))
      by (inr s) =
          let x = called_from o t a.arrived s in
          member_back t (sent_of o b.links) (called_of o b.arrived)
          (subst (λ (z : Entry). Member z (called_of o b.arrived)) (sym x.is)
          (called_to o x.receiver x.arrival b.arrived x.own (subst (λ (xs : List Arrival). Member x.arrival xs) (arrived x.receiver) x.there)))

  there : (o : ℕ) (t : Entry) → Member t (entries d o) → Member t (entries f o)
  there o t h = carried d f links_same arrived_same o t h

  back : (o : ℕ) (t : Entry) → Member t (entries f o) → Member t (entries d o)
  back o t h = carried f d (λ k. sym (links_same k)) (λ r. sym (arrived_same r)) o t h

  -- a single entry of one is that of the other
  none_then_none : (o : ℕ) (t : Entry) → entries d o ≡ [] → entries f o ≡ t ∷ [] → ⊥
  none_then_none o t i j = subst (λ (es : List Entry). Member t es) i (back o t (subst (λ (es : List Entry). Member t es) (sym j) (inl refl)))

  none_if_none : (o : ℕ) (t : Entry) → entries d o ≡ t ∷ [] → entries f o ≡ [] → ⊥
  none_if_none o t i j = subst (λ (es : List Entry). Member t es) j (there o t (subst (λ (es : List Entry). Member t es) (sym i) (inl refl)))

  one_same : (o : ℕ) (t u : Entry) → entries d o ≡ t ∷ [] → entries f o ≡ u ∷ [] → u ≡ t
  one_same o t u i j = by (subst (λ (es : List Entry). Member t es) j (there o t (subst (λ (es : List Entry). Member t es) (sym i) (inl refl))))
    where
      by : (u ≡ t) ⊎ ⊥ → u ≡ t
      by (inl s) = s
      by (inr z) = absurd z

  state_same : (o : ℕ) (s : Slot S) (x y : S) (h k : Option Holding) → SlotStandsFor g o s x h → SlotStandsFor g o s y k → Owns o h (g.kind o x) (entries d o) → Owns o k (g.kind o y) (entries f o) → x ≡ y
  state_same o s x y None None (Free r i) (Free q j) p w = sym i ∙ j
  state_same o s x y None None (Free r i) (Served b n args out kind j) p w = absurd (let z : None ≡ Some out.0 = sym r ∙ out.1 in cc)
  state_same o s x y None None (Served b n args out kind j) (Free r i) p w = absurd (let z : None ≡ Some out.0 = sym r ∙ out.1 in cc)
  state_same o s x y None None (Served b n args out kind j) (Served b' n' args' out' kind' j') p w =
      let z : K.Send b n args ≡ K.Send b' n' args' = sym kind ∙ kind' in
      let first : b ≡ b' = cc in
      let second : n ≡ n' = cc in
      sym j ∙ ap₂ (λ (i q : ℕ). g.waiting s.state i q) first second ∙ j'
  state_same o s x y None (Some D.Posted) a b p w = let t = posting o (g.kind o y) (entries f o) w in absurd (none_then_none o t.0 p t.1)
  state_same o s x y None (Some (D.Due v)) a b p w = let t = bringing o v (g.kind o y) (entries f o) w in absurd (none_then_none o t.0 p t.1)
  state_same o s x y (Some D.Posted) None a b p w = let t = posting o (g.kind o x) (entries d o) p in absurd (none_if_none o t.0 t.1 w)
  state_same o s x y (Some (D.Due v)) None a b p w = let t = bringing o v (g.kind o x) (entries d o) p in absurd (none_if_none o t.0 t.1 w)
  state_same o s x y (Some D.Posted) (Some D.Posted) (Posted r i) (Posted q j) p w = sym i ∙ j
  state_same o s x y (Some D.Posted) (Some (D.Due v)) a b p w =
      let t = posting o (g.kind o x) (entries d o) p in
      let u = bringing o v (g.kind o y) (entries f o) w in
      absurd (no_posting t.0 v t.2 (subst (λ (z : Entry). Brings z v) (one_same o t.0 u.0 t.1 u.1) u.2))
  state_same o s x y (Some (D.Due v)) (Some D.Posted) a b p w =
      let t = bringing o v (g.kind o x) (entries d o) p in
      let u = posting o (g.kind o y) (entries f o) w in
      absurd (no_posting t.0 v (subst IsPosting (one_same o t.0 u.0 t.1 u.1) u.2) t.2)
  state_same o s x y (Some (D.Due v)) (Some (D.Due v')) (Due q r i j) (Due q' r' i' j') p w =
      let t = bringing o v (g.kind o x) (entries d o) p in
      let u = bringing o v' (g.kind o y) (entries f o) w in
      let same : v ≡ v' = one_value t.0 v v' t.2 (subst (λ (z : Entry). Brings z v') (one_same o t.0 u.0 t.1 u.1) u.2) in
      sym j ∙ ap (λ (z : Value). g.given s.state z) same ∙ j'

  pub objects_same : (o : ℕ) → object_of c o ≡ object_of e o
  objects_same o = by (slot_at m o) (object_of c o) (object_of e o) (held d o) (held f o) (tc.named o) (te.named o) (sc.state.owned o) (se.state.owned o)
    where
      by : (s : Option (Slot S)) (x y : Option S) (h k : Option Holding) → AtName g o s x h (arrived_at d o) → AtName g o s y k (arrived_at f o) → OwnedAt g o x h (entries d o) → OwnedAt g o y k (entries f o) → x ≡ y
      by None None None h k a b p w = refl
      by None None (Some y) h k a b p w = absurd b
      by None (Some x) y h k a b p w = absurd a
      by (Some s) None y h k a b p w = absurd a
      by (Some s) (Some x) None h k a b p w = absurd b
      by (Some s) (Some x) (Some y) h k a b p w = ap Some (state_same o s x y h k a.state b.state p.0 w.0)

  along_same : {Y : Type 0} (h : Packet → List Y) (ks : List Pair) → along h d.links ks ≡ along h f.links ks
  along_same h [] = refl
  along_same h (k ∷ ks) = ap₂ ◌++◌ (along_same h ks) (ap (λ (ps : List Packet). flat_map h ps) (links_same k))

  pub messages_same : (s r : ℕ) → messages_of c s r ≡ messages_of e s r
  messages_same s r =
      sc.state.lists s r
      ∙ ap notes (ap₂ ◌++◌ (ap (letters_in s) (arrived_same r)) (along_same (letter s r) (path l (node_of s) (node_of r))))
      ∙ sym (se.state.lists s r)
