-- A sound configuration in which all is quiet has no transition.
use Rattle.std.proofs.Common.{◌≡◌, ◌≢◌, inl, inr, refl, sym, ap, subst, ◌∙◌, ℕ, zero, suc, ◌+◌, ◌==◌, List, [], ◌∷◌, ◌++◌, Option, Some, None, is_some, Bool, true, false, not, ◌&&◌, ◌||◌, arith, append-nil}
use Rattle.std.specs.List.{list_any}
use Rattle.std.specs.Ordering.{nat_cmp}
use Rattle.std.specs.declared.cmp.Ordering.{Ordering}
use Rattle.std.specs.declared.cmp.Ordering.TheVariants.{Less, Equal, Greater}
use Rattle.std.specs.FinMap.{find, nat_cmp-IsAntisymmetric}
use Rattle.run_types.specs.declared.types.Value.{Value}
use Rattle.run_types.specs.declared.types.Item.{Item}
use Rattle.run_types.specs.declared.types.Error.{Error}
use Rattle.run_types.specs.declared.types.Label.{Label}
use Rattle.run_types.specs.declared.types.Label.TheVariants as L
use Rattle.run_types.specs.declared.types.Placement.{Placement}
use Rattle.run_types.specs.Tables.{Pair}
use Rattle.run_types.specs.Message.{Message}
use Rattle.run_types.specs.Partial.{◌>>=◌}
use Rattle.run_types.specs.Same.{are_same}
use Rattle.run_types.proofs.Laws.{first, second, equal, equals, same_some}
use Rattle.mesh_semantics.specs.Kind as K
use Rattle.mesh_semantics.specs.Kind.{Kind, Alternative, is_local, makes, calls, posts, returns, writes, fails, has_name, answered, answers, is_plain, alternatives}
use Rattle.mesh_semantics.specs.Language.{Language}
use Rattle.mesh_semantics.specs.Config.{Config, object_of, messages_of}
use Rattle.mesh_semantics.specs.Moves.{move, running, offered, numbered, can_pick, first_message}
use Rattle.run_types.specs.Paths.{under, along, path}
use Rattle.mesh_semantics.specs.Delay as D
use Rattle.mesh_semantics.specs.Delay.{Packet, Arrival, Holding, Delay, arrived_at, held}
use Rattle.run_types.specs.ObjectNames.{node_of}
use Rattle.mesh_semantics.specs.Act.{first_arrival, is_possible, can_step, is_ready, is_acknowledged, is_quiet}
use Rattle.mesh_semantics.specs.Sound.{Sent, Called, sent_of, called_of, entries, call_by, Owns, OwnedAt, letters_in, letter, notes, IsSound}

-- what cannot be done with what has arrived

no_local : (box : List Arrival) (k : Kind) → can_step box k ≡ false → is_local k ≡ false
no_local box K.Local h = absurd (grind (arith, h))
no_local box _ h = refl

no_new : (box : List Arrival) (k : Kind) (c : ℕ) → can_step box k ≡ false → makes k c ≡ false
no_new box (K.New d) c h = absurd (grind (arith, h))
no_new box _ c h = refl

no_call : (box : List Arrival) (k : Kind) (b m : ℕ) (args : List Value) → can_step box k ≡ false → calls k b m args ≡ false
no_call box (K.Send r n values) b m args h = absurd (grind (arith, h))
no_call box _ b m args h = refl

no_post : (box : List Arrival) (k : Kind) (b m : ℕ) (args : List Value) → can_step box k ≡ false → posts k b m args ≡ false
no_post box (K.Async r n values) b m args h = absurd (grind (arith, h))
no_post box _ b m args h = refl

no_return : (box : List Arrival) (k : Kind) (o : ℕ) (v : Value) → can_step box k ≡ false → returns k o v ≡ false
no_return box (K.Return r w) o v h = absurd (grind (arith, h))
no_return box _ o v h = refl

no_write : (box : List Arrival) (k : Kind) (item : Item) → can_step box k ≡ false → writes k item ≡ false
no_write box (K.Write i) item h = absurd (grind (arith, h))
no_write box _ item h = refl

no_fault : (box : List Arrival) (k : Kind) (e : Error) → can_step box k ≡ false → fails k e ≡ false
no_fault box (K.Fault d) e h = absurd (grind (arith, h))
no_fault box _ e h = refl

none_possible : (box : List Arrival) (k : Kind) → can_step box k ≡ false → list_any (is_possible box) (alternatives k) ≡ false
none_possible box (K.Select alts) h = h
none_possible box _ h = refl

pub neither : (a b : Bool) → (a || b) ≡ false → (a ≡ false) × (b ≡ false)
neither true b h = absurd (grind (arith, h))
neither false b h = (refl, h)

plain_possible : (box : List Arrival) (a : Alternative) → is_possible box a ≡ false → is_plain a ≡ false
plain_possible box a h = by a.is_open a.names refl refl
  where
    by : (b : Bool) (ns : Option (List ℕ)) → a.is_open ≡ b → a.names ≡ ns → is_plain a ≡ false
    by true None e f = absurd (let g : true ≡ false = rw (e, f) at h in grind (arith, g))
    by true (Some ns) e f = rw (e, f) refl
    by false ns e f = rw e refl

no_pick : (box : List Arrival) (alts : List Alternative) (i : ℕ) → list_any (is_possible box) alts ≡ false → can_pick (numbered alts i) ≡ false
no_pick box alts zero h = refl
no_pick box [] (suc i) h = refl
no_pick box (a ∷ alts) (suc zero) h = plain_possible box a (neither _ _ h).0
no_pick box (a ∷ alts) (suc (suc i)) h = no_pick box alts (suc i) (neither (is_possible box a) _ h).1

-- a message on this method has arrived
abbrev pub has_arrived : ℕ → List Arrival → Bool
has_arrived m [] = false
has_arrived m (a ∷ rest) = (a.method == m) || has_arrived m rest

found : (names : List ℕ) (m : ℕ) (box : List Arrival) → has_name names m ≡ true → has_arrived m box ≡ true → is_some (first_arrival names box) ≡ true
found names m [] h e = absurd (grind (arith, e))
found names m (a ∷ rest) h e = by (has_name names a.method) (a.method == m) refl refl (found names m rest h)
  where
    by : (b t : Bool) → has_name names a.method ≡ b → (a.method == m) ≡ t → (has_arrived m rest ≡ true → is_some (first_arrival names rest) ≡ true)
        → is_some (first_arrival names (a ∷ rest)) ≡ true
    by true t i j k = rw i refl
    by false true i j k = absurd (let s = equal a.method m j in let z : has_name names a.method ≡ true = rw s h in grind (arith, i, z))
    by false false i j k = rw i (k (rw j at e))

pub answer_possible : (box : List Arrival) (a : Alternative) (m : ℕ) → has_arrived m box ≡ true → is_possible box a ≡ false → answers a m ≡ false
answer_possible box a m e h = by a.is_open a.names refl refl
  where
    by : (b : Bool) (ns : Option (List ℕ)) → a.is_open ≡ b → a.names ≡ ns → answers a m ≡ false
    by false ns i j = rw i refl
    by true None i j = rw (i, j) refl
    by true (Some ns) i j = named (has_name ns m) refl
      where
        named : (t : Bool) → has_name ns m ≡ t → answers a m ≡ false
        named false k = rw (i, j, k) refl
        named true k = absurd (let g : is_some (first_arrival ns box) ≡ false = rw (i, j) at h in grind (arith, g, found ns m box k e))

not_offered : (i : ℕ) (box : List Arrival) (alts : List Alternative) (m : ℕ) → has_arrived m box ≡ true
    → list_any (is_possible box) alts ≡ false → offered i alts m ≡ None
not_offered i box [] m e h = refl
not_offered i box (a ∷ alts) m e h =
    let n = neither (is_possible box a) _ h in rw (answer_possible box a m e n.0) (not_offered (i + 1) box alts m e n.1)

-- where the one call of an object has arrived
call_arrived : (o b m : ℕ) (args : List Value) (es : List (ℕ × Arrival)) → called_of o es ≡ Called b (call_by o m args) ∷ []
    → has_arrived m (under (λ r. r == b) es) ≡ true
call_arrived o b m args [] h = absurd (cc)
call_arrived o b m args (e ∷ es) h = by (e.1.is_call && e.1.sender == o) (e.0 == b) refl refl (call_arrived o b m args es)
  where
    by : (t u : Bool) → (e.1.is_call && e.1.sender == o) ≡ t → (e.0 == b) ≡ u
        → (called_of o es ≡ Called b (call_by o m args) ∷ [] → has_arrived m (under (λ r. r == b) es) ≡ true)
        → has_arrived m (under (λ r. r == b) (e ∷ es)) ≡ true
    by true u i j k =
        let g : Called e.0 e.1 ∷ called_of o es ≡ Called b (call_by o m args) ∷ [] = rw i at h in
        let at : e.0 ≡ b = cc in
        let is : e.1 ≡ call_by o m args = cc in
        rw (at, equals b, is, equals m) refl
    by false true i j k = rw (j, k (rw i at h)) (grind arith)
    by false false i j k = rw j (k (rw i at h))

-- the earliest message that s has in the box has arrived
note_arrived : (s : ℕ) (names : List ℕ) (box : List Arrival) (f : Message) → first_message names (notes (letters_in s box)) ≡ Some f
    → has_arrived f.method box ≡ true
note_arrived s names [] f h = absurd (grind (arith, h))
note_arrived s names (a ∷ rest) f h = by (a.sender == s) a.is_call refl refl (note_arrived s names rest f)
  where
    later : (b : Bool) → has_arrived f.method rest ≡ true → (b || has_arrived f.method rest) ≡ true
    later true e = refl
    later false e = e

    by : (t u : Bool) → (a.sender == s) ≡ t → a.is_call ≡ u
        → (first_message names (notes (letters_in s rest)) ≡ Some f → has_arrived f.method rest ≡ true) → has_arrived f.method (a ∷ rest) ≡ true
    by false u i j k = later _ (k (rw i at h))
    by true true i j k = later _ (k (rw (i, j) at h))
    by true false i j k = named (has_name names a.method) refl
      where
        named : (n : Bool) → has_name names a.method ≡ n → has_arrived f.method (a ∷ rest) ≡ true
        named false e = later _ (k (rw (i, j, e) at h))
        named true e =
            let g : Some (record { method = a.method; args = a.args }) ≡ Some f = rw (i, j, e) at h in
            let is : a.method ≡ f.method = ap (λ x. x.method) (same_some g) in
            rw (is, equals f.method) refl

pub none_along : {X Y : Type 0} (h : X → List Y) (ks : List Pair) → along h [] ks ≡ []
none_along h [] = refl
none_along h (k ∷ ks) = rw (none_along h ks) refl

-- an object that is there is not ready
unready : {S : Type 0} (g : Language S) (d : Delay) (es : List (ℕ × S)) (o : ℕ) (x : S) → list_any (λ e. is_ready g d e.0 e.1) es ≡ false
    → find nat_cmp o es ≡ Some x → is_ready g d o x ≡ false
unready g d [] o x h e = absurd (grind (arith, e))
unready {S} g d (f ∷ es) o x h e = by (nat_cmp o f.0) refl (unready g d es o x n.1)
  where
    n : (is_ready g d f.0 f.1 ≡ false) × (list_any (λ e. is_ready g d e.0 e.1) es ≡ false)
    n = neither _ _ h

    by : (r : Ordering) → nat_cmp o f.0 ≡ r → (find nat_cmp o es ≡ Some x → is_ready g d o x ≡ false) → is_ready g d o x ≡ false
    by Less i k = k (rw i at e)
    by Greater i k = k (rw i at e)
    by Equal i k =
        let at : o ≡ f.0 = nat_cmp-IsAntisymmetric o f.0 i in
        let is : f.1 ≡ x = same_some (rw i at e) in
        subst (λ (z : S). is_ready g d o z ≡ false) is (subst (λ n. is_ready g d n f.1 ≡ false) (sym at) n.0)

-- an object with no packet on the way: its call has arrived, or it has nothing that it could do
data Rest {S : Type 0} (g : Language S) (d : Delay) (o : ℕ) (x : S) : Type 0 where
  Away : (b m : ℕ) (args : List Value) → g.kind o x ≡ K.Send b m args → called_of o d.arrived ≡ Called b (call_by o m args) ∷ [] → Rest g d o x
  Still : can_step (arrived_at d o) (g.kind o x) ≡ false → Rest g d o x

module _ {S : Type 0} (g : Language S) (W : Config S → Type 0) (l : Placement) (c : Config S) (d : Delay) (sound : IsSound g W l c d) (quiet : is_quiet g c d ≡ true) where
  no_links : d.links ≡ []
  no_links = by d.links refl
    where
      by : (ls : List (Pair × Packet)) → d.links ≡ ls → ls ≡ []
      by [] e = refl
      by (x ∷ xs) e = absurd (let q : false ≡ true = rw e at quiet in cc)

  none_ready : list_any (λ e. is_ready g d e.0 e.1) c.objects ≡ false
  none_ready = by (list_any (λ e. is_ready g d e.0 e.1) c.objects) refl
    where
      by : (b : Bool) → list_any (λ e. is_ready g d e.0 e.1) c.objects ≡ b → b ≡ false
      by false e = refl
      by true e = absurd (let q : (not (list_any (λ e. true) d.links) && (is_acknowledged d.wires && false)) ≡ true = rw e at quiet in grind (arith, q))

  rest : (o : ℕ) (x : S) → object_of c o ≡ Some x → g.fault x ≡ None → Rest g d o x
  rest o x h f = by (held d o) (g.kind o x) refl refl owned
    where
      owned : Owns o (held d o) (g.kind o x) (called_of o d.arrived)
      owned = subst (λ (ls : List (Pair × Packet)). Owns o (held d o) (g.kind o x) (sent_of o ls ++ called_of o d.arrived)) no_links (subst (λ (z : Option S). OwnedAt g o z (held d o) (entries d o)) h (sound.state.owned o)).0

      no_packet : (p : Packet) (es : List (ℕ × Arrival)) → called_of o es ≢ Sent p ∷ []
      no_packet p [] e = cc
      no_packet p (a ∷ es) e = at (a.1.is_call && a.1.sender == o) refl (no_packet p es)
        where
          at : (b : Bool) → (a.1.is_call && a.1.sender == o) ≡ b → called_of o es ≢ Sent p ∷ [] → ⊥
          at true i k = let q : Called a.0 a.1 ∷ called_of o es ≡ Sent p ∷ [] = rw i at e in cc
          at false i k = k (rw i at e)

      by : (t : Option Holding) (k : Kind) → held d o ≡ t → g.kind o x ≡ k → Owns o t k (called_of o d.arrived) → Rest g d o x
      by None k i j w = Still (let u = unready g d c.objects o x none_ready h in rw (i, f) at u)
      by (Some D.Posted) (K.New class) i j w = absurd (no_packet _ d.arrived w.2)
      by (Some D.Posted) (K.Send b m args) i j w = elim w as (λ v. Rest g d o x) [ inl e ↦ absurd (no_packet _ d.arrived e) | inr e ↦ Away b m args j e ]
      by (Some D.Posted) _ i j w = absurd w
      by (Some (D.Due v)) k i j w = elim w.1 as (λ z. Rest g d o x) [ inl e ↦ absurd (no_packet _ d.arrived e) | inr e ↦ absurd (no_packet _ d.arrived e.2) ]

  -- an object that is not there or has a fault, or one at rest
  data Runs (o : ℕ) : Type 0 where
    Out : running g c o ≡ None → Runs o
    In : (x : S) → running g c o ≡ Some x → Rest g d o x → Runs o

  runs : (o : ℕ) → Runs o
  runs o = by (object_of c o) refl
    where
      at : (x : S) → object_of c o ≡ Some x → (f : Option Error) → g.fault x ≡ f → Runs o
      at x e None f = In x (rw (e, f) refl) (rest o x e f)
      at x e (Some r) f = Out (rw (e, f) refl)

      by : (z : Option S) → object_of c o ≡ z → Runs o
      by None e = Out (rw e refl)
      by (Some x) e = at x e (g.fault x) refl

  nothing_offered : (b m : ℕ) (y : S) → Rest g d b y → has_arrived m (arrived_at d b) ≡ true → offered 1 (alternatives (g.kind b y)) m ≡ None
  nothing_offered b m y (Away r n args k e) h = rw k refl
  nothing_offered b m y (Still e) h = not_offered 1 (arrived_at d b) (alternatives (g.kind b y)) m h (none_possible (arrived_at d b) (g.kind b y) e)

  -- a call whose receiver could answer it has arrived there
  called_there : (o b m : ℕ) (args : List Value) (x : S) → Rest g d o x → calls (g.kind o x) b m args ≡ true → has_arrived m (arrived_at d b) ≡ true
  called_there o b m args x (Still e) h = absurd (grind (arith, h, no_call (arrived_at d o) (g.kind o x) b m args e))
  called_there o b m args x (Away r n vs k e) h =
      let t : (r == b && n == m && are_same vs args) ≡ true = rw k at h in
      let same = first (r == b && n == m) _ t in
      let to = equal r b (first (r == b) _ same) in
      let by = equal n m (second (r == b) (n == m) same) in
      rw (← to, ← by) (call_arrived o r n vs d.arrived e)

  -- the messages of a pair that were not taken have arrived
  messages_are : (s b : ℕ) → messages_of c s b ≡ notes (letters_in s (arrived_at d b))
  messages_are s b = sound.state.lists s b ∙ subst (λ (ls : List (Pair × Packet)). notes (letters_in s (arrived_at d b) ++ along (letter s b) ls ks) ≡ notes (letters_in s (arrived_at d b))) (sym no_links) none
    where
      ks : List Pair
      ks = path l (node_of s) (node_of b)

      none : notes (letters_in s (arrived_at d b) ++ along (letter s b) [] ks) ≡ notes (letters_in s (arrived_at d b))
      none = rw (none_along (letter s b) ks, append-nil (letters_in s (arrived_at d b))) refl

  nothing : {A B : Type 0} (o : Option A) → ◌>>=◌ {A = A} {B = B} o (λ v. None) ≡ None
  nothing None = refl
  nothing (Some a) = refl

  pub no_transition : (lab : Label) → move g c lab ≡ None
  no_transition (L.Local o) = elim (runs o) as (λ r. move g c (L.Local o) ≡ None) [
    | Out e ↦ rw e refl
    | In x e r ↦ elim r as (λ z. move g c (L.Local o) ≡ None) [ Away b m args k h ↦ rw (e, k) refl | Still h ↦ rw (e, no_local (arrived_at d o) (g.kind o x) h) refl ]
  ]
  no_transition (L.New o n k) = elim (runs o) as (λ r. move g c (L.New o n k) ≡ None) [
    | Out e ↦ rw e refl
    | In x e r ↦ elim r as (λ z. move g c (L.New o n k) ≡ None) [ Away b m args j h ↦ rw (e, j) refl | Still h ↦ rw (e, no_new (arrived_at d o) (g.kind o x) k.0 h) refl ]
  ]
  no_transition (L.Send o b m args) = elim (runs o) as (λ r. move g c (L.Send o b m args) ≡ None) [
    | Out e ↦ rw e refl
    | In x e r ↦ elim r as (λ z. move g c (L.Send o b m args) ≡ None) [ Away r n vs j h ↦ rw (e, j) refl | Still h ↦ rw (e, no_post (arrived_at d o) (g.kind o x) b m.0 args h) refl ]
  ]
  no_transition (L.Write o item) = elim (runs o) as (λ r. move g c (L.Write o item) ≡ None) [
    | Out e ↦ rw e refl
    | In x e r ↦ elim r as (λ z. move g c (L.Write o item) ≡ None) [ Away b m args j h ↦ rw (e, j) refl | Still h ↦ rw (e, no_write (arrived_at d o) (g.kind o x) item h) refl ]
  ]
  no_transition (L.Fault o f) = elim (runs o) as (λ r. move g c (L.Fault o f) ≡ None) [
    | Out e ↦ rw e refl
    | In x e r ↦ elim r as (λ z. move g c (L.Fault o f) ≡ None) [ Away b m args j h ↦ rw (e, j) refl | Still h ↦ rw (e, no_fault (arrived_at d o) (g.kind o x) f h) refl ]
  ]
  no_transition (L.Pick o i) = elim (runs o) as (λ r. move g c (L.Pick o i) ≡ None) [
    | Out e ↦ rw e refl
    | In x e r ↦ elim r as (λ z. move g c (L.Pick o i) ≡ None) [
      | Away b m args j h ↦ rw (e, j, no_pick [] [] i refl) refl
      | Still h ↦ rw (e, no_pick (arrived_at d o) (alternatives (g.kind o x)) i (none_possible (arrived_at d o) (g.kind o x) h)) refl
    ]
  ]
  no_transition (L.Return b o v) = elim (runs b) as (λ r. move g c (L.Return b o v) ≡ None) [
    | Out e ↦ rw e refl
    | In y e r ↦ elim (runs o) as (λ z. move g c (L.Return b o v) ≡ None) [
      | Out h ↦ rw (e, h) refl
      | In x h s ↦ elim r as (λ z. move g c (L.Return b o v) ≡ None) [ Away q m args j k ↦ rw (e, h, j) refl | Still k ↦ rw (e, h, no_return (arrived_at d b) (g.kind b y) o v k) refl ]
    ]
  ]
  no_transition (L.Answer b o m args) = elim (runs o) as (λ r. move g c (L.Answer b o m args) ≡ None) [
    | Out e ↦ rw e refl
    | In x e r ↦ elim (runs b) as (λ z. move g c (L.Answer b o m args) ≡ None) [
      | Out h ↦ rw (e, h) refl
      | In y h s ↦ by x e r y h s (calls (g.kind o x) b m.0 args) refl
    ]
  ]
    where
      by : (x : S) → running g c o ≡ Some x → Rest g d o x → (y : S) → running g c b ≡ Some y → Rest g d b y
          → (t : Bool) → calls (g.kind o x) b m.0 args ≡ t → move g c (L.Answer b o m args) ≡ None
      by x e r y h s false i = rw (e, h, i) refl
      by x e r y h s true i = rw (e, h, i, nothing_offered b m.0 y s (called_there o b m.0 args x r i)) refl
  no_transition (L.Take b s m args) = elim (runs b) as (λ r. move g c (L.Take b s m args) ≡ None) [
    | Out e ↦ rw e refl
    | In y e r ↦ by y e r (offered 1 (alternatives (g.kind b y)) m.0) refl
  ]
    where
      by : (y : S) → running g c b ≡ Some y → Rest g d b y → (v : Option (ℕ × List ℕ)) → offered 1 (alternatives (g.kind b y)) m.0 ≡ v → move g c (L.Take b s m args) ≡ None
      by y e r None i = rw (e, i) refl
      by y e r (Some v) i = at (first_message v.1 (messages_of c s b)) refl
        where
          at : (f : Option Message) → first_message v.1 (messages_of c s b) ≡ f → move g c (L.Take b s m args) ≡ None
          at None j = rw (e, i, j) refl
          at (Some f) j = is (f.method == m.0) refl
            where
              is : (t : Bool) → (f.method == m.0) ≡ t → move g c (L.Take b s m args) ≡ None
              is false k = rw (e, i, j, k) refl
              is true k =
                  let there : has_arrived f.method (arrived_at d b) ≡ true = note_arrived s v.1 (arrived_at d b) f (subst (λ (ms : List Message). first_message v.1 ms ≡ Some f) (messages_are s b) j) in
                  let at : has_arrived m.0 (arrived_at d b) ≡ true = subst (λ n. has_arrived n (arrived_at d b) ≡ true) (equal f.method m.0 k) there in
                  absurd (let q : None ≡ Some v = sym (nothing_offered b m.0 y r at) ∙ i in cc)
