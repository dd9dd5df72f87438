-- The post of a packet or a call.
use Rattle.std.proofs.Common.{◌≡◌, ◌≢◌, inl, refl, sym, ap, subst, ◌∙◌, ℕ, ◌+◌, ◌*◌, ◌<◌, ◌==◌, List, [], ◌∷◌, ◌++◌, append-nil, Bool, true, false, ◌&&◌, if◌then◌else◌, flat_map, arith}
use Rattle.run_types.specs.declared.types.Value.{Value}
use Rattle.run_types.specs.declared.types.Placement.{Placement}
use Rattle.run_types.specs.Tables.{Pair, Each}
use Rattle.run_types.proofs.Laws.{equals, differ, each_append, each_both}
use Rattle.mesh_semantics.specs.Config.{Config}
use Rattle.run_types.specs.Paths.{next, path, total, under, on_link, along}
use Rattle.mesh_semantics.specs.Delay as D
use Rattle.mesh_semantics.specs.Delay.{Packet, Arrival, Delay, post, arrived_at, arrive, cell_count}
use Rattle.run_types.specs.ObjectNames.{node_of}
use Rattle.mesh_semantics.specs.Act.{goal_node}
use Rattle.mesh_semantics.specs.Sound.{Entry, Sent, Called, owns, sent_of, called_of, entries, call_by, Letter, letters_in, letter_if, letter, letters, notes, CallsLast, Has, IsThere, IsPlaced}
use Rattle.run_types.specs.PathFacts.{Ways}
use Rattle.mesh_semantics.proofs.PathTraffic.{put_nothing, begins}
use Rattle.mesh_semantics.proofs.OwnedTraffic.{no_part, post_other, post_own, arrive_other, arrive_own}
use Rattle.mesh_semantics.proofs.PairTraffic.{letters_post, letters_here, letter_of}

-- letters that are joined

pub notes_append : (xs ys : List Letter) → notes (xs ++ ys) ≡ notes xs ++ notes ys
notes_append [] ys = refl
notes_append (x ∷ xs) ys = by x.is_call refl (notes_append xs ys)
  where
    by : (b : Bool) → x.is_call ≡ b → notes (xs ++ ys) ≡ notes xs ++ notes ys → notes ((x ∷ xs) ++ ys) ≡ notes (x ∷ xs) ++ notes ys
    by true i k = rw i k
    by false i k = rw i (ap (λ ms. x.message ∷ ms) k)

pub last_append : (xs ys : List Letter) → CallsLast xs → CallsLast ys → notes ys ≡ [] → CallsLast (xs ++ ys)
last_append [] ys o p n = p
last_append (x ∷ xs) ys o p n = (λ c. notes_append xs ys ∙ rw (o.0 c, n) refl, last_append xs ys o.1 p n)

-- a letter that is nothing, or a call
abbrev pub Quiet : List Letter → Type 0
Quiet ys = (notes ys ≡ []) × CallsLast ys

pub call_quiet : (t : Bool) (m : ℕ) (args : List Value) → Quiet (letter_if t true m args)
call_quiet true m args = (refl, (λ c. refl, tt))
call_quiet false m args = (refl, tt)

-- an asynchronous message behind letters without a call
pub note_last : (xs ys : List Letter) → Each (λ x. x.is_call ≡ false) xs → CallsLast ys → CallsLast (xs ++ ys)
note_last [] ys n p = p
note_last (x ∷ xs) ys n p = (λ c. absurd (let q : true ≡ false = sym c ∙ n.0 in cc), note_last xs ys n.1 p)

pub note_alone : (t : Bool) (m : ℕ) (args : List Value) → CallsLast (letter_if t false m args)
note_alone true m args = (λ c. refl, tt)
note_alone false m args = tt

-- who owns nothing has no call among the letters

no_calls_in : (s r : ℕ) (es : List (ℕ × Arrival)) → called_of s es ≡ [] → Each (λ x. x.is_call ≡ false) (letters_in s (under (λ q. q == r) es))
no_calls_in s r [] h = tt
no_calls_in s r (e ∷ es) h = by (e.0 == r) (e.1.sender == s) e.1.is_call refl refl refl (no_calls_in s r es)
  where
    by : (t u v : Bool) → (e.0 == r) ≡ t → (e.1.sender == s) ≡ u → e.1.is_call ≡ v
        → (called_of s es ≡ [] → Each (λ x. x.is_call ≡ false) (letters_in s (under (λ q. q == r) es)))
        → Each (λ x. x.is_call ≡ false) (letters_in s (under (λ q. q == r) (e ∷ es)))
    by t true true i j m k = absurd (let q = rw (m, j) at h in cc)
    by true true false i j m k = rw (i, j) (m, k (rw m at h))
    by true false true i j m k = rw (i, j) (k (rw (m, j) at h))
    by true false false i j m k = rw (i, j) (k (rw m at h))
    by false true false i j m k = rw i (k (rw m at h))
    by false false true i j m k = rw i (k (rw (m, j) at h))
    by false false false i j m k = rw i (k (rw m at h))

no_call_letter : (s r : ℕ) (x : Packet) → owns s x ≡ false → Each (λ y. y.is_call ≡ false) (letter s r x)
no_call_letter s r (D.Create o goal class) h = tt
no_call_letter s r (D.Created o name) h = tt
no_call_letter s r (D.Result o v) h = tt
no_call_letter s r (D.Request o b m args) h = rw h tt
no_call_letter s r (D.Async o b m args) h = by (o == s && b == r)
  where
    by : (t : Bool) → Each (λ y. y.is_call ≡ false) (letter_if t false m args)
    by true = (refl, tt)
    by false = tt

no_calls_on : (s r : ℕ) (k : Pair) (ls : List (Pair × Packet)) → sent_of s ls ≡ [] → Each (λ x. x.is_call ≡ false) (flat_map (letter s r) (on_link ls k))
no_calls_on s r k [] h = tt
no_calls_on s r k (e ∷ ls) h = by (owns s e.1) (e.0.0 == k.0 && e.0.1 == k.1) refl refl (no_calls_on s r k ls)
  where
    by : (t u : Bool) → owns s e.1 ≡ t → (e.0.0 == k.0 && e.0.1 == k.1) ≡ u
        → (sent_of s ls ≡ [] → Each (λ x. x.is_call ≡ false) (flat_map (letter s r) (on_link ls k)))
        → Each (λ x. x.is_call ≡ false) (flat_map (letter s r) (on_link (e ∷ ls) k))
    by true u i j m = absurd (let q : Sent e.1 ∷ sent_of s ls ≡ [] = rw i at h in cc)
    by false true i j m = rw j (each_both (λ x. x.is_call ≡ false) (letter s r e.1) (flat_map (letter s r) (on_link ls k)) (no_call_letter s r e.1 i) (m (rw i at h)))
    by false false i j m = rw j (m (rw i at h))

no_calls_along : (s r : ℕ) (ls : List (Pair × Packet)) (ks : List Pair) → sent_of s ls ≡ [] → Each (λ x. x.is_call ≡ false) (along (letter s r) ls ks)
no_calls_along s r ls [] h = tt
no_calls_along s r ls (k ∷ ks) h =
    each_both (λ x. x.is_call ≡ false) (along (letter s r) ls ks) (flat_map (letter s r) (on_link ls k)) (no_calls_along s r ls ks h) (no_calls_on s r k ls h)

pub no_calls : (l : Placement) (d : Delay) (s r : ℕ) → entries d s ≡ [] → Each (λ x. x.is_call ≡ false) (letters l d s r)
no_calls l d s r h =
    let n = no_part (sent_of s d.links) (called_of s d.arrived) h in
    each_both (λ x. x.is_call ≡ false) (letters_in s (arrived_at d r)) (along (letter s r) d.links (path l (node_of s) (node_of r)))
    (no_calls_in s r d.arrived n.1) (no_calls_along s r d.links (path l (node_of s) (node_of r)) n.0)

-- sums

pub total_append : {E : Type 0} (f : E → ℕ) (xs : List E) (y : E) → total f (xs ++ y ∷ []) ≡ total f xs + f y
total_append f [] y = omega arith
total_append f (x ∷ xs) y = ap (λ n. f x + n) (total_append f xs y) ∙ (omega arith)

pub cells_post : (l : Placement) (from goal : ℕ) (x : Packet) (d : Delay) (m : ℕ) → m ≢ from → cell_count (post l from goal x d) m ≡ cell_count d m
cells_post l from goal x d m n =
    let i = total_append (λ e. if e.0.0 == m then 1 else 0) d.links ((from, next l from goal), x) in
    let z : (if from == m then 1 else 0) ≡ 0 = rw (differ from m (λ e. n (sym e))) refl in
    ap (λ k. total (λ e. if node_of e.0 == m then 1 else 0) d.arrived + k) (i ∙ ap (λ k. total (λ e. if e.0.0 == m then 1 else 0) d.links + k) z ∙ (omega arith))

pub cells_arrive : (o : ℕ) (a : Arrival) (d : Delay) (m : ℕ) → m ≢ node_of o → cell_count (arrive o a d) m ≡ cell_count d m
cells_arrive o a d m n =
    let i = total_append (λ e. if node_of e.0 == m then 1 else 0) d.arrived (o, a) in
    let z : (if node_of o == m then 1 else 0) ≡ 0 = rw (differ (node_of o) m (λ e. n (sym e))) refl in
    ap (λ k. k + total (λ e. if e.0.0 == m then 1 else 0) d.links) (i ∙ ap (λ k. total (λ e. if node_of e.0 == m then 1 else 0) d.arrived + k) z ∙ (omega arith))

-- From the node n one entry of o, who owned nothing, has come on its way.
pub record Posts {S : Type 0} (l : Placement) (c : Config S) (d e : Delay) (n o : ℕ) (entry : Entry) : Type 0 where
  pub holding : e.holding ≡ d.holding
  pub own : entries e o ≡ entry ∷ []
  pub others : (q : ℕ) → q ≢ o → entries e q ≡ entries d q
  pub packets : Each (IsPlaced l c) e.links
  pub arrivals : Each (λ a. IsThere c a.1.sender) e.arrived
  pub lists : (s r : ℕ) → notes (letters l e s r) ≡ notes (letters l d s r)
  pub order : (s r : ℕ) → CallsLast (letters l e s r)
  pub cells : (m : ℕ) → m ≢ n → cell_count e m ≡ cell_count d m

module _ {S : Type 0} (l : Placement) (w : Ways l) (c : Config S) (d : Delay) (packets : Each (IsPlaced l c) d.links) (arrivals : Each (λ a. IsThere c a.1.sender) d.arrived)
    (order : (s r : ℕ) → CallsLast (letters l d s r)) (n o : ℕ) (own : entries d o ≡ []) (there : IsThere c o) where
  joined : (e : Delay) (s r : ℕ) (ys : List Letter) → letters l e s r ≡ letters l d s r ++ ys → Quiet ys → (notes (letters l e s r) ≡ notes (letters l d s r)) × CallsLast (letters l e s r)
  joined e s r ys h q = (
    ap notes h ∙ notes_append (letters l d s r) ys ∙ ap (λ ms. notes (letters l d s r) ++ ms) q.0 ∙ append-nil (notes (letters l d s r)),
    subst CallsLast (sym h) (last_append (letters l d s r) ys (order s r) q.1 q.0),
  )

  -- a packet of o from the node n
  module _ (x : Packet) (mine : owns o x ≡ true) (others : (q : ℕ) → q ≢ o → owns q x ≡ false) (is : IsPlaced l c ((n, next l n (goal_node x)), x)) where
    whole : ((s r : ℕ) → letters l (post l n (goal_node x) x d) s r ≡ letters l d s r ++ letter s r x) → ((s r : ℕ) → Quiet (letter s r x))
        → Posts l c d (post l n (goal_node x) x d) n o (Sent x)
    whole h q = record {
      holding = refl;
      own = post_own l d n (goal_node x) x o mine own;
      others = λ z m. post_other l d n (goal_node x) x z (others z m);
      packets = each_append (IsPlaced l c) d.links ((n, next l n (goal_node x)), x) packets is;
      arrivals = arrivals;
      lists = λ s r. (joined (post l n (goal_node x) x d) s r (letter s r x) (h s r) (q s r)).0;
      order = λ s r. (joined (post l n (goal_node x) x d) s r (letter s r x) (h s r) (q s r)).1;
      cells = λ m z. cells_post l n (goal_node x) x d m z;
    }

    -- without a letter
    pub posts_silent : ((s r : ℕ) → letter s r x ≡ []) → Posts l c d (post l n (goal_node x) x d) n o (Sent x)
    posts_silent e = whole
        (λ s r. ap (λ ys. letters_in s (arrived_at d r) ++ ys) (put_nothing (letter s r) d.links (n, next l n (goal_node x)) x (path l (node_of s) (node_of r)) (e s r))
        ∙ sym (ap (λ ys. letters l d s r ++ ys) (e s r) ∙ append-nil (letters l d s r)))
        (λ s r. subst Quiet (sym (e s r)) (refl, tt))

  -- a call that goes by a packet
  pub posts_request : (b m : ℕ) (args : List Value) → n ≡ node_of o → n < l.width * l.height → node_of b < l.width * l.height → n ≢ node_of b
      → Posts l c d (post l n (node_of b) (D.Request o b m args) d) n o (Sent (D.Request o b m args))
  posts_request b m args at p q far = whole (D.Request o b m args) (equals o) (λ z k. differ o z (λ e. k (sym e)))
      (record { sender = there; goal = q; link = (w.link n (node_of b) p q far); way = (far, refl); on_path = on })
      (λ s r. letters_post l w d s r n (D.Request o b m args) p q far (λ e. at ∙ ap node_of (sym e)))
      (λ s r. call_quiet (o == s && b == r) m args)
    where
      on : Has (path l (node_of o) (node_of b)) (n, next l n (node_of b))
      on = let z = begins l w n (node_of b) p q far in subst (λ a. Has (path l a (node_of b)) (n, next l n (node_of b))) at (rw z.is (inl refl))

  -- a call whose receiver is at the same node
  pub posts_call : (b m : ℕ) (args : List Value) → n ≡ node_of o → node_of b < l.width * l.height → n ≡ node_of b
      → Posts l c d (arrive b (call_by o m args) d) n o (Called b (call_by o m args))
  posts_call b m args at q near = record {
    holding = refl;
    own = arrive_own l d b (call_by o m args) o (equals o) own;
    others = λ z k. arrive_other l d b (call_by o m args) z (differ o z (λ e. k (sym e)));
    packets = packets;
    arrivals = each_append (λ a. IsThere c a.1.sender) d.arrived (b, call_by o m args) arrivals there;
    lists = λ s r. (joined (arrive b (call_by o m args) d) s r (letter_of s r b (call_by o m args)) (letters_here l w d s r b (call_by o m args) q (sym at ∙ near)) (call_quiet (o == s && b == r) m args)).0;
    order = λ s r. (joined (arrive b (call_by o m args) d) s r (letter_of s r b (call_by o m args)) (letters_here l w d s r b (call_by o m args) q (sym at ∙ near)) (call_quiet (o == s && b == r) m args)).1;
    cells = λ k z. cells_arrive b (call_by o m args) d k (λ e. z (e ∙ sym near));
  }
