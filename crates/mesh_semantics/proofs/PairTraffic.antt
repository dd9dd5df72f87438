-- The letters of a pair after a packet was posted, moved or left its link, or a message arrived or was taken.
use Rattle.std.proofs.Common.{◌≡◌, ◌≢◌, refl, sym, ap, ap₂, subst, ◌∙◌, ℕ, ◌*◌, ◌<◌, ◌==◌, List, [], ◌∷◌, ◌++◌, append_assoc, append-nil, Some, Bool, true, false, ◌&&◌}
use Rattle.run_types.specs.declared.types.Placement.{Placement}
use Rattle.run_types.specs.Tables.{Pair}
use Rattle.run_types.proofs.Laws.{first, second, equal}
use Rattle.run_types.specs.Paths.{next, path, under, on_link, put_last, move_head, along, ends_of}
use Rattle.mesh_semantics.specs.Delay as D
use Rattle.mesh_semantics.specs.Delay.{Packet, Arrival, Delay, post, arrived_at, arrive, is_for, take_arrival}
use Rattle.run_types.specs.ObjectNames.{node_of}
use Rattle.mesh_semantics.specs.Act.{first_of, goal_node}
use Rattle.mesh_semantics.specs.Sound.{Letter, letters_in, letter_if, letter, letters, sender_of, Has, OnPath}
use Rattle.run_types.specs.PathFacts.{Leads, Once, Ways}
use Rattle.mesh_semantics.proofs.LinksAndArrivals.{under-append}
use Rattle.mesh_semantics.proofs.PathTraffic.{put_nothing, move_nothing, entered, left, gone_on, apart, Where, End, Before, where_is, begins, stays}
use Rattle.mesh_semantics.proofs.OwnedTraffic.{moved}

-- a packet has no letter of the pair, or goes from its one to its other
pub data Carried (l : Placement) (s r : ℕ) (x : Packet) : Type 0 where
  Not : letter s r x ≡ [] → Carried l s r x
  Is : s ≡ sender_of x → node_of r ≡ goal_node x → ((k : Pair) → OnPath l k x → Has (path l (node_of s) (node_of r)) k) → Carried l s r x

pub carried : (l : Placement) (s r : ℕ) (x : Packet) → Carried l s r x
carried l s r (D.Create o goal class) = Not refl
carried l s r (D.Created o name) = Not refl
carried l s r (D.Result o v) = Not refl
carried l s r (D.Request o b m args) = by (o == s && b == r) refl
  where
    by : (t : Bool) → (o == s && b == r) ≡ t → Carried l s r (D.Request o b m args)
    by false e = Not (rw e refl)
    by true e =
        let is = equal o s (first (o == s) (b == r) e) in
        let to = equal b r (second (o == s) (b == r) e) in
        Is (sym is) (ap node_of (sym to)) (λ k h. subst (λ n. Has (path l (node_of n) (node_of r)) k) is (subst (λ n. Has (path l (node_of o) (node_of n)) k) to h))
carried l s r (D.Async o b m args) = by (o == s && b == r) refl
  where
    by : (t : Bool) → (o == s && b == r) ≡ t → Carried l s r (D.Async o b m args)
    by false e = Not (rw e refl)
    by true e =
        let is = equal o s (first (o == s) (b == r) e) in
        let to = equal b r (second (o == s) (b == r) e) in
        Is (sym is) (ap node_of (sym to)) (λ k h. subst (λ n. Has (path l (node_of n) (node_of r)) k) is (subst (λ n. Has (path l (node_of o) (node_of n)) k) to h))

abbrev nodes : Placement → ℕ
nodes l = l.width * l.height

module _ (l : Placement) (w : Ways l) (d : Delay) (s r : ℕ) where
  -- a packet is posted from the node of its sender
  pub letters_post : (from : ℕ) (x : Packet) → from < nodes l → goal_node x < nodes l → from ≢ goal_node x → (s ≡ sender_of x → from ≡ node_of s)
      → letters l (post l from (goal_node x) x d) s r ≡ letters l d s r ++ letter s r x
  letters_post from x p q n at = by (carried l s r x)
    where
      by : Carried l s r x → letters l (post l from (goal_node x) x d) s r ≡ letters l d s r ++ letter s r x
      by (Not e) =
          let same : letters l (post l from (goal_node x) x d) s r ≡ letters l d s r = ap (λ ys. letters_in s (arrived_at d r) ++ ys) (put_nothing (letter s r) d.links (from, next l from (goal_node x)) x (path l (node_of s) (node_of r)) e) in
          same ∙ sym (ap (λ ys. letters l d s r ++ ys) e ∙ append-nil (letters l d s r))
      by (Is i j on) =
          let b = begins l w from (goal_node x) p q n in
          let is : path l (node_of s) (node_of r) ≡ (from, next l from (goal_node x)) ∷ b.rest = ap₂ (path l) (sym (at i)) j ∙ b.is in
          let whole = apart (next l) (goal_node x) from (path l from (goal_node x)) (w.leads from (goal_node x) p q) (w.once from (goal_node x) p q) in
          let ent = entered (letter s r) d.links (from, next l from (goal_node x)) x b.rest (rw b.is at whole) in
          ap (λ ks. letters_in s (arrived_at d r) ++ along (letter s r) (put_last (from, next l from (goal_node x)) x d.links) ks) is
          ∙ ap (λ ys. letters_in s (arrived_at d r) ++ ys) ent
          ∙ ap (λ ks. letters_in s (arrived_at d r) ++ (along (letter s r) d.links ks ++ letter s r x)) (sym is)
          ∙ sym (append_assoc (letters_in s (arrived_at d r)) (along (letter s r) d.links (path l (node_of s) (node_of r))) (letter s r x))

  -- a packet without a letter leaves its link
  pub letters_moved : (k : Pair) (x : Packet) → first_of (on_link d.links k) ≡ Some x → letter s r x ≡ [] → letters l (moved k d) s r ≡ letters l d s r
  letters_moved k x h e = ap (λ ys. letters_in s (arrived_at d r) ++ ys) (move_nothing (letter s r) d.links k x (path l (node_of s) (node_of r)) h e)

  -- a packet with or without a letter goes on from its link to the next one
  pub letters_passed : (k : Pair) (x : Packet) → (s ≡ sender_of x → node_of s < nodes l) → goal_node x < nodes l → k.1 ≢ goal_node x → OnPath l k x → first_of (on_link d.links k) ≡ Some x
      → letters l (post l k.1 (goal_node x) x (moved k d)) s r ≡ letters l d s r
  letters_passed k x p q n on h = by (carried l s r x)
    where
      by : Carried l s r x → letters l (post l k.1 (goal_node x) x (moved k d)) s r ≡ letters l d s r
      by (Not e) =
          ap (λ ys. letters_in s (arrived_at d r) ++ ys)
          (put_nothing (letter s r) (move_head k d.links) (k.1, next l k.1 (goal_node x)) x (path l (node_of s) (node_of r)) e
          ∙ move_nothing (letter s r) d.links k x (path l (node_of s) (node_of r)) h e)
      by (Is i j lies) = ap (λ ys. letters_in s (arrived_at d r) ++ ys) (there (where_is (next l) (goal_node x) (node_of s) (path l (node_of s) (node_of r)) k leads (lies k on)).2)
        where
          leads : Leads (next l) (goal_node x) (node_of s) (path l (node_of s) (node_of r))
          leads = subst (λ g. Leads (next l) g (node_of s) (path l (node_of s) (node_of r))) j (w.leads (node_of s) (node_of r) (p i) (subst (λ g. g < nodes l) (sym j) q))

          once : Once (node_of s ∷ ends_of (path l (node_of s) (node_of r)))
          once = w.once (node_of s) (node_of r) (p i) (subst (λ g. g < nodes l) (sym j) q)

          there : Where (next l) (goal_node x) (path l (node_of s) (node_of r)) k
              → along (letter s r) (put_last (k.1, next l k.1 (goal_node x)) x (move_head k d.links)) (path l (node_of s) (node_of r)) ≡ along (letter s r) d.links (path l (node_of s) (node_of r))
          there (End e u) = absurd (n e)
          there (Before e u) = gone_on (letter s r) d.links k (k.1, next l k.1 (goal_node x)) x (path l (node_of s) (node_of r)) (apart (next l) (goal_node x) (node_of s) (path l (node_of s) (node_of r)) leads once) u h

-- the letter that an arrived message is for the pair
abbrev pub letter_of : ℕ → ℕ → ℕ → Arrival → List Letter
letter_of s r o a = letter_if (a.sender == s && o == r) a.is_call a.method a.args

in_append : (s : ℕ) (xs : List Arrival) (a : Arrival) → letters_in s (xs ++ a ∷ []) ≡ letters_in s xs ++ letter_if (a.sender == s) a.is_call a.method a.args
in_append s [] a = by (a.sender == s) refl
  where
    by : (t : Bool) → (a.sender == s) ≡ t → letters_in s (a ∷ []) ≡ letter_if (a.sender == s) a.is_call a.method a.args
    by true i = rw i refl
    by false i = rw i refl
in_append s (x ∷ xs) a = by (x.sender == s) refl (in_append s xs a)
  where
    by : (t : Bool) → (x.sender == s) ≡ t → letters_in s (xs ++ a ∷ []) ≡ letters_in s xs ++ letter_if (a.sender == s) a.is_call a.method a.args
        → letters_in s ((x ∷ xs) ++ a ∷ []) ≡ letters_in s (x ∷ xs) ++ letter_if (a.sender == s) a.is_call a.method a.args
    by true i k = rw i (ap (λ ys. record { is_call = x.is_call; message = record { method = x.method; args = x.args } } ∷ ys) k)
    by false i k = rw i k

module _ (d : Delay) (s r : ℕ) where
  -- what has arrived of s at r, after one more message arrived
  pub in_arrived : (o : ℕ) (a : Arrival) → letters_in s (arrived_at (arrive o a d) r) ≡ letters_in s (arrived_at d r) ++ letter_of s r o a
  in_arrived o a = ap (letters_in s) (under-append (λ q. q == r) d.arrived ((o, a) ∷ [])) ∙ by (o == r) refl
    where
      never : (b : Bool) → (b && false) ≡ false
      never true = refl
      never false = refl

      always : (b : Bool) → (b && true) ≡ b
      always true = refl
      always false = refl

      by : (t : Bool) → (o == r) ≡ t → letters_in s (arrived_at d r ++ under (λ q. q == r) ((o, a) ∷ [])) ≡ letters_in s (arrived_at d r) ++ letter_of s r o a
      by true i = rw i (in_append s (arrived_at d r) a ∙ ap (λ b. letters_in s (arrived_at d r) ++ letter_if b a.is_call a.method a.args) (sym (always (a.sender == s))))
      by false i =
          rw i (ap (letters_in s) (append-nil (arrived_at d r))
          ∙ sym (ap (λ b. letters_in s (arrived_at d r) ++ letter_if b a.is_call a.method a.args) (never (a.sender == s)) ∙ append-nil (letters_in s (arrived_at d r))))

module _ (l : Placement) (w : Ways l) (d : Delay) (s r : ℕ) where
  -- a message arrives at an object of its sender's node
  pub letters_here : (o : ℕ) (a : Arrival) → node_of o < nodes l → node_of a.sender ≡ node_of o
      → letters l (arrive o a d) s r ≡ letters l d s r ++ letter_of s r o a
  letters_here o a p n = by (a.sender == s && o == r) refl
    where
      rest : List Letter
      rest = along (letter s r) d.links (path l (node_of s) (node_of r))

      start : letters l (arrive o a d) s r ≡ (letters_in s (arrived_at d r) ++ letter_of s r o a) ++ along (letter s r) d.links (path l (node_of s) (node_of r))
      start = ap (λ ys. ys ++ along (letter s r) d.links (path l (node_of s) (node_of r))) (in_arrived d s r o a)

      by : (t : Bool) → (a.sender == s && o == r) ≡ t → letters l (arrive o a d) s r ≡ letters l d s r ++ letter_of s r o a
      by false i =
          start ∙ ap (λ b. (letters_in s (arrived_at d r) ++ letter_if b a.is_call a.method a.args) ++ along (letter s r) d.links (path l (node_of s) (node_of r))) i
          ∙ ap (λ ys. ys ++ along (letter s r) d.links (path l (node_of s) (node_of r))) (append-nil (letters_in s (arrived_at d r)))
          ∙ sym (ap (λ b. letters l d s r ++ letter_if b a.is_call a.method a.args) i ∙ append-nil (letters l d s r))
      by true i =
          let is = equal a.sender s (first (a.sender == s) (o == r) i) in
          let to = equal o r (second (a.sender == s) (o == r) i) in
          let here : node_of s ≡ node_of r = ap node_of (sym is) ∙ n ∙ ap node_of to in
          let inside : node_of r < nodes l = subst (λ q. node_of q < nodes l) to p in
          let none : path l (node_of s) (node_of r) ≡ [] = stays l w (node_of s) (node_of r) (subst (λ q. q < nodes l) (sym here) inside) inside here in
          start ∙ ap (λ ks. (letters_in s (arrived_at d r) ++ letter_of s r o a) ++ along (letter s r) d.links ks) none
          ∙ append-nil (letters_in s (arrived_at d r) ++ letter_of s r o a)
          ∙ sym (ap (λ ks. (letters_in s (arrived_at d r) ++ along (letter s r) d.links ks) ++ letter_of s r o a) none
          ∙ ap (λ ys. ys ++ letter_of s r o a) (append-nil (letters_in s (arrived_at d r))))

  -- a packet at its goal leaves the links and arrives
  pub letters_delivered : (k : Pair) (x : Packet) (o : ℕ) (a : Arrival) → (s ≡ sender_of x → node_of s < nodes l) → goal_node x < nodes l → k.1 ≡ goal_node x → OnPath l k x
      → first_of (on_link d.links k) ≡ Some x → ((s r : ℕ) → letter s r x ≡ letter_of s r o a)
      → letters l (arrive o a (moved k d)) s r ≡ letters l d s r
  letters_delivered k x o a p q n on h same =
      ap (λ ys. ys ++ along (letter s r) (move_head k d.links) (path l (node_of s) (node_of r))) (in_arrived (moved k d) s r o a ∙ ap (λ ys. letters_in s (arrived_at d r) ++ ys) (sym (same s r)))
      ∙ append_assoc (letters_in s (arrived_at d r)) (letter s r x) (along (letter s r) (move_head k d.links) (path l (node_of s) (node_of r)))
      ∙ ap (λ ys. letters_in s (arrived_at d r) ++ ys) (by (carried l s r x))
    where
      by : Carried l s r x → letter s r x ++ along (letter s r) (move_head k d.links) (path l (node_of s) (node_of r)) ≡ along (letter s r) d.links (path l (node_of s) (node_of r))
      by (Not e) = rw e (move_nothing (letter s r) d.links k x (path l (node_of s) (node_of r)) h e)
      by (Is i j lies) = there (where_is (next l) (goal_node x) (node_of s) (path l (node_of s) (node_of r)) k leads (lies k on)).2
        where
          leads : Leads (next l) (goal_node x) (node_of s) (path l (node_of s) (node_of r))
          leads = subst (λ g. Leads (next l) g (node_of s) (path l (node_of s) (node_of r))) j (w.leads (node_of s) (node_of r) (p i) (subst (λ g. g < nodes l) (sym j) q))

          once : Once (node_of s ∷ ends_of (path l (node_of s) (node_of r)))
          once = w.once (node_of s) (node_of r) (p i) (subst (λ g. g < nodes l) (sym j) q)

          there : Where (next l) (goal_node x) (path l (node_of s) (node_of r)) k
              → letter s r x ++ along (letter s r) (move_head k d.links) (path l (node_of s) (node_of r)) ≡ along (letter s r) d.links (path l (node_of s) (node_of r))
          there (End e u) = sym (left (letter s r) d.links k x (path l (node_of s) (node_of r)) (apart (next l) (goal_node x) (node_of s) (path l (node_of s) (node_of r)) leads once) u h)
          there (Before e u) = absurd (e n)
