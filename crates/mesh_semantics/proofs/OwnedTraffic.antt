-- The entries of an object after a packet was posted or left its link, or a message arrived or was taken.
use Rattle.std.proofs.Common.{◌≡◌, ◌≢◌, refl, sym, ap, ap₂, ◌∙◌, ℕ, ◌==◌, List, [], ◌∷◌, ◌++◌, append_assoc, append-nil, Some, Bool, true, false, ◌&&◌}
use Rattle.run_types.specs.declared.types.Placement.{Placement}
use Rattle.run_types.specs.Tables.{Pair}
use Rattle.run_types.proofs.Laws.{equal, same_some}
use Rattle.mesh_semantics.specs.Kind.{has_name}
use Rattle.run_types.specs.Paths.{next, under, without_first, on_link, put_last, move_head}
use Rattle.mesh_semantics.specs.Delay.{Packet, Arrival, Delay, post, arrived_at, arrive, is_for, take_arrival}
use Rattle.mesh_semantics.specs.Act.{first_of, first_arrival}
use Rattle.mesh_semantics.specs.Sound.{Entry, Sent, Called, owns, sent_of, called_of, entries}
use Rattle.mesh_semantics.proofs.LinksAndArrivals.{Heads, heads}

-- lists that are joined

pub no_part : {X : Type 0} (xs ys : List X) → xs ++ ys ≡ [] → (xs ≡ []) × (ys ≡ [])
no_part [] ys e = (refl, e)
no_part (x ∷ xs) ys e = absurd (cc)

-- one element between two parts is all
pub one_part : {X : Type 0} (xs ys : List X) (x e : X) → xs ++ x ∷ ys ≡ e ∷ [] → (e ≡ x) × (xs ++ ys ≡ [])
one_part [] ys x e h = (cc, cc)
one_part (z ∷ xs) ys x e h = absurd (let t : xs ++ x ∷ ys ≡ [] = cc in let p = (no_part xs (x ∷ ys) t).1 in cc)

pub not_empty : {X : Type 0} (xs ys : List X) (x : X) → xs ++ x ∷ ys ≢ []
not_empty xs ys x e = let p = (no_part xs (x ∷ ys) e).1 in cc

sent_append : (q : ℕ) (es fs : List (Pair × Packet)) → sent_of q (es ++ fs) ≡ sent_of q es ++ sent_of q fs
sent_append q [] fs = refl
sent_append q (e ∷ es) fs = by (owns q e.1) refl (sent_append q es fs)
  where
    by : (b : Bool) → owns q e.1 ≡ b → sent_of q (es ++ fs) ≡ sent_of q es ++ sent_of q fs → sent_of q ((e ∷ es) ++ fs) ≡ sent_of q (e ∷ es) ++ sent_of q fs
    by true i r = rw i (ap (λ xs. Sent e.1 ∷ xs) r)
    by false i r = rw i r

-- an arrived message that is a call of q
abbrev pub is_call_of : ℕ → Arrival → Bool
is_call_of q a = a.is_call && a.sender == q

called_append : (q : ℕ) (es fs : List (ℕ × Arrival)) → called_of q (es ++ fs) ≡ called_of q es ++ called_of q fs
called_append q [] fs = refl
called_append q (e ∷ es) fs = by (is_call_of q e.1) refl (called_append q es fs)
  where
    by : (b : Bool) → is_call_of q e.1 ≡ b → called_of q (es ++ fs) ≡ called_of q es ++ called_of q fs → called_of q ((e ∷ es) ++ fs) ≡ called_of q (e ∷ es) ++ called_of q fs
    by true i r = rw i (ap (λ xs. Called e.0 e.1 ∷ xs) r)
    by false i r = rw i r

module _ (l : Placement) (d : Delay) where
  pub post_other : (from goal : ℕ) (x : Packet) (q : ℕ) → owns q x ≡ false → entries (post l from goal x d) q ≡ entries d q
  post_other from goal x q h = ap (λ es. es ++ called_of q d.arrived) (sent_append q d.links _ ∙ rw h (append-nil (sent_of q d.links)))

  pub post_own : (from goal : ℕ) (x : Packet) (q : ℕ) → owns q x ≡ true → entries d q ≡ [] → entries (post l from goal x d) q ≡ Sent x ∷ []
  post_own from goal x q h e =
      let n = no_part (sent_of q d.links) (called_of q d.arrived) e in
      let s : sent_of q (put_last (from, next l from goal) x d.links) ≡ Sent x ∷ [] = sent_append q d.links _ ∙ rw (h, n.0) refl in
      ap₂ ◌++◌ s n.1

  pub arrive_other : (o : ℕ) (a : Arrival) (q : ℕ) → is_call_of q a ≡ false → entries (arrive o a d) q ≡ entries d q
  arrive_other o a q h = ap (λ es. sent_of q d.links ++ es) (called_append q d.arrived _ ∙ rw h (append-nil (called_of q d.arrived)))

  pub arrive_own : (o : ℕ) (a : Arrival) (q : ℕ) → is_call_of q a ≡ true → entries d q ≡ [] → entries (arrive o a d) q ≡ Called o a ∷ []
  arrive_own o a q h e =
      let n = no_part (sent_of q d.links) (called_of q d.arrived) e in
      let s : called_of q (d.arrived ++ (o, a) ∷ []) ≡ Called o a ∷ [] = called_append q d.arrived _ ∙ rw (h, n.1) refl in
      ap₂ ◌++◌ n.0 s

-- a delay whose link has lost its head
abbrev pub moved : Pair → Delay → Delay
moved k d = record d { links = move_head k d.links }

module _ (k : Pair) (x : Packet) (d : Delay) (head : first_of (on_link d.links k) ≡ Some x) where
  h : Heads k d.links x
  h = heads k d.links x head

  pub moved_other : (q : ℕ) → owns q x ≡ false → entries (moved k d) q ≡ entries d q
  moved_other q n = ap (λ es. es ++ called_of q d.arrived) (
      ap (sent_of q) h.moved ∙ sent_append q h.before h.behind
      ∙ sym (ap (sent_of q) h.whole ∙ sent_append q h.before _ ∙ rw n refl))

  whole : (q : ℕ) → owns q x ≡ true → entries d q ≡ sent_of q h.before ++ Sent x ∷ (sent_of q h.behind ++ called_of q d.arrived)
  whole q n = ap (λ es. es ++ called_of q d.arrived) (ap (sent_of q) h.whole ∙ sent_append q h.before _ ∙ rw n refl)
      ∙ append_assoc (sent_of q h.before) (Sent x ∷ sent_of q h.behind) (called_of q d.arrived)

  pub moved_own : (q : ℕ) (e : Entry) → owns q x ≡ true → entries d q ≡ e ∷ [] → (e ≡ Sent x) × (entries (moved k d) q ≡ [])
  moved_own q e n i =
      let p = one_part (sent_of q h.before) (sent_of q h.behind ++ called_of q d.arrived) (Sent x) e (sym (whole q n) ∙ i) in (
        p.0,
        ap (λ es. es ++ called_of q d.arrived) (ap (sent_of q) h.moved ∙ sent_append q h.before h.behind)
            ∙ append_assoc (sent_of q h.before) (sent_of q h.behind) (called_of q d.arrived) ∙ p.1,
      )

  pub moved_some : (q : ℕ) → owns q x ≡ true → entries d q ≢ []
  moved_some q n i = not_empty (sent_of q h.before) _ (Sent x) (sym (whole q n) ∙ i)

-- the first arrived message on some methods stands in the list of all, behind none of the same object on these methods
pub record Arrived (o : ℕ) (names : List ℕ) (es : List (ℕ × Arrival)) (a : Arrival) : Type 0 where
  pub before : List (ℕ × Arrival)
  pub behind : List (ℕ × Arrival)
  pub whole : es ≡ before ++ (o, a) ∷ behind
  pub left : without_first (is_for o names) es ≡ before ++ behind

pub arrived : (o : ℕ) (names : List ℕ) (es : List (ℕ × Arrival)) (a : Arrival) → first_arrival names (under (λ r. r == o) es) ≡ Some a → Arrived o names es a
arrived o names [] a i = absurd (cc)
arrived o names (e ∷ es) a i = by (e.0 == o) (has_name names e.1.method) refl refl (arrived o names es a)
  where
    later : Arrived o names es a → is_for o names e ≡ false → Arrived o names (e ∷ es) a
    later r n = record {
      before = e ∷ r.before;
      behind = r.behind;
      whole = ap (λ (fs : List (ℕ × Arrival)). e ∷ fs) r.whole;
      left = rw n (ap (λ (fs : List (ℕ × Arrival)). e ∷ fs) r.left);
    }

    by : (t u : Bool) → (e.0 == o) ≡ t → has_name names e.1.method ≡ u → (first_arrival names (under (λ r. r == o) es) ≡ Some a → Arrived o names es a) → Arrived o names (e ∷ es) a
    by true true j m rest =
        let at : e.0 ≡ o = equal e.0 o j in
        let is : e.1 ≡ a = same_some (rw (j, m) at i) in
        record {
          before = [];
          behind = es;
          whole = ap (λ (f : ℕ × Arrival). f ∷ es) (λ n. (at n, is n));
          left = rw (j, m) refl;
        }
    by true false j m rest = later (rest (rw (j, m) at i)) (rw (j, m) refl)
    by false u j m rest = later (rest (rw j at i)) (rw j refl)

module _ (o : ℕ) (names : List ℕ) (a : Arrival) (d : Delay) (is_first : first_arrival names (arrived_at d o) ≡ Some a) where
  r : Arrived o names d.arrived a
  r = arrived o names d.arrived a is_first

  pub taken_other : (q : ℕ) → is_call_of q a ≡ false → entries (take_arrival o names d) q ≡ entries d q
  taken_other q n = ap (λ es. sent_of q d.links ++ es) (
      ap (called_of q) r.left ∙ called_append q r.before r.behind
      ∙ sym (ap (called_of q) r.whole ∙ called_append q r.before _ ∙ rw n refl))

  all : (q : ℕ) → is_call_of q a ≡ true → entries d q ≡ (sent_of q d.links ++ called_of q r.before) ++ Called o a ∷ called_of q r.behind
  all q n = ap (λ es. sent_of q d.links ++ es) (ap (called_of q) r.whole ∙ called_append q r.before _ ∙ rw n refl)
      ∙ sym (append_assoc (sent_of q d.links) (called_of q r.before) (Called o a ∷ called_of q r.behind))

  pub taken_own : (q : ℕ) (e : Entry) → is_call_of q a ≡ true → entries d q ≡ e ∷ [] → (e ≡ Called o a) × (entries (take_arrival o names d) q ≡ [])
  taken_own q e n i =
      let p = one_part (sent_of q d.links ++ called_of q r.before) (called_of q r.behind) (Called o a) e (sym (all q n) ∙ i) in (
        p.0,
        ap (λ es. sent_of q d.links ++ es) (ap (called_of q) r.left ∙ called_append q r.before r.behind)
            ∙ sym (append_assoc (sent_of q d.links) (called_of q r.before) (called_of q r.behind)) ∙ p.1,
      )

  pub taken_some : (q : ℕ) → is_call_of q a ≡ true → entries d q ≢ []
  taken_some q n i = not_empty (sent_of q d.links ++ called_of q r.before) _ (Called o a) (sym (all q n) ∙ i)
