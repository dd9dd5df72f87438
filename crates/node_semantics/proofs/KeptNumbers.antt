-- Request numbers that belong to a request, after a change of the machine.
use Rattle.std.proofs.Common.{◌≡◌, ◌≢◌, inl, inr, refl, sym, ap, ◌∙◌, ℕ, ◌==◌, List, [], ◌∷◌, Option, Some, None, Bool, true, false}
use Rattle.run_types.specs.Tables.{Pair, Each}
use Rattle.run_types.proofs.Laws.{equals, same_some}
use Rattle.mesh_semantics.proofs.Laws.{is_call_of}
use Rattle.mesh_semantics.specs.Kind as K
use Rattle.mesh_semantics.specs.Kind.{Kind}
use Rattle.mesh_semantics.specs.Language.{Language}
use Rattle.mesh_semantics.specs.Config.{Config, object_of}
use Rattle.run_types.specs.Paths.{under, on_link, is_link}
use Rattle.mesh_semantics.specs.Delay as D
use Rattle.mesh_semantics.specs.Delay.{Packet, Arrival, Holding, Delay, arrived_at, held}
use Rattle.mesh_semantics.specs.NumberedPackets.{NumberedPacket}
use Rattle.mesh_semantics.specs.Sound.{Sent, owns, sent_of, called_of, is_wait}
use Rattle.run_types.specs.PathFacts.{In}
use Rattle.node_semantics.specs.Node.{Slot, NumberedArrival, arrivals}
use Rattle.node_semantics.specs.Machine.{Machine}
use Rattle.mesh_semantics.specs.Requests.{Requests}
use Rattle.node_semantics.specs.StandsFor.{slot_at, request_of, kept_goal_of, request_in, kept_goal_in, IsNumberOf, AreNumbersOf, caller_of, owner_of, HasSlot, Knows, PacketFits, packets}

-- Each element has a property that follows from two.
pub each_both : {X : Type 0} (P Q R : X → Type 0) → ((x : X) → P x → Q x → R x) → (xs : List X) → Each P xs → Each Q xs → Each R xs
each_both P Q R f [] h k = tt
each_both P Q R f (x ∷ xs) h k = (f x h.0 k.0, each_both P Q R f xs h.1 k.1)

-- a caller stands in the list, or not
module _ {S : Type 0} (m m' : Machine S) where
  -- what is kept of the requests of an object
  pub record Same (q : ℕ) : Type 0 where
    pub request : request_of m' q ≡ request_of m q
    pub goal : kept_goal_of m' q ≡ kept_goal_of m q

  pub same_slot : (q : ℕ) → slot_at m' q ≡ slot_at m q → Same q
  same_slot q e = record { request = ap request_in e; goal = ap kept_goal_in e }

  pub number_kept : (number owner : Option ℕ) → ((q : ℕ) → owner ≡ Some q → request_of m' q ≡ request_of m q)
      → IsNumberOf m number owner → IsNumberOf m' number owner
  number_kept number None f h = h
  number_kept number (Some o) f h = (h.0, f o refl ∙ h.1)

  pub callers_kept : (ks os : List ℕ) → ((q : ℕ) → In q os → request_of m' q ≡ request_of m q) → AreNumbersOf m ks os → AreNumbersOf m' ks os
  callers_kept [] [] f h = tt
  callers_kept (k ∷ ks) (o ∷ os) f h = (f o (inl refl) ∙ h.0, callers_kept ks os (λ q i. f q (inr i)) h.1)
  callers_kept [] (o ∷ os) f h = absurd h
  callers_kept (k ∷ ks) [] f h = absurd h

  pub knows_kept : (p : Packet) → ((q : ℕ) → owner_of p ≡ Some q → kept_goal_of m' q ≡ kept_goal_of m q) → ((q : ℕ) → HasSlot m q → HasSlot m' q) → Knows m p → Knows m' p
  knows_kept (D.Create o goal class) f grow h = f o refl ∙ h
  knows_kept (D.Created o name) f grow h = tt
  knows_kept (D.Request o r k args) f grow h = grow r h
  knows_kept (D.Result o v) f grow h = tt
  knows_kept (D.Async s r k args) f grow h = grow r h

  pub fits_kept : (e : NumberedPacket) → ((q : ℕ) → owner_of e.packet ≡ Some q → Same q) → ((q : ℕ) → HasSlot m q → HasSlot m' q) → PacketFits m e → PacketFits m' e
  fits_kept e f grow h = record {
    number = number_kept e.number (owner_of e.packet) (λ q i. (f q i).request) h.number;
    names = knows_kept e.packet (λ q i. (f q i).goal) grow h.names;
  }

  pub mailbox_kept : (s : Slot S) → Each (λ e. (q : ℕ) → caller_of e.message ≡ Some q → request_of m' q ≡ request_of m q) s.mailbox
      → Each (λ e. IsNumberOf m e.number (caller_of e.message)) s.mailbox → Each (λ e. IsNumberOf m' e.number (caller_of e.message)) s.mailbox
  mailbox_kept s h k = each_both _ _ _ (λ e f i. number_kept e.number (caller_of e.message) f i) s.mailbox h k

-- Who owns nothing is referred to nowhere.

owner_owns : (q : ℕ) (p : Packet) → owner_of p ≡ Some q → owns q p ≡ true
owner_owns q (D.Create o goal class) h = rw (same_some h) (equals q)
owner_owns q (D.Created o name) h = rw (same_some h) (equals q)
owner_owns q (D.Request o r k args) h = rw (same_some h) (equals q)
owner_owns q (D.Result o v) h = rw (same_some h) (equals q)
owner_owns q (D.Async s r k args) h = absurd (cc)

pub not_owner : (q : ℕ) (p : Packet) → owns q p ≡ false → owner_of p ≢ Some q
not_owner q p h e = let i = owner_owns q p e in cc

pub none_sent : (q : ℕ) (k : Pair) (ls : List (Pair × Packet)) → sent_of q ls ≡ [] → Each (λ p. owner_of p ≢ Some q) (on_link ls k)
none_sent q k [] h = tt
none_sent q k (e ∷ ls) h = by (owns q e.1) (is_link k.0 k.1 e.0) refl refl (none_sent q k ls)
  where
    by : (t u : Bool) → owns q e.1 ≡ t → is_link k.0 k.1 e.0 ≡ u → (sent_of q ls ≡ [] → Each (λ p. owner_of p ≢ Some q) (on_link ls k))
        → Each (λ p. owner_of p ≢ Some q) (on_link (e ∷ ls) k)
    by true u i j r = absurd (let z : Sent e.1 ∷ sent_of q ls ≡ [] = rw i at h in cc)
    by false true i j r = rw j (not_owner q e.1 i, r (rw i at h))
    by false false i j r = rw j (r (rw i at h))

caller_calls : (q : ℕ) (a : Arrival) → caller_of a ≡ Some q → is_call_of q a ≡ true
caller_calls q a h = by a.is_call refl
  where
    by : (t : Bool) → a.is_call ≡ t → is_call_of q a ≡ true
    by true i = let e : Some a.sender ≡ Some q = rw i at h in rw (i, same_some e) (equals q)
    by false i = absurd (let e : None ≡ Some q = rw i at h in cc)

pub none_called : (q r : ℕ) (es : List (ℕ × Arrival)) → called_of q es ≡ [] → Each (λ a. caller_of a ≢ Some q) (under (λ n. n == r) es)
none_called q r [] h = tt
none_called q r (e ∷ es) h = by (is_call_of q e.1) (e.0 == r) refl refl (none_called q r es)
  where
    by : (t u : Bool) → is_call_of q e.1 ≡ t → (e.0 == r) ≡ u → (called_of q es ≡ [] → Each (λ a. caller_of a ≢ Some q) (under (λ n. n == r) es))
        → Each (λ a. caller_of a ≢ Some q) (under (λ n. n == r) (e ∷ es))
    by true u i j k = absurd (let z = rw i at h in cc)
    by false true i j k = rw j ((λ c. let z = caller_calls q e.1 c in cc), k (rw i at h))
    by false false i j k = rw j (k (rw i at h))

-- the same of what the machine has for them
pub of_packets : (P : Packet → Type 0) (es : List NumberedPacket) → Each P (packets es) → Each (λ e. P e.packet) es
of_packets P [] h = tt
of_packets P (e ∷ es) h = (h.0, of_packets P es h.1)

pub of_messages : (P : Arrival → Type 0) (es : List NumberedArrival) → Each P (arrivals es) → Each (λ e. P e.message) es
of_messages P [] h = tt
of_messages P (e ∷ es) h = (h.0, of_messages P es h.1)

-- an object that is not at a wait is no caller that is served
pub no_caller : {S : Type 0} (g : Language S) (W : Config S → Type 0) (r : Requests g W) (c : Config S) (w : W c) (q : ℕ) (x : S) → object_of c q ≡ Some x
    → is_wait (g.kind q x) ≡ false → (b : ℕ) (y : S) → object_of c b ≡ Some y → In q (g.callers y) → ⊥
no_caller g W r c w q x h n b y f i =
    let z = r.served_waits c b y q w f i in
    let same : z.0 ≡ x = same_some (sym z.2 ∙ h) in
    let k : g.kind q x ≡ K.Waits b z.1 = ap (g.kind q) (sym same) ∙ z.3 in
    let f : is_wait (g.kind q x) ≡ true = ap is_wait k in cc
