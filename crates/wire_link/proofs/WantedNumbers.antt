-- A number that is wanted for the packets on a link may be sent: the wire carries a list that ends in these packets.
use Rattle.std.proofs.Common.{◌≡◌, refl, sym, ap, subst, ◌∙◌, ℕ, zero, suc, ◌+◌, ◌-◌, ◌<◌, ◌≤◌, ◌==◌, List, [], ◌∷◌, ◌++◌, length, Option, Some, None, Bool, true, false, if◌then◌else◌, arith}
use Rattle.std.specs.Prelude.{drop, slice_get, take}
use Rattle.std.proofs.lemmas.List.{drop-take, length-append, length-drop, length-take-le, take-append-drop}
use Rattle.run_types.specs.Tables.{Each}
use Rattle.mesh_semantics.specs.Wire.{Frame, WireFacts}
use Rattle.mesh_semantics.specs.KeptWire.{Carries, KeptWire, fresh_in, from_to, kept_wanted, whole}
use Rattle.run_types.proofs.Laws.{each_map, equal}
use Rattle.mesh_semantics.proofs.Laws.{longer_carries}
use Rattle.rendezvous_protocol.specs.declared.packet.Packet.{Packet}
use Rattle.wire_link.specs.Wires.{IsWanted}

module _ {X : Type 0} where
  at_front : (n i : ℕ) (xs : List X) → i < n → slice_get (take n xs) i ≡ slice_get xs i
  at_front zero i xs h = absurd (omega (arith, h))
  at_front (suc n) i [] h = refl
  at_front (suc n) zero (x ∷ xs) h = refl
  at_front (suc n) (suc i) (x ∷ xs) h = at_front n i xs (omega (arith, h))

  front_twice : (n : ℕ) (xs : List X) → take n (take n xs) ≡ take n xs
  front_twice zero xs = refl
  front_twice (suc n) [] = refl
  front_twice (suc n) (x ∷ xs) = ap (λ ys. x ∷ ys) (front_twice n xs)

  at_behind : (xs ys : List X) (n : ℕ) → length xs ≡ n → slice_get (xs ++ ys) n ≡ slice_get ys 0
  at_behind [] ys zero h = refl
  at_behind [] ys (suc n) h = absurd (omega (arith, h))
  at_behind (x ∷ xs) ys zero h = absurd (omega (arith, h))
  at_behind (x ∷ xs) ys (suc n) h = at_behind xs ys n (omega (arith, h))

  first_behind : (n : ℕ) (xs : List X) → slice_get (drop n xs) 0 ≡ slice_get xs n
  first_behind zero xs = refl
  first_behind (suc n) [] = refl
  first_behind (suc n) (x ∷ xs) = first_behind n xs

  -- a wire that carries a list carries the front of it that was sent
  module _ (v : KeptWire X) (put : List X) (c : Carries v put) where
    up : v.handed ≤ v.sent
    up = let a = length-take-le v.handed put c.handed in let b = c.facts.handed in omega (arith, a, b)

    count : length (take v.sent put) ≡ v.sent
    count = length-take-le v.sent put c.facts.sent

    handed : length (take v.handed (take v.sent put)) ≡ length (take v.handed put)
    handed =
        let a = length-take-le v.handed put c.handed in
        let b = length-take-le v.handed (take v.sent put) (let x = up in let y = count in omega (arith, x, y)) in b ∙ sym a

    facts : WireFacts (whole v (take v.sent put))
    facts = record {
      in_order = (drop v.handed (take v.sent put), take-append-drop v.handed (take v.sent put));
      acked = subst (λ n. v.acked ≤ n) (sym handed) c.facts.acked;
      handed = subst (λ n. n ≤ v.sent) (sym handed) c.facts.handed;
      within = c.facts.within;
      sent = let a = count in omega (arith, a);
      next = c.facts.next;
      carried = each_map _ _ (λ (f : Frame X) h. (h.0, at_front v.sent f.0 put h.0 ∙ h.1)) v.frames c.facts.carried;
      told = subst (λ n. Each (λ k. k ≤ n) v.acks) (sym handed) c.facts.told;
      capacities = c.facts.capacities;
    }

    copies : from_to v.acked v.sent put ≡ from_to v.acked v.sent (take v.sent put)
    copies =
        let a = c.facts.acked in let b = c.facts.handed in
        let e : v.acked + (v.sent - v.acked) ≡ v.sent = omega (arith, a, b) in
        sym (front_twice (v.sent - v.acked) (drop v.acked put))
        ∙ ap (take (v.sent - v.acked)) (sym (drop-take v.acked (v.sent - v.acked) put) ∙ ap (λ n. drop v.acked (take n put)) e)

    pub sent_carries : Carries v (take v.sent put)
    sent_carries = record { facts = facts; handed = let a = up in let b = count in omega (arith, a, b); copies = c.copies ∙ copies }

-- where these packets are on the link
module _ (v : KeptWire Packet) (put : List Packet) (c : Carries v put) (link : List Packet) (within : v.sent ≤ v.handed + length link) where
  abbrev ahead : List Packet
  ahead = take v.sent put ++ drop (v.sent - v.handed) link

  ahead_count : length (take v.sent put ++ drop (v.sent - v.handed) link) ≡ v.handed + length link
  ahead_count =
      let a = length-append (take v.sent put) (drop (v.sent - v.handed) link) in
      let b = length-drop (v.sent - v.handed) link in
      let e = count v put c in let u = up v put c in omega (arith, a, b, e, u, within)

  pub link_wanted : (n : ℕ) → kept_wanted v (v.handed + length link) ≡ Some n → (fresh : Option Packet) → fresh ≡ fresh_in n v link → IsWanted v n fresh
  link_wanted n w fresh f = record {
    put = ahead;
    carried = longer_carries v (take v.sent put) (drop (v.sent - v.handed) link) (sent_carries v put c);
    wanted = ap (kept_wanted v) ahead_count ∙ w;
    fresh_is = f ∙ by (n == v.sent) refl;
  }
    where
      by : (b : Bool) → (n == v.sent) ≡ b → (if b then slice_get link (n - v.handed) else None) ≡ (if b then slice_get (take v.sent put ++ drop (v.sent - v.handed) link) n else None)
      by false i = refl
      by true i =
          let e : n ≡ v.sent = equal n v.sent i in
          ap (λ k. slice_get link (k - v.handed)) e ∙ sym (first_behind (v.sent - v.handed) link)
          ∙ sym (at_behind (take v.sent put) (drop (v.sent - v.handed) link) n (count v put c ∙ sym e))
