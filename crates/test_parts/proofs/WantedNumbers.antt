-- A frame number that the wire wants may be sent with any packet: some list of entered packets has the packet there.
use Rattle.std.proofs.Common.{◌≡◌, refl, sym, ap, ◌∙◌, ℕ, zero, suc, ◌+◌, ◌-◌, ◌<◌, ◌≤◌, ◌==◌, List, [], ◌∷◌, length, Option, Some, None, Bool, true, false, if◌then◌else◌, arith}
use Rattle.std.specs.Prelude.{slice_get}
use Rattle.std.proofs.lemmas.List.{length-take-le}
use Rattle.run_types.proofs.Laws.{equal}
use Rattle.mesh_semantics.specs.KeptWire.{Carries, KeptWire, kept_wanted}
use Rattle.rendezvous_protocol.specs.declared.packet.Packet.{Packet}
use Rattle.wire_link.specs.Wires.{IsWanted}
use Rattle.wire_link.proofs.Laws.{link_wanted}

-- a packet so many times
abbrev row : ℕ → Packet → List Packet
row zero p = []
row (suc n) p = p ∷ row n p

long : (n : ℕ) (p : Packet) → length (row n p) ≡ n
long zero p = refl
long (suc n) p = ap suc (long n p)

each : (n i : ℕ) (p : Packet) → i < n → slice_get (row n p) i ≡ Some p
each zero i p h = absurd (omega (arith, h))
each (suc n) zero p h = refl
each (suc n) (suc i) p h = each n i p (omega (arith, h))

module _ (v : KeptWire Packet) (put : List Packet) (c : Carries v put) (count n : ℕ) (p : Packet) (within : v.sent ≤ count) (below : n < count) where
  up : v.handed ≤ v.sent
  up = let a = length-take-le v.handed put c.handed in let b = c.facts.handed in omega (arith, a, b)

  all : v.handed + length (row (count - v.handed) p) ≡ count
  all = let a = long (count - v.handed) p in let b = up in omega (arith, a, b, within)

  at : (b : Bool) → (n == v.sent) ≡ b → (if b then Some p else None) ≡ (if b then slice_get (row (count - v.handed) p) (n - v.handed) else None)
  at false i = refl
  at true i = sym (each (count - v.handed) (n - v.handed) p (let e : n ≡ v.sent = equal n v.sent i in let u = up in omega (arith, e, u, below)))

  pub wanted_with : kept_wanted v count ≡ Some n → (fresh : Option Packet) → fresh ≡ (if n == v.sent then Some p else None) → IsWanted v n fresh
  wanted_with w fresh f =
      link_wanted v put c (row (count - v.handed) p) (let a = all in omega (arith, a, within)) n (ap (kept_wanted v) all ∙ w) fresh (f ∙ at (n == v.sent) refl)
