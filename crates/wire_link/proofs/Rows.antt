-- An example of two packets over a wire on which a frame is held back: the stored state after each call.
use Rattle.std.proofs.Common.{◌≡◌, refl, [], Option, Some, None}
use Rattle.run_types.specs.declared.types.What.{What}
use Rattle.run_types.specs.declared.types.What.TheVariants as W
use Rattle.run_types.specs.declared.types.WireAct.TheVariants as A
use Rattle.mesh_semantics.specs.Wire.{Stale, Next}
use Rattle.mesh_semantics.specs.KeptWire.{KeptWire, empty_kept, kept_act, kept_coming, kept_send, kept_take, kept_wanted}
use Rattle.rendezvous_protocol.specs.declared.packet.Packet.{Packet}
use Rattle.rendezvous_protocol.specs.declared.packet.Packet.TheVariants as P

abbrev p : Packet
p = P.Created 0 0 65536

abbrev q : Packet
q = P.Created 1 1 65537

-- what is kept after it, where something was to be done
abbrev after : Option (What × KeptWire Packet) → KeptWire Packet
after None = empty_kept
after (Some r) = r.1

abbrev told : Option (What × KeptWire Packet) → Option What
told None = None
told (Some r) = Some r.0

abbrev w₀ : KeptWire Packet
w₀ = empty_kept

abbrev w₁ : KeptWire Packet
w₁ = (kept_send 0 (Some p) w₀).1

abbrev w₂ : KeptWire Packet
w₂ = (kept_send 1 (Some q) w₁).1

abbrev w₃ : KeptWire Packet
w₃ = after (kept_act A.Late [] w₂)

abbrev w₄ : KeptWire Packet
w₄ = kept_take w₃

abbrev w₅ : KeptWire Packet
w₅ = kept_take w₄

abbrev w₆ : KeptWire Packet
w₆ = after (kept_act A.Ack [] w₅)

abbrev w₇ : KeptWire Packet
w₇ = after (kept_act A.Ack [] w₆)

abbrev w₈ : KeptWire Packet
w₈ = (kept_send 1 None w₇).1

abbrev w₉ : KeptWire Packet
w₉ = kept_take w₈

first_wanted : kept_wanted w₀ 2 ≡ Some 0
first_wanted = refl

first_sent : (kept_send 0 (Some p) w₀).0 ≡ W.Frame 0
first_sent = refl

second_wanted : kept_wanted w₁ 2 ≡ Some 1
second_wanted = refl

second_sent : (kept_send 1 (Some q) w₁).0 ≡ W.Frame 1
second_sent = refl

first_behind : told (kept_act A.Late [] w₂) ≡ Some (W.Late 0)
first_behind = refl

second_stale : kept_coming w₃ ≡ Stale 1
second_stale = refl

first_next : kept_coming w₄ ≡ Next p
first_next = refl

none_told : told (kept_act A.Ack [] w₅) ≡ Some (W.Acked 0)
none_told = refl

one_told : told (kept_act A.Ack [] w₆) ≡ Some (W.Acked 1)
one_told = refl

second_again : kept_wanted w₇ 2 ≡ Some 1
second_again = refl

sent_again : (kept_send 1 None w₇).0 ≡ W.Frame 1
sent_again = refl

second_next : kept_coming w₈ ≡ Next q
second_next = refl

two_told : told (kept_act A.Ack [] w₉) ≡ Some (W.Acked 2)
two_told = refl

none_wanted : kept_wanted (after (kept_act A.Ack [] w₉)) 2 ≡ None
none_wanted = refl
