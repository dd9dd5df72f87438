-- The record of the three texts can be read back.
use Rattle.std.proofs.Common.{◌≡◌, ℕ, suc, ◌*◌, ◌<◌, ◌≤◌, Bool, List, [], ◌∷◌, slice_get, Some, refl, arith}
use Rattle.run_types.specs.declared.types.Event.{Event}
use Rattle.run_types.specs.declared.types.Event.TheVariants as V
use Rattle.run_types.specs.declared.types.Placement.{Placement}
use Rattle.code_semantics.specs.declared.unit.Unit.{Unit as Code}
use Rattle.code_semantics.specs.Suits.{Suits}
use Rattle.run_types.specs.Tables.{Each}
use Rattle.run_types.specs.Paths.{IsLink}
use Rattle.schedule_reader.specs.Plans.{IsEventOn}
use Rattle.run_record.specs.Readable.{IsReadableEvent}

module _ (u : Code) (l : Placement) (suits : Suits l u) where
  few_nodes : (n : ℕ) → n < l.width * l.height → n < 4294967296
  few_nodes n h = let w = suits.width.1 in let k = suits.height.1 in let m = product l.width l.height w k in omega (arith, h, m)
    where
      product : (a b : ℕ) → a ≤ 8 → b ≤ 8 → a * b ≤ 64
      product a b h k = grind (arith, h, k)

  -- an event of the mesh has nodes of 32 bits
  link_reads : (a b : ℕ) → IsLink l (a, b) → (a < 4294967296) × (b < 4294967296)
  link_reads a b h = (few_nodes a h.from, few_nodes b h.to)

  event_reads : (lossy : Bool) (e : Event) → IsEventOn l lossy e → IsReadableEvent e
  event_reads lossy (V.Turn n) h = few_nodes n h
  event_reads lossy (V.Link a b) h = link_reads a b h
  event_reads lossy (V.Wire w a b) h = link_reads a b h.1

  pub events_read : (lossy : Bool) (es : List Event) → ((i : ℕ) (e : Event) → slice_get es i ≡ Some e → IsEventOn l lossy e) → Each IsReadableEvent es
  events_read lossy [] h = tt
  events_read lossy (e ∷ es) h = (event_reads lossy e (h 0 e refl), events_read lossy es (λ i x at. h (suc i) x at))
