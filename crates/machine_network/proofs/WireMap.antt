-- The map of wires in the code is the one of the definition: look-ups, insertions and changes agree.
use Rattle.std.proofs.Common.{◌≡◌, refl, sym, ap, ◌∙◌, List, [], ◌∷◌, Option, Some, None, is_some, Bool, true, false, cond}
use Rattle.std.specs.Option.{unwrap_or}
use Rattle.std.specs.Ordering.{eq_by_cmp}
use Rattle.std.specs.declared.cmp.Ordering.{Ordering}
use Rattle.std.specs.declared.cmp.Ordering.TheVariants.{Less, Equal, Greater}
use Rattle.std.specs.FinMap.{find, put}
use Rattle.std.specs.Map.{keys_of, lookup, set_value}
use Rattle.std.specs.BTreeMap.{insert_entry, is_at}
use Rattle.std.specs.List.Sorted.{IsStrictlySortedBy}
use Rattle.std.proofs.lemmas.Map.{lookup-none}
use Rattle.std.proofs.lemmas.Map.Entries.{none_below_head}
use Rattle.run_types.specs.Tables.{Pair, pair_cmp}
use Rattle.mesh_semantics.specs.KeptWire.{KeptWire, empty_kept, kept_coming, kept_take}
use Rattle.run_types.proofs.Laws.{pair_total}
use Rattle.run_types.specs.declared.types.What.{What}
use Rattle.rendezvous_protocol.specs.declared.packet.Packet.{Packet}
use Rattle.wire_link.specs.declared.wire.Arrived.{Arrived}
use Rattle.wire_link.specs.Wires.{arrived_of}
use Rattle.machine_network.specs.LinkWires.{LinkWires, has_wire, wire_of}
use Rattle.machine_network.specs.WireReports.{WireReports, LinkWireReports}

module _ {X : Type 0} where
  pub found_is : (k : Pair) (es : List (Pair × X)) → find pair_cmp k es ≡ lookup (is_at (pair_cmp k)) es
  found_is k [] = refl
  found_is k (e ∷ es) = by (eq_by_cmp pair_cmp k e.0) (found_is k es)
    where
      by : (b : Bool) → find pair_cmp k es ≡ lookup (is_at (pair_cmp k)) es → cond b (Some e.1) (find pair_cmp k es) ≡ cond b (Some e.1) (lookup (is_at (pair_cmp k)) es)
      by true h = refl
      by false h = h

  pub inserted_is : (k : Pair) (x : X) (es : List (Pair × X)) → insert_entry pair_cmp es k x ≡ put pair_cmp k x es
  inserted_is k x [] = refl
  inserted_is k x (e ∷ es) = by (pair_cmp k e.0) refl (inserted_is k x es)
    where
      by : (r : Ordering) → pair_cmp k e.0 ≡ r → insert_entry pair_cmp es k x ≡ put pair_cmp k x es → insert_entry pair_cmp (e ∷ es) k x ≡ put pair_cmp k x (e ∷ es)
      by Less h i = rw h refl
      by Equal h i = rw h refl
      by Greater h i = rw h (ap (λ l. e ∷ l) i)

  sorted_rest : (e : Pair × X) (es : List (Pair × X)) → IsStrictlySortedBy pair_cmp (keys_of (e ∷ es)) → IsStrictlySortedBy pair_cmp (keys_of es)
  unfolding IsStrictlySortedBy
  sorted_rest e es s = s.1

  pub set_is : (k : Pair) (x u : X) (es : List (Pair × X)) → IsStrictlySortedBy pair_cmp (keys_of es) → lookup (is_at (pair_cmp k)) es ≡ Some x → set_value (is_at (pair_cmp k)) es u ≡ put pair_cmp k u es
  set_is k x u [] s h = absurd (cc)
  set_is k x u (e ∷ es) s h = by (pair_cmp k e.0) refl (set_is k x u es (sorted_rest e es s))
    where
      by : (r : Ordering) → pair_cmp k e.0 ≡ r → (lookup (is_at (pair_cmp k)) es ≡ Some x → set_value (is_at (pair_cmp k)) es u ≡ put pair_cmp k u es)
          → set_value (is_at (pair_cmp k)) (e ∷ es) u ≡ put pair_cmp k u (e ∷ es)
      by Less j i = let n = sym (lookup-none (is_at (pair_cmp k)) (e ∷ es) (none_below_head pair_total k e es s j)) ∙ h in absurd (cc)
      by Equal j i = rw j refl
      by Greater j i = rw j (ap (λ l. e ∷ l) (i (rw j at h)))

  -- what is put back as it was changes nothing
  pub set_same : (k : Pair) (x : X) (es : List (Pair × X)) → lookup (is_at (pair_cmp k)) es ≡ Some x → set_value (is_at (pair_cmp k)) es x ≡ es
  set_same k x [] h = refl
  set_same k x (e ∷ es) h = by (is_at (pair_cmp k) e.0) h (set_same k x es)
    where
      by : (b : Bool) → cond b (Some e.1) (lookup (is_at (pair_cmp k)) es) ≡ Some x → (lookup (is_at (pair_cmp k)) es ≡ Some x → set_value (is_at (pair_cmp k)) es x ≡ es)
          → cond b ((e.0, x) ∷ es) (e ∷ set_value (is_at (pair_cmp k)) es x) ≡ e ∷ es
      by true i r = let q : e.1 ≡ x = cc in ap (λ y. (e.0, y) ∷ es) (sym q)
      by false i r = ap (λ l. e ∷ l) (r i)

-- a link that has a wire is found
pub never_lost : (es : LinkWires) (k : Pair) → has_wire es k ≡ true → lookup (is_at (pair_cmp k)) es ≡ None → ⊥
never_lost es k there none = let e = sym there ∙ ap is_some (found_is k es ∙ none) in cc

-- the wire that was found under the ends of a link
module _ (es : LinkWires) (k : Pair) (v : KeptWire Packet) (h : lookup (is_at (pair_cmp k)) es ≡ Some v) where
  pub wire_found : wire_of es k ≡ v
  wire_found = ap (λ o. unwrap_or o empty_kept) (found_is k es ∙ h)

  pub has_found : has_wire es k ≡ true
  has_found = ap is_some (found_is k es ∙ h)

  -- left as it was
  pub same_at : (w : KeptWire Packet) (es' : LinkWires) → es' ≡ set_value (is_at (pair_cmp k)) es w → w ≡ v → es' ≡ es
  same_at w es' set e = set ∙ ap (set_value (is_at (pair_cmp k)) es) e ∙ set_same k v es h

  -- what was told of it
  pub told_of : (said : Arrived) → said ≡ arrived_of (kept_coming v) → said ≡ arrived_of (kept_coming (wire_of es k))
  told_of said e = e ∙ ap (λ x. arrived_of (kept_coming x)) (sym wire_found)

  module _ (ordered : IsStrictlySortedBy pair_cmp (keys_of es)) (w : KeptWire Packet) (es' : LinkWires) (set : es' ≡ set_value (is_at (pair_cmp k)) es w) where
    pub changed_is : es' ≡ put pair_cmp k w es
    changed_is = set ∙ set_is k v w es ordered h

    pub told_at : (r : Option (What × KeptWire Packet)) (what : What) → WireReports v r what w → LinkWireReports es k r what es'
    told_at None what t = (t.0, set ∙ ap (set_value (is_at (pair_cmp k)) es) t.1 ∙ set_same k v es h)
    told_at (Some r) what t = (t.0, changed_is ∙ ap (λ z. put pair_cmp k z es) (sym t.1))

    -- a frame was taken from it
    pub taken_at : w ≡ kept_take v → es' ≡ put pair_cmp k (kept_take (wire_of es k)) es
    taken_at e = changed_is ∙ ap (λ z. put pair_cmp k z es) (e ∙ ap kept_take (sym wire_found))
