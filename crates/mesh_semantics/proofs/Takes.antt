-- Turns that answer a call, take a message, or pick an alternative.
use Rattle.std.proofs.Common.{◌≡◌, ◌≢◌, ◌⊎◌, inl, inr, refl, sym, ap, subst, ◌∙◌, IsTrue, ℕ, ◌+◌, ◌≤◌, ◌==◌, List, [], ◌∷◌, ◌++◌, Option, Some, None, Bool, true, false, ◌||◌, if◌then◌else◌}
use Rattle.std.specs.Ordering.{nat_cmp}
use Rattle.std.specs.FinMap.{is_sorted}
use Rattle.run_types.specs.declared.types.Value.{Value}
use Rattle.run_types.specs.declared.types.Error.{Error}
use Rattle.run_types.specs.declared.types.Label.TheVariants as L
use Rattle.run_types.specs.declared.types.Placement.{Placement}
use Rattle.run_types.specs.Message.{Message}
use Rattle.run_types.proofs.Laws.{first, equal, equals, decide, differ, same_some, values_itself, find_put_same, find_put_other, find_without_same, find_without_other}
use Rattle.mesh_semantics.specs.Kind as K
use Rattle.mesh_semantics.specs.Kind.{Kind, Alternative, has_name, answered, answers, is_plain, alternatives}
use Rattle.mesh_semantics.specs.Language.{Language}
use Rattle.mesh_semantics.specs.Config.{Config, object_of, put_object, messages_of, put_messages}
use Rattle.mesh_semantics.specs.Moves.{move, offered, has_message, first_message, without_message}
use Rattle.run_types.specs.Paths.{path, total, along}
use Rattle.mesh_semantics.specs.Delay as D
use Rattle.mesh_semantics.specs.Delay.{Packet, Arrival, Holding, Delay, is_for, take_arrival, arrived_at, held, free, cell_count}
use Rattle.run_types.specs.ObjectNames.{node_of}
use Rattle.mesh_semantics.specs.Act.{id, labelled, first_arrival}
use Rattle.run_types.specs.Tables.{Each}
use Rattle.mesh_semantics.specs.Sound.{Sent, Called, entries, call_by, Owns, OwnedAt, letters_in, letter, letters, notes, CallsLast, IsThere, Consistent, IsWithin, IsSound}
use Rattle.mesh_semantics.proofs.Fit.{Fit}
use Rattle.mesh_semantics.specs.Lawful.{Lawful, CanServe}
use Rattle.mesh_semantics.proofs.QuietIsFinal.{has_arrived}
use Rattle.mesh_semantics.proofs.MessageMaps.{messages_same, messages_other}
use Rattle.mesh_semantics.proofs.OwnedTraffic.{is_call_of, arrived, taken_other, taken_own, taken_some}
use Rattle.mesh_semantics.proofs.MessageRemoval.{rest_of, under_taken, under_other, kept, earliest, none_before, still_last}
use Rattle.mesh_semantics.proofs.ObjectChange.{there_put, runs, placed_grow, arrivals_grow, count_put, frames_put, frames_elsewhere, names_put, each_without, each_middle, total_without}
use Rattle.mesh_semantics.proofs.ObjectAndDelayChange.{Any, sorted_put, shape_of, of_shape, unshifted, change}
use Rattle.mesh_semantics.proofs.TurnInvariant.{Nearly, Acting, owned_is, owns_nothing, own_elsewhere, one_label}

-- the first arrived message on some methods
pub arrived_named : (names : List ℕ) (box : List Arrival) (a : Arrival) → first_arrival names box ≡ Some a → (has_name names a.method ≡ true) × (has_arrived a.method box ≡ true)
arrived_named names [] a h = absurd (cc)
arrived_named names (x ∷ box) a h = by (has_name names x.method) refl (arrived_named names box a)
  where
    later : (b : Bool) → has_arrived a.method box ≡ true → (b || has_arrived a.method box) ≡ true
    later true e = refl
    later false e = e

    by : (t : Bool) → has_name names x.method ≡ t → (first_arrival names box ≡ Some a → (has_name names a.method ≡ true) × (has_arrived a.method box ≡ true))
        → (has_name names a.method ≡ true) × (has_arrived a.method (x ∷ box) ≡ true)
    by true i k = let is : x ≡ a = same_some (rw i at h) in
        subst (λ (z : Arrival). (has_name names z.method ≡ true) × (has_arrived z.method (x ∷ box) ≡ true)) is (i, rw (equals x.method) refl)
    by false i k = let r = k (rw i at h) in (r.0, later (x.method == a.method) r.1)

module _ {S : Type 0} (g : Language S) (W : Config S → Type 0) (law : Lawful g W) (l : Placement) (fit : Fit l) where
  -- what is offered can be served
  serve_at : (c : Config S) (o : ℕ) (x : S) (alts : List Alternative) (m j : ℕ) (names : List ℕ) (args : List Value) (caller : Option ℕ) → object_of c o ≡ Some x → g.kind o x ≡ K.Select alts
      → offered 1 alts m ≡ Some (j, names) → CanServe g c o m args → (z : S) × (g.serving o x j m caller args ≡ Some z)
  serve_at c o x alts m j names args caller found is off can =
      let same : can.0 ≡ x = same_some (sym can.1 ∙ found) in
      let kind : g.kind o can.0 ≡ K.Select alts = ap (g.kind o) same ∙ is in
      let r = can.2 j names caller (ap (λ k. offered 1 (alternatives k) m) kind ∙ off) in
      (r.0, ap (λ y. g.serving o y j m caller args) (sym same) ∙ r.1)

  module _ (c : Config S) (d : Delay) (n o : ℕ) (x : S) (s : IsSound g W l c d) (acts : Acting g W law l fit.ways c d n o x)
      (alts : List Alternative) (is : g.kind o x ≡ K.Select alts) (names : List ℕ) (a : Arrival) (is_first : first_arrival names (arrived_at d o) ≡ Some a) where
    nothing : entries d o ≡ []
    nothing = owns_nothing g W law l fit.ways c d o x s.state acts.found acts.free

    sorted : IsTrue (is_sorted nat_cmp c.objects)
    sorted = law.sorted c s.state.typed

    sender_there : IsThere c a.sender
    sender_there = let r = arrived o names d.arrived a is_first in each_middle (λ e. IsThere c e.1.sender) r.before r.behind (o, a) (subst (Each (λ e. IsThere c e.1.sender)) r.whole s.state.arrivals)

    -- the letters of each pair afterwards
    letters_at : (q : ℕ) → letters l (take_arrival o names d) q o ≡ letters_in q (rest_of names (arrived_at d o)) ++ along (letter q o) d.links (path l (node_of q) (node_of o))
    letters_at q = ap (λ box. letters_in q box ++ along (letter q o) d.links (path l (node_of q) (node_of o))) (under_taken names o d.arrived)

    letters_else : (q r : ℕ) → r ≢ o → letters l (take_arrival o names d) q r ≡ letters l d q r
    letters_else q r i = ap (λ box. letters_in q box ++ along (letter q r) d.links (path l (node_of q) (node_of r))) (under_other names o r d.arrived i)

    ordered : (q r : ℕ) → (r ≡ o) ⊎ (r ≢ o) → CallsLast (letters l (take_arrival o names d) q r)
    ordered q r (inl i) = subst (λ z. CallsLast (letters l (take_arrival o names d) q z)) (sym i)
        (subst CallsLast (sym (letters_at q)) (still_last names q (along (letter q o) d.links (path l (node_of q) (node_of o))) (arrived_at d o) (s.state.order q o)))
    ordered q r (inr i) = subst CallsLast (sym (letters_else q r i)) (s.state.order q r)

    cells_taken : (i : ℕ) → i ≢ n → cell_count (take_arrival o names d) i ≡ cell_count d i
    cells_taken i j = ap (λ k. k + total (λ e. if e.0.0 == i then 1 else 0) d.links)
        (total_without (λ e. if node_of e.0 == i then 1 else 0) (is_for o names) d.arrived (λ e t.
        let at : node_of e.0 ≡ n = ap node_of (equal e.0 o (first (e.0 == o) (has_name names e.1.method) t)) ∙ acts.at in
        rw (differ (node_of e.0) i (λ q. j (sym q ∙ at))) refl))

    -- a call
    module _ (call : a.is_call ≡ true) (j : ℕ) (offers : offered 1 alts a.method ≡ Some (j, names)) where
      mine : is_call_of a.sender a ≡ true
      mine = rw (call, equals a.sender) refl

      not_mine : (q : ℕ) → q ≢ a.sender → is_call_of q a ≡ false
      not_mine q i = rw (call, differ a.sender q (λ e. i (sym e))) refl

      -- the caller is posted at this call
      record Caller : Type 0 where
        z : S
        found : object_of c a.sender ≡ Some z
        asks : g.kind a.sender z ≡ K.Send o a.method a.args
        sane : g.fault z ≡ None
        gone : entries (take_arrival o names d) a.sender ≡ []

      caller : Caller
      caller = by (held d a.sender) refl (g.kind a.sender sender_there.0) refl (owned_is g W law l fit.ways c d a.sender sender_there.0 (held d a.sender) s.state sender_there.1 refl)
        where
          bad : (p : Packet) → entries d a.sender ≡ Sent p ∷ [] → Caller
          bad p e = absurd (let r = (taken_own o names a d is_first a.sender (Sent p) mine e).0 in cc)

          by : (t : Option Holding) → held d a.sender ≡ t → (k : Kind) → g.kind a.sender sender_there.0 ≡ k → OwnedAt g a.sender (Some sender_there.0) (held d a.sender) (entries d a.sender) → Caller
          by None i k m w = absurd (taken_some o names a d is_first a.sender mine (let q : OwnedAt g a.sender (Some sender_there.0) None (entries d a.sender) = rw i at w in q.0))
          by (Some D.Posted) i (K.Send b q args) m w = let v : Owns a.sender (Some D.Posted) (K.Send b q args) (entries d a.sender) = (rw (i, m) at w).0 in
              let healthy : (e : Error) → g.fault sender_there.0 ≡ Some e → ⊥ = λ e f. absurd (let u = w.1 e f in let y = sym i ∙ u in cc) in
              on v healthy
            where
              on : (entries d a.sender ≡ Sent (D.Request a.sender b q args) ∷ []) ⊎ (entries d a.sender ≡ Called b (call_by a.sender q args) ∷ [])
                  → ((e : Error) → g.fault sender_there.0 ≡ Some e → ⊥) → Caller
              on (inl e) n = bad (D.Request a.sender b q args) e
              on (inr e) n =
                  let r = taken_own o names a d is_first a.sender (Called b (call_by a.sender q args)) mine e in
                  let to : b ≡ o = cc in
                  let same : call_by a.sender q args ≡ a = cc in
                  record {
                    z = sender_there.0;
                    found = sender_there.1;
                    asks = m ∙ (λ t. K.Send (to t) (same t).method (same t).args);
                    sane = fine (g.fault sender_there.0) refl;
                    gone = r.1;
                  }
                where
                  fine : (t : Option Error) → g.fault sender_there.0 ≡ t → t ≡ None
                  fine None i = refl
                  fine (Some e) i = absurd (n e i)
          by (Some D.Posted) i (K.New class) m w = let v : Owns a.sender (Some D.Posted) (K.New class) (entries d a.sender) = (rw (i, m) at w).0 in bad (D.Create a.sender v.0 class) v.2
          by (Some D.Posted) i _ m w = absurd (let v = (rw (i, m) at w).0 in v)
          by (Some (D.Due v)) i k m w = let u : Owns a.sender (Some (D.Due v)) (g.kind a.sender sender_there.0) (entries d a.sender) = (rw i at w).0 in
              elim u.1 as (λ q. Caller) [ inl e ↦ bad (D.Result a.sender v) e | inr e ↦ bad (D.Created a.sender e.0) e.2 ]

      pub answer_kept : Nearly g W law l fit.ways n c (labelled g c (L.Answer o a.sender (id a.method) a.args) (free a.sender (take_arrival o names d)))
      answer_kept = by caller (law.can_call c a.sender caller.z o a.method a.args s.state.typed caller.found caller.asks)
        where
          by : (k : Caller) → CanServe g c o a.method a.args → Nearly g W law l fit.ways n c (labelled g c (L.Answer o a.sender (id a.method) a.args) (free a.sender (take_arrival o names d)))
          by k can = whole
            where
              serves : g.serving o x j a.method (Some a.sender) a.args ≡ Some (serve_at c o x alts a.method j names a.args (Some a.sender) acts.found is offers can).0
              serves = (serve_at c o x alts a.method j names a.args (Some a.sender) acts.found is offers can).1

              apart : o ≢ a.sender
              apart e = let q : Some x ≡ Some k.z = sym acts.found ∙ ap (object_of c) e ∙ k.found in
                  let i : x ≡ k.z = same_some q in
                  let v : K.Select alts ≡ K.Send o a.method a.args = sym is ∙ ap (g.kind o) i ∙ ap (λ b. g.kind b k.z) e ∙ k.asks in cc

              none : has_message names (messages_of c a.sender o) ≡ false
              none = subst (λ (ms : List Message). has_message names ms ≡ false) (sym (s.state.lists a.sender o))
                  (none_before names a.sender (along (letter a.sender o) d.links (path l (node_of a.sender) (node_of o))) (arrived_at d o) a is_first call refl (s.state.order a.sender o))

              new : Config S
              new = put_object (put_object c a.sender (g.waiting k.z o a.method)) o (serve_at c o x alts a.method j names a.args (Some a.sender) acts.found is offers can).0

              go : move g c (L.Answer o a.sender (id a.method) a.args) ≡ Some (put_object (put_object c a.sender (g.waiting k.z o a.method)) o (serve_at c o x alts a.method j names a.args (Some a.sender) acts.found is offers can).0)
              go = rw (runs g c a.sender k.z k.found k.sane, runs g c o x acts.found acts.sane, k.asks, is, equals o, equals a.method, values_itself a.args, offers, none, serves) refl

              frames : g.frames (g.waiting k.z o a.method) ≡ g.frames k.z
              frames = law.waiting c a.sender k.z o a.method a.args s.state.typed k.found k.asks

              e : Delay
              e = free a.sender (take_arrival o names d)

              noted : (q r : ℕ) → (r ≡ o) ⊎ (r ≢ o) → notes (letters l (take_arrival o names d) q r) ≡ notes (letters l d q r)
              noted q r (inl i) = subst (λ z. notes (letters l (take_arrival o names d) q z) ≡ notes (letters l d q z)) (sym i)
                  (ap notes (letters_at q) ∙ kept names q (along (letter q o) d.links (path l (node_of q) (node_of o))) (arrived_at d o) a is_first (rw call refl))
              noted q r (inr i) = ap notes (letters_else q r i)

              one : Consistent g Any l (put_object c a.sender (g.waiting k.z o a.method)) (free a.sender (take_arrival o names d))
              one = change g l c d (free a.sender (take_arrival o names d)) a.sender k.z (g.waiting k.z o a.method) (shape_of g l W c d s.state) sorted k.found (record {
                held_others = λ q i. find_without_other q a.sender d.holding i;
                others = λ q i. taken_other o names a d is_first q (not_mine q i);
                packets = s.state.packets;
                arrivals = each_without (λ z. IsThere c z.1.sender) (is_for o names) d.arrived s.state.arrivals;
                lists = λ q r. noted q r (decide r o);
                order = λ q r. ordered q r (decide r o);
              }) (rw (find_without_same a.sender d.holding) (k.gone, λ f i. refl))

              still : object_of (put_object c a.sender (g.waiting k.z o a.method)) o ≡ Some x
              still = find_put_other o a.sender (g.waiting k.z o a.method) c.objects apart ∙ acts.found

              own : OwnedAt g o (Some (serve_at c o x alts a.method j names a.args (Some a.sender) acts.found is offers can).0) (held (free a.sender (take_arrival o names d)) o) (entries (take_arrival o names d) o)
              own = rw (find_without_other o a.sender d.holding apart, acts.free) (taken_other o names a d is_first o (not_mine o apart) ∙ nothing, λ f i. refl)

              two : Consistent g Any l (put_object (put_object c a.sender (g.waiting k.z o a.method)) o (serve_at c o x alts a.method j names a.args (Some a.sender) acts.found is offers can).0) (free a.sender (take_arrival o names d))
              two = change g l (put_object c a.sender (g.waiting k.z o a.method)) (free a.sender (take_arrival o names d)) (free a.sender (take_arrival o names d)) o x (serve_at c o x alts a.method j names a.args (Some a.sender) acts.found is offers can).0
                  one (sorted_put c a.sender (g.waiting k.z o a.method) sorted) still (unshifted g l (put_object c a.sender (g.waiting k.z o a.method)) (free a.sender (take_arrival o names d)) o one) own

              beside : (i : ℕ) → i ≢ n → IsWithin g l (put_object (put_object c a.sender (g.waiting k.z o a.method)) o (serve_at c o x alts a.method j names a.args (Some a.sender) acts.found is offers can).0) (free a.sender (take_arrival o names d)) i
              beside i m = (
                subst (λ q. q ≤ l.objects) (sym (count_put g (put_object c a.sender (g.waiting k.z o a.method)) o x (serve_at c o x alts a.method j names a.args (Some a.sender) acts.found is offers can).0 i (sorted_put c a.sender (g.waiting k.z o a.method) sorted) still ∙ count_put g c a.sender k.z (g.waiting k.z o a.method) i sorted k.found)) (s.limits i).0,
                subst (λ q. q ≤ l.frames) (sym (frames_elsewhere g (put_object c a.sender (g.waiting k.z o a.method)) o x (serve_at c o x alts a.method j names a.args (Some a.sender) acts.found is offers can).0 i (sorted_put c a.sender (g.waiting k.z o a.method) sorted) still (λ q. m (q ∙ acts.at)) ∙ frames_put g c a.sender k.z (g.waiting k.z o a.method) i sorted k.found frames)) (s.limits i).1,
                subst (λ q. q ≤ l.cells) (sym (cells_taken i m)) (s.limits i).2,
              )

              whole : Nearly g W law l fit.ways n c (labelled g c (L.Answer o a.sender (id a.method) a.args) (free a.sender (take_arrival o names d)))
              whole = one_label g W law l fit.ways n c (L.Answer o a.sender (id a.method) a.args) (put_object (put_object c a.sender (g.waiting k.z o a.method)) o (serve_at c o x alts a.method j names a.args (Some a.sender) acts.found is offers can).0) (free a.sender (take_arrival o names d)) go
                  (of_shape g l W (put_object (put_object c a.sender (g.waiting k.z o a.method)) o (serve_at c o x alts a.method j names a.args (Some a.sender) acts.found is offers can).0) (free a.sender (take_arrival o names d)) two
                  (law.kept c (put_object (put_object c a.sender (g.waiting k.z o a.method)) o (serve_at c o x alts a.method j names a.args (Some a.sender) acts.found is offers can).0) (L.Answer o a.sender (id a.method) a.args) s.state.typed go)) beside

    -- an asynchronous message
    module _ (note : a.is_call ≡ false) (j : ℕ) (offers : offered 1 alts a.method ≡ Some (j, names)) where
      as_note : Message
      as_note = record { method = a.method; args = a.args }

      first_is : first_message names (messages_of c a.sender o) ≡ Some (record { method = a.method; args = a.args })
      first_is = ap (first_message names) (s.state.lists a.sender o) ∙ (earliest names a.sender (along (letter a.sender o) d.links (path l (node_of a.sender) (node_of o))) (arrived_at d o) a is_first note refl).0

      pub take_kept : Nearly g W law l fit.ways n c (labelled g c (L.Take o a.sender (id a.method) a.args) (take_arrival o names d))
      take_kept = by (law.can_take c names a.sender o (record { method = a.method; args = a.args }) s.state.typed first_is)
        where
          by : CanServe g c o a.method a.args → Nearly g W law l fit.ways n c (labelled g c (L.Take o a.sender (id a.method) a.args) (take_arrival o names d))
          by can = whole
            where
              serves : g.serving o x j a.method None a.args ≡ Some (serve_at c o x alts a.method j names a.args None acts.found is offers can).0
              serves = (serve_at c o x alts a.method j names a.args None acts.found is offers can).1

              ms : List Message
              ms = without_message names (messages_of c a.sender o)

              go : move g c (L.Take o a.sender (id a.method) a.args) ≡ Some (put_messages (put_object c o (serve_at c o x alts a.method j names a.args None acts.found is offers can).0) a.sender o (without_message names (messages_of c a.sender o)))
              go = rw (runs g c o x acts.found acts.sane, is, offers, first_is, equals a.method, values_itself a.args, serves) refl

              other : (q : ℕ) → entries (take_arrival o names d) q ≡ entries d q
              other q = taken_other o names a d is_first q (rw note refl)

              owned : (q : ℕ) → (q ≡ o) ⊎ (q ≢ o) → OwnedAt g q (object_of (put_object c o (serve_at c o x alts a.method j names a.args None acts.found is offers can).0) q) (held d q) (entries (take_arrival o names d) q)
              owned q (inl i) = subst (λ z. OwnedAt g z (object_of (put_object c o (serve_at c o x alts a.method j names a.args None acts.found is offers can).0) z) (held d z) (entries (take_arrival o names d) z)) (sym i)
                  (rw (find_put_same o (serve_at c o x alts a.method j names a.args None acts.found is offers can).0 c.objects, acts.free, other o) (nothing, λ f i. refl))
              owned q (inr i) = rw (find_put_other q o (serve_at c o x alts a.method j names a.args None acts.found is offers can).0 c.objects i, other q) (s.state.owned q)

              listed : (q r : ℕ) → (r ≡ o) ⊎ (r ≢ o) → (q ≡ a.sender) ⊎ (q ≢ a.sender)
                  → messages_of (put_messages (put_object c o (serve_at c o x alts a.method j names a.args None acts.found is offers can).0) a.sender o (without_message names (messages_of c a.sender o))) q r ≡ notes (letters l (take_arrival o names d) q r)
              listed q r (inl i) (inl k) =
                  subst (λ z. messages_of (put_messages (put_object c o (serve_at c o x alts a.method j names a.args None acts.found is offers can).0) a.sender o (without_message names (messages_of c a.sender o))) z r ≡ notes (letters l (take_arrival o names d) z r)) (sym k)
                  (subst (λ z. messages_of (put_messages (put_object c o (serve_at c o x alts a.method j names a.args None acts.found is offers can).0) a.sender o (without_message names (messages_of c a.sender o))) a.sender z ≡ notes (letters l (take_arrival o names d) a.sender z)) (sym i)
                  (messages_same (put_object c o (serve_at c o x alts a.method j names a.args None acts.found is offers can).0) a.sender o (without_message names (messages_of c a.sender o))
                  ∙ ap (without_message names) (s.state.lists a.sender o)
                  ∙ sym (ap notes (letters_at a.sender) ∙ (earliest names a.sender (along (letter a.sender o) d.links (path l (node_of a.sender) (node_of o))) (arrived_at d o) a is_first note refl).1)))
              listed q r (inl i) (inr k) =
                  messages_other (put_object c o (serve_at c o x alts a.method j names a.args None acts.found is offers can).0) a.sender o (without_message names (messages_of c a.sender o)) q r (λ e f. k e) ∙ s.state.lists q r
                  ∙ subst (λ z. notes (letters l d q z) ≡ notes (letters l (take_arrival o names d) q z)) (sym i)
                  (sym (ap notes (letters_at q) ∙ kept names q (along (letter q o) d.links (path l (node_of q) (node_of o))) (arrived_at d o) a is_first (rw (note, differ a.sender q (λ e. k (sym e))) refl)))
              listed q r (inr i) k =
                  messages_other (put_object c o (serve_at c o x alts a.method j names a.args None acts.found is offers can).0) a.sender o (without_message names (messages_of c a.sender o)) q r (λ e f. i f) ∙ s.state.lists q r
                  ∙ sym (ap notes (letters_else q r i))

              whole : Nearly g W law l fit.ways n c (labelled g c (L.Take o a.sender (id a.method) a.args) (take_arrival o names d))
              whole = one_label g W law l fit.ways n c (L.Take o a.sender (id a.method) a.args) (put_messages (put_object c o (serve_at c o x alts a.method j names a.args None acts.found is offers can).0) a.sender o (without_message names (messages_of c a.sender o))) (take_arrival o names d) go (record {
                typed = law.kept c (put_messages (put_object c o (serve_at c o x alts a.method j names a.args None acts.found is offers can).0) a.sender o (without_message names (messages_of c a.sender o))) (L.Take o a.sender (id a.method) a.args) s.state.typed go;
                names = names_put g l c o x (serve_at c o x alts a.method j names a.args None acts.found is offers can).0 sorted acts.found s.state.names;
                owned = λ q. owned q (decide q o);
                packets = placed_grow g l c (put_messages (put_object c o (serve_at c o x alts a.method j names a.args None acts.found is offers can).0) a.sender o (without_message names (messages_of c a.sender o))) (λ q t. there_put g c o (serve_at c o x alts a.method j names a.args None acts.found is offers can).0 q t) d.links s.state.packets;
                arrivals = each_without (λ z. IsThere (put_object c o (serve_at c o x alts a.method j names a.args None acts.found is offers can).0) z.1.sender) (is_for o names) d.arrived
                    (arrivals_grow g c (put_object c o (serve_at c o x alts a.method j names a.args None acts.found is offers can).0) (there_put g c o (serve_at c o x alts a.method j names a.args None acts.found is offers can).0) d.arrived s.state.arrivals);
                lists = λ q r. listed q r (decide r o) (decide q a.sender);
                order = λ q r. ordered q r (decide r o);
              }) (λ i m. let z = own_elsewhere g W law l fit.ways c d o x (serve_at c o x alts a.method j names a.args None acts.found is offers can).0 sorted acts.found i (λ q. m (q ∙ acts.at)) (s.limits i) in
                  (z.0, z.1, subst (λ q. q ≤ l.cells) (sym (cells_taken i m)) z.2))
