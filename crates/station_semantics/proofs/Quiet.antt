-- The machine is quiet if no object of a station is ready, and on each link as many packets were handed out as entered.
use Rattle.std.proofs.Common.{◌≡◌, ◌≢◌, ◌⊎◌, inl, inr, refl, sym, ap, subst, ◌∙◌, IsTrue, ℕ, suc, ◌+◌, List, [], ◌∷◌, length, Option, Some, None, is_some, true, false, arith}
use Rattle.std.specs.Prelude.{slice_get, drop}
use Rattle.std.specs.List.{list_any}
use Rattle.std.specs.FinMap.Entries.{is_sorted, below_all}
use Rattle.std.specs.Option.{unwrap_or}
use Rattle.std.proofs.lemmas.List.{length-drop, drop_all}
use Rattle.run_types.specs.declared.types.Placement.{Placement}
use Rattle.run_types.specs.Tables.{Pair, pair_cmp, list_at, has_some}
use Rattle.run_types.proofs.Laws.{first, second, same_some}
use Rattle.mesh_semantics.specs.Language.{Language}
use Rattle.mesh_semantics.specs.Act.{first_of}
use Rattle.mesh_semantics.specs.NumberedPackets.{NumberedPacket}
use Rattle.node_semantics.specs.Node.{NodeState, ready_slots}
use Rattle.node_semantics.specs.Machine.{Machine, any_ready, are_acknowledged, is_machine_quiet}
use Rattle.node_semantics.proofs.Laws.{decide_link}
use Rattle.station_semantics.specs.Station.{Station, count_at}
use Rattle.station_semantics.specs.Whole.{Whole}
use Rattle.station_semantics.specs.Fits.{node_in, handed_at, Puts, Fits}
use Rattle.station_semantics.specs.AllQuiet.{AllQuiet}
use Rattle.station_semantics.proofs.LinkCounts.{head_at, none_at, tail_at}

nothing_some : (es : List (Pair × List NumberedPacket)) → IsTrue (is_sorted pair_cmp es) → ((k : Pair) → list_at pair_cmp k es ≡ []) → list_any (λ e. has_some e.1) es ≡ false
nothing_some [] s h = refl
nothing_some (e ∷ es) s h =
    let a : has_some e.1 ≡ false = ap has_some (sym (head_at 0 e es) ∙ h e.0) in
    let b = nothing_some es (second (below_all pair_cmp e.0 es) (is_sorted pair_cmp es) s) (λ k. on k (decide_link k e.0)) in
    rw (a, b) refl
  where
    on : (k : Pair) → (k ≡ e.0) ⊎ (k ≢ e.0) → list_at pair_cmp k es ≡ []
    on k (inl i) = subst (λ j. list_at pair_cmp j es ≡ []) (sym i) (ap (λ z. unwrap_or z []) (none_at 0 e.0 es (first (below_all pair_cmp e.0 es) (is_sorted pair_cmp es) s)))
    on k (inr d) = sym (tail_at 0 k e es d) ∙ h k

module _ {S : Type 0} (g : Language S) where
  nobody_ready : (n : ℕ) (ns : List (NodeState S)) → ((i : ℕ) (x : NodeState S) → slice_get ns i ≡ Some x → ready_slots g (n + i) x ≡ []) → any_ready g n ns ≡ false
  nobody_ready n [] h = refl
  nobody_ready n (x ∷ ns) h =
      let z : n + 0 ≡ n = omega arith in
      let a : is_some (first_of (ready_slots g n x)) ≡ false = ap (λ rs. is_some (first_of rs)) (subst (λ k. ready_slots g k x ≡ []) z (h 0 x refl)) in
      let b = nobody_ready (n + 1) ns (λ i y e. let j : n + suc i ≡ n + 1 + i = omega arith in subst (λ k. ready_slots g k y ≡ []) j (h (suc i) y e)) in
      rw (a, b) refl

  pub all_quiet : (l : Placement) (w : Whole S) (m : Machine S) (puts : Puts) → Fits l w m puts → AllQuiet g w → is_machine_quiet g m ≡ true
  all_quiet l w m puts f q =
      let a = nothing_some m.links f.sorted (λ k. empty k (slice_get w.stations k.0) refl) in
      let b = nobody_ready 0 m.nodes (λ i x e. rests i x (slice_get w.stations i) refl (sym (f.nodes i) ∙ e)) in
      let c : are_acknowledged m.wires ≡ true = ap are_acknowledged f.plain in
      rw (a, b, c) refl
    where
      rests : (i : ℕ) (x : NodeState S) (o : Option (Station S)) → slice_get w.stations i ≡ o → node_in (slice_get w.stations i) ≡ Some x → ready_slots g (0 + i) x ≡ []
      rests i x None e h = absurd (let z : None ≡ Some x = sym (ap node_in e) ∙ h in cc)
      rests i x (Some s) e h =
          let z : Some s.node ≡ Some x = sym (ap node_in e) ∙ h in
          let y : i ≡ 0 + i = omega arith in
          subst (λ k. ready_slots g k x ≡ []) y (subst (λ v. ready_slots g i v ≡ []) (same_some z) (q.rests i s e))

      empty : (k : Pair) (o : Option (Station S)) → slice_get w.stations k.0 ≡ o → list_at pair_cmp k m.links ≡ []
      empty k None e = f.on_links k ∙ ap (drop (handed_at w k)) (f.from k e) ∙ drop_all (handed_at w k) [] (omega arith)
      empty k (Some s) e =
          let o = f.own k.0 k.1 s e in
          let a = ap length o.queue ∙ length-drop (count_at k.1 s.acked) (list_at pair_cmp k puts) in
          let b = q.even k.0 k.1 s e in
          f.on_links k ∙ drop_all (handed_at w k) (list_at pair_cmp k puts) (omega (arith, a, b))
