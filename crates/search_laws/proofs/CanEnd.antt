-- From where a run can still come to an end, told by a list that puts off no label for ever.
use Rattle.std.proofs.Common.{◌≡◌, refl, sym, ap, ◌∙◌, subst, ℕ, List, ◌++◌, map, length, Option, Some, None, true, arith}
use Rattle.run_types.specs.declared.types.Label.{Label}
use Rattle.pool_syntax.specs.Terms.{ProgramTree}
use Rattle.pool_relation.specs.Configuration.{Configuration}
use Rattle.pool_relation.specs.Transition.{transition, run}
use Rattle.pool_relation.proofs.Laws.{joined}
use Rattle.reachability.specs.Search.{IsReached, IsAtEnd, IsIn, in_order}
use Rattle.search_laws.specs.Renamed.{Renaming, renamed_program, renamed_label, IsRenamed, IsNameless}
use Rattle.search_laws.specs.PutOff.{any, IsClosedByChoices, IsWholeByChoices}
use Rattle.search_laws.specs.CanEnd.{CanEnd}
use Rattle.search_laws.proofs.RenamedTransition.{Alike, Neither, Both}
use Rattle.search_laws.proofs.RenamedRun.{run_renamed}
use Rattle.search_laws.proofs.NamesInOrder.{same_all, arranged}
use Rattle.search_laws.proofs.SearchCompleteness.{step_leads, at_end_kept}
use Rattle.search_laws.proofs.Known.{Known}
use Rattle.search_laws.proofs.GoesOn.{leads_in, back}
use Rattle.search_laws.proofs.PutOff.{tells}

-- an end under other names is an end
at_end_back : (f : Renaming) (p : ProgramTree) (c d : Configuration) → IsNameless p → IsRenamed f.to c d → IsAtEnd p d → IsAtEnd p c
at_end_back f p c d less same ended = λ l. by l (transition p c l) refl
  where
    by : (l : Label) (t : Option Configuration) → transition p c l ≡ t → transition p c l ≡ None
    by l None e = e
    by l (Some x) e =
        let s = step_leads f p c d x l same e in
        let there : transition p d (renamed_label f.to l) ≡ Some s.0 = ap (λ q. transition q d (renamed_label f.to l)) (sym (less f.to)) ∙ s.1 in
        absurd (let z : None ≡ Some s.0 = sym (ended (renamed_label f.to l)) ∙ there in cc)

can_end_back : (f : Renaming) (p : ProgramTree) (c d : Configuration) → IsNameless p → IsRenamed f.to c d → CanEnd p d → CanEnd p c
can_end_back f p c d less same x =
    let b = back f p c d less same x.last x.labels x.leads in
    record { last = b.to; labels = map (renamed_label f.from) x.labels; leads = b.leads; ended = at_end_back f p b.to x.last less b.same x.ended }

-- if from each configuration of the list a run can come to an end, so it can from each that is reached
pub all_can_end : (p : ProgramTree) (es : List (ℕ × Configuration)) → IsNameless p → IsWholeByChoices p es → ((n : ℕ) (c : Configuration) → IsIn n c es → CanEnd p c) → (d : Configuration) → IsReached p d → CanEnd p d
all_can_end p es less whole can d reached =
    let h = leads_in p es less whole d reached in
    let x = can h.next h.seen h.is_in in
    let y = can_end_back h.on.names p h.on.to h.seen less h.on.same x in
    let all : run p h.other (h.on.toward.labels ++ y.labels) ≡ Some y.last = joined p h.other h.on.to h.on.toward.labels y.labels h.on.toward.leads ∙ y.leads in
    can_end_back h.names p d h.other less h.same (record { last = y.last; labels = h.on.toward.labels ++ y.labels; leads = all; ended = y.ended })

-- if no configuration of a part that no tried label leaves is an end, no run from there comes to one
pub never_ends : (p : ProgramTree) (es : List (ℕ × Configuration)) → IsNameless p → IsClosedByChoices p any es → ((n : ℕ) (c : Configuration) → IsIn n c es → ¬ (IsAtEnd p c))
    → (n : ℕ) (c : Configuration) → IsIn n c es → Known n c → ¬ (CanEnd p c)
never_ends p es less closed none n c i known can =
    let a = arranged p c can.last can.labels n same_all (record { there = known.there; free = known.free }) can.leads in
    by a.names a.orders (run p c can.labels) (run (renamed_program a.names.to p) c (map (renamed_label a.names.to) can.labels)) can.leads refl
    (run_renamed a.names p c c can.labels (known.fixed a.names a.keeps))
  where
    here : (t : Label) (ks : List Label) (x y : Configuration) → any t ≡ true → transition p x t ≡ Some y → IsAtEnd p x → IsAtEnd p y
    here t ks x y f j ended = absurd (let z : None ≡ Some y = sym (ended t) ∙ j in cc)

    by : (g : Renaming) → in_order n (map (renamed_label g.to) can.labels) ≡ true → (u v : Option Configuration) → u ≡ Some can.last
        → run (renamed_program g.to p) c (map (renamed_label g.to) can.labels) ≡ v → Alike g.to u v → ⊥
    by g orders u v j k Neither = absurd (cc)
    by g orders u v j k (Both {c = b} {d = e} s) =
        let is : b ≡ can.last = cc in
        let named : IsRenamed g.to can.last e = subst (λ (y : Configuration). IsRenamed g.to y e) is s in
        let leads : run p c (map (renamed_label g.to) can.labels) ≡ Some e = ap (λ x. run x c (map (renamed_label g.to) can.labels)) (sym (less g.to)) ∙ k in
        tells p any (λ ks x. IsAtEnd p x) (λ t ks x f h. h) (λ l ks ms x y f h. f h) here less 0 (λ f ks x y keeps same h. at_end_kept f p x y less same h) es closed ⊥ none
        (length (map (renamed_label g.to) can.labels)) n c e (map (renamed_label g.to) can.labels) (omega arith) (omega arith) known i orders leads
        (at_end_kept g p can.last e less named can.ended)
