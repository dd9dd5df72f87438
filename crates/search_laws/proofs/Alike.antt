-- Ends that differ only in names are of one kind: stuck, unfinished or faulty.
use Rattle.std.proofs.Common.{◌≡◌, refl, sym, ap, ◌∙◌, ℕ, option_map, Option, Some, None}
use Rattle.run_types.specs.Tables.{has_some}
use Rattle.run_types.proofs.Laws.{same_some}
use Rattle.pool_syntax.specs.Terms.{ProgramTree}
use Rattle.pool_relation.specs.Action.{Object, action}
use Rattle.pool_relation.specs.Configuration.{Configuration, object_of, messages_of}
use Rattle.search_laws.specs.Renamed.{Renaming, renamed_program, renamed_object, IsRenamed, IsNameless}
use Rattle.reachability.specs.Search.{IsAtEnd, is_in_call, IsStuck, is_left_over, HasLeftOver, AnObject, AMessage, IsUnfinished, IsFaulty}
use Rattle.search_laws.specs.Outcomes.{EndsAlike}
use Rattle.search_laws.proofs.RenamedAction.{renamed_action, action_renamed}
use Rattle.search_laws.proofs.RenamedTransition.{same_names}
use Rattle.search_laws.proofs.SearchCompleteness.{call_kept, left_over_kept, some_kept, stuck_kept, unfinished_kept, fault_kept}

module _ (f : Renaming) (p : ProgramTree) (d x : Configuration) (less : IsNameless p) (same : IsRenamed f.to d x) where
  -- the object of d that has the name n in x
  record Was (n : ℕ) (y : Object) : Type 0 where
    object : Object
    there : object_of d (f.from n) ≡ Some object
    is : renamed_object f.to object ≡ y
    acts : action p n y ≡ renamed_action f.to (action p (f.from n) object)

  was : (n : ℕ) (y : Object) → object_of x n ≡ Some y → Was n y
  was n y e = by (object_of d (f.from n)) refl (sym (same.objects (f.from n)) ∙ ap (object_of x) (f.to_from n) ∙ e)
    where
      by : (o : Option Object) → object_of d (f.from n) ≡ o → option_map (renamed_object f.to) (object_of d (f.from n)) ≡ Some y → Was n y
      by None i h = absurd (let z : None ≡ Some y = sym (ap (option_map (renamed_object f.to)) i) ∙ h in cc)
      by (Some w) i h =
          let is : renamed_object f.to w ≡ y = same_some (sym (ap (option_map (renamed_object f.to)) i) ∙ h) in
          record {
            object = w;
            there = i;
            is = is;
            acts =
                ap (λ q. action q n y) (sym (less f.to)) ∙ ap (λ (v : Object). action (renamed_program f.to p) n v) (sym is) ∙ ap (λ m. action (renamed_program f.to p) m (renamed_object f.to w)) (sym (f.to_from n))
                ∙ action_renamed f.to (same_names f) p (f.from n) w;
          }

  faulty_before : IsFaulty x → IsFaulty d
  faulty_before h =
      let w = was h.name h.object h.there in
      record { name = f.from h.name; object = w.object; there = w.there; met = λ i. h.met (ap (λ (v : Object). v.fault) (sym w.is) ∙ i) }

  stuck_before : IsAtEnd p d → IsStuck p x → IsStuck p d
  stuck_before ended h =
      let s = h.waits in
      let w = was h.name s.object s.there in
      record {
        at_end = ended;
        name = f.from h.name;
        waits = record {
          object = w.object;
          there = w.there;
          sound = ap (λ (v : Object). v.fault) w.is ∙ s.sound;
          waits = sym (call_kept f.to (action p (f.from h.name) w.object)) ∙ ap is_in_call (sym w.acts) ∙ s.waits;
        };
      }

  unfinished_before : IsAtEnd p d → IsUnfinished p x → IsUnfinished p d
  unfinished_before ended h = record { at_end = ended; left = by h.left }
    where
      by : HasLeftOver p x → HasLeftOver p d
      by (AnObject o s) =
          let w = was o s.object s.there in
          AnObject (f.from o) (record {
            object = w.object;
            there = w.there;
            sound = ap (λ (v : Object). v.fault) w.is ∙ s.sound;
            stays = sym (left_over_kept f.to (action p (f.from o) w.object)) ∙ ap is_left_over (sym w.acts) ∙ s.stays;
          })
      by (AMessage s r i) =
          AMessage (f.from s) (f.from r)
          (sym (some_kept f.to (messages_of d (f.from s) (f.from r))) ∙ ap has_some (sym (same.messages (f.from s) (f.from r)))
          ∙ ap (λ q. has_some (messages_of x q (f.to (f.from r)))) (f.to_from s) ∙ ap (λ q. has_some (messages_of x s q)) (f.to_from r) ∙ i)

  pub ends_alike : IsAtEnd p d → EndsAlike p d x
  ends_alike ended =
      record {
        faulty = fault_kept f d x same;
        faulty_back = faulty_before;
        stuck = stuck_kept f p d x less same;
        stuck_back = stuck_before ended;
        unfinished = unfinished_kept f p d x less same;
        unfinished_back = unfinished_before ended;
      }
