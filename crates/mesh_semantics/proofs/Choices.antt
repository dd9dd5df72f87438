-- A select takes its first possible alternative, and a turn makes its local transitions one after another.
use Rattle.std.proofs.Common.{◌≡◌, ◌≢◌, refl, sym, ap, subst, ◌∙◌, ℕ, zero, suc, ◌+◌, List, [], ◌∷◌, replicate, Option, Some, None, is_some, Bool, true, false, ◌&&◌, slice_get, nat_le, arith}
use Rattle.std.specs.List.{list_any}
use Rattle.run_types.specs.declared.types.Label.{Label}
use Rattle.run_types.specs.declared.types.Label.TheVariants as L
use Rattle.run_types.specs.declared.types.Placement.{Placement}
use Rattle.run_types.specs.Partial.{◌>>=◌, ◌>>◌, require}
use Rattle.run_types.proofs.Laws.{first, second, same_some, given_by, required, find_put_same}
use Rattle.mesh_semantics.specs.Kind as K
use Rattle.mesh_semantics.specs.Kind.{Kind, Alternative, is_local, has_name, answered, answers, is_plain, alternatives}
use Rattle.mesh_semantics.specs.Language.{Language}
use Rattle.mesh_semantics.specs.Config.{Config, object_of, put_object}
use Rattle.mesh_semantics.specs.Moves.{move, moves, running, offered, numbered}
use Rattle.mesh_semantics.specs.Delay.{Arrival, Delay, arrived_at}
use Rattle.mesh_semantics.specs.Act.{first_arrival, is_possible, accept_turn, chosen_turn, choice_turn, local_steps, within_frames, frame_count, greatest, step_count, local_turn}
use Rattle.mesh_semantics.specs.Sound.{Consistent, IsWithin, IsSound}
use Rattle.mesh_semantics.proofs.Fit.{Fit}
use Rattle.mesh_semantics.specs.Lawful.{Lawful}
use Rattle.mesh_semantics.proofs.QuietIsFinal.{has_arrived, answer_possible}
use Rattle.mesh_semantics.proofs.ObjectChange.{running_gives}
use Rattle.mesh_semantics.proofs.TurnInvariant.{Nearly, Acting, own_change, own_elsewhere, pick_turn}
use Rattle.mesh_semantics.proofs.Takes.{arrived_named, answer_kept, take_kept}

-- the first possible alternative of a list whose first has the number i
pub record Chosen {S : Type 0} (g : Language S) (c : Config S) (d : Delay) (o i : ℕ) (alts : List Alternative) : Type 0 where
  pub place : ℕ
  pub alternative : Alternative
  pub there : slice_get alts place ≡ Some alternative
  pub possible : is_possible (arrived_at d o) alternative ≡ true
  pub turn : choice_turn g c d o i alts ≡ chosen_turn g c d o (i + place) alternative.names
  pub offers : (m : ℕ) → has_arrived m (arrived_at d o) ≡ true → answers alternative m ≡ true → offered i alts m ≡ Some (i + place, answered alternative.names)

chosen : {S : Type 0} (g : Language S) (c : Config S) (d : Delay) (o i : ℕ) (alts : List Alternative) → list_any (is_possible (arrived_at d o)) alts ≡ true → Chosen g c d o i alts
chosen g c d o i [] h = absurd (grind (arith, h))
chosen g c d o i (a ∷ alts) h = by (is_possible (arrived_at d o) a) refl (chosen g c d o (i + 1) alts)
  where
    none : i + 0 ≡ i
    none = omega arith

    by : (b : Bool) → is_possible (arrived_at d o) a ≡ b → (list_any (is_possible (arrived_at d o)) alts ≡ true → Chosen g c d o (i + 1) alts) → Chosen g c d o i (a ∷ alts)
    by true e k = record {
      place = 0;
      alternative = a;
      there = refl;
      possible = e;
      turn = rw (e, none) refl;
      offers = λ m t u. rw (u, none) refl;
    }
    by false e k =
        let r = k (rw e at h) in
        let later : (i + 1) + r.place ≡ i + suc r.place = omega arith in
        record {
          place = suc r.place;
          alternative = r.alternative;
          there = r.there;
          possible = r.possible;
          turn = rw e (r.turn ∙ ap (λ n. chosen_turn g c d o n r.alternative.names) later);
          offers = λ m t u. rw (answer_possible (arrived_at d o) a m t e) (r.offers m t u ∙ ap (λ n. Some (n, answered r.alternative.names)) later);
        }

module _ {S : Type 0} (g : Language S) (W : Config S → Type 0) (law : Lawful g W) (l : Placement) (fit : Fit l) where
  pub choice_kept : (c : Config S) (d : Delay) (n o : ℕ) (x : S) (alts : List Alternative) → IsSound g W l c d → Acting g W law l fit.ways c d n o x → g.kind o x ≡ K.Select alts
      → list_any (is_possible (arrived_at d o)) alts ≡ true → Nearly g W law l fit.ways n c (choice_turn g c d o 1 alts)
  choice_kept c d n o x alts s a is h = subst (Nearly g W law l fit.ways n c) (sym k.turn) (by k.alternative.names refl)
    where
      k : Chosen g c d o 1 alts
      k = chosen g c d o 1 alts h

      numbered_is : numbered alts (1 + k.place) ≡ Some k.alternative
      numbered_is = subst (λ z. numbered alts z ≡ Some k.alternative) (let e : suc k.place ≡ 1 + k.place = omega arith in e) k.there

      open_is : k.alternative.is_open ≡ true
      open_is = first k.alternative.is_open _ k.possible

      by : (names : Option (List ℕ)) → k.alternative.names ≡ names → Nearly g W law l fit.ways n c (chosen_turn g c d o (1 + k.place) k.alternative.names)
      by None e = rw e (pick_turn g W law l fit.ways c d n o x alts (1 + k.place) s a is (rw numbered_is (rw (open_is, e) refl)))
      by (Some names) e = rw e (on (first_arrival names (arrived_at d o)) refl)
        where
          on : (f : Option Arrival) → first_arrival names (arrived_at d o) ≡ f → Nearly g W law l fit.ways n c (accept_turn g c d o names (first_arrival names (arrived_at d o)))
          on None f = absurd (let q : (k.alternative.is_open && false) ≡ true = rw (e, f) at k.possible in let r = second k.alternative.is_open false q in grind (arith, r))
          on (Some m) f = rw f (called m.is_call refl)
            where
              named : (has_name names m.method ≡ true) × (has_arrived m.method (arrived_at d o) ≡ true)
              named = arrived_named names (arrived_at d o) m f

              offers : offered 1 alts m.method ≡ Some (1 + k.place, names)
              offers = k.offers m.method named.1 (rw (open_is, e) named.0) ∙ ap (λ z. Some (1 + k.place, answered z)) e

              called : (b : Bool) → m.is_call ≡ b → Nearly g W law l fit.ways n c (accept_turn g c d o names (Some m))
              called true i = rw i (answer_kept g W law l fit c d n o x s a alts is names m f i (1 + k.place) offers)
              called false i = rw i (take_kept g W law l fit c d n o x s a alts is names m f i (1 + k.place) offers)

  -- local transitions

  -- so many of them, with where they lead
  record Steps (c : Config S) (d : Delay) (n o k : ℕ) (e : Config S) : Type 0 where
    leads : moves g c (replicate k (L.Local o)) ≡ Some e
    state : Consistent g W l e d
    there : (x : S) × (object_of e o ≡ Some x)
    beside : (m : ℕ) → m ≢ n → IsWithin g l e d m

  one_more : (c e f : Config S) (lab : Label) (k : ℕ) → moves g c (replicate k lab) ≡ Some e → move g e lab ≡ Some f → moves g c (replicate (suc k) lab) ≡ Some f
  one_more c e f lab zero h i = let same : c ≡ e = same_some h in rw same (rw i refl)
  one_more c e f lab (suc k) h i =
      let a = given_by (move g c lab) (λ q. moves g q (replicate k lab)) e h in
      let r = one_more a.0 e f lab k a.2 i in rw a.1 r

  steps : (c : Config S) (d : Delay) (n o : ℕ) (x : S) → IsSound g W l c d → Acting g W law l fit.ways c d n o x → (k : ℕ) (e : Config S) → local_steps g l n o k c ≡ Some e → Steps c d n o k e
  steps c d n o x s a zero e h = let same : c ≡ e = same_some h in
      subst (λ (z : Config S). Steps c d n o zero z) same (record { leads = refl; state = s.state; there = (x, a.found); beside = λ m i. s.limits m })
  steps c d n o x s a (suc k) e h =
      let b = given_by (local_steps g l n o k c) (λ z. move g z (L.Local o) >>= within_frames g l n) e h in
      let f = given_by (move g b.0 (L.Local o)) (within_frames g l n) e b.2 in
      on b.0 f.0 (steps c d n o x s a k b.0 b.1) f.1 (inside f.0 e f.2)
    where
      inside : (f e : Config S) → within_frames g l n f ≡ Some e → f ≡ e
      inside f e i = by (nat_le (frame_count g f n) l.frames) refl
        where
          by : (t : Bool) → nat_le (frame_count g f n) l.frames ≡ t → f ≡ e
          by true j = same_some (rw j at i)
          by false j = absurd (let q = rw j at i in cc)

      on : (b f : Config S) → Steps c d n o k b → move g b (L.Local o) ≡ Some f → f ≡ e → Steps c d n o (suc k) e
      on b f t go same = subst (λ (z : Config S). Steps c d n o (suc k) z) same (record {
        leads = one_more c b f (L.Local o) k t.leads go;
        state = subst (λ (z : Config S). Consistent g W l z d) is (own_change g W law l fit.ways b d o t.there.0 (g.stepped o t.there.0) t.state t.there.1 a.free
            (subst W (sym is) (law.kept b f (L.Local o) t.state.typed go)));
        there = (g.stepped o t.there.0, subst (λ (z : Config S). object_of z o ≡ Some (g.stepped o t.there.0)) is (find_put_same o (g.stepped o t.there.0) b.objects));
        beside = λ m i. subst (λ (z : Config S). IsWithin g l z d m) is (own_elsewhere g W law l fit.ways b d o t.there.0 (g.stepped o t.there.0) (law.sorted b t.state.typed) t.there.1 m (λ q. i (q ∙ a.at)) (t.beside m i));
      })
        where
          is : put_object b o (g.stepped o t.there.0) ≡ f
          is = let r = given_by (running g b o) (λ x. require (is_local (g.kind o x)) >> Some (put_object b o (g.stepped o x))) f go in
              let u = required (is_local (g.kind o r.0)) (Some (put_object b o (g.stepped o r.0))) f r.2 in
              let v : r.0 ≡ t.there.0 = same_some (sym (running_gives g b o r.0 r.1).0 ∙ t.there.1) in
              ap (λ z. put_object b o (g.stepped o z)) (sym v) ∙ same_some u.1

  greatest_holds : (test : ℕ → Bool) (q k : ℕ) → greatest test q ≡ suc k → test (suc k) ≡ true
  greatest_holds test zero k h = absurd (cc)
  greatest_holds test (suc q) k h = by (test (suc q)) refl (greatest_holds test q k)
    where
      by : (b : Bool) → test (suc q) ≡ b → (greatest test q ≡ suc k → test (suc k) ≡ true) → test (suc k) ≡ true
      by true i r = let same : suc q ≡ suc k = rw i at h in subst (λ z. test z ≡ true) same i
      by false i r = r (rw i at h)

  pub local_kept : (c : Config S) (d : Delay) (n o q : ℕ) (x : S) → IsSound g W l c d → Acting g W law l fit.ways c d n o x
      → Nearly g W law l fit.ways n c (local_turn n o d (step_count g l q n o c) (local_steps g l n o (step_count g l q n o c) c))
  local_kept c d n o q x s a = by (step_count g l q n o c) refl
    where
      by : (k : ℕ) → step_count g l q n o c ≡ k → Nearly g W law l fit.ways n c (local_turn n o d k (local_steps g l n o k c))
      by zero i = tt
      by (suc k) i = on (local_steps g l n o (suc k) c) refl (greatest_holds (λ z. is_some (local_steps g l n o z c)) q k i)
        where
          on : (f : Option (Config S)) → local_steps g l n o (suc k) c ≡ f → is_some (local_steps g l n o (suc k) c) ≡ true → Nearly g W law l fit.ways n c (local_turn n o d (suc k) (local_steps g l n o (suc k) c))
          on None f t = absurd (let z : false ≡ true = rw f at t in cc)
          on (Some e) f t = let r = steps c d n o x s a (suc k) e f in rw f (r.leads, r.state, r.beside)
