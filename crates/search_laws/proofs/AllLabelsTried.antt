-- A list of which the labels were tried, all or those of one awaited object, is whole.
use Rattle.std.proofs.Common.{◌≡◌, ◌⊎◌, ◌≤◌, ◌+◌, inl, inr, refl, sym, ap, ◌∙◌, subst, ℕ, zero, suc, List, [], ◌∷◌, ◌++◌, map, length, Some, None, Bool, true, false, ◌&&◌, cond, arith}
use Rattle.std.specs.List.{filter, slice_get}
use Rattle.std.proofs.lemmas.Option.{slice_get_within}
use Rattle.std.proofs.lemmas.List.{append-nil}
use Rattle.std.specs.Ordering.{nat_cmp, is_eq}
use Rattle.std.specs.declared.cmp.Ordering.{Ordering}
use Rattle.std.specs.declared.cmp.Ordering.TheVariants.{Less, Equal, Greater}
use Rattle.std.specs.FinMap.{nat_cmp-IsAntisymmetric}
use Rattle.std.specs.FinMap.Entries.{find}
use Rattle.run_types.specs.declared.types.Item.{Item}
use Rattle.run_types.specs.declared.types.Label.{Label}
use Rattle.run_types.specs.declared.types.Label.TheVariants as L
use Rattle.pool_syntax.specs.Terms.{ProgramTree}
use Rattle.run_types.proofs.Laws.{same_some, first, second}
use Rattle.pool_relation.specs.Action.{Object, action}
use Rattle.pool_relation.specs.Configuration.{Configuration}
use Rattle.pool_relation.specs.Transition.{transition, run}
use Rattle.reachability.specs.Search.{is_in_call, WaitsAt, IsFaulty, IsIn, IsInOrder, after, names_next}
use Rattle.reachability.specs.Labels.{IsAmong, labels_to_try, is_silent}
use Rattle.reachability.specs.Outcomes.{items_of}
use Rattle.search_laws.specs.ClosedBeside.{SettlesFreely, AtRest, GoesFreely}
use Rattle.search_laws.specs.Outcomes.{needs_no_order, SettlesWith, Rests, GoesOn, Passed, IsPassed, IsEnoughWith, AllOfThem, Chosen, Created, IsWholeWithChoices}
use Rattle.search_laws.specs.PutOff.{any, IsWholeByChoices}
use Rattle.search_laws.specs.TriedAt.{IsTriedAt, AllThere, SomeThere, CreatedThere}
use Rattle.search_laws.specs.Renamed.{IsNameless}
use Rattle.search_laws.specs.Stubborn.{is_served}
use Rattle.search_laws.specs.Tried.{Course, KeepsNothing, states_only, with_writes, Follows, Stays, GoesBy, LeadsInto, AllLeadInto, IsExpanded, Every, Those, ByBirth, AreTried, IsTried, state_of}
use Rattle.search_laws.proofs.Enough.{who_is_awaited_is_enough}
use Rattle.search_laws.proofs.PutOff.{in_the_end_by_places}
use Rattle.search_laws.proofs.ReducedSearch.{first_of}
use Rattle.search_laws.proofs.AllLabels.{all_labels}

-- the entry of these parts
abbrev entry : ℕ → List Item → Configuration → Passed
entry n w c = record { next = n; items = w; configuration = c }

-- what is told of an entry
record IsTriedHere (p : ProgramTree) (k : Course) (es : List Passed) (i n : ℕ) (w : List Item) (c : Configuration) : Type 0 where
  sorted : IsInOrder c
  leads : IsExpanded p k es i n w c

tried_here : (p : ProgramTree) (k : Course) (es : List Passed) (i : ℕ) (rest : List Passed) (j : ℕ) (e : Passed) → AreTried p k es i rest → slice_get rest j ≡ Some e
    → IsTriedHere p k es (i + j) e.next e.items e.configuration
tried_here p k es i [] j e t h = absurd (let z : None ≡ Some e = h in cc)
tried_here p k es i (x ∷ rest) zero e t h =
    let is : x ≡ e = cc in
    let at : i ≡ i + 0 = omega arith in
    let here : IsTriedHere p k es i x.next x.items x.configuration = record { sorted = t.0; leads = t.1 } in
    subst (λ (m : ℕ). IsTriedHere p k es m e.next e.items e.configuration) at (subst (λ (y : Passed). IsTriedHere p k es i y.next y.items y.configuration) is here)
tried_here p k es i (x ∷ rest) (suc j) e t h =
    let at : suc i + j ≡ i + suc j = omega arith in
    subst (λ (m : ℕ). IsTriedHere p k es m e.next e.items e.configuration) at (tried_here p k es (suc i) rest j e t.2 h)

-- the place of an entry in the list
placed : (es : List Passed) (n : ℕ) (w : List Item) (c : Configuration) → IsPassed n w c es → (j : ℕ) × (slice_get es j ≡ Some (entry n w c))
placed [] n w c i = absurd i
placed (e ∷ es) n w c (inl i) =
    (0, ap (λ (m : ℕ). Some (entry m e.items e.configuration)) i.0 ∙ ap (λ (v : List Item). Some (entry n v e.configuration)) i.1 ∙ ap (λ (d : Configuration). Some (entry n w d)) i.2)
placed (e ∷ es) n w c (inr i) = let r = placed es n w c i in (suc r.0, r.1)

tried_at : (p : ProgramTree) (k : Course) (es : List Passed) (j n : ℕ) (w : List Item) (c : Configuration) → AreTried p k es 0 es → slice_get es j ≡ Some (entry n w c) → IsTriedHere p k es j n w c
tried_at p k es j n w c t h =
    let at : 0 + j ≡ j = omega arith in
    subst (λ (m : ℕ). IsTriedHere p k es m n w c) at (tried_here p k es 0 es j (entry n w c) t h)

leads_at : (p : ProgramTree) (k : Course) (es : List Passed) (n : ℕ) (w : List Item) (c d : Configuration) (l : Label) (ls : List Label) → transition p c l ≡ Some d
    → AllLeadInto p k es n w c ls → IsAmong l ls → LeadsInto p k es n w c l
leads_at p k es n w c d l [] s t i = absurd i
leads_at p k es n w c d l (m ∷ ls) s t (inr i) = leads_at p k es n w c d l ls s t.1 i
leads_at p k es n w c d l (m ∷ ls) s t (inl e) = by t.0
  where
    by : (transition p c m ≡ None) ⊎ LeadsInto p k es n w c m → LeadsInto p k es n w c l
    by (inl h) = absurd (let z : None ≡ Some d = sym h ∙ ap (transition p c) e ∙ s in cc)
    by (inr h) = subst (λ (x : Label). LeadsInto p k es n w c x) e h

-- where a label leads that was tried
record IsLed (p : ProgramTree) (k : Course) (es : List Passed) (n : ℕ) (w : List Item) (d : Configuration) (l : Label) : Type 0 where
  to : Configuration
  follows : Follows p k d to
  is_in : IsPassed (after n l) (w ++ k.keeps l) to es

led_by : (p : ProgramTree) (k : Course) (es : List Passed) (n : ℕ) (w : List Item) (c d : Configuration) (l : Label) → transition p c l ≡ Some d → LeadsInto p k es n w c l → IsLed p k es n w d l
led_by p k es n w c d l t h =
    let same : h.next ≡ d = same_some (sym h.step ∙ t) in
    record { to = h.to; follows = subst (λ (x : Configuration). Follows p k x h.to) same h.follows; is_in = h.is_in }

-- a label of the list that passes the test is in the list of those that do
pub among_those : (test : Label → Bool) (l : Label) (ls : List Label) → test l ≡ true → IsAmong l ls → IsAmong l (filter test ls)
among_those test l [] h i = absurd i
among_those test l (m ∷ ls) h (inl e) = subst (λ (b : Bool). IsAmong l (cond b (m ∷ filter test ls) (filter test ls))) (sym (ap test e ∙ h)) (inl e)
among_those test l (m ∷ ls) h (inr i) = by (test m) (among_those test l ls h i)
  where
    by : (b : Bool) → IsAmong l (filter test ls) → IsAmong l (cond b (m ∷ filter test ls) (filter test ls))
    by true j = inr j
    by false j = j

module _ (p : ProgramTree) (k : Course) (es : List Passed) (n : ℕ) (w : List Item) (c : Configuration) where
  -- if all labels were tried, each that is possible leads into the list
  every_leads : AllLeadInto p k es n w c (labels_to_try p n c) → (l : Label) (d : Configuration) → names_next n l ≡ true → transition p c l ≡ Some d → IsLed p k es n w d l
  every_leads all l d next t = led_by p k es n w c d l t (leads_at p k es n w c d l (labels_to_try p n c) t all (all_labels p c d n l next t))

  -- so does each label of the object whose labels were tried
  those_lead : (b : ℕ) → AllLeadInto p k es n w c (filter (is_served b) (labels_to_try p n c)) → (l : Label) → is_served b l ≡ true → (d : Configuration) → names_next n l ≡ true
      → transition p c l ≡ Some d → IsLed p k es n w d l
  those_lead b some l its d next t =
      led_by p k es n w c d l t
      (leads_at p k es n w c d l (filter (is_served b) (labels_to_try p n c)) t some (among_those (is_served b) l (labels_to_try p n c) its (all_labels p c d n l next t)))

-- labels of an object at an answer or a select give no name and write nothing
pub served_keeps_names : (b n : ℕ) (l : Label) → is_served b l ≡ true → after n l ≡ n
served_keeps_names b n (L.Local o) h = refl
served_keeps_names b n (L.New o m k) h = absurd (let z : false ≡ true = h in cc)
served_keeps_names b n (L.Answer r o m args) h = refl
served_keeps_names b n (L.Return r o v) h = refl
served_keeps_names b n (L.Send o r m args) h = refl
served_keeps_names b n (L.Take r o m args) h = refl
served_keeps_names b n (L.Write o i) h = refl
served_keeps_names b n (L.Pick o i) h = refl
served_keeps_names b n (L.Fault o e) h = refl

served_writes_nothing : (b : ℕ) (l : Label) → is_served b l ≡ true → items_of l ≡ []
served_writes_nothing b (L.Local o) h = refl
served_writes_nothing b (L.New o m k) h = refl
served_writes_nothing b (L.Answer r o m args) h = refl
served_writes_nothing b (L.Return r o v) h = refl
served_writes_nothing b (L.Send o r m args) h = refl
served_writes_nothing b (L.Take r o m args) h = refl
served_writes_nothing b (L.Write o i) h = absurd (let z : false ≡ true = h in cc)
served_writes_nothing b (L.Pick o i) h = refl
served_writes_nothing b (L.Fault o e) h = refl

-- for configurations alone

freely : (p : ProgramTree) (c e : Configuration) → Follows p states_only c e → SettlesFreely p any c e
freely p c e Stays = AtRest
freely p c e (GoesBy {d = d} l free step rest) = GoesFreely l free refl step (freely p d e rest)

-- what was written where a configuration is in the list
passed_by : (es : List Passed) (n : ℕ) (c : Configuration) → IsIn n c (map state_of es) → (w : List Item) × IsPassed n w c es
passed_by [] n c i = absurd i
passed_by (e ∷ es) n c (inl i) = (e.items, inl (i.0, refl, i.1))
passed_by (e ∷ es) n c (inr i) = let r = passed_by es n c i in (r.0, inr r.1)

pub is_in_states : (es : List Passed) (n : ℕ) (w : List Item) (c : Configuration) → IsPassed n w c es → IsIn n c (map state_of es)
is_in_states [] n w c i = absurd i
is_in_states (e ∷ es) n w c (inl i) = inl (i.0, i.2)
is_in_states (e ∷ es) n w c (inr i) = inr (is_in_states es n w c i)

is_in_at : (es : List Passed) (j n : ℕ) (w : List Item) (c : Configuration) → slice_get es j ≡ Some (entry n w c) → IsIn n c (map state_of es)
is_in_at [] j n w c h = absurd (let z : None ≡ Some (entry n w c) = h in cc)
is_in_at (e ∷ es) zero n w c h =
    let is : e ≡ entry n w c = cc in
    inl (ap (λ (x : Passed). x.next) is, ap (λ (x : Passed). x.configuration) is)
is_in_at (e ∷ es) (suc j) n w c h = inr (is_in_at es j n w c h)

-- no entry has a greater next name
abbrev pub top : List Passed → ℕ
top [] = 0
top (e ∷ es) = e.next + top es

pub below_top : (es : List Passed) (j n : ℕ) (w : List Item) (c : Configuration) → slice_get es j ≡ Some (entry n w c) → n ≤ top es
below_top [] j n w c h = absurd (let z : None ≡ Some (entry n w c) = h in cc)
below_top (e ∷ es) zero n w c h =
    let is : e ≡ entry n w c = same_some h in
    let at = ap (λ (x : Passed). x.next) is in
    omega (arith, at)
below_top (e ∷ es) (suc j) n w c h = let low = below_top es j n w c h in omega (arith, low)

-- the entry at this place has this configuration and next name
abbrev IsAt : List Passed → ℕ → ℕ → Configuration → Type 0
IsAt es j n c = (w : List Item) × (slice_get es j ≡ Some (entry n w c))

leads_freely : (p : ProgramTree) (es : List Passed) (n : ℕ) (w : List Item) (c d : Configuration) (l : Label) → IsLed p states_only es n w d l
    → (any l ≡ true) × ((e : Configuration) × SettlesFreely p any d e × IsIn (after n l) e (map state_of es))
leads_freely p es n w c d l h = (refl, (h.to, freely p d h.to h.follows, is_in_states es (after n l) (w ++ []) h.to h.is_in))

tried_by_places : (p : ProgramTree) (es : List Passed) (j n : ℕ) (w : List Item) (c : Configuration) → IsNameless p → IsExpanded p states_only es j n w c → IsTriedAt p any (map state_of es) (IsAt es) j n c
tried_by_places p es j n w c less (Every all) = AllThere (λ l d next t. leads_freely p es n w c d l (every_leads p states_only es n w c all l d next t))
tried_by_places p es j n w c less (ByBirth o class leads) =
    let at = placed es (suc n) (w ++ []) leads.to leads.is_in in
    CreatedThere o class (λ m. refl) leads.next leads.to leads.step (freely p leads.next leads.to leads.follows) at.0 (w ++ [], at.1)
tried_by_places p es j n w c less (Those b awaited some place later on) =
    let enough = who_is_awaited_is_enough p n b c less awaited in
    let step : transition p c enough.0.one ≡ Some on.next = ap (transition p c) enough.1 ∙ on.step in
    let there : slice_get es place ≡ Some (entry n (w ++ []) on.to) = on.there ∙ ap (λ (m : ℕ). Some (entry m (w ++ []) on.to)) (served_keeps_names b n awaited.one awaited.is_its) in
    SomeThere (is_served b) enough.0 (λ l its d next t. leads_freely p es n w c d l (those_lead p states_only es n w c b some l its d next t)) on.next on.to step (freely p on.next on.to on.follows)
    place later (w ++ [], there)

pub whole_by_trying : (p : ProgramTree) (es : List Passed) → IsNameless p → IsTried p states_only es → IsWholeByChoices p (map state_of es)
whole_by_trying p es less all = record {
  begins = λ c s. let b = all.begins c s in (b.0, freely p c b.0 b.1, is_in_states es 1 [] b.0 b.2);
  closed = record {
    in_order = λ n c i. let r = passed_by es n c i in let at = placed es n r.0 c r.1 in (tried_at p states_only es at.0 n r.0 c all.tried at.1).sorted;
    in_the_end = λ n c i.
        let r = passed_by es n c i in
        let at = placed es n r.0 c r.1 in
        in_the_end_by_places p any (map state_of es) (IsAt es) (length es) (top es) within inside tried at.0 n c (r.0, at.1);
  };
}
  where
    within : (j n : ℕ) (c : Configuration) → IsAt es j n c → (j ≤ length es) × (n ≤ top es)
    within j n c at = (let h = slice_get_within es j (entry n at.0 c) at.1 in omega arith, below_top es j n at.0 c at.1)

    inside : (j n : ℕ) (c : Configuration) → IsAt es j n c → IsIn n c (map state_of es)
    inside j n c at = is_in_at es j n at.0 c at.1

    tried : (j n : ℕ) (c : Configuration) → IsAt es j n c → IsTriedAt p any (map state_of es) (IsAt es) j n c
    tried j n c at = tried_by_places p es j n at.0 c less (tried_at p states_only es j n at.0 c all.tried at.1).leads

-- for what is written, too

no_order : (l : Label) → is_silent l ≡ true → needs_no_order None l ≡ true
no_order (L.Local o) h = h
no_order (L.New o m k) h = h
no_order (L.Answer b o m args) h = h
no_order (L.Return b o v) h = h
no_order (L.Send o b m args) h = h
no_order (L.Take b o m args) h = h
no_order (L.Write o i) h = absurd (let z : false ≡ true = h in cc)
no_order (L.Pick o i) h = h
no_order (L.Fault o e) h = h

pub silent_keeps_nothing : KeepsNothing with_writes
silent_keeps_nothing (L.Local o) h = refl
silent_keeps_nothing (L.New o m k) h = refl
silent_keeps_nothing (L.Answer b o m args) h = refl
silent_keeps_nothing (L.Return b o v) h = refl
silent_keeps_nothing (L.Send o b m args) h = refl
silent_keeps_nothing (L.Take b o m args) h = refl
silent_keeps_nothing (L.Write o i) h = absurd (let z : false ≡ true = h in cc)
silent_keeps_nothing (L.Pick o i) h = refl
silent_keeps_nothing (L.Fault o e) h = refl

settled_with : (p : ProgramTree) (c e : Configuration) → Follows p with_writes c e → SettlesWith p None c [] e
settled_with p c e Stays = Rests
settled_with p c e (GoesBy {d = d} l free step rest) =
    subst (λ (v : List Item). SettlesWith p None c (v ++ []) e) (silent_keeps_nothing l free) (GoesOn l (no_order l free) step (settled_with p d e rest))

leads_with : (p : ProgramTree) (es : List Passed) (n : ℕ) (w : List Item) (c d : Configuration) (l : Label) → IsLed p with_writes es n w d l
    → (e : Configuration) × (v : List Item) × SettlesWith p None d v e × IsPassed (after n l) (w ++ (items_of l ++ v)) e es
leads_with p es n w c d l h =
    (h.to, [], settled_with p d h.to h.follows, subst (λ (v : List Item). IsPassed (after n l) (w ++ v) h.to es) (sym (append-nil (items_of l))) h.is_in)

enough_with : (p : ProgramTree) (es : List Passed) (j n : ℕ) (w : List Item) (c : Configuration) → IsNameless p → IsExpanded p with_writes es j n w c → IsEnoughWith p es n w c
enough_with p es j n w c less (Every all) = AllOfThem (λ l d next t. leads_with p es n w c d l (every_leads p with_writes es n w c all l d next t))
enough_with p es j n w c less (ByBirth o class leads) = Created o class leads.next leads.to [] leads.step (settled_with p leads.next leads.to leads.follows) leads.is_in
enough_with p es j n w c less (Those b awaited some place later on) =
    Chosen (is_served b) (who_is_awaited_is_enough p n b c less awaited).0 (served_writes_nothing b) (λ l its d next t. leads_with p es n w c d l (those_lead p with_writes es n w c b some l its d next t))

pub whole_with_writes : (p : ProgramTree) (es : List Passed) → IsNameless p → IsTried p with_writes es → IsWholeWithChoices p es
whole_with_writes p es less all = record {
  in_order = λ n w c i. let at = placed es n w c i in (tried_at p with_writes es at.0 n w c all.tried at.1).sorted;
  begins = λ c s. let b = all.begins c s in (b.0, [], settled_with p c b.0 b.1, b.2);
  enough = λ n w c i. let at = placed es n w c i in enough_with p es at.0 n w c less (tried_at p with_writes es at.0 n w c all.tried at.1).leads;
}

-- a run of transitions that are followed
abbrev pub all_followed : Course → List Label → Bool
all_followed k [] = true
all_followed k (l ∷ ls) = k.follows l && all_followed k ls

pub follows_by : (p : ProgramTree) (k : Course) (c e : Configuration) (ls : List Label) → all_followed k ls ≡ true → run p c ls ≡ Some e → Follows p k c e
follows_by p k c e [] h r = subst (Follows p k c) (same_some r) Stays
follows_by p k c e (l ∷ ls) h r =
    let f = first_of p c e l ls r in
    GoesBy l (first (k.follows l) (all_followed k ls) h) f.step (follows_by p k f.next e ls (second (k.follows l) (all_followed k ls) h) f.rest)

-- each of these has the property
abbrev pub EachEntry : (ℕ → Object → Type 0) → List (ℕ × Object) → Type 0
EachEntry P [] = Unit {0}
EachEntry P (e ∷ es) = P e.0 e.1 × EachEntry P es

entry_at : (P : ℕ → Object → Type 0) (o : ℕ) (x : Object) (es : List (ℕ × Object)) → find nat_cmp o es ≡ Some x → EachEntry P es → P o x
entry_at P o x [] e h = absurd (cc)
entry_at P o x (k ∷ es) e h = by (nat_cmp o k.0) refl e (λ i. entry_at P o x es i h.1)
  where
    by : (r : Ordering) → nat_cmp o k.0 ≡ r → cond (is_eq (nat_cmp o k.0)) (Some k.1) (find nat_cmp o es) ≡ Some x → (find nat_cmp o es ≡ Some x → P o x) → P o x
    by Less j i rest = rest (sym (ap (λ r. cond (is_eq r) (Some k.1) (find nat_cmp o es)) j) ∙ i)
    by Greater j i rest = rest (sym (ap (λ r. cond (is_eq r) (Some k.1) (find nat_cmp o es)) j) ∙ i)
    by Equal j i rest =
        let at : o ≡ k.0 = nat_cmp-IsAntisymmetric o k.0 j in
        let is : k.1 ≡ x = same_some (sym (ap (λ r. cond (is_eq r) (Some k.1) (find nat_cmp o es)) j) ∙ i) in
        subst (λ (q : ℕ). P q x) (sym at) (subst (P k.0) is h.0)

pub nobody_waits : (p : ProgramTree) (c : Configuration) (o : ℕ) → EachEntry (λ q x. is_in_call (action p q x) ≡ false) c.objects → ¬ (WaitsAt p c o)
nobody_waits p c o h w =
    absurd (let z : true ≡ false = sym w.waits ∙ entry_at (λ q x. is_in_call (action p q x) ≡ false) o w.object c.objects w.there h in cc)

pub nobody_faulty : (c : Configuration) → EachEntry (λ q x. x.fault ≡ None) c.objects → ¬ (IsFaulty c)
nobody_faulty c h f = f.met (entry_at (λ q x. x.fault ≡ None) f.name f.object c.objects f.there h)
