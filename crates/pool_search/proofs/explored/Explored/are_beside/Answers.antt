use Rattle.std.proofs.Common.{◌≡◌, ◌⊎◌, ◌<◌, ◌∙◌, inl, inr, refl, subst, sym, ap, Ok, Some, Bool, true, false, not, length, slice_get, arith}
use Rattle.pool_syntax.specs.Terms.{ProgramTree}
use Rattle.search_laws.specs.Outcomes.{Passed}
use Rattle.pool_search.specs.declared.choices.Trial.TheVariants as T
use Rattle.pool_search.specs.Entries.{entries, searched}
use Rattle.pool_search.specs.Leads.{IsBeside, OneStaysOn}
use Rattle.pool_search.specs.Progress.{Entries}
use Rattle.pool_search.specs.Trials.{is_asked, is_tried}
use Rattle.pool_search.proofs.WaiterLaws.{one_more_beside}
use Rattle.pool_search.proofs.explored.Explored.are_beside.Goals as goal

not_over : (b : Bool) → not b ≡ false → b ≡ true
not_over true h = refl
not_over false h = absurd (let z : true ≡ false = h in cc)

either : {A B C : Type 0} → (A → C) → (B → C) → A ⊎ B → C
either f g (inl a) = f a
either f g (inr b) = g b

-- a property of a program and a list under equal ones
moved : (Q : ProgramTree → Entries → Type 0) → {p q : ProgramTree} {es fs : Entries} → p ≡ q → es ≡ fs → Q p es → Q q fs
moved Q {p} {q} {es} {fs} i j h = subst (Q q) j (subst (λ (r : ProgramTree). Q r es) i h)

pub stays_beside-requires : goal.stays_beside-requires
stays_beside-requires c = subst (λ (es : Entries). c.args.at < length es) (sym c.loop-label.invariant.same) c.requires

pub loop-label-preserved : goal.loop-label-preserved
loop-label-preserved c =
    let l = c.loop-label in
    let o = c.args.suspect.now.object in
    let ws = c.args.suspect.now.waiters.now.list.items in
    let labels = c.args.labels.now in
    let asked = is_asked c.args.served in
    let p = searched c.args.self.now in
    let es = entries c.args.self.now in
    let at = c.args.at in
    let tried : is_tried c.in-Ok.now ≡ true = not_over (is_tried c.in-Ok.now) (sym c.is_over.ensures ∙ c.if-is_over.false) in
    let inside : l.label-index < length labels = omega (arith, c.loop-label-test.true, l.auto.label-index-end) in
    let still : (e : Passed) → slice_get es at ≡ Some e → slice_get (entries l.self) at ≡ Some e = λ e g. ap (λ (xs : Entries). slice_get xs at) l.invariant.same ∙ g in
    record {
      same = c.stays_beside.ensures.same ∙ l.invariant.same;
      program = c.stays_beside.ensures.program ∙ l.invariant.program;
      in_bounds = tried;
      led = λ i told e g.
          either (λ h. l.invariant.led i h e g) (λ h. moved (λ q xs. OneStaysOn q xs ws o at e.next e.configuration c.args.served i) l.invariant.program l.invariant.same (h e (still e g)))
          (c.in-Ok.ensures.led i (ap Ok told));
      so_far = λ e g rest.
          one_more_beside (IsBeside p es ws o e.next e.configuration) asked labels l.label-index _ inside
          (subst (λ x. asked x ≡ true → IsBeside p es ws o e.next e.configuration x) c.label-item.is
          (λ h. moved (λ q xs. IsBeside q xs ws o e.next e.configuration c.label-item.result) l.invariant.program l.invariant.same (c.in-Ok.ensures.tried tried h e (still e g)))) (l.invariant.so_far e g) rest;
    }

pub returns-clause-led : goal.returns-clause-led
returns-clause-led c = λ i told.
    let is : c.loop-label.trial ≡ T.Led i = cc in
    c.loop-label.invariant.led i is
