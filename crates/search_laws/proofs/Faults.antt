-- An error that an object has met stays after each transition that needs no choice.
use Rattle.std.proofs.Common.{◌≡◌, ◌≢◌, sym, ap, ◌∙◌, ℕ, Some, None, is_some, true, ◌&&◌}
use Rattle.run_types.specs.declared.types.Label.{Label}
use Rattle.run_types.specs.declared.types.Label.TheVariants as L
use Rattle.pool_syntax.specs.Terms.{ProgramTree}
use Rattle.run_types.proofs.Laws.{given_by, required, same_some}
use Rattle.pool_relation.specs.Action.{Object, action}
use Rattle.pool_relation.specs.Configuration.{Configuration, object_of, put_object}
use Rattle.pool_relation.specs.Transition.{running, local_step, posts, returns, waits_on, writes, fails, done, returned, given, transition}
use Rattle.pool_relation.proofs.Laws.{running_is}
use Rattle.reachability.specs.Search.{needs_no_choice}
use Rattle.search_laws.proofs.PutsCommute.{at_another}

module _ (p : ProgramTree) (c e : Configuration) (q : ℕ) (z : Object) (there : object_of c q ≡ Some z) (met : z.fault ≢ None) where
  -- it is none that goes on
  other : (o : ℕ) (x : Object) → running c o ≡ Some x → q ≢ o
  other o x r i =
      let a = running_is c o x r in
      let same : z ≡ x = same_some (sym there ∙ ap (object_of c) i ∙ a.0) in
      met (ap (λ y. y.fault) same ∙ a.1)

  one_put : (o : ℕ) (x y : Object) → running c o ≡ Some x → put_object c o y ≡ e → object_of e q ≡ Some z
  one_put o x y r i = ap (λ d. object_of d q) (sym i) ∙ at_another c o q y (other o x r) ∙ there

  by_label : (k : Label) → needs_no_choice k ≡ true → transition p c k ≡ Some e → object_of e q ≡ Some z
  by_label (L.Local o) h t =
      let r = given_by (running c o) _ e t in
      let y = given_by (local_step r.0 (action p o r.0)) _ e r.2 in
      one_put o r.0 y.0 r.1 (same_some y.2)
  by_label (L.Write o item) h t =
      let r = given_by (running c o) _ e t in
      let w = required (writes (action p o r.0) item) _ e r.2 in
      one_put o r.0 (done r.0) r.1 (same_some w.1)
  by_label (L.Fault o f) h t =
      let r = given_by (running c o) _ e t in
      let w = required (fails (action p o r.0) f) _ e r.2 in
      one_put o r.0 (record r.0 { fault = Some f }) r.1 (same_some w.1)
  by_label (L.Send o b m args) h t =
      let r = given_by (running c o) _ e t in
      let w = required (posts (action p o r.0) b m.0 args && is_some (object_of c b)) _ e r.2 in
      ap (λ d. object_of d q) (sym (same_some w.1)) ∙ at_another c o q (done r.0) (other o r.0 r.1) ∙ there
  by_label (L.Return b o v) h t =
      let s = given_by (running c b) _ e t in
      let r = given_by (running c o) _ e s.2 in
      let w = required (returns (action p b s.0) o v && waits_on (action p o r.0) b) _ e r.2 in
      ap (λ d. object_of d q) (sym (same_some w.1)) ∙ at_another (put_object c b (returned s.0)) o q (given r.0 v) (other o r.0 r.1) ∙ at_another c b q (returned s.0) (other b s.0 s.1) ∙ there
  by_label _ h t = absurd (cc)

pub fault_stays : (p : ProgramTree) (c e : Configuration) (k : Label) → needs_no_choice k ≡ true → transition p c k ≡ Some e → (q : ℕ) (z : Object) → object_of c q ≡ Some z → z.fault ≢ None → object_of e q ≡ Some z
fault_stays p c e k h t q z there met = by_label p c e q z there met k h t
