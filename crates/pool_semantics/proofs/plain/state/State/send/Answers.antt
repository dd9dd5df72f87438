use Rattle.std.proofs.Common.{◌≡◌, ◌∙◌, ap, ap₂, refl, sym, is_some, Some, true, false}
use Rattle.std.specs.Ordering.{nat_cmp}
use Rattle.std.specs.BTreeMap.{get}
use Rattle.pool_syntax.specs.TreeOf.{program_of}
use Rattle.run_types.specs.Tables.{Pair, pair_cmp, list_at}
use Rattle.run_types.specs.Same.{are_same}
use Rattle.stepper_terms.specs.Arguments.{now_args}
use Rattle.pool_semantics.specs.Plains.{configuration}
use Rattle.object_acts.specs.Acts.{posts_act}
use Rattle.pool_semantics.proofs.PairMessages.{put_last}
use Rattle.pool_semantics.proofs.Labels.{send_refused, send_nowhere, send_made}
use Rattle.pool_semantics.proofs.plain.state.State.send.Goals as goal

pub returns-then-not-posts-clause-step : goal.returns-then-not-posts-clause-step
returns-then-not-posts-clause-step c =
    let s = c.args.self.now in
    let x = c.in-Some.posting.now in
    let h : posts_act c.in-Some.act c.args.receiver c.args.method.0 (are_same (now_args x.work.next) c.args.args) ≡ false =
    sym (c.posts.ensures ∙ ap (posts_act c.in-Some.act c.args.receiver c.args.method.0) (c.has_args.ensures ∙ ap (are_same (now_args x.work.next)) c.values.ensures)) ∙ c.if-not-posts.true in
    (send_refused (program_of s.program.now) s.objects (configuration s).messages c.args.object c.args.receiver c.args.method c.args.args x c.in-Some.act c.in-Some.ensures.some h, refl)

pub returns-then-not-contains_key-clause-step : goal.returns-then-not-contains_key-clause-step
returns-then-not-contains_key-clause-step c =
    let s = c.args.self.now in
    let h : is_some (get nat_cmp s.objects c.args.receiver) ≡ false = sym c.contains_key.ensures ∙ c.if-not-contains_key.true in
    (send_nowhere (program_of s.program.now) s.objects (configuration s).messages c.args.object c.args.receiver c.args.method c.args.args c.in-Some.posting.now c.in-Some.act c.in-Some.ensures.some h, refl)

pub returns-clause-step : goal.returns-clause-step
returns-clause-step c =
    let s = c.args.self.now in
    let x = c.in-Some.posting.now in
    let ms = (configuration s).messages in
    let o = c.args.object in
    let b = c.args.receiver in
    let d = c.in-Some.ensures.some in
    let k : Pair = (o, b) in
    let q : posts_act c.in-Some.act b c.args.method.0 (are_same (now_args x.work.next) c.args.args) ≡ true =
    sym (c.posts.ensures ∙ ap (posts_act c.in-Some.act b c.args.method.0) (c.has_args.ensures ∙ ap (are_same (now_args x.work.next)) c.values.ensures)) ∙ c.if-not-posts.false in
    let h : is_some (get nat_cmp s.objects b) ≡ true = sym c.contains_key.ensures ∙ c.if-not-contains_key.false in (
      send_made (program_of s.program.now) s.objects ms o b c.args.method c.args.args x c.in-Some.act d q h
          ∙ ap₂ (λ os ns. Some (record { objects = os; messages = ns })) (sym (c.in_ok-update.ensures.changed x d.found))
          (put_last k (list_at pair_cmp k ms) (record { method = c.args.method.0; args = c.args.args }) ms ∙ sym c.in_ok-post.ensures),
      refl,
    )
