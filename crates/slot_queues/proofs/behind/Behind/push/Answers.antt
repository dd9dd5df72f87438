use Rattle.std.proofs.Common.{◌≡◌, [], ◌∷◌, ◌++◌, IsErr, ap, subst, arith}
use Rattle.slot_queues.specs.Mail.{Mail, box_of, with_box, lengths}
use Rattle.slot_queues.specs.declared.Message.{Message}
use Rattle.slot_queues.proofs.Counts.{count_fits, counts_posted, on_ok}
use Rattle.slot_queues.proofs.behind.Behind.push.Goals as goal

pub overflow_add-index_mut : goal.overflow_add-index_mut
overflow_add-index_mut c =
    let i = c.self.inside in let q = i.queues in record { fits = count_fits i.counts.items q c.args.to c.index_mut.result.now c.self.invariant c.args.self.now c.self.view_is c.requires.slot c.index_mut.ensures.value c.post.new.self c.requires.room c.count-count.ensures.small }

pub invariant_of-self : goal.invariant_of-self
invariant_of-self c =
    let i = c.self.inside in let q = i.queues in let no : IsErr c.post.result → ⊥ = λ f. omega (arith, c.post.ensures.full.0 f, c.requires.room, ap (λ (z : Mail Message). lengths z.boxes) c.self.view_is, ap (λ (z : Mail Message). z.cells) c.self.view_is) in let e = on_ok c.post.result _ no c.post.ensures.ok in counts_posted i.counts.items q c.args.to c.index_mut.result.now c.self.invariant c.args.self.now c.self.view_is c.requires.slot c.index_mut.ensures.value c.post.new.self c.args.message e

pub returns-then-is_ok : goal.returns-then-is_ok
returns-then-is_ok c =
    let i = c.self.inside in let q = i.queues in let no : IsErr c.post.result → ⊥ = λ f. omega (arith, c.post.ensures.full.0 f, c.requires.room, ap (λ (z : Mail Message). lengths z.boxes) c.self.view_is, ap (λ (z : Mail Message). z.cells) c.self.view_is) in let e = on_ok c.post.result _ no c.post.ensures.ok in subst (λ (z : Mail Message). c.post.new.self ≡ with_box z c.args.to (box_of z c.args.to ++ c.args.message ∷ [])) c.self.view_is e

pub returns-else-is_ok : goal.returns-else-is_ok
returns-else-is_ok c =
    let i = c.self.inside in let q = i.queues in let no : IsErr c.post.result → ⊥ = λ f. omega (arith, c.post.ensures.full.0 f, c.requires.room, ap (λ (z : Mail Message). lengths z.boxes) c.self.view_is, ap (λ (z : Mail Message). z.cells) c.self.view_is) in let e = on_ok c.post.result _ no c.post.ensures.ok in subst (λ (z : Mail Message). c.post.new.self ≡ with_box z c.args.to (box_of z c.args.to ++ c.args.message ∷ [])) c.self.view_is e
