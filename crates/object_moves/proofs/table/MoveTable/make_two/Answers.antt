use Rattle.std.proofs.Common.{◌≡◌, ◌<◌, ℕ, ap, ap₂, subst, ◌∙◌, length, slice_get, [], ◌∷◌, Some, None, refl}
use Rattle.std.specs.Option.{IfSome}
use Rattle.std.proofs.lemmas.List.Elements.{All-head, All-tail}
use Rattle.std.proofs.lemmas.Option.{get_or_from_slice_get, slice_get_within}
use Rattle.pool_semantics.specs.Mails.{posts}
use Rattle.pool_syntax.specs.TreeOf.{program_of}
use Rattle.search_states.specs.States.{states}
use Rattle.object_moves.specs.Effects.{effect_two}
use Rattle.object_moves.specs.Known.{duo_label, numbers_of_two, state_at, two_of}
use Rattle.object_moves.specs.Rows.{AreWithin}
use Rattle.object_moves.specs.declared.known.Two.TheVariants as W
use Rattle.object_moves.proofs.LeadResults.{failed_not, impossible_made, made_impossible, unknown_impossible, unknown_made}
use Rattle.object_moves.proofs.KnownFacts.{read_at}
use Rattle.object_moves.proofs.RowMoves.{duo_impossible, duo_leads, set_both_within}
use Rattle.object_moves.proofs.StateGrowth.{all_of, within_still}
use Rattle.object_moves.proofs.table.MoveTable.make_two.Goals as goal

pub returns-in-Ok-Some-Impossible-clause-impossible : goal.returns-in-Ok-Some-Impossible-clause-impossible
returns-in-Ok-Some-Impossible-clause-impossible c = λ _.
    let p = program_of c.args.self.now.program.now in
    let xs = states c.args.self.now.table in
    let ys = states c.two.new.self.table in
    let ns = c.args.numbers.now.items in
    let ms = posts c.args.messages.now.entries in
    let b = c.args.receiver in
    let o = c.args.caller in
    let a = c.args.act.now in
    let s = c.in-Some.serving.now in
    let t = c.in-Some-get.asking.now in
    let l = c.in-Some.ensures.lookup in
    let m = c.in-Some-get.ensures.lookup in
    let there : slice_get ns b ≡ Some s = read_at c.as_slice.result.now ns b s c.as_slice.ensures.value l.3.0 l.1 in
    let here : slice_get ns o ≡ Some t = read_at c.as_slice-2.result.now ns o t c.as_slice-2.ensures.value m.3.0 m.1 in
    let told = c.in-Ok-Some-Impossible in
    let is : effect_two p (duo_label b o a) (state_at xs s) (state_at xs t) ≡ None =
    subst (λ r. IfSome r (λ m. effect_two p (duo_label b o a) (state_at xs s) (state_at xs t) ≡ two_of ys m)) (told.field-0-is ∙ ap Some told.field-0-0-is) told.ensures.is
    in
    duo_impossible p xs ns ms b o a (c.waits.ensures c.if-waits.false) (slice_get_within ns b s there) (slice_get_within ns o t here)
    (ap₂ (λ n m. effect_two p (duo_label b o a) (state_at xs n) (state_at xs m)) (get_or_from_slice_get ns b s 0 there) (get_or_from_slice_get ns o t 0 here) ∙ is)

pub returns-in-Ok-Some-To-clause-within : goal.returns-in-Ok-Some-To-clause-within
returns-in-Ok-Some-To-clause-within c =
    let xs = states c.args.self.now.table in
    let ys = states c.two.new.self.table in
    let told = c.in-Ok-Some-To in
    let n = told.served in
    let m = told.asked in
    let within : AreWithin ys (numbers_of_two (W.To n m)) = subst (λ r. IfSome r (λ m. AreWithin ys (numbers_of_two m))) (told.field-0-is ∙ ap Some told.field-0-0-is) told.ensures.within in
    let P : ℕ → Type 0 = λ k. k < length ys in
    set_both_within xs ys c.args.numbers.now.items told.ensures.grows c.requires.within c.args.receiver c.args.caller n m (All-head P n (m ∷ []) within) (All-head P m [] (All-tail P n (m ∷ []) within))

pub returns-in-Ok-Some-To-clause-made : goal.returns-in-Ok-Some-To-clause-made
returns-in-Ok-Some-To-clause-made c = λ _.
    let p = program_of c.args.self.now.program.now in
    let xs = states c.args.self.now.table in
    let ys = states c.two.new.self.table in
    let ns = c.args.numbers.now.items in
    let ms = posts c.args.messages.now.entries in
    let b = c.args.receiver in
    let o = c.args.caller in
    let a = c.args.act.now in
    let s = c.in-Some.serving.now in
    let t = c.in-Some-get.asking.now in
    let l = c.in-Some.ensures.lookup in
    let m = c.in-Some-get.ensures.lookup in
    let there : slice_get ns b ≡ Some s = read_at c.as_slice.result.now ns b s c.as_slice.ensures.value l.3.0 l.1 in
    let here : slice_get ns o ≡ Some t = read_at c.as_slice-2.result.now ns o t c.as_slice-2.ensures.value m.3.0 m.1 in
    let told = c.in-Ok-Some-To in
    let n = told.served in
    let k = told.asked in
    let is : effect_two p (duo_label b o a) (state_at xs s) (state_at xs t) ≡ Some (state_at ys n, state_at ys k) =
    subst (λ r. IfSome r (λ m. effect_two p (duo_label b o a) (state_at xs s) (state_at xs t) ≡ two_of ys m)) (told.field-0-is ∙ ap Some told.field-0-0-is) told.ensures.is
    in
    let within : AreWithin ys (numbers_of_two (W.To n k)) = subst (λ r. IfSome r (λ m. AreWithin ys (numbers_of_two m))) (told.field-0-is ∙ ap Some told.field-0-0-is) told.ensures.within in
    let P : ℕ → Type 0 = λ i. i < length ys in
    duo_leads p xs ns ms ys b o n k a (c.waits.ensures c.if-waits.false) told.ensures.grows c.requires.within (slice_get_within ns b s there) (slice_get_within ns o t here) c.if-receiver-caller.false (All-head P n (k ∷ []) within)
    (All-head P k [] (All-tail P n (k ∷ []) within))
    (ap₂ (λ n m. effect_two p (duo_label b o a) (state_at xs n) (state_at xs m)) (get_or_from_slice_get ns b s 0 there) (get_or_from_slice_get ns o t 0 here) ∙ is)

pub returns-in_default-clause-grows : goal.returns-in_default-clause-grows
returns-in_default-clause-grows c = all_of (states c.args.self.now.table)

pub returns-in_default-clause-program : goal.returns-in_default-clause-program
returns-in_default-clause-program c = refl

pub returns-in_default-get-clause-grows : goal.returns-in_default-get-clause-grows
returns-in_default-get-clause-grows c = all_of (states c.args.self.now.table)

pub returns-in_default-get-clause-program : goal.returns-in_default-get-clause-program
returns-in_default-get-clause-program c = refl

pub returns-then-receiver-caller-clause-grows : goal.returns-then-receiver-caller-clause-grows
returns-then-receiver-caller-clause-grows c = all_of (states c.args.self.now.table)

pub returns-then-receiver-caller-clause-program : goal.returns-then-receiver-caller-clause-program
returns-then-receiver-caller-clause-program c = refl

pub returns-then-waits-clause-grows : goal.returns-then-waits-clause-grows
returns-then-waits-clause-grows c = all_of (states c.args.self.now.table)

pub returns-then-waits-clause-program : goal.returns-then-waits-clause-program
returns-then-waits-clause-program c = refl

pub returns-in-Err-clause-grows : goal.returns-in-Err-clause-grows
returns-in-Err-clause-grows c = c.two.ensures.grows

pub returns-in-Err-clause-program : goal.returns-in-Err-clause-program
returns-in-Err-clause-program c = c.two.ensures.program

pub returns-in-Ok-None-clause-grows : goal.returns-in-Ok-None-clause-grows
returns-in-Ok-None-clause-grows c = c.two.ensures.grows

pub returns-in-Ok-None-clause-program : goal.returns-in-Ok-None-clause-program
returns-in-Ok-None-clause-program c = c.two.ensures.program

pub returns-in-Ok-Some-Impossible-clause-grows : goal.returns-in-Ok-Some-Impossible-clause-grows
returns-in-Ok-Some-Impossible-clause-grows c = c.two.ensures.grows

pub returns-in-Ok-Some-Impossible-clause-program : goal.returns-in-Ok-Some-Impossible-clause-program
returns-in-Ok-Some-Impossible-clause-program c = c.two.ensures.program

pub returns-in-Ok-Some-To-clause-grows : goal.returns-in-Ok-Some-To-clause-grows
returns-in-Ok-Some-To-clause-grows c = c.two.ensures.grows

pub returns-in-Ok-Some-To-clause-program : goal.returns-in-Ok-Some-To-clause-program
returns-in-Ok-Some-To-clause-program c = c.two.ensures.program

pub returns-in_default-clause-within : goal.returns-in_default-clause-within
returns-in_default-clause-within c = c.requires.within

pub returns-in_default-get-clause-within : goal.returns-in_default-get-clause-within
returns-in_default-get-clause-within c = c.requires.within

pub returns-then-receiver-caller-clause-within : goal.returns-then-receiver-caller-clause-within
returns-then-receiver-caller-clause-within c = c.requires.within

pub returns-then-waits-clause-within : goal.returns-then-waits-clause-within
returns-then-waits-clause-within c = c.requires.within

pub returns-in-Ok-None-clause-within : goal.returns-in-Ok-None-clause-within
returns-in-Ok-None-clause-within c = within_still (states c.args.self.now.table) (states c.two.new.self.table) c.args.numbers.now.items c.two.ensures.grows c.requires.within

pub returns-in-Ok-Some-Impossible-clause-within : goal.returns-in-Ok-Some-Impossible-clause-within
returns-in-Ok-Some-Impossible-clause-within c = within_still (states c.args.self.now.table) (states c.two.new.self.table) c.args.numbers.now.items c.two.ensures.grows c.requires.within

pub returns-then-receiver-caller-clause-impossible : goal.returns-then-receiver-caller-clause-impossible
returns-then-receiver-caller-clause-impossible c = λ told. absurd (unknown_impossible _ refl told)

pub returns-then-receiver-caller-clause-made : goal.returns-then-receiver-caller-clause-made
returns-then-receiver-caller-clause-made c = λ told. absurd (unknown_made _ refl told)

pub returns-then-waits-clause-impossible : goal.returns-then-waits-clause-impossible
returns-then-waits-clause-impossible c = λ told. absurd (unknown_impossible _ refl told)

pub returns-then-waits-clause-made : goal.returns-then-waits-clause-made
returns-then-waits-clause-made c = λ told. absurd (unknown_made _ refl told)

pub returns-in_default-clause-impossible : goal.returns-in_default-clause-impossible
returns-in_default-clause-impossible c = λ told. absurd (unknown_impossible _ refl told)

pub returns-in_default-clause-made : goal.returns-in_default-clause-made
returns-in_default-clause-made c = λ told. absurd (unknown_made _ refl told)

pub returns-in_default-get-clause-impossible : goal.returns-in_default-get-clause-impossible
returns-in_default-get-clause-impossible c = λ told. absurd (unknown_impossible _ refl told)

pub returns-in_default-get-clause-made : goal.returns-in_default-get-clause-made
returns-in_default-get-clause-made c = λ told. absurd (unknown_made _ refl told)

pub returns-in-Ok-None-clause-impossible : goal.returns-in-Ok-None-clause-impossible
returns-in-Ok-None-clause-impossible c = λ told. absurd (unknown_impossible _ refl told)

pub returns-in-Ok-None-clause-made : goal.returns-in-Ok-None-clause-made
returns-in-Ok-None-clause-made c = λ told. absurd (unknown_made _ refl told)

pub returns-in-Ok-Some-Impossible-clause-made : goal.returns-in-Ok-Some-Impossible-clause-made
returns-in-Ok-Some-Impossible-clause-made c = λ told. absurd (impossible_made _ refl told)

pub returns-in-Ok-Some-To-clause-impossible : goal.returns-in-Ok-Some-To-clause-impossible
returns-in-Ok-Some-To-clause-impossible c = λ told. absurd (made_impossible _ refl told)

pub returns-in-Err-clause-impossible : goal.returns-in-Err-clause-impossible
returns-in-Err-clause-impossible c = λ told. absurd (failed_not _ refl told)

pub returns-in-Err-clause-made : goal.returns-in-Err-clause-made
returns-in-Err-clause-made c = λ told. absurd (failed_not _ refl told)

pub returns-in-Err-clause-within : goal.returns-in-Err-clause-within
returns-in-Err-clause-within c = tt
