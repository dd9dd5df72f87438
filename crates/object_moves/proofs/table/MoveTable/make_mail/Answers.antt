use Rattle.std.proofs.Common.{◌≡◌, ◌<◌, ap, subst, ◌∙◌, length, slice_get, [], Ok, Some, None, arith, refl}
use Rattle.std.specs.Option.{IfSome}
use Rattle.std.proofs.lemmas.List.Elements.{All-head}
use Rattle.std.proofs.lemmas.Option.{get_or_from_slice_get, slice_get_within}
use Rattle.pool_semantics.specs.Mails.{posts}
use Rattle.pool_syntax.specs.TreeOf.{program_of}
use Rattle.search_states.specs.States.{states}
use Rattle.object_moves.specs.Effects.{effect_mail}
use Rattle.object_moves.specs.Known.{numbers_of_one, one_of, parcel_label, state_at}
use Rattle.object_moves.specs.Rows.{AreWithin}
use Rattle.object_moves.specs.Waiting.{IsMoved}
use Rattle.object_moves.specs.declared.known.One.TheVariants as O
use Rattle.object_moves.proofs.LeadResults.{failed_not, impossible_made, made_impossible, unknown_impossible, unknown_made}
use Rattle.object_moves.proofs.KnownFacts.{read_at}
use Rattle.object_moves.proofs.RowMail.{mail_gone, mail_impossible, mail_leads}
use Rattle.object_moves.proofs.RowMoves.{set_within}
use Rattle.object_moves.proofs.StateGrowth.{all_of, within_still}
use Rattle.object_moves.proofs.table.MoveTable.make_mail.Goals as goal

pub returns-in-Ok-Some-Impossible-clause-impossible : goal.returns-in-Ok-Some-Impossible-clause-impossible
returns-in-Ok-Some-Impossible-clause-impossible c = λ _.
    let p = program_of c.args.self.now.program.now in
    let xs = states c.args.self.now.table in
    let ys = states c.mail.new.self.table in
    let ns = c.args.numbers.now.items in
    let ms = posts c.args.messages.now.entries in
    let o = c.args.object in
    let a = c.args.act.now in
    let s = c.in-Some.state.now in
    let e = parcel_label o a in
    let l = c.in-Some.ensures.lookup in
    let there : slice_get ns o ≡ Some s = read_at c.as_slice.result.now ns o s c.as_slice.ensures.value l.3.0 l.1 in
    let told = c.in-Ok-Some-Impossible in
    let is : effect_mail p e (state_at xs s) ≡ None = subst (λ r. IfSome r (λ m. effect_mail p e (state_at xs s) ≡ one_of ys m)) (told.field-0-is ∙ ap Some told.field-0-0-is) told.ensures.is in
    mail_impossible p xs ns ms o a (slice_get_within ns o s there) (ap (λ n. effect_mail p e (state_at xs n)) (get_or_from_slice_get ns o s 0 there) ∙ is)

pub returns-in-Ok-Impossible-clause-impossible : goal.returns-in-Ok-Impossible-clause-impossible
returns-in-Ok-Impossible-clause-impossible c = λ _.
    let p = program_of c.args.self.now.program.now in
    let xs = states c.args.self.now.table in
    let ns = c.args.numbers.now.items in
    let ms = posts c.args.messages.now.entries in
    let o = c.args.object in
    let s = c.in-Some.state.now in
    let l = c.in-Some.ensures.lookup in
    let there : slice_get ns o ≡ Some s = read_at c.as_slice.result.now ns o s c.as_slice.ensures.value l.3.0 l.1 in
    mail_gone p xs ns ms o c.args.act.now (slice_get_within ns o s there) (c.in-Ok-Impossible.ensures.impossible (ap Ok c.in-Ok-Impossible.field-0-is))

pub returns-in-Ok-Made-clause-within : goal.returns-in-Ok-Made-clause-within
returns-in-Ok-Made-clause-within c =
    let xs = states c.args.self.now.table in
    let ys = states c.mail.new.self.table in
    let told = c.in-Ok-Some-To in
    let within : AreWithin ys (numbers_of_one (O.To told.to)) = subst (λ r. IfSome r (λ m. AreWithin ys (numbers_of_one m))) (told.field-0-is ∙ ap Some told.field-0-0-is) told.ensures.within in
    set_within xs ys c.args.numbers.now.items told.ensures.grows c.requires.within c.args.object told.to (All-head (λ n. n < length ys) told.to [] within)

pub returns-in-Ok-Made-clause-made : goal.returns-in-Ok-Made-clause-made
returns-in-Ok-Made-clause-made c = λ _.
    let p = program_of c.args.self.now.program.now in
    let xs = states c.args.self.now.table in
    let ys = states c.mail.new.self.table in
    let ns = c.args.numbers.now.items in
    let ms = posts c.args.messages.now.entries in
    let ks = posts c.change_messages.new.messages.entries in
    let o = c.args.object in
    let a = c.args.act.now in
    let s = c.in-Some.state.now in
    let e = parcel_label o a in
    let l = c.in-Some.ensures.lookup in
    let there : slice_get ns o ≡ Some s = read_at c.as_slice.result.now ns o s c.as_slice.ensures.value l.3.0 l.1 in
    let told = c.in-Ok-Some-To in
    let is : effect_mail p e (state_at xs s) ≡ Some (state_at ys told.to) = subst (λ r. IfSome r (λ m. effect_mail p e (state_at xs s) ≡ one_of ys m)) (told.field-0-is ∙ ap Some told.field-0-0-is) told.ensures.is in
    let count : c.len.result ≡ length ns = omega (arith, c.len.ensures, c.args.numbers.now.ok.0) in
    let moved : IsMoved (length ns) o a ms ks = subst (λ n. IsMoved n o a ms ks) count (c.in-Ok-Made.ensures.made (ap Ok c.in-Ok-Made.field-0-is)) in
    mail_leads p xs ns ms o a (slice_get_within ns o s there) ys told.to ks told.ensures.grows c.requires.within moved
    (ap (λ n. effect_mail p e (state_at xs n)) (get_or_from_slice_get ns o s 0 there) ∙ is)

pub returns-in_default-clause-grows : goal.returns-in_default-clause-grows
returns-in_default-clause-grows c = all_of (states c.args.self.now.table)

pub returns-in_default-clause-program : goal.returns-in_default-clause-program
returns-in_default-clause-program c = refl

pub returns-in-Err-clause-grows : goal.returns-in-Err-clause-grows
returns-in-Err-clause-grows c = c.mail.ensures.grows

pub returns-in-Err-clause-program : goal.returns-in-Err-clause-program
returns-in-Err-clause-program c = c.mail.ensures.program

pub returns-in-Ok-None-clause-grows : goal.returns-in-Ok-None-clause-grows
returns-in-Ok-None-clause-grows c = c.mail.ensures.grows

pub returns-in-Ok-None-clause-program : goal.returns-in-Ok-None-clause-program
returns-in-Ok-None-clause-program c = c.mail.ensures.program

pub returns-in-Ok-Some-Impossible-clause-grows : goal.returns-in-Ok-Some-Impossible-clause-grows
returns-in-Ok-Some-Impossible-clause-grows c = c.mail.ensures.grows

pub returns-in-Ok-Some-Impossible-clause-program : goal.returns-in-Ok-Some-Impossible-clause-program
returns-in-Ok-Some-Impossible-clause-program c = c.mail.ensures.program

pub returns-in-Err-change_messages-clause-grows : goal.returns-in-Err-change_messages-clause-grows
returns-in-Err-change_messages-clause-grows c = c.mail.ensures.grows

pub returns-in-Err-change_messages-clause-program : goal.returns-in-Err-change_messages-clause-program
returns-in-Err-change_messages-clause-program c = c.mail.ensures.program

pub returns-in-Ok-Impossible-clause-grows : goal.returns-in-Ok-Impossible-clause-grows
returns-in-Ok-Impossible-clause-grows c = c.mail.ensures.grows

pub returns-in-Ok-Impossible-clause-program : goal.returns-in-Ok-Impossible-clause-program
returns-in-Ok-Impossible-clause-program c = c.mail.ensures.program

pub returns-in-Ok-Made-clause-grows : goal.returns-in-Ok-Made-clause-grows
returns-in-Ok-Made-clause-grows c = c.mail.ensures.grows

pub returns-in-Ok-Made-clause-program : goal.returns-in-Ok-Made-clause-program
returns-in-Ok-Made-clause-program c = c.mail.ensures.program

pub returns-in-Ok-Unknown-clause-grows : goal.returns-in-Ok-Unknown-clause-grows
returns-in-Ok-Unknown-clause-grows c = c.mail.ensures.grows

pub returns-in-Ok-Unknown-clause-program : goal.returns-in-Ok-Unknown-clause-program
returns-in-Ok-Unknown-clause-program c = c.mail.ensures.program

pub returns-in_default-clause-within : goal.returns-in_default-clause-within
returns-in_default-clause-within c = c.requires.within

pub returns-in-Ok-None-clause-within : goal.returns-in-Ok-None-clause-within
returns-in-Ok-None-clause-within c = within_still (states c.args.self.now.table) (states c.mail.new.self.table) c.args.numbers.now.items c.mail.ensures.grows c.requires.within

pub returns-in-Ok-Some-Impossible-clause-within : goal.returns-in-Ok-Some-Impossible-clause-within
returns-in-Ok-Some-Impossible-clause-within c = within_still (states c.args.self.now.table) (states c.mail.new.self.table) c.args.numbers.now.items c.mail.ensures.grows c.requires.within

pub returns-in-Ok-Impossible-clause-within : goal.returns-in-Ok-Impossible-clause-within
returns-in-Ok-Impossible-clause-within c = within_still (states c.args.self.now.table) (states c.mail.new.self.table) c.args.numbers.now.items c.mail.ensures.grows c.requires.within

pub returns-in-Ok-Unknown-clause-within : goal.returns-in-Ok-Unknown-clause-within
returns-in-Ok-Unknown-clause-within c = within_still (states c.args.self.now.table) (states c.mail.new.self.table) c.args.numbers.now.items c.mail.ensures.grows c.requires.within

pub returns-in_default-clause-impossible : goal.returns-in_default-clause-impossible
returns-in_default-clause-impossible c = λ told. absurd (unknown_impossible _ refl told)

pub returns-in_default-clause-made : goal.returns-in_default-clause-made
returns-in_default-clause-made c = λ told. absurd (unknown_made _ refl told)

pub returns-in-Ok-None-clause-impossible : goal.returns-in-Ok-None-clause-impossible
returns-in-Ok-None-clause-impossible c = λ told. absurd (unknown_impossible _ refl told)

pub returns-in-Ok-None-clause-made : goal.returns-in-Ok-None-clause-made
returns-in-Ok-None-clause-made c = λ told. absurd (unknown_made _ refl told)

pub returns-in-Ok-Unknown-clause-impossible : goal.returns-in-Ok-Unknown-clause-impossible
returns-in-Ok-Unknown-clause-impossible c = λ told. absurd (unknown_impossible _ refl told)

pub returns-in-Ok-Unknown-clause-made : goal.returns-in-Ok-Unknown-clause-made
returns-in-Ok-Unknown-clause-made c = λ told. absurd (unknown_made _ refl told)

pub returns-in-Ok-Some-Impossible-clause-made : goal.returns-in-Ok-Some-Impossible-clause-made
returns-in-Ok-Some-Impossible-clause-made c = λ told. absurd (impossible_made _ refl told)

pub returns-in-Ok-Impossible-clause-made : goal.returns-in-Ok-Impossible-clause-made
returns-in-Ok-Impossible-clause-made c = λ told. absurd (impossible_made _ refl told)

pub returns-in-Ok-Made-clause-impossible : goal.returns-in-Ok-Made-clause-impossible
returns-in-Ok-Made-clause-impossible c = λ told. absurd (made_impossible _ refl told)

pub returns-in-Err-clause-impossible : goal.returns-in-Err-clause-impossible
returns-in-Err-clause-impossible c = λ told. absurd (failed_not _ refl told)

pub returns-in-Err-clause-made : goal.returns-in-Err-clause-made
returns-in-Err-clause-made c = λ told. absurd (failed_not _ refl told)

pub returns-in-Err-clause-within : goal.returns-in-Err-clause-within
returns-in-Err-clause-within c = tt

pub returns-in-Err-change_messages-clause-impossible : goal.returns-in-Err-change_messages-clause-impossible
returns-in-Err-change_messages-clause-impossible c = λ told. absurd (failed_not _ refl told)

pub returns-in-Err-change_messages-clause-made : goal.returns-in-Err-change_messages-clause-made
returns-in-Err-change_messages-clause-made c = λ told. absurd (failed_not _ refl told)

pub returns-in-Err-change_messages-clause-within : goal.returns-in-Err-change_messages-clause-within
returns-in-Err-change_messages-clause-within c = tt
