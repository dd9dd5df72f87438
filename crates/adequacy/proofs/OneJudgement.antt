-- An input whose text is known is read as that text, and at most one judgement holds of it.
use Rattle.std.proofs.Common.{◌≡◌, ◌≢◌, refl, sym, ap, subst, ◌∙◌, ℕ, ◌-◌, ◌^◌, ◌<◌, inl, inr, Option, Some, IfSome, Result, Err, true, false, arith}
use Rattle.pool_outside.specs.Outside.{Rose}
use Rattle.text_scan.specs.Text.{Text}
use Rattle.command_inputs.specs.declared.fault.Input.{Input}
use Rattle.command_inputs.specs.declared.fault.Input.TheVariants as I
use Rattle.command_inputs.specs.declared.fault.Fault.{Fault}
use Rattle.command_inputs.specs.declared.fault.InputError.{InputError}
use Rattle.command_inputs.specs.declared.fault.InputError.TheVariants as T
use Rattle.pool_syntax.specs.TreeOf.{program_of}
use Rattle.pool_outside.specs.Reading.{Reading, Told}
use Rattle.command_inputs.specs.Inputs.{IsReadAs, Stops, WasRead, too_long, faulty}
use Rattle.command_inputs.specs.Readers.{IsTypedProgramOf, Reads, read, refused, unread, memory}
use Rattle.command_inputs.specs.Programs.{HasTypedFault, IsTypedProgram}
use Rattle.command_inputs.specs.declared.program.Parsed.{Parsed}
use Rattle.adequacy.specs.Judgement.{Accepted, IsJudged, Judgement, Refused, AnswerOf, Unread}

pub text_is : (told : Told) (input : Input) (name t s : Text) → told name ≡ Some t → IsReadAs told input name s → s ≡ t
text_is told input name t s e h = subst (λ (o : Option Text). IfSome o (λ u. s ≡ u)) e h.0

-- a count that has room, and did not rise
not_risen : (old new : ℕ) → old < 2 ^ 64 - 1 → new ≡ old → Rose old new → ⊥
not_risen old new l e (inl h) = omega arith
not_risen old new l e (inr h) = omega arith

-- a text has one fault
abbrev pub OneFault : Type 0
OneFault = (s : Text) (f g : Fault) → HasTypedFault s f → HasTypedFault s g → f ≡ g

module _ (one : OneFault) (k : Reading) (name t : Text) (told : k.told name ≡ Some t) (room : k.faults < 2 ^ 64 - 1) where
  abbrev Stopped : Fault → Type 0
  Stopped f = Stops k I.Program name IsTypedProgram HasTypedFault f

  same_text : (r s : Text) → WasRead k I.Program name r → WasRead k I.Program name s → r ≡ s
  same_text r s h i = text_is k.told I.Program name t r told h.0 ∙ sym (text_is k.told I.Program name t s told i.0)

  not_stopped : (s : Text) (f : Fault) → WasRead k I.Program name s → IsTypedProgram s → Stopped f → ⊥
  not_stopped s f r p (too_long e l live more) = let z : false ≡ true = sym r.2 ∙ live in cc
  not_stopped s f r p (faulty u w h n) = n (subst (λ (v : Text). IsTypedProgram v) (same_text s u r w) p)

  same_stop : (f g : Fault) → Stopped f → Stopped g → f ≡ g
  same_stop f g (too_long e l live more) (too_long d m alive less) = e ∙ sym d
  same_stop f g (too_long e l live more) (faulty u w h n) = absurd (let z : false ≡ true = sym w.2 ∙ live in cc)
  same_stop f g (faulty u w h n) (too_long e l live more) = absurd (let z : false ≡ true = sym w.2 ∙ live in cc)
  same_stop f g (faulty u w h n) (faulty v x i m) = one u f g h (subst (λ (s : Text). HasTypedFault s g) (same_text v u x w) i)

  pub one_judgement : (i j : Judgement) → IsJudged k name i → IsJudged k name j → i ≡ j
  one_judgement (Accepted r) (Accepted s) h i = ap Accepted (same_text r s h.0 i.0)
  one_judgement (Accepted r) (Refused f) h i = absurd (not_stopped r f h.0 h.1 i.0)
  one_judgement (Accepted r) Unread h i = absurd (not_risen k.faults k.failed room h.2 i.0)
  one_judgement (Refused f) (Accepted s) h i = absurd (not_stopped s f i.0 i.1 h.0)
  one_judgement (Refused f) (Refused g) h i = ap Refused (same_stop f g h.0 i.0)
  one_judgement (Refused f) Unread h i = absurd (not_risen k.faults k.failed room h.1 i.0)
  one_judgement Unread (Accepted s) h i = absurd (not_risen k.faults k.failed room i.2 h.0)
  one_judgement Unread (Refused g) h i = absurd (not_risen k.faults k.failed room i.1 h.0)
  one_judgement Unread Unread h i = refl

-- what is answered tells a judgement
pub told_by : (k : Reading) (name : Text) (answer : Result Parsed InputError) → Reads k I.Program name IsTypedProgram HasTypedFault IsTypedProgramOf answer → answer ≢ Err T.Memory
    → (j : Judgement) × IsJudged k name j × AnswerOf j answer
told_by k name answer (read s a e w i c) n = (Accepted s, (w, (program_of a.program, ((a.names, i.0.parsed), i.1)), c), (a, e, i))
told_by k name answer (refused f e w c) n = (Refused f, (w, c), e)
told_by k name answer (unread e r w) n = (Unread, (r, w), e)
told_by k name answer (memory e) n = absurd (n e)
