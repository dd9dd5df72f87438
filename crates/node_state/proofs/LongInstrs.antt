-- Where no long answer is: at other instructions, and after the last alternative, instruction, method and class.
use Rattle.std.proofs.Common.{◌≡◌, ℕ, zero, suc, ◌+◌, ◌≤◌, List, [], Option, Some, None, length, slice_get, refl, sym, ap, ◌∙◌, arith, add-one}
use Rattle.std.proofs.lemmas.Option.{slice_get_past}
use Rattle.run_types.specs.declared.types.NameId.{NameId}
use Rattle.code_semantics.specs.declared.unit.AltCode.{AltCode}
use Rattle.code_semantics.specs.declared.unit.ClassCode.{ClassCode}
use Rattle.code_semantics.specs.declared.unit.MethodCode.{MethodCode}
use Rattle.code_semantics.specs.declared.unit.Instr.{Instr}
use Rattle.code_semantics.specs.declared.unit.Instr.TheVariants as I
use Rattle.code_semantics.specs.declared.unit.Unit.{Unit as Code}
use Rattle.code_semantics.specs.Frames.{code_of, method_code}
use Rattle.node_state.specs.declared.long.AnswerPlace.{AnswerPlace}
use Rattle.node_state.specs.declared.long.LongAnswer.{LongAnswer}
use Rattle.node_state.specs.LongAnswers.{answered, alternative_names, only_names, names_in, instr_at, names_at, IsLongAt, AreLongOf, AreLongBefore}
use Rattle.node_state.proofs.LongPlaces.{further, none_at, past_instr, past_body, past_method, past_class, all_of}

-- ---- of one instruction

at_zero : (z : Option Instr) → names_in z 0 ≡ None
at_zero (Some (I.Answer names)) = refl
at_zero (Some (I.Select alts)) = refl
at_zero _ = refl

at_two : (names : List NameId) (alt : ℕ) → 2 ≤ alt → only_names names alt ≡ None
at_two names zero h = refl
at_two names (suc zero) h = absurd (omega arith)
at_two names (suc (suc alt)) h = refl

past_alternatives : (alts : List AltCode) (alt : ℕ) → length alts + 1 ≤ alt → alternative_names alts alt ≡ None
past_alternatives alts zero h = refl
past_alternatives alts (suc i) h = ap answered (slice_get_past alts i (omega arith))

at_other : (instr : Instr) (alt : ℕ) → ((names : List NameId) → instr ≡ I.Answer names → ⊥) → ((alts : List AltCode) → instr ≡ I.Select alts → ⊥) → names_in (Some instr) alt ≡ None
at_other (I.Answer names) alt f g = absurd (f names refl)
at_other (I.Select alts) alt f g = absurd (g alts refl)
at_other _ alt f g = refl

module _ (u : Code) where
  pub never : (p : AnswerPlace) → names_at u p ≡ None → IsLongAt u p → ⊥
  never p none long = let some : None ≡ Some long.0 = sym none ∙ long.1 in cc

  same_instr : (q p : AnswerPlace) → q.class ≡ p.class → q.method ≡ p.method → q.at ≡ p.at → instr_at u q ≡ instr_at u p
  same_instr q p s t e = λ i. slice_get (code_of (slice_get u.classes (s i)) (t i)) (e i)

  pub select_names : (p : AnswerPlace) (alts : List AltCode) (i : ℕ) → instr_at u p ≡ Some (I.Select alts) → names_at u (record p { alt = i + 1 }) ≡ answered (slice_get alts i)
  select_names p alts i at = ap (λ z. names_in z (i + 1)) at ∙ ap (alternative_names alts) (add-one i)

  module _ (p : AnswerPlace) (answers : List LongAnswer) where
    pub first : AreLongBefore u (record p { alt = 0 }) answers → AreLongBefore u (record p { alt = 1 }) answers
    first = further u (record p { alt = 0 }) (record p { alt = 1 }) answers (none_at u (record p { alt = 0 }) (never (record p { alt = 0 }) (at_zero (instr_at u p))))

    pub after_answer : (names : List NameId) → instr_at u p ≡ Some (I.Answer names) → AreLongBefore u (record p { alt = 2 }) answers → AreLongBefore u (record p { at = p.at + 1; alt = 0 }) answers
    after_answer names at = further u (record p { alt = 2 }) (record p { at = p.at + 1; alt = 0 }) answers
        (past_instr u (record p { alt = 2 }) (λ q s t e l. never q (ap (λ z. names_in z q.alt) (same_instr q p s t e ∙ at) ∙ at_two names q.alt l)))

    pub after_select : (alts : List AltCode) → instr_at u p ≡ Some (I.Select alts) → AreLongBefore u (record p { alt = length alts + 1 }) answers → AreLongBefore u (record p { at = p.at + 1; alt = 0 }) answers
    after_select alts at = further u (record p { alt = length alts + 1 }) (record p { at = p.at + 1; alt = 0 }) answers
        (past_instr u (record p { alt = length alts + 1 }) (λ q s t e l. never q (ap (λ z. names_in z q.alt) (same_instr q p s t e ∙ at) ∙ past_alternatives alts q.alt l)))

    pub after_other : (instr : Instr) → instr_at u p ≡ Some instr → ((names : List NameId) → instr ≡ I.Answer names → ⊥) → ((alts : List AltCode) → instr ≡ I.Select alts → ⊥)
        → AreLongBefore u (record p { alt = 0 }) answers → AreLongBefore u (record p { at = p.at + 1; alt = 0 }) answers
    after_other instr at f g = further u (record p { alt = 0 }) (record p { at = p.at + 1; alt = 0 }) answers
        (past_instr u (record p { alt = 0 }) (λ q s t e l. never q (ap (λ z. names_in z q.alt) (same_instr q p s t e ∙ at) ∙ at_other instr q.alt f g)))

  -- ---- after the last one

  no_instr : (q : AnswerPlace) (code : List Instr) → code_of (slice_get u.classes q.class) q.method ≡ code → length code ≤ q.at → names_at u q ≡ None
  no_instr q code is h = ap (λ z. names_in z q.alt) (ap (λ is. slice_get is q.at) is ∙ slice_get_past code q.at h)

  module _ (c : ℕ) (k : ClassCode) (at : slice_get u.classes c ≡ Some k) (answers : List LongAnswer) where
    pub after_body : AreLongBefore u (record { class = c; method = None; at = length k.body.code; alt = 0 }) answers → AreLongBefore u (record { class = c; method = Some 0; at = 0; alt = 0 }) answers
    after_body = further u (record { class = c; method = None; at = length k.body.code; alt = 0 }) (record { class = c; method = Some 0; at = 0; alt = 0 }) answers
        (past_body u c (length k.body.code) (λ q s t l. never q (no_instr q k.body.code ((λ i. code_of (slice_get u.classes (s i)) (t i)) ∙ ap (λ o. code_of o None) at) l)))

    pub after_method : (m : ℕ) (x : MethodCode) → slice_get k.methods m ≡ Some x
        → AreLongBefore u (record { class = c; method = Some m; at = length x.code; alt = 0 }) answers → AreLongBefore u (record { class = c; method = Some (m + 1); at = 0; alt = 0 }) answers
    after_method m x e = further u (record { class = c; method = Some m; at = length x.code; alt = 0 }) (record { class = c; method = Some (m + 1); at = 0; alt = 0 }) answers
        (past_method u c m (length x.code) (λ q s t l. never q (no_instr q x.code ((λ i. code_of (slice_get u.classes (s i)) (t i)) ∙ ap (λ o. code_of o (Some m)) at ∙ ap method_code e) l)))

    pub after_class : AreLongBefore u (record { class = c; method = Some (length k.methods); at = 0; alt = 0 }) answers → AreLongBefore u (record { class = c + 1; method = None; at = 0; alt = 0 }) answers
    after_class = further u (record { class = c; method = Some (length k.methods); at = 0; alt = 0 }) (record { class = c + 1; method = None; at = 0; alt = 0 }) answers
        (past_class u c (length k.methods) (λ q m s t l. never q (no_instr q [] ((λ i. code_of (slice_get u.classes (s i)) (t i)) ∙ ap (λ o. code_of o (Some m)) at ∙ ap method_code (slice_get_past k.methods m l)) (omega arith))))

  pub all_classes : (answers : List LongAnswer) → AreLongBefore u (record { class = length u.classes; method = None; at = 0; alt = 0 }) answers → AreLongOf u answers
  all_classes answers = all_of u (length u.classes) answers (λ q l. never q (no_instr q [] (ap (λ o. code_of o q.method) (slice_get_past u.classes q.class l)) (omega arith)))
