use Rattle.std.proofs.Common.{◌≡◌, sym, ap, subst, ◌∙◌, ◌∷◌, [], rules}
use Rattle.code_semantics.specs.declared.unit.Instr.TheVariants as I
use Rattle.object_code.specs.FileBytes.{alternative_bytes, instr_bytes, list_bytes, name_bytes}
use Rattle.code_semantics.specs.Shaped.{AlternativeIsShort, InstrIsShort, IsListOf, IsShortList}
use Rattle.object_code.proofs.SequentialWrites.{each_any, meant, same}
use Rattle.object_code.proofs.file_writer.InstrItem.put_item.Goals as goal

pub returns-in-PushInt : goal.returns-in-PushInt
returns-in-PushInt g c = let e : instr_bytes (I.PushInt c.in-PushInt.value) ≡ instr_bytes c.args.self.now = ap instr_bytes (sym c.in-PushInt.is) in meant _ _ _ _ (meant _ (instr_bytes (I.PushInt c.in-PushInt.value)) _ _ c.put_long.ensures (search rules)) e

pub returns-in-PushBool : goal.returns-in-PushBool
returns-in-PushBool g c = same _ _ _ _ (ap (λ z. 2 ∷ z ∷ []) (search rules) ∙ ap instr_bytes (sym c.in-PushBool.is)) c.put.ensures

pub returns-in-Oper : goal.returns-in-Oper
returns-in-Oper g c = same _ _ _ _ (ap (λ z. 10 ∷ z ∷ []) c.operator_number.ensures ∙ ap instr_bytes (sym c.in-Oper.is)) c.put-in-Oper.ensures

pub returns-in-Answer : goal.returns-in-Answer
returns-in-Answer g c = same _ _ _ _ (ap (λ ns. 21 ∷ list_bytes name_bytes ns) c.items.ensures ∙ ap instr_bytes (sym c.in-Answer.is)) c.put_listed.ensures

pub returns-in-Select : goal.returns-in-Select
returns-in-Select g c = same _ _ _ _ (ap (λ alts. 22 ∷ list_bytes alternative_bytes alts) c.items-in-Select.ensures ∙ ap instr_bytes (sym c.in-Select.is)) c.put_listed-in-Select.ensures

pub put_listed-requires : goal.put_listed-requires
put_listed-requires g c =
    let short : IsShortList c.in-Answer.names = subst InstrIsShort c.in-Answer.is c.requires in
    subst (IsListOf (λ n. Unit {0})) (sym c.items.ensures) (short, each_any c.in-Answer.names)

pub put_listed-requires-in-Select : goal.put_listed-requires-in-Select
put_listed-requires-in-Select g c =
    let short : IsListOf AlternativeIsShort c.in-Select.alts = subst InstrIsShort c.in-Select.is c.requires in
    subst (IsListOf AlternativeIsShort) (sym c.items-in-Select.ensures) short
