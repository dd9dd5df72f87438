-- The listing of a unit: a line for each class, method and body, and for each instruction.
use Rattle.std.specs.Prelude.{ℕ, suc, List, [], ◌∷◌, ◌++◌, Option, Some, None, codes, decimal}
use Rattle.std.specs.Fmt.{signed_decimal}
use Rattle.run_types.specs.Table.{text_at}
use Rattle.text_scan.specs.Text.{Text, truth_text}
use Rattle.run_types.specs.declared.types.NameId.{NameId}
use Rattle.run_types.specs.declared.types.Op.{Op}
use Rattle.run_types.specs.declared.types.Op.TheVariants as O
use Rattle.code_semantics.specs.declared.unit.Instr.{Instr}
use Rattle.code_semantics.specs.declared.unit.Instr.TheVariants as I
use Rattle.code_semantics.specs.declared.unit.AltCode.{AltCode}
use Rattle.code_semantics.specs.declared.unit.BodyCode.{BodyCode}
use Rattle.code_semantics.specs.declared.unit.MethodCode.{MethodCode}
use Rattle.code_semantics.specs.declared.unit.ClassCode.{ClassCode}
use Rattle.code_semantics.specs.declared.unit.Unit.{Unit as Code}

-- a word after a space
abbrev pub word_text : Text → Text
word_text t = codes " " ++ t

abbrev pub number_text : ℕ → Text
number_text n = word_text (decimal n)

abbrev pub operator_text : Op → Text
operator_text O.Add = codes "+"
operator_text O.Sub = codes "-"
operator_text O.Mul = codes "*"
operator_text O.Div = codes "/"
operator_text O.Rem = codes "%"
operator_text O.Neg = codes "neg"
operator_text O.Less = codes "<"
operator_text O.LessEq = codes "<="
operator_text O.More = codes ">"
operator_text O.MoreEq = codes ">="
operator_text O.Same = codes "=="
operator_text O.Differs = codes "!="
operator_text O.And = codes "and"
operator_text O.Or = codes "or"
operator_text O.Not = codes "not"

-- the name of an instruction
abbrev pub mnemonic_text : Instr → Text
mnemonic_text (I.PushInt z) = codes "PushInt"
mnemonic_text (I.PushBool b) = codes "PushBool"
mnemonic_text I.PushNil = codes "PushNil"
mnemonic_text (I.Jump a) = codes "Jump"
mnemonic_text (I.LoadI n) = codes "LoadI"
mnemonic_text (I.LoadT n) = codes "LoadT"
mnemonic_text I.SelfRef = codes "SelfRef"
mnemonic_text (I.StoreI n) = codes "StoreI"
mnemonic_text (I.StoreT n) = codes "StoreT"
mnemonic_text (I.Oper op) = codes "Oper"
mnemonic_text I.Pop = codes "Pop"
mnemonic_text (I.Branch a) = codes "Branch"
mnemonic_text I.Loop = codes "Loop"
mnemonic_text (I.Call m) = codes "Call"
mnemonic_text I.Ret = codes "Ret"
mnemonic_text (I.New c) = codes "New"
mnemonic_text (I.Send m n) = codes "Send"
mnemonic_text (I.Async m n) = codes "Async"
mnemonic_text I.Write = codes "Write"
mnemonic_text (I.WriteText s) = codes "WriteText"
mnemonic_text (I.Answer ns) = codes "Answer"
mnemonic_text (I.Select alts) = codes "Select"
mnemonic_text I.Halt = codes "Halt"
mnemonic_text I.Post = codes "Post"

module _ (names : List Text) where
  abbrev pub name_text : NameId → Text
  name_text n = word_text (text_at names n.0)

  abbrev pub quoted_text : NameId → Text
  quoted_text s = word_text (codes "\"" ++ (text_at names s.0 ++ codes "\""))

  -- each name after a space
  abbrev pub spaced_text : List NameId → Text
  spaced_text [] = []
  spaced_text (n ∷ ns) = name_text n ++ spaced_text ns

  -- each name after a comma
  abbrev pub led_by_commas : List NameId → Text
  led_by_commas [] = []
  led_by_commas (n ∷ ns) = (codes "," ++ text_at names n.0) ++ led_by_commas ns

  -- names, separated by commas
  abbrev pub joined_text : List NameId → Text
  joined_text [] = []
  joined_text (n ∷ ns) = text_at names n.0 ++ led_by_commas ns

  -- the names of an answering alternative; a plain one has none
  abbrev pub answer_text : Option (List NameId) → Text
  answer_text None = []
  answer_text (Some ns) = joined_text ns

  abbrev pub alternative_text : AltCode → Text
  alternative_text a = codes " " ++ (answer_text a.answer ++ (codes "@" ++ decimal a.at))

  abbrev pub alternatives_text : List AltCode → Text
  alternatives_text [] = []
  alternatives_text (a ∷ alts) = alternative_text a ++ alternatives_text alts

  -- the operands of an instruction, each after a space
  abbrev pub operands_text : Instr → Text
  operands_text (I.PushInt z) = word_text (signed_decimal z)
  operands_text (I.PushBool b) = word_text (truth_text b)
  operands_text I.PushNil = []
  operands_text (I.Jump a) = number_text a
  operands_text (I.LoadI n) = number_text n
  operands_text (I.LoadT n) = number_text n
  operands_text I.SelfRef = []
  operands_text (I.StoreI n) = number_text n
  operands_text (I.StoreT n) = number_text n
  operands_text (I.Oper op) = word_text (operator_text op)
  operands_text I.Pop = []
  operands_text (I.Branch a) = number_text a
  operands_text I.Loop = []
  operands_text (I.Call m) = name_text m
  operands_text I.Ret = []
  operands_text (I.New c) = name_text c
  operands_text (I.Send m n) = name_text m ++ number_text n
  operands_text (I.Async m n) = name_text m ++ number_text n
  operands_text I.Write = []
  operands_text (I.WriteText s) = quoted_text s
  operands_text (I.Answer ns) = spaced_text ns
  operands_text (I.Select alts) = alternatives_text alts
  operands_text I.Halt = []
  operands_text I.Post = []

  -- the line of an instruction at a place
  abbrev pub line_text : ℕ → Instr → Text
  line_text at i = decimal at ++ (word_text (mnemonic_text i) ++ (operands_text i ++ codes "\n"))

  -- the lines of instructions from this place on
  abbrev pub lines_text : ℕ → List Instr → Text
  lines_text at [] = []
  lines_text at (i ∷ is) = line_text at i ++ lines_text (suc at) is

  abbrev pub method_text : MethodCode → Text
  method_text m = codes "method" ++ (name_text m.name ++ (number_text m.temps ++ (number_text m.frame_words ++ (codes "\n" ++ lines_text 0 m.code))))

  abbrev pub methods_text : List MethodCode → Text
  methods_text [] = []
  methods_text (m ∷ ms) = method_text m ++ methods_text ms

  abbrev pub body_text : BodyCode → Text
  body_text b = codes "body" ++ (number_text b.frame_words ++ (codes "\n" ++ lines_text 0 b.code))

  abbrev pub class_text : ClassCode → Text
  class_text k = codes "class" ++ (name_text k.name ++ (number_text k.vars ++ (codes "\n" ++ (methods_text k.methods ++ body_text k.body))))

  abbrev pub classes_text : List ClassCode → Text
  classes_text [] = []
  classes_text (k ∷ ks) = class_text k ++ classes_text ks

-- the listing of a unit
abbrev pub listing : Code → Text
listing u = classes_text u.names u.classes
