-- The lines on the error sink that report the faults of inputs, and the usage line.
use Rattle.std.specs.Prelude.{[], ◌++◌, codes, decimal}
use Rattle.text_scan.specs.Text.{Text}
use Rattle.pool_syntax.specs.declared.token.LexFault.{LexFault}
use Rattle.pool_syntax.specs.declared.token.LexFault.TheVariants as Lex
use Rattle.expression_parser.specs.declared.fault.SyntaxFault.{SyntaxFault}
use Rattle.expression_parser.specs.declared.fault.SyntaxFault.TheVariants as Syntax
use Rattle.type_check.specs.declared.fault.ClassFault.{ClassFault}
use Rattle.type_check.specs.declared.fault.ClassFault.TheVariants as Class
use Rattle.placement_reader.specs.declared.fault.PlacementFault.{PlacementFault}
use Rattle.placement_reader.specs.declared.fault.PlacementFault.TheVariants as Place
use Rattle.schedule_reader.specs.declared.fault.ScheduleFault.{ScheduleFault}
use Rattle.schedule_reader.specs.declared.fault.ScheduleFault.TheVariants as Plan
use Rattle.run_record.specs.declared.fault.RecordFault.{RecordFault}
use Rattle.run_record.specs.declared.fault.RecordFault.TheVariants as Rec
use Rattle.command_inputs.specs.declared.fault.UnitFault.{UnitFault}
use Rattle.command_inputs.specs.declared.fault.UnitFault.TheVariants as Bad
use Rattle.command_inputs.specs.declared.fault.Input.{Input}
use Rattle.command_inputs.specs.declared.fault.Input.TheVariants as I
use Rattle.command_inputs.specs.declared.fault.Fault.{Fault}
use Rattle.command_inputs.specs.declared.fault.Fault.TheVariants as F

-- The text of a fault. A fault of the lexer has a byte, and faults of the parser and the class checker have a token. A
-- fault of a placement, a schedule or a record has a line, or a number that is too large. A fault of an object code
-- file has a byte, or the indices of a name, a class and a method. Out of memory is no fault of an input.

abbrev pub lex_fault_text : LexFault → Text
lex_fault_text (Lex.BadByte at) = codes "BadByte at byte " ++ decimal at
lex_fault_text (Lex.IntegerTooLarge at) = codes "IntegerTooLarge at byte " ++ decimal at
lex_fault_text (Lex.OpenString at) = codes "OpenString at byte " ++ decimal at
lex_fault_text (Lex.TooLong at) = codes "TooLong at byte " ++ decimal at
lex_fault_text Lex.Memory = []

abbrev pub syntax_fault_text : SyntaxFault → Text
syntax_fault_text (Syntax.Unexpected token) = codes "Unexpected at token " ++ decimal token
syntax_fault_text (Syntax.TooDeep token) = codes "TooDeep at token " ++ decimal token
syntax_fault_text Syntax.Memory = []

abbrev pub class_fault_text : ClassFault → Text
class_fault_text (Class.ClassTwice token) = codes "ClassTwice at token " ++ decimal token
class_fault_text (Class.UnknownClass token) = codes "UnknownClass at token " ++ decimal token
class_fault_text (Class.VariableTwice token) = codes "VariableTwice at token " ++ decimal token
class_fault_text (Class.MethodTwice token) = codes "MethodTwice at token " ++ decimal token
class_fault_text (Class.LocalTwice token) = codes "LocalTwice at token " ++ decimal token
class_fault_text (Class.UnknownVariable token) = codes "UnknownVariable at token " ++ decimal token
class_fault_text (Class.UnknownMethod token) = codes "UnknownMethod at token " ++ decimal token
class_fault_text (Class.ArgumentCount token) = codes "ArgumentCount at token " ++ decimal token
class_fault_text (Class.TypeDiffers token) = codes "TypeDiffers at token " ++ decimal token
class_fault_text (Class.NoResult token) = codes "NoResult at token " ++ decimal token
class_fault_text (Class.AnswerName token) = codes "AnswerName at token " ++ decimal token
class_fault_text (Class.Limit token) = codes "Limit at token " ++ decimal token
class_fault_text Class.Memory = []

abbrev pub placement_fault_text : PlacementFault → Text
placement_fault_text (Place.BadLine line) = codes "BadLine at line " ++ decimal line
placement_fault_text (Place.UnknownClass line) = codes "UnknownClass at line " ++ decimal line
placement_fault_text (Place.Repeated line) = codes "Repeated at line " ++ decimal line
placement_fault_text (Place.NoSuchNode line) = codes "NoSuchNode at line " ++ decimal line
placement_fault_text (Place.OutOfRange line) = codes "OutOfRange at line " ++ decimal line
placement_fault_text (Place.TooLarge words) = codes "TooLarge " ++ decimal words
placement_fault_text Place.Memory = []
placement_fault_text (Place.NoSuchLink line) = codes "NoSuchLink at line " ++ decimal line
placement_fault_text (Place.NoRoute from to) = codes "NoRoute " ++ decimal from ++ codes " " ++ decimal to

abbrev pub schedule_fault_text : ScheduleFault → Text
schedule_fault_text (Plan.BadLine line) = codes "BadLine at line " ++ decimal line
schedule_fault_text (Plan.NoSuchNode line) = codes "NoSuchNode at line " ++ decimal line
schedule_fault_text (Plan.NoSuchLink line) = codes "NoSuchLink at line " ++ decimal line
schedule_fault_text (Plan.OutOfRange line) = codes "OutOfRange at line " ++ decimal line
schedule_fault_text (Plan.TooManyEvents count) = codes "TooManyEvents " ++ decimal count
schedule_fault_text Plan.Memory = []

abbrev pub record_fault_text : RecordFault → Text
record_fault_text (Rec.BadLine line) = codes "BadLine at line " ++ decimal line
record_fault_text (Rec.OutOfOrder line) = codes "OutOfOrder at line " ++ decimal line
record_fault_text (Rec.WrongAsk line) = codes "WrongAsk at line " ++ decimal line
record_fault_text Rec.Memory = []

abbrev pub unit_fault_text : UnitFault → Text
unit_fault_text (Bad.BadBytes at) = codes "BadBytes at byte " ++ decimal at
unit_fault_text (Bad.NameTwice place) = codes "NameTwice " ++ decimal place
unit_fault_text (Bad.Header class) = codes "Header " ++ decimal class
unit_fault_text (Bad.Code class method) = codes "Code " ++ decimal class ++ codes " " ++ decimal method
unit_fault_text Bad.Memory = []

abbrev pub fault_text : Fault → Text
fault_text F.TooLong = codes "TooLong"
fault_text (F.Lex f) = lex_fault_text f
fault_text (F.Syntax f) = syntax_fault_text f
fault_text (F.Class f) = class_fault_text f
fault_text (F.Placement f) = placement_fault_text f
fault_text (F.Schedule f) = schedule_fault_text f
fault_text (F.Record f) = record_fault_text f
fault_text (F.Unit f) = unit_fault_text f

abbrev pub input_text : Input → Text
input_text I.Program = codes "pool: program: "
input_text I.Placement = codes "pool: placement: "
input_text I.Schedule = codes "pool: schedule: "
input_text I.Record = codes "pool: record: "
input_text I.Unit = codes "pool: unit: "

abbrev pub refusal_line : Input → Fault → Text
refusal_line input fault = input_text input ++ (fault_text fault ++ codes "\n")

abbrev pub unread_line : Input → Text
unread_line input = input_text input ++ codes "read fault\n"

abbrev pub usage_line : Text
usage_line = codes "usage: pool record|run|why P L S, pool print|code P, pool ring K, pool convert R, pool check P R, pool build P, pool load U L S\n"
