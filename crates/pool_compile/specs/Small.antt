-- Programs whose counts are within the limits of the language, and code whose places are below 2^32 and whose frames
-- have at most 96 words.
use Rattle.std.specs.Prelude.{suc, ◌≤◌, ◌<◌, ◌^◌, ◌++◌, List, [], ◌∷◌, length}
use Rattle.pool_syntax.specs.Terms.{MethodTree, ClassTree, ProgramTree}
use Rattle.code_semantics.specs.declared.unit.MethodCode.{MethodCode}
use Rattle.code_semantics.specs.declared.unit.ClassCode.{ClassCode}
use Rattle.pool_compile.specs.Code.{expression_words, more, statements_words}

abbrev pub IsSmallMethod : MethodTree → Type 0
IsSmallMethod m = (length (m.params ++ m.locals) ≤ 32) × (more (statements_words m.body) (more (expression_words m.value) (suc (statements_words m.post))) ≤ 64)

abbrev pub AreSmallMethods : List MethodTree → Type 0
AreSmallMethods [] = Unit {0}
AreSmallMethods (m ∷ ms) = IsSmallMethod m × AreSmallMethods ms

abbrev pub IsSmallClass : ClassTree → Type 0
IsSmallClass k = (length k.vars ≤ 64) × (statements_words k.body ≤ 64) × AreSmallMethods k.methods

abbrev pub IsSmall : ProgramTree → Type 0
IsSmall [] = Unit {0}
IsSmall (k ∷ ks) = IsSmallClass k × IsSmall ks

abbrev pub AreShortMethods : List MethodCode → Type 0
AreShortMethods [] = Unit {0}
AreShortMethods (m ∷ ms) = (length m.code < 2 ^ 32) × AreShortMethods ms

abbrev pub IsShortClass : ClassCode → Type 0
IsShortClass k = (length k.body.code < 2 ^ 32) × AreShortMethods k.methods

abbrev pub AreShort : List ClassCode → Type 0
AreShort [] = Unit {0}
AreShort (k ∷ ks) = IsShortClass k × AreShort ks

-- a frame has at most 96 words
abbrev pub HaveSmallFrames : List MethodCode → Type 0
HaveSmallFrames [] = Unit {0}
HaveSmallFrames (m ∷ ms) = (m.frame_words ≤ 96) × HaveSmallFrames ms

abbrev pub FramesAreSmall : List ClassCode → Type 0
FramesAreSmall [] = Unit {0}
FramesAreSmall (k ∷ ks) = (k.body.frame_words ≤ 96) × HaveSmallFrames k.methods × FramesAreSmall ks
