-- The classes, signatures and scopes of the definitions that those of the verifier represent.
use Rattle.std.specs.Prelude.{ℕ, option_map}
use Rattle.code_semantics.specs.Step.{Numbered}
use Rattle.code_typing.specs.Sorts.{CodeScope, Declared, Signature}
use Rattle.code_verifier.specs.declared.classes.Class.{Class}
use Rattle.code_verifier.specs.declared.classes.Found.{Found}
use Rattle.code_verifier.specs.declared.classes.Signature.{Signature as ASignature}
use Rattle.code_verifier.specs.declared.scope.Scope.{Scope}
use Rattle.code_typing.specs.Chained.{sort_tree}

abbrev pub place_of : Numbered → ℕ
place_of r = r.place

abbrev pub numbered : Found → Numbered
numbered r = record { place = r.place; code = r.code.now }

abbrev pub declared_of : Class → Declared
declared_of k = record { code = k.code.now; kinds = k.kinds.now }

abbrev pub signature_of : ASignature → Signature
signature_of s = record { params = s.params.now; outcome = s.result }

abbrev pub scope_of : Scope → CodeScope
scope_of g = record { file = g.classes.now.file.now; class = declared_of g.class.now; temps = g.temps.now; value = option_map sort_tree g.value }
