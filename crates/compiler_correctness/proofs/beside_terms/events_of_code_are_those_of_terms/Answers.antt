use Rattle.mesh_semantics.proofs.Laws.{act_same, quiet_same}
use Rattle.mesh_of_terms.specs.Terms.{terms}
use Rattle.mesh_of_terms.specs.RunOf.{TypedTerms}
use Rattle.mesh_of_terms.proofs.Laws.{lawful}
use Rattle.mesh_of_code.specs.Coded.{coded}
use Rattle.compiler_correctness.specs.Matches.{Matches}
use Rattle.compiler_correctness.proofs.Records.{code_simulates}
use Rattle.compiler_correctness.proofs.beside_terms.events_of_code_are_those_of_terms.Goals as goal

pub returns-clause-acts : goal.returns-clause-acts
returns-clause-acts r = λ p u l q c e d ev checked unit w z.
    act_same (terms p) (coded u) (TypedTerms p) (Matches p u) (code_simulates p u checked unit) (lawful p checked.faultless checked.written).kept c e w z l q d ev

pub returns-clause-quiet : goal.returns-clause-quiet
returns-clause-quiet r = λ p u c e d checked unit z.
    quiet_same (terms p) (coded u) (TypedTerms p) (Matches p u) (code_simulates p u checked unit) (lawful p checked.faultless checked.written).kept c e d z
