use Rattle.compiler_correctness.proofs.CompiledFiles.{file_is_shaped}
use Rattle.compiler_correctness.proofs.CompileThenLoad.{grammatical_verified}
use Rattle.code_typing.proofs.Laws.{verified_is_good}
use Rattle.compiler_correctness.specs.DeclaredKinds.{file_of}
use Rattle.compiler_correctness.proofs.of_files.files_of_programs_are_verified.Goals as goal

pub returns-clause-shaped : goal.returns-clause-shaped
returns-clause-shaped c = λ names p. file_is_shaped names p

pub returns-clause-verified : goal.returns-clause-verified
returns-clause-verified c = λ names p m none spelled short. grammatical_verified names p m none spelled short

pub returns-clause-good : goal.returns-clause-good
returns-clause-good c = λ names p m none spelled short. verified_is_good (file_of names p) (grammatical_verified names p m none spelled short)
