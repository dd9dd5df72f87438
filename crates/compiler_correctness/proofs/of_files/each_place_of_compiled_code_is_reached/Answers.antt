use Rattle.compiler_correctness.proofs.CompileThenLoad.{grammatical_reached}
use Rattle.compiler_correctness.proofs.of_files.each_place_of_compiled_code_is_reached.Goals as goal

pub returns : goal.returns
returns c = λ names p grammatical none spelled short j k e. grammatical_reached names p grammatical none spelled short j k e
