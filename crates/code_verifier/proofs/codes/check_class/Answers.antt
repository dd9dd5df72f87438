use Rattle.code_verifier.specs.Scopes.{declared_of}
use Rattle.code_verifier.proofs.CombinedVerdicts.{class_first, class_then}
use Rattle.code_verifier.proofs.codes.check_class.Goals as goal

pub returns-in-Ok : goal.returns-in-Ok
returns-in-Ok c = class_then c.args.classes.now.file.now c.args.place (declared_of c.args.class.now) _ c.check_body.result c.in-Ok.ensures c.check_body.ensures

pub returns-in-Err : goal.returns-in-Err
returns-in-Err c = class_first c.args.classes.now.file.now c.args.place (declared_of c.args.class.now) c.in-Err.fault c.in-Err.ensures
