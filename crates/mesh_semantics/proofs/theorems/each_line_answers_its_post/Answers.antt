use Rattle.run_types.specs.GivenProperties.{IsGiven}
use Rattle.mesh_semantics.proofs.PlacementFit.{fit_of}
use Rattle.mesh_semantics.proofs.AnsweredPosts.{each_answers_post, each_answers_post_on_wires}
use Rattle.mesh_semantics.proofs.theorems.each_line_answers_its_post.Goals as goal

pub returns-clause-answers : goal.returns-clause-answers
returns-clause-answers g c = λ h kept l q k es law waits fit begins s. each_answers_post h (IsGiven kept) law waits l (fit_of h l fit) q es k begins s

pub returns-clause-on_wires : goal.returns-clause-on_wires
returns-clause-on_wires g c = λ h kept l q k es law waits fit begins s. each_answers_post_on_wires h (IsGiven kept) law waits l (fit_of h l fit) q es k begins s
