-- The lemmas that other crates cite: the laws of code of a proper unit as a language of objects, of its start, and of the names in its lines.
pub use Rattle.mesh_of_code.proofs.TransitionInvariant.{code_lawful, each_left}
pub use Rattle.mesh_of_code.proofs.Callers.{code_requests, code_keeps, code_serves}
pub use Rattle.mesh_of_code.proofs.ValueNamesExist.{code_names}
pub use Rattle.mesh_of_code.proofs.StartOfCode.{start_of_code, start_there, root_rests, code_makes, code_fits, code_start_sound}
pub use Rattle.mesh_of_code.proofs.Configs.{map_object, object_stays, IsMessageOf}
pub use Rattle.mesh_of_code.proofs.NamesInTable.{name_of, object_named, kind_named}
pub use Rattle.mesh_of_code.proofs.KnownLines.{acts_known, lines_known, record_known, each_line_known}
-- values that code makes, what labels name, and what the line of each event tells
pub use Rattle.mesh_of_code.proofs.MadeValueInvariant.{made_lawful, label_made, call_made, class_made}
pub use Rattle.mesh_of_code.proofs.SoundStart.{made_start_sound}
pub use Rattle.mesh_of_code.proofs.LabelParts.{label_there, call_names}
pub use Rattle.mesh_of_code.proofs.EventLines.{DueHas, IsBackedLine, act_told}
pub use Rattle.mesh_of_code.proofs.WireNumbers.{HandsAtMost, ActHands, act_hands}
-- whom frames serve, through the steps of an object
pub use Rattle.mesh_of_code.proofs.ServedCallers.{HasEvidence, within_serves, choice_serves, rest_tells, given_tells, stepped_tells, done_tells, picked_tells, serving_tells}
pub use Rattle.mesh_of_code.proofs.Callers.{outcome_no_return, branch_no_return, send_no_return, async_no_return, select_no_return}
pub use Rattle.mesh_of_code.proofs.Inversions.{makes_class, new_at}
pub use Rattle.mesh_of_code.proofs.LawfulCode.{first_there}
pub use Rattle.mesh_of_code.proofs.KindFromTest.{new_is, send_is, Chooses, local_is, async_is, return_is, wait_is, write_is, offered_is, pick_is, fault_is}
pub use Rattle.mesh_of_code.proofs.Methods.{number_of_named}
pub use Rattle.mesh_of_code.proofs.LabelThere.{LabelThere}
pub use Rattle.mesh_of_code.proofs.MadeLabels.{IsNamedIn, IsMadeMessage, HasMade, IsMadeValue, AreMadeArgs, IsMadeItem, IsMadeLabel}
pub use Rattle.mesh_of_code.proofs.LineEvidence.{IsBurst, HasSender, HasMessage, IsAtCall, IsWireNumber, HasEvidence as EvidenceOfLine}
