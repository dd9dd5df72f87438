use Rattle.station_text.proofs.PiecesRead.{piece_read}
use Rattle.station_text.proofs.theorems.pieces_are_read_back.Goals as goal

pub returns : goal.returns
returns c = piece_read
