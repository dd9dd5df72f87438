use Rattle.station_frames.proofs.ReadBack.{frame_read, frame_written, same_frames}
use Rattle.station_frames.proofs.theorems.encodings_are_read_back.Goals as goal

pub returns-clause-read : goal.returns-clause-read
returns-clause-read c = frame_read

pub returns-clause-written : goal.returns-clause-written
returns-clause-written c = frame_written

pub returns-clause-same : goal.returns-clause-same
returns-clause-same c = same_frames
