use Rattle.pool_outside.proofs.buffered.write_gathered.Given as goal

-- the sink behind is the one that is given, at what it has then
abbrev pub ghosts-gather : goal.ghosts-gather
ghosts-gather g a = record { name = a.out.ghost_name; start = g.K.Sink.written a.out.now }
