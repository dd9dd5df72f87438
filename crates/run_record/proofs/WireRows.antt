-- The record of a create over a lossy wire is read; with a wrong request number it is not.
use Rattle.std.proofs.Common.{◌≡◌, refl, Some, None, codes}
use Rattle.std.specs.Fmt.{digits}
use Rattle.run_record.specs.declared.fault.RecordFault.TheVariants as fault
use Rattle.run_record.specs.Records.{record_of}

over_a_wire :
    (record_of (codes "record 2\n1 turn 0 post create 0.0 Child 1\n2 send 0 1 frame 0\n3 lose 0 1 lost 0\n4 send 0 1 frame 0\n5 twice 0 1 frame 0\n6 link 0 1 new 0.0 1.0 Child by 1\n7 link 0 1 stale 0\n8 ack 0 1 acked 1\n9 turn 1 write 1.0 7\n10 send 1 0 frame 0\n11 link 1 0 created 0.0 1.0 by 1\n12 ack 1 0 acked 1\n13 turn 0 local 0.0 1\n14 turn 0 write 0.0 1\nend quiet 14\n")).fault
    ≡ None
unfolding digits
over_a_wire = refl

-- the acknowledgements, which are two words
of_either_side : (record_of (codes "1 lose ack 0 1 lost 2\n2 twice ack 0 1 frame 0\n3 late ack 1 0 late 1\n4 late 1 0 idle\nend schedule 4\n")).fault ≡ None
unfolding digits
of_either_side = refl

-- the request of line 6 is that of line 1
wrong_number :
    (record_of (codes "record 2\n1 turn 0 post create 0.0 Child 1\n2 send 0 1 frame 0\n3 link 0 1 new 0.0 1.0 Child by 2\nend schedule 3\n")).fault ≡ Some (fault.WrongAsk 4)
unfolding digits
wrong_number = refl

-- a send has no side
no_side : (record_of (codes "1 send ack 0 1 frame 0\nend schedule 1\n")).fault ≡ Some (fault.BadLine 1)
unfolding digits
no_side = refl
