use Rattle.map_tests.proofs.making_tests.+room.Given as goal

abbrev pub decreases-room : goal.decreases-room
decreases-room l = l.most
