use Rattle.std.proofs.Common.{◌-◌, ◌≡◌, length, drop}
use Rattle.streams.specs.Walk.{packet_at, There}
use Rattle.streams.proofs.table.among_packets.Given as goal

-- what comes of the entry at `at` comes of the first one
abbrev pub invariant-loop-payload : goal.invariant-loop-payload
invariant-loop-payload l =
    There l.table l.place 25
    × (packet_at l.table l.h (drop l.h.payload l.frame) l.place ≡ packet_at l.table l.h (drop l.h.payload l.frame) l.fn.from)

-- what is left of the table
abbrev pub decreases-loop-payload : goal.decreases-loop-payload
decreases-loop-payload l = length l.table - l.place.at
