-- The search stops at a fault and at an entry with the frame's address, tag and VLAN, and passes every other.
use Rattle.std.proofs.Common.{arith}
use Rattle.streams.proofs.Bodies.{no_other}
use Rattle.streams.proofs.Walking.{at_the_start, at_the_end, crowd, stranger, too_short, outside}
use Rattle.streams.proofs.Walking.{at_match, no_match, ip_outside, at_packet, no_packet}
use Rattle.streams.proofs.table.seek.Goals as goal

-- none is passed yet
pub loop-at-init : goal.loop-at-init
loop-at-init c = at_the_start _ _ _ (λ k. omega (arith, c.type_inv.table k)) (omega arith) c.front_at-front.ensures

-- no room for an entry is left
pub returns-after-loop-at : goal.returns-after-loop-at
returns-after-loop-at c = at_the_end _ _ _ c.loop-at.invariant c.loop-at-test.false

-- the 257th entry
pub returns-then-passed-ge-MOST : goal.returns-then-passed-ge-MOST
returns-then-passed-ge-MOST c = crowd _ _ _ c.loop-at.invariant c.loop-at-test.true (omega arith)

-- kinds 1 and 2: a choice or VLAN out of range
pub returns-then-out_of_range : goal.returns-then-out_of_range
returns-then-out_of_range c = outside _ _ _ c.loop-at.invariant c.loop-at-test.true 11 (cc) (omega arith) (cc)

-- an entry that is in range, and has the frame's address, tag and VLAN
pub returns-then-allows : goal.returns-then-allows
returns-then-allows c = at_match _ _ _ c.loop-at.invariant c.loop-at-test.true (cc) (omega arith) (cc) (cc)

-- it has not
pub loop-at-preserved-in-11 : goal.loop-at-preserved-in-11
loop-at-preserved-in-11 c =
    no_match _ _ _ c.loop-at.invariant c.loop-at-test.true (cc) (omega arith) (cc) (cc) c.front_at-front-in-11.ensures

-- kind 4: a cut entry
pub returns-then-n-at-lt26 : goal.returns-then-n-at-lt26
returns-then-n-at-lt26 c = too_short _ _ _ c.loop-at.invariant c.loop-at-test.true 25 (cc) (omega arith)

-- one with a choice or VLAN out of range
pub returns-then-out_of_range-2 : goal.returns-then-out_of_range-2
returns-then-out_of_range-2 c = outside _ _ _ c.loop-at.invariant c.loop-at-test.true 25 (cc) (omega arith) (cc)

-- one with a DSCP or next protocol out of range
pub returns-then-ip_out_of_range : goal.returns-then-ip_out_of_range
returns-then-ip_out_of_range c = ip_outside _ _ _ c.loop-at.invariant c.loop-at-test.true (cc) (omega arith) (cc)

-- one that is in range, and has the frame's address, tag and VLAN
pub returns-then-allows-2 : goal.returns-then-allows-2
returns-then-allows-2 c = at_packet _ _ _ c.loop-at.invariant c.loop-at-test.true (cc) (omega arith) (omega arith) (cc) (cc) (cc)

-- it has not
pub loop-at-preserved : goal.loop-at-preserved
loop-at-preserved c =
    no_packet _ _ _ c.loop-at.invariant c.loop-at-test.true (cc) (omega arith) (omega arith) (cc) (cc) (cc) c.front_at-front-in-25.ensures

-- an octet that is no kind
pub returns-in_default : goal.returns-in_default
returns-in_default c =
    let none = no_other _ c.body_length.ensures (λ e. omega arith) (λ e. omega arith) in
    stranger _ _ _ c.loop-at.invariant c.loop-at-test.true _ c.body_length.ensures none
