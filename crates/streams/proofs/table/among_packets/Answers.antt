-- The packet decides at each entry that asks for one.
use Rattle.std.proofs.Common.{◌≡◌, ℕ, ◌+◌, ◌-◌, Bool, true, false, List, length, take, drop, sym, ◌∙◌, arith, Result}
use Rattle.octets.proofs.Parts.{to_end}
use Rattle.frame.specs.declared.Header.{Header}
use Rattle.ipv4.specs.declared.Header as ip
use Rattle.ipv4.specs.declared.Unread.{Unread}
use Rattle.entry.specs.Ip.{fits_as, ip_allows, packet_of}
use Rattle.entry.proofs.Packet.{read_once}
use Rattle.streams.specs.declared.table.Place.{Place}
use Rattle.streams.specs.Walk.{behind, walked, matched_at, packet_at}
use Rattle.streams.proofs.table.among_packets.Goals as goal

-- the entry at a place and the payload, as the code lends them, with the packet that was read and what the entry says of it
module _ (t o : List ℕ) (h : Header) (place : Place) {packet : Result ip.Header Unread} {r : Bool}
    (read : packet ≡ packet_of h.kind (take (length o - h.payload) (drop h.payload o)))
    (says : r ≡ fits_as (take (place.at + 26 - place.at) (drop place.at t)) packet (take (length o - h.payload) (drop h.payload o)))
  where
    fits : ip_allows (take 26 (drop place.at t)) h.kind (drop h.payload o) ≡ r
    fits =
        let m : place.at + 26 - place.at ≡ 26 = omega arith in
        sym (read_once (take 26 (drop place.at t)) h.kind (drop h.payload o)) ∙ sym (rw (read, m, to_end h.payload o) at says)

    takes-it : r ≡ true → matched_at t place 25 ≡ packet_at t h (drop h.payload o) place
    unfolding packet_at
    takes-it e = simp (fits, e)

    passes-it : r ≡ false → {next : Place} → next ≡ behind place 25
        → walked t h (drop h.payload o) next ≡ packet_at t h (drop h.payload o) place
    unfolding packet_at
    passes-it e n = simp (fits, e, n)

-- the packet is the one that the entry asks for
pub returns-then-ip_allows : goal.returns-then-ip_allows
returns-then-ip_allows c =
    let it = takes-it c.args.table.now _ _ _ c.packet_of-packet.ensures c.ip_allows.ensures c.if-ip_allows.true in
    c.matched.ensures ∙ it ∙ c.loop-payload.invariant.1

-- it is not, and the walk goes on behind the entry: to one of kind 1 or 2
pub returns-in-Match : goal.returns-in-Match
returns-in-Match c =
    let it = passes-it c.args.table.now _ _ _ c.packet_of-packet.ensures c.ip_allows.ensures c.if-ip_allows.false c.behind.ensures in
    c.matched-in-Match.ensures ∙ c.in-Match.ensures.comes _ ∙ it ∙ c.loop-payload.invariant.1

-- to another of kind 4
pub loop-payload-preserved : goal.loop-payload-preserved
loop-payload-preserved c =
    let it = passes-it c.args.table.now _ _ _ c.packet_of-packet.ensures c.ip_allows.ensures c.if-ip_allows.false c.behind.ensures in
    (c.in-Packet.ensures.stops.1, c.in-Packet.ensures.comes _ ∙ it ∙ c.loop-payload.invariant.1)

-- to a fault, or the end
pub returns-in-Rest : goal.returns-in-Rest
returns-in-Rest c =
    let it = passes-it c.args.table.now _ _ _ c.packet_of-packet.ensures c.ip_allows.ensures c.if-ip_allows.false c.behind.ensures in
    c.settled.ensures ∙ c.in-Rest.ensures.comes _ ∙ it ∙ c.loop-payload.invariant.1
