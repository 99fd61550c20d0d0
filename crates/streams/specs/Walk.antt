-- What the inner functions of a check and a lookup promise each other. The promises of the two calls (`Table`) say nothing of it, and so
-- whoever calls them need not read it. Assumes nothing.
use Rattle.std.specs.Prelude.{ℕ, ◌+◌, ◌-◌, ◌≤◌, ◌<◌, ◌≡◌, cond, List, [], ◌∷◌, length, take, drop, ltb, Option, Some, None, Result}
use Rattle.octets.specs.Number.{be16, be64}
use Rattle.octets.specs.declared.Refusal.{Refusal}
use Rattle.octets.specs.declared.Refusal.TheVariants.{EntryCut, EntryRange}
use Rattle.octets.specs.Checks.{◌⇒◌, Verdict, verdict, answered}
use Rattle.frame.specs.declared.Header.{Header}
use Rattle.entry.specs.Contents.{unfit}
use Rattle.entry.specs.Ip.{ip_allows}
use Rattle.streams.specs.declared.table.Place.{Place}
use Rattle.streams.specs.declared.table.Sought.{Sought}
use Rattle.streams.specs.declared.table.Sought.TheVariants.{Match, Packet, Rest}
use Rattle.streams.specs.Table.{entries, table_checks, first_match}

-- the place of the first entry, and the place behind an entry with a body of that length
abbrev pub start : Place
start = record { at = 0; passed = 0 }

abbrev pub behind : Place → (body : ℕ) → Place
behind place body = record { at = place.at + (1 + body); passed = place.passed + 1 }

-- `checked_entry`: of an entry of so many octets, "cut", and "choice or VLAN out of range"
unfoldable pub entry_verdict : List ℕ → (at octets : ℕ) → Verdict
entry_verdict t at octets = verdict (ltb (length t - at) octets ⇒ EntryCut ∷ unfit (take octets (drop at t)) ⇒ EntryRange ∷ [])

-- `checked`: the verdict on the entries from a place on
unfoldable pub verdict_from : List ℕ → Place → Verdict
verdict_from t place = verdict (table_checks place.passed (entries (drop place.at t)))

-- a walk from a place on (`walk`: from the first entry): the refusal of the entries there, or else the first match
unfoldable pub walked : List ℕ → Header → List ℕ → Place → Result (Option ℕ) Refusal
walked t h p place = answered (verdict_from t place) (first_match (entries (drop place.at t)) h p)

-- `matched`, at an entry that matches, with a body of that length: its stream, or else the refusal of those behind it
unfoldable pub matched_at : List ℕ → Place → (body : ℕ) → Result (Option ℕ) Refusal
matched_at t place body = answered (verdict_from t (behind place body)) (Some (be16 t (place.at + (body - 1))))

-- `among_packets`, from an entry of kind 4 on that has the frame's address, tag and VLAN: the packet decides
unfoldable pub packet_at : List ℕ → Header → List ℕ → Place → Result (Option ℕ) Refusal
packet_at t h p place =
    cond (ip_allows (take 26 (drop place.at t)) h.kind p) (matched_at t place 25) (walked t h p (behind place 25))

-- `seek`: what comes of it where it stops
abbrev pub comes_to : List ℕ → Header → List ℕ → Sought → Result (Option ℕ) Refusal
comes_to t h p (Match place) = matched_at t place 11
comes_to t h p (Packet place) = packet_at t h p place
comes_to t h p (Rest place) = answered (verdict_from t place) None

-- the octets of an entry with a body of that length are there, the body is not empty, and the entry is not the 257th
pub record There (t : List ℕ) (place : Place) (body : ℕ) : Type 0 where
  pub some : 1 ≤ body
  pub there : place.at + (1 + body) ≤ length t
  pub few : place.passed < 256

-- where it stops at an entry that is so; one of kind 4 is not before where it began, so that a loop over them ends
abbrev pub Stops : List ℕ → (from : Place) → Sought → Type 0
Stops t from (Match place) = There t place 11
Stops t from (Packet place) = (from.at ≤ place.at) × There t place 25
Stops t from (Rest place) = Unit {0}

-- whatever the payload, what comes of it is what a walk from where it began comes to
pub record Seeks (t : List ℕ) (h : Header) (from : Place) (r : Sought) : Type 0 where
  pub comes : (p : List ℕ) → comes_to t h p r ≡ walked t h p from
  pub stops : Stops t from r

-- `front_at`: the first eight octets of an entry as one number, where there is room for the shortest one
unfoldable pub front_at : List ℕ → ℕ → ℕ
front_at t at = cond (ltb (length t - at) 12) 0 (be64 t at)
