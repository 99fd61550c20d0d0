-- "Both sides of each edge" (document 01): the cases with a star, "proved together, as one statement over one list, from the written
-- rules". The statement is `Starred`, which proofs/Starred proves. Assumes nothing.
use Rattle.std.specs.Prelude.{ℕ, ◌≡◌, List, [], ◌∷◌, map, Result, Ok}
use Rattle.octets.specs.declared.Refusal.{Refusal}
use Rattle.encoding.specs.declared.Encoding.{Encoding}
use Rattle.encoding.specs.declared.Encoding.TheVariants.{RTag, Hsr, Prp}
use Rattle.encoding.specs.Encodings.{six}
use Rattle.setup.specs.declared.Setup.{Setup}
use Rattle.setup.specs.Values.{setup_of}
use Rattle.setup.specs.Conversion.{ticks_of}
use Rattle.recovery.specs.declared.State.{State}
use Rattle.recovery.specs.declared.Packet.TheVariants.{Numbered}
use Rattle.recovery.specs.declared.Verdict.{Verdict}
use Rattle.recovery.specs.declared.Verdict.TheVariants.{Pass, Discard}
use Rattle.recovery.specs.Resets.{fresh_state}
use Rattle.recovery.specs.Packets.{packet_of}

-- what is asked: packets from a fresh state, by rule (0 vector, 1 match) and history length; ticks of milliseconds at ticks per second;
-- the six octets of an encoding for a number, an id and a size
pub data Asked : Type 0 where
  hear : (rule history : ℕ) → List ℕ → Asked
  ticks : (ms per_second : ℕ) → Asked
  six_octets : Encoding → (number id size : ℕ) → Asked

-- what is answered: the verdicts, with order and rogue after the last; a number; octets
pub data Answer : Type 0 where
  heard_as : List (Result Verdict Refusal) → (order rogue : ℕ) → Answer
  number : ℕ → Answer
  octets : List ℕ → Answer

pub record Case : Type 0 where
  pub asked : Asked
  pub said : Answer

-- sequence use, 100 ms at 100 ticks per second, two paths, difference 1
abbrev pub setup : ℕ → ℕ → Setup
setup rule history = setup_of rule 0 0 history 100 100 2 1

abbrev pub verdicts : State → List ℕ → List (Result Verdict Refusal)
verdicts s [] = []
verdicts s (n ∷ ns) = (packet_of s (Numbered n)).answer ∷ verdicts (packet_of s (Numbered n)).state ns

abbrev pub after : State → List ℕ → State
after s [] = s
after s (n ∷ ns) = after (packet_of s (Numbered n)).state ns

abbrev pub answer : Asked → Answer
answer (hear rule history ns) =
    let s = fresh_state (setup rule history) in
    heard_as (verdicts s ns) (after s ns).counters.order (after s ns).counters.rogue
answer (ticks ms per_second) = number (ticks_of (record { 0 = ms }) per_second).0
answer (six_octets e n id size) = octets (six e n id size)

unfoldable pub cases : List Case
cases =
    -- "Fresh, 10: pass"; "H 4, newest 10: 13 passes; 14 is rogue"
    record { asked = hear 0 4 (10 ∷ []); said = heard_as (Ok Pass ∷ []) 0 0 }
    ∷ record { asked = hear 0 4 (10 ∷ 13 ∷ []); said = heard_as (Ok Pass ∷ Ok Pass ∷ []) 1 0 }
    ∷ record { asked = hear 0 4 (10 ∷ 14 ∷ []); said = heard_as (Ok Pass ∷ Ok Discard ∷ []) 0 1 }
    -- "After 10, 13, H 4: 11 passes; 10 is discarded, not rogue; 9 is rogue"
    ∷ record { asked = hear 0 4 (10 ∷ 13 ∷ 11 ∷ []); said = heard_as (Ok Pass ∷ Ok Pass ∷ Ok Pass ∷ []) 2 0 }
    ∷ record { asked = hear 0 4 (10 ∷ 13 ∷ 10 ∷ []); said = heard_as (Ok Pass ∷ Ok Pass ∷ Ok Discard ∷ []) 1 0 }
    ∷ record { asked = hear 0 4 (10 ∷ 13 ∷ 9 ∷ []); said = heard_as (Ok Pass ∷ Ok Pass ∷ Ok Discard ∷ []) 1 1 }
    -- "65,535 then 0: pass, order unchanged"
    ∷ record { asked = hear 0 4 (65535 ∷ 0 ∷ []); said = heard_as (Ok Pass ∷ Ok Pass ∷ []) 0 0 }
    -- "H 64, first 0: 65,473 passes; 65,472 is rogue"; "32,768 is rogue"
    ∷ record { asked = hear 0 64 (0 ∷ 65473 ∷ []); said = heard_as (Ok Pass ∷ Ok Pass ∷ []) 1 0 }
    ∷ record { asked = hear 0 64 (0 ∷ 65472 ∷ []); said = heard_as (Ok Pass ∷ Ok Discard ∷ []) 0 1 }
    ∷ record { asked = hear 0 64 (0 ∷ 32768 ∷ []); said = heard_as (Ok Pass ∷ Ok Discard ∷ []) 0 1 }
    -- CR 4: "first 0, then 65,025 passes and 65,024 is rogue", at H 512
    ∷ record { asked = hear 0 512 (0 ∷ 65025 ∷ []); said = heard_as (Ok Pass ∷ Ok Pass ∷ []) 1 0 }
    ∷ record { asked = hear 0 512 (0 ∷ 65024 ∷ []); said = heard_as (Ok Pass ∷ Ok Discard ∷ []) 0 1 }
    -- "100 ms at 100 per second: 10 ticks"; "1 ms: 1"; "11 ms: 2"
    ∷ record { asked = ticks 100 100; said = number 10 }
    ∷ record { asked = ticks 1 100; said = number 1 }
    ∷ record { asked = ticks 11 100; said = number 2 }
    -- "Match 5, 6, 5: all pass, order 1"; "Match 5, 5: second discarded"
    ∷ record { asked = hear 1 4 (5 ∷ 6 ∷ 5 ∷ []); said = heard_as (Ok Pass ∷ Ok Pass ∷ Ok Pass ∷ []) 1 0 }
    ∷ record { asked = hear 1 4 (5 ∷ 5 ∷ []); said = heard_as (Ok Pass ∷ Ok Discard ∷ []) 0 0 }
    -- "Number 258: F1 C1 00 00 01 02"
    ∷ record { asked = six_octets RTag 258 0 10; said = octets (0xF1 ∷ 0xC1 ∷ 0x00 ∷ 0x00 ∷ 0x01 ∷ 0x02 ∷ []) }
    -- CR 5: that number with id 10 and a payload of 4, by "892F, path id 4 bits, size 12, number 16" and "number 16, LAN id 4, size 12,
    -- 88FB"
    ∷ record { asked = six_octets Hsr 258 10 10; said = octets (0x89 ∷ 0x2F ∷ 0xA0 ∷ 0x0A ∷ 0x01 ∷ 0x02 ∷ []) }
    ∷ record { asked = six_octets Prp 258 10 10; said = octets (0x01 ∷ 0x02 ∷ 0xA0 ∷ 0x0A ∷ 0x88 ∷ 0xFB ∷ []) }
    ∷ []

abbrev pub given : Case → Answer
given c = answer c.asked

abbrev pub expected : Case → Answer
expected c = c.said

-- every case is answered as the papers say
abbrev pub Starred : Type 0
Starred = map given cases ≡ map expected cases
