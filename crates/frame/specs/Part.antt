-- The payload of a frame as a part of it (document 01, "Reading a frame"). Assumes nothing.
use Rattle.std.specs.Prelude.{ℕ, List, [], drop, Result, Ok, Err}
use Rattle.octets.specs.declared.Refusal.{Refusal}
use Rattle.octets.specs.Part.{HandedBack}
use Rattle.frame.specs.declared.Header.{Header}
use Rattle.frame.specs.Reader.{reading}

-- "the slice of the caller's frame that starts after the last type", and "an empty part on a refusal"
abbrev pub payload_by : Result Header Refusal → List ℕ → List ℕ
payload_by (Ok h) o = drop h.payload o
payload_by (Err r) o = []

-- how far into the frame it starts
abbrev pub start_by : Result Header Refusal → ℕ
start_by (Ok h) = h.payload
start_by (Err r) = 0

-- the promise of `payload`: "The payload is handed back as a part of the lent frame, not copied"; `read` is the "call beside it" that
-- "gives the verdict". The frame and the part are each given with where they lie
abbrev pub HandsBack : List ℕ → ℕ × ℕ → List ℕ → ℕ × ℕ → Type 0
HandsBack o at part place = HandedBack at (payload_by (reading o) o) (start_by (reading o)) part place
