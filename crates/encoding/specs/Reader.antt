-- Reading a frame in the encoding of its stream (document 02, CR 5). Assumes nothing.
use Rattle.std.specs.Prelude.{ℕ, ◌≡◌, List, Option, Result, Ok, Err}
use Rattle.octets.specs.declared.Refusal.{Refusal}
use Rattle.frame.specs.declared.Header.{Header}
use Rattle.frame.specs.Reader.{reading}
use Rattle.encoding.specs.declared.Encoding.{Encoding}
use Rattle.encoding.specs.declared.Sequence.{Sequence}
use Rattle.encoding.specs.declared.Packet.{Packet}
use Rattle.encoding.specs.Encodings.{sequence}

-- the header that every stream reads, and what the frame carries beside it; a refusal "returns the number alone"
abbrev pub carrying : Result Header Refusal → Option Sequence → Result Packet Refusal
carrying (Ok h) s = Ok (record { header = h; sequence = s })
carrying (Err r) s = Err r

-- what a frame reads as in an encoding
unfoldable pub reading_in : Encoding → List ℕ → Result Packet Refusal
reading_in e o = carrying (reading o) (sequence e o)

-- the promise of `read`
abbrev pub ReadsIn : Encoding → List ℕ → Result Packet Refusal → Type 0
ReadsIn e o r = r ≡ reading_in e o
