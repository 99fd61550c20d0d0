-- Document 01, "Reading a frame", and document 02, CR 5, for C: what the calls answer and write, by the definitions of `frame` and
-- `encoding`. A record is lent words: a header stands at its start, and later words stay, as the paper has it of an output's octets; a
-- record that is shorter than the header is 8. Assumes nothing.
use Rattle.std.specs.Prelude.{ℕ, ◌≡◌, cond, not, List, [], ◌∷◌, ◌++◌, length, take, Option, Result, is_some, unwrap_or, ⊤}
use Rattle.octets.specs.declared.Refusal.{Refusal}
use Rattle.octets.specs.declared.Refusal.TheVariants.{OutputShort}
use Rattle.octets.specs.Copy.{fits, output_by}
use Rattle.octets.specs.Checks.{Check, ◌⇒◌, verdict, answered, refusal}
use Rattle.frame.specs.declared.Header.{Header}
use Rattle.frame.specs.Reader.{checks, header, reading}
use Rattle.frame.specs.Part.{payload_by}
use Rattle.encoding.specs.declared.Encoding.{Encoding}
use Rattle.encoding.specs.declared.Sequence.{Sequence}
use Rattle.encoding.specs.Encodings.{number_of, path_of, sequence}

-- a header in words: the addresses, whether there is a C-TAG and its VLAN id, whether there is a number and which, the last type, and where
-- the payload starts; behind these eight the path or LAN id
unfoldable pub header_words : Header → Option Sequence → List ℕ
header_words h s =
    h.destination
    ∷ h.source
    ∷ cond (is_some h.vlan) 1 0
    ∷ unwrap_or h.vlan 0
    ∷ cond (is_some s) 1 0
    ∷ number_of s
    ∷ h.kind
    ∷ h.payload
    ∷ path_of s
    ∷ []

-- as many of them as a call writes: eight of an R-TAG stream's frame, which has no id, and nine in the other encodings
unfoldable pub written : ℕ → Header → Option Sequence → List ℕ
written n h s = take n (header_words h s)

-- "1 to 5 as in reading" .. "then 8": "output shorter than result"
unfoldable pub record_checks : Encoding → ℕ → List ℕ → List ℕ → List Check
record_checks e n o out = checks o ++ (not (fits (written n (header o) (sequence e o)) out) ⇒ OutputShort ∷ [])

-- what `fill` promises its caller: the words put into the record, or a refusal
pub record Fills (e : Encoding) (n : ℕ) (o out : List ℕ) (r : Result ⊤ Refusal) (later : List ℕ) : Type 0 where
  pub answer : r ≡ answered (verdict (record_checks e n o out)) tt
  pub words : later ≡ output_by (verdict (record_checks e n o out)) (written n (header o) (sequence e o)) out

-- the promises: of `ahz_read`, `ahz_read_hsr` and `ahz_read_prp`, each in its encoding and with its number of words
pub record ReadsTo (e : Encoding) (n : ℕ) (o out : List ℕ) (r : ℕ) (later : List ℕ) : Type 0 where
  pub answer : r ≡ refusal (verdict (record_checks e n o out))
  pub words : later ≡ output_by (verdict (record_checks e n o out)) (written n (header o) (sequence e o)) out

-- of `ahz_payload`: the length of the part that `payload` hands back, which is the frame's last octets
abbrev pub PayloadOctets : List ℕ → ℕ → Type 0
PayloadOctets o r = r ≡ length (payload_by (reading o) o)
