-- The lines of the output as octets (document 01, "The bench tape"). Each line ends with a newline. Assumes nothing.
use Rattle.std.specs.Prelude.{ℕ, zero, suc, ◌+◌, ◌/◌, ◌%◌, cond, List, [], ◌∷◌, ◌++◌, ltb}
use Prim.Native.Char.{code}
use Prim.Native.String.{String, [] as ε, ◌∷◌ as ◌⊳◌}
use Rattle.lines.specs.declared.Line.{Line}
use Rattle.lines.specs.declared.Line.TheVariants.{Ok, Pass, Discard, Tick, Reset, LatentReset, LatentOk, LatentError}

-- the octets of a text, one for each character: all here are ASCII
abbrev pub octets_of : String → List ℕ
octets_of ε = []
octets_of (c ⊳ s) = code c ∷ octets_of s

-- a number in decimal, of at most k digits: its last digit stands behind those of its tenth
unfoldable pub decimal_in : ℕ → ℕ → List ℕ
decimal_in zero n = []
decimal_in (suc k) n = cond (ltb n 10) ((48 + n) ∷ []) (decimal_in k (n / 10) ++ ((48 + n % 10) ∷ []))

-- twenty digits hold every number of 64 bits
abbrev pub decimal : ℕ → List ℕ
decimal n = decimal_in 20 n

-- a label and the number behind it
abbrev pub count : String → ℕ → List ℕ
count label n = octets_of label ++ decimal n

-- "Event lines: `ok` for setup, `pass` or `discard`, `tick`, `reset` (04, and a tick that timed out), `latent reset`, `latent ok` or
-- `latent error`"
unfoldable pub text : Line → List ℕ
text Ok = octets_of "ok\n"
text Pass = octets_of "pass\n"
text Discard = octets_of "discard\n"
text Tick = octets_of "tick\n"
text Reset = octets_of "reset\n"
text LatentReset = octets_of "latent reset\n"
text LatentOk = octets_of "latent ok\n"
text LatentError = octets_of "latent error\n"

-- "A fault prints `fault N` and ends the output"
unfoldable pub fault_text : ℕ → List ℕ
fault_text number = count "fault " number ++ octets_of "\n"

-- "eight 64-bit counters (passed, discarded, order, rogue, lost, tagless, resets, latent-resets)", as the last line names them, and CR 7:
-- "The tape's last line gains ` before-first=N` at the end"
unfoldable pub labels : List String
labels =
    "passed="
    ∷ " discarded="
    ∷ " order="
    ∷ " rogue="
    ∷ " lost="
    ∷ " tagless="
    ∷ " resets="
    ∷ " latent-resets="
    ∷ " before-first="
    ∷ []

-- each counter behind its label
unfoldable pub counted : List String → List ℕ → List ℕ
counted [] numbers = []
counted (label ∷ rest) [] = []
counted (label ∷ rest) (n ∷ numbers) = count label n ++ counted rest numbers

-- the last line of a tape without a fault, of the counters in their order
unfoldable pub counters_text : List ℕ → List ℕ
counters_text counters = counted labels counters ++ octets_of "\n"

-- no line is longer: the labels and the newline are 85 octets, and nine numbers at most 180
abbrev pub longest : ℕ
longest = 265
