-- When two entries of a table are ambiguous (document 02, CR 8). Assumes nothing.
use Rattle.std.specs.Prelude.{ℕ, ◌<◌, ◌≡◌, Bool, true, ◌||◌, List, get_or, drop, eqb}
use Rattle.octets.specs.Checks.{good, verdict}
use Rattle.frame.specs.Reader.{checks, header}
use Rattle.entry.specs.Contents.{kind, address, choice, vlan}
use Rattle.entry.specs.Matching.{matches}

-- an entry of kind 1, or of kind 2
unfoldable pub by_address : List ℕ → Bool
by_address e = eqb (kind e) 1 || eqb (kind e) 2

-- an entry matches a frame, by what is read of it
abbrev pub matches_frame : List ℕ → List ℕ → Bool
matches_frame e o = matches e (header o) (drop (header o).payload o)

-- an "acceptable frame": octets that reading accepts
pub record Accepted (o : List ℕ) : Type 0 where
  pub octets : (k : ℕ) → get_or o k 0 < 256
  pub reads : verdict (checks o) ≡ good

-- "two entries of kind 1, or two of kind 2, with equal addresses could both match some acceptable frame"
pub record Ambiguous (e f : List ℕ) : Type 0 where
  pub kinds : kind e ≡ kind f
  pub one_or_two : by_address e ≡ true
  pub addresses : address e ≡ address f
  pub frame : List ℕ
  pub accepted : Accepted frame
  pub first : matches_frame e frame ≡ true
  pub second : matches_frame f frame ≡ true

-- a claim, which proofs/Ambiguous proves: priority with a VLAN that is not 0 matches no frame, and so is never ambiguous
abbrev pub NeverAmbiguous : Type 0
NeverAmbiguous =
    (e f : List ℕ) → choice e ≡ 2 → (vlan e ≡ 0 → ⊥) → (Ambiguous e f → ⊥) × (Ambiguous f e → ⊥)
