-- The events of a tape (document 01, "The bench tape"): one octet of kind, then a body whose length the kind fixes. Assumes nothing.
use Rattle.std.specs.Prelude.{ℕ, ◌+◌, ◌≡◌, Bool, cond, not, ◌&&◌, ◌||◌, List, [], ◌∷◌, length, get_or, leb, ltb, eqb, Result}
use Rattle.octets.specs.declared.Refusal.{Refusal}
use Rattle.octets.specs.declared.Refusal.TheVariants.{EventKind, EventCut, SetupMisplaced}
use Rattle.octets.specs.Checks.{Check, ◌⇒◌, verdict, answered}

-- "01 numbered packet, 2; 02 no number, 0; 03 tick, 0; 04 reset, 0; 05 latent reset, 0; 06 latent test, 0; 0F setup, 15": the kinds
unfoldable pub known : ℕ → Bool
known kind = (leb 1 kind && leb kind 6) || eqb kind 15

-- and the length of each kind's body; by CR 2 "The tape's setup grows by one octet after taken .., so 16"
unfoldable pub width : ℕ → ℕ
width kind = cond (eqb kind 1) 2 (cond (eqb kind 15) 16 0)

-- "Per event: 23, 24, 25, then 15, 27, 16 to 19": "tape kind; event cut; setup missing or repeated", since a setup comes "first and only
-- once"; the setup's own checks follow where it is handed in
unfoldable pub checks : List ℕ → ℕ → Bool → List Check
checks tape at set_up =
    let kind = get_or tape at 0 in
    not (known kind) ⇒ EventKind
    ∷ ltb (length tape) (at + 1 + width kind) ⇒ EventCut
    ∷ cond set_up (eqb kind 15) (not (eqb kind 15)) ⇒ SetupMisplaced
    ∷ []

-- the promises: of `width`
abbrev pub Lasts : ℕ → ℕ → Type 0
Lasts kind r = r ≡ width kind

-- of `refused`: the first check that the event does not meet
abbrev pub Refuses : List ℕ → ℕ → Bool → Result Unit Refusal → Type 0
Refuses tape at set_up r = r ≡ answered (verdict (checks tape at set_up)) tt
