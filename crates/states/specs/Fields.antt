-- A recovery state in thirty-one words: the format, and one for each field, eight for the marks, in document 01's order: "Setup holds: ..",
-- with CR 2's use behind taken, and "State: setup, newest number, H marks .., take-any, ticks left, eight 64-bit counters .. and a latent
-- base", with the first place of CR 7 behind the marks and its counter behind the eight. A state is the first words of what is lent, and
-- later words stay, as the paper has it of an output's octets. Assumes nothing.
use Rattle.std.specs.Prelude.{ℕ, ◌<◌, ◌≤◌, ◌≡◌, Bool, cond, ◌&&◌, List, [], ◌∷◌, length, get_or, ltb, leb, eqb, Option, Some, None}
use Rattle.octets.specs.Copy.{Puts}
use Rattle.setup.specs.declared.Setup.{Setup}
use Rattle.setup.specs.Values.{setup_of}
use Rattle.marks.specs.declared.Marks.{Marks}
use Rattle.marks.specs.Window.{bits}
use Rattle.rules.specs.FirstPlace.{nth}
use Rattle.counters.specs.declared.Counters.{Counters}
use Rattle.recovery.specs.declared.State.{State}
use Rattle.setup.specs.Range.{in_range}
use Rattle.recovery.specs.Storage.{stored_state}

-- what the first word says of the others: "AHZ" in octets and a 4, 41485A04 in hex. Words of another kind or order get another; those with
-- a 1 had no use, those with a 2 no first place, and those with a 3 one word of marks
abbrev pub format : ℕ
format = 1095260676

-- the words of a state
unfoldable pub words_of : State → List ℕ
words_of s =
    format
    ∷ s.setup.rule
    ∷ s.setup.taken
    ∷ s.setup.usage
    ∷ s.setup.history
    ∷ s.setup.timeout.0
    ∷ s.setup.rate
    ∷ s.setup.paths
    ∷ s.setup.difference
    ∷ s.newest
    ∷ s.marks.w0
    ∷ s.marks.w1
    ∷ s.marks.w2
    ∷ s.marks.w3
    ∷ s.marks.w4
    ∷ s.marks.w5
    ∷ s.marks.w6
    ∷ s.marks.w7
    ∷ s.first.0
    ∷ cond s.take_any 1 0
    ∷ s.left.0
    ∷ s.counters.passed
    ∷ s.counters.discarded
    ∷ s.counters.order
    ∷ s.counters.rogue
    ∷ s.counters.lost
    ∷ s.counters.tagless
    ∷ s.counters.resets
    ∷ s.counters.latent_resets
    ∷ s.counters.before_first
    ∷ s.base
    ∷ []

-- word k
abbrev pub word : ℕ → List ℕ → ℕ
word k w = get_or w k 0

-- the format, and each word a number that its field can hold. Marks, ticks left, counters and base take any word
abbrev pub fields_fit : List ℕ → Bool
fields_fit w =
    eqb (word 0 w) format
    && ltb (word 1 w) 256
    && ltb (word 2 w) 256
    && ltb (word 3 w) 256
    && ltb (word 4 w) 65536
    && ltb (word 5 w) 4294967296
    && ltb (word 6 w) 65536
    && ltb (word 7 w) 256
    && ltb (word 8 w) 4294967296
    && ltb (word 9 w) 65536
    && ltb (word 18 w) 65536
    && ltb (word 19 w) 2

-- words that hold a state: thirty-one or more, in this format, each of which its field can hold
unfoldable pub held : List ℕ → Bool
held w = leb 31 (length w) && fields_fit w

-- the same, field by field, as the inner functions of this room ask it of each other
pub record Holds (w : List ℕ) : Type 0 where
  pub enough : 31 ≤ length w
  pub marked : word 0 w ≡ format
  pub rule : word 1 w < 256
  pub taken : word 2 w < 256
  pub usage : word 3 w < 256
  pub history : word 4 w < 65536
  pub timeout : word 5 w < 4294967296
  pub rate : word 6 w < 65536
  pub paths : word 7 w < 256
  pub difference : word 8 w < 4294967296
  pub newest : word 9 w < 65536
  pub first : word 18 w < 65536
  pub take_any : word 19 w < 2

-- the setup of such words
abbrev pub setup_in : List ℕ → Setup
setup_in w = setup_of (word 1 w) (word 2 w) (word 3 w) (word 4 w) (word 5 w) (word 6 w) (word 7 w) (word 8 w)

-- their marks
abbrev pub marks_in : List ℕ → Marks
marks_in w =
    record {
      w0 = word 10 w;
      w1 = word 11 w;
      w2 = word 12 w;
      w3 = word 13 w;
      w4 = word 14 w;
      w5 = word 15 w;
      w6 = word 16 w;
      w7 = word 17 w;
    }

-- their counters
abbrev pub counters_in : List ℕ → Counters
counters_in w =
    record {
      passed = word 21 w;
      discarded = word 22 w;
      order = word 23 w;
      rogue = word 24 w;
      lost = word 25 w;
      tagless = word 26 w;
      resets = word 27 w;
      latent_resets = word 28 w;
      before_first = word 29 w;
    }

-- and the state that they hold
unfoldable pub state_of : List ℕ → State
state_of w =
    stored_state (setup_in w) (word 9 w) (marks_in w) (nth (word 18 w)) (eqb (word 19 w) 1) (word 20 w) (counters_in w) (word 30 w)

-- whether the words of the marks past the first are 0
abbrev pub none_past : List ℕ → Bool
none_past w =
    eqb (word 11 w) 0
    && eqb (word 12 w) 0
    && eqb (word 13 w) 0
    && eqb (word 14 w) 0
    && eqb (word 15 w) 0
    && eqb (word 16 w) 0
    && eqb (word 17 w) 0

-- words that hold a state whose setup is in range; no other is sound
abbrev pub ready : List ℕ → Bool
ready w = held w && in_range (setup_in w)

-- the promises: of `read`, the state of such words
abbrev pub ReadsState : List ℕ → Option State → Type 0
ReadsState w r = r ≡ cond (ready w) (Some (state_of w)) None

-- a history that has no more marks than a word, and those past it clear
abbrev pub short : List ℕ → Bool
short w = leb (word 4 w) bits && none_past w

-- of `read_short`, the same where that is so
abbrev pub ReadsShort : List ℕ → Option State → Type 0
ReadsShort w r = r ≡ cond (short w && ready w) (Some (state_of w)) None

-- of `keep`: the state's words are put, as `put` of `octets` puts any
abbrev pub Keeps : State → List ℕ → Bool → List ℕ → Type 0
Keeps s = Puts (words_of s)

-- the state, with the words of the marks past the first as those of a list are
abbrev pub short_in : List ℕ → State → State
short_in w s =
    stored_state s.setup s.newest
    (record {
      w0 = s.marks.w0;
      w1 = word 11 w;
      w2 = word 12 w;
      w3 = word 13 w;
      w4 = word 14 w;
      w5 = word 15 w;
      w6 = word 16 w;
      w7 = word 17 w;
    })
    s.first s.take_any s.left.0 s.counters s.base

-- of `keep_short`: they are put, and those words stay
abbrev pub KeepsShort : State → List ℕ → Bool → List ℕ → Type 0
KeepsShort s w = Puts (words_of (short_in w s)) w
