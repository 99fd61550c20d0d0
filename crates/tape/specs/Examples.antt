-- Document 01's worked tape, seven tapes with fault 23, 24 or 25, of CR 2 the stuck sender in both uses and a use that there is not, and of
-- CR 7 a slide that leaves places on both sides of the first packet's: `AsPrinted` says that each prints the lines beside it, a claim,
-- which proofs/Examples proves. Assumes nothing.
use Rattle.std.specs.Prelude.{ℕ, ◌≡◌, List, [], ◌∷◌, ◌++◌, map}
use Prim.Native.String.{String}
use Rattle.lines.specs.Lines.{octets_of}
use Rattle.tape.specs.Player.{output_of}

-- a tape and what it prints
pub record Case : Type 0 where
  pub tape : List ℕ
  pub lines : String

-- setup (vector, 0, 4, 100, 100, 2, 1), with a use behind taken and another timeout
unfoldable pub setup_for : (usage ms : ℕ) → List ℕ
setup_for usage ms = 0x0F ∷ 0 ∷ 0 ∷ usage ∷ 0 ∷ 4 ∷ 0 ∷ 0 ∷ 0 ∷ ms ∷ 0 ∷ 100 ∷ 2 ∷ 0 ∷ 0 ∷ 0 ∷ 1 ∷ []

-- in sequence use, as it is
unfoldable pub setup : List ℕ
setup = setup_for 0 100

-- packet 7 three times, with a tick between; 20 ms are two ticks
unfoldable pub stuck : List ℕ
stuck = 1 ∷ 0 ∷ 7 ∷ 3 ∷ 1 ∷ 0 ∷ 7 ∷ 3 ∷ 1 ∷ 0 ∷ 7 ∷ []

unfoldable pub cases : List Case
cases =
    -- packets 10 10 12 11 20, latent test
    record {
      tape = setup ++ (1 ∷ 0 ∷ 10 ∷ 1 ∷ 0 ∷ 10 ∷ 1 ∷ 0 ∷ 12 ∷ 1 ∷ 0 ∷ 11 ∷ 1 ∷ 0 ∷ 20 ∷ 6 ∷ []);
      lines = "ok\npass\ndiscard\npass\npass\ndiscard\nlatent ok\npassed=3 discarded=2 order=2 rogue=1 lost=2 tagless=0 resets=0 latent-resets=0 before-first=2\n";
    }
    -- CR 7, packets 10 12 15: with 12 the window leaves 7 and 8, and with 15 it leaves 9, the first packet's own place and 11
    ∷ record {
      tape = setup ++ (1 ∷ 0 ∷ 10 ∷ 1 ∷ 0 ∷ 12 ∷ 1 ∷ 0 ∷ 15 ∷ []);
      lines = "ok\npass\npass\npass\npassed=3 discarded=0 order=2 rogue=0 lost=4 tagless=0 resets=0 latent-resets=0 before-first=3\n";
    }
    -- no setup at all; a packet before the setup; a setup twice; a kind that there is none of; a packet cut
    ∷ record { tape = []; lines = "fault 25\n" }
    ∷ record { tape = 1 ∷ 0 ∷ 10 ∷ []; lines = "fault 25\n" }
    ∷ record { tape = setup ++ setup; lines = "ok\nfault 25\n" }
    ∷ record { tape = setup ++ (7 ∷ []); lines = "ok\nfault 23\n" }
    ∷ record { tape = setup ++ (1 ∷ 0 ∷ []); lines = "ok\nfault 24\n" }
    -- 23 before 25, and 24 before 25
    ∷ record { tape = 7 ∷ []; lines = "fault 23\n" }
    ∷ record { tape = 1 ∷ 0 ∷ []; lines = "fault 24\n" }
    -- "our timer ran out under it, letting the repeat through"; "In individual use a discarded packet also restarts the timer"
    ∷ record {
      tape = setup_for 0 20 ++ stuck;
      lines = "ok\npass\ntick\ndiscard\nreset\npass\npassed=2 discarded=1 order=0 rogue=0 lost=0 tagless=0 resets=1 latent-resets=0 before-first=0\n";
    }
    ∷ record {
      tape = setup_for 1 20 ++ stuck;
      lines = "ok\npass\ntick\ndiscard\ntick\ndiscard\npassed=1 discarded=2 order=0 rogue=0 lost=0 tagless=0 resets=0 latent-resets=0 before-first=0\n";
    }
    -- "0 sequence, 1 individual, else 27"
    ∷ record { tape = setup_for 2 100; lines = "fault 27\n" }
    ∷ []

abbrev pub given : Case → List ℕ
given c = output_of c.tape

abbrev pub printed : Case → List ℕ
printed c = octets_of c.lines

-- "gives:" the lines
abbrev pub AsPrinted : Type 0
AsPrinted = map given cases ≡ map printed cases
