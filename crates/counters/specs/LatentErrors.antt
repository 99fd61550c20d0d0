-- The latent figure, the test of it, and what a latent reset counts (document 01, "Numbering and recovery"). "modulo 2^64, signed": a
-- number stands for the signed one that it is the remainder of, and from 2^63 on it is negative. Assumes nothing.
use Rattle.std.specs.Prelude.{◌≡◌, ℕ, ◌+◌, ◌-◌, ◌*◌, ◌%◌, ◌^◌, Bool, cond, nat_lt}
use Rattle.counters.specs.declared.Counters.{Counters}
use Rattle.counters.specs.Counting.{plus}

-- a - b "modulo 2^64", of b below that
unfoldable pub less : ℕ → ℕ → ℕ
less a b = (a + (2 ^ 64 - b)) % 2 ^ 64

-- "the absolute value" of the signed number
unfoldable pub absolute : ℕ → ℕ
absolute n = cond (nat_lt n (2 ^ 63)) n (2 ^ 64 - n)

-- "Latent figure = passed x (paths - 1) - discarded modulo 2^64, signed"
unfoldable pub figure : Counters → ℕ → ℕ
figure k paths = less (k.passed * (paths - 1)) k.discarded

-- "the absolute value of (base - figure, modulo 2^64, signed) exceeds the difference"
unfoldable pub exceeds : ℕ → Counters → ℕ → ℕ → Bool
exceeds base k paths difference = nat_lt difference (absolute (less base (figure k paths)))

-- a latent reset: "latent-resets +1"
unfoldable pub latent_counted : Counters → Counters
latent_counted k =
    record {
      passed = k.passed;
      discarded = k.discarded;
      order = k.order;
      rogue = k.rogue;
      lost = k.lost;
      tagless = k.tagless;
      resets = k.resets;
      latent_resets = plus k.latent_resets 1;
      before_first = k.before_first;
    }

-- the promises: of `figure`
abbrev pub GivesFigure : Counters → ℕ → ℕ → Type 0
GivesFigure k paths r = r ≡ figure k paths

-- of `latent_error`
abbrev pub TellsError : ℕ → Counters → ℕ → ℕ → Bool → Type 0
TellsError base k paths difference r = r ≡ exceeds base k paths difference

-- of `count_latent_reset`
abbrev pub CountsLatentReset : Counters → Counters → Type 0
CountsLatentReset k r = r ≡ latent_counted k
