-- The nine counters, and what is added to them (document 01, "Numbering and recovery", and CR 7). Assumes nothing.
use Rattle.std.specs.Prelude.{◌≡◌, ℕ, ◌+◌, ◌%◌, ◌^◌, cond}
use Rattle.rules.specs.declared.Effect.{Effect}
use Rattle.counters.specs.declared.Counters.{Counters}

-- "eight 64-bit counters .. that wrap", and CR 7's "ninth counter": a counter that has grown by n
unfoldable pub plus : ℕ → ℕ → ℕ
plus counter n = (counter + n) % 2 ^ 64

-- "counters 0"
abbrev pub no_counts : Counters
no_counts =
    record {
      passed = 0;
      discarded = 0;
      order = 0;
      rogue = 0;
      lost = 0;
      tagless = 0;
      resets = 0;
      latent_resets = 0;
      before_first = 0;
    }

-- "Passed and discarded add 1 to their counters", a rogue to both its own and discarded; "No number: tagless +1"; and CR 7: "Keep lost as
-- the standard has it and add a ninth counter, before-first", for the holes, which are those of the lost places below the first packet's
unfoldable pub counted : Counters → ℕ → ℕ → Effect → Counters
counted k tagless holes effect =
    record {
      passed = plus k.passed (cond effect.passes 1 0);
      discarded = plus k.discarded (cond effect.passes 0 1);
      order = plus k.order effect.order;
      rogue = plus k.rogue effect.rogue;
      lost = plus k.lost effect.lost;
      tagless = plus k.tagless tagless;
      resets = k.resets;
      latent_resets = k.latent_resets;
      before_first = plus k.before_first holes;
    }

-- a reset "keeps counters .. and adds 1 to resets"
unfoldable pub reset_counted : Counters → Counters
reset_counted k =
    record {
      passed = k.passed;
      discarded = k.discarded;
      order = k.order;
      rogue = k.rogue;
      lost = k.lost;
      tagless = k.tagless;
      resets = plus k.resets 1;
      latent_resets = k.latent_resets;
      before_first = k.before_first;
    }

-- the promises: of `none`
abbrev pub StartsAtZero : Counters → Type 0
StartsAtZero r = r ≡ no_counts

-- of `count`
abbrev pub Counts : Counters → ℕ → ℕ → Effect → Counters → Type 0
Counts k tagless holes effect r = r ≡ counted k tagless holes effect

-- of `count_reset`
abbrev pub CountsReset : Counters → Counters → Type 0
CountsReset k r = r ≡ reset_counted k
