-- What is known of lent words by what was read from them. Assumes nothing.
use Rattle.std.specs.Prelude.{Option, Some, None}
use Prim.Native.Nat.{ℕ, ◌<◌, ◌≤◌}
use native.Mathlib.Omega.{arith}
use mathlib.Core.Path.{◌≡◌, refl, sym, ◌∙◌}
use mathlib.Core.Bool.{Bool, true, false, cond, ◌&&◌, false≢true}
use mathlib.Core.List.{List}
use lib.ListN.{length}
use lib.Dec.{leb}
use borrow.Author.Tests.{leb-true, le-leb, lt-leb}
use Rattle.octets.proofs.Bools.{by_cases, both, and_none}
use Rattle.setup.specs.Range.{in_range}
use Rattle.setup.proofs.InRange.{ranges}
use Rattle.recovery.specs.declared.State.{State}
use Rattle.recovery.specs.Soundness.{sound}
use Rattle.recovery.proofs.SoundLaws.{sound_says}
use Rattle.states.specs.Fields.{word, held, setup_in, state_of, ready, none_past, short, ReadsState, ReadsShort}

-- where a test chooses between a state and nothing
read_state : (b : Bool) {s t : State} → Some s ≡ cond b (Some t) None → (b ≡ true) × (s ≡ t)
read_state true e = (refl, cc)
read_state false e = cc

read_nothing : (b : Bool) (t : State) → None ≡ cond b (Some t) None → b ≡ false
read_nothing true t e = cc
read_nothing false t e = refl

module _ (w : List ℕ) where
  -- too few words
  pub too_few : length w < 31 → ReadsState w None
  unfolding held
  too_few few = rw (lt-leb 31 (length w) few)

  pub too_few_for_short : length w < 31 → ReadsShort w None
  unfolding held
  too_few_for_short few = rw (lt-leb 31 (length w) few, and_none (short w) refl)

  -- a setup out of range, as one with a use that there is not
  pub out_of_range : in_range (setup_in w) ≡ false → ReadsState w None
  out_of_range outside = rw (and_none (held w) outside)

  pub no_use : 1 < word 3 w → ReadsState w None
  no_use over =
      by_cases (in_range (setup_in w)) (λ met. absurd (omega (arith, over, (ranges (setup_in w) met).usage))) (λ outside. out_of_range outside)

  -- a short state is one that `read` gives
  pub short_read : word 4 w ≤ 64 → none_past w ≡ true → {r : Option State} → ReadsState w r → ReadsShort w r
  short_read few clear p = p ∙ rw (le-leb (word 4 w) 64 few, clear)

  -- a state was read
  pub there : {s : State} → ReadsState w (Some s) → (held w ≡ true) × (s ≡ state_of w)
  there p =
      let read = read_state (ready w) p in
      ((both (held w) (in_range (setup_in w)) read.0).0, read.1)

  -- none was: what is held all the same is not sound
  pub none_there : ReadsState w None → held w ≡ true → sound (state_of w) ≡ false
  unfolding state_of
  none_there p here =
      by_cases (sound (state_of w))
      (λ yes.
      let outside : in_range (setup_in w) ≡ false = rw here at (read_nothing (ready w) (state_of w) p) in
      absurd (false≢true (sym outside ∙ (sound_says (state_of w) yes).in_range)))
      (λ no. no)

  -- a short one was
  pub record Short (s : State) : Type 0 where
    pub here : held w ≡ true
    pub is : s ≡ state_of w
    pub history : word 4 w ≤ 64
    pub clear : none_past w ≡ true

  pub short_there : {s : State} → ReadsShort w (Some s) → Short s
  short_there p =
      let read = read_state (short w && ready w) p in
      let told = both (short w) (ready w) read.0 in
      let few = both (leb (word 4 w) 64) (none_past w) told.0 in
      record {
        here = (both (held w) (in_range (setup_in w)) told.1).0;
        is = read.1;
        history = leb-true _ _ few.0;
        clear = few.1;
      }
