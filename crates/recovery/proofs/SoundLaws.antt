-- A sound state, conjunct by conjunct. Assumes nothing.
use Prim.Native.Nat.{◌≤◌}
use mathlib.Core.Path.{◌≡◌}
use mathlib.Core.Bool.{true, ◌||◌}
use lib.Dec.{leb}
use borrow.Author.Tests.{leb-true, le-leb}
use Rattle.octets.proofs.Bools.{both, and_true}
use Rattle.setup.specs.Range.{in_range, is_vector, full_of}
use Rattle.marks.specs.Window.{clear_from}
use Rattle.recovery.specs.declared.State.{State}
use Rattle.recovery.specs.Soundness.{awaits, parts_agree, keeps_first, sound}

pub record Sound (s : State) : Type 0 where
  pub in_range : in_range s.setup ≡ true
  pub clear_above : clear_from s.setup.history s.marks ≡ true
  pub awaits_rightly : awaits s ≡ true
  pub match_bare : (is_vector s.setup || clear_from 0 s.marks) ≡ true
  pub left_below : s.left.0 ≤ (full_of s.setup).0
  pub first_kept : keeps_first s.setup s.marks s.take_any s.first ≡ true

pub sound_says : (s : State) → sound s ≡ true → Sound s
unfolding sound parts_agree
sound_says s e =
    let first = both _ (keeps_first s.setup s.marks s.take_any s.first) e in
    let left = both _ (leb s.left.0 (full_of s.setup).0) first.0 in
    let bare = both _ (is_vector s.setup || clear_from 0 s.marks) left.0 in
    let await = both _ (awaits s) bare.0 in
    let above = both (in_range s.setup) (clear_from s.setup.history s.marks) await.0 in
    record {
      in_range = above.0;
      clear_above = above.1;
      awaits_rightly = await.1;
      match_bare = bare.1;
      left_below = leb-true _ _ left.1;
      first_kept = first.1;
    }

pub sound_by : (s : State) → Sound s → sound s ≡ true
unfolding sound parts_agree
sound_by s p =
    and_true
    (and_true
    (and_true
    (and_true
    (and_true p.in_range p.clear_above)
    p.awaits_rightly)
    p.match_bare)
    (le-leb _ _ p.left_below))
    p.first_kept
