-- Words that hold a state: what each is below, that any state's words fit there, and that this state's leave them as they were. Assumes
-- nothing.
use Prim.Native.Nat.{ℕ, zero, suc, ◌+◌, ◌<◌, ◌≤◌}
use native.Mathlib.Nat.{add-zero, add-suc, suc-add}
use native.Mathlib.Omega.{arith}
use mathlib.Core.Path.{◌≡◌, refl, sym, ap, ◌∙◌}
use mathlib.Core.Bool.{true, cond}
use mathlib.Core.List.{List, [], ◌∷◌, ◌++◌}
use lib.ListN.{length, get_or, drop}
use lib.Seq.{drop-cons}
use lib.Dec.{eqb}
use borrow.Author.Tests.{eqb-true, ltb-true, leb-true}
use Rattle.octets.specs.Copy.{put_in}
use Rattle.octets.proofs.Bools.{both}
use Rattle.recovery.specs.declared.State.{State}
use Rattle.states.specs.Fields.{Holds, word, held, state_of, words_of}

pub holds : (w : List ℕ) → held w ≡ true → Holds w
unfolding held
holds w e =
    let p = both _ _ e in
    let take_any = both _ _ p.1 in
    let first = both _ _ take_any.0 in
    let newest = both _ _ first.0 in
    let difference = both _ _ newest.0 in
    let paths = both _ _ difference.0 in
    let rate = both _ _ paths.0 in
    let timeout = both _ _ rate.0 in
    let history = both _ _ timeout.0 in
    let usage = both _ _ history.0 in
    let taken = both _ _ usage.0 in
    let rule = both _ _ taken.0 in
    record {
      enough = leb-true _ _ p.0;
      marked = eqb-true _ _ rule.0;
      rule = ltb-true _ _ rule.1;
      taken = ltb-true _ _ taken.1;
      usage = ltb-true _ _ usage.1;
      history = ltb-true _ _ history.1;
      timeout = ltb-true _ _ timeout.1;
      rate = ltb-true _ _ rate.1;
      paths = ltb-true _ _ paths.1;
      difference = ltb-true _ _ difference.1;
      newest = ltb-true _ _ newest.1;
      first = ltb-true _ _ first.1;
      take_any = ltb-true _ _ take_any.1;
    }

-- where a state is held there is room for the next one
pub room : (w : List ℕ) → held w ≡ true → (s : State) → length (words_of s) ≤ length w
unfolding words_of
room w e s = (holds w e).enough

-- n elements of a list from a place on, one by one
unfoldable listed : ℕ → ℕ → List ℕ → List ℕ
listed k zero w = []
listed k (suc n) w = get_or w k 0 ∷ listed (suc k) n w

-- put back where they were
listed_first : (k n : ℕ) (w : List ℕ) → k + n ≤ length w → listed k n w ++ drop (k + n) w ≡ drop k w
unfolding listed
listed_first k zero w e = rw (add-zero k)
listed_first k (suc n) w e =
    let later : listed (suc k) n w ++ drop (k + suc n) w ≡ drop (suc k) w =
    rw (add-suc k n, sym (suc-add k n)) (listed_first (suc k) n w (omega (arith, e))) in
    ap (λ (t : List ℕ). get_or w k 0 ∷ t) later ∙ sym (drop-cons w k 0 (omega (arith, e)))

-- a flag in a word
one_or_none : (n : ℕ) → n < 2 → cond (eqb n 1) 1 0 ≡ n
one_or_none zero l = refl
one_or_none (suc zero) l = refl
one_or_none (suc (suc n)) l = absurd (omega (arith, l))

pub same-words : (w : List ℕ) → held w ≡ true → put_in (words_of (state_of w)) w ≡ w
unfolding words_of state_of listed
same-words w e =
    let h = holds w e in rw (one_or_none (word 19 w) h.take_any, sym h.marked) (listed_first 0 31 w h.enough)
