-- An octet past the end is no kind. Assumes nothing.
use Prim.Native.Nat.{ℕ, ◌<◌, ◌≤◌}
use mathlib.Core.Path.{◌≡◌, sym, ◌∙◌}
use mathlib.Core.Bool.{true, false, false≢true}
use mathlib.Core.List.{List}
use lib.ListN.{length, get_or}
use lib.Dec.{ltb}
use borrow.Author.Tests.{ltb-true, ltb-false}
use Rattle.octets.proofs.Bools.{by_cases}
use Rattle.octets.proofs.PastTheEnd.{octet_past}
use Rattle.events.specs.Event.{known}

none_past : (tape : List ℕ) (at : ℕ) → length tape ≤ at → known (get_or tape at 0) ≡ false
unfolding known
none_past tape at past = rw (← octet_past tape at past)

pub known_within : (tape : List ℕ) (at : ℕ) → known (get_or tape at 0) ≡ true → at < length tape
known_within tape at e =
    by_cases (ltb at (length tape))
    (λ there. ltb-true _ _ there)
    (λ past. absurd (false≢true (sym (none_past tape at (ltb-false _ _ past)) ∙ e)))
