-- What the shift cuts off, the mask would.
use Rattle.std.proofs.Common.{ℕ, ◌-◌, ◌^◌, ◌≡◌, sym, ap, ◌∙◌, rules}
use native.Mathlib.Nat.{add-zero}
use lib.Bits.{and_mask}
use Rattle.marks.specs.Window.{number, marks_of, none}
use Rattle.marks.specs.AtOnce.{moved_by}
use Rattle.marks.proofs.Digits.{none_below}
use Rattle.marks.proofs.Counted.{first_moved}
use Rattle.marks.proofs.window.move_word.Goals as goal

-- all marks have left
pub returns-then-reach-places : goal.returns-then-reach-places
unfolding moved_by none
returns-then-reach-places c =
    let a = c.args in
    c.none.ensures ∙ sym (ap marks_of (none_below a.reach a.places (number a.marks) (search rules)))

pub returns : goal.returns
unfolding moved_by number
returns c =
    let a = c.args in
    let mask : c.row.result ≡ 2 ^ a.reach - 1 = c.row.ensures ∙ ap (λ (n : ℕ). 2 ^ n - 1) (add-zero a.reach) in
    c.alone.ensures
    ∙ ap marks_of
    (rw (mask, and_mask _ a.reach) (first_moved a.marks.w0 _ (search rules) a.reach a.places (search rules)))
