-- The claims of `specs/Told`, from those of `fcs` and from what an answer means at every door. Assumes nothing.
use Prim.Native.Nat.{ℕ}
use mathlib.Core.Path.{◌≡◌, refl, sym, ap, ◌∙◌}
use mathlib.Core.List.{List}
use Rattle.std.specs.Prelude.{Result, Ok, Err, ⊤}
use Rattle.octets.specs.declared.Refusal.{Refusal}
use Rattle.octets.specs.declared.Refusal.TheVariants.{WrongCheck}
use Rattle.octets.specs.Refusals.{number}
use Rattle.octets.specs.Checks.{verdict}
use Rattle.octets.proofs.Order.{none_refused}
use Rattle.words.specs.Answers.{code_of}
use Rattle.words.proofs.FromRoom.{code_told}
use Rattle.fcs.specs.Sequence.{checks, Checks}
use Rattle.fcs.proofs.Trips.{damage_seen, wrong_bit_seen}
use Rattle.fcs_c.specs.Sequences.{ChecksTo}
use Rattle.fcs_c.specs.Told.{ZeroAccepts, AcceptedByZero, DamageTold, WrongBitTold}

-- what C is answered is the number of what `check` answers
code_answered : (o : List ℕ) {r : ℕ} (answer : Result ⊤ Refusal) → ChecksTo o r → Checks o answer → r ≡ code_of answer
code_answered o answer e c =
    e ∙ sym (code_told {A = ⊤} (verdict (checks o)) tt) ∙ ap (λ (a : Result ⊤ Refusal). code_of a) (sym c)

pub accepted_by_zero : AcceptedByZero
accepted_by_zero o r good e = code_answered o (Ok tt) e good

pub zero_accepts : ZeroAccepts
zero_accepts o e = rw (none_refused (verdict (checks o)) (sym e)) refl

-- a frame that `check` refuses for its check is answered by 28
by_28 : (o : List ℕ) {r : ℕ} → ChecksTo o r → Checks o (Err WrongCheck) → r ≡ 28
unfolding number
by_28 o e wrong = code_answered o (Err WrongCheck) e wrong

pub damage_told : DamageTold
damage_told o o' p w w' s r f f' l m n e e' = by_28 o' e' (sym (damage_seen o o' p w w' s _ f f' l m n (zero_accepts o e) refl))

pub wrong_bit_told : WrongBitTold
wrong_bit_told o o' p s b r f f' e e' = by_28 o' e' (sym (wrong_bit_seen o o' p s b _ f f' (zero_accepts o e) refl))
