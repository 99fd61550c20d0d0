-- The claims of `specs/RoundTrip`, from what the division is worth. Assumes nothing.
use Prim.Native.Nat.{ℕ, ◌+◌, ◌-◌, ◌*◌, ◌≤◌}
use native.Mathlib.Omega.{arith}
use mathlib.Core.Path.{◌≡◌, refl, sym, ap, ◌∙◌}
use mathlib.Core.Bool.{Bool, true, false, not, true≢false, false≢true}
use mathlib.Core.List.{List, [], ◌∷◌, ◌++◌, head-eq_of_cons-eq}
use lib.ListN.{length, take, length-append, take-append-drop}
use lib.Seq.{take-append_seam, drop-append_seam}
use Rattle.std.specs.Prelude.{Ok}
use Rattle.octets.specs.Checks.{verdict, good}
use Rattle.crc.specs.Bits.{bits_of, sent}
use Rattle.crc.specs.Division.{remainder, crc}
use Rattle.crc.proofs.Numbers.{length_bits}
use Rattle.crc.proofs.LowFirst.{sent_append, sent_octets}
use Rattle.crc.proofs.Register.{bits_crc}
use Rattle.crc.proofs.Damage.{residue_left, bursts_seen}
use Rattle.fcs.specs.Sequence.{low_first, frame_of, check_of, checks, Checks}
use Rattle.fcs.specs.Writer.{appended}
use Rattle.fcs.specs.RoundTrip.{AppendThenCheck, CheckThenAppend, AcceptedLeaves, DamageSeen, WrongBitSeen}
use Rattle.fcs.proofs.Decided.{accepted, accepted_least, accepted_most, accepted_carries, check_matches, check_differs}
use Rattle.fcs.proofs.Decided.{written, length_appended}
use Rattle.fcs.proofs.Unique.{checks_one}

-- a check's octets, as they are sent
sent_low : (n : ℕ) → sent (low_first n) ≡ bits_of 32 n
unfolding low_first
sent_low = sent_octets 4

-- a frame with its check put behind it is one with its check
appended_frame : (o : List ℕ) → (frame_of (appended o) ≡ o) × (check_of (appended o) ≡ low_first (crc o))
unfolding appended
appended_frame o =
    let end : length (o ++ low_first (crc o)) - 4 ≡ length o = omega (arith, length_appended o) in
    (rw end (take-append_seam o (low_first (crc o))), rw end (drop-append_seam o (low_first (crc o))))

pub append_then_check : AppendThenCheck
append_then_check o out k later r at part place p q h =
    let w = written o out p in
    let parts = appended_frame o in
    let long = length_appended o in
    let right : Checks (appended o) (Ok tt)
    = check_matches (appended o) (omega (arith, long, w.0)) (omega (arith, long, w.1))
    (parts.1 ∙ ap (λ (l : List ℕ). low_first (crc l)) (sym parts.0)) in
    let now : take k later ≡ appended o = w.2 in
    let good-now : verdict (checks (take k later)) ≡ good = rw now (accepted (appended o) right) in
    (checks_one (appended o) (rw now at q) right, h.holds ∙ rw (good-now, now) parts.0)

pub check_then_append : CheckThenAppend
unfolding appended
check_then_append o at part place out k later e h p =
    let well = accepted o e in
    let bare : part ≡ frame_of o = h.holds ∙ rw well refl in
    (written part out p).2
    ∙ ap (λ (l : List ℕ). l ++ low_first (crc l)) bare
    ∙ ap (λ (l : List ℕ). frame_of o ++ l) (sym (accepted_carries o well))
    ∙ take-append-drop (length o - 4) o

pub accepted_leaves : AcceptedLeaves
accepted_leaves o e =
    let frame = frame_of o in
    let check : sent (check_of o) ≡ bits_of 32 (crc frame) = ap sent (accepted_carries o (accepted o e)) ∙ sent_low (crc frame) in
    let parts : sent o ≡ sent frame ++ sent (check_of o)
    = sym (ap sent (take-append-drop (length o - 4) o)) ∙ sent_append frame (check_of o) in
    ap remainder parts
    ∙ (residue_left (sent frame) (sent (check_of o)) (ap length check ∙ length_bits 32 (crc frame))).0 (check ∙ bits_crc frame)

-- eight bits of each octet
length_sent : (o : List ℕ) → length (sent o) ≡ 8 * length o
unfolding sent
length_sent [] = refl
length_sent (x ∷ o) = omega (arith, length-append (bits_of 8 x) (sent o), length_bits 8 x, length_sent o)

pub damage_seen : DamageSeen
damage_seen o o' p w w' s r e e' q h differ a b =
    let long : (v : List Bool) → length (p ++ (v ++ s)) ≡ length p + (length v + length s)
    = λ v. length-append p (v ++ s) ∙ ap (λ (n : ℕ). length p + n) (length-append v s) in
    let same : length o' ≡ length o
    = omega (arith, length_sent o, length_sent o', ap length e ∙ long w, ap length e' ∙ long w', q) in
    let well = accepted o a in
    let least = accepted_least o well in
    let most = accepted_most o well in
    let least' : 18 ≤ length o' = omega (arith, same, least) in
    let most' : length o' ≤ 1526 = omega (arith, same, most) in
    checks_one o' b
    (check_differs o' least' most'
    (λ carried. differ
    (bursts_seen p w w' s q h
    (sym (ap remainder e) ∙ accepted_leaves o a
    ∙ sym (accepted_leaves o' (check_matches o' least' most' carried)) ∙ ap remainder e'))))

not_itself : (b : Bool) → b ≡ not b → ⊥
not_itself true e = true≢false e
not_itself false e = false≢true e

pub wrong_bit_seen : WrongBitSeen
wrong_bit_seen o o' p s b r e e' =
    damage_seen o o' p (b ∷ []) (not b ∷ []) s r e e' refl (omega arith) (λ z. not_itself b (head-eq_of_cons-eq z))
