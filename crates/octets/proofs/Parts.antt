-- Parts of lent octets, and what a copy into a part of a buffer leaves of the whole buffer. Assumes nothing.
use Prim.Native.Nat.{ℕ, ◌+◌, ◌-◌, ◌≤◌}
use native.Mathlib.Omega.{arith}
use mathlib.Core.Path.{◌≡◌, ap}
use mathlib.Core.Bool.{Bool}
use mathlib.Core.List.{List, ◌++◌, append-nil, append_assoc}
use lib.ListN.{length, take, drop, length-append, length-drop, drop_of_length-le}
use lib.Seq.{take-length, take_all, drop-drop, take-append_seam, drop-append-add}
use borrow.Author.Tests.{le-leb}
use borrow.Rule.Slice.PartMut.{put_mid, mid_of}
use Rattle.octets.specs.Copy.{put_in, Puts}
use Rattle.octets.specs.Part.{HandedBack}

-- all of a source, put at the start
pub all_copied : {A : Type 0} (src out : List A) {later : List A} → later ≡ take (length src) src ++ drop (length src) out
    → later ≡ put_in src out
all_copied src out e = simp (e, take-length)

-- the part from a place to the end, as the logic has it
pub to_end : (at : ℕ) (l : List ℕ) → take (length l - at) (drop at l) ≡ drop at l
to_end at l = take_all (length l - at) (drop at l) (omega (arith, length-drop at l))

-- a copy into the part of `out` from `at` to its end: `src` stands at `at`, and all else stays
pub put_part : (src out : List ℕ) (at : ℕ) → at + length src ≤ length out → {r : Bool} {later : List ℕ}
    → Puts src (mid_of at (length out - at) out) r later
    → put_mid at (length out - at) out later ≡ take at out ++ (src ++ drop (at + length src) out)
put_part src out at room p =
    let none = drop_of_length-le (drop at out) {i = length out - at} (omega (arith, length-drop at out)) in
    let fits = le-leb (length src) (length (drop at out)) (omega (arith, length-drop at out)) in
    simp (p.buffer, none, to_end, fits, append-nil, drop-drop)

-- a part that starts so far into the octets that it is taken from, as the logic has its place
pub starts_at : (at : ℕ × ℕ) (start : ℕ) → ◌≡◌ {A = ℕ × ℕ} (at.0, start + at.1) (at.0, at.1 + start)
starts_at at start = ap (λ (n : ℕ). (at.0, n)) (omega arith)

pub starts_first : (at : ℕ × ℕ) → ◌≡◌ {A = ℕ × ℕ} at (at.0, at.1 + 0)
starts_first at = ap (λ (n : ℕ). (at.0, n)) (omega arith)

-- how long a part is that is handed back
pub part_length : {at : ℕ × ℕ} {octets : List ℕ} {start : ℕ} {part : List ℕ} {place : ℕ × ℕ} → HandedBack at octets start part place
    → length part ≡ length octets
part_length p = ap (λ (l : List ℕ). length l) p.holds

-- a source that fits, put at the start
pub put_first : {A : Type 0} {src out : List A} → length src ≤ length out → {r : Bool} {later : List A} → Puts src out r later → later ≡ put_in src out
put_first room p = simp (p.buffer, le-leb _ _ room)

-- where a buffer `w` has `done` at its start, a part put behind that lengthens what was put
pub put_next : (done part out : List ℕ) {w : List ℕ} {at : ℕ} → w ≡ put_in done out → at ≡ length done
    → length done + length part ≤ length out → {r : Bool} {later : List ℕ} → Puts part (mid_of at (length w - at) w) r later
    → put_mid at (length w - at) w later ≡ put_in (done ++ part) out
put_next done part out {w} {at} e f room p =
    rw (put_part part w at (rw (e, f) (simp (length-append, length-drop) (omega arith))) p)
    (simp (e, f, take-append_seam, drop-append-add, drop-drop, length-append, append_assoc))
