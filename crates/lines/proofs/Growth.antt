-- Parts that are put behind what a page holds, one behind the other, and what the page's front is then. Assumes nothing.
use Prim.Native.Nat.{ℕ, ◌+◌, ◌≤◌}
use native.Mathlib.Omega.{arith}
use mathlib.Core.Path.{◌≡◌, refl, sym, ap, subst, ◌∙◌}
use mathlib.Core.List.{List, [], ◌++◌, append_assoc}
use lib.ListN.{length, take, drop, length-append, length-drop, take-append-drop}
use lib.Seq.{length-take-le, take_at, drop_at, drop-drop}
use Rattle.lines.specs.Words.{put_at, Appends}

module _ (part page : List ℕ) (at : ℕ) (room : at + length part ≤ length page) where
  front_length : length (take at page) ≡ at
  front_length = length-take-le at page (omega arith)

  grouped : put_at at part page ≡ (take at page ++ part) ++ drop (at + length part) page
  grouped = sym (append_assoc (take at page) part (drop (at + length part) page))

  long : length (take at page ++ part) ≡ at + length part
  long = simp (length-append, front_length)

  -- the part stands at the end of the front
  pub put_front : take (at + length part) (put_at at part page) ≡ take at page ++ part
  put_front = rw grouped (take_at (take at page ++ part) (drop (at + length part) page) (at + length part) long)

  -- what is behind the part stays
  put_back : drop (at + length part) (put_at at part page) ≡ drop (at + length part) page
  put_back = rw grouped (drop_at (take at page ++ part) (drop (at + length part) page) (at + length part) long)

  pub put_length : length (put_at at part page) ≡ length page
  put_length = simp (length-append, length-drop, front_length) (omega arith)

-- a part behind a part is both of them put at once
put_both : (a b page : List ℕ) (at : ℕ) → at + length a + length b ≤ length page
    → put_at (at + length a) b (put_at at a page) ≡ put_at at (a ++ b) page
put_both a b page at room =
    let fits : at + length a ≤ length page = omega arith in
    let back : drop (at + length a + length b) (put_at at a page) ≡ drop (at + length a + length b) page =
    sym (drop-drop (length b) (at + length a) (put_at at a page))
    ∙ ap (λ (l : List ℕ). drop (length b) l) (put_back a page at fits) ∙ drop-drop (length b) (at + length a) page in
    let sum : at + length (a ++ b) ≡ at + length a + length b = omega (arith, length-append a b) in
    rw (put_front a page at fits, back, sum) (simp append_assoc)

-- a part put behind the first `at` octets
pub appended : (part page : List ℕ) (at : ℕ) → at + length part ≤ length page → {later : List ℕ} → later ≡ put_at at part page
    → Appends part page at (at + length part) later
appended part page at room e = record { ends = refl; within = room; buffer = e }

-- two parts, one behind the other, are both together
pub one_behind_other : {a b page p q : List ℕ} {at m r : ℕ} → Appends a page at m p → Appends b p m r q → Appends (a ++ b) page at r q
one_behind_other {a} {b} {page} {p} {q} {at} {m} {r} x y =
    let fits : at + length a ≤ length page = omega (arith, x.ends, x.within) in
    let long : length p ≡ length page = ap length x.buffer ∙ put_length a page at fits in
    let room : at + length a + length b ≤ length page = omega (arith, long, x.ends, y.ends, y.within) in
    record {
      ends = omega (arith, length-append a b, x.ends, y.ends);
      within = omega (arith, long, y.within);
      buffer = y.buffer ∙ rw (x.ends, x.buffer) (put_both a b page at room);
    }

-- the same part by another name
pub like : {a b page later : List ℕ} {at r : ℕ} → a ≡ b → Appends a page at r later → Appends b page at r later
like {a} {b} {page} {later} {at} {r} e x = subst (λ (part : List ℕ). Appends part page at r later) e x

pub same_length : {part page later : List ℕ} {at r : ℕ} → Appends part page at r later → length later ≡ length page
same_length {part} {page} {later} {at} x = ap length x.buffer ∙ put_length part page at (omega (arith, x.ends, x.within))

-- nothing put is the page as it was
pub nothing : (page : List ℕ) (at : ℕ) → at ≤ length page → Appends [] page at at page
nothing page at p =
    let zero : at + 0 ≡ at = omega arith in
    record { ends = omega arith; within = p; buffer = sym (rw zero (take-append-drop at page)) }
