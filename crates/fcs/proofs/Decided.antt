-- Which check decides, of a frame with its check and of one that is to get it. Assumes nothing.
use Prim.Native.Nat.{ℕ, ◌+◌, ◌-◌, ◌≤◌, ◌<◌}
use mathlib.Core.Path.{◌≡◌, refl, sym, ap, ◌∙◌}
use native.Mathlib.Omega.{arith}
use borrow.Rule.Slice.PartMut.{put_mid, mid_of}
use mathlib.Core.Bool.{Bool, true, false, not}
use mathlib.Core.List.{List, [], ◌++◌}
use lib.ListN.{length, take, length-append}
use lib.Seq.{take-append_seam}
use lib.Dec.{eqb, ltb}
use lib.Pointwise.{pointwise, bytes_decides}
use Rattle.octets.proofs.Bools.{by_cases}
use borrow.Author.Tests.{lt-ltb, le-ltb, ltb-false, not-false}
use Rattle.std.specs.Prelude.{Ok, Err}
use Rattle.std.specs.Cmp.Lexicographic.{same_text, other_text}
use Rattle.octets.specs.declared.Refusal.{Refusal}
use Rattle.octets.specs.declared.Refusal.TheVariants.{FrameShort, FrameLong, OutputShort, WrongCheck}
use Rattle.octets.specs.Checks.{Verdict, good, refuse, verdict, answered}
use Rattle.octets.specs.Copy.{put_in, output_by, Puts}
use Rattle.octets.proofs.Parts.{put_first, put_next}
use Rattle.octets.proofs.Order.{clear}
use Rattle.crc.specs.Division.{crc}
use Rattle.fcs.specs.Sequence.{low_first, frame_of, check_of, same, checks, Checks}
use Rattle.fcs.specs.Part.{part_by}
use Rattle.fcs.specs.Writer.{appended, append_checks, Appends}

-- what `same` says of two rows
rows_differ : (a b : List ℕ) → (a ≡ b → ⊥) → same a b ≡ false
rows_differ a b n = by_cases (same a b) (λ e. absurd (n ((bytes_decides a b).0 e))) (λ e. e)

-- where an answer is good the verdict was
answer_good : {A : Type 0} (v : Verdict) (a b : A) → Ok b ≡ answered v a → v ≡ good
answer_good good a b e = refl
answer_good (refuse r) a b e = cc

module _ (o : List ℕ) where
  pub check_short : length o < 18 → Checks o (Err FrameShort)
  unfolding checks verdict
  check_short h = simp (lt-ltb _ _ h)

  module _ (least : 18 ≤ length o) where
    pub check_long : 1526 < length o → Checks o (Err FrameLong)
    unfolding checks verdict
    check_long h = simp (le-ltb _ _ least, lt-ltb _ _ h)

    module _ (most : length o ≤ 1526) where
      pub check_matches : check_of o ≡ low_first (crc (frame_of o)) → Checks o (Ok tt)
      unfolding checks verdict
      check_matches e = simp (le-ltb _ _ least, le-ltb _ _ most, (bytes_decides (check_of o) (low_first (crc (frame_of o)))).1 e)

      pub check_differs : (check_of o ≡ low_first (crc (frame_of o)) → ⊥) → Checks o (Err WrongCheck)
      unfolding checks verdict
      check_differs n = simp (le-ltb _ _ least, le-ltb _ _ most, rows_differ (check_of o) (low_first (crc (frame_of o))) n)

  -- what acceptance says of a frame
  pub accepted : Checks o (Ok tt) → verdict (checks o) ≡ good
  accepted e = answer_good (verdict (checks o)) tt tt e

-- what a good verdict says of a frame
module _ (o : List ℕ) (e : verdict (checks o) ≡ good) where
  pub accepted_least : 18 ≤ length o
  unfolding checks
  accepted_least = ltb-false (length o) 18 (clear (ltb (length o) 18) FrameShort _ e).0

  pub accepted_most : length o ≤ 1526
  unfolding checks
  accepted_most = ltb-false 1526 (length o) (clear (ltb 1526 (length o)) FrameLong _ (clear (ltb (length o) 18) FrameShort _ e).1).0

  pub accepted_carries : check_of o ≡ low_first (crc (frame_of o))
  unfolding checks
  accepted_carries =
      let right = same (check_of o) (low_first (crc (frame_of o))) in
      let rest = (clear (ltb 1526 (length o)) FrameLong _ (clear (ltb (length o) 18) FrameShort _ e).1).1 in
      (bytes_decides (check_of o) (low_first (crc (frame_of o)))).0 (not-false right (clear (not right) WrongCheck [] rest).0)

-- as the check is held against the octets that are there
module _ (o before four bytes : List ℕ) (sum : ℕ) (f : before ≡ frame_of o) (l : four ≡ check_of o) (s : sum ≡ crc before)
    (b : bytes ≡ low_first sum) (least : 18 ≤ length o) (most : length o ≤ 1526) where
  carried : bytes ≡ low_first (crc (frame_of o))
  carried = b ∙ ap low_first (s ∙ ap crc f)

  pub held_same : true ≡ pointwise eqb four bytes → Checks o (Ok tt)
  held_same e = check_matches o least most (sym l ∙ same_text four bytes e ∙ carried)

  pub held_other : false ≡ pointwise eqb four bytes → Checks o (Err WrongCheck)
  held_other e = check_differs o least most (λ r. other_text four bytes e (l ∙ r ∙ sym carried))

-- so what is handed back is the frame where it is accepted, and nothing where it is not
pub good_least : (o : List ℕ) → Checks o (Ok tt) → 18 ≤ length o
good_least o e = accepted_least o (accepted o e)

pub good_part : (o : List ℕ) → Checks o (Ok tt) → part_by (verdict (checks o)) o ≡ frame_of o
good_part o e = rw (accepted o e) refl

nothing_of : {A : Type 0} (v : Verdict) (a : A) (o : List ℕ) (k : Refusal) → Err k ≡ answered v a → part_by v o ≡ []
nothing_of good a o k e = cc
nothing_of (refuse r) a o k e = refl

pub refused_part : (o : List ℕ) (k : Refusal) → Checks o (Err k) → part_by (verdict (checks o)) o ≡ []
refused_part o k e = nothing_of (verdict (checks o)) tt o k e

-- four octets
pub length_low : (n : ℕ) → length (low_first n) ≡ 4
unfolding low_first
length_low n = refl

pub length_appended : (o : List ℕ) → length (appended o) ≡ length o + 4
unfolding appended
length_appended o = rw (length-append o (low_first (crc o)), length_low (crc o))

-- the verdict on a frame that is to get its check
module _ (o : List ℕ) (room : ℕ) where
  pub judged_short : length o < 14 → verdict (append_checks o room) ≡ refuse FrameShort
  unfolding append_checks verdict
  judged_short h = simp (lt-ltb _ _ h)

  pub judged_long : 14 ≤ length o → 1522 < length o → verdict (append_checks o room) ≡ refuse FrameLong
  unfolding append_checks verdict
  judged_long least h = simp (le-ltb _ _ least, lt-ltb _ _ h)

  module _ (least : 14 ≤ length o) (most : length o ≤ 1522) where
    pub judged_no_room : room < length o + 4 → verdict (append_checks o room) ≡ refuse OutputShort
    unfolding append_checks verdict
    judged_no_room h = simp (le-ltb _ _ least, le-ltb _ _ most, lt-ltb _ _ h)

    judged_good : length o + 4 ≤ room → verdict (append_checks o room) ≡ good
    unfolding append_checks verdict
    judged_good h = simp (le-ltb _ _ least, le-ltb _ _ most, le-ltb _ _ h)

-- the frame is put first, and its check next
module _ (o out : List ℕ) (least : 14 ≤ length o) (most : length o ≤ 1522) (room : length o + 4 ≤ length out) where
  pub put_length : Ok (length o + 4) ≡ answered (verdict (append_checks o (length out))) (length (appended o))
  put_length = rw (judged_good o (length out) least most room, length_appended o)

  pub put_both : (first bytes later : List ℕ) (sum : ℕ) {a b : Bool} → Puts o out a first → sum ≡ crc o → bytes ≡ low_first sum
      → Puts bytes (mid_of (length o) (length first - length o) first) b later
      → put_mid (length o) (length first - length o) first later ≡ output_by (verdict (append_checks o (length out))) (appended o) out
  unfolding appended
  put_both first bytes later sum p s l q =
      let four : length bytes ≡ 4 = rw l (length_low sum) in
      let e : bytes ≡ low_first (crc o) = l ∙ ap low_first s in
      rw (judged_good o (length out) least most room)
      (put_next o bytes out (put_first (omega arith) p) refl (omega (arith, four)) q ∙ ap (λ (b : List ℕ). put_in (o ++ b) out) e)

-- where a length is answered the verdict was good, and so many octets of the buffer are the frame with its check
by_length : (v : Verdict) (result out : List ℕ) {k : ℕ} {later : List ℕ} → Ok k ≡ answered v (length result)
    → later ≡ output_by v result out → (v ≡ good) × (take k later ≡ result)
by_length good result out {k} a b = let all : k ≡ length result = cc a in (refl, simp (all, b, take-append_seam))
by_length (refuse n) result out a b = (cc a, cc a)

pub written : (o out : List ℕ) {k : ℕ} {later : List ℕ} → Appends o out (Ok k) later
    → (14 ≤ length o) × (length o ≤ 1522) × (take k later ≡ appended o)
unfolding append_checks
written o out p =
    let room = length out in
    let w = by_length (verdict (append_checks o room)) (appended o) out p.answer p.buffer in
    let least = clear (ltb (length o) 14) FrameShort _ w.0 in
    let most = clear (ltb 1522 (length o)) FrameLong _ least.1 in
    (ltb-false (length o) 14 least.0, ltb-false 1522 (length o) most.0, w.1)

pub ruleset of_check = (check_short, check_long, held_same, held_other)

pub ruleset of_without = (good_least, good_part, refused_part)

pub ruleset of_append = (judged_short, judged_long, judged_no_room, put_length, put_both)
