-- What is known of a frame that reading accepts. Assumes nothing.
use Prim.Native.Nat.{ℕ, ◌+◌, ◌≤◌}
use mathlib.Core.Path.{◌≡◌, refl, sym, ◌∙◌}
use mathlib.Core.Bool.{true, false, cond}
use mathlib.Core.List.{List, [], ◌++◌}
use lib.ListN.{length}
use borrow.Author.Tests.{ltb-false, eqb-false}
use Rattle.std.specs.Prelude.{Ok, Err}
use Rattle.octets.specs.Number.{be16}
use Rattle.octets.specs.declared.Refusal.{Refusal}
use Rattle.octets.specs.Checks.{Check, Verdict, good, refuse, verdict, answered, ◌then◌}
use Rattle.octets.proofs.Bools.{by_cases, neither}
use Rattle.octets.proofs.Order.{verdict_append, clear, both_good}
use Rattle.frame.specs.declared.Header.{Header}
use Rattle.frame.specs.Layout.{C_TAG, tagged, vlan, tag_place, announces, sequenced, payload_place, kind_place}
use Rattle.frame.specs.Reader.{Before, length_checks, ctag_checks, sequence_checks, checks, ctag, header, reading}

-- the answer tells the verdict: a header is given exactly of a good frame, and it is the frame's
pub frame_good : (o : List ℕ) {h : Header} → Ok h ≡ reading o → (verdict (checks o) ≡ good) × (h ≡ header o)
unfolding reading
frame_good o {h} e = by_verdict (verdict (checks o)) e
  where
    by_verdict : (v : Verdict) → Ok h ≡ answered v (header o) → (v ≡ good) × (h ≡ header o)
    by_verdict good e = (refl, cc)
    by_verdict (refuse n) e = (cc, cc)

pub good_frame : (o : List ℕ) → verdict (checks o) ≡ good → Ok (header o) ≡ reading o
unfolding reading
good_frame o e = simp e

pub refused_by : (o : List ℕ) {n : Refusal} → Err n ≡ reading o → verdict (checks o) ≡ refuse n
unfolding reading
refused_by o {n} e = by_verdict (verdict (checks o)) e
  where
    by_verdict : (v : Verdict) → Err n ≡ answered v (header o) → v ≡ refuse n
    by_verdict good e = cc
    by_verdict (refuse m) e = cc

-- checks after those of reading: a refusal of reading decides; where reading accepts, the others do
pub read_refused : (o : List ℕ) (more : List Check) {k : Refusal} → Err k ≡ reading o → verdict (checks o ++ more) ≡ refuse k
unfolding ◌then◌
read_refused o more e = simp (verdict_append, refused_by o e)

pub read_good : (o : List ℕ) (more : List Check) {h : Header} → Ok h ≡ reading o → verdict (checks o ++ more) ≡ verdict more
unfolding ◌then◌
read_good o more e = simp (verdict_append, (frame_good o e).0)

-- where the payload starts with a sequence tag, and without one
pub payload_tagged : (o : List ℕ) → sequenced o ≡ true → payload_place o ≡ tag_place o + 6 + 2
unfolding payload_place kind_place
payload_tagged o s = rw s

pub payload_bare : (o : List ℕ) → sequenced o ≡ false → payload_place o ≡ tag_place o + 2
unfolding payload_place kind_place
payload_bare o s = rw s

module _ (o : List ℕ) (ok : verdict (checks o) ≡ good) where
  parts_good : (verdict (length_checks o) ≡ good)
      × (verdict (cond (tagged o) (ctag_checks o) [] ++ cond (sequenced o) (sequence_checks o) []) ≡ good)
  unfolding checks
  parts_good = both_good _ _ (sym (verdict_append (length_checks o) _) ∙ ok)

  tags_good : (verdict (cond (tagged o) (ctag_checks o) []) ≡ good) × (verdict (cond (sequenced o) (sequence_checks o) []) ≡ good)
  tags_good = both_good _ _ (sym (verdict_append (cond (tagged o) (ctag_checks o) []) _) ∙ parts_good.1)

  pub least : 14 ≤ length o
  unfolding length_checks
  least = ltb-false _ _ (clear _ _ _ parts_good.0).0

  pub most : length o ≤ 1522
  unfolding length_checks
  most = ltb-false _ _ (clear _ _ _ (clear _ _ _ parts_good.0).1).0

  -- at a C-TAG: the octets reach past the type behind it, the VLAN id is not 4,095, and no second C-TAG follows
  pub behind_ctag : tagged o ≡ true → (18 ≤ length o) × (vlan o ≡ 4095 → ⊥) × (be16 o 16 ≡ C_TAG → ⊥)
  unfolding ctag_checks
  behind_ctag t =
      let g = clear _ _ _ (simp t at tags_good.0) in
      let v = clear _ _ _ g.1 in
      (ltb-false _ _ g.0, eqb-false _ _ v.0, eqb-false _ _ (clear _ _ _ v.1).0)

  -- at a sequence tag: the octets reach past the type behind it, and no tag follows
  pub behind_tag : sequenced o ≡ true
      → (tag_place o + 6 + 2 ≤ length o) × (be16 o (tag_place o + 6) ≡ C_TAG → ⊥) × (announces (be16 o (tag_place o + 6)) ≡ false)
  unfolding sequence_checks
  behind_tag n =
      let g = clear _ _ _ (simp n at tags_good.1) in
      let e = neither _ _ (clear _ _ _ g.1).0 in
      (ltb-false _ _ g.0, eqb-false _ _ e.0, e.1)

  -- so only the checks at a sequence tag were left when its place was reached
  pub good_before : Before o (tag_place o) (ctag o)
  good_before = record { place = refl; is_vlan = refl; left = ok ∙ sym tags_good.1 }

  -- what stands at the sequence tag's place is no C-TAG
  pub no_ctag : be16 o (tag_place o) ≡ C_TAG → ⊥
  unfolding tag_place tagged
  no_ctag = by_cases (tagged o) (λ e. rw e (behind_ctag e).2) (λ e. rw e (eqb-false _ _ e))

  -- the payload starts within the frame
  pub payload_within : payload_place o ≤ length o
  unfolding tag_place
  payload_within =
      by_cases (sequenced o) (λ n. rw (payload_tagged o n) (behind_tag n).0)
      (λ n. rw (payload_bare o n) (by_cases (tagged o) (λ t. rw t (behind_ctag t).0) (λ t. rw t least)))

-- the same of the header that was read
pub starts_within : (o : List ℕ) {h : Header} → Ok h ≡ reading o → h.payload ≤ length o
unfolding header
starts_within o e = let g = frame_good o e in rw g.1 (payload_within o g.0)
