-- A payload that goes on behind its end, as by a trailer, is the same to an entry that does not read there. Assumes nothing.
use Prim.Native.Nat.{ℕ, ◌+◌, ◌≤◌, ◌<◌}
use native.Mathlib.Omega.{arith}
use mathlib.Core.Path.{◌≡◌, refl, ◌∙◌}
use mathlib.Core.Bool.{Bool, true, false, not, ◌&&◌, ◌||◌, or-true}
use mathlib.Core.List.{List, [], ◌∷◌}
use lib.ListN.{length, get_or}
use lib.Dec.{ltb, eqb}
use borrow.Author.Tests.{leb-true, le-leb, ltb-false, le-ltb}
use Rattle.std.specs.Prelude.{Ok, Err}
use Rattle.octets.specs.Number.{be16, be32}
use Rattle.octets.proofs.Bools.{by_cases, neither}
use Rattle.frame.specs.declared.Header.{Header}
use Rattle.ipv4.specs.declared.Unread.TheVariants.{Bad}
use Rattle.ipv4.specs.Reader.{version, words, header_length, dscp, later, bad, cut, header, reading}
use Rattle.entry.specs.Contents.{kind}
use Rattle.entry.specs.Ip.{ports_fit, protocol_fits, ip_fits, ip_allows}
use Rattle.entry.specs.Matching.{matches}
use Rattle.streams.specs.Table.{first_match}
use Rattle.streams.specs.SameStream.{none_ip, uncut}

-- `q` begins with all of `p`
pub record Longer (p q : List ℕ) : Type 0 where
  pub long : length p ≤ length q
  pub octet : (k : ℕ) → k < length p → get_or q k 0 ≡ get_or p k 0

-- how a bad header and a whole one read
reading_bad : (o : List ℕ) → bad o ≡ true → reading o ≡ Err Bad
unfolding reading
reading_bad o b = rw b refl

reading_whole : (o : List ℕ) → bad o ≡ false → cut o ≡ false → reading o ≡ Ok (header o)
unfolding reading
reading_whole o b c = rw (b, c) refl

split : (a b c : Bool) → ((a && b) || c) ≡ true → ((a || c) ≡ true) × ((b || c) ≡ true)
split true b c e = (refl, e)
split false b c e = (e, rw e (or-true b))

module _ (p q : List ℕ) (l : Longer p q) where
  word16 : (k : ℕ) → k + 1 < length p → be16 q k ≡ be16 p k
  unfolding be16
  word16 k h = rw (l.octet k (omega arith), l.octet (k + 1) h)

  word32 : (k : ℕ) → k + 3 < length p → be32 q k ≡ be32 p k
  unfolding be32
  word32 k h = rw (word16 k (omega arith), word16 (k + 2) (omega arith))

  module _ (enough : header_length p + 4 ≤ length p) where
    same_length : header_length q ≡ header_length p
    unfolding header_length words
    same_length = rw (l.octet 0 (omega arith))

    same_bad : bad q ≡ bad p
    unfolding bad version words
    same_bad = rw (l.octet 0 (omega arith))

    -- a header that is not bad has twenty octets, and all of them are there
    module _ (fine : bad p ≡ false) where
      twenty : 20 ≤ header_length p
      unfolding bad header_length
      twenty = omega (arith, ltb-false (words p) 5 (neither (not (eqb (version p) 4)) (ltb (words p) 5) fine).1)

      same_header : header q ≡ header p
      unfolding header dscp later
      same_header =
          let t = twenty in
          rw (
            word32 12 (omega arith),
            word32 16 (omega arith),
            l.octet 1 (omega arith),
            l.octet 9 (omega arith),
            word16 6 (omega arith),
            same_length,
          )

      whole : cut p ≡ false
      unfolding cut
      whole = le-ltb (length p) (header_length p) (omega arith)

      whole_too : cut q ≡ false
      unfolding cut
      whole_too = le-ltb (length q) (header_length q) (omega (arith, same_length, l.long))

      same_fit : (e : List ℕ) → ip_fits e (header p) q ≡ ip_fits e (header p) p
      unfolding ip_fits protocol_fits ports_fit header
      same_fit e =
          rw (
            word16 (header_length p) (omega arith),
            word16 (header_length p + 2) (omega arith),
            le-leb (header_length p + 4) (length p) enough,
            le-leb (header_length p + 4) (length q) (omega (arith, l.long)),
          )

  pub same_packet : (e : List ℕ) (type : ℕ) → uncut type p ≡ true → ip_allows e type q ≡ ip_allows e type p
  unfolding ip_allows uncut
  same_packet e type u =
      by_cases (eqb type 0x0800)
      (λ ip.
      let enough = leb-true _ _ (rw ip at u) in
      by_cases (bad p) (λ b. simp (reading_bad p b, reading_bad q (same_bad enough ∙ b)))
      (λ b.
      simp (
        reading_whole p b (whole enough b),
        reading_whole q (same_bad enough ∙ b) (whole_too enough b),
        same_header enough b,
        same_fit enough b e,
      )))
      (λ other. rw other refl)

  -- one entry: where it is of kind 4, the packet is the same
  same_entry : (e : List ℕ) (h : Header) → (not (eqb (kind e) 4) || uncut h.kind p) ≡ true → matches e h q ≡ matches e h p
  unfolding matches
  same_entry e h u =
      by_cases (eqb (kind e) 4) (λ ip. rw (same_packet e h.kind (rw ip at u)) refl) (λ other. rw other refl)

  -- and so is what a table finds
  pub same_match : (es : List (List ℕ)) (h : Header) → (none_ip es || uncut h.kind p) ≡ true → first_match es h q ≡ first_match es h p
  unfolding first_match none_ip
  same_match [] h u = refl
  same_match (e ∷ es) h u = let v = split (not (eqb (kind e) 4)) (none_ip es) _ u in rw (same_entry e h v.0, same_match es h v.1) refl
