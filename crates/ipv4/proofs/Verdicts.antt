-- What each test of a header's first octet and of its length decides. Assumes nothing.
use Prim.Native.Nat.{ℕ, ◌*◌, ◌/◌, ◌%◌, ◌≤◌, ◌<◌}
use native.Mathlib.Omega.{arith}
use mathlib.Core.Path.{◌≡◌}
use mathlib.Core.Bool.{Bool, false, or-true}
use mathlib.Core.List.{List}
use Rattle.std.specs.Prelude.{Ok, Err}
use lib.ListN.{length, get_or}
use borrow.Author.Tests.{lt-ltb, le-ltb, eq-eqb, ne_eqb}
use Rattle.octets.specs.Number.{be32}
use Rattle.ipv4.specs.declared.Header.{Header}
use Rattle.ipv4.specs.declared.Unread.TheVariants.{Bad, Cut}
use Rattle.ipv4.specs.Reader.{version, words, header_length, dscp, later, bad, cut, header, reading, Reads}

module _ (p : List ℕ) where
  pub other_version : (get_or p 0 0 / 16 ≡ 4 → ⊥) → Reads p (Err Bad)
  unfolding reading bad version
  other_version n = simp (ne_eqb _ _ n)

  pub under_five_words : get_or p 0 0 % 16 * 4 < 20 → Reads p (Err Bad)
  unfolding reading bad words
  under_five_words l = simp (lt-ltb (get_or p 0 0 % 16) 5 (omega arith), or-true)

  -- version 4, and five words or more
  module _ (four : get_or p 0 0 / 16 ≡ 4) (five : 20 ≤ get_or p 0 0 % 16 * 4) where
    good : bad p ≡ false
    unfolding bad version words
    good = simp (eq-eqb _ _ four, le-ltb (get_or p 0 0 % 16) 5 (omega arith))

    pub shorter : length p < get_or p 0 0 % 16 * 4 → Reads p (Err Cut)
    unfolding reading cut header_length words
    shorter l = simp (good, lt-ltb _ _ l)

    pub whole : get_or p 0 0 % 16 * 4 ≤ length p → Reads p (Ok (header p))
    unfolding reading cut header_length words
    whole l = simp (good, le-ltb _ _ l)

-- what is read of a whole header, field by field
pub behind_options : (p : List ℕ) {first : ℕ} → first ≡ get_or p 0 0 → first % 16 * 4 ≡ header_length p
unfolding header_length words
behind_options p f = rw f

pub says : (p : List ℕ) {source destination code protocol ports : ℕ} {behind : Bool}
    → source ≡ be32 p 12 → destination ≡ be32 p 16 → code ≡ dscp p → protocol ≡ get_or p 9 0 → behind ≡ later p → ports ≡ header_length p
    → ◌≡◌ {A = Header}
    (record {
      source = source;
      destination = destination;
      dscp = code;
      protocol = protocol;
      later = behind;
      ports = ports;
    })
    (header p)
unfolding header
says p s d c r l o = rw (s, d, c, r, l, o)
