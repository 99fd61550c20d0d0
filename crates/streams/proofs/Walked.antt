-- The walk over a table, entry by entry: what the checks of the entry at a place decide, and what it gives. Assumes nothing.
use Prim.Native.Nat.{ℕ, zero, suc, ◌+◌, ◌-◌, ◌≤◌, ◌<◌}
use native.Mathlib.Omega.{arith}
use mathlib.Core.Path.{◌≡◌, refl, sym, ◌∙◌, ap}
use mathlib.Core.Bool.{true, false}
use mathlib.Core.List.{List, [], ◌∷◌}
use lib.Dec.{ltb}
use lib.ListN.{length, get_or, take, drop, length-take, length-drop, drop_of_length-le}
use lib.Seq.{drop-cons, drop-drop}
use borrow.Author.Tests.{le-ltb, ltb-false, le-leb, lt-leb, leb-false, eq-eqb, ne_eqb, eqb-false}
use Rattle.std.specs.Prelude.{Some, None}
use Rattle.octets.specs.declared.Refusal.{Refusal}
use Rattle.octets.specs.declared.Refusal.TheVariants.{EntryKind, TooManyEntries}
use Rattle.octets.specs.Checks.{good, refuse, verdict, ◌then◌}
use Rattle.octets.proofs.Bools.{ltb_same}
use Rattle.octets.proofs.Order.{verdict_append, clear, both_good}
use Rattle.frame.specs.declared.Header.{Header}
use Rattle.entry.specs.Contents.{kind, body_length, handle, unfit}
use Rattle.entry.specs.Matching.{matches}
use Rattle.streams.specs.Table.{entries_after, entries, entry_checks, table_checks, first_match}
use Rattle.streams.specs.declared.table.Place.{Place}
use Rattle.streams.specs.Walk.{behind, entry_verdict, verdict_from}

-- octets that belong to the entry before are passed over
passed_over : (left : ℕ) (t : List ℕ) → entries_after left t ≡ entries (drop left t)
unfolding entries_after entries
passed_over zero t = refl
passed_over (suc left) [] = refl
passed_over (suc left) (x ∷ t) = passed_over left t

entries_cons : (kind : ℕ) (t : List ℕ) → entries (kind ∷ t) ≡ (kind ∷ take (body_length kind) t) ∷ entries (drop (body_length kind) t)
unfolding entries_after entries
entries_cons kind t = ap (λ (es : List (List ℕ)). (kind ∷ take (body_length kind) t) ∷ es) (passed_over (body_length kind) t)

-- the octets of an entry that stands at a place, with a body of that length
abbrev pub entry_at : List ℕ → ℕ → ℕ → List ℕ
entry_at t at body = take (suc body) (drop at t)

module _ (t : List ℕ) (place : Place) where
  -- behind the last entry
  pub none_left : length t ≤ place.at → verdict_from t place ≡ good
  unfolding verdict_from entries entries_after table_checks verdict
  none_left past = simp (drop_of_length-le t past)

  pub none_matches : (h : Header) (p : List ℕ) → length t ≤ place.at → first_match (entries (drop place.at t)) h p ≡ None
  unfolding entries entries_after first_match
  none_matches h p past = simp (drop_of_length-le t past)

  -- the entry at a place within the table
  module _ (within : place.at < length t) {body : ℕ} (b : body ≡ body_length (get_or t place.at 0)) where
    entries_at : entries (drop place.at t) ≡ entry_at t place.at body ∷ entries (drop (place.at + (1 + body)) t)
    entries_at =
        let m : place.at + (1 + body) ≡ suc place.at + body = omega arith in
        rw m (simp (drop-cons t place.at 0 within, entries_cons, drop-drop, b))

    kind_at : body_length (kind (entry_at t place.at body)) ≡ body
    unfolding kind
    kind_at = rw (drop-cons t place.at 0 within) (sym b)

    -- its own checks come first, then those of the entries behind it
    checked_at : verdict_from t place ≡ verdict (entry_checks place.passed (entry_at t place.at body)) then verdict_from t (behind place body)
    unfolding verdict_from table_checks
    checked_at = simp (entries_at, verdict_append)

    decides : {n : Refusal} → verdict (entry_checks place.passed (entry_at t place.at body)) ≡ refuse n → verdict_from t place ≡ refuse n
    unfolding ◌then◌
    decides e = simp (checked_at, e)

    pub too_many : 256 ≤ place.passed → verdict_from t place ≡ refuse TooManyEntries
    unfolding entry_checks verdict
    too_many l = decides (simp (le-leb _ _ l))

    module _ (few : place.passed < 256) where
      pub unknown : body ≡ 0 → verdict_from t place ≡ refuse EntryKind
      unfolding entry_checks verdict
      unknown z = decides (simp (lt-leb _ _ few, kind_at, eq-eqb _ _ z))

      -- one with a body: where its octets are there and in range, those behind it decide
      module _ (known : body ≡ 0 → ⊥) where
        pub by_entry : verdict_from t place ≡ entry_verdict t place.at (suc body) then verdict_from t (behind place body)
        unfolding entry_checks verdict entry_verdict
        by_entry =
            let long = length-take (suc body) (drop place.at t) in
            let room = length-drop place.at t in
            let cut : ltb (length (entry_at t place.at body)) (1 + body) ≡ ltb (length t - place.at) (suc body)
            = ltb_same (λ l. omega arith) (λ l. omega arith) in
            checked_at ∙ simp (lt-leb _ _ few, kind_at, ne_eqb _ _ known, cut)

        pub passes : suc body ≤ length t - place.at → unfit (entry_at t place.at body) ≡ false
            → verdict_from t place ≡ verdict_from t (behind place body)
        unfolding entry_verdict verdict ◌then◌
        passes whole fit = by_entry ∙ simp (le-ltb _ _ whole, fit)

    -- what it gives, and where it gives nothing what those behind it give
    module _ (h : Header) (p : List ℕ) where
      pub match_at : matches (entry_at t place.at body) h p ≡ true
          → first_match (entries (drop place.at t)) h p ≡ Some (handle (entry_at t place.at body))
      unfolding first_match
      match_at m = simp (entries_at, m)

      pub no_match_at : matches (entry_at t place.at body) h p ≡ false
          → first_match (entries (drop place.at t)) h p ≡ first_match (entries (drop (place.at + (1 + body)) t)) h p
      unfolding first_match
      no_match_at m = simp (entries_at, m)

    -- what a good verdict tells of it
    good_at : verdict_from t place ≡ good → verdict (entry_checks place.passed (entry_at t place.at body)) ≡ good
    good_at g = (both_good _ _ (sym checked_at ∙ g)).0

    pub good_few : verdict_from t place ≡ good → place.passed < 256
    unfolding entry_checks
    good_few g = leb-false 256 place.passed (clear _ _ _ (good_at g)).0

    pub good_known : verdict_from t place ≡ good → body ≡ 0 → ⊥
    unfolding entry_checks
    good_known g z = eqb-false _ _ (clear _ _ _ (clear _ _ _ (good_at g)).1).0 (kind_at ∙ z)

    pub good_whole : verdict_from t place ≡ good → 1 + body ≤ length t - place.at
    unfolding entry_checks
    good_whole g =
        let whole = ltb-false (length (entry_at t place.at body)) (1 + body_length (kind (entry_at t place.at body))) (clear _ _ _ (clear _ _ _ (clear _ _ _ (good_at g)).1).1).0 in
        omega (arith, whole, kind_at, length-take (suc body) (drop place.at t), length-drop place.at t)

    pub good_fit : verdict_from t place ≡ good → unfit (entry_at t place.at body) ≡ false
    unfolding entry_checks
    good_fit g = (clear _ _ _ (clear _ _ _ (clear _ _ _ (clear _ _ _ (good_at g)).1).1).1).0
