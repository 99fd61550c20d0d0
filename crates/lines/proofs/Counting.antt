-- The counters while they are written: those that stand on the page, and those still to come. Assumes nothing.
use Prim.Native.Nat.{ℕ, suc, ◌+◌, ◌≤◌, ◌<◌}
use native.Mathlib.Numerals.{add-one}
use native.Mathlib.Omega.{arith}
use mathlib.Core.Path.{◌≡◌, refl, sym, ap, ◌∙◌}
use mathlib.Core.List.{List, [], ◌∷◌, ◌++◌, append_assoc, append-nil}
use lib.ListN.{length, drop, get_or}
use lib.Seq.{drop-cons, get_or-append-add}
use Prim.Native.String.{String}
use Rattle.lines.specs.Lines.{octets_of, decimal, labels, counted, counters_text, longest}
use Rattle.lines.specs.Words.{line_words, words, word_at, Appends, AppendsWithin}
use Rattle.lines.proofs.Growth.{one_behind_other, like, nothing}

-- what the labels and their numbers need at most
abbrev pub most : List String → ℕ
most [] = 0
most (label ∷ rest) = length (octets_of label) + 20 + most rest

-- i counters are written, up to r
pub record Counting (counters page₀ : List ℕ) (at : ℕ) (page : List ℕ) (r i : ℕ) : Type 0 where
  pub few : i ≤ 9
  pub part : List ℕ
  pub appends : Appends part page₀ at r page
  pub room : r + most (drop i labels) + 1 ≤ at + longest
  pub texts : part ++ counted (drop i labels) (drop i counters) ≡ counted labels counters

pub begins : (counters page : List ℕ) (at : ℕ) → at + longest ≤ length page → Counting counters page at page at 0
unfolding labels
begins counters page at room =
    record { few = omega arith; part = []; appends = nothing page at (omega arith); room = omega arith; texts = refl }

-- the word of counter i is its label
label_word : (i : ℕ) → word_at (10 + i) ≡ octets_of (get_or labels i "")
unfolding words line_words
label_word i = ap octets_of (get_or-append-add line_words labels i "")

first_of : (i : ℕ) → i < 9 → drop i labels ≡ get_or labels i "" ∷ drop (suc i) labels
unfolding labels
first_of i p = drop-cons labels i "" p

module _
    {counters page₀ page : List ℕ}
    {at r i : ℕ}
    (nine : length counters ≡ 9)
    (before : Counting counters page₀ at page r i)
    (p : i < 9)
  where
    -- there is room for the next counter and for the newline
    pub next_room : r + length (word_at (10 + i)) + 20 + 1 ≤ at + longest
    next_room = rw (label_word i) (omega (arith, before.room, ap most (first_of i p)))

    pub goes_on : {r' : ℕ} {later : List ℕ}
        → AppendsWithin (length (word_at (10 + i)) + 20) (word_at (10 + i) ++ decimal (get_or counters i 0)) page r r' later
        → Counting counters page₀ at later r' (i + 1)
    unfolding counted
    goes_on x =
        let next : i + 1 ≡ suc i = add-one i in
        let label = octets_of (get_or labels i "") in
        let one = label ++ decimal (get_or counters i 0) in
        let written : Appends one page r _ _ = like (ap (λ (l : List ℕ). l ++ decimal (get_or counters i 0)) (label_word i)) x.appends in
        let rest : counted (drop i labels) (drop i counters) ≡ one ++ counted (drop (suc i) labels) (drop (suc i) counters) =
        rw (first_of i p, drop-cons counters i 0 (omega (arith, nine))) refl in
        record {
          few = omega arith;
          part = before.part ++ one;
          appends = one_behind_other before.appends written;
          room = rw next (omega (arith, before.room, x.short, ap most (first_of i p), ap length (label_word i)));
          texts = rw (next, append_assoc before.part one) (rw (← rest) before.texts);
        }

-- the newline behind all nine
pub ends : {counters page₀ page later : List ℕ} {at r r' i : ℕ} → Counting counters page₀ at page r i → 9 ≤ i
    → Appends (word_at 9) page r r' later → AppendsWithin longest (counters_text counters) page₀ at r' later
unfolding counted counters_text words line_words labels
ends {counters} {i = i} done all x =
    let nine : i ≡ 9 = omega (arith, done.few) in
    let whole : done.part ≡ counted labels counters = sym (append-nil done.part) ∙ rw nine at done.texts in
    record {
      appends = like (ap (λ (l : List ℕ). l ++ octets_of "\n") whole) (one_behind_other done.appends x);
      short = omega (arith, done.room, x.ends);
    }
