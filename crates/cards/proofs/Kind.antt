-- What stands next goes by the kind and its two checks. The laws say so of the whole payload, as the code reads it. Assumes nothing.
use Prim.Native.Nat.{ℕ, suc, ◌≤◌, ◌<◌, zero-le}
use native.Mathlib.Omega.{arith}
use mathlib.Core.Path.{◌≡◌, refl, sym, ap, ◌∙◌}
use mathlib.Core.Bool.{true, not}
use mathlib.Core.Logic.{◌≢◌}
use mathlib.Core.List.{List, [], ◌∷◌}
use lib.ListN.{length, get_or, drop, length-drop}
use lib.Dec.{eqb, ltb, lit<}
use borrow.Author.Tests.{lt-ltb, le-ltb, ne_eqb, eqb-true, ltb-false, not-false}
use Rattle.std.specs.Prelude.{Result, Ok, Err}
use Rattle.octets.specs.declared.Refusal.{Refusal}
use Rattle.octets.specs.declared.Refusal.TheVariants.{CardKind, CardCut}
use Rattle.octets.specs.Number.{be16, be32}
use Rattle.octets.specs.Checks.{Verdict, answered}
use Rattle.octets.proofs.Bools.{either}
use Rattle.cards.specs.Payload.{next_kind, known, octets_after, of_kind, standing, next_card}
use Rattle.cards.specs.declared.Card.{Card}
use Rattle.cards.specs.declared.Card.TheVariants.{FlushOrder, RawCode, Millivolts, End}

pub first_octet : (o : List ℕ) → next_kind o ≡ get_or o 0 0
first_octet [] = refl
first_octet (kind ∷ body) = refl

module _ (o : List ℕ) {k : ℕ} (at : next_kind o ≡ k) where
  -- no such kind
  pub other : k ≢ 0x00 → k ≢ 0x10 → k ≢ 0x11 → k ≢ 0x12 → Err CardKind ≡ next_card o
  unfolding next_card
  other a b c d = simp (at, ne_eqb k 0x00 a, ne_eqb k 0x10 b, ne_eqb k 0x11 c, ne_eqb k 0x12 d)

  -- a kind whose octets are cut, and one whose octets are there
  module _ (is : known k ≡ true) where
    pub cut : 0 < octets_after k → length o < suc (octets_after k) → Err CardCut ≡ next_card o
    unfolding next_card
    cut some h = simp (at, is, lt-ltb (length (drop 1 o)) (octets_after k) (simp length-drop (omega arith)))

    pub whole : octets_after k ≤ length (drop 1 o) → Ok (of_kind k (drop 1 o)) ≡ next_card o
    unfolding next_card
    whole h = simp (at, is, le-ltb (length (drop 1 o)) (octets_after k) h)

-- the octets after the kind are there, and the number that they give
pub there : (o : List ℕ) {n : ℕ} → suc n ≤ length o → n ≤ length (drop 1 o)
there o h = simp length-drop (omega arith)

pub after16 : (o : List ℕ) → be16 o 1 ≡ be16 (drop 1 o) 0
unfolding be16
after16 [] = refl
after16 (kind ∷ body) = refl

pub after32 : (o : List ℕ) → be32 o 1 ≡ be32 (drop 1 o) 0
unfolding be32
after32 [] = refl
after32 (kind ∷ body) = refl

-- the same of the octet and the words that the code reads
module _ (o : List ℕ) {k : ℕ} (is : k ≡ get_or o 0 0) where
  kind_is : {n : ℕ} → k ≡ n → next_kind o ≡ n
  kind_is e = first_octet o ∙ sym is ∙ e

  pub read_end : k ≡ 0x00 → Ok End ≡ next_card o
  read_end e = whole o (kind_is e) refl zero-le

  pub read_order : {w : ℕ} → w ≡ be32 o 1 → k ≡ 0x10 → 5 ≤ length o → Ok (FlushOrder w) ≡ next_card o
  read_order f e h = ap (λ (n : ℕ). Ok (FlushOrder n)) (f ∙ after32 o) ∙ whole o (kind_is e) refl (there o h)

  pub read_code : {w : ℕ} → w ≡ be16 o 1 → k ≡ 0x11 → 3 ≤ length o → Ok (RawCode w) ≡ next_card o
  read_code f e h = ap (λ (n : ℕ). Ok (RawCode n)) (f ∙ after16 o) ∙ whole o (kind_is e) refl (there o h)

  pub read_millivolts : {w : ℕ} → w ≡ be16 o 1 → k ≡ 0x12 → 3 ≤ length o → Ok (Millivolts w) ≡ next_card o
  read_millivolts f e h = ap (λ (n : ℕ). Ok (Millivolts n)) (f ∙ after16 o) ∙ whole o (kind_is e) refl (there o h)

  pub read_cut : (n : ℕ) → k ≡ n → known n ≡ true → 0 < octets_after n → length o < suc (octets_after n) → Err CardCut ≡ next_card o
  read_cut n e is some h = cut o (kind_is e) is some h

  pub read_cut_order : k ≡ 0x10 → length o < 5 → Err CardCut ≡ next_card o
  read_cut_order e = read_cut 0x10 e refl (lit< tt)

  pub read_cut_code : k ≡ 0x11 → length o < 3 → Err CardCut ≡ next_card o
  read_cut_code e = read_cut 0x11 e refl (lit< tt)

  pub read_cut_millivolts : k ≡ 0x12 → length o < 3 → Err CardCut ≡ next_card o
  read_cut_millivolts e = read_cut 0x12 e refl (lit< tt)

  pub read_other : k ≢ 0x00 → k ≢ 0x10 → k ≢ 0x11 → k ≢ 0x12 → Err CardKind ≡ next_card o
  read_other = other o (kind_is refl)

pub ruleset of_next = (read_end, read_order, read_code, read_millivolts, read_cut, read_other)

-- To show something of the card that a kind and its octets give, show it of the end and of each card whose octets are there.
of_each : (P : Card → Type 0) (k : ℕ) (body : List ℕ) → known k ≡ true → octets_after k ≤ length body → P End
    → (k ≡ 0x10 → 4 ≤ length body → P (FlushOrder (be32 body 0)))
    → (k ≡ 0x11 → 2 ≤ length body → P (RawCode (be16 body 0)))
    → (k ≡ 0x12 → 2 ≤ length body → P (Millivolts (be16 body 0)))
    → P (of_kind k body)
of_each P k body is there e f r m =
    either P (eqb k 0x00) (λ _. e)
    (λ no00.
    either P (eqb k 0x10) (λ yes. f (eqb-true k 0x10 yes) (simp (no00, yes) at there))
    (λ no10.
    let two : 2 ≤ length body = simp (no00, no10) at there in
    either P (eqb k 0x11) (λ yes. r (eqb-true k 0x11 yes) two)
    (λ no11. m (eqb-true k 0x12 (simp (no00, no10, no11) at is)) two)))

-- The same of what stands next, and of both refusals.
pub each : (P : Result Card Refusal → Type 0) (o : List ℕ) → P (Ok End) → P (Err CardKind) → P (Err CardCut)
    → (next_kind o ≡ 0x10 → 5 ≤ length o → P (Ok (FlushOrder (be32 (drop 1 o) 0))))
    → (next_kind o ≡ 0x11 → 3 ≤ length o → P (Ok (RawCode (be16 (drop 1 o) 0))))
    → (next_kind o ≡ 0x12 → 3 ≤ length o → P (Ok (Millivolts (be16 (drop 1 o) 0))))
    → P (next_card o)
unfolding next_card
each P o e r20 r21 f r m =
    let k = next_kind o in
    let body = drop 1 o in
    either of-verdict (not (known k)) (λ _. r20)
    (λ is.
    either of-verdict (ltb (length body) (octets_after k)) (λ _. r21)
    (λ there.
    of_each (λ c. P (Ok c)) k body (not-false _ is) (ltb-false (length body) (octets_after k) there) e
    (λ at h. f at (longer 4 h (lit< tt)))
    (λ at h. r at (longer 2 h (lit< tt)))
    (λ at h. m at (longer 2 h (lit< tt)))))
  where
    of-verdict : Verdict → Type 0
    of-verdict v = P (answered v (standing o))

    longer : (n : ℕ) → n ≤ length (drop 1 o) → 0 < n → suc n ≤ length o
    longer n h p = omega (arith, length-drop 1 o)
