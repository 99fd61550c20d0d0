-- A sound state whose history has no more marks than a word has none past the first. Assumes nothing.
use Prim.Native.Nat.{ℕ, ◌≤◌}
use mathlib.Core.Path.{◌≡◌, refl, sym, ap}
use mathlib.Core.Bool.{true}
use mathlib.Core.List.{List, [], ◌∷◌}
use lib.ListN.{get_or}
use borrow.Author.Tests.{eqb-true}
use Rattle.octets.proofs.Bools.{both}
use Rattle.marks.specs.declared.Marks.{Marks}
use Rattle.marks.proofs.Counted.{raised, first_alone}
use Rattle.recovery.specs.declared.State.{State}
use Rattle.recovery.specs.Soundness.{sound}
use Rattle.recovery.proofs.SoundLaws.{sound_says}
use Rattle.recovery.specs.Storage.{stored_state}
use Rattle.states.specs.Fields.{word, none_past, marks_in, short_in}

-- the words of marks past the first
abbrev pub past : Marks → List ℕ
past marks = marks.w1 ∷ marks.w2 ∷ marks.w3 ∷ marks.w4 ∷ marks.w5 ∷ marks.w6 ∷ marks.w7 ∷ []

pub short_has_none : (s : State) → sound s ≡ true → s.setup.history ≤ 64 → past s.marks ≡ raised 7 []
short_has_none s ok short = first_alone s.setup.history s.marks short (sound_says s ok).clear_above

at : {a b : List ℕ} → a ≡ b → (i : ℕ) → get_or a i 0 ≡ get_or b i 0
at e i = ap (λ (l : List ℕ). get_or l i 0) e

-- marks are their words, the first and those past it
same_past : (a b : Marks) → a.w0 ≡ b.w0 → past a ≡ past b → a ≡ b
same_past a b first others =
    rw (first, at others 0, at others 1, at others 2, at others 3, at others 4, at others 5, at others 6)

module _ (w : List ℕ) where
  pub known : none_past w ≡ true → past (marks_in w) ≡ raised 7 []
  unfolding raised
  known e =
      let g = both _ _ e in
      let f = both _ _ g.0 in
      let t = both _ _ f.0 in
      let r = both _ _ t.0 in
      let q = both _ _ r.0 in
      let p = both _ _ q.0 in
      rw (
        eqb-true (word 11 w) 0 p.0,
        eqb-true (word 12 w) 0 p.1,
        eqb-true (word 13 w) 0 q.1,
        eqb-true (word 14 w) 0 r.1,
        eqb-true (word 15 w) 0 t.1,
        eqb-true (word 16 w) 0 f.1,
        eqb-true (word 17 w) 0 g.1,
      )

  -- words that are 0 need not be read
  pub first_word : none_past w ≡ true → record { w0 = word 10 w; w1 = 0; w2 = 0; w3 = 0; w4 = 0; w5 = 0; w6 = 0; w7 = 0 } ≡ marks_in w
  unfolding raised
  first_word e = same_past _ (marks_in w) refl (sym (known e))

  -- a short state is put with the words past the first as they are
  pub same_short : (s : State) → past (marks_in w) ≡ past s.marks → short_in w s ≡ s
  same_short s e =
      ap (λ (m : Marks). stored_state s.setup s.newest m s.first s.take_any s.left.0 s.counters s.base)
      (same_past _ s.marks refl e)
