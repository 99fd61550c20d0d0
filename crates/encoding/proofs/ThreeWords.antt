-- The three words of an encoding, as its six octets say them. Assumes nothing.
use Prim.Native.Nat.{ℕ, ◌%◌, ◌<◌}
use native.Mathlib.Omega.{arith}
use mathlib.Core.Path.{◌≡◌, refl}
use mathlib.Core.Bool.{true, false}
use mathlib.Core.List.{[], ◌∷◌}
use lib.ListN.{length}
use Rattle.octets.specs.Number.{be16}
use Rattle.octets.proofs.Bools.{by_cases}
use Rattle.encoding.specs.declared.Encoding.{Encoding}
use Rattle.encoding.specs.declared.Encoding.TheVariants.{RTag, Hsr, Prp}
use Rattle.encoding.specs.Encodings.{in_front, mark, id_and_size, id_word, words, as_octets, six, number_at, id_in}

-- any three words as octets
module _ (a b c : ℕ) where
  first : be16 (as_octets (a ∷ b ∷ c ∷ [])) 0 ≡ a
  unfolding be16 as_octets
  first = omega arith

  second : be16 (as_octets (a ∷ b ∷ c ∷ [])) 2 ≡ b
  unfolding be16 as_octets
  second = omega arith

  third : be16 (as_octets (a ∷ b ∷ c ∷ [])) 4 ≡ c
  unfolding be16 as_octets
  third = omega arith

-- the size and the id that the word between says
pub size_between : (e : Encoding) (id size : ℕ) → in_front e ≡ false → size < 4096 → id_word e id size % 4096 ≡ size
unfolding in_front id_word id_and_size
size_between RTag id size f s = cc
size_between Hsr id size f s = cc
size_between Prp id size f s = omega arith

-- a word of a trailer with that size is written again from its id
pub written_again : (e : Encoding) (word size : ℕ) → in_front e ≡ false → word < 65536 → word % 4096 ≡ size
    → word ≡ id_word e (id_in e word) size
unfolding in_front id_word id_and_size id_in
written_again RTag word size f small s = cc
written_again Hsr word size f small s = cc
written_again Prp word size f small s = omega arith

module _ (e : Encoding) (number id size : ℕ) where
  pub six_long : length (six e number id size) ≡ 6
  unfolding six words as_octets
  six_long = by_cases (in_front e) (λ f. rw f refl) (λ f. rw f refl)

  pub mark_first : in_front e ≡ true → be16 (six e number id size) 0 ≡ mark e
  unfolding six words
  mark_first f = rw f (first (mark e) (id_word e id size) number)

  pub mark_last : in_front e ≡ false → be16 (six e number id size) 4 ≡ mark e
  unfolding six words
  mark_last f = rw f (third number (id_word e id size) (mark e))

  pub id_between : be16 (six e number id size) 2 ≡ id_word e id size
  unfolding six words
  id_between =
      by_cases (in_front e) (λ f. rw f (second (mark e) (id_word e id size) number)) (λ f. rw f (second number (id_word e id size) (mark e)))

  pub number_there : be16 (six e number id size) (number_at e) ≡ number
  unfolding six words number_at
  number_there =
      by_cases (in_front e) (λ f. rw f (third (mark e) (id_word e id size) number)) (λ f. rw f (first number (id_word e id size) (mark e)))
