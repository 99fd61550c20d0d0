-- An answer as one number, as every door gives it: 0 is done, 1 to 99 the refusal's, and from 100 on it names the answer. Assumes nothing.
use Rattle.std.specs.Prelude.{ℕ, ◌≡◌, Result, Ok, Err}
use Rattle.octets.specs.declared.Refusal.{Refusal}
use Rattle.octets.specs.Refusals.{number}
use Rattle.answers.specs.declared.Answer.{Answer}
use Rattle.answers.specs.declared.Answer.TheVariants.{Pass, Discard, Tick, Timeout, Reset, LatentReset, Agrees, Error}

-- the number of each answer, and of a refusal by its number
abbrev pub number_of : Result Answer ℕ → ℕ
number_of (Ok Pass) = 109
number_of (Ok Discard) = 110
number_of (Ok Tick) = 111
number_of (Ok Timeout) = 112
number_of (Ok Reset) = 0
number_of (Ok LatentReset) = 0
number_of (Ok Agrees) = 113
number_of (Ok Error) = 114
number_of (Err n) = n

-- and of a refusal by name
abbrev pub code_of : Result Answer Refusal → ℕ
code_of (Ok answer) = number_of (Ok answer)
code_of (Err refusal) = number refusal

-- the promises: of `number_of`
abbrev pub Numbers : Result Answer ℕ → ℕ → Type 0
Numbers answer r = r ≡ number_of answer

-- of `code`
abbrev pub Codes : Result Answer Refusal → ℕ → Type 0
Codes answer r = r ≡ code_of answer
