-- A reading is judged by the calibration, and then as its card is. Assumes nothing.
use Prim.Native.Nat.{ℕ}
use mathlib.Core.Path.{◌≡◌, refl, sym, ◌∙◌}
use mathlib.Core.Bool.{true, false}
use mathlib.Core.List.{List}
use Rattle.std.specs.Prelude.{Result, Ok, Err}
use Rattle.octets.specs.declared.Refusal.{Refusal}
use Rattle.octets.specs.declared.Refusal.TheVariants.{CalibrationRange}
use Rattle.octets.specs.Checks.{Verdict, good, refuse, verdict, answered}
use Rattle.cards.specs.Payload.{card_checks, standing, next_card}
use Rattle.volts.specs.Reading.{accepted, volts_of, reading}
use Rattle.cards.specs.declared.Card.{Card}
use Rattle.volts.specs.declared.Calibration.{Calibration}
use Rattle.volts.specs.declared.Volts.{Volts}

-- what the next card or its refusal comes to
abbrev pub volts_next : Result Card Refusal → Calibration → Result Volts Refusal
volts_next (Ok k) c = Ok (volts_of k c)
volts_next (Err r) c = Err r

same_verdict : (v : Verdict) (k : Card) (c : Calibration) → volts_next (answered v k) c ≡ answered v (volts_of k c)
same_verdict good k c = refl
same_verdict (refuse r) k c = refl

module _ (o : List ℕ) (c : Calibration) where
  pub read_accepted : true ≡ accepted c → volts_next (next_card o) c ≡ reading o c
  unfolding next_card reading
  read_accepted ok = same_verdict (verdict (card_checks o)) (standing o) c ∙ simp (sym ok)

  pub read_refused : false ≡ accepted c → Err CalibrationRange ≡ reading o c
  unfolding reading
  read_refused bad = simp (sym bad)

  -- by what the next card reads as
  pub read_card : (k : Card) → true ≡ accepted c → Ok k ≡ next_card o → Ok (volts_of k c) ≡ reading o c
  read_card k ok e = rw (← e) at (read_accepted ok)

  pub read_none : (k : Refusal) → true ≡ accepted c → Err k ≡ next_card o → Err k ≡ reading o c
  read_none k ok e = rw (← e) at (read_accepted ok)
