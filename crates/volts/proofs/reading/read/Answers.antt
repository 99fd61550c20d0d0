-- A card's refusal is handed on.
use Rattle.std.proofs.lemmas.Result.{err_from_is_err_and}
use Rattle.volts.proofs.Judged.{read_none}
use Rattle.volts.proofs.reading.read.Goals as goal

pub returns-in_err-card : goal.returns-in_err-card
returns-in_err-card c =
    let p = err_from_is_err_and c.from_residual.result c.from_residual.ensures.1 in
    rw (p.1, p.2) (read_none c.args.payload.now c.args.calibration _ c.if-not-accepts.ensures c.in_err-card.ensures)
