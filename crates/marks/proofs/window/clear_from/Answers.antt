-- Marks that are the same cut off have none above.
use Rattle.std.proofs.Common.{◌∙◌, rules}
use Rattle.marks.proofs.Words.{clear_by}
use Rattle.marks.proofs.window.clear_from.Goals as goal

pub returns : goal.returns
returns c =
    let a = c.args in
    c.same.ensures ∙ clear_by a.history a.marks _ (search rules) c.cut.ensures
