use Rattle.script_form.specs.Form.{fill}
use Rattle.script_answers.proofs.Lines.{as_printed}
use Rattle.script_answers.proofs.filled.Goals as goal

pub returns : goal.returns
returns c =
    let a = c.args in
    as_printed (fill a.digits a.form.now a.values.now) _ c.write_form-length.ensures.0 c.write_form-length.ensures.1
