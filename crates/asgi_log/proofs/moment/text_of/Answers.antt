use Rattle.std.proofs.Common.{◌∙◌, ap, Bool, ℕ, Option, ◌++◌}
use Rattle.jiff_fmt.specs.Text.{datetime_text, zulu_text}
use Rattle.asgi_log.proofs.moment.text_of.Goals as goal

pub returns : goal.returns
returns c =
    let t = c.timestamp_text.ensures in
    (t.0, t.1, t.2 ∙ ap (λ (o : Bool × ℕ × Option ℕ). datetime_text o.0 o.1 o.2 t.0 ++ zulu_text o.0) c.printer.ensures)
