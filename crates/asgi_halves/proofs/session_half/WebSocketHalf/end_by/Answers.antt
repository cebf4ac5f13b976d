use Rattle.asgi_halves.proofs.{SessionEndLemmas.ends_silent, SessionWords.EndKind, SessionWords.Outcome, SessionWords.Stage, SessionWords.ap, SessionWords.refl, SessionWords.◌∙◌}
use Rattle.asgi_halves.proofs.session_half.WebSocketHalf.end_by.Goals as goal

pub returns-in-Idle : goal.returns-in-Idle
returns-in-Idle g c =
    record { leads = λ scene read view x. ends_silent x EndKind.Idle (c.requires.ending ∙ ap (λ (k : EndKind). Stage.Ending k) c.in-Idle.is) Outcome.Idle refl refl refl }
