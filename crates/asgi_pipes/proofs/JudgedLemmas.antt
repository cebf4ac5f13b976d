-- What a judge stands for after an event that was received, or sent.
use Rattle.std.proofs.Common.{◌≡◌, ◌≢◌, ℕ, Bool, List, [], ◌∷◌, ◌++◌, refl}
use Rattle.std.specs.Prelude.{◌||◌}
use Rattle.std.proofs.Math.Logic.{∥∥₁_map}
use Rattle.asgi_types.specs.declared.scope.Kind.{Kind}
use Rattle.asgi_types.specs.declared.facts.Facts.{Facts}
use Rattle.asgi_types.specs.declared.incoming.Incoming.{Incoming}
use Rattle.asgi_types.specs.declared.outgoing.Outgoing.{Outgoing}
use Rattle.asgi_protocol.specs.declared.judge.Judge.{Judge}
use Rattle.asgi_protocol.specs.declared.verdict.Verdict.{Verdict}
use Rattle.asgi_protocol.specs.declared.verdict.Verdict.TheVariants.{Pass, Ignored, Refused}
use Rattle.asgi_protocol.specs.Stages.{StandsFor}
use Rattle.asgi_protocol.specs.Verdicts.{is_disconnect}
use Rattle.asgi_pipes.specs.Disconnects.{has_disconnect}
use Rattle.asgi_pipes.proofs.DisconnectLemmas.{has-append}

pub stands_heard : (old new : Judge) (kind : Kind) (facts : Facts) (said : List Outgoing) (heard : List Incoming) (e : Incoming)
    → ((k : Kind) → (f : Facts) → (s : List Outgoing) → (d : Bool) → StandsFor old k f s d → StandsFor new k f s (d || is_disconnect e))
    → ∥ StandsFor old kind facts said (has_disconnect heard) ∥₁ → ∥ StandsFor new kind facts said (has_disconnect (heard ++ e ∷ [])) ∥₁
stands_heard old new kind facts said heard e goes stands =
    ∥∥₁_map stands (λ s. rw (has-append heard e) (goes kind facts said (has_disconnect heard) s))

pub passes : (v : Verdict) → v ≢ Ignored → ((n : ℕ) → v ≢ Refused n) → v ≡ Pass
passes Pass not_ignored not_refused = refl
passes Ignored not_ignored not_refused = absurd (not_ignored refl)
passes (Refused n) not_ignored not_refused = absurd (not_refused n refl)
