-- What the state of an application's end keeps of what was received and sent, opened.
use Rattle.std.proofs.Math.Logic.{∥∥₁_map}
use Rattle.asgi_protocol.specs.Lawful.{IsLawful}
use Rattle.asgi_pipes.specs.declared.app_state.AppState.{AppState}
use Rattle.asgi_pipes.specs.Disconnects.{Hears}
use Rattle.asgi_pipes.proofs.HadLemmas.{hears_was, lawful_was}

pub heard_in : (s : AppState) → Hears s.kind s.said.items s.pulled.items s.heard.items
heard_in s = hears_was s.kind s.said.items s.pulled.items s.heard.items s.hears_is

pub lawful_in : (s : AppState) → IsLawful s.kind s.facts s.said.items
lawful_in s = lawful_was s.kind s.facts s.said.items (∥∥₁_map s.judged (λ stands. stands.lawful))
