-- The names that the proofs of the HTTP half, of the turns and of the wire share.
pub use Rattle.asgi_conversation.specs.{Persistence.StopsWithin, TaskEnds.has_ended, TaskEnds.is_faulty, declared.following.NextStep.NextStep, declared.input.InputEnd.InputEnd}
pub use Rattle.asgi_conversation.specs.{declared.report.Outcome.Outcome}
pub use Rattle.asgi_exchange.proofs.EventLemmas.{end_event, events_append}
pub use Rattle.asgi_pipes.proofs.PrefixLemmas.{prefix_trans}
pub use Rattle.asgi_exchange.specs.{Calls.IsViewOf, ExchangeTexts.input_of, Halves.ConnKeeps, Http.http, Items.end_of, Items.events_of, Steps.is_by_cut, Steps.is_by_input}
pub use Rattle.asgi_exchange.specs.{Views.Break, Views.ByCut, Views.ByInput, Views.ConnView, Views.added_by, Views.output, Views.taken_of}
pub use Rattle.asgi_halves.specs.Half.{BreaksAt, EndsWhere, HasGiven, Invariant, IsAt, IsCutShort, IsRunning, IsSettled, Scene, Talks, failures_at, known, requests_in, state_in}
pub use Rattle.asgi_halves.specs.Kinds.{HasGrown, IsCutOff, IsOpen, IsTurnOfRead, OfBytes, OfMessage, ReadsNone, TakesNone}
pub use Rattle.asgi_halves.specs.private.HalfSteps.{GaveNext, GivesAfter, HasAsked, HoldsFew, KeepsBesidesBody, ReadsAt, known_input}
pub use Rattle.asgi_halves.specs.{ReadAhead.ReadsAhead, declared.half.BodyProgress.BodyProgress, declared.half.HttpHalf.HttpHalf, declared.stage.Stage.Stage, declared.wire.Wire.Wire}
pub use Rattle.asgi_io.specs.{Counting.RoseBy, Writing.TriesWrites, declared.turns.Turn.Turn}
pub use Rattle.asgi_pipes.specs.declared.{ends.ConnEnd.Ghosts as ConnGhosts, items.OutItem.OutItem}
pub use Rattle.asgi_request.proofs.BodyOfLemmas.{body_is_read}
pub use Rattle.asgi_request.specs.{BodyOf.body_events, BodyOf.body_state, ChunkedBody.BodyState, ChunkedBody.complete, ChunkedBody.faulty, ChunkedBody.partial, Opened.HasOpened, Reading.Reading}
pub use Rattle.asgi_request.specs.{Reading.StandsFor, RequestEvents.ReadsBody, declared.next.Next.Next}
pub use Rattle.asgi_response.specs.{Response.response_text, Standing.StandsFor as StandsForText, declared.refusal.Input.Input}
pub use Rattle.asgi_run.proofs.{LeadsLemmas.leads_none, LeadsLemmas.leads_out, LeadsLemmas.leads_then, LineLemmas.session_is, LineLemmas.tries_front}
pub use Rattle.asgi_run.specs.Lines.{Transferred, piece_size}
pub use Rattle.asgi_types.specs.declared.{end_kind.EndKind.EndKind, facts.Facts.Facts, facts.Framing.Framing, incoming.Incoming.Incoming, limits.Limits.Limits, outgoing.Outgoing.Outgoing}
pub use Rattle.asgi_types.specs.declared.{scope.Scope.Scope}
pub use Rattle.asgi_ws.specs.{Lines.LineState, Sessions.is_read, declared.messages.Call.Call, declared.messages.Got.Got, declared.messages.Put.Put, declared.messages.SentMessage.SentMessage}
pub use Rattle.std.proofs.Common.{Bool, List, None, Option, Some, [], ap, append-nil, append_assoc, arith, drop, false, inl, inr, length, length-append, map, refl, rules, subst, sym, take, true, ℕ}
pub use Rattle.std.proofs.Common.{◌++◌, ◌+◌, ◌<◌, ◌∙◌, ◌∷◌, ◌≡◌, ◌≢◌, ◌≤◌}
pub use Rattle.std.proofs.lemmas.List.{take-append-drop}
pub use Rattle.std.specs.{Io.KnownBytes.Appends, List.count_by, Prelude.is_some, Prelude.not, Prelude.◌⊎◌}
pub use mathlib.Core.List.{IsPrefix}
