-- The names of other modules that the proofs of this crate share.
pub use Rattle.std.proofs.Common.{Bool, IsSomeAnd, List, None, Option, Some, [], ap, append-nil, append_assoc, arith, false, inl, inr, map, refl, subst, sym, true, ℕ, ◌++◌, ◌+◌, ◌∙◌, ◌∷◌, ◌≡◌}
pub use Rattle.std.proofs.Common.{◌≢◌, ◌⊎◌, ◌<◌, ◌≤◌, ◌^◌, flat_map, if◌then◌else◌, is_some, length, take}
pub use Rattle.std.proofs.lemmas.List.Elements.{All-nil}
pub use Rattle.asgi_apps.specs.Promises.{Promise}
pub use Rattle.asgi_conn.specs.{Standing.BetweenRequests, Standing.EndsSo, Standing.IsServing, Standing.IsTallied, Places.Place, Places.Ended, Places.place_at, Places.place_of}
pub use Rattle.asgi_conn.specs.declared.tally.Tally.{Tally}
pub use Rattle.asgi_conn.specs.private.Loop.{IsAtRest, next_step_of}
pub use Rattle.asgi_conversation.proofs.RequestLemmas.{requests_join}
pub use Rattle.asgi_conversation.specs.{ExchangeRecord.Beginning, ExchangeRecord.Ending, ExchangeRecord.ExchangeRecord, ExchangeRecord.Saying, Exchanges.fault_of, Exchanges.requests_of}
pub use Rattle.asgi_conversation.specs.{Kinds.Converses, OutcomeClasses.IsLacking, OutcomeClasses.class_of, Persistence.CountsExchanges, Persistence.RefusesWith}
pub use Rattle.asgi_conn.specs.{Standing.ArePromisedIn, Standing.scope_in, declared.setting.Setting.Setting}
pub use Rattle.asgi_conversation.specs.{Promised.IsPromised, Sessions.handshake_of, SoFar.Between, SoFar.exchanged, TaskEnds.has_ended, declared.following.NextStep.NextStep}
pub use Rattle.asgi_conversation.specs.declared.{following.NextStep.TheVariants.ConnectionEnds, following.NextStep.TheVariants.NextRequest, input.InputEnd.InputEnd, report.Outcome.Outcome}
pub use Rattle.asgi_conversation.specs.declared.report.Outcome.TheVariants.{Finished, Idle, InputBroke, NoMemory, Refused}
pub use Rattle.asgi_conversation.specs.declared.report.Report.{Report}
pub use Rattle.asgi_exchange.specs.{HttpExchange.IsHttpExchange, Items.end_of, SessionExchange.IsSessionExchange, Steps.is_by_input, Views.World, Views.said_of, Views.taken_of}
pub use Rattle.asgi_halves.proofs.ReadAheadLemmas.{more_requests}
pub use Rattle.asgi_halves.specs.{Half.Scene, ReadAhead.ReadsAhead, Traffic.failures_of, WebSocketHalf.IsCarried, WebSocketHalf.OpensHandshake, WebSocketHalf.SessionScene}
pub use Rattle.asgi_halves.specs.{WebSocketHalf.session_of, WebSocketHalf.talk_in, declared.half.HttpHalf.HttpHalf, declared.session_half.WebSocketHalf.WebSocketHalf, declared.stage.Stage.Stage}
pub use Rattle.asgi_halves.specs.declared.{stage.Stage.TheVariants.Over, wire.Wire.Wire}
pub use Rattle.asgi_pipes.specs.declared.ends.{AppEnd.Ghosts as AppEnds, ConnEnd.Ghosts as ConnEnds}
pub use Rattle.asgi_request.specs.{Head.record_of, Opened.BeginsWithHandshake, Opened.HasClosed, Places.Reaches, Reading.AllGiven, Reading.IsRefused, Reading.Reading, Reading.StandsFor}
pub use Rattle.asgi_request.specs.{Scopes.scope_of, declared.next.Next.Next, declared.next.Next.TheVariants.Bad, declared.next.Next.TheVariants.Head}
pub use Rattle.asgi_run.specs.{Lines.Transferred, Lines.piece_size, Running.HasRun, Running.IsOpened, Running.OfEnd, declared.exchange_half.Half.Ghosts as AnyHalf}
pub use Rattle.asgi_run.specs.declared.runner.AppSide.{AppSide}
pub use Rattle.asgi_types.specs.{declared.end_kind.EndKind.EndKind, declared.facts.Facts.Facts, declared.facts.Framing.TheVariants.Upgrade, declared.incoming.Incoming.Incoming}
pub use Rattle.asgi_types.specs.declared.{limits.Limits.Limits, outgoing.Outgoing.Outgoing, scope.Kind.TheVariants.Http, scope.Kind.TheVariants.WebSocket, scope.Scope.Scope}
pub use Rattle.asgi_ws.specs.Lines.{LineState}
