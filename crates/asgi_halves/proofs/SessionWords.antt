-- The words that the lemmas of a session share.
pub use Rattle.asgi_conversation.proofs.NextLemmas.{next_on}
pub use Rattle.asgi_conversation.specs.{ExchangeRecord.Ending, ExchangeRecord.Saying, declared.following.NextStep.TheVariants.ConnectionEnds, declared.report.Outcome.Outcome}
pub use Rattle.asgi_conversation.specs.OutcomeClasses.{ByWrite, OutcomeClass, Unbegun, Uncut, class_of}
pub use Rattle.asgi_conversation.specs.Sessions.{IsNextOutput, StopsSession, after_session, handshake_of, open_outcome, session_outcome}
pub use Rattle.asgi_conversation.specs.declared.report.Outcome.TheVariants.{Finished, NoMemory, WriteFailed}
pub use Rattle.asgi_exchange.proofs.EventLemmas.{end_ended, end_event, events_append}
pub use Rattle.asgi_pipes.proofs.PrefixLemmas.{prefix_same, prefix_self, prefix_trans}
pub use Rattle.asgi_exchange.proofs.MessageLemmas.{close_is_heard, events_grow, none_is_heard}
pub use Rattle.asgi_exchange.proofs.SessionLemmas.{event_adds, web_socket_is_steady}
pub use Rattle.asgi_exchange.specs.{Calls.IsViewOf, Exchange.IsSteady, Halves.ConnKeeps, Halves.IsOffered, Items.end_of, Items.events_of, Steps.is_by_cut, Steps.is_by_input}
pub use Rattle.asgi_exchange.specs.Messages.{disconnect_of, events_in, has_close, session_disconnect, session_events}
pub use Rattle.asgi_exchange.specs.Session.{Byte, Handshake, Message, Output, accepted_session, ending_of, event_output, output_of, session_ending, session_output, with_session_event}
pub use Rattle.asgi_exchange.specs.Views.{Break, ByCut, ByInput, ConnView, added_by, empty_conn, output, taken_of}
pub use Rattle.asgi_halves.proofs.{HalfBodyLemmas.unbroken, HalfLemmas.HasPut, TalkLemmas.talk_begins, TalkLemmas.talk_read, TalkLemmas.talk_sent, TalkLemmas.talk_upgraded, TalkLemmas.talk_written}
pub use Rattle.asgi_halves.proofs.CallLemmas.{as_messages, as_text, closes, failures_by, none_after, open_closes, or_none, read_after}
pub use Rattle.asgi_halves.proofs.LineCallLemmas.{HasRead, HasSent, HasUpgraded, has_read, has_sent, has_upgraded, turn_of_message}
pub use Rattle.asgi_halves.specs.{Half.failures_at, Kinds.IsCutOff, Kinds.IsOpen, Traffic.drop_limit, Traffic.failures_of, Traffic.is_end, declared.stage.Stage.Stage, declared.wire.Wire.Wire}
pub use Rattle.asgi_halves.specs.WebSocketHalf.{CarriesOn, EndsByTask, Invariant, IsAccept, IsAt, IsCarried, IsCarrying, IsCutShort, IsCutShortAs, IsDenial, IsDue, IsOf, IsSilent, IsUnended, MayDrop}
pub use Rattle.asgi_halves.specs.WebSocketHalf.{PreservesByLine, SessionScene, Talks, answer_of, answer_to, answered_with, exchange_of, heard_by, is_over_at, is_over_with, known, lost_by, noted_by}
pub use Rattle.asgi_halves.specs.WebSocketHalf.{outcome_of, output_in, rest_after, rest_at, said_in, spare_at, spare_with, stage_of, talk_in, waiting}
pub use Rattle.asgi_halves.specs.declared.session_half.{Answered.Answered, Session.Session, Side.Side, Side.TheVariants.Application, Side.TheVariants.Client, WebSocketHalf.WebSocketHalf}
pub use Rattle.asgi_halves.specs.declared.session_half.Answer.{Answer, TheVariants.Accepted, TheVariants.Awaited}
pub use Rattle.asgi_halves.specs.declared.session_half.Answered.TheVariants.{Closed, Open, Unanswered}
pub use Rattle.asgi_halves.specs.declared.stage.Stage.TheVariants.{Cut, Over, Running}
pub use Rattle.asgi_pipes.specs.declared.{ends.ConnEnd.Ghosts as ConnGhosts, items.OutItem.OutItem, items.OutItem.TheVariants.Ended, items.OutItem.TheVariants.Event}
pub use Rattle.asgi_protocol.proofs.PassingLemmas.{is_passed}
pub use Rattle.asgi_protocol.proofs.RowLemmas.{both}
pub use Rattle.asgi_protocol.proofs.WordLemmas.{test_of_beginning}
pub use Rattle.asgi_protocol.specs.{Lawful.IsLawful, Passing.is_pass, Passing.passes, Stages.StandsFor as JudgeStandsFor, Verdicts.lines_on, Verdicts.verdict_on}
pub use Rattle.asgi_protocol.specs.Shapes.{begins_row, goes_on, is_close, is_closed, is_denial_part, is_empty, is_last_denial_part, is_message, is_of, is_row}
pub use Rattle.asgi_protocol.specs.declared.{judge.Judge.Judge, verdict.Verdict.Verdict}
pub use Rattle.asgi_response.proofs.DenialLemmas.{is_lawful_response}
pub use Rattle.asgi_response.proofs.LawfulLemmas.{lawful_is_accepted}
pub use Rattle.asgi_response.specs.{Denial.as_response, Denial.closing_facts, Denial.denial_progress, Denial.denial_text, Exchange.refusal_text, Progress.progress_in, Standing.Grows}
pub use Rattle.asgi_response.specs.{Standing.StandsForSession, declared.progress.Progress.Progress, declared.text.ResponseText.ResponseText}
pub use Rattle.asgi_run.proofs.LineLemmas.{tries_front}
pub use Rattle.asgi_types.specs.{Fields.HeaderField}
pub use Rattle.asgi_types.specs.declared.{end_kind.EndKind.EndKind, facts.Facts.Facts, outgoing.Outgoing.Outgoing, scope.Kind.TheVariants.Http, scope.Kind.TheVariants.WebSocket}
pub use Rattle.asgi_types.specs.declared.incoming.{Incoming.Incoming, Incoming.TheVariants.WsDisconnect, Incoming.TheVariants.WsReceive, Payload.Payload}
pub use Rattle.asgi_types.specs.declared.outgoing.Outgoing.TheVariants.{DenialBody, DenialStart, WsAccept, WsClose, WsSend}
pub use Rattle.asgi_ws.specs.{Handshake.accept_text, Lines.LineState, Sessions.given_by, Sessions.reads_after_close, Sessions.taken_by}
pub use Rattle.asgi_ws.specs.declared.messages.{Call.TheVariants.Read, Got.Got, Msg.Msg, Put.Put, SentMessage.SentMessage}
pub use Rattle.std.proofs.Common.{Bool, Err, Global, List, None, Ok, OnOk, Option, Result, Some, Vec, [], ap, append-nil, append_assoc, arith, drop, false, if◌then◌else◌, inl, inr, length, map, refl}
pub use Rattle.std.proofs.Common.{subst, sym, take, true, ℕ, ◌++◌, ◌+◌, ◌<◌, ◌∙◌, ◌∷◌, ◌≡◌, ◌≢◌, ◌≤◌, ◌⊎◌}
pub use Rattle.std.proofs.lemmas.List.{Sums.fold-append, append_cancel_left, length-map, map-append, take-append-drop, take-map}
pub use Rattle.std.specs.{Prelude.IsTrue, Prelude.is_some, Prelude.not, Prelude.◌&&◌, Prelude.◌↔◌, Result.is_err}
pub use mathlib.Core.List.{IsPrefix}
