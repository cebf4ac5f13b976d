-- The verdict on an event after others: the first line of the table that holds.
use Rattle.std.specs.Prelude.{Bool, true, false, not, List, if◌then◌else◌}
use Rattle.asgi_types.specs.declared.scope.Kind.{Kind}
use Rattle.asgi_types.specs.declared.scope.Kind.TheVariants.{Http, WebSocket, Lifespan}
use Rattle.asgi_types.specs.declared.facts.Facts.{Facts}
use Rattle.asgi_types.specs.declared.incoming.Incoming.{Incoming}
use Rattle.asgi_types.specs.declared.incoming.Incoming.TheVariants.{HttpDisconnect, WsDisconnect}
use Rattle.asgi_types.specs.declared.outgoing.Outgoing.{Outgoing}
use Rattle.asgi_protocol.specs.declared.verdict.Violation.{Violation}
use Rattle.asgi_protocol.specs.declared.verdict.Violation.TheVariants as why
use Rattle.asgi_protocol.specs.declared.verdict.Verdict.{Verdict}
use Rattle.asgi_protocol.specs.declared.verdict.Verdict.TheVariants.{Pass, Ignored, Refused}
use Rattle.asgi_protocol.specs.Numbers.{number_of}
use Rattle.asgi_protocol.specs.Rules.{has_bad_status, has_bad_header, has_bad_code, has_bad_reason, has_bad_subprotocol, has_too_much_body, has_too_little_body}
use Rattle.asgi_protocol.specs.Shapes.{is_closed, is_of, goes_on}

-- which lines of the table hold
pub record Lines : Type 0 where
  pub closed : Bool
  pub disconnected : Bool
  pub wrong_scope : Bool
  pub out_of_order : Bool
  pub bad_status : Bool
  pub bad_header : Bool
  pub bad_code : Bool
  pub bad_reason : Bool
  pub bad_subprotocol : Bool
  pub too_much_body : Bool
  pub too_little_body : Bool

-- whether each line holds of an event after these, with or without a received disconnect
abbrev pub lines_on : Kind → Facts → List Outgoing → Bool → Outgoing → Lines
lines_on kind facts said heard event = record {
  closed = is_closed kind said;
  disconnected = heard;
  wrong_scope = not (is_of kind event);
  out_of_order = not (goes_on kind said event);
  bad_status = has_bad_status event;
  bad_header = has_bad_header event;
  bad_code = has_bad_code event;
  bad_reason = has_bad_reason event;
  bad_subprotocol = has_bad_subprotocol facts event;
  too_much_body = has_too_much_body facts said event;
  too_little_body = has_too_little_body facts said event;
}

abbrev pub refused : Violation → Verdict
refused reason = Refused (number_of reason)

-- after a whole response a server ignores what is sent (ASGI, Response Body)
abbrev pub verdict_on_closed : Kind → Verdict
verdict_on_closed Http = Ignored
verdict_on_closed WebSocket = refused why.Closed
verdict_on_closed Lifespan = refused why.Closed

-- the first line that holds, else the event passes
abbrev pub first_line : Kind → Lines → Verdict
first_line kind l =
    if l.closed then verdict_on_closed kind else (
    if l.disconnected then refused why.Disconnected else (
    if l.wrong_scope then refused why.WrongScope else (
    if l.out_of_order then refused why.OutOfOrder else (
    if l.bad_status then refused why.BadStatus else (
    if l.bad_header then refused why.BadHeader else (
    if l.bad_code then refused why.BadCode else (
    if l.bad_reason then refused why.BadReason else (
    if l.bad_subprotocol then refused why.BadSubprotocol else (
    if l.too_much_body then refused why.TooMuchBody else (
    if l.too_little_body then refused why.TooLittleBody else Pass))))))))))

abbrev pub verdict_on : Kind → Facts → List Outgoing → Bool → Outgoing → Verdict
verdict_on kind facts said heard event = first_line kind (lines_on kind facts said heard event)

abbrev pub is_disconnect : Incoming → Bool
is_disconnect HttpDisconnect = true
is_disconnect (WsDisconnect code reason) = true
is_disconnect _ = false
