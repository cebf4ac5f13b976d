-- A conversation is one over HTTP alone, or one to the end of a session.
use Rattle.std.proofs.Common.{◌≡◌, ℕ, List, ◌++◌, ◌⊎◌, inl, inr, Option, Some, None}
use Rattle.asgi_types.specs.declared.limits.Limits.{Limits}
use Rattle.asgi_conversation.specs.declared.input.InputEnd.{InputEnd}
use Rattle.asgi_conversation.specs.declared.report.Report.{Report}
use Rattle.asgi_conversation.specs.Conversation.{LastExchange, NoneBegun, InRequest, InSession, begun, EndsIn, Conversation}
use Rattle.asgi_conversation.specs.ExchangeRecord.{ExchangeRecord}
use Rattle.asgi_conversation.specs.Kinds.{Ends, listed, Converses}
use Rattle.asgi_conversation.specs.Sessions.{SessionTraffic, no_traffic}
use Rattle.asgi_conversation.specs.Kinds.{ConversesInSession}

pub over_http : (limits : Limits) (end : InputEnd) (read : List ℕ) (exchanges : List ExchangeRecord) (traffic : SessionTraffic) (written : List ℕ) (report : Report)
    → Converses limits end read exchanges written report → traffic ≡ no_traffic → Conversation limits end read exchanges traffic written report
over_http limits end read exchanges traffic written report c quiet = by c.last c.in_order c.ends
  where
    of_last : (l : LastExchange) → exchanges ≡ c.answered ++ begun l → EndsIn l report.outcome limits end c.after traffic c.text → Conversation limits end read exchanges traffic written report
    of_last l in_order ends = record {
      answered = c.answered;
      last = l;
      in_order = in_order;
      after = c.after;
      each = c.each;
      text = c.text;
      ends = ends;
      written_is = c.written_is;
      counts = c.counts;
    }

    by : (l : Option ExchangeRecord) → exchanges ≡ c.answered ++ listed l → Ends report.outcome limits end c.after l c.text → Conversation limits end read exchanges traffic written report
    by None in_order ends = of_last NoneBegun in_order (ends, quiet)
    by (Some x) in_order ends = of_last (InRequest x) in_order (ends, quiet)

pub in_session : (limits : Limits) (end : InputEnd) (read : List ℕ) (exchanges : List ExchangeRecord) (traffic : SessionTraffic) (written : List ℕ) (report : Report)
    → ConversesInSession limits end read exchanges traffic written report → Conversation limits end read exchanges traffic written report
in_session limits end read exchanges traffic written report c = record {
  answered = c.answered;
  last = InSession c.session;
  in_order = c.in_order;
  after = c.after;
  each = c.each;
  text = c.text;
  ends = (c.serves, c.ends);
  written_is = c.written_is;
  counts = c.counts;
}

pub either : (limits : Limits) (end : InputEnd) (read : List ℕ) (exchanges : List ExchangeRecord) (traffic : SessionTraffic) (written : List ℕ) (report : Report)
    → Conversation limits end read exchanges traffic written report
    → (Converses limits end read exchanges written report × (traffic ≡ no_traffic)) ⊎ ConversesInSession limits end read exchanges traffic written report
either limits end read exchanges traffic written report c = by c.last c.in_order c.ends
  where
    of_http : (l : Option ExchangeRecord) → exchanges ≡ c.answered ++ listed l → Ends report.outcome limits end c.after l c.text → Converses limits end read exchanges written report
    of_http l in_order ends = record {
      answered = c.answered;
      last = l;
      in_order = in_order;
      after = c.after;
      each = c.each;
      text = c.text;
      ends = ends;
      written_is = c.written_is;
      counts = c.counts;
    }

    by : (l : LastExchange) → exchanges ≡ c.answered ++ begun l → EndsIn l report.outcome limits end c.after traffic c.text
        → (Converses limits end read exchanges written report × (traffic ≡ no_traffic)) ⊎ ConversesInSession limits end read exchanges traffic written report
    by NoneBegun in_order ends = inl (of_http None in_order ends.0, ends.1)
    by (InRequest x) in_order ends = inl (of_http (Some x) in_order ends.0, ends.1)
    by (InSession x) in_order ends = inr (record {
      answered = c.answered;
      session = x;
      in_order = in_order;
      after = c.after;
      each = c.each;
      text = c.text;
      serves = ends.0;
      ends = ends.1;
      written_is = c.written_is;
      counts = c.counts;
    })
