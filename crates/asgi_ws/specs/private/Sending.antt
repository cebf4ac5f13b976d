-- A send whose result is still open.
use Rattle.std.specs.Prelude.{List}
use Rattle.asgi_ws.specs.declared.calls.Sending.{Sending}
use Rattle.asgi_ws.specs.declared.messages.Call.{Call}
use Rattle.asgi_ws.specs.declared.messages.Put.{Put}
use Rattle.asgi_ws.specs.declared.messages.Put.TheVariants as put

-- the calls once the send has this result
abbrev pub calls_by : Sending → Put → List Call
calls_by sending put.Done = sending.done.items
calls_by sending put.Failed = sending.failed.items
calls_by sending put.NoMemory = sending.no_memory.items
