use Rattle.std.proofs.Common.{sym, append-nil}
use Rattle.asgi_ws.specs.declared.messages.Call.TheVariants as call
use Rattle.asgi_ws.specs.declared.messages.Got.TheVariants as got
use Rattle.asgi_ws.specs.Sessions.{read_by, sent_by}
use Rattle.asgi_ws.proofs.ListLemmas.{kept_after}
use Rattle.asgi_ws.proofs.lists.Lists.fail.Goals as goal

pub invariant_of-self : goal.invariant_of-self
invariant_of-self c =
    let read = call.Read got.Failed in
    record {
      read = kept_after read_by _ _ read _ _ c.args.self.now.read c.note_read.ensures.told (sym (append-nil c.args.self.now.received.items));
      sent = kept_after sent_by _ _ read _ _ c.args.self.now.sent c.note_read.ensures.told (sym (append-nil c.args.self.now.handed.items));
    }
