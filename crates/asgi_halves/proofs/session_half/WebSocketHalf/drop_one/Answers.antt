use Rattle.asgi_halves.proofs.{SessionReadLemmas.dropped, SessionWords.WebSocketHalf, SessionWords.ap, SessionWords.given_by, SessionWords.has_read, SessionWords.turn_of_message, SessionWords.◌++◌}
use Rattle.asgi_halves.proofs.session_half.WebSocketHalf.drop_one.Goals as goal

pub returns : goal.returns
returns g c =
    let was = g.L.Line.state c.args.line.now in
    let now = g.L.Line.state c.read_message-got.new.self in
    let r = c.read_message-got.ensures in
    let got = c.read_message-got.result in
    let same = c.note_dropped.ensures.dropped in
    let call = has_read g.L.Line g.L.Reads g.L.Counts g.L.Messages g.met.L.Line.state_is c.args.line.now c.read_message-got.new.self got r.told r.coming.0 r.counts r.same r.text in
    let turn = turn_of_message ⊥ was now got c.note_dropped.result call c.note_dropped.ensures.turn in
    record {
      leads = λ scene read view x.
          (view.arrived ++ given_by got, view.written, rw same (dropped x now c.requires.may c.args.side c.args.spare c.requires.closed c.requires.spare got call));
      stage = ap (λ (h : WebSocketHalf). h.stage) same;
      turn = turn;
      same = (got, call.told, same);
    }
