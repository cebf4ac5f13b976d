use Rattle.asgi_halves.proofs.{SessionReadLemmas.noted, SessionWords.given_by, SessionWords.has_read, SessionWords.turn_of_message, SessionWords.◌++◌}
use Rattle.asgi_halves.proofs.session_half.WebSocketHalf.read_one.Goals as goal

pub returns-clause-leads : goal.returns-clause-leads
returns-clause-leads g c scene read view x =
    let r = c.read_message-got.ensures in
    let got = c.read_message-got.result in
    let call = has_read g.L.Line g.L.Reads g.L.Counts g.L.Messages g.met.L.Line.state_is c.args.line.now c.read_message-got.new.self got r.told r.coming.0 r.counts r.same r.text in
    (view.arrived ++ given_by got, view.written, rw c.note.ensures.noted (noted x (g.L.Line.state c.read_message-got.new.self) c.requires.running c.requires.open got call))

pub returns-clause-turn : goal.returns-clause-turn
returns-clause-turn g c =
    let r = c.read_message-got.ensures in
    let got = c.read_message-got.result in
    turn_of_message ⊥ (g.L.Line.state c.args.line.now) (g.L.Line.state c.read_message-got.new.self) got c.note.result
    (has_read g.L.Line g.L.Reads g.L.Counts g.L.Messages g.met.L.Line.state_is c.args.line.now c.read_message-got.new.self got r.told r.coming.0 r.counts r.same r.text) c.note.ensures.turn
