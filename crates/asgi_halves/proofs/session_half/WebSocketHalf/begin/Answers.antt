use Rattle.asgi_halves.proofs.SessionWords.{None, [], append-nil, arith, drop_limit, empty_conn, exchange_of, output, refl, session_events, talk_begins}
use Rattle.asgi_halves.proofs.session_half.WebSocketHalf.begin.Goals as goal

pub returns-clause-begins : goal.returns-clause-begins
returns-clause-begins c scene now read o = record {
  fixed = o.fixed;
  text = [];
  leftover = None;
  handed = [];
  written = refl;
  breaks = λ e. cc;
  line = rw append-nil (talk_begins scene.start now c.args.wire.input read scene.before drop_limit (omega arith) o.moved);
  carried = (record { kept = refl; received = refl; over = refl; sent = refl }, o.frames);
  keeps = record { offered = (session_events [], refl); written = (output (exchange_of scene) empty_conn, refl) };
  stage = (record { uncut = refl; due = (refl, refl, refl); judged = c.new.ensures scene.facts; answered = refl; text = λ e. o.denial; written = refl; empty = o.empty }, refl);
}
