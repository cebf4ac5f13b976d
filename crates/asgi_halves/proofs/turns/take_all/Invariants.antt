use Rattle.asgi_halves.proofs.HalfWords.{◌≡◌, ◌+◌, false, length, IsViewOf, HasGrown, ReadsNone}
use Rattle.asgi_run.specs.AnyHalf.{PreservesOn}
use Rattle.asgi_halves.proofs.turns.take_all.Given as goal

abbrev pub invariant-loop-item : goal.invariant-loop-item
invariant-loop-item g l = record {
  leads : PreservesOn g.K.ExchangeKind.stands (g.L.Line.state l.fn.line) l.fn.half (IsViewOf g.C.ConnEnd l.fn.end) (g.L.Line.state l.line) l.half (IsViewOf g.C.ConnEnd l.end);
  tag : (g.C.ConnEnd.tag l.end ≡ g.C.ConnEnd.tag l.fn.end) × (g.C.ConnEnd.ring l.end ≡ g.C.ConnEnd.ring l.fn.end);
  took : length (g.C.ConnEnd.got l.end) ≡ length (g.C.ConnEnd.got l.fn.end) + l._item;
  grown : HasGrown l.took (g.C.ConnEnd.got l.fn.end) (g.C.ConnEnd.got l.end);
  still : l.took ≡ false → g.L.Line.state l.line ≡ g.L.Line.state l.fn.line;
  unread : ReadsNone (g.L.Line.state l.fn.line) (g.L.Line.state l.line);
  offered : g.C.ConnEnd.offered l.end ≡ g.C.ConnEnd.offered l.fn.end;
}
