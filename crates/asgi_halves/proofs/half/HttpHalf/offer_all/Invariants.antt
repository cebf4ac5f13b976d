use Rattle.asgi_halves.proofs.HalfWords.{◌≡◌, ◌+◌, length, IsViewOf, HasGrown, TakesNone}
use Rattle.asgi_halves.specs.private.HalfSteps.{PreservesByEnd}
use Rattle.asgi_halves.proofs.half.HttpHalf.offer_all.Given as goal

abbrev pub invariant-loop-event : goal.invariant-loop-event
invariant-loop-event g l = record {
  leads : PreservesByEnd l.fn.self (IsViewOf g.C.ConnEnd l.fn.end) l.self (IsViewOf g.C.ConnEnd l.end);
  tag : (g.C.ConnEnd.tag l.end ≡ g.C.ConnEnd.tag l.fn.end) × (g.C.ConnEnd.ring l.end ≡ g.C.ConnEnd.ring l.fn.end);
  count : length (g.C.ConnEnd.offered l.end) ≡ length (g.C.ConnEnd.offered l.fn.end) + l._event;
  grown : HasGrown l.offered (g.C.ConnEnd.offered l.fn.end) (g.C.ConnEnd.offered l.end);
  taken : TakesNone g.C.ConnEnd l.fn.end l.end;
  limits : l.self.wire.limits ≡ l.fn.self.wire.limits;
}
