use Rattle.std.proofs.Common.{◌≡◌, ◌≢◌}
use Rattle.asgi_request.specs.declared.place.Place.TheVariants.{Start}
use Rattle.asgi_request.specs.Reading.{Keeps}
use Rattle.asgi_request.specs.private.Searches.{rank}
use Rattle.asgi_request.proofs.reader.RequestReader.advance.Given as goal

abbrev pub invariant-loop-self : goal.invariant-loop-self
invariant-loop-self l = record {
  keeps : Keeps l.fn.self l.self;
  inside : l.fn.self.place ≢ Start → l.self.place ≢ Start;
  limits : l.self.limits ≡ l.fn.self.limits;
  capacity : l.self.capacity ≡ l.fn.self.capacity;
}

abbrev pub decreases-loop-self : goal.decreases-loop-self
decreases-loop-self l = rank l.self.place
