use Rattle.std.proofs.Common.{◌≡◌, ◌<◌, ◌++◌, Some, map, length}
use Rattle.crossbeam_channel.specs.Claims.{view, IsSeatAt}
use Rattle.crossbeam_channel.specs.Ends.{sends_on}
use Rattle.asgi_crew.specs.private.Channel.{hand}
use Rattle.asgi_crew.specs.Ran.{items_of}
use Rattle.asgi_crew.specs.Shared.{numbered}
use Rattle.asgi_crew.proofs.give.give_all.Given as goal

abbrev pub invariant-loop : goal.invariant-loop
invariant-loop g l = record {
  seat : IsSeatAt (sends_on l.to) l.pass;
  part : view l.pass ≡ hand (view l.fn.pass).parts 1 (view l.pass).given (view l.fn.pass).taken 0 (view l.fn.pass).ended;
  some : 0 < (view l.fn.pass).parts;
  answers : g.E.Asks.answers l.giver ≡ g.E.Asks.answers l.fn.giver ++ map Some (items_of (view l.pass).given);
  numbers : (view l.pass).given ≡ numbered 0 (items_of (view l.pass).given);
  count : length (view l.pass).given ≡ l.given;
  source : g.E.Asks.source l.giver ≡ g.E.Asks.source l.fn.giver;
}
